use Rattle.raw_view.proofs.Bounds.{tables_by}
use Rattle.raw_view.proofs.raw_tables.RawTables.of.Goals as goal

pub returns : goal.returns
returns c =
    tables_by c.args.raw.now _ _ _ _ _ _ c.items-new_rows.ensures c.items-tried_rows.ensures c.in_ok-new_recs.ensures c.in_ok-tried_recs.ensures c.in_ok-new_slots.ensures c.in_ok-tried_slots.ensures
