use Rattle.std.proofs.Common.{◌≡◌, List, ℕ, length, ap, ◌∙◌}
use Rattle.peer_rec.specs.declared.rec.Rec.{Rec}
use Rattle.table_groups.specs.Tally.{by_bytes}
use Rattle.table_risk.specs.Inside.{firsts_by}
use Rattle.table_risk.proofs.RowsOf.{all_fit, rows_are}
use Rattle.table_risk.proofs.rows.rows_of.Goals as goal

pub rows_in-requires-clause-new : goal.rows_in-requires-clause-new
rows_in-requires-clause-new g c = all_fit (g.T.TableView.view c.args.tables.now) _ _ c.in_ok-new.ensures

pub rows_in-requires-clause-tried : goal.rows_in-requires-clause-tried
rows_in-requires-clause-tried g c = all_fit (g.T.TableView.view c.args.tables.now) _ _ c.in_ok-tried.ensures

pub returns : goal.returns
returns g c =
    let view = g.T.TableView.view c.args.tables.now in
    let count : ℕ = length c.args.recs.now in
    let firsts : by_bytes c.in_ok-firsts.firsts.entries ≡ firsts_by view.places c.args.by count view.records =
    c.in_ok-firsts.ensures ∙ (λ i. firsts_by (c.places.ensures i) c.args.by count (c.requires i)) in
    rows_are view c.args.by c.args.now count _ _ c.in_ok-new.ensures c.in_ok-tried.ensures (ap (λ (recs : List Rec). length recs) c.requires)
    c.in_ok-firsts.firsts.entries firsts _ c.in_ok-rows_in.ensures
