use Rattle.std.proofs.Common.{subst}
use Rattle.slot_grid.specs.Masks.{IsMask}
use Rattle.table_machine.specs.State.{tried_rec_at}
use Rattle.tables.proofs.Masks.{mask-tried}
use Rattle.tables.proofs.tables.Tables.tried_mask.Goals as goal

pub returns-clause-mask : goal.returns-clause-mask
returns-clause-mask g c =
    let st = c.self.inside.store in
    subst (λ t. IsMask (tried_rec_at t c.args.bucket) c.tried_mask.result) c.self.view_is
    (mask-tried st.placer st.index st.grid st.next_number st.clashes.items st.last_good c.self.invariant.stored c.args.bucket c.tried_mask.result c.requires c.tried_mask.ensures.mask)
