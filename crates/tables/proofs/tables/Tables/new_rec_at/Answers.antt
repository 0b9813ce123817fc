use Rattle.std.proofs.Common.{ap, sym, ◌∙◌}
use Rattle.table_machine.specs.State.{new_rec_at}
use Rattle.tables.proofs.Changes.{occupant-none, occupant-some}
use Rattle.tables.proofs.tables.Tables.new_rec_at.Goals as goal

pub returns-in-Some-clause-found : goal.returns-in-Some-clause-found
returns-in-Some-clause-found g c =
    let st = c.self.inside.store in
    sym (occupant-some st.placer st.index st.grid st.next_number st.clashes.items st.last_good c.self.invariant.stored
    c.args.bucket c.args.slot c.in-Some.id c.get.result.now c.requires.bucket c.requires.slot (sym c.new_at.ensures.id ∙ c.in-Some.is) c.get.ensures.found)
    ∙ ap (λ t. new_rec_at t c.args.bucket c.args.slot) c.self.view_is

pub returns-in-None-clause-found : goal.returns-in-None-clause-found
returns-in-None-clause-found g c =
    let st = c.self.inside.store in
    sym (occupant-none st.placer st.index st.grid st.next_number st.clashes.items st.last_good c.self.invariant.stored
    c.args.bucket c.args.slot c.requires.bucket c.requires.slot (sym c.new_at.ensures.id ∙ c.in-None.is))
    ∙ ap (λ t. new_rec_at t c.args.bucket c.args.slot) c.self.view_is
