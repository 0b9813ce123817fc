use Rattle.std.proofs.Common.{List, IfOk, subst}
use Rattle.ban_list.specs.declared.ban.Ban.{Ban}
use Rattle.node_calls.specs.Chosen.{IsChosenAdded}
use Rattle.node_calls.proofs.adding_chosen.take_chosen.Goals as goal

-- the list of no bans
pub returns-clause-added : goal.returns-clause-added
returns-clause-added g c =
    let a = c.args in
    subst (λ (bans : List Ban). IfOk c.take_unbanned.result (λ added. IsChosenAdded a.form a.payload.now a.max a.services a.nets bans a.tables.now a.now a.source.now a.words.now added c.take_unbanned.new.tables))
    c.make-none.ensures c.take_unbanned.ensures.added
