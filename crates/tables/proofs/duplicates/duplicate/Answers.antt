use Rattle.std.proofs.Common.{◌≡◌, ◌∙◌, [], ap, sym, subst, length, ℕ, Option}
use Rattle.std.specs.Prelude.{IfOk}
use Rattle.table_machine.specs.Restoring.{duplicate, duplicate_from}
use Rattle.tables.specs.Duplicates.{AreIn}
use Rattle.tables.proofs.Scans.{duplicate-rest, duplicate-some, none-in, none-is}
use Rattle.tables.proofs.duplicates.duplicate.Goals as goal

pub returns-then-is_some-clause-found : goal.returns-then-is_some-clause-found
returns-then-is_some-clause-found g c =
    let snap = c.args.snap.now in
    let empty : AreIn [] c.args.peers.now = subst (AreIn []) (sym c.requires) none-in in
    duplicate-some snap.new_recs snap.tried_recs c.in_ok-found.found
    (c.in_ok-found.ensures.found [] empty ∙ ap (duplicate_from [] 0) c.new_recs-new_recs.ensures.found) (sym c.is_some.ensures ∙ c.if-is_some.true)

pub returns-clause-found : goal.returns-clause-found
returns-clause-found g c =
    let snap = c.args.snap.now in
    let empty : AreIn [] c.args.peers.now = subst (AreIn []) (sym c.requires) none-in in
    let none = none-is c.in_ok-found.found (sym c.is_some.ensures ∙ c.if-is_some.false) in
    let new = c.new_recs-new_recs.ensures.found in
    let in-new = subst (λ rs. AreIn rs c.duplicate_from.new.peers) new (c.in_ok-found.ensures.all [] empty none) in
    let same : duplicate_from snap.new_recs (length c.new_recs-new_recs.result.now) c.tried_recs.result.now ≡ duplicate snap =
    (λ i. duplicate_from snap.new_recs (length (new i)) (c.tried_recs.ensures.found i))
    ∙ duplicate-rest snap.new_recs snap.tried_recs (sym none ∙ c.in_ok-found.ensures.found [] empty ∙ ap (duplicate_from [] 0) new) in
    subst (λ (o : Option ℕ). IfOk c.duplicate_from-2.result (λ at. at ≡ o)) same (c.duplicate_from-2.ensures.found snap.new_recs in-new)
