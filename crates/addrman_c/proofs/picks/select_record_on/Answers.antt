use Rattle.std.proofs.Common.{refl, sym, subst, true≢false, Option, Some, None, MatchOption, IsSome}
use Rattle.peer_rec.specs.declared.rec.Rec.{Rec}
use Rattle.addrman_c.specs.Calls.{PickRecordCall}
use Rattle.addrman_c.proofs.picks.select_record_on.Goals as goal

known_found : (Called : Rec → Type 0) (Absent : Type 0) (found : Option Rec) → IsSome found → MatchOption found Absent Called → MatchOption found ⊥ Called
known_found Called Absent (Some r) some call = call
known_found Called Absent None is call = absurd (true≢false (sym is))

pub returns-in-One-clause-call : goal.returns-in-One-clause-call
returns-in-One-clause-call c =
    subst (λ picked. PickRecordCall picked c.args.tables.now c.find_on.result c.find_on.new.out) c.in-One.ensures.picked
    (known_found _ _ _ (c.in-One.ensures.known _ _ refl) c.find_on.ensures.call)
