-- Words of private contracts.
use Rattle.std.specs.Prelude.{◌≡◌, ◌⊎◌, ℕ, List, ⊤}
use Rattle.manager.specs.Machine.{Machine}
use Rattle.manager.specs.Step as manager
use Rattle.peer_open.specs.Groups.{Outbound}
use Rattle.peer_open.specs.declared.rules.OpenRules.{OpenRules}
use Rattle.placing.specs.Places.{Places}
use Rattle.opener_lines.specs.State.{Answer, OpenerState, RequestStep}
use Rattle.opener_lines.specs.Tries.{HasOutcome, ToKeep, counted, try_by}
use Rattle.opener_lines.specs.declared.tries.Found.{Found}
use Rattle.opener_lines.specs.declared.tries.Found.TheVariants as found
use Rattle.opener_lines.specs.declared.tries.Outcome.{Outcome}
use Rattle.opener_lines.specs.declared.tries.Outcome.TheVariants as outcome
use Rattle.opener_lines.specs.declared.command.OpenerCommand.{OpenerCommand}
use Rattle.opener_lines.specs.declared.command.OpenerCommand.TheVariants as request

-- a command that does not save, and a sample of at most 100 percent
abbrev pub CanBeDone : OpenerCommand → Type 0
CanBeDone (request.Machine command) = manager.SavesNothing command × manager.HasPercent command
CanBeDone other = ⊤

-- what a message leaves that ran out of memory
abbrev pub LeavesMessage : OpenerState → OpenerCommand → OpenerState → Type 0
LeavesMessage old (request.Machine command) new =
    (machine : Machine) × manager.LeavesPart old.machine command machine
    × (new ≡ record old { machine = machine })
LeavesMessage old other new = ⊥

-- what a request leaves that ran out of memory
abbrev pub Leaves : OpenerState → OpenerCommand → OpenerState → Type 0
Leaves old asked new =
    (new ≡ old)
    ⊎ (((answer : Answer) × RequestStep old asked answer new) ⊎ LeavesMessage old asked new)

-- what the tries of an outbound connection come to, without the group of the peer
abbrev pub outcome_of : Found → Outcome
outcome_of (found.Taken peer its_group tries) = outcome.Taken peer tries
outcome_of found.Nothing = outcome.Nothing
outcome_of found.GaveUp = outcome.GaveUp

-- the group is the one that the peer counts in, if there is one
abbrev pub HasGroup : OpenRules → Places → Found → Type 0
HasGroup rules places (found.Taken peer its_group tries) =
    its_group.items ≡ counted rules places peer
HasGroup rules places other = ⊤

-- what the tries of an outbound connection come to
pub record Finds (rules : OpenRules) (m : Machine) (open_peers : List Outbound)
    (seed : ℕ) (found : Found) : Type 0 where
  pub outcome : HasOutcome (try_by rules m open_peers ToKeep seed) (outcome_of found)
  pub group : HasGroup rules m.tables.places found
