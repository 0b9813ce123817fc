-- What a line of an opener's log does.
use Rattle.std.specs.Prelude.{◌≡◌, ◌⊎◌, ℕ, List, []}
use Rattle.host_io.specs.Lines.{IsPassedOver}
use Rattle.log_lines.specs.declared.command.Command.{Command}
use Rattle.manager.specs.Machine.{Machine}
use Rattle.manager.specs.Step as manager
use Rattle.opener_lines.specs.Grammar.{LineAsks}
use Rattle.opener_lines.specs.State.{Answer, OpenerState, RequestStep}
use Rattle.opener_lines.specs.Texts.{answer_text}
use Rattle.opener_lines.specs.declared.command.OpenerCommand.{OpenerCommand}
use Rattle.opener_lines.specs.declared.command.OpenerCommand.TheVariants as request

-- a line that is passed over has no reply; one that asks for something has the answer to that
abbrev pub LineStep : OpenerState → List ℕ → List ℕ → OpenerState → Type 0
LineStep old line text new =
    (IsPassedOver line × (text ≡ []) × (new ≡ old))
    ⊎ ((asked : OpenerCommand) × (answer : Answer) × LineAsks line asked
    × RequestStep old asked answer new × (text ≡ answer_text answer))

-- What a line leaves that ran out of memory: the state before it, that after it, or a message of
-- which some of the first entries were taken.
abbrev pub OpenerLeavesPart : OpenerState → List ℕ → OpenerState → Type 0
OpenerLeavesPart old line new =
    (new ≡ old)
    ⊎ (((text : List ℕ) × LineStep old line text new)
    ⊎ ((asked : Command) × (machine : Machine) × LineAsks line (request.Machine asked)
    × manager.LeavesPart old.machine asked machine × (new ≡ record old { machine = machine })))
