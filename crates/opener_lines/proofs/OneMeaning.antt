-- A line that asks for something has no fault.
use Rattle.std.proofs.Common.{ℕ, List}
use Rattle.grammar.proofs.TableLemmas.{of_same}
use Rattle.grammar.specs.Words.{fields_of}
use Rattle.grammar.specs.declared.fault.LineFault.{LineFault}
use Rattle.opener_lines.specs.Grammar.{LineAsks, AsksAfter, FaultAfter, HasRequestFault}
use Rattle.opener_lines.specs.Laws.{no_fault}
use Rattle.opener_lines.specs.declared.command.OpenerCommand.{OpenerCommand}

pub asked_no_fault : (line : List ℕ) (a : OpenerCommand) (f : LineFault) → LineAsks line a → HasRequestFault line f → ⊥
asked_no_fault line a f h k = of_same {C = λ a f. ⊥} AsksAfter FaultAfter no_fault (fields_of line) a f h k.1
