use Rattle.asmap_vm.specs.Instructions.{kind_of, number_in}
use Rattle.asmap_vm.proofs.InstructionLaws.{next_there, both_there, instruction_at-kind_of}
use Rattle.asmap_vm.proofs.instruction.read_instruction.Goals as goal

pub returns-in_err-read-clause-only : goal.returns-in_err-read-clause-only
returns-in_err-read-clause-only c = λ i rest s.
    absurd (c.in_err-read.ensures.none (kind_of i) (number_in i) rest (both_there i _ rest s))

pub returns-clause-found : goal.returns-clause-found
returns-clause-found c = rw c.instruction_at.ensures (next_there _ _ _ _ c.in_ok-read.ensures.found)

pub returns-clause-only : goal.returns-clause-only
returns-clause-only c = λ i rest s.
    let only = c.in_ok-read.ensures.only (kind_of i) (number_in i) rest (both_there i _ rest s) in
    (rw (c.instruction_at.ensures, only.0, only.1) (instruction_at-kind_of i), only.2)
