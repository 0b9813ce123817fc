use Rattle.asmap_vm.proofs.PartLaws.{first_next}
use Rattle.asmap_vm.proofs.instruction.first_instruction.Goals as goal

pub unreachable-requires : goal.unreachable-requires
unreachable-requires c =
    let t = c.requires.tree in
    c.in_default.ensures.only _ _ (first_next t.0 t.1.0 _ t.1.1.0 t.1.1.1)

pub returns-clause-first : goal.returns-clause-first
returns-clause-first c = λ left t rest has. c.in-Some.ensures.only _ _ (first_next left t _ rest has)
