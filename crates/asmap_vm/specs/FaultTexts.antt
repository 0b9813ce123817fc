-- The word for each reason why an asmap is refused.
use Rattle.std.specs.Prelude.{ℕ, List, codes}
use Rattle.asmap_vm.specs.declared.fault.CodeFault.{CodeFault}
use Rattle.asmap_vm.specs.declared.fault.CodeFault.TheVariants.{TooLarge, Insane}

-- The word of a fault.
abbrev pub code_fault_text : CodeFault → List ℕ
code_fault_text (TooLarge size) = codes "too-large"
code_fault_text Insane = codes "insane"
