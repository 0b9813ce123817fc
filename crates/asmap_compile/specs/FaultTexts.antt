-- The word for each reason why a table is not compiled.
use Rattle.std.specs.Prelude.{ℕ, List, codes}
use Rattle.asmap_compile.specs.declared.fault.CompileFault.{CompileFault}
use Rattle.asmap_compile.specs.declared.fault.CompileFault.TheVariants.{Empty, TooLarge, Memory}

-- The word of a fault.
abbrev pub compile_fault_text : CompileFault → List ℕ
compile_fault_text Empty = codes "empty"
compile_fault_text (TooLarge bits) = codes "code-too-large"
compile_fault_text Memory = codes "out of memory"
