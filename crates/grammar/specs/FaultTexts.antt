-- The word for each fault of a line.
use Rattle.std.specs.Prelude.{ℕ, List, codes}
use Rattle.grammar.specs.declared.fault.LineFault.{LineFault}
use Rattle.grammar.specs.declared.fault.LineFault.TheVariants.{Word, Fields, Number, Peer, Hex, Words, Memory}

-- The word of a fault.
abbrev pub line_fault_text : LineFault → List ℕ
line_fault_text Word = codes "word"
line_fault_text Fields = codes "fields"
line_fault_text Number = codes "number"
line_fault_text Peer = codes "peer"
line_fault_text Hex = codes "hex"
line_fault_text Words = codes "words"
line_fault_text Memory = codes "out of memory"
