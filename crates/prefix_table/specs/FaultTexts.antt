-- The text for each fault of a table's text.
use Rattle.std.specs.Prelude.{ℕ, List, ◌++◌, codes, decimal}
use Rattle.prefix_table.specs.declared.fault.TableFault.{TableFault}
use Rattle.prefix_table.specs.declared.fault.TableFault.TheVariants.{Form, Number, HostBits, Repeated, TooMany, TooLarge, Memory}

-- a word, and the line that it is about
abbrev pub at_line : List ℕ → ℕ → List ℕ
at_line word n = word ++ codes " at line " ++ decimal n

-- The text of a fault: its word, and the line that it is about.
abbrev pub table_fault_text : TableFault → List ℕ
table_fault_text (Form n) = at_line (codes "form") n
table_fault_text (Number n) = at_line (codes "number") n
table_fault_text (HostBits n) = at_line (codes "host-bits") n
table_fault_text (Repeated n) = at_line (codes "repeated") n
table_fault_text TooMany = codes "too-many"
table_fault_text (TooLarge size) = codes "too-large"
table_fault_text Memory = codes "out of memory"
