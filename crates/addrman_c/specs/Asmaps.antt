-- What the calls that compile tables of prefixes, and turn asmaps back into them, return and write.
use Rattle.std.specs.Prelude.{◌≡◌, ◌⊎◌, ℕ, ◌<◌, ◌^◌, List, length, ⊤}
use Rattle.bit_code.specs.declared.bits.TheConstants.{MAX_ASMAP}
use Rattle.asmap_vm.specs.Code.{Tree, IsSaneFile, asn_of, code}
use Rattle.asmap_compile.specs.Compiled.{compiled}
use Rattle.asmap_compile.specs.declared.compiling.TheConstants.{MAX_BITS}
use Rattle.asmap_back.specs.Back.{rows_back}
use Rattle.prefix_table.specs.Print.{table_text}
use Rattle.prefix_table.specs.Rows.{best}
use Rattle.prefix_table.specs.Text.{IsTableText, IsFault}
use Rattle.prefix_table.specs.declared.read.TheConstants.{MAX_TEXT}
use Rattle.prefix_table.specs.declared.rows.Row.{Row}
use Rattle.prefix_table.specs.declared.rows.TheConstants.{MAX_ROWS}
use Rattle.prefix_table.specs.declared.fault.TableFault.{TableFault}
use Rattle.prefix_table.specs.declared.fault.TableFault.TheVariants as table
use Rattle.addrman_c.specs.declared.asmaps.NoAsmap.{NoAsmap}
use Rattle.addrman_c.specs.declared.asmaps.NoAsmap.TheVariants as asmap
use Rattle.addrman_c.specs.declared.asmaps.NoTable.{NoTable}
use Rattle.addrman_c.specs.declared.asmaps.NoTable.TheVariants as back
use Rattle.c_values.specs.declared.code.TheConstants.{MEMORY, REFUSED}
use Rattle.c_values.specs.declared.structs.AddrmanFault.{AddrmanFault}
use Rattle.c_values.specs.Faults.{fault_at}
use Rattle.c_values.specs.Values.{IsPut}

-- The asmap is that of a table with this text: it gives every address the number of the longest row
-- that covers it.
pub record IsCompiled (text file : List ℕ) : Type 0 where
  pub rows : List Row
  pub read : IsTableText text rows
  pub sane : IsSaneFile (compiled rows) file
  pub asn : (address : ℕ) → address < 2 ^ 128
      → asn_of (compiled rows) address ≡ best rows address

-- why a text is not compiled: memory, its size, the fault of its first line that has one, a table
-- without rows, or the size of the code
abbrev pub IsNoAsmap : List ℕ → NoAsmap → Type 0
IsNoAsmap text asmap.Memory = ⊤
IsNoAsmap text (asmap.LongText size) = (MAX_TEXT < length text) × (size ≡ length text)
IsNoAsmap text (asmap.Table fault) = IsFault text fault
IsNoAsmap text asmap.Empty = (rows : List Row) × IsTableText text rows × (length rows ≡ 0)
IsNoAsmap text (asmap.LongCode bits) = (rows : List Row) × IsTableText text rows
    × (MAX_BITS < bits) × (bits ≡ length (code (compiled rows)))

-- the number of a fault of a text in the header, and its line
abbrev pub table_fault : TableFault → AddrmanFault
table_fault (table.Form line) = fault_at 40 line
table_fault (table.Number line) = fault_at 41 line
table_fault (table.HostBits line) = fault_at 42 line
table_fault (table.Repeated line) = fault_at 43 line
table_fault table.TooMany = fault_at 3 0
table_fault (table.TooLarge size) = fault_at 19 size
table_fault table.Memory = fault_at 0 0

-- the code and the output that say why there is no asmap
abbrev pub TellsNoAsmap : NoAsmap → ℕ → AddrmanFault → Type 0
TellsNoAsmap asmap.Memory code fault = code ≡ MEMORY
TellsNoAsmap (asmap.LongText size) code fault = (code ≡ REFUSED) × (fault ≡ fault_at 19 size)
TellsNoAsmap (asmap.Table refused) code fault = (code ≡ REFUSED) × (fault ≡ table_fault refused)
TellsNoAsmap asmap.Empty code fault = (code ≡ REFUSED) × (fault ≡ fault_at 44 0)
TellsNoAsmap (asmap.LongCode bits) code fault = (code ≡ REFUSED) × (fault ≡ fault_at 45 bits)

-- a text is compiled, or the output is as it was
abbrev pub CompileCall : List ℕ → ℕ → List ℕ → List ℕ → ℕ → AddrmanFault → Type 0
CompileCall text code old new count fault =
    ((why : NoAsmap) × IsNoAsmap text why × TellsNoAsmap why code fault × (new ≡ old))
    ⊎ ((file : List ℕ) × IsCompiled text file × IsPut file old code count new)

-- The text is that of a table whose longest rows give every address the number that the asmap
-- gives.
pub record IsTextOf (file text : List ℕ) : Type 0 where
  pub tree : Tree
  pub sane : IsSaneFile tree file
  pub print : text ≡ table_text (rows_back tree)
  pub asn : (address : ℕ) → address < 2 ^ 128
      → best (rows_back tree) address ≡ asn_of tree address

-- why an asmap is not turned back: memory, bytes of no asmap, or too many rows
abbrev pub IsNoTable : List ℕ → NoTable → Type 0
IsNoTable file back.Memory = ⊤
IsNoTable file back.NotSane =
    (MAX_ASMAP < length file) ⊎ ((t : Tree) → IsSaneFile t file → ⊥)
IsNoTable file back.TooMany =
    (tree : Tree) × IsSaneFile tree file × (MAX_ROWS < length (rows_back tree))

-- The code and the fault that tell why an asmap is not turned back.
abbrev pub TellsNoTable : NoTable → ℕ → AddrmanFault → Type 0
TellsNoTable back.Memory code fault = code ≡ MEMORY
TellsNoTable back.NotSane code fault = (code ≡ REFUSED) × (fault ≡ fault_at 21 0)
TellsNoTable back.TooMany code fault = (code ≡ REFUSED) × (fault ≡ fault_at 3 0)

-- an asmap is turned back, or the output is as it was
abbrev pub BackCall : List ℕ → ℕ → List ℕ → List ℕ → ℕ → AddrmanFault → Type 0
BackCall file code old new count fault =
    ((why : NoTable) × IsNoTable file why × TellsNoTable why code fault × (new ≡ old))
    ⊎ ((text : List ℕ) × IsTextOf file text × IsPut text old code count new)
