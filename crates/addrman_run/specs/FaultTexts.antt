-- The text for each reason why peers.dat or prefixes.txt is refused.
use Rattle.std.specs.Prelude.{ℕ, List, codes}
use Rattle.asmap_compile.specs.FaultTexts.{compile_fault_text}
use Rattle.peers_file.specs.FaultTexts.{file_fault_text}
use Rattle.prefix_table.specs.FaultTexts.{table_fault_text}
use Rattle.addrman_run.specs.declared.peers_fault.PeersFault.{PeersFault}
use Rattle.addrman_run.specs.declared.peers_fault.PeersFault.TheVariants.{File, Duplicate}
use Rattle.addrman_run.specs.declared.tables_fault.TablesFault.{TablesFault}
use Rattle.addrman_run.specs.declared.tables_fault.TablesFault.TheVariants.{Rows, Compile}

-- The text of a reason why peers.dat is refused.
abbrev pub peers_fault_text : PeersFault → List ℕ
peers_fault_text (File fault) = file_fault_text fault
peers_fault_text (Duplicate index) = codes "duplicate"

-- The text of a reason why prefixes.txt is refused.
abbrev pub tables_fault_text : TablesFault → List ℕ
tables_fault_text (Rows fault) = table_fault_text fault
tables_fault_text (Compile fault) = compile_fault_text fault
