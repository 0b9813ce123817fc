-- The exit code of a run, and its line on standard error.
use Rattle.std.specs.Prelude.{ℕ, List, [], ◌++◌, codes, decimal}
use Rattle.host_io.specs.Name.{file_name_of}
use Rattle.anchors.specs.FaultTexts.{anchors_fault_text}
use Rattle.ban_list.specs.FaultTexts.{ban_fault_text}
use Rattle.grammar.specs.FaultTexts.{line_fault_text}
use Rattle.asmap_vm.specs.FaultTexts.{code_fault_text}
use Rattle.raw_file.specs.FaultTexts.{listing_fault_text}
use Rattle.addrman_run.specs.FaultTexts.{peers_fault_text, tables_fault_text}
use Rattle.addrman_run.specs.declared.status.Status.{Status}
use Rattle.addrman_run.specs.declared.status.Status.TheVariants.{PeersRefused}
use Rattle.addrman_run.specs.declared.status.Status.TheVariants.{Done, Usage, LogLine, AsmapRefused, TableRefused, ReadFault, WriteFault, DiskFault, LogTooLong, NoKey, Memory, LineTooLong, NoFile}
use Rattle.addrman_run.specs.declared.status.Status.TheVariants.{TooManyRows}
use Rattle.addrman_run.specs.declared.status.Status.TheVariants.{BansRefused, OldAsmapRefused, TooManyChanges, AnchorsRefused, NoAnchors, RawRefused}

-- the exit code of the process
abbrev pub code_of : Status → ℕ
code_of Done = 0
code_of Usage = 2
code_of (LogLine line fault) = 3
code_of (PeersRefused fault) = 4
code_of (AsmapRefused fault) = 5
code_of (TableRefused fault) = 6
code_of ReadFault = 7
code_of WriteFault = 8
code_of DiskFault = 9
code_of LogTooLong = 10
code_of NoKey = 11
code_of Memory = 12
code_of (LineTooLong line) = 13
code_of (NoFile name) = 14
code_of (BansRefused fault) = 16
code_of TooManyRows = 17
code_of (OldAsmapRefused fault) = 18
code_of TooManyChanges = 19
code_of (AnchorsRefused fault) = 21
code_of NoAnchors = 14
code_of (RawRefused fault) = 20

-- the reason, between the program's name and the line feed
abbrev pub reason_of : Status → List ℕ
reason_of Done = []
reason_of Usage = codes "bad usage"
reason_of (LogLine n fault) = codes "log line " ++ decimal n ++ codes ": " ++ line_fault_text fault
reason_of (PeersRefused fault) = codes "peers.dat refused: " ++ peers_fault_text fault
reason_of (AsmapRefused fault) = codes "asmap.dat refused: " ++ code_fault_text fault
reason_of (TableRefused fault) = codes "prefixes.txt refused: " ++ tables_fault_text fault
reason_of ReadFault = codes "log cannot be read"
reason_of WriteFault = codes "output cannot be written"
reason_of DiskFault = codes "folder failed"
reason_of LogTooLong = codes "log too long"
reason_of NoKey = codes "no peers.dat and no key"
reason_of Memory = codes "out of memory"
reason_of (LineTooLong n) = codes "log line " ++ decimal n ++ codes ": too long"
reason_of (NoFile name) = file_name_of name ++ codes " is missing"
reason_of (BansRefused fault) = codes "banlist.json refused: " ++ ban_fault_text fault
reason_of TooManyRows = codes "asmap.dat has more than 2000000 rows"
reason_of (OldAsmapRefused fault) = codes "asmap.old refused: " ++ code_fault_text fault
reason_of TooManyChanges = codes "asmap.old and asmap.dat differ in more than 2000000 prefixes"
reason_of (AnchorsRefused fault) = codes "anchors.dat refused: " ++ anchors_fault_text fault
reason_of NoAnchors = codes "anchors.dat is missing"
reason_of (RawRefused fault) = codes "listing refused: " ++ listing_fault_text fault

-- The line on standard error for a reason.
abbrev pub line_of : List ℕ → List ℕ
line_of reason = codes "addrman: " ++ reason ++ codes "\n"

-- the line on standard error, nothing for Done
abbrev pub status_text : Status → List ℕ
status_text Done = []
status_text other = line_of (reason_of other)
