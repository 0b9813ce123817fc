-- The state of the outside of a program at one moment, as far as contracts know it.
use Rattle.std.specs.Prelude.{ℕ, List, Option}
use Rattle.host_io.specs.Past.{Past}
use Rattle.host_io.specs.declared.source.Source as source
use Rattle.host_io.specs.declared.folder.Folder as folder
use Rattle.host_io.specs.declared.sink.Sink as sink

-- The bytes left in the log, the bytes written to the output, the past of the folder, each if
-- contracts know it, and how often each of the three has failed.
pub record Outside : Type 0 where
  pub left : Option (List ℕ)
  pub written : Option (List ℕ)
  pub past : Option Past
  pub log_faults : ℕ
  pub out_faults : ℕ
  pub folder_faults : ℕ

-- The state of a log, a folder and an output.
abbrev pub outside : {L F K : Type 0} → source.Ghosts L → folder.Ghosts F → sink.Ghosts K →
    L → F → K → Outside
outside source folder sink log files out = record {
  left = source.left log;
  written = sink.written out;
  past = folder.past files;
  log_faults = source.faults log;
  out_faults = sink.faults out;
  folder_faults = folder.faults files;
}
