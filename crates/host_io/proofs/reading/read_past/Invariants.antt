use Rattle.std.proofs.Common.{◌≡◌, ◌+◌, ◌-◌, ◌≤◌, vec_len, take, IfSome}
use Rattle.host_io.specs.declared.reading.TheConstants.{PIECE}
use Rattle.host_io.specs.Calls.{IsReadOf, OnlyCalls}
use Rattle.host_io.specs.Files.{known_bytes}
use Rattle.host_io.specs.Past.{files_of}
use Rattle.host_io.proofs.reading.read_past.Given as goal

-- the text has the first bytes of the file
abbrev pub invariant-loop-name : goal.invariant-loop-name
invariant-loop-name g l = record {
  room : vec_len l.piece ≡ PIECE;
  within : vec_len l.text ≤ l.limit + 1;
  same : g.F.Folder.past l.folder ≡ g.F.Folder.past l.fn.folder;
  never_falls : g.F.Folder.faults l.fn.folder ≤ g.F.Folder.faults l.folder;
  asks : OnlyCalls (IsReadOf l.name) (g.F.Folder.calls l.fn.folder) (g.F.Folder.calls l.folder);
  found : IfSome (known_bytes (files_of (g.F.Folder.past l.fn.folder)) l.name) (λ bytes.
      l.text.items ≡ take (vec_len l.text) bytes);
}

abbrev pub decreases-loop-name : goal.decreases-loop-name
decreases-loop-name g l = (l.limit + 1) - vec_len l.text
