use Rattle.std.proofs.Common.{◌≡◌, ◌*◌, ◌≤◌, length, take}
use Rattle.std.specs.List.{flat_map}
use Rattle.peers_file.specs.Texts.{record_text}
use Rattle.peers_file.proofs.write.length_of.Given as goal

abbrev pub invariant-loop-rec : goal.invariant-loop-rec
invariant-loop-rec l = record {
  exact : l.length ≡ length (flat_map record_text (take l.rec-index l.recs));
  short : l.length ≤ 99 * l.rec-index;
}
