use Rattle.std.proofs.Common.{◌≡◌, ◌≤◌, take}
use Rattle.picture_text.specs.Picture.{wide_of}
use Rattle.picture_text.proofs.picture.wide_of.Given as goal

abbrev pub invariant-loop-source : goal.invariant-loop-source
invariant-loop-source l = record {
  value : l.count ≡ wide_of (take l.source-index l.sources);
  few : l.count ≤ l.source-index;
}
