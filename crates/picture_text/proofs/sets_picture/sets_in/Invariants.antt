use Rattle.std.proofs.Common.{◌≡◌, length, map}
use Rattle.std.specs.List.{range_with_len}
use Rattle.picture_text.specs.Picture.{set_numbers}
use Rattle.picture_text.proofs.sets_picture.sets_in.Given as goal

-- the numbers of the sets before this one
abbrev pub invariant-loop-index : goal.invariant-loop-index
invariant-loop-index l = record {
  numbers : l.sets.items ≡ map (set_numbers l.marks) (range_with_len 0 l.index);
  long : length l.sets.items ≡ l.index;
}
