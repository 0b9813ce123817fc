use Rattle.std.proofs.Common.{◌≡◌, ◌++◌, map}
use Rattle.std.specs.List.{flat_map, range_with_len}
use Rattle.picture_text.specs.Maps.{name_at, path_element}
use Rattle.picture_text.proofs.maps.put_paths.Given as goal

-- the paths before this one
abbrev pub invariant-loop-index : goal.invariant-loop-index
invariant-loop-index l = l.out.items ≡ l.initial.out.items ++ flat_map (λ index. path_element l.marks l.side (name_at (map (λ v. v.items) l.names) index) index) (range_with_len 0 l.index)
