use Rattle.std.proofs.Common.{◌≡◌, ◌++◌, map}
use Rattle.std.specs.List.{flat_map, range_with_len}
use Rattle.picture_text.specs.Maps.{name_at}
use Rattle.picture_text.specs.Picture.{group_row, source_at}
use Rattle.picture_text.proofs.list.put_group_rows.Given as goal

-- the rows before this one
abbrev pub invariant-loop-index : goal.invariant-loop-index
invariant-loop-index l =
    l.out.items ≡ l.initial.out.items ++ flat_map (λ index. group_row (source_at l.listed index) (name_at (map (λ v. v.items) l.names) index) index) (range_with_len 0 l.index)
