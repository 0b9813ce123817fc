use Rattle.std.proofs.Common.{map, take}
use Rattle.std.specs.Prelude.{flat_map}
use Rattle.json.specs.Value.{value_view}
use Rattle.ban_list.specs.OldFile.{IsAppended, elements_with, other_tokens}
use Rattle.ban_list.proofs.named_text.put_others.Given as goal

-- the elements before this one
abbrev pub invariant-loop-i : goal.invariant-loop-i
invariant-loop-i l =
    IsAppended l.initial.writer l.writer (flat_map other_tokens (take l.i (elements_with (map value_view l.items) l.subnets)))
