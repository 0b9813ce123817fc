use Rattle.std.proofs.Common.{take}
use Rattle.std.specs.Prelude.{flat_map}
use Rattle.ban_list.specs.OldFile.{IsAppended, besides_tokens}
use Rattle.ban_list.proofs.named_text.put_besides.Given as goal

-- the members before this one
abbrev pub invariant-loop-member : goal.invariant-loop-member
invariant-loop-member l =
    IsAppended l.initial.writer l.writer (flat_map (besides_tokens l.part) (take l.member-index l.members))
