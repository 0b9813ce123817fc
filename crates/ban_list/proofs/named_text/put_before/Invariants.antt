use Rattle.std.proofs.Common.{◌≡◌, ◌++◌, drop, map}
use Rattle.json.specs.Json.{Json}
use Rattle.ban_list.specs.NewFile.{with_list}
use Rattle.ban_list.specs.OldFile.{member_view, tokens_of}
use Rattle.ban_list.proofs.named_text.put_before.Given as goal

-- what was written, and the members from this one on, make what all make
abbrev pub invariant-loop-i : goal.invariant-loop-i
invariant-loop-i l = record {
  tokens : (list : Json) → l.writer.tokens ++ tokens_of (with_list list (map member_view (drop l.i l.members)))
      ≡ l.initial.writer.tokens ++ tokens_of (with_list list (map member_view l.members));
  before : l.writer.before ≡ l.initial.writer.before;
}
