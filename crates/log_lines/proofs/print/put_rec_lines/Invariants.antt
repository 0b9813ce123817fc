use Rattle.std.proofs.Common.{◌≡◌, ◌++◌, take, codes}
use Rattle.std.specs.List.{flat_map}
use Rattle.log_lines.specs.Replies.{rec_text}
use Rattle.log_lines.proofs.print.put_rec_lines.Given as goal

-- the first records are written
abbrev pub invariant-loop-rec : goal.invariant-loop-rec
invariant-loop-rec l = l.out.items ≡ l.initial.out.items ++ flat_map (λ r. rec_text r ++ codes "\n") (take l.rec-index l.recs)
