use Rattle.std.proofs.Common.{◌≡◌, ◌++◌, take}
use Rattle.log_lines.specs.Replies.{numbers_text}
use Rattle.addr_limit.proofs.print.put_numbers.Given as goal

-- the first numbers are written
abbrev pub invariant-loop-i : goal.invariant-loop-i
invariant-loop-i l = l.out.items ≡ l.initial.out.items ++ numbers_text (take l.i l.numbers)
