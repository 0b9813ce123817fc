use Rattle.std.proofs.Common.{◌≡◌, ◌∷◌, [], ap, arith, append_assoc}
use Rattle.log_lines.proofs.Numbers.{numbers-first, numbers-more}
use Rattle.addr_limit.proofs.print.put_numbers.Goals as goal
use Rattle.addr_limit.proofs.print.put_numbers.Goals.{then-i-eq0, else-i-eq0}

pub loop-i-preserved : goal.loop-i-preserved
loop-i-preserved c =
    let xs = c.args.numbers.now in
    elim c.if-i-eq0.branch [
      | then-i-eq0 w ↦
          let comma : c.if-i-eq0.comma.now ≡ [] = ap (λ b. b.now) w.comma-is in
          let more = numbers-first xs c.loop-i.i w.if-i-eq0.true (omega arith) in
          simp (c.in_ok-put_number.ensures.ok, comma, c.loop-i.invariant, more, append_assoc)
      | else-i-eq0 w ↦
          let comma : c.if-i-eq0.comma.now ≡ 44 ∷ [] = ap (λ b. b.now) w.comma-is in
          let more = numbers-more xs c.loop-i.i (omega arith) (omega arith) in
          simp (c.in_ok-put_number.ensures.ok, comma, c.loop-i.invariant, more, append_assoc)
    ]
