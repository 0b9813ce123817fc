use Rattle.std.proofs.Common.{◌≡◌, ◌+◌, ◌*◌, ◌%◌, ◌^◌, ◌≤◌, arith}
use Rattle.std.proofs.Math.Pow.{pow_mono}
use Rattle.std.proofs.lemmas.Nat.{one_shl}
use Rattle.bit_code.proofs.FrontNumbers.{read_rising}
use Rattle.bit_code.proofs.ahead.rising_ahead.Goals as goal

pub overflow_sub-before : goal.overflow_sub-before
overflow_sub-before c =
    let first = c.args.classes.first in
    let size = first + c.class_ahead-class.result in
    let rises : 2 ^ first ≤ 2 ^ size = pow_mono (omega arith) in
    rw (one_shl first 32 (omega arith), one_shl size 32 (omega (arith, c.class_ahead-class.ensures.most))) rises

pub overflow_add-result-2 : goal.overflow_add-result-2
overflow_add-result-2 c =
    let size = c.args.classes.first + c.class_ahead-class.result in
    let small : size ≤ 30 = omega (arith, c.class_ahead-class.ensures.most) in
    let most : 2 ^ size ≤ 2 ^ 30 = pow_mono small in
    let shifted : 1 * 2 ^ size % 2 ^ 32 ≡ 2 ^ size = one_shl size 32 (omega arith) in
    omega (arith, c.front_digits.ensures.small, shifted, most)

pub returns-clause-value : goal.returns-clause-value
returns-clause-value c = λ coder more h.
    let first = c.args.classes.first in
    let size = first + c.class_ahead-class.result in
    rw (one_shl size 32 (omega (arith, c.class_ahead-class.ensures.most)), one_shl first 32 (omega arith), c.front_digits.ensures.value, c.head_len-head.ensures.len)
    (read_rising c.args.window c.class_ahead-class.result c.args.classes.last first more c.class_ahead-class.ensures.class coder c.args.classes.least h.least h.sizes h.longest (omega (arith, c.head_len-head.ensures.len, c.head_len-head.ensures.most, c.class_ahead-class.ensures.most)))
