use Rattle.std.proofs.Common.{◌≡◌, ◌+◌, ◌-◌, ◌*◌, ◌^◌, ◌<◌, ◌≤◌, arith, ◌%◌, ◌∙◌}
use Rattle.std.proofs.lemmas.Nat.{one_shl}
use Rattle.bit_code.proofs.SpelledNumbers.{spelled_rising, ones-lt}
use Rattle.bit_code.proofs.spelled.spell_rising.Goals as goal

pub cat_bits-requires-clause-first : goal.cat_bits-requires-clause-first
cat_bits-requires-clause-first c =
    let class = c.top_digit-size.result - c.args.classes.first in
    rw (one_shl class 64 (omega arith)) (ones-lt class c.head_len-head.result c.head_len-head.ensures.least)

pub returns-clause-bits : goal.returns-clause-bits
returns-clause-bits c =
    let first = c.args.classes.first in
    let last = c.args.classes.last in
    let size = c.top_digit-size.result in
    let class = size - first in
    let n = c.args.number + 2 ^ first in
    let digits : c.args.number + 1 * 2 ^ first % 2 ^ 32 ≡ n = omega (arith, one_shl first 32 (omega arith)) in
    let e : first + class ≡ size = omega (arith, c.top_digit-size.ensures.least) in
    let less : n - 2 ^ first ≡ c.args.number = omega arith in
    let low : 2 ^ size ≤ n = rw digits at c.top_digit-size.ensures.low in
    let high : n < 2 * 2 ^ size = rw digits at c.top_digit-size.ensures.high in
    let spelled = spelled_rising first class last n (omega (arith, c.top_digit-size.ensures.most)) (rw e low) (rw e high) in
    let parts = rw (one_shl class 64 (omega (arith, c.top_digit-size.ensures.most)), c.from-last_digits.ensures, c.front_digits.ensures.value, c.from.ensures, digits, c.head_len-head.ensures.len) at c.cat_bits.ensures.bits in
    rw c.head_len-head.ensures.len (parts ∙ (rw (e, less) at spelled))
