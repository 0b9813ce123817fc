use Rattle.std.proofs.Common.{◌≡◌, ◌+◌, ◌*◌, ◌%◌, ◌^◌, ◌<◌, ◌≤◌, arith, ap, ◌∙◌}
use Rattle.std.proofs.Math.Pow.{pow_mono}
use Rattle.bit_code.specs.Coder.{low_digits}
use Rattle.bit_code.proofs.LowDigits.{low_digits_cat}
use Rattle.bit_code.proofs.Bytes.{cat-lt}
use Rattle.bit_code.proofs.packing.cat_bits.Goals.{Start}
use Rattle.bit_code.proofs.packing.cat_bits.Goals as goal

below : (c : Start) → c.args.first + c.args.last * 2 ^ c.args.first_len < 2 ^ (c.args.first_len + c.args.last_len)
below c = cat-lt c.args.first_len c.args.last_len c.args.first c.args.last c.requires.first c.requires.last

fits : (c : Start) → c.args.first + c.args.last * 2 ^ c.args.first_len < 2 ^ 64
fits c =
    let few : c.args.first_len + c.args.last_len ≤ 64 = omega (arith, c.requires.few) in
    let most : 2 ^ (c.args.first_len + c.args.last_len) ≤ 2 ^ 64 = pow_mono few in
    omega (arith, below c, most)

whole : (c : Start) → c.args.last * 2 ^ c.args.first_len % 2 ^ 64 ≡ c.args.last * 2 ^ c.args.first_len
whole c = omega (arith, fits c)

pub overflow_add-result : goal.overflow_add-result
overflow_add-result c = rw (whole c) (omega (arith, fits c))

pub returns-clause-bits : goal.returns-clause-bits
returns-clause-bits c =
    let swap : c.args.first + c.args.last * 2 ^ c.args.first_len ≡ c.args.last * 2 ^ c.args.first_len + c.args.first = omega arith in
    rw (whole c) (ap (low_digits (c.args.first_len + c.args.last_len)) swap ∙ low_digits_cat c.args.first_len c.args.last_len c.args.last c.args.first c.requires.first)

pub returns-clause-within : goal.returns-clause-within
returns-clause-within c = rw (whole c) (below c)
