use Rattle.std.proofs.Common.{◌≡◌, ◌/◌, ◌^◌, ◌-◌, arith}
use Rattle.bit_code.specs.Coder.{low_digits, number_of}
use Rattle.bit_code.proofs.DigitLaws.{number_of-lt}
use Rattle.bit_code.proofs.LowDigits.{length-low_digits}
use Rattle.bit_code.proofs.OtherOrder.{reversed_word, front_of_word}
use Rattle.bit_code.proofs.reversal.front_digits.Goals as goal

value : (c : goal.After-from_be_bytes-whole) → c.from_be_bytes-whole.result / 2 ^ (32 - c.args.len) ≡ number_of (low_digits c.args.len c.args.bits)
value c =
    let n = c.args.bits in
    let first = rw c.to_le_bytes.ensures at c.reverse_byte.ensures in
    let second = rw c.to_le_bytes.ensures at c.reverse_byte-2.ensures in
    let third = rw c.to_le_bytes.ensures at c.reverse_byte-3.ensures in
    let fourth = rw c.to_le_bytes.ensures at c.reverse_byte-4.ensures in
    let whole : c.from_be_bytes-whole.result ≡ number_of (low_digits 32 n) = omega (arith, c.from_be_bytes-whole.ensures, first, second, third, fourth, reversed_word n) in
    rw whole (front_of_word n c.args.len c.requires.few)

pub returns-clause-value : goal.returns-clause-value
returns-clause-value c = value c

pub returns-clause-small : goal.returns-clause-small
returns-clause-small c = rw (value c) (rw length-low_digits at (number_of-lt (low_digits c.args.len c.args.bits)))
