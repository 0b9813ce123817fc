use Rattle.std.proofs.Common.{◌≡◌, ◌/◌, reverse, arith, rules, sym, ◌∙◌}
use Rattle.bit_code.specs.Coder.{file_bits}
use Rattle.bit_code.proofs.Bytes.{push_front, first_bits, no_digits_front}
use Rattle.bit_code.proofs.packing.prepend_bits.Goals as goal

pub loop-k-init : goal.loop-k-init
loop-k-init c = record { bits = sym (no_digits_front (file_bits (reverse c.args.bytes.now.items)) _); len = omega arith; capacity = search rules }

pub loop-k-preserved : goal.loop-k-preserved
loop-k-preserved c =
    let l = c.loop-k in
    record {
      bits = rw c.push_reserved.ensures.items (push_front c.args.bytes.now.items l.bytes.items c.args.len l.k c.args.bits (omega arith) l.invariant.bits);
      len = omega (arith, c.push_reserved.ensures.len, l.invariant.len);
      capacity = c.push_reserved.ensures.capacity ∙ l.invariant.capacity;
    }

pub returns-clause-bits : goal.returns-clause-bits
returns-clause-bits c =
    let whole : c.args.len / 8 ≡ c.loop-k.k = omega arith in
    first_bits c.args.bytes.now.items c.loop-k.bytes.items c.args.len c.args.bits c.low_bits.result (rw whole c.loop-k.invariant.bits) c.low_bits.ensures.bits
