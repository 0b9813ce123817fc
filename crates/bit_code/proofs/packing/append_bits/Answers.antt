use Rattle.std.proofs.Common.{◌≡◌, ◌/◌, arith, rules, sym, ◌∙◌}
use Rattle.bit_code.specs.Coder.{file_bits}
use Rattle.bit_code.proofs.Bytes.{push_byte, last_bits, no_digits}
use Rattle.bit_code.proofs.packing.append_bits.Goals as goal

pub loop-k-init : goal.loop-k-init
loop-k-init c = record { bits = sym (no_digits (file_bits c.args.bytes.now.items) c.args.bits); len = omega arith; capacity = search rules }

pub loop-k-preserved : goal.loop-k-preserved
loop-k-preserved c =
    let l = c.loop-k in
    record {
      bits = rw c.push_reserved.ensures.items (push_byte c.args.bytes.now.items l.bytes.items l.k c.args.bits l.invariant.bits);
      len = omega (arith, c.push_reserved.ensures.len, l.invariant.len);
      capacity = c.push_reserved.ensures.capacity ∙ l.invariant.capacity;
    }

pub returns-clause-bits : goal.returns-clause-bits
returns-clause-bits c =
    let whole : c.args.len / 8 ≡ c.loop-k.k = omega arith in
    last_bits c.args.bytes.now.items c.loop-k.bytes.items c.args.len c.args.bits c.low_bits.result (rw whole c.loop-k.invariant.bits) c.low_bits.ensures.bits
