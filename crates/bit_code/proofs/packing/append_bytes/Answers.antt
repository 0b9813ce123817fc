use Rattle.std.proofs.Common.{◌≡◌, length, arith, rules, ◌∙◌, append-nil}
use Rattle.std.proofs.Math.Seq.{take-length}
use Rattle.bit_code.proofs.Bytes.{join_more}
use Rattle.bit_code.proofs.FileBits.{file_bits_none}
use Rattle.bit_code.proofs.packing.append_bytes.Goals as goal

pub loop-byte-init : goal.loop-byte-init
loop-byte-init c = record { bits = rw (file_bits_none, append-nil) (search rules); within = c.requires.rest; len = omega arith; capacity = search rules }

pub loop-byte-preserved : goal.loop-byte-preserved
loop-byte-preserved c =
    let l = c.loop-byte in
    record {
      bits = rw c.push_reserved.ensures.items (join_more c.args.bytes.now.items l.bytes.items c.args.more.now c.args.rest_len c.args.rest l.left l.byte-index _ _ (omega arith) l.invariant.bits c.join_byte-first.ensures.bits);
      within = c.join_byte-first.ensures.within;
      len = omega (arith, c.push_reserved.ensures.len, l.invariant.len);
      capacity = c.push_reserved.ensures.capacity ∙ l.invariant.capacity;
    }

pub returns-clause-bits : goal.returns-clause-bits
returns-clause-bits c =
    let whole : c.loop-byte.byte-index ≡ length c.args.more.now = omega arith in
    let all = take-length c.args.more.now in
    rw (whole, all) at c.loop-byte.invariant.bits
