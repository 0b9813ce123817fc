use Rattle.std.proofs.Common.{arith, append-nil, refl}
use Rattle.bit_code.proofs.Bytes.{shift_more, same_rest, take_whole}
use Rattle.bit_code.proofs.FileBits.{file_bits_none}
use Rattle.bit_code.proofs.packing.shift_in.Goals as goal

pub loop-byte-init : goal.loop-byte-init
loop-byte-init c = record { bits = rw (file_bits_none, append-nil) refl; same = refl; within = c.requires.rest }

pub loop-byte-preserved : goal.loop-byte-preserved
loop-byte-preserved c =
    let l = c.loop-byte in
    record {
      bits = shift_more l.bytes c.args.bytes.now l.byte-index (omega arith) (omega arith) l.invariant.same c.args.rest_len c.args.rest l.left _ _ l.invariant.bits c.join_byte-first.ensures.bits;
      same = same_rest l.bytes c.args.bytes.now l.byte-index (omega arith) (omega arith) l.invariant.same _;
      within = c.join_byte-first.ensures.within;
    }

pub returns-clause-bits : goal.returns-clause-bits
returns-clause-bits c =
    let now = take_whole c.loop-byte.bytes c.loop-byte.byte-index (omega arith) in
    let all = take_whole c.args.bytes.now c.loop-byte.byte-index (omega arith) in
    rw (now, all) at c.loop-byte.invariant.bits
