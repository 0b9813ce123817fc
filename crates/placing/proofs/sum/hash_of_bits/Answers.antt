use Rattle.std.proofs.Common.{◌*◌, ◌++◌, length, take, subst, ap, ◌∙◌, arith}
use Rattle.sha2.specs.Hashers.{Holds256}
use Rattle.sha2.specs.Sha256.{sha256}
use Rattle.wire_num.specs.CompactSize.{compact_size}
use Rattle.placing.specs.Places.{bit_bytes, double_sha256, sized}
use Rattle.placing.proofs.BitBytes.{bit_bytes-none, bit_bytes-more, bit_bytes-all}
use Rattle.placing.proofs.sum.hash_of_bits.Goals as goal

pub loop-i-init : goal.loop-i-init
loop-i-init c =
    let bytes = c.code-bytes.result.now in
    subst (Holds256 c.add_size.new.hasher) (bit_bytes-none (compact_size (8 * length bytes)) bytes) (c.add_size.ensures _ c.new-hasher.ensures)

pub loop-i-preserved : goal.loop-i-preserved
loop-i-preserved c =
    let bytes = c.code-bytes.result.now in
    let start = compact_size (8 * length bytes) in
    let more = ap (λ k. start ++ bit_bytes (take c.loop-i.i bytes) ++ k) c.bits_of.ensures ∙ bit_bytes-more start bytes c.loop-i.i c.loop-i-test.true in
    subst (Holds256 c.update.new.self) more (c.update.ensures _ c.loop-i.invariant)

pub returns : goal.returns
unfolding double_sha256
returns c =
    let bytes = c.code-bytes.result.now in
    let all = bit_bytes-all bytes c.loop-i.i (omega (arith, c.loop-i-test.false, c.loop-i.auto.i-end)) in
    let held = c.finalize.ensures (sized (bit_bytes bytes)) (subst (Holds256 c.loop-i.hasher) all c.loop-i.invariant) in
    c.digest.ensures ∙ ap sha256 (c.as_slice.ensures ∙ held) ∙ ap (λ b. sha256 (sha256 (sized (bit_bytes b)))) c.code-bytes.ensures
