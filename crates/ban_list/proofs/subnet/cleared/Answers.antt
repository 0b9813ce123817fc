use Rattle.std.proofs.Common.{◌≡◌, [], ◌∷◌, ◌++◌, length, take, sym, ap, ◌∙◌, arith}
use Rattle.ban_list.specs.Subnet.{clear}
use Rattle.ban_list.proofs.Masks.{clear-step, clear-end}
use Rattle.ban_list.proofs.subnet.cleared.Goals as goal

pub loop-byte-preserved : goal.loop-byte-preserved
loop-byte-preserved c =
    let i = c.loop-byte.byte-index in
    let bytes = c.args.bytes.now in
    record {
      so_far = c.push.ensures.items ∙ (λ j. c.loop-byte.invariant.so_far j ++ c.first_bits.ensures j ∷ []) ∙ sym (clear-step c.args.len i c.loop-byte.left bytes c.loop-byte-test.true c.loop-byte.invariant.left);
      count = omega (arith, c.push.ensures.len, c.loop-byte.invariant.count);
      left = omega (arith, c.saturating_sub-left.ensures, c.loop-byte.invariant.left);
    }

pub returns : goal.returns
returns c =
    let whole : c.loop-byte.byte-index ≡ length c.args.bytes.now = omega arith in
    c.loop-byte.invariant.so_far ∙ ap (λ n. take n (clear c.args.len c.args.bytes.now)) whole ∙ clear-end c.args.len c.args.bytes.now
