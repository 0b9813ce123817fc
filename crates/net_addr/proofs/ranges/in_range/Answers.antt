use Rattle.std.proofs.Common.{sym, ◌∙◌, eq-eqb, arith}
use Rattle.net_addr.proofs.Bits.{in_range_other, in_range_whole, in_range_part}
use Rattle.net_addr.proofs.ranges.in_range.Goals as goal

pub returns-then-not-begins_with : goal.returns-then-not-begins_with
returns-then-not-begins_with c =
    sym (in_range_other c.args.bytes.now c.args.base.now c.args.bits (λ i. omega (arith, c.type_inv.bytes i)) (λ i. omega (arith, c.type_inv.base i)) c.requires.base_holds c.requires.bytes_hold (sym c.begins_with.ensures ∙ c.if-not-begins_with.true))

pub returns-then-rest-eq0 : goal.returns-then-rest-eq0
returns-then-rest-eq0 c =
    eq-eqb _ _ c.if-rest-eq0.true ∙ sym (in_range_whole c.args.bytes.now c.args.base.now c.args.bits (λ i. omega (arith, c.type_inv.bytes i)) (λ i. omega (arith, c.type_inv.base i)) c.requires.base_holds c.requires.bytes_hold (sym c.begins_with.ensures ∙ c.if-not-begins_with.false) c.if-rest-eq0.true)

pub returns-else-rest-eq0 : goal.returns-else-rest-eq0
returns-else-rest-eq0 c =
    sym (in_range_part c.args.bytes.now c.args.base.now c.args.bits (λ i. omega (arith, c.type_inv.bytes i)) (λ i. omega (arith, c.type_inv.base i)) c.requires.base_holds c.requires.bytes_hold (sym c.begins_with.ensures ∙ c.if-not-begins_with.false) (omega arith))
