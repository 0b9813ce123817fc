use Rattle.std.proofs.Common.{◌≡◌, ◌*◌, length, ap, sym, ◌∙◌, eq-eqb}
use Rattle.std.specs.Prelude.{◌&&◌, min}
use Rattle.net_addr.specs.Address.{net_number}
use Rattle.net_addr.specs.Ranges.{range, in_range}
use Rattle.ban_list.proofs.Covers.{in_range-within}
use Rattle.ban_list.proofs.subnet.Subnet.covers.Goals as goal

pub returns-then-number : goal.returns-then-number
returns-then-number c =
    let s = c.args.self.now in
    let a = c.args.addr.now in
    let base = c.bytes-base.ensures.value in
    let len : c.min-len.result ≡ min s.len (8 * length s.addr.bytes) = c.min-len.ensures ∙ (λ i. min (c.from.ensures i) (8 * length (base i))) in
    let whole = c.is_in_range.ensures ∙ ap (λ xs. in_range (range xs c.min-len.result) a.bytes) base ∙ in_range-within a.bytes s.addr.bytes s.len c.min-len.result len in
    let net = sym (c.number.ensures ∙ ap net_number c.net.ensures) ∙ c.if-number.true ∙ (c.number-2.ensures ∙ ap net_number c.net-2.ensures) in
    whole ∙ ap (λ b. b && in_range (range s.addr.bytes s.len) a.bytes) (sym (eq-eqb _ _ net))
