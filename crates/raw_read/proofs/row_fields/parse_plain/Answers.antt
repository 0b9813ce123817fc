use Rattle.std.proofs.Common.{◌≡◌, Some, sym, ap, ◌∙◌}
use Rattle.std.specs.Int.{w128, to_be_bytes}
use Rattle.net_addr.specs.OldForm.{from_v1}
use Rattle.raw_read.proofs.row_fields.parse_plain.Goals as goal

pub returns-in_err-bits-clause-only : goal.returns-in_err-bits-clause-only
returns-in_err-bits-clause-only c = λ a h.
    let none = c.in_err-bits.ensures.only h.bits h.bits_text in
    cc

pub returns-clause-found : goal.returns-clause-found
returns-clause-found c = record {
  bits = c.in_ok-bits.bits;
  bits_text = c.in_ok-bits.ensures.found;
  address = c.from_v1.ensures.value ∙ ap from_v1 c.to_be_bytes.ensures;
}

pub returns-clause-only : goal.returns-clause-only
returns-clause-only c = λ a h.
    let found = c.in_ok-bits.ensures.only h.bits h.bits_text in
    let same : c.in_ok-bits.bits ≡ h.bits = cc in
    ap Some (c.from_v1.ensures.value ∙ ap from_v1 (c.to_be_bytes.ensures ∙ ap (to_be_bytes w128) same) ∙ sym h.address)
