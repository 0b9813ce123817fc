use Rattle.std.proofs.Common.{◌≡◌, ◌∷◌, [], None, Some, drop, sym, ap, ◌∙◌, subst}
use Rattle.std.proofs.lemmas.Slice.Eq.{strip_suffix_is}
use Rattle.std.proofs.lemmas.Bool.Decides.{Decides-eqb}
use Rattle.std.specs.Int.{w128, to_be_bytes}
use Rattle.net_addr.specs.OldForm.{from_v1}
use Rattle.net_addr.specs.Text.{IsIpv6Text}
use Rattle.net_addr.proofs.Texts.{last_byte}
use Rattle.net_addr.proofs.read.parse_bracketed.Goals as goal

pub returns-in_err-inner-clause-only : goal.returns-in_err-inner-clause-only
returns-in_err-inner-clause-only c = λ a h.
    absurd (strip_suffix_is Decides-eqb c.args.text.now (93 ∷ []) None c.in_err-inner.ensures.cases h.inner (ap (λ t. drop 1 t) h.spelled))

pub returns-in_err-bits-clause-only : goal.returns-in_err-bits-clause-only
returns-in_err-bits-clause-only c = λ a h.
    let whole = strip_suffix_is Decides-eqb c.args.text.now (93 ∷ []) (Some c.in_ok-inner.inner) c.in_ok-inner.ensures.cases in
    let inner = last_byte h.inner c.in_ok-inner.inner.now 93 (sym (ap (λ t. drop 1 t) h.spelled) ∙ whole) in
    let none = c.in_err-bits.ensures.only h.bits (subst (λ t. IsIpv6Text t h.bits) inner h.bits_text) in
    cc

pub returns-clause-found : goal.returns-clause-found
returns-clause-found c =
    let whole = strip_suffix_is Decides-eqb c.args.text.now (93 ∷ []) (Some c.in_ok-inner.inner) c.in_ok-inner.ensures.cases in
    record {
      inner = c.in_ok-inner.inner.now;
      bits = c.in_ok-bits.bits;
      spelled = ap (λ t. 91 ∷ t) whole;
      bits_text = c.in_ok-bits.ensures.found;
      address = c.from_v1.ensures.value ∙ ap from_v1 c.to_be_bytes.ensures;
    }

pub returns-clause-only : goal.returns-clause-only
returns-clause-only c = λ a h.
    let whole = strip_suffix_is Decides-eqb c.args.text.now (93 ∷ []) (Some c.in_ok-inner.inner) c.in_ok-inner.ensures.cases in
    let inner = last_byte h.inner c.in_ok-inner.inner.now 93 (sym (ap (λ t. drop 1 t) h.spelled) ∙ whole) in
    let found = c.in_ok-bits.ensures.only h.bits (subst (λ t. IsIpv6Text t h.bits) inner h.bits_text) in
    let same : c.in_ok-bits.bits ≡ h.bits = cc in
    ap Some (c.from_v1.ensures.value ∙ ap from_v1 (c.to_be_bytes.ensures ∙ ap (to_be_bytes w128) same) ∙ sym h.address)
