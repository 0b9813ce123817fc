use Rattle.std.proofs.Common.{◌≡◌, ◌∷◌, [], None, Some, get_or, refl, sym, ap, ◌∙◌, subst}
use Rattle.std.proofs.lemmas.Slice.Eq.{strip_prefix_is}
use Rattle.std.proofs.lemmas.Bool.Decides.{Decides-eqb}
use Rattle.std.specs.Int.{w32, to_be_bytes}
use Rattle.net_addr.specs.OldForm.{address}
use Rattle.net_addr.specs.Inside.{HasLabel}
use Rattle.net_addr.specs.Text.{IsAddrText, IsBracketText, IsDottedText, IsHexOf}
use Rattle.net_addr.specs.Text.IsAddrText.{dotted, bracketed}
use Rattle.net_addr.specs.declared.net.Net.TheVariants.{Ipv4}
use Rattle.net_addr.proofs.Forms.{if_some, bracket_only, dotted_alone, dotted_only, labelled, digits_only}
use Rattle.net_addr.proofs.read.parse_addr.Goals as goal

pub returns-in-Some-clause-found : goal.returns-in-Some-clause-found
returns-in-Some-clause-found c = dotted (record {
  bits = c.in-Some.bits;
  bits_text = c.in-Some.ensures.found;
  address = c.ipv4.ensures.value ∙ ap (address Ipv4) c.to_be_bytes.ensures;
})

pub returns-in-Some-clause-only : goal.returns-in-Some-clause-only
returns-in-Some-clause-only c = λ a h.
    let four : IsDottedText c.args.text.now (address Ipv4 (to_be_bytes w32 c.in-Some.bits)) = record { bits = c.in-Some.bits; bits_text = c.in-Some.ensures.found; address = refl } in
    let text = dotted_alone c.args.text.now a (address Ipv4 (to_be_bytes w32 c.in-Some.bits)) four h in
    let found = c.in-Some.ensures.only text.bits text.bits_text in
    let same : c.in-Some.bits ≡ text.bits = cc in
    ap Some (c.ipv4.ensures.value ∙ ap (address Ipv4) (c.to_be_bytes.ensures ∙ ap (to_be_bytes w32) same) ∙ sym text.address)

pub returns-in-Some-strip_prefix-clause-found : goal.returns-in-Some-strip_prefix-clause-found
returns-in-Some-strip_prefix-clause-found c =
    let whole = strip_prefix_is Decides-eqb c.args.text.now (91 ∷ []) (Some c.in-Some-strip_prefix.inner) c.in-Some-strip_prefix.ensures.cases in
    if_some (IsBracketText (91 ∷ c.in-Some-strip_prefix.inner.now)) (IsAddrText c.args.text.now) (λ a h. bracketed (subst (λ t. IsBracketText t a) (sym whole) h)) c.parse_bracketed.result c.parse_bracketed.ensures.found

pub returns-in-Some-strip_prefix-clause-only : goal.returns-in-Some-strip_prefix-clause-only
returns-in-Some-strip_prefix-clause-only c = λ a h.
    let whole = strip_prefix_is Decides-eqb c.args.text.now (91 ∷ []) (Some c.in-Some-strip_prefix.inner) c.in-Some-strip_prefix.ensures.cases in
    c.parse_bracketed.ensures.only a (subst (λ t. IsBracketText t a) whole (bracket_only c.args.text.now a (ap (λ t. get_or t 0 0) whole) h))

pub returns-in_default-after_label-clause-only : goal.returns-in_default-after_label-clause-only
returns-in_default-after_label-clause-only c = λ a h.
    let text = dotted_only c.args.text.now a (record {
      bracket = strip_prefix_is Decides-eqb c.args.text.now (91 ∷ []) None c.in_default-strip_prefix.ensures.cases;
      label = c.in_default-after_label.ensures.none;
    }) h in
    let found = c.in_default.ensures.only text.bits text.bits_text in
    cc

pub from_hex-requires : goal.from_hex-requires
from_hex-requires c =
    let l = c.in-Some-after_label.ensures.network in
    record { network = (λ e. subst HasLabel e l, λ e. subst HasLabel e l) }

pub returns-clause-found : goal.returns-clause-found
returns-clause-found c =
    let n = c.in-Some-after_label.net in
    let digits = c.in-Some-after_label.digits.now in
    let l = c.in-Some-after_label.ensures in
    if_some (IsHexOf n digits) (IsAddrText c.args.text.now) (λ a h. labelled n c.args.text.now a l.network (record { digits = digits; spelled = l.cut; hex = h })) c.from_hex.result c.from_hex.ensures.found

pub returns-clause-only : goal.returns-clause-only
returns-clause-only c = λ a h.
    let l = c.in-Some-after_label.ensures in
    c.from_hex.ensures.only a (digits_only c.in-Some-after_label.net c.args.text.now c.in-Some-after_label.digits.now a l.network l.cut h)
