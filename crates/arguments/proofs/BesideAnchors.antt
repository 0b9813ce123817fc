-- `--anchors`, which no other arguments after `show` begin with.
use Rattle.std.proofs.Common.{◌≡◌, ◌≢◌, ℕ, Bool, true, false, List, [], ◌∷◌, ◌++◌, codes, get_or, Option, Some, None, inl, inr, ap, sym, arith, ◌∙◌}
use Rattle.std.proofs.lemmas.Option.{none-some}
use Rattle.peers_file.specs.declared.chain.Chain.{Chain}
use Rattle.placing.specs.declared.sum.SumRule.{SumRule}
use Rattle.placing.specs.declared.sum.SumRule.TheVariants.{Bytes, Bits}
use Rattle.arguments.specs.Options.{HasRule, IsAfterAnchors, IsFileOptions, IsListingOptions, IsNet}
use Rattle.arguments.specs.Table.{HasNoValues, Listing, Reads, TheAnchors, TheListing, Values}
use Rattle.arguments.specs.declared.chain_option.ChainOption.TheVariants.{Net, Magic}
use Rattle.arguments.specs.declared.file_kind.FileKind.{FileKind}
use Rattle.arguments.proofs.Choosing.{one_after_word, third, third_is, third_of_none}
use Rattle.arguments.proofs.WithCore.{one_listing_kind}

-- the third byte of the first word
abbrev start : List (List ℕ) → ℕ
start texts = get_or (get_or texts 0 []) 2 0

of_anchors : (texts rest : List (List ℕ)) → texts ≡ codes "--anchors" ∷ rest → start texts ≡ 97
of_anchors texts rest is = ap start is

of_net : (texts : List (List ℕ)) (chain : Chain) → IsNet texts chain → start texts ≢ 97
unfolding third
of_net texts chain (inl none) = λ is. omega (arith, is, third_of_none texts none.0)
of_net texts chain (inr (Net, value, means, option)) = λ is. omega (arith, is, third_is Net value [] texts option)
of_net texts chain (inr (Magic, value, means, option)) = λ is. omega (arith, is, third_is Magic value [] texts option)

of_last : (texts left : List (List ℕ)) (chain : Chain) → texts ≡ left ++ codes "--no-key" ∷ [] → IsNet left chain → start texts ≢ 97
of_last texts [] chain last net = λ is. omega (arith, is, ap start last)
of_last texts (word ∷ left) chain last net = λ is. of_net (word ∷ left) chain net (sym (ap start last) ∙ is)

of_listing : (keyed : Bool) (texts : List (List ℕ)) (chain : Chain) → IsListingOptions keyed texts chain → start texts ≢ 97
of_listing true texts chain net = of_net texts chain net
of_listing false texts chain (left, inl first, net) = λ is. omega (arith, is, ap start first)
of_listing false texts chain (left, inr last, net) = of_last texts left chain last net

of_rule : (rule : SumRule) (keyed : Bool) (texts rest : List (List ℕ)) (chain : Chain) → HasRule rule rest texts → IsListingOptions keyed rest chain → start texts ≢ 97
of_rule Bytes keyed texts rest chain has listing = λ is. of_listing keyed rest chain listing (sym (ap start has) ∙ is)
of_rule Bits keyed texts rest chain has listing = λ is. omega (arith, is, ap start has)

apart : (texts : List (List ℕ)) (keyed : Bool) (kind : FileKind) (chain : Chain) → IsFileOptions (IsListingOptions keyed) texts kind → IsAfterAnchors texts chain → ⊥
apart texts keyed kind chain (rest, has, listing) (left, first, net) = of_rule kind.rule keyed texts rest kind.chain has listing (of_anchors texts left first)

pub one_show : (texts : List (List ℕ)) (v w : Values) → Reads Listing texts v → Reads Listing texts w → v ≡ w
one_show texts v w (inl h) (inl k) =
    let same = one_listing_kind texts h.0 k.0 h.1 k.1 h.3 k.3 in
    h.2 ∙ (λ i. TheListing (same.0 i) (same.1 i)) ∙ sym k.2
one_show texts v w (inl h) (inr k) = absurd (apart texts h.0 h.1 k.0 h.3 k.2)
one_show texts v w (inr h) (inl k) = absurd (apart texts k.0 k.1 h.0 k.3 h.2)
one_show texts v w (inr h) (inr k) = h.1 ∙ ap TheAnchors (one_after_word (codes "--anchors") texts h.0 k.0 h.2 k.2) ∙ sym k.1

-- arguments that ask for no anchors and list no peers.dat
pub no_show : (texts : List (List ℕ)) (r : Option Chain) → r ≡ None → ((chain : Chain) → IsAfterAnchors texts chain → r ≡ Some chain) →
    ((keyed : Bool) (kind : FileKind) → IsFileOptions (IsListingOptions keyed) texts kind → ⊥) → HasNoValues Listing texts
unfolding HasNoValues
no_show texts r is only none v (inl h) = none h.0 h.1 h.3
no_show texts r is only none v (inr h) = none-some h.0 (sym is ∙ only h.0 h.2)
