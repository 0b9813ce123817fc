-- A text of a kind has one value.
use Rattle.std.proofs.Common.{◌≡◌, ◌≢◌, ℕ, Bool, true, false, List, codes, Ok, refl, sym, ap, ◌∙◌, arith, inl, inr}
use Rattle.std.proofs.lemmas.Fmt.{decimal_injective}
use Rattle.hex.specs.Hex.{decode_of}
use Rattle.net_addr.proofs.OneReading.{one_address, one_peer, same_ok}
use Rattle.grammar.specs.Fields.{Kind, Number, OfAddr, OfPeer, Hex, Random, Either, Nets, Classes, Value, TheNumber, TheAddr, ThePeer, TheBytes, TheWords, TheChoice, TheNets, Means, IsHex, IsDefinite, choice}
use Rattle.grammar.proofs.NameLemmas.{one_nets, one_classes}
use Rattle.grammar.proofs.WordLemmas.{one_words}

no_digits : (bytes : List ℕ) → decode_of (codes "-") ≡ Ok bytes → ⊥
no_digits bytes e = cc e

one_hex : (text xs ys : List ℕ) → IsHex text xs → IsHex text ys → xs ≡ ys
one_hex text xs ys (inl h) (inl k) = h.1 ∙ sym k.1
one_hex text xs ys (inl h) (inr k) = absurd (no_digits ys (ap decode_of (sym h.0) ∙ k.1))
one_hex text xs ys (inr h) (inl k) = absurd (no_digits xs (ap decode_of (sym k.0) ∙ h.1))
one_hex text xs ys (inr h) (inr k) = same_ok (decode_of text) xs ys h.1 k.1

one_choice : (first second : List ℕ) (a b : Bool) → first ≢ second → choice first second a ≡ choice first second b → a ≡ b
one_choice first second true true apart e = refl
one_choice first second true false apart e = absurd (apart e)
one_choice first second false true apart e = absurd (apart (sym e))
one_choice first second false false apart e = refl

-- a text of a kind has one value
pub one_value : (kind : Kind) (text : List ℕ) (a b : Value) → IsDefinite kind → Means kind text a → Means kind text b → a ≡ b
one_value (Number least most) text a b definite h k =
    h.1 ∙ ap TheNumber (decimal_injective h.0 k.0 (omega (arith, h.3, definite)) (omega (arith, k.3, definite)) (sym h.4 ∙ k.4)) ∙ sym k.1
one_value OfAddr text a b definite h k = h.1 ∙ ap TheAddr (one_address text h.0 k.0 h.2 k.2) ∙ sym k.1
one_value OfPeer text a b definite h k = h.1 ∙ ap ThePeer (one_peer text h.0 k.0 h.2 k.2) ∙ sym k.1
one_value Hex text a b definite h k = h.1 ∙ ap TheBytes (one_hex text h.0 k.0 h.2 k.2) ∙ sym k.1
one_value Random text a b definite h k = h.1 ∙ ap TheWords (one_words text h.0 k.0 h.2 k.2) ∙ sym k.1
one_value (Either first second) text a b definite h k = h.1 ∙ ap TheChoice (one_choice first second h.0 k.0 definite (sym h.2 ∙ k.2)) ∙ sym k.1
one_value Nets text a b definite h k = h.1 ∙ ap TheNets (one_nets text h.0 k.0 h.2 k.2) ∙ sym k.1
one_value Classes text a b definite h k = h.1 ∙ ap TheNets (one_classes text h.0 k.0 h.2 k.2) ∙ sym k.1
