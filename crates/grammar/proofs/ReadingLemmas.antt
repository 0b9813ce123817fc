-- A line that is passed over says nothing; and faults that are of memory, and others.
use Rattle.std.proofs.Common.{◌≡◌, ◌≢◌, ◌⊎◌, inl, inr, ◌<◌, ℕ, List, [], ◌∷◌, get_or, refl, sym, ap, ◌∙◌, arith}
use Rattle.std.specs.List.{join_with_byte}
use Rattle.std.proofs.lemmas.List.Splits.{join_with_byte-slice_split}
use Rattle.host_io.specs.Lines.{IsPassedOver}
use Rattle.grammar.specs.Words.{fields_of}
use Rattle.grammar.specs.declared.fault.LineFault.{LineFault}
use Rattle.grammar.specs.declared.fault.LineFault.TheVariants as fault
use Rattle.grammar.specs.Reading.{Says}

first_of_join : (word : List ℕ) (texts : List (List ℕ)) → 96 < get_or word 0 0 → get_or (join_with_byte 32 (word ∷ texts)) 0 0 ≡ get_or word 0 0
first_of_join [] texts h = absurd (omega (arith, h))
first_of_join (x ∷ xs) [] h = refl
first_of_join (x ∷ xs) (text ∷ texts) h = refl

-- a line that is passed over says nothing
pub passed_says_none : {A : Type 0} (after : List ℕ → List (List ℕ) → A → Type 0) → ((word : List ℕ) (texts : List (List ℕ)) (a : A) → after word texts a → 96 < get_or word 0 0) →
    (line : List ℕ) (a : A) → IsPassedOver line → Says after (fields_of line) a → ⊥
passed_says_none after law [] a passed s =
    let whole = sym (join_with_byte-slice_split 32 []) ∙ ap (join_with_byte 32) s.2 in
    omega (arith, ap (λ t. get_or t 0 0) whole, first_of_join s.0 s.1 (law s.0 s.1 a s.3), law s.0 s.1 a s.3)
passed_says_none after law (b ∷ line) a passed s =
    let whole = sym (join_with_byte-slice_split 32 (b ∷ line)) ∙ ap (join_with_byte 32) s.2 in
    omega (arith, passed, ap (λ t. get_or t 0 0) whole, first_of_join s.0 s.1 (law s.0 s.1 a s.3), law s.0 s.1 a s.3)

pub memory_or_not : (e : LineFault) → (e ≡ fault.Memory) ⊎ (e ≢ fault.Memory)
memory_or_not fault.Word = inr (λ e. cc e)
memory_or_not fault.Fields = inr (λ e. cc e)
memory_or_not fault.Number = inr (λ e. cc e)
memory_or_not fault.Peer = inr (λ e. cc e)
memory_or_not fault.Hex = inr (λ e. cc e)
memory_or_not fault.Words = inr (λ e. cc e)
memory_or_not fault.Memory = inl refl
