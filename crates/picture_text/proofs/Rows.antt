-- Texts of rising numbers, one after another.
use Rattle.std.proofs.Common.{◌≡◌, ℕ, ◌+◌, List, [], ◌∷◌, ◌++◌, map, sym, ap, ◌∙◌, arith, append_assoc}
use Rattle.std.specs.List.{flat_map, range_with_len}
use Rattle.std.proofs.lemmas.List.{append-nil, map-id}
use Rattle.std.proofs.lemmas.List.Concat.{flat_map-append}
use Rattle.std.proofs.lemmas.List.FromFn.{map-range_with_len_more}

-- Texts of rising numbers, one after another.
pub one_more : (text : ℕ → List ℕ) (head : List ℕ) (i : ℕ) (old new : List ℕ) → old ≡ head ++ flat_map text (range_with_len 0 i) → new ≡ old ++ text i
    → new ≡ head ++ flat_map text (range_with_len 0 (i + 1))
one_more text head i old new so_far more =
    let listed : range_with_len 0 (i + 1) ≡ range_with_len 0 i ++ i ∷ [] =
    sym (map-id (range_with_len 0 (i + 1))) ∙ map-range_with_len_more (λ (k : ℕ). k) 0 i i (omega arith) ∙ ap (λ (l : List ℕ). l ++ i ∷ []) (map-id (range_with_len 0 i)) in
    let texts : flat_map text (range_with_len 0 (i + 1)) ≡ flat_map text (range_with_len 0 i) ++ text i =
    ap (flat_map text) listed ∙ flat_map-append text (range_with_len 0 i) (i ∷ []) ∙ ap (λ (t : List ℕ). flat_map text (range_with_len 0 i) ++ t) (append-nil (text i)) in
    more ∙ ap (λ (t : List ℕ). t ++ text i) so_far ∙ append_assoc head (flat_map text (range_with_len 0 i)) (text i) ∙ ap (λ (t : List ℕ). head ++ t) (sym texts)

-- Texts of rising numbers, one after another.
pub all_of : (text : ℕ → List ℕ) (head : List ℕ) (i n : ℕ) (new : List ℕ) → i ≡ n → new ≡ head ++ flat_map text (range_with_len 0 i) → new ≡ head ++ flat_map text (range_with_len 0 n)
all_of text head i n new e is = is ∙ ap (λ (k : ℕ). head ++ flat_map text (range_with_len 0 k)) e

-- values of rising numbers, one more
pub list_more : {X : Type 0} (f : ℕ → X) (i : ℕ) (old new : List X) (x : X) → old ≡ map f (range_with_len 0 i) → new ≡ old ++ x ∷ [] → x ≡ f i
    → new ≡ map f (range_with_len 0 (i + 1))
list_more {X} f i old new x so_far more is =
    more ∙ ap (λ (t : List X). t ++ x ∷ []) so_far
    ∙ ap (λ (y : X). map f (range_with_len 0 i) ++ y ∷ []) is
    ∙ sym (map-range_with_len_more f 0 i i (omega arith))
