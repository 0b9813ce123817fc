-- The lines of anchors, one after another.
use Rattle.std.proofs.Common.{◌≡◌, ℕ, ◌+◌, ◌<◌, List, [], ◌∷◌, ◌++◌, length, take, get_or, sym, ap, ◌∙◌, arith, append_assoc}
use Rattle.std.specs.List.{flat_map, enumerate_from}
use Rattle.std.proofs.lemmas.List.{length-take-le, append-nil, take_more}
use Rattle.std.proofs.lemmas.List.Concat.{flat_map-append}

-- each element with its index, and one element more
enumerate-more : {X : Type 0} (n : ℕ) (xs : List X) (x : X) → enumerate_from n (xs ++ x ∷ []) ≡ enumerate_from n xs ++ (n + length xs, x) ∷ []
enumerate-more n [] x = ap (λ k. (k, x) ∷ []) (omega arith)
enumerate-more n (y ∷ xs) x = ap (λ t. (n, y) ∷ t) (enumerate-more (n + 1) xs x ∙ ap (λ k. enumerate_from (n + 1) xs ++ (k, x) ∷ []) (omega arith))

-- one more line is written
pub one_more : {X : Type 0} (text : ℕ × X → List ℕ) (head : List ℕ) (xs : List X) (i : ℕ) (x : X) (old new : List ℕ) → i < length xs → x ≡ get_or xs i x →
    old ≡ head ++ flat_map text (enumerate_from 0 (take i xs)) → new ≡ old ++ text (i, x) →
    new ≡ head ++ flat_map text (enumerate_from 0 (take (i + 1) xs))
one_more {X = X} text head xs i x old new lt is so_far more =
    let taken : take (i + 1) xs ≡ take i xs ++ x ∷ [] = take_more xs i x lt ∙ ap (λ (y : X). take i xs ++ y ∷ []) (sym is) in
    let place : 0 + length (take i xs) ≡ i = omega (arith, length-take-le i xs (omega arith)) in
    let listed : enumerate_from 0 (take (i + 1) xs) ≡ enumerate_from 0 (take i xs) ++ (i, x) ∷ [] =
    ap (enumerate_from 0) taken ∙ enumerate-more 0 (take i xs) x ∙ ap (λ (k : ℕ). enumerate_from 0 (take i xs) ++ (k, x) ∷ []) place in
    let texts : flat_map text (enumerate_from 0 (take (i + 1) xs)) ≡ flat_map text (enumerate_from 0 (take i xs)) ++ text (i, x) =
    ap (flat_map text) listed ∙ flat_map-append text (enumerate_from 0 (take i xs)) ((i, x) ∷ []) ∙ ap (λ (t : List ℕ). flat_map text (enumerate_from 0 (take i xs)) ++ t) (append-nil (text (i, x))) in
    more ∙ ap (λ (t : List ℕ). t ++ text (i, x)) so_far ∙ append_assoc head (flat_map text (enumerate_from 0 (take i xs))) (text (i, x)) ∙ ap (λ (t : List ℕ). head ++ t) (sym texts)
