-- The texts of items one after another, one more at the end.
use Rattle.std.proofs.Common.{◌≡◌, ℕ, ◌+◌, ◌<◌, List, [], ◌∷◌, ◌++◌, length, get_or, take, sym, ap, ◌∙◌}
use Rattle.std.proofs.lemmas.List.{take_more, flat_map_more}
use Rattle.std.specs.List.{flat_map}

pub one_more : {X : Type 0} (text : X → List ℕ) (head : List ℕ) (xs : List X) (i : ℕ) (x : X) (old new : List ℕ) → i < length xs → x ≡ get_or xs i x → old ≡ head ++ flat_map text (take i xs) → new ≡ old ++ text x
    → new ≡ head ++ flat_map text (take (i + 1) xs)
one_more {X} text head xs i x old new lt is so_far more =
    let taken : take (i + 1) xs ≡ take i xs ++ x ∷ [] = take_more xs i x lt ∙ ap (λ (y : X). take i xs ++ y ∷ []) (sym is) in
    more ∙ ap (λ (t : List ℕ). t ++ text x) so_far ∙ flat_map_more text head (take i xs) x ∙ ap (λ (ys : List X). head ++ flat_map text ys) (sym taken)
