-- Numbers with commas between them, one more at the end.
use Rattle.std.proofs.Common.{◌≡◌, ℕ, zero, suc, ◌+◌, ◌<◌, List, [], ◌∷◌, ◌++◌, length, get_or, take, map, decimal, refl, sym, ap, ◌∙◌, arith, append_assoc}
use Rattle.std.proofs.lemmas.List.{take_more, map-append}
use Rattle.std.specs.List.{join_with_byte}
use Rattle.log_lines.specs.Replies.{numbers_text}

join-push : (c : ℕ) (x : List ℕ) (xs : List (List ℕ)) (y : List ℕ) → join_with_byte c ((x ∷ xs) ++ y ∷ []) ≡ join_with_byte c (x ∷ xs) ++ c ∷ y
join-push c x [] y = refl
join-push c x (z ∷ xs) y = ap (λ t. x ++ c ∷ t) (join-push c z xs y) ∙ sym (append_assoc x (c ∷ join_with_byte c (z ∷ xs)) (c ∷ y))

-- the first number has no comma
pub numbers-first : (xs : List ℕ) (i : ℕ) → i ≡ 0 → i < length xs → numbers_text (take (i + 1) xs) ≡ numbers_text (take i xs) ++ decimal (get_or xs i 0)
numbers-first [] i none lt = absurd (omega arith)
numbers-first (x ∷ xs) zero none lt = refl
numbers-first (x ∷ xs) (suc i) none lt = absurd (omega arith)

-- each later one is after a comma
pub numbers-more : (xs : List ℕ) (i : ℕ) → 0 < i → i < length xs → numbers_text (take (i + 1) xs) ≡ numbers_text (take i xs) ++ 44 ∷ decimal (get_or xs i 0)
numbers-more [] i some lt = absurd (omega arith)
numbers-more (x ∷ xs) zero some lt = absurd (omega arith)
numbers-more (x ∷ xs) (suc i) some lt =
    let more = take_more (x ∷ xs) (suc i) 0 lt in
    ap numbers_text more
    ∙ ap (λ t. join_with_byte 44 (decimal x ∷ t)) (map-append decimal (take i xs) (get_or xs i 0 ∷ []))
    ∙ join-push 44 (decimal x) (map decimal (take i xs)) (decimal (get_or xs i 0))
