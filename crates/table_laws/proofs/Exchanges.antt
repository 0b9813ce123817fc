-- The exchanges of a list are those of draws.
use Rattle.std.proofs.Common.{◌≡◌, ℕ, suc, ◌+◌, ◌-◌, ◌*◌, ◌%◌, ◌<◌, cond, ◌==◌, List, [], ◌∷◌, ◌++◌, length, get_or, set, swap, refl, sym, ap, ◌∙◌, arith, append_assoc, length-append, if◌then◌else◌}
use Rattle.std.specs.List.Sorted.{IsPermutation}
use Rattle.std.proofs.lemmas.Bool.{lt-ltb, le-ltb}
use Rattle.std.proofs.lemmas.List.{get_or_default}
use Rattle.std.proofs.lemmas.List.Sorted.{sum_by-IsPermutation}
use Rattle.std.proofs.lemmas.Nat.{mod_below, mod-mul-add}
use Rattle.table_laws.specs.Shuffle.{AreDraws, IsOnce, draws_of, exchanged}
use Rattle.table_laws.proofs.Shuffle.{left_of, long-left, one_draw, shuffled, some_draws, swapped}

swap_is : (xs : List ℕ) (i j d : ℕ) → i < length xs → j < length xs → set (set xs i (get_or xs j d)) j (get_or xs i d) ≡ swap xs i j
swap_is [] i j d low high = absurd (omega (arith, low))
swap_is (e ∷ ys) i j d low high = λ k. set (set (e ∷ ys) i (get_or_default (e ∷ ys) j d e high k)) j (get_or_default (e ∷ ys) i d e low k)

set-after : (front xs : List ℕ) (d y : ℕ) → set (front ++ xs) (length front + d) y ≡ front ++ set xs d y
set-after [] xs d y = let same : 0 + d ≡ d = omega arith in ap (λ k. set xs k y) same
set-after (p ∷ front) xs d y =
    let more : suc (length front) + d ≡ suc (length front + d) = omega arith in
    ap (λ k. set (p ∷ (front ++ xs)) k y) more ∙ ap (λ l. p ∷ l) (set-after front xs d y)

get-after : (front xs : List ℕ) (d y : ℕ) → get_or (front ++ xs) (length front + d) y ≡ get_or xs d y
get-after [] xs d y = let same : 0 + d ≡ d = omega arith in ap (λ k. get_or xs k y) same
get-after (p ∷ front) xs d y =
    let more : suc (length front) + d ≡ suc (length front + d) = omega arith in
    ap (λ k. get_or (p ∷ (front ++ xs)) k y) more ∙ get-after front xs d y

swap-after : (front : List ℕ) (x : ℕ) (xs : List ℕ) (d : ℕ) → d < length (x ∷ xs)
    → swap (front ++ x ∷ xs) (length front) (length front + d) ≡ front ++ get_or (x ∷ xs) d x ∷ left_of x xs d
swap-after front x xs d within =
    let n = length front in
    let long = length-append front (x ∷ xs) in
    let zs = front ++ x ∷ xs in
    let at : length front + 0 ≡ length front = omega arith in
    let first : get_or (front ++ x ∷ xs) (length front) x ≡ x = ap (λ k. get_or (front ++ x ∷ xs) k x) (sym at) ∙ get-after front (x ∷ xs) 0 x in
    let other : get_or (front ++ x ∷ xs) (length front + d) x ≡ get_or (x ∷ xs) d x = get-after front (x ∷ xs) d x in
    let put : set (front ++ x ∷ xs) (length front) (get_or (x ∷ xs) d x) ≡ front ++ get_or (x ∷ xs) d x ∷ xs =
    ap (λ k. set (front ++ x ∷ xs) k (get_or (x ∷ xs) d x)) (sym at) ∙ set-after front (x ∷ xs) 0 (get_or (x ∷ xs) d x) in
    sym (swap_is (front ++ x ∷ xs) (length front) (length front + d) x (omega (arith, long)) (omega (arith, long, within)))
    ∙ ap (λ y. set (set (front ++ x ∷ xs) (length front) (get_or (front ++ x ∷ xs) (length front + d) x)) (length front + d) y) first
    ∙ ap (λ y. set (set (front ++ x ∷ xs) (length front) y) (length front + d) x) other
    ∙ ap (λ zs. set zs (length front + d) x) put
    ∙ set-after front (get_or (x ∷ xs) d x ∷ xs) d x
    ∙ ap (λ l. front ++ l) (swapped x xs d)

-- the words arrange what comes from a position on as their draws do
pub exchanged-from : (front xs words : List ℕ) → exchanged (front ++ xs) (length front) words ≡ front ++ shuffled xs (draws_of (length xs) words)
exchanged-from front [] [] = refl
exchanged-from front [] (word ∷ words) =
    let long = length-append front [] in
    ap (λ b. if b then exchanged (swap (front ++ []) (length front) (length front + word % (length (front ++ []) - length front))) (length front + 1) words else (front ++ [])) (le-ltb (length front) (length (front ++ [])) (omega (arith, long)))
exchanged-from front (x ∷ xs) [] = refl
exchanged-from front (x ∷ xs) (word ∷ words) =
    let long = length-append front (x ∷ xs) in
    let d = word % suc (length xs) in
    let left : length (front ++ x ∷ xs) - length front ≡ suc (length xs) = omega (arith, long) in
    let within : word % suc (length xs) < suc (length xs) = mod_below word (suc (length xs)) (omega arith) in
    let taken = get_or (x ∷ xs) (word % suc (length xs)) x in
    let longer : length front + 1 ≡ length (front ++ get_or (x ∷ xs) (word % suc (length xs)) x ∷ []) = sym (length-append front (get_or (x ∷ xs) (word % suc (length xs)) x ∷ [])) in
    let less : length (left_of x xs (word % suc (length xs))) ≡ suc (length xs) - 1 = long-left x xs (word % suc (length xs)) ∙ omega arith in
    ap (λ b. if b then exchanged (swap (front ++ x ∷ xs) (length front) (length front + word % (length (front ++ x ∷ xs) - length front))) (length front + 1) words else (front ++ x ∷ xs)) (lt-ltb (length front) (length (front ++ x ∷ xs)) (omega (arith, long)))
    ∙ ap (λ k. exchanged (swap (front ++ x ∷ xs) (length front) (length front + word % k)) (length front + 1) words) left
    ∙ ap (λ zs. exchanged zs (length front + 1) words) (swap-after front x xs (word % suc (length xs)) within ∙ sym (append_assoc front (get_or (x ∷ xs) (word % suc (length xs)) x ∷ []) (left_of x xs (word % suc (length xs)))))
    ∙ ap (λ k. exchanged ((front ++ get_or (x ∷ xs) (word % suc (length xs)) x ∷ []) ++ left_of x xs (word % suc (length xs))) k words) longer
    ∙ exchanged-from (front ++ get_or (x ∷ xs) (word % suc (length xs)) x ∷ []) (left_of x xs (word % suc (length xs))) words
    ∙ append_assoc front (get_or (x ∷ xs) (word % suc (length xs)) x ∷ []) (shuffled (left_of x xs (word % suc (length xs))) (draws_of (length (left_of x xs (word % suc (length xs)))) words))
    ∙ ap (λ k. front ++ get_or (x ∷ xs) (word % suc (length xs)) x ∷ shuffled (left_of x xs (word % suc (length xs))) (draws_of k words)) less

-- draws select themselves
draws-again : (n : ℕ) (ds : List ℕ) → AreDraws n ds → draws_of n ds ≡ ds
draws-again n [] are = refl
draws-again n (d ∷ ds) are =
    let none : d ≡ 0 * n + d = omega arith in
    let same : d % n ≡ d = ap (λ k. k % n) none ∙ mod-mul-add 0 n d are.0 in
    λ k. same k ∷ draws-again (n - 1) ds are.1 k

by_draws : (xs ds : List ℕ) → AreDraws (length xs) ds → exchanged xs 0 ds ≡ shuffled xs ds
by_draws xs ds are = exchanged-from [] xs ds ∙ ap (shuffled xs) (draws-again (length xs) ds are)

-- enough words make draws
pub AreDraws-of : (n : ℕ) (words : List ℕ) → length words ≡ n → AreDraws n (draws_of n words)
AreDraws-of n [] long = sym long
AreDraws-of n (word ∷ words) long = (mod_below word n (omega (arith, long)), AreDraws-of (n - 1) words (omega (arith, long)))

pub each_arrangement : (order ys : List ℕ) → IsPermutation order ys → (ds : List ℕ) × AreDraws (length order) ds × (exchanged order 0 ds ≡ ys)
each_arrangement order ys moved =
    let h = some_draws ys order (λ v. sum_by-IsPermutation (λ y. cond (y == v) 1 0) order ys moved) in
    (h.0, h.1, by_draws order h.0 h.1 ∙ h.2)

pub no_two : (order ds es : List ℕ) → IsOnce order → AreDraws (length order) ds → AreDraws (length order) es → exchanged order 0 ds ≡ exchanged order 0 es → ds ≡ es
no_two order ds es once a b is = one_draw ds es order once a b (sym (by_draws order ds a) ∙ is ∙ by_draws order es b)

pub by_words : (order words : List ℕ) → length words ≡ length order
    → AreDraws (length order) (draws_of (length order) words) × (exchanged order 0 words ≡ exchanged order 0 (draws_of (length order) words))
by_words order words long =
    let are = AreDraws-of (length order) words long in
    (are, exchanged-from [] order words ∙ sym (by_draws order (draws_of (length order) words) are))
