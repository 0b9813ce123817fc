-- Each arrangement of a list comes from exactly one list of draws.
use Rattle.std.proofs.Common.{◌≡◌, ◌≢◌, ℕ, zero, suc, ◌+◌, ◌-◌, ◌<◌, true, false, cond, ◌==◌, List, [], ◌∷◌, length, get_or, set, drop, swap, count_by, refl, sym, ap, subst, ◌∙◌, inl, inr, ◌⊎◌, arith}
use Rattle.std.proofs.lemmas.Bool.Decides.{eqb_tells}
use Rattle.std.proofs.lemmas.List.{get_or_default, length-set}
use Rattle.std.proofs.lemmas.List.Sums.{get_or-le-sum_by, sum_by-set}
use Rattle.table_laws.specs.Shuffle.{AreDraws, IsOnce}
use Rattle.table_laws.proofs.Counts.{count_cons}

-- how often a number is in a list
abbrev pub times : ℕ → List ℕ → ℕ
times v xs = count_by (λ x. x == v) xs

one_if : ℕ → ℕ → ℕ
one_if x v = cond (x == v) 1 0

same_one : (v : ℕ) → ◌≡◌ {A = ℕ} (cond (v == v) 1 0) 1
same_one v = by (eqb_tells v v)
  where
    by : (((v == v) ≡ true) × (v ≡ v)) ⊎ (((v == v) ≡ false) × (v ≢ v)) → ◌≡◌ {A = ℕ} (cond (v == v) 1 0) 1
    by (inl h) = ap {B = ℕ} (λ b. cond b 1 0) h.0
    by (inr h) = absurd (h.1 refl)

-- what is left of a list of which the element at d was taken: the first is now in its place
abbrev pub left_of : ℕ → List ℕ → ℕ → List ℕ
left_of x xs zero = xs
left_of x xs (suc d) = set xs d x

abbrev pub shuffled : List ℕ → List ℕ → List ℕ
shuffled [] ds = []
shuffled (x ∷ xs) [] = x ∷ xs
shuffled (x ∷ xs) (d ∷ ds) = get_or (x ∷ xs) d x ∷ shuffled (left_of x xs d) ds

pub swapped : (x : ℕ) (xs : List ℕ) (d : ℕ) → swap (x ∷ xs) 0 d ≡ get_or (x ∷ xs) d x ∷ left_of x xs d
swapped x xs zero = refl
swapped x xs (suc d) = refl

pub long-left : (x : ℕ) (xs : List ℕ) (d : ℕ) → length (left_of x xs d) ≡ length xs
long-left x xs zero = refl
long-left x xs (suc d) = length-set xs d x

-- what is taken and what is left are the list
times-left : (v x : ℕ) (xs : List ℕ) (d : ℕ) → d < length (x ∷ xs) → cond (get_or (x ∷ xs) d x == v) 1 0 + times v (left_of x xs d) ≡ times v (x ∷ xs)
times-left v x xs zero within = sym (count_cons (λ y. y == v) x xs)
times-left v x xs (suc d) within =
    let first = count_cons (λ y. y == v) x xs in
    let others = sum_by-set (λ y. cond (y == v) 1 0) xs d x x (omega (arith, within)) in
    omega (arith, first, others)

IsOnce-left : (x : ℕ) (xs : List ℕ) (d : ℕ) → d < length (x ∷ xs) → IsOnce (x ∷ xs) → IsOnce (left_of x xs d)
IsOnce-left x xs d within once v =
    let all = times-left v x xs d within in
    let most = once v in
    omega (arith, all, most)

IsOnce-tail : (x : ℕ) (xs : List ℕ) → IsOnce (x ∷ xs) → IsOnce xs
IsOnce-tail x xs once v =
    let all = count_cons (λ y. y == v) x xs in
    let most = once v in
    omega (arith, all, most)

-- an element has one position
not_again : (x : ℕ) (xs : List ℕ) (k : ℕ) → IsOnce (x ∷ xs) → k < length xs → x ≡ get_or xs k x → ⊥
not_again x xs k once within is =
    let all = count_cons (λ y. y == x) x xs in
    let first = same_one x in
    let here : ◌≡◌ {A = ℕ} (cond (get_or xs k x == x) 1 0) 1 = ap {B = ℕ} (λ y. cond (y == x) 1 0) (sym is) ∙ first in
    let some = get_or-le-sum_by (λ y. cond (y == x) 1 0) xs k x within in
    let most = once x in
    omega (arith, all, first, here, some, most)

position-one : (xs : List ℕ) (i k : ℕ) (c : ℕ) → IsOnce xs → i < length xs → k < length xs → get_or xs i c ≡ get_or xs k c → i ≡ k
position-one [] i k c once a b is = absurd (omega (arith, a))
position-one (x ∷ xs) zero zero c once a b is = refl
position-one (x ∷ xs) zero (suc k) c once a b is = absurd (not_again x xs k once (omega (arith, b)) (is ∙ get_or_default xs k c x (omega (arith, b))))
position-one (x ∷ xs) (suc i) zero c once a b is = absurd (not_again x xs i once (omega (arith, a)) (sym is ∙ get_or_default xs i c x (omega (arith, a))))
position-one (x ∷ xs) (suc i) (suc k) c once a b is = ap suc (position-one xs i k c (IsOnce-tail x xs once) (omega (arith, a)) (omega (arith, b)) is)

-- two draws with one result are the same
pub one_draw : (ds es xs : List ℕ) → IsOnce xs → AreDraws (length xs) ds → AreDraws (length xs) es → shuffled xs ds ≡ shuffled xs es → ds ≡ es
one_draw [] [] xs once a b is = refl
one_draw [] (e ∷ es) xs once a b is = let low = b.0 in absurd (omega (arith, a, low))
one_draw (d ∷ ds) [] xs once a b is = let low = a.0 in absurd (omega (arith, b, low))
one_draw (d ∷ ds) (e ∷ es) [] once a b is = let low = a.0 in absurd (omega (arith, low))
one_draw (d ∷ ds) (e ∷ es) (x ∷ xs) once a b is =
    let head : get_or (x ∷ xs) d x ≡ get_or (x ∷ xs) e x = ap (λ ys. get_or ys 0 x) is in
    let same : d ≡ e = position-one (x ∷ xs) d e x once a.0 b.0 head in
    let less : suc (length xs) - 1 ≡ length xs = omega arith in
    let left_d : suc (length xs) - 1 ≡ length (left_of x xs d) = less ∙ sym (long-left x xs d) in
    let rest : shuffled (left_of x xs d) ds ≡ shuffled (left_of x xs d) es = ap (drop 1) is ∙ ap (λ k. shuffled (left_of x xs k) es) (sym same) in
    let tails : ds ≡ es = one_draw ds es (left_of x xs d) (IsOnce-left x xs d a.0 once)
    (subst (λ k. AreDraws k ds) left_d a.1) (subst (λ k. AreDraws k es) left_d b.1) rest in
    λ k. same k ∷ tails k

-- a number that is in a list is at a position
at_position : (v : ℕ) (xs : List ℕ) → 0 < times v xs → (k : ℕ) × (k < length xs) × ((c : ℕ) → get_or xs k c ≡ v)
at_position v [] some = absurd (omega (arith, some))
at_position v (x ∷ xs) some = by (eqb_tells x v) (λ more. at_position v xs more)
  where
    by : (((x == v) ≡ true) × (x ≡ v)) ⊎ (((x == v) ≡ false) × (x ≢ v)) → (0 < times v xs → (k : ℕ) × (k < length xs) × ((c : ℕ) → get_or xs k c ≡ v))
        → (k : ℕ) × (k < length (x ∷ xs)) × ((c : ℕ) → get_or (x ∷ xs) k c ≡ v)
    by (inl h) later = (0, omega arith, λ c. h.1)
    by (inr h) later =
        let all = count_cons (λ y. y == v) x xs in
        let none : cond (x == v) 1 0 ≡ cond false 1 0 = ap {B = ℕ} (λ b. cond b 1 0) h.0 in
        let found = later (omega (arith, all, none, some)) in
        let within = found.1 in
        (suc found.0, omega (arith, within), found.2)

-- each arrangement has draws
pub some_draws : (ys xs : List ℕ) → ((v : ℕ) → times v ys ≡ times v xs) → (ds : List ℕ) × AreDraws (length xs) ds × (shuffled xs ds ≡ ys)
some_draws [] [] same = ([], refl, refl)
some_draws [] (x ∷ xs) same =
    let none = same x in
    let all = count_cons (λ y. y == x) x xs in
    let first = same_one x in
    absurd (omega (arith, none, all, first))
some_draws (y ∷ ys) [] same =
    let none = same y in
    let all = count_cons (λ z. z == y) y ys in
    let first = same_one y in
    absurd (omega (arith, none, all, first))
some_draws (y ∷ ys) (x ∷ xs) same =
    let some = count_cons (λ z. z == y) y ys in
    let first = same_one y in
    let equal = same y in
    let found = at_position y (x ∷ xs) (omega (arith, some, first, equal)) in
    let d = found.0 in
    let rest = some_draws ys (left_of x xs d) (λ v.
    let taken = times-left v x xs d found.1 in
    let is : cond (get_or (x ∷ xs) d x == v) 1 0 ≡ cond (y == v) 1 0 = ap {B = ℕ} (λ z. cond (z == v) 1 0) (found.2 x) in
    let mine = count_cons (λ z. z == v) y ys in
    let both = same v in
    omega (arith, taken, is, mine, both)) in
    let less : length (left_of x xs d) ≡ suc (length xs) - 1 = long-left x xs d ∙ omega arith in (
      d ∷ rest.0,
      (found.1, subst (λ k. AreDraws k rest.0) less rest.1),
      λ k. found.2 x k ∷ rest.2 k,
    )

-- what the draws leave has each number as often
pub times-shuffled : (ds xs : List ℕ) (v : ℕ) → AreDraws (length xs) ds → times v (shuffled xs ds) ≡ times v xs
times-shuffled ds [] v are = refl
times-shuffled [] (x ∷ xs) v are = refl
times-shuffled (d ∷ ds) (x ∷ xs) v are =
    let taken = times-left v x xs d are.0 in
    let less : suc (length xs) - 1 ≡ length (left_of x xs d) = omega arith ∙ sym (long-left x xs d) in
    let rest = times-shuffled ds (left_of x xs d) v (subst (λ k. AreDraws k ds) less are.1) in
    let first = count_cons (λ y. y == v) (get_or (x ∷ xs) d x) (shuffled (left_of x xs d) ds) in
    omega (arith, taken, rest, first)
