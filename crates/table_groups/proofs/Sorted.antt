-- Groups that are sorted by a comparison are the order of the definition.
use Rattle.std.proofs.Common.{◌≡◌, ℕ, suc, ◌+◌, ◌<◌, ◌≤◌, ◌==◌, Bool, true, false, cond, List, [], ◌∷◌, length, get_or, refl, sym, ap, ◌∙◌, arith}
use Rattle.std.specs.Prelude.{nat_lt}
use Rattle.std.specs.Cmp.{IsStrictWeakOrder, IsTotalOrder}
use Rattle.std.specs.Cmp.Lexicographic.{slice_cmp}
use Rattle.std.specs.FinMap.{nat_cmp-IsAntisymmetric, slice_cmp-IsAntisymmetric}
use Rattle.std.specs.List.{AllByRecursion, fold, sum_by}
use Rattle.std.specs.List.Sorted.{IsPermutation, IsSortedBy}
use Rattle.std.specs.Ordering.{is_lt, nat_cmp, ordering_reverse, ordering_then}
use Rattle.std.specs.declared.cmp.Ordering.{Ordering}
use Rattle.std.specs.declared.cmp.Ordering.TheVariants.{Less, Equal, Greater}
use Rattle.std.proofs.lemmas.Bool.{both_ways, eqb-true}
use Rattle.std.proofs.lemmas.Cmp.{back_total, nat_cmp_total, nat_list_cmp_total, on_total, then_total, tied_back}
use Rattle.std.proofs.lemmas.List.Sums.{sum_by-cons}
use Rattle.std.proofs.lemmas.List.Sorted.{ranks_by, sorted_far, sum_by-IsPermutation}
use Rattle.table_groups.specs.Order.{comes_before, in_order, placed, rank_cmp}
use Rattle.table_groups.specs.declared.ranked_groups.Counted.{Counted}

-- ---- the comparison

total : IsTotalOrder rank_cmp
total = then_total (back_total (on_total (λ (c : Counted). c.slots) nat_cmp_total)) (on_total (λ (c : Counted). c.group.items) nat_list_cmp_total)

pub weak : IsStrictWeakOrder comes_before
weak = ranks_by total (λ (c : Counted). c)

same-slots : (a b : Counted) (rest : Ordering) → ordering_then (nat_cmp b.slots a.slots) rest ≡ Equal → (a.slots ≡ b.slots) × (rest ≡ Equal)
same-slots a b rest = by (nat_lt b.slots a.slots) (b.slots == a.slots) refl
  where
    by : (p q : Bool) → (b.slots == a.slots) ≡ q → ordering_then (cond p Less (cond q Equal Greater)) rest ≡ Equal → (a.slots ≡ b.slots) × (rest ≡ Equal)
    by true q f e = absurd (cc)
    by false true f e = (sym (eqb-true b.slots a.slots f), e)
    by false false f e = absurd (cc)

-- neither comes before the other
neither : (a b : Counted) → comes_before a b ≡ false → comes_before b a ≡ false → rank_cmp a b ≡ Equal
neither a b p q = by (rank_cmp a b) refl (rank_cmp b a) refl p q
  where
    by : (r : Ordering) → rank_cmp a b ≡ r → (s : Ordering) → rank_cmp b a ≡ s → is_lt r ≡ false → is_lt s ≡ false → r ≡ Equal
    by Equal e s f p q = refl
    by Less e s f p q = absurd (both_ways true p refl)
    by Greater e Less f p q = absurd (both_ways true q refl)
    by Greater e Equal f p q = sym e ∙ tied_back total b a f
    by Greater e Greater f p q =
        let clash : Greater ≡ Less = sym e ∙ total.antisymm a b ∙ ap ordering_reverse f in
        absurd (both_ways true (sym (ap is_lt clash)) refl)

tied : (a b : Counted) → comes_before a b ≡ false → comes_before b a ≡ false → a ≡ b
tied a b p q =
    let parts = same-slots a b (slice_cmp nat_cmp a.group.items b.group.items) (neither a b p q) in
    let bytes : a.group.items ≡ b.group.items = slice_cmp-IsAntisymmetric nat_cmp-IsAntisymmetric a.group.items b.group.items parts.1 in
    (λ i. record { group = record { items = bytes i }; slots = parts.0 i })

-- ---- lists

pub weaker : {X : Type 0} (P Q : X → Type 0) (xs : List X) → ((x : X) → P x → Q x) → AllByRecursion P xs → AllByRecursion Q xs
weaker P Q [] so each = tt
weaker P Q (x ∷ xs) so each = (so x each.0, weaker P Q xs so each.1)

sum-none : {X : Type 0} (f : X → ℕ) (xs : List X) → AllByRecursion (λ x. f x ≡ 0) xs → sum_by f xs ≡ 0
sum-none f [] each = refl
sum-none f (x ∷ xs) each = let own = each.0 in omega (arith, own, sum-none f xs each.1, sum_by-cons f x xs)

-- no group comes before an earlier one
abbrev pub IsUp : List Counted → Type 0
IsUp [] = Unit {0}
IsUp (x ∷ xs) = AllByRecursion (λ z. comes_before z x ≡ false) xs × IsUp xs

placed-all : (P : Counted → Type 0) (c : Counted) (ds : List Counted) → P c → AllByRecursion P ds → AllByRecursion P (placed c ds)
placed-all P c [] own each = (own, tt)
placed-all P c (d ∷ ds) own each = by (comes_before c d) (placed-all P c ds own each.1)
  where
    by : (b : Bool) → AllByRecursion P (placed c ds) → AllByRecursion P (cond b (c ∷ d ∷ ds) (d ∷ placed c ds))
    by true more = (own, each)
    by false more = (each.0, more)

placed-up : (c : Counted) (ds : List Counted) → IsUp ds → IsUp (placed c ds)
placed-up c [] up = (tt, tt)
placed-up c (d ∷ ds) up = by (comes_before c d) refl (placed-up c ds up.1)
  where
    by : (b : Bool) → comes_before c d ≡ b → IsUp (placed c ds) → IsUp (cond b (c ∷ d ∷ ds) (d ∷ placed c ds))
    by true e more =
        let own : comes_before d c ≡ false = weak.one_way c d e in
        ((own, weaker (λ z. comes_before z d ≡ false) (λ z. comes_before z c ≡ false) ds (λ z f. weak.chain z d c f own) up.0), up)
    by false e more = (placed-all (λ z. comes_before z d ≡ false) c ds e up.0, more)

pub order-up : (cs ds : List Counted) → IsUp ds → IsUp (fold (λ es c. placed c es) ds cs)
order-up [] ds up = up
order-up (c ∷ cs) ds up = order-up cs (placed c ds) (placed-up c ds up)

pub order-all : (P : Counted → Type 0) (cs ds : List Counted) → AllByRecursion P cs → AllByRecursion P ds → AllByRecursion P (fold (λ es c. placed c es) ds cs)
order-all P [] ds each more = more
order-all P (c ∷ cs) ds each more = order-all P cs (placed c ds) each.1 (placed-all P c ds each.0 more)

module _ (f : Counted → ℕ) where
  placed-sum : (c : Counted) (ds : List Counted) → sum_by f (placed c ds) ≡ f c + sum_by f ds
  placed-sum c [] = sum_by-cons f c []
  placed-sum c (d ∷ ds) = by (comes_before c d) (placed-sum c ds)
    where
      by : (b : Bool) → sum_by f (placed c ds) ≡ f c + sum_by f ds → sum_by f (cond b (c ∷ d ∷ ds) (d ∷ placed c ds)) ≡ f c + sum_by f (d ∷ ds)
      by true more = sum_by-cons f c (d ∷ ds)
      by false more = omega (arith, more, sum_by-cons f d (placed c ds), sum_by-cons f d ds)

  pub order-sum : (cs ds : List Counted) → sum_by f (fold (λ es c. placed c es) ds cs) ≡ sum_by f cs + sum_by f ds
  order-sum [] ds = omega arith
  order-sum (c ∷ cs) ds = order-sum cs (placed c ds) ∙ omega (arith, placed-sum c ds, sum_by-cons f c cs)

-- a sorted list
none-before : (x : Counted) (ys : List Counted) → ((j : ℕ) → j < length ys → comes_before (get_or ys j x) x ≡ false) → AllByRecursion (λ z. comes_before z x ≡ false) ys
none-before x [] h = tt
none-before x (y ∷ ys) h = (h 0 (omega arith), none-before x ys (λ j within. h (suc j) (omega (arith, within))))

up-far : (xs : List Counted) → ((i j : ℕ) (d : Counted) → i ≤ j → j < length xs → comes_before (get_or xs j d) (get_or xs i d) ≡ false) → IsUp xs
up-far [] h = tt
up-far (x ∷ xs) h = (
  none-before x xs (λ j within. h 0 (suc j) x (omega arith) (omega (arith, within))),
  up-far xs (λ i j d p q. h (suc i) (suc j) d (omega (arith, p)) (omega (arith, q))),
)

itself : (x : Counted) → comes_before x x ≡ false
itself x = by (comes_before x x) refl
  where
    by : (b : Bool) → comes_before x x ≡ b → b ≡ false
    by true e = sym e ∙ weak.one_way x x e
    by false e = refl

abbrev one_unless : Bool → ℕ
one_unless b = cond b 0 1

-- 0 for the groups after one
abbrev not_after : Counted → Counted → ℕ
not_after x z = one_unless (comes_before x z)

-- the first group of one list does not come before that of another with the same groups
first-low : (x y : Counted) (xs ys : List Counted) → comes_before x y ≡ true → IsUp (y ∷ ys) → ((f : Counted → ℕ) → sum_by f (x ∷ xs) ≡ sum_by f (y ∷ ys)) → ⊥
first-low x y xs ys e up same =
    let rest : AllByRecursion (λ z. not_after x z ≡ 0) ys = weaker (λ z. comes_before z y ≡ false) (λ z. not_after x z ≡ 0) ys none up.0 in
    omega (
      arith,
      same (not_after x),
      sum_by-cons (not_after x) x xs,
      ap one_unless (itself x),
      sum_by-cons (not_after x) y ys,
      ap one_unless e,
      sum-none (not_after x) ys rest,
    )
  where
    none : (z : Counted) → comes_before z y ≡ false → not_after x z ≡ 0
    none z behind = by (comes_before x z) refl
      where
        by : (b : Bool) → comes_before x z ≡ b → one_unless b ≡ 0
        by true g = refl
        by false g = absurd (both_ways (comes_before x y) (weak.chain x z y g behind) e)

one-list : (xs ys : List Counted) → IsUp xs → IsUp ys → ((f : Counted → ℕ) → sum_by f xs ≡ sum_by f ys) → xs ≡ ys
one-list [] [] up rise same = refl
one-list [] (y ∷ ys) up rise same = absurd (omega (arith, same (λ z. 1), sum_by-cons (λ (z : Counted). 1) y ys))
one-list (x ∷ xs) [] up rise same = absurd (omega (arith, same (λ z. 1), sum_by-cons (λ (z : Counted). 1) x xs))
one-list (x ∷ xs) (y ∷ ys) up rise same = by (comes_before x y) refl (comes_before y x) refl (one-list xs ys up.1 rise.1)
  where
    by : (a : Bool) → comes_before x y ≡ a → (b : Bool) → comes_before y x ≡ b → (((f : Counted → ℕ) → sum_by f xs ≡ sum_by f ys) → xs ≡ ys) → x ∷ xs ≡ y ∷ ys
    by true e b f rest = absurd (first-low x y xs ys e rise same)
    by false e true f rest = absurd (first-low y x ys xs f up (λ g. sym (same g)))
    by false e false f rest =
        let head : x ≡ y = tied x y e f in
        let others : xs ≡ ys = rest (λ g. omega (arith, same g, sum_by-cons g x xs, sum_by-cons g y ys, ap g head)) in
        (λ i. head i ∷ others i)

pub sorted-is : (xs ys : List Counted) → IsPermutation xs ys → IsSortedBy comes_before ys → ys ≡ in_order xs
sorted-is xs ys moved sorted =
    one-list ys (in_order xs) (up-far ys (λ i j d. sorted_far comes_before weak ys sorted i j d)) (order-up xs [] tt)
    (λ f. sum_by-IsPermutation f xs ys moved ∙ sym (order-sum f xs [] ∙ omega arith))
