-- Lemmas on lists: what a search finds, what an edit leaves, and what a permutation keeps.
use Rattle.std.proofs.Common.{◌≡◌, ℕ, zero, suc, ◌+◌, ◌<◌, Bool, true, false, cond, ◌==◌, List, [], ◌∷◌, ◌++◌, map, length, get_or, set, All, AllPairs, Contains, filter, find, swap, Option, Some, None, IsSome, refl, sym, ap, subst, ◌∙◌, inl, inr, ⊎_elim, ◌⊎◌, arith}
use Rattle.std.specs.List.{list_any, AllByRecursion}
use Rattle.std.specs.List.Sorted.{IsPermutation, IsStrictlyIncreasing}
use Rattle.std.proofs.lemmas.Bool.{both_ways, cases_order}
use Rattle.std.proofs.lemmas.Bool.Decides.{Decides-eqb}
use Rattle.std.proofs.lemmas.List.{get_or-map, get_or_default, length-map}
use Rattle.std.proofs.lemmas.List.Elements.{All-append, All-contains, All-contains_itself, All-filter, All-map, All-weaker, filter_passes}
use Rattle.std.proofs.lemmas.List.Folds.{Any-from_list_any, list_any-from_Any}
use Rattle.std.proofs.lemmas.List.Kept.{AllPairs-cons, AllPairs-from_increasing}
use Rattle.std.proofs.lemmas.List.Quantifiers.{all_pairs_push}
use Rattle.std.proofs.lemmas.List.Sorted.{IsPermutation-refl, IsPermutation-keeps, IsPermutation-trans, IsPermutation-cons, IsPermutation-swap}

-- an element is the first one or one of the others
pub Contains-cases : {X : Type 0} (y : X) (ys : List X) (x : X) → Contains (y ∷ ys) x → (y ≡ x) ⊎ Contains ys x
Contains-cases y ys x c = at c.0 c.1 c.2
  where
    at : (k : ℕ) → k < length (y ∷ ys) → get_or (y ∷ ys) k x ≡ x → (y ≡ x) ⊎ Contains ys x
    at zero within is = inl is
    at (suc k) within is = inr (k, omega arith, is)

pub Contains-head : {X : Type 0} (x : X) (xs : List X) → Contains (x ∷ xs) x
Contains-head x xs = (0, omega arith, refl)

pub Contains-tail : {X : Type 0} (y : X) (ys : List X) (x : X) → Contains ys x → Contains (y ∷ ys) x
Contains-tail y ys x c = let within = c.1 in (suc c.0, omega arith, c.2)

pub none_in_nil : {X : Type 0} (x : X) → Contains [] x → ⊥
none_in_nil x c = let within = c.1 in omega arith

-- what a search finds is in the list and passes the test
pub find-Some : {X : Type 0} (p : X → Bool) (xs : List X) (x : X) → find p xs ≡ Some x → Contains xs x × (p x ≡ true)
find-Some p [] x is = absurd (cc)
find-Some {X} p (y ∷ ys) x is = by (p y) refl (find-Some p ys x) is
  where
    by : (b : Bool) → p y ≡ b → (find p ys ≡ Some x → Contains ys x × (p x ≡ true)) → cond b (Some y) (find p ys) ≡ Some x
        → Contains (y ∷ ys) x × (p x ≡ true)
    by true h more found =
        let same : y ≡ x = cc in
        (subst (Contains (y ∷ ys)) same (Contains-head y ys), subst (λ (z : X). p z ≡ true) same h)
    by false h more found = let rest = more found in (Contains-tail y ys x rest.0, rest.1)

-- if a search finds nothing, no element passes the test
pub find-None : {X : Type 0} (p : X → Bool) (xs : List X) (x : X) → find p xs ≡ None → Contains xs x → p x ≡ false
find-None p [] x none c = absurd (none_in_nil x c)
find-None {X} p (y ∷ ys) x none c = by (p y) refl (find-None p ys x) none (Contains-cases y ys x c)
  where
    by : (b : Bool) → p y ≡ b → (find p ys ≡ None → Contains ys x → p x ≡ false) → cond b (Some y) (find p ys) ≡ None
        → (y ≡ x) ⊎ Contains ys x → p x ≡ false
    by true h more found cases = absurd (cc)
    by false h more found (inl same) = subst (λ (z : X). p z ≡ false) same h
    by false h more found (inr rest) = more found rest

-- if only one element passes, the search finds it
pub find_only : {X : Type 0} (p : X → Bool) (xs : List X) (x : X) → Contains xs x → p x ≡ true
    → ((y : X) → Contains xs y → p y ≡ true → y ≡ x) → find p xs ≡ Some x
find_only {X} p xs x c passes only = by (find p xs) refl
  where
    by : (o : Option X) → find p xs ≡ o → o ≡ Some x
    by None found = absurd (both_ways (p x) (find-None p xs x found c) passes)
    by (Some y) found = let h = find-Some p xs y found in ap Some (only y h.0 h.1)

pub find-IsSome : {X : Type 0} (p : X → Bool) (xs : List X) (x : X) → Contains xs x → p x ≡ true → IsSome (find p xs)
find-IsSome {X} p xs x c passes = by (find p xs) refl
  where
    by : (o : Option X) → find p xs ≡ o → IsSome o
    by None found = absurd (both_ways (p x) (find-None p xs x found c) passes)
    by (Some y) found = refl

pub find_none_from : {X : Type 0} (p : X → Bool) (xs : List X) → ((x : X) → Contains xs x → p x ≡ true → ⊥) → find p xs ≡ None
find_none_from {X} p xs none = by (find p xs) refl
  where
    by : (o : Option X) → find p xs ≡ o → o ≡ None
    by None found = refl
    by (Some x) found = let h = find-Some p xs x found in absurd (none x h.0 h.1)

-- a filter keeps exactly the elements that pass
pub Contains-from_filter : {X : Type 0} (p : X → Bool) (xs : List X) (x : X) → Contains (filter p xs) x → Contains xs x × (p x ≡ true)
Contains-from_filter p xs x c = (
  All-contains (Contains xs) (filter p xs) x (All-filter p (Contains xs) xs (All-contains_itself xs)) c,
  All-contains (λ y. p y ≡ true) (filter p xs) x (filter_passes p xs) c,
)

pub Contains-filter : {X : Type 0} (p : X → Bool) (xs : List X) (x : X) → Contains xs x → p x ≡ true → Contains (filter p xs) x
Contains-filter p [] x c passes = c
Contains-filter {X} p (y ∷ ys) x c passes = by (p y) refl (λ rest. Contains-filter p ys x rest passes) (Contains-cases y ys x c)
  where
    by : (b : Bool) → p y ≡ b → (Contains ys x → Contains (filter p ys) x) → (y ≡ x) ⊎ Contains ys x → Contains (cond b (y ∷ filter p ys) (filter p ys)) x
    by true h more (inl same) = subst (Contains (y ∷ filter p ys)) same (Contains-head y (filter p ys))
    by true h more (inr rest) = Contains-tail y (filter p ys) x (more rest)
    by false h more (inl same) = absurd (both_ways (p x) (subst (λ (z : X). p z ≡ false) same h) passes)
    by false h more (inr rest) = more rest

-- the elements of a mapped list are the images of the list's
pub Contains-from_map : {X Y : Type 0} (f : X → Y) (xs : List X) (y : Y) → Contains (map f xs) y → (x : X) × Contains xs x × (f x ≡ y)
Contains-from_map {X} {Y} f xs y c =
    All-contains (λ (z : Y). (x : X) × Contains xs x × (f x ≡ z)) (map f xs) y
    (All-map (λ (z : Y). (x : X) × Contains xs x × (f x ≡ z)) f xs
    (All-weaker (Contains xs) (λ (w : X). (x : X) × Contains xs x × (f x ≡ f w)) (λ w has. (w, has, refl)) xs (All-contains_itself xs))) c

pub Contains-map : {X Y : Type 0} (f : X → Y) (xs : List X) (x : X) → Contains xs x → Contains (map f xs) (f x)
Contains-map f [] x c = absurd (none_in_nil x c)
Contains-map {X} {Y} f (y ∷ ys) x c =
    ⊎_elim
    (λ same. subst (λ (z : X). Contains (f y ∷ map f ys) (f z)) same (Contains-head (f y) (map f ys)))
    (λ rest. Contains-tail (f y) (map f ys) (f x) (Contains-map f ys x rest))
    (Contains-cases y ys x c)

-- what holds of the images of a list holds of any list with the same images
pub AllPairs-from_map : {X Y : Type 0} (R : Y → Y → Type 0) (f : X → Y) (xs : List X) → AllPairs R (map f xs) → AllPairs (λ x y. R (f x) (f y)) xs
AllPairs-from_map {X} {Y} R f xs h i j d below within =
    let long = length-map xs f in
    let one : get_or (map f xs) i (f d) ≡ f (get_or xs i d) = get_or-map f xs i d (f d) (omega arith) in
    let two : get_or (map f xs) j (f d) ≡ f (get_or xs j d) = get_or-map f xs j d (f d) within in
    subst (λ (y : Y). R (f (get_or xs i d)) y) two (subst (λ (x : Y). R x (get_or (map f xs) j (f d))) one (h i j (f d) below (omega arith)))

pub AllPairs-map : {X Y : Type 0} (R : Y → Y → Type 0) (f : X → Y) (xs : List X) → AllPairs (λ x y. R (f x) (f y)) xs → AllPairs R (map f xs)
AllPairs-map R f [] h i j d below within = absurd (omega arith)
AllPairs-map {X} {Y} R f (x ∷ xs) h i j d below within =
    let long = length-map (x ∷ xs) f in
    let one : get_or (map f (x ∷ xs)) i d ≡ f (get_or (x ∷ xs) i x) = get_or-map f (x ∷ xs) i x d (omega arith) in
    let two : get_or (map f (x ∷ xs)) j d ≡ f (get_or (x ∷ xs) j x) = get_or-map f (x ∷ xs) j x d (omega arith) in
    subst (λ (z : Y). R (get_or (map f (x ∷ xs)) i d) z) (sym two) (subst (λ (z : Y). R z (f (get_or (x ∷ xs) j x))) (sym one) (h i j x below (omega arith)))

pub AllPairs-same_images : {X Y : Type 0} (R : Y → Y → Type 0) (f : X → Y) (xs ys : List X) → map f ys ≡ map f xs
    → AllPairs (λ x y. R (f x) (f y)) xs → AllPairs (λ x y. R (f x) (f y)) ys
AllPairs-same_images R f xs ys same h = AllPairs-from_map R f ys (subst (AllPairs R) (sym same) (AllPairs-map R f xs h))

pub All-from_map : {X Y : Type 0} (P : Y → Type 0) (f : X → Y) (xs : List X) → All P (map f xs) → All (λ x. P (f x)) xs
All-from_map {X} {Y} P f xs h k d within =
    let long = length-map xs f in
    subst P (get_or-map f xs k d (f d) within) (h k (f d) (omega arith))

pub All-same_images : {X Y : Type 0} (P : Y → Type 0) (f : X → Y) (xs ys : List X) → map f ys ≡ map f xs
    → All (λ x. P (f x)) xs → All (λ x. P (f x)) ys
All-same_images P f xs ys same h = All-from_map P f ys (subst (All P) (sym same) (All-map P f xs h))

-- what holds of each element that a list contains holds of all
pub All-from_Contains : {X : Type 0} (P : X → Type 0) (xs : List X) → ((x : X) → Contains xs x → P x) → All P xs
All-from_Contains P xs each k d within = each (get_or xs k d) (All-contains_itself xs k d within)

-- If each element is related to all later ones, two elements of which neither is related to the
-- other are one.
pub same_unless_related : {X : Type 0} (R : X → X → Type 0) (xs : List X) (x y : X) → AllPairs R xs → Contains xs x → Contains xs y → (R x y → ⊥) → (R y x → ⊥) → x ≡ y
same_unless_related {X} R xs x y apart c e before after = by (cases_order c.0 e.0)
  where
    there : get_or xs e.0 x ≡ y
    there = get_or_default xs e.0 x y e.1 ∙ e.2

    by : (c.0 ≡ e.0) ⊎ ((c.0 < e.0) ⊎ (e.0 < c.0)) → x ≡ y
    by (inl one) = sym c.2 ∙ ap (λ k. get_or xs k x) one ∙ there
    by (inr (inl below)) = absurd (before (subst (R x) there (subst (λ (z : X). R z (get_or xs e.0 x)) c.2 (apart c.0 e.0 x below e.1))))
    by (inr (inr above)) = absurd (after (subst (λ (z : X). R z x) there (subst (R (get_or xs e.0 x)) c.2 (apart e.0 c.0 x above c.1))))

-- where numbers rise along a list, two elements of one number are one element
pub same_by_number : {X : Type 0} (f : X → ℕ) (xs : List X) (x y : X) → IsStrictlyIncreasing (map f xs) → Contains xs x → Contains xs y → f x ≡ f y → x ≡ y
same_by_number {X} f xs x y rising c e same =
    same_unless_related (λ (a : X) (b : X). f a < f b) xs x y (AllPairs-from_map (λ m n. m < n) f xs (AllPairs-from_increasing (map f xs) rising)) c e
    (λ below. omega arith) (λ above. omega arith)

-- `list_any` by equality is membership
pub list_any-Contains : (n : ℕ) (ns : List ℕ) → list_any (λ m. m == n) ns ≡ true → Contains ns n
list_any-Contains n ns h =
    let a = Any-from_list_any (λ m. m == n) ns h in
    subst (Contains ns) ((Decides-eqb a.1 n).0 a.4) (a.0, a.2, a.3)

pub Contains-list_any : (n : ℕ) (ns : List ℕ) → Contains ns n → list_any (λ m. m == n) ns ≡ true
Contains-list_any n ns c = list_any-from_Any (λ m. m == n) ns (c.0, n, c.1, c.2, (Decides-eqb n n).1 refl)

-- A relation holds between a list and each of its permutations if it is reflexive and transitive,
-- holds under a common head, and holds when the first two elements are exchanged.
module _ {X : Type 0} (R : List X → List X → Type 0) (same : (xs : List X) → R xs xs)
    (under : (x : X) (xs ys : List X) → R xs ys → R (x ∷ xs) (x ∷ ys))
    (over : (x y : X) (xs : List X) → R (x ∷ y ∷ xs) (y ∷ x ∷ xs))
    (chain : (xs ys zs : List X) → R xs ys → R ys zs → R xs zs) where
  to_head : (xs : List X) (j : ℕ) (x d : X) → j < length xs → R (x ∷ xs) (get_or xs j d ∷ set xs j x)
  to_head [] j x d within = absurd (omega arith)
  to_head (y ∷ ys) zero x d within = over x y ys
  to_head (y ∷ ys) (suc j) x d within =
      chain (x ∷ y ∷ ys) (y ∷ x ∷ ys) _ (over x y ys)
      (chain _ (y ∷ get_or ys j d ∷ set ys j x) _ (under y _ _ (to_head ys j x d (omega arith))) (over y (get_or ys j d) (set ys j x)))

  exchanged : (xs : List X) (i j : ℕ) (d : X) → i < length xs → j < length xs → R xs (set (set xs i (get_or xs j d)) j (get_or xs i d))
  exchanged [] i j d first second = absurd (omega arith)
  exchanged (x ∷ xs) zero zero d first second = same (x ∷ xs)
  exchanged (x ∷ xs) zero (suc j) d first second = to_head xs j x d (omega arith)
  exchanged (x ∷ xs) (suc i) zero d first second = to_head xs i x d (omega arith)
  exchanged (x ∷ xs) (suc i) (suc j) d first second = under x _ _ (exchanged xs i j d (omega arith) (omega arith))

  swapped : (xs : List X) (i j : ℕ) → i < length xs → j < length xs → R xs (swap xs i j)
  swapped [] i j first second = same []
  swapped (x ∷ xs) i j first second = exchanged (x ∷ xs) i j x first second

  pub along_permutation : (xs ys : List X) → IsPermutation xs ys → R xs ys
  along_permutation xs = IsPermutation-keeps xs (R xs) (same xs) (λ zs i j first second h. chain xs zs _ h (swapped zs i j first second))

-- a filter keeps a permutation of what it kept
pub IsPermutation-filter : {X : Type 0} (p : X → Bool) (xs ys : List X) → IsPermutation xs ys → IsPermutation (filter p xs) (filter p ys)
IsPermutation-filter {X} p = along_permutation (λ xs ys. IsPermutation (filter p xs) (filter p ys)) (λ xs. IsPermutation-refl (filter p xs)) under over (λ xs ys zs. IsPermutation-trans _ _ _)
  where
    under : (x : X) (xs ys : List X) → IsPermutation (filter p xs) (filter p ys) → IsPermutation (filter p (x ∷ xs)) (filter p (x ∷ ys))
    under x xs ys h =
        elim (p x) as (λ b. IsPermutation (cond b (x ∷ filter p xs) (filter p xs)) (cond b (x ∷ filter p ys) (filter p ys)))
        [ true ↦ IsPermutation-cons x _ _ h | false ↦ h ]

    over : (x y : X) (xs : List X) → IsPermutation (filter p (x ∷ y ∷ xs)) (filter p (y ∷ x ∷ xs))
    over x y xs =
        elim (p x) as (λ b. IsPermutation (cond b (x ∷ filter p (y ∷ xs)) (filter p (y ∷ xs))) (cond (p y) (y ∷ cond b (x ∷ filter p xs) (filter p xs)) (cond b (x ∷ filter p xs) (filter p xs)))) [
          | true ↦
              elim (p y) as (λ b. IsPermutation (x ∷ cond b (y ∷ filter p xs) (filter p xs)) (cond b (y ∷ x ∷ filter p xs) (x ∷ filter p xs)))
              [ true ↦ IsPermutation-swap (x ∷ y ∷ filter p xs) (y ∷ x ∷ filter p xs) 0 1 (omega arith) (omega arith) refl | false ↦ IsPermutation-refl _ ]
          | false ↦ IsPermutation-refl _
        ]

pub filter_none_out : {X : Type 0} (p : X → Bool) (xs : List X) → AllByRecursion (λ x. p x ≡ true) xs → filter p xs ≡ xs
filter_none_out p [] h = refl
filter_none_out p (x ∷ xs) h = ap (λ b. cond b (x ∷ filter p xs) (filter p xs)) h.0 ∙ ap (λ ys. x ∷ ys) (filter_none_out p xs h.1)

pub filter-map : {X Y : Type 0} (p : Y → Bool) (f : X → Y) (xs : List X) → filter p (map f xs) ≡ map f (filter (λ x. p (f x)) xs)
filter-map p f [] = refl
filter-map p f (x ∷ xs) =
    elim (p (f x)) as (λ b. cond b (f x ∷ filter p (map f xs)) (filter p (map f xs)) ≡ map f (cond b (x ∷ filter (λ y. p (f y)) xs) (filter (λ y. p (f y)) xs)))
    [ true ↦ ap (λ l. f x ∷ l) (filter-map p f xs) | false ↦ filter-map p f xs ]

-- numbers rise if each is below all later ones
pub increasing_from_pairs : (ns : List ℕ) → AllPairs (λ m n. m < n) ns → IsStrictlyIncreasing ns
increasing_from_pairs ns h k within = h k (k + 1) 0 (omega arith) within

-- pairs within either list, and pairs across both, are all pairs of the two joined
pub pairs_append_by : {X : Type 0} (R : X → X → Type 0) (xs ys : List X) → AllPairs R xs → AllPairs R ys → All (λ x. All (R x) ys) xs → AllPairs R (xs ++ ys)
pairs_append_by R [] ys one two apart = two
pairs_append_by R (x ∷ xs) ys one two apart =
    let rest = pairs_append_by R xs ys (λ i j d below within. one (suc i) (suc j) d (omega arith) (omega arith)) two (λ k d within. apart (suc k) d (omega arith)) in
    AllPairs-cons R x (xs ++ ys) (All-append (R x) xs ys (λ k d within. one 0 (suc k) d (omega arith) (omega arith)) (apart 0 x (omega arith))) rest

-- rising numbers with a greater one appended rise
pub rising-push : (ns : List ℕ) (m : ℕ) → IsStrictlyIncreasing ns → All (λ n. n < m) ns → IsStrictlyIncreasing (ns ++ m ∷ [])
rising-push ns m rising below =
    increasing_from_pairs (ns ++ m ∷ []) (all_pairs_push (λ i j. i < j) ns m (AllPairs-from_increasing ns rising) (λ k d within. below k d within))
