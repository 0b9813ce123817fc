-- Tests over the elements of a list.
use Rattle.std.proofs.Common.{◌≡◌, ℕ, zero, suc, ◌<◌, Bool, true, false, List, [], ◌∷◌, length, filter, cond, ◌&&◌, ◌⊎◌, inl, inr, refl, ap, sym, ◌∙◌, arith, get_or, Contains}
use Rattle.std.specs.List.{list_any}
use Rattle.std.proofs.lemmas.List.Elements.{All-contains, All-filter, All-contains_itself, filter_passes}
use Rattle.std.proofs.lemmas.List.Folds.{Any-from_list_any, list_any_at}

-- an element that passes makes the test of the list true
pub any_from : {X : Type 0} (p : X → Bool) (xs : List X) (x : X) → Contains xs x → p x ≡ true → list_any p xs ≡ true
any_from p xs x has h = list_any_at p xs has.0 x has.1 (ap p has.2 ∙ h)

-- an element that passes
pub record Passes {X : Type 0} (p : X → Bool) (xs : List X) : Type 0 where
  pub item : X
  pub there : Contains xs item
  pub passes : p item ≡ true

pub any_item : {X : Type 0} (p : X → Bool) (xs : List X) → list_any p xs ≡ true → Passes p xs
any_item p xs h =
    let f = Any-from_list_any p xs h in
    record { item = f.1; there = (f.0, f.2, f.3); passes = f.4 }

pub contains_cons : {X : Type 0} (x y : X) (xs : List X) → Contains xs y → Contains (x ∷ xs) y
contains_cons x y xs has = (suc has.0, omega (arith, has.1), has.2)

pub contains_head : {X : Type 0} (x : X) (xs : List X) → Contains (x ∷ xs) x
contains_head x xs = (0, omega arith, refl)

-- two tests that agree on the elements keep the same
pub filter_same : {X : Type 0} (p q : X → Bool) (xs : List X) → ((x : X) → Contains xs x → p x ≡ q x) → filter p xs ≡ filter q xs
filter_same p q [] h = refl
filter_same p q (x ∷ xs) h =
    let e : p x ≡ q x = h x (contains_head x xs) in
    let more : filter p xs ≡ filter q xs = filter_same p q xs (λ y has. h y (contains_cons x y xs has)) in
    ap (λ b. cond b (x ∷ filter p xs) (filter p xs)) e ∙ ap (λ ys. cond (q x) (x ∷ ys) ys) more

-- what is kept is an element that passes
pub filter_item : {X : Type 0} (p : X → Bool) (xs : List X) (x : X) → Contains (filter p xs) x → Contains xs x × (p x ≡ true)
filter_item p xs x has = (
  All-contains (Contains xs) (filter p xs) x (All-filter p (Contains xs) xs (All-contains_itself xs)) has,
  All-contains (λ y. p y ≡ true) (filter p xs) x (filter_passes p xs) has,
)

twice_by : {X : Type 0} (p q : X → Bool) (x : X) (xs : List X) (b : Bool) → filter p (filter q xs) ≡ filter (λ x. q x && p x) xs → filter p (cond b (x ∷ filter q xs) (filter q xs)) ≡ cond (b && p x) (x ∷ filter (λ x. q x && p x) xs) (filter (λ x. q x && p x) xs)
twice_by p q x xs true e = ap (λ ys. cond (p x) (x ∷ ys) ys) e
twice_by p q x xs false e = e

-- a filter of a filter
pub filter_twice : {X : Type 0} (p q : X → Bool) (xs : List X) → filter p (filter q xs) ≡ filter (λ x. q x && p x) xs
filter_twice p q [] = refl
filter_twice p q (x ∷ xs) = twice_by p q x xs (q x) (filter_twice p q xs)

cases_at : {X : Type 0} (y : X) (xs : List X) (x : X) (k : ℕ) → k < length (y ∷ xs) → get_or (y ∷ xs) k x ≡ x → (y ≡ x) ⊎ Contains xs x
cases_at y xs x zero low e = inl e
cases_at y xs x (suc k) low e = inr (k, omega arith, e)

pub cons_cases : {X : Type 0} (y : X) (xs : List X) (x : X) → Contains (y ∷ xs) x → (y ≡ x) ⊎ Contains xs x
cons_cases y xs x has = cases_at y xs x has.0 has.1 has.2

kept_by : {X : Type 0} (p : X → Bool) (y : X) (xs : List X) (x : X) (b : Bool) → p y ≡ b → (y ≡ x) ⊎ Contains xs x → p x ≡ true → (Contains xs x → Contains (filter p xs) x) → Contains (cond b (y ∷ filter p xs) (filter p xs)) x
kept_by p y xs x true e (inl same) h more = (0, omega arith, same)
kept_by p y xs x true e (inr has) h more = contains_cons y x (filter p xs) (more has)
kept_by p y xs x false e (inl same) h more = absurd (let no : true ≡ false = sym h ∙ ap p (sym same) ∙ e in cc)
kept_by p y xs x false e (inr has) h more = more has

pub filter_id : {X : Type 0} (p : X → Bool) (xs : List X) → ((x : X) → Contains xs x → p x ≡ true) → filter p xs ≡ xs
filter_id p [] h = refl
filter_id p (x ∷ xs) h =
    ap (λ b. cond b (x ∷ filter p xs) (filter p xs)) (h x (contains_head x xs)) ∙ ap (λ ys. x ∷ ys) (filter_id p xs (λ y has. h y (contains_cons x y xs has)))

pub filter_none : {X : Type 0} (xs : List X) → filter (λ _. false) xs ≡ []
filter_none [] = refl
filter_none (x ∷ xs) = filter_none xs

pub item_filter : {X : Type 0} (p : X → Bool) (xs : List X) (x : X) → Contains xs x → p x ≡ true → Contains (filter p xs) x
item_filter p [] x has h = absurd (omega (arith, has.1))
item_filter p (y ∷ xs) x has h = kept_by p y xs x (p y) refl (cons_cases y xs x has) h (λ more. item_filter p xs x more h)
