-- The groups of the sources in order: each is there once, and none after it has more slots.
use Rattle.std.proofs.Common.{◌≡◌, ℕ, zero, suc, ◌+◌, ◌<◌, ◌≤◌, ◌==◌, ◌||◌, not, Bool, true, false, cond, List, [], ◌∷◌, length, map, take, drop, refl, ap, ◌∙◌, arith}
use Rattle.std.specs.Prelude.{bytes_eq, nat_lt}
use Rattle.std.specs.Cmp.Lexicographic.{slice_cmp}
use Rattle.std.specs.List.{AllByRecursion, count_by, list_any}
use Rattle.std.specs.Ordering.{is_lt, nat_cmp, ordering_then}
use Rattle.std.specs.declared.cmp.Ordering.TheVariants.{Less, Equal, Greater}
use Rattle.std.proofs.lemmas.Bool.{both_ways, ltb-false}
use Rattle.std.proofs.lemmas.List.{length-map, length-take, take-map}
use Rattle.std.proofs.lemmas.List.Sums.{sum_by-take-le}
use Rattle.table_groups.specs.Order.{comes_before, in_order}
use Rattle.table_groups.specs.Slots.{all_slots, is_of}
use Rattle.table_groups.specs.Sources.{counted_source, slot_groups, source_of, sources_of}
use Rattle.table_groups.specs.Tally.{once}
use Rattle.table_groups.specs.declared.ranked_groups.Counted.{Counted}
use Rattle.table_groups.specs.declared.sources.Source.{Source}
use Rattle.table_groups.proofs.Once.{once-count, same-back}
use Rattle.table_groups.proofs.Sorted.{IsUp, order-all, order-sum, order-up}
use Rattle.table_groups.proofs.Visits.{count-cons, count-map, one_if}
use Rattle.table_picture.specs.Picture.{listed_of}
use Rattle.picture_laws.specs.Slots.{listed_groups}
use Rattle.table_groups.specs.View.{View}

pub map-map : {A B C : Type 0} (f : B → C) (g : A → B) (xs : List A) → map f (map g xs) ≡ map (λ x. f (g x)) xs
map-map f g [] = refl
map-map f g (x ∷ xs) = ap (λ ys. f (g x) ∷ ys) (map-map f g xs)

-- ---- counts

module _ {X : Type 0} (p : X → Bool) where
  pub none-count : (xs : List X) → list_any p xs ≡ false → count_by p xs ≡ 0
  none-count [] none = refl
  none-count (x ∷ xs) none = by (p x) refl none (none-count xs)
    where
      by : (b : Bool) → p x ≡ b → (b || list_any p xs) ≡ false → (list_any p xs ≡ false → count_by p xs ≡ 0) → count_by p (x ∷ xs) ≡ 0
      by true e none more = absurd (both_ways true none refl)
      by false e none more = count-cons p x xs ∙ omega (arith, ap one_if e, more none)

  pub some-any : (xs : List X) → 0 < count_by p xs → list_any p xs ≡ true
  some-any [] some = absurd (omega (arith, some))
  some-any (x ∷ xs) some = by (p x) refl (some-any xs)
    where
      by : (b : Bool) → p x ≡ b → (0 < count_by p xs → list_any p xs ≡ true) → (b || list_any p xs) ≡ true
      by true e more = refl
      by false e more = more (omega (arith, some, count-cons p x xs, ap one_if e))

  -- what is there at most once is there, or not
  pub there-or-not : (xs : List X) → count_by p xs ≤ 1 → count_by p xs + one_if (not (list_any p xs)) ≡ 1
  there-or-not [] few = refl
  there-or-not (x ∷ xs) few = by (p x) refl (there-or-not xs)
    where
      by : (b : Bool) → p x ≡ b → (count_by p xs ≤ 1 → count_by p xs + one_if (not (list_any p xs)) ≡ 1) → count_by p (x ∷ xs) + one_if (not (b || list_any p xs)) ≡ 1
      by true e more = omega (arith, few, count-cons p x xs, ap one_if e)
      by false e more = omega (arith, few, count-cons p x xs, ap one_if e, more (omega (arith, few, count-cons p x xs, ap one_if e)))

  -- those of the first ones and those of the others
  pub count-cut : (n : ℕ) (xs : List X) → count_by p xs ≡ count_by p (take n xs) + count_by p (drop n xs)
  count-cut zero xs = omega arith
  count-cut (suc n) [] = refl
  count-cut (suc n) (x ∷ xs) = count-cons p x xs ∙ omega (arith, count-cut n xs, count-cons p x (take n xs))

  -- others are there only after all of the first ones
  pub long-take : (n : ℕ) (xs : List X) → 0 < count_by p (drop n xs) → length (take n xs) ≡ n
  long-take zero xs some = refl
  long-take (suc n) [] some = absurd (omega (arith, some))
  long-take (suc n) (x ∷ xs) some = ap suc (long-take n xs some)

  -- one that passes has what all have
  pub one-that : (Q : X → Type 0) (xs : List X) → 0 < count_by p xs → AllByRecursion Q xs → (x : X) × (p x ≡ true) × Q x
  one-that Q [] some each = absurd (omega (arith, some))
  one-that Q (x ∷ xs) some each = by (p x) refl (one-that Q xs)
    where
      by : (b : Bool) → p x ≡ b → (0 < count_by p xs → AllByRecursion Q xs → (y : X) × (p y ≡ true) × Q y) → (y : X) × (p y ≡ true) × Q y
      by true e more = (x, e, each.0)
      by false e more = more (omega (arith, some, count-cons p x xs, ap one_if e)) each.1

pub all-drop : {X : Type 0} (P : X → Type 0) (n : ℕ) (xs : List X) → AllByRecursion P xs → AllByRecursion P (drop n xs)
all-drop P zero xs each = each
all-drop P (suc n) [] each = tt
all-drop P (suc n) (x ∷ xs) each = all-drop P n xs each.1

pub all-take : {X : Type 0} (P : X → Type 0) (n : ℕ) (xs : List X) → AllByRecursion P xs → AllByRecursion P (take n xs)
all-take P zero xs each = tt
all-take P (suc n) [] each = tt
all-take P (suc n) (x ∷ xs) each = (each.0, all-take P n xs each.1)

pub all-both : {X : Type 0} (P Q R : X → Type 0) (xs : List X) → AllByRecursion P xs → AllByRecursion Q xs → ((x : X) → P x → Q x → R x) → AllByRecursion R xs
all-both P Q R [] p q so = tt
all-both P Q R (x ∷ xs) p q so = (so x p.0 q.0, all-both P Q R xs p.1 q.1 so)

pub all-map : {X Y : Type 0} (P : Y → Type 0) (f : X → Y) (xs : List X) → AllByRecursion (λ x. P (f x)) xs → AllByRecursion P (map f xs)
all-map P f [] each = tt
all-map P f (x ∷ xs) each = (each.0, all-map P f xs each.1)

-- ---- the order

-- who does not come before another has no more slots
no-more : (z x : Counted) → comes_before z x ≡ false → z.slots ≤ x.slots
no-more z x not_before = by (nat_lt x.slots z.slots) refl not_before
  where
    by : (b : Bool) → nat_lt x.slots z.slots ≡ b → is_lt (ordering_then (cond b Less (cond (x.slots == z.slots) Equal Greater)) (slice_cmp nat_cmp z.group.items x.group.items)) ≡ false → z.slots ≤ x.slots
    by true e is = absurd (both_ways true is refl)
    by false e is = ltb-false x.slots z.slots e

-- the first ones have as many slots as one after them
pub first-have : (p : Counted → Bool) (m n : ℕ) (xs : List Counted) → IsUp xs → 0 < count_by p (drop n xs) → AllByRecursion (λ c. p c ≡ true → c.slots ≡ m) xs
    → AllByRecursion (λ x. m ≤ x.slots) (take n xs)
first-have p m zero xs up some own = tt
first-have p m (suc n) [] up some own = tt
first-have p m (suc n) (x ∷ xs) up some own =
    let found = one-that p (λ c. (comes_before c x ≡ false) × (p c ≡ true → c.slots ≡ m)) (drop n xs) some
    (all-drop (λ c. (comes_before c x ≡ false) × (p c ≡ true → c.slots ≡ m)) n xs
    (all-both (λ c. comes_before c x ≡ false) (λ c. p c ≡ true → c.slots ≡ m) (λ c. (comes_before c x ≡ false) × (p c ≡ true → c.slots ≡ m)) xs up.0 own.1 (λ c a b. (a, b)))) in
    let slots : found.0.slots ≡ m = found.2.1 found.1 in
    (omega (arith, slots, no-more found.0 x found.2.0), first-have p m n xs up.1 some own.1)

module _ (view : View) where
  abbrev pub ordered : List Counted
  ordered = in_order (map (counted_source view) (once (slot_groups view)))

  pub ordered-up : IsUp ordered
  ordered-up = order-up (map (counted_source view) (once (slot_groups view))) [] tt

  -- each has the slots of its group
  pub ordered-own : AllByRecursion (λ c. c.slots ≡ all_slots (is_of view.places c.group.items) view) ordered
  ordered-own =
      order-all (λ c. c.slots ≡ all_slots (is_of view.places c.group.items) view) (map (counted_source view) (once (slot_groups view))) []
      (all-map (λ c. c.slots ≡ all_slots (is_of view.places c.group.items) view) (counted_source view) (once (slot_groups view)) (own (once (slot_groups view)))) tt
    where
      own : (gs : List (List ℕ)) → AllByRecursion (λ g. all_slots (is_of view.places g) view ≡ all_slots (is_of view.places g) view) gs
      own [] = tt
      own (g ∷ gs) = (refl, own gs)

  -- each group is once among them, if a slot is of it
  pub ordered-once : (g : List ℕ) → count_by (λ c. bytes_eq c.group.items g) ordered ≡ one_if (list_any (bytes_eq g) (slot_groups view))
  ordered-once g =
      order-sum (λ (c : Counted). one_if (bytes_eq c.group.items g)) (map (counted_source view) (once (slot_groups view))) [] ∙ omega arith
      ∙ count-map (λ (c : Counted). bytes_eq c.group.items g) (counted_source view) (once (slot_groups view))
      ∙ (λ i. count_by (λ h. same-back h g i) (once (slot_groups view)))
      ∙ once-count g (slot_groups view)

  -- the listed ones are the first six
  pub listed-are : listed_of view ≡ map (source_of view) (take 6 ordered)
  unfolding listed_of sources_of
  listed-are = take-map (source_of view) 6 ordered

  pub groups-are : listed_groups view ≡ map (λ c. c.group.items) (take 6 ordered)
  groups-are = ap (map (λ (s : Source). s.group.items)) listed-are ∙ map-map (λ (s : Source). s.group.items) (source_of view) (take 6 ordered)

  pub groups-few : length (listed_groups view) ≤ 6
  groups-few = omega (arith, ap length groups-are, length-map (take 6 ordered) (λ (c : Counted). c.group.items), length-take 6 ordered)

  pub groups-times : (g : List ℕ) → count_by (λ h. bytes_eq h g) (listed_groups view) ≡ count_by (λ c. bytes_eq c.group.items g) (take 6 ordered)
  groups-times g = ap (count_by (λ h. bytes_eq h g)) groups-are ∙ count-map (λ h. bytes_eq h g) (λ (c : Counted). c.group.items) (take 6 ordered)

  few-if : (b : Bool) → one_if b ≤ 1
  few-if true = omega arith
  few-if false = omega arith

  pub groups-once : (g : List ℕ) → count_by (λ h. bytes_eq h g) (listed_groups view) ≤ 1
  groups-once g =
      omega (
        arith,
        groups-times g,
        sum_by-take-le (λ (c : Counted). one_if (bytes_eq c.group.items g)) ordered 6,
        ordered-once g,
        few-if (list_any (bytes_eq g) (slot_groups view)),
      )
