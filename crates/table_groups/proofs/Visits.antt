-- The slots and buckets of a group, if the visits go by rising bucket, the new table first.
use Rattle.std.proofs.Common.{◌≡◌, ℕ, zero, suc, ◌+◌, ◌<◌, ◌≤◌, Bool, true, false, cond, List, [], ◌∷◌, ◌++◌, map, refl, sym, ap, ◌∙◌, Option, Some, arith, subst}
use Rattle.std.specs.Prelude.{bytes_eq, count_by, ◌||◌}
use Rattle.std.specs.List.{fold, flat_map, list_any, range_with_len, sum_by}
use Rattle.std.proofs.lemmas.Bool.{ne_eqb, eq-eqb}
use Rattle.std.proofs.lemmas.List.{map-append}
use Rattle.std.proofs.lemmas.List.Sums.{fold-append, sum_by-append, sum_by-cons}
use Rattle.table_groups.specs.Tally.{noted, tally_of, value_in}
use Rattle.table_groups.specs.Visits.{AreFewSlots, in_bucket, is_last, no_slots, visits_of, with_slot, with_tried}
use Rattle.table_groups.specs.declared.group_slots.SlotNumbers.{SlotNumbers}
use Rattle.table_groups.proofs.Values.{after_visit, folded, values-are, visited}

abbrev pub one_if : Bool → ℕ
one_if b = cond b 1 0

pub count-cons : {X : Type 0} (p : X → Bool) (x : X) (xs : List X) → count_by p (x ∷ xs) ≡ one_if (p x) + count_by p xs
count-cons p x xs = sum_by-cons (λ y. cond (p y) 1 0) x xs

pub count-map : {X Y : Type 0} (p : Y → Bool) (f : X → Y) (xs : List X) → count_by p (map f xs) ≡ count_by (λ x. p (f x)) xs
count-map p f [] = refl
count-map p f (x ∷ xs) = count-cons p (f x) (map f xs) ∙ ap (λ (n : ℕ). one_if (p (f x)) + n) (count-map p f xs) ∙ sym (count-cons (λ x. p (f x)) x xs)

pub count-flat : {X Y : Type 0} (p : Y → Bool) (f : X → List Y) (xs : List X) → count_by p (flat_map f xs) ≡ sum_by (λ x. count_by p (f x)) xs
count-flat p f [] = refl
count-flat p f (x ∷ xs) =
    sum_by-append (λ k. cond (p k) 1 0) (f x) (flat_map f xs) ∙ ap (λ (m : ℕ). count_by p (f x) + m) (count-flat p f xs)
    ∙ sym (sum_by-cons (λ x. count_by p (f x)) x xs)

-- no bucket after this one was counted
abbrev IsBefore : Option ℕ → ℕ → Type 0
IsBefore last bucket = (c : ℕ) → bucket < c → is_last last c ≡ false

-- the numbers after the slots of a bucket, which are one bucket more or none
record Next (old new : SlotNumbers) (bucket more : ℕ) : Type 0 where
  pub buckets : new.buckets ≡ old.buckets + more
  pub before : IsBefore new.last bucket

now-before : (bucket : ℕ) → IsBefore (Some bucket) bucket
now-before bucket c above = ne_eqb bucket c (λ e. omega (arith, above, e))

module _ (k : List ℕ) where
  -- a group that has a slot of the bucket already
  again : (gs : List (List ℕ)) (b : ℕ) (n : SlotNumbers) → is_last n.last b ≡ true → IsBefore n.last b → Next n (fold (after_visit (with_slot true) k) n (map (λ g. (g, b)) gs)) b 0
  again [] b n last before = record { buckets = omega arith; before = before }
  again (g ∷ gs) b n last before = by (bytes_eq k g) (again gs b (with_slot true n b) (eq-eqb b b refl) (now-before b)) (again gs b n last before)
    where
      by : (t : Bool) → Next (with_slot true n b) (fold (after_visit (with_slot true) k) (with_slot true n b) (map (λ g. (g, b)) gs)) b 0
          → Next n (fold (after_visit (with_slot true) k) n (map (λ g. (g, b)) gs)) b 0
          → Next n (fold (after_visit (with_slot true) k) (cond t (with_slot true n b) n) (map (λ g. (g, b)) gs)) b 0
      by true rest same = record { buckets = rest.buckets ∙ ap (λ (t : Bool). cond t n.buckets (n.buckets + 1) + 0) last; before = rest.before }
      by false rest same = same

  -- a group that had none
  first : (gs : List (List ℕ)) (b : ℕ) (n : SlotNumbers) → is_last n.last b ≡ false → IsBefore n.last b
      → Next n (fold (after_visit (with_slot true) k) n (map (λ g. (g, b)) gs)) b (cond (list_any (bytes_eq k) gs) 1 0)
  first [] b n other before = record { buckets = omega arith; before = before }
  first (g ∷ gs) b n other before = by (bytes_eq k g) (again gs b (with_slot true n b) (eq-eqb b b refl) (now-before b)) (first gs b n other before)
    where
      by : (t : Bool) → Next (with_slot true n b) (fold (after_visit (with_slot true) k) (with_slot true n b) (map (λ g. (g, b)) gs)) b 0
          → Next n (fold (after_visit (with_slot true) k) n (map (λ g. (g, b)) gs)) b (cond (list_any (bytes_eq k) gs) 1 0)
          → Next n (fold (after_visit (with_slot true) k) (cond t (with_slot true n b) n) (map (λ g. (g, b)) gs)) b (cond (t || list_any (bytes_eq k) gs) 1 0)
      by true rest same = record { buckets = rest.buckets ∙ ap (λ (t : Bool). cond t n.buckets (n.buckets + 1) + 0) other ∙ omega arith; before = rest.before }
      by false rest same = same

  -- all buckets
  all : (groups : ℕ → List (List ℕ)) (a n : ℕ) (start : SlotNumbers) → ((c : ℕ) → a ≤ c → is_last start.last c ≡ false)
      → (fold (after_visit (with_slot true) k) start (visits_of groups a n)).buckets ≡ start.buckets + count_by (λ b. list_any (bytes_eq k) (groups b)) (range_with_len a n)
  all groups a zero start before = omega arith
  all groups a (suc n) start before =
      let now = first (groups a) a start (before a (omega arith)) (λ c above. before c (omega (arith, above))) in
      let mid : SlotNumbers = fold (after_visit (with_slot true) k) start (in_bucket groups a) in
      let rest = all groups (a + 1) n mid (λ c above. now.before c (omega (arith, above))) in
      ap (λ (m : SlotNumbers). m.buckets) (fold-append (after_visit (with_slot true) k) start (in_bucket groups a) (visits_of groups (a + 1) n))
      ∙ rest
      ∙ omega (arith, now.buckets, count-cons (λ b. list_any (bytes_eq k) (groups b)) a (range_with_len (a + 1) n))

  each-slot : (vs : List (List ℕ × ℕ)) (n : SlotNumbers) → (fold (after_visit (with_slot true) k) n vs).slots ≡ n.slots + count_by (λ (v : List ℕ × ℕ). bytes_eq k v.0) vs
  each-slot [] n = omega arith
  each-slot (v ∷ vs) n = by (bytes_eq k v.0) (count-cons (λ (v : List ℕ × ℕ). bytes_eq k v.0) v vs) (each-slot vs (with_slot true n v.1)) (each-slot vs n)
    where
      by : (b : Bool) → count_by (λ (v : List ℕ × ℕ). bytes_eq k v.0) (v ∷ vs) ≡ one_if b + count_by (λ (v : List ℕ × ℕ). bytes_eq k v.0) vs
          → (fold (after_visit (with_slot true) k) (with_slot true n v.1) vs).slots ≡ n.slots + 1 + count_by (λ (v : List ℕ × ℕ). bytes_eq k v.0) vs
          → (fold (after_visit (with_slot true) k) n vs).slots ≡ n.slots + count_by (λ (v : List ℕ × ℕ). bytes_eq k v.0) vs
          → (fold (after_visit (with_slot true) k) (cond b (with_slot true n v.1) n) vs).slots ≡ n.slots + count_by (λ (v : List ℕ × ℕ). bytes_eq k v.0) (v ∷ vs)
      by true sum more same = omega (arith, sum, more)
      by false sum more same = omega (arith, sum, same)

-- how many visits of some buckets are those of a group
pub visits-count : (groups : ℕ → List (List ℕ)) (n : ℕ) (k : List ℕ)
    → count_by (λ (v : List ℕ × ℕ). bytes_eq k v.0) (visits_of groups 0 n) ≡ sum_by (λ b. count_by (bytes_eq k) (groups b)) (range_with_len 0 n)
visits-count groups n k =
    count-flat {Y = List ℕ × ℕ} (λ v. bytes_eq k v.0) (in_bucket groups) (range_with_len 0 n)
    ∙ (λ i. sum_by (λ b. count-map {Y = List ℕ × ℕ} (λ v. bytes_eq k v.0) (λ g. (g, b)) (groups b) i) (range_with_len 0 n))

pub buckets-are : (groups : ℕ → List (List ℕ)) (n : ℕ) (k : List ℕ)
    → (value_in no_slots (tally_of no_slots (with_slot true) (visits_of groups 0 n)) k).buckets ≡ count_by (λ b. list_any (bytes_eq k) (groups b)) (range_with_len 0 n)
buckets-are groups n k =
    ap (λ (m : SlotNumbers). m.buckets) (values-are no_slots (with_slot true) (visits_of groups 0 n) k) ∙ all k groups 0 n no_slots (λ c above. refl) ∙ omega arith

pub slots-are : (groups : ℕ → List (List ℕ)) (n : ℕ) (k : List ℕ)
    → (value_in no_slots (tally_of no_slots (with_slot true) (visits_of groups 0 n)) k).slots ≡ sum_by (λ b. count_by (bytes_eq k) (groups b)) (range_with_len 0 n)
slots-are groups n k =
    ap (λ (m : SlotNumbers). m.slots) (values-are no_slots (with_slot true) (visits_of groups 0 n) k) ∙ each-slot k (visits_of groups 0 n) no_slots
    ∙ ap (λ (m : ℕ). 0 + m) (visits-count groups n k) ∙ omega arith

-- ---- those of the tried table, which come after them

module _ (k : List ℕ) where
  tried-leave : (vs : List (List ℕ × ℕ)) (n : SlotNumbers) → fold (after_visit (with_slot false) k) n vs
      ≡ record { slots = n.slots; buckets = n.buckets; tried = n.tried + count_by (λ (v : List ℕ × ℕ). bytes_eq k v.0) vs; last = n.last }
  tried-leave [] n = λ i. record { slots = n.slots; buckets = n.buckets; tried = plus-none n.tried i; last = n.last }
    where
      plus-none : (m : ℕ) → m ≡ m + 0
      plus-none m = omega arith
  tried-leave (v ∷ vs) n = by (bytes_eq k v.0) (count-cons (λ (v : List ℕ × ℕ). bytes_eq k v.0) v vs) (tried-leave vs (with_tried n)) (tried-leave vs n)
    where
      others : SlotNumbers → ℕ → SlotNumbers
      others m count = record { slots = m.slots; buckets = m.buckets; tried = count; last = m.last }

      by : (b : Bool) → count_by (λ (v : List ℕ × ℕ). bytes_eq k v.0) (v ∷ vs) ≡ one_if b + count_by (λ (v : List ℕ × ℕ). bytes_eq k v.0) vs
          → fold (after_visit (with_slot false) k) (with_tried n) vs ≡ record { slots = n.slots; buckets = n.buckets; tried = n.tried + 1 + count_by (λ (v : List ℕ × ℕ). bytes_eq k v.0) vs; last = n.last }
          → fold (after_visit (with_slot false) k) n vs ≡ record { slots = n.slots; buckets = n.buckets; tried = n.tried + count_by (λ (v : List ℕ × ℕ). bytes_eq k v.0) vs; last = n.last }
          → fold (after_visit (with_slot false) k) (cond b (with_tried n) n) vs
          ≡ record { slots = n.slots; buckets = n.buckets; tried = n.tried + count_by (λ (v : List ℕ × ℕ). bytes_eq k v.0) (v ∷ vs); last = n.last }
      by true sum more same =
          let count : n.tried + 1 + count_by (λ (v : List ℕ × ℕ). bytes_eq k v.0) vs ≡ n.tried + count_by (λ (v : List ℕ × ℕ). bytes_eq k v.0) (v ∷ vs) = omega (arith, sum) in
          more ∙ ap (others n) count
      by false sum more same =
          let count : n.tried + count_by (λ (v : List ℕ × ℕ). bytes_eq k v.0) vs ≡ n.tried + count_by (λ (v : List ℕ × ℕ). bytes_eq k v.0) (v ∷ vs) = omega (arith, sum) in
          same ∙ ap (others n) count

-- what they leave of a tally
pub after-tried : (es : List (List ℕ × SlotNumbers)) (groups : ℕ → List (List ℕ)) (n : ℕ) (k : List ℕ)
    → value_in no_slots (fold (noted no_slots (with_slot false)) es (visits_of groups 0 n)) k
    ≡ record {
      slots = (value_in no_slots es k).slots;
      buckets = (value_in no_slots es k).buckets;
      tried = (value_in no_slots es k).tried + sum_by (λ b. count_by (bytes_eq k) (groups b)) (range_with_len 0 n);
      last = (value_in no_slots es k).last;
    }
after-tried es groups n k =
    folded no_slots (with_slot false) (visits_of groups 0 n) es k ∙ tried-leave k (visits_of groups 0 n) (value_in no_slots es k)
    ∙ (λ i. record {
      slots = (value_in no_slots es k).slots;
      buckets = (value_in no_slots es k).buckets;
      tried = (value_in no_slots es k).tried + visits-count groups n k i;
      last = (value_in no_slots es k).last;
    })

-- none of the tried table is counted before them
pub none-tried : (vs : List (List ℕ × ℕ)) (k : List ℕ) → (value_in no_slots (tally_of no_slots (with_slot true) vs) k).tried ≡ 0
none-tried vs k = ap (λ (m : SlotNumbers). m.tried) (values-are no_slots (with_slot true) vs k) ∙ stays vs no_slots
  where
    stays : (vs : List (List ℕ × ℕ)) (n : SlotNumbers) → (fold (after_visit (with_slot true) k) n vs).tried ≡ n.tried
    stays [] n = refl
    stays (v ∷ vs) n = by (bytes_eq k v.0) (stays vs (with_slot true n v.1)) (stays vs n)
      where
        by : (b : Bool) → (fold (after_visit (with_slot true) k) (with_slot true n v.1) vs).tried ≡ n.tried → (fold (after_visit (with_slot true) k) n vs).tried ≡ n.tried
            → (fold (after_visit (with_slot true) k) (cond b (with_slot true n v.1) n) vs).tried ≡ n.tried
        by true more same = more
        by false more same = same

-- the groups of the visits of some buckets
pub visit-groups : (groups : ℕ → List (List ℕ)) (a n : ℕ) → map (λ (v : List ℕ × ℕ). v.0) (visits_of groups a n) ≡ flat_map groups (range_with_len a n)
visit-groups groups a zero = refl
visit-groups groups a (suc n) =
    map-append (λ (v : List ℕ × ℕ). v.0) (in_bucket groups a) (visits_of groups (a + 1) n) ∙ (λ i. own (groups a) i ++ visit-groups groups (a + 1) n i)
  where
    own : (gs : List (List ℕ)) → map (λ (v : List ℕ × ℕ). v.0) (map (λ g. (g, a)) gs) ≡ gs
    own [] = refl
    own (g ∷ gs) = ap (λ (hs : List (List ℕ)). g ∷ hs) (own gs)

-- ---- how many there can be

with-few : (in_new : Bool) (n : ℕ) (m : SlotNumbers) (b : ℕ) → m.slots ≤ n → m.buckets ≤ n → m.tried ≤ n
    → ((with_slot in_new m b).slots ≤ n + 1) × ((with_slot in_new m b).buckets ≤ n + 1) × ((with_slot in_new m b).tried ≤ n + 1)
with-few true n m b p q r = (omega (arith, p), by (is_last m.last b), omega (arith, r))
  where
    by : (t : Bool) → cond t m.buckets (m.buckets + 1) ≤ n + 1
    by true = omega (arith, q)
    by false = omega (arith, q)
with-few false n m b p q r = (omega (arith, p), omega (arith, q), omega (arith, r))

pub few-slots : (in_new : Bool) (n : ℕ) (es : List (List ℕ × SlotNumbers)) (v : List ℕ × ℕ) → AreFewSlots n es → AreFewSlots (n + 1) (noted no_slots (with_slot in_new) es v)
few-slots in_new n es v few k =
    subst (λ (m : SlotNumbers). (m.slots ≤ n + 1) × (m.buckets ≤ n + 1) × (m.tried ≤ n + 1)) (sym (visited no_slots (with_slot in_new) es v k)) (by (bytes_eq k v.0))
  where
    old : SlotNumbers
    old = value_in no_slots es k

    by : (t : Bool) → ((cond t (with_slot in_new old v.1) old).slots ≤ n + 1) × ((cond t (with_slot in_new old v.1) old).buckets ≤ n + 1) × ((cond t (with_slot in_new old v.1) old).tried ≤ n + 1)
    by true = with-few in_new n old v.1 (few k).0 (few k).1 (few k).2
    by false = (omega (arith, (few k).0), omega (arith, (few k).1), omega (arith, (few k).2))
