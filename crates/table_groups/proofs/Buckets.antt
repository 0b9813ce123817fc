-- The numbers of a group are those of its slots.
use Rattle.std.proofs.Common.{◌≡◌, ℕ, ◌+◌, ◌*◌, ◌≤◌, ◌||◌, Bool, true, false, List, [], ◌∷◌, ◌++◌, map, refl, sym, ap, subst, ◌∙◌, Option, Some, None, arith}
use Rattle.std.specs.Prelude.{bytes_eq}
use Rattle.std.specs.List.{count_by, flat_map, fold, list_any, range_with_len, sum_by}
use Rattle.std.proofs.lemmas.List.{append-nil, map-append, map-id}
use Rattle.std.proofs.lemmas.List.Concat.{flat_map-append}
use Rattle.std.proofs.lemmas.List.FromFn.{map-range_with_len_more}
use Rattle.std.proofs.lemmas.List.Folds.{list_any-append}
use Rattle.std.proofs.lemmas.List.Sums.{fold-append, sum_by-append, sum_by-cons}
use Rattle.peer_rec.specs.declared.rec.Rec.{Rec}
use Rattle.placing.specs.Places.{Places, group}
use Rattle.table_groups.specs.Inside.{all_by, slots_by}
use Rattle.table_groups.specs.Slots.{is_of, new_buckets, new_slots, tried_slots}
use Rattle.table_groups.specs.Sources.{bucket_groups, slot_groups, source_groups}
use Rattle.table_groups.specs.Tally.{groups_of, noted, once, value_in, with_group}
use Rattle.table_groups.specs.Visits.{AreFewSlots, in_bucket, no_slots, slots_before, visits_of, with_slot}
use Rattle.table_groups.specs.declared.group_slots.SlotNumbers.{SlotNumbers}
use Rattle.table_groups.proofs.Once.{same-back}
use Rattle.table_groups.proofs.Values.{all-written, groups-are}
use Rattle.table_groups.proofs.Visits.{after-tried, buckets-are, count-cons, count-flat, few-slots, none-tried, one_if, slots-are, visit-groups}
use Rattle.table_groups.specs.View.{View}

module _ (places : Places) (g : List ℕ) where
  -- a slot is one of the group, or none
  one-slot : (o : Option Rec) → count_by (bytes_eq g) (source_groups places o) ≡ one_if (is_of places g o)
  one-slot None = refl
  one-slot (Some r) = count-cons (bytes_eq g) (group places r.source) [] ∙ ap (λ (b : Bool). one_if b + 0) (same-back g (group places r.source)) ∙ omega arith

  any-slot : (o : Option Rec) → list_any (bytes_eq g) (source_groups places o) ≡ is_of places g o
  any-slot None = refl
  any-slot (Some r) = or-false (bytes_eq g (group places r.source)) ∙ same-back g (group places r.source)
    where
      or-false : (b : Bool) → (b || false) ≡ b
      or-false true = refl
      or-false false = refl

  count-slots : (rec_at : ℕ → Option Rec) (slots : List ℕ) → count_by (bytes_eq g) (flat_map (λ s. source_groups places (rec_at s)) slots) ≡ count_by (λ s. is_of places g (rec_at s)) slots
  count-slots rec_at slots = count-flat (bytes_eq g) (λ s. source_groups places (rec_at s)) slots ∙ (λ i. sum_by (λ s. one-slot (rec_at s) i) slots)

  any-slots : (rec_at : ℕ → Option Rec) (slots : List ℕ) → list_any (bytes_eq g) (flat_map (λ s. source_groups places (rec_at s)) slots) ≡ list_any (λ s. is_of places g (rec_at s)) slots
  any-slots rec_at [] = refl
  any-slots rec_at (s ∷ slots) =
      list_any-append (bytes_eq g) (source_groups places (rec_at s)) (flat_map (λ t. source_groups places (rec_at t)) slots)
      ∙ (λ i. any-slot (rec_at s) i || any-slots rec_at slots i)

pub slots-of : (view : View) (g : List ℕ) → (value_in no_slots (slots_by view) g).slots ≡ new_slots (is_of view.places g) view
unfolding slots_by new_slots
slots-of view g = slots-are (bucket_groups view true) 1024 g ∙ (λ i. sum_by (λ b. count-slots view.places g (view.new b) (range_with_len 0 64) i) (range_with_len 0 1024))

pub buckets-of : (view : View) (g : List ℕ) → (value_in no_slots (slots_by view) g).buckets ≡ new_buckets (is_of view.places g) view
unfolding slots_by new_buckets
buckets-of view g = buckets-are (bucket_groups view true) 1024 g ∙ (λ i. count_by (λ b. any-slots view.places g (view.new b) (range_with_len 0 64) i) (range_with_len 0 1024))

none-plus : (n : ℕ) → 0 + n ≡ n
none-plus n = omega arith

-- the numbers of a group in both tables
module _ (view : View) (g : List ℕ) where
  abbrev before : SlotNumbers
  before = value_in no_slots (slots_by view) g

  abbrev tried-visits : ℕ
  tried-visits = sum_by (λ b. count_by (bytes_eq g) (bucket_groups view false b)) (range_with_len 0 256)

  all-is : value_in no_slots (all_by view) g ≡ record { slots = before.slots; buckets = before.buckets; tried = before.tried + tried-visits; last = before.last }
  unfolding all_by
  all-is = after-tried (slots_by view) (bucket_groups view false) 256 g

  pub all-slots-of : (value_in no_slots (all_by view) g).slots ≡ new_slots (is_of view.places g) view
  all-slots-of = ap (λ (m : SlotNumbers). m.slots) all-is ∙ slots-of view g

  pub all-buckets-of : (value_in no_slots (all_by view) g).buckets ≡ new_buckets (is_of view.places g) view
  all-buckets-of = ap (λ (m : SlotNumbers). m.buckets) all-is ∙ buckets-of view g

  none-before : before.tried ≡ 0
  unfolding slots_by
  none-before = none-tried (visits_of (bucket_groups view true) 0 1024) g

  pub all-tried-of : (value_in no_slots (all_by view) g).tried ≡ tried_slots (is_of view.places g) view
  unfolding tried_slots
  all-tried-of =
      ap (λ (m : SlotNumbers). m.tried) all-is ∙ ap (λ (n : ℕ). n + tried-visits) none-before ∙ none-plus tried-visits
      ∙ (λ i. sum_by (λ b. count-slots view.places g (view.tried b) (range_with_len 0 64) i) (range_with_len 0 256))

-- the groups of the slots of both tables, each once
pub all-groups : (view : View) → groups_of (all_by view) ≡ once (slot_groups view)
unfolding all_by slots_by slot_groups
all-groups view =
    let new : List (List ℕ × ℕ) = visits_of (bucket_groups view true) 0 1024 in
    let tried : List (List ℕ × ℕ) = visits_of (bucket_groups view false) 0 256 in
    all-written no_slots (with_slot false) tried (slots_by view)
    ∙ (λ i. fold with_group (groups-are no_slots (with_slot true) new i) (visit-groups (bucket_groups view false) 0 256 i))
    ∙ (λ i. fold with_group (once (visit-groups (bucket_groups view true) 0 1024 i)) (flat_map (bucket_groups view false) (range_with_len 0 256)))
    ∙ sym (fold-append with_group [] (flat_map (bucket_groups view true) (range_with_len 0 1024)) (flat_map (bucket_groups view false) (range_with_len 0 256)))

-- the slots of a group among those of all
pub groups-count : (view : View) (g : List ℕ) → count_by (bytes_eq g) (slot_groups view) ≡ new_slots (is_of view.places g) view + tried_slots (is_of view.places g) view
unfolding slot_groups new_slots tried_slots
groups-count view g =
    sum_by-append (λ h. one_if (bytes_eq g h)) (flat_map (bucket_groups view true) (range_with_len 0 1024)) (flat_map (bucket_groups view false) (range_with_len 0 256))
    ∙ (λ i. count-flat (bytes_eq g) (bucket_groups view true) (range_with_len 0 1024) i + count-flat (bytes_eq g) (bucket_groups view false) (range_with_len 0 256) i)
    ∙ (λ i. sum_by (λ b. count-slots view.places g (view.new b) (range_with_len 0 64) i) (range_with_len 0 1024)
    + sum_by (λ b. count-slots view.places g (view.tried b) (range_with_len 0 64) i) (range_with_len 0 256))

-- ---- the loops

range-more : (i : ℕ) → range_with_len 0 (i + 1) ≡ range_with_len 0 i ++ i ∷ []
range-more i =
    sym (map-id (range_with_len 0 (i + 1))) ∙ map-range_with_len_more (λ (k : ℕ). k) 0 i i (omega arith) ∙ ap (λ (l : List ℕ). l ++ i ∷ []) (map-id (range_with_len 0 i))

flat-more : {X : Type 0} (f : ℕ → List X) (i : ℕ) → flat_map f (range_with_len 0 (i + 1)) ≡ flat_map f (range_with_len 0 i) ++ f i
flat-more {X} f i =
    ap (flat_map f) (range-more i) ∙ flat_map-append f (range_with_len 0 i) (i ∷ []) ∙ ap (λ (t : List X). flat_map f (range_with_len 0 i) ++ t) (append-nil (f i))

-- a sum of one number more
pub sum-more : (f : ℕ → ℕ) (i now add : ℕ) → now ≡ sum_by f (range_with_len 0 i) → add ≡ f i → now + add ≡ sum_by f (range_with_len 0 (i + 1))
sum-more f i now add so_far is =
    omega (
      arith,
      so_far,
      is,
      ap (sum_by f) (range-more i),
      sum_by-append f (range_with_len 0 i) (i ∷ []),
      sum_by-cons f i [],
    )

-- and of all
pub sum-all : (f : ℕ → ℕ) (i n now : ℕ) → i ≡ n → now ≡ sum_by f (range_with_len 0 i) → now ≡ sum_by f (range_with_len 0 n)
sum-all f i n now e is = is ∙ ap (λ (k : ℕ). sum_by f (range_with_len 0 k)) e

abbrev Entries : Type 0
Entries = List (List ℕ × SlotNumbers)

-- one slot more of a bucket
pub slot-more : (in_new : Bool) (groups : ℕ → List (List ℕ)) (bucket i : ℕ) (start now next : Entries)
    → now ≡ fold (noted no_slots (with_slot in_new)) start (map (λ g. (g, bucket)) (flat_map groups (range_with_len 0 i)))
    → next ≡ fold (noted no_slots (with_slot in_new)) now (map (λ g. (g, bucket)) (groups i))
    → next ≡ fold (noted no_slots (with_slot in_new)) start (map (λ g. (g, bucket)) (flat_map groups (range_with_len 0 (i + 1))))
slot-more in_new groups bucket i start now next so_far more =
    let before : List (List ℕ × ℕ) = map (λ g. (g, bucket)) (flat_map groups (range_with_len 0 i)) in
    let here : List (List ℕ × ℕ) = map (λ g. (g, bucket)) (groups i) in
    more ∙ ap (λ (es : Entries). fold (noted no_slots (with_slot in_new)) es here) so_far ∙ sym (fold-append (noted no_slots (with_slot in_new)) start before here)
    ∙ ap (fold (noted no_slots (with_slot in_new)) start) (sym (ap (map (λ g. (g, bucket))) (flat-more groups i) ∙ map-append (λ g. (g, bucket)) (flat_map groups (range_with_len 0 i)) (groups i)))

-- one bucket more
pub bucket-more : (in_new : Bool) (groups : ℕ → List (List ℕ)) (i : ℕ) (start now next : Entries) → now ≡ fold (noted no_slots (with_slot in_new)) start (visits_of groups 0 i)
    → next ≡ fold (noted no_slots (with_slot in_new)) now (in_bucket groups i) → next ≡ fold (noted no_slots (with_slot in_new)) start (visits_of groups 0 (i + 1))
bucket-more in_new groups i start now next so_far more =
    more ∙ ap (λ (es : Entries). fold (noted no_slots (with_slot in_new)) es (in_bucket groups i)) so_far
    ∙ sym (fold-append (noted no_slots (with_slot in_new)) start (visits_of groups 0 i) (in_bucket groups i))
    ∙ ap (fold (noted no_slots (with_slot in_new)) start) (sym (flat-more (in_bucket groups) i))

-- a slot adds at most one
pub few-more : (in_new : Bool) (places : Places) (bucket n : ℕ) (o : Option Rec) (es next : Entries) → AreFewSlots n es
    → next ≡ fold (noted no_slots (with_slot in_new)) es (map (λ g. (g, bucket)) (source_groups places o)) → AreFewSlots (n + 1) next
few-more in_new places bucket n None es next few is =
    subst (AreFewSlots (n + 1)) (sym is) (λ g. (omega (arith, (few g).0), omega (arith, (few g).1), omega (arith, (few g).2)))
few-more in_new places bucket n (Some r) es next few is = subst (AreFewSlots (n + 1)) (sym is) (few-slots in_new n es (group places r.source, bucket) few)

pub fewer : (n m : ℕ) (es : Entries) → n ≤ m → AreFewSlots n es → AreFewSlots m es
fewer n m es le few g = (omega (arith, (few g).0, le), omega (arith, (few g).1, le), omega (arith, (few g).2, le))

-- there are none at first
pub none-few : (n : ℕ) (es : Entries) → es ≡ [] → AreFewSlots n es
none-few n es none = subst (AreFewSlots n) (sym none) (λ g. (omega arith, omega arith, omega arith))

-- all slots of a bucket
pub slots-all : (in_new : Bool) (groups : ℕ → List (List ℕ)) (bucket i n : ℕ) (start now : Entries) → i ≡ n
    → now ≡ fold (noted no_slots (with_slot in_new)) start (map (λ g. (g, bucket)) (flat_map groups (range_with_len 0 i)))
    → now ≡ fold (noted no_slots (with_slot in_new)) start (map (λ g. (g, bucket)) (flat_map groups (range_with_len 0 n)))
slots-all in_new groups bucket i n start now e is =
    is ∙ ap (λ (k : ℕ). fold (noted no_slots (with_slot in_new)) start (map (λ g. (g, bucket)) (flat_map groups (range_with_len 0 k)))) e

-- the slots of a bucket are counted before the next one
pub after-bucket : (in_new : Bool) (bucket i : ℕ) (es : Entries) → i ≡ 64 → AreFewSlots (slots_before in_new bucket + i) es → AreFewSlots (slots_before in_new (bucket + 1)) es
after-bucket true bucket i es e few = fewer (64 * bucket + i) (64 * (bucket + 1)) es (omega (arith, e)) few
after-bucket false bucket i es e few = fewer (65536 + 64 * bucket + i) (65536 + 64 * (bucket + 1)) es (omega (arith, e)) few
