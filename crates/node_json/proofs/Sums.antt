-- The slots and records of all groups are all of them.
use Rattle.std.proofs.Common.{◌≡◌, ℕ, ◌+◌, ◌==◌, ◌&&◌, not, Bool, true, false, cond, List, [], length, map, refl, ap, subst, ◌∙◌, arith}
use Rattle.std.specs.Prelude.{Contains, IfSome, Option, Some, None, bytes_eq, is_some}
use Rattle.std.specs.List.{count_by, list_any, range_with_len, sum_by}
use Rattle.std.proofs.lemmas.Bool.{and_parts, both_ways}
use Rattle.peer_rec.specs.Rec.{buckets_by, buckets_of, is_tried, tried_by}
use Rattle.peer_rec.specs.declared.place.Place.{Place}
use Rattle.peer_rec.specs.declared.place.Place.TheVariants as place
use Rattle.peer_rec.specs.declared.rec.Rec.{Rec}
use Rattle.placing.specs.Places.{group, new_slot}
use Rattle.table_groups.proofs.Once.{same-back, sum-both, sum-map, sum-none, sum-same, sum-turned}
use Rattle.table_groups.proofs.Sorted.{order-sum}
use Rattle.table_groups.proofs.Visits.{one_if}
use Rattle.table_groups.specs.Groups.{counted_group, counted_of, counts_for, groups_in, numbers_of, row_of, rows_of}
use Rattle.table_groups.specs.Slots.{is_of, new_slots}
use Rattle.table_groups.specs.declared.ranked_groups.Counted.{Counted}
use Rattle.table_groups.specs.declared.ranked_groups.Row.{Row}
use Rattle.table_machine.proofs.Lists.{find-Some}
use Rattle.table_machine.specs.State.{State, is_new_at, new_rec_at}
use Rattle.node_json.proofs.Counts.{counts_all}
use Rattle.node_json.proofs.Firsts.{each-known, groups, once-group}
use Rattle.table_groups.specs.View.{View, view_of}
use Rattle.node_json.specs.Groups.{ListsSlots}

-- a record that has a bucket is of the new table
new-if-bucket : (p : Place) (b : ℕ) → list_any (λ n. n == b) (buckets_by p) ≡ true → tried_by p ≡ false
new-if-bucket (place.New bs) b any = refl
new-if-bucket place.Tried b any = absurd (both_ways false refl any)

-- the records in the slots of a state's new table are listed
pub lists-slots : (st : State) → ListsSlots (view_of st)
lists-slots st bucket slot = by (new_rec_at st bucket slot) refl
  where
    by : (o : Option Rec) → new_rec_at st bucket slot ≡ o → IfSome o (λ r. Contains st.records r × (is_tried r ≡ false))
    by None e = tt
    by (Some r) e =
        let found = find-Some (is_new_at st.places bucket slot) st.records r e in
        (found.0, new-if-bucket r.place bucket (and_parts (list_any (λ n. n == bucket) (buckets_of r)) (new_slot st.places r.peer bucket == slot) found.1).0)

module _ (view : View) (listed : ListsSlots view) where
  -- the record of a slot is of one group
  one-of-slot : (b s : ℕ) → sum_by (λ g. one_if (is_of view.places g (view.new b s))) (groups view) ≡ one_if (is_some (view.new b s))
  one-of-slot b s = by (view.new b s) (listed b s)
    where
      by : (o : Option Rec) → IfSome o (λ r. Contains view.records r × (is_tried r ≡ false)) → sum_by (λ g. one_if (is_of view.places g o)) (groups view) ≡ one_if (is_some o)
      by None known = sum-none (groups view)
      by (Some r) known =
          let same : counted_group view.places r ≡ group view.places r.source = ap (λ (t : Bool). group view.places (cond t r.peer.addr r.source)) known.1 in
          subst (λ (k : List ℕ). count_by (bytes_eq k) (groups view) ≡ 1) same (once-group view r known.0)

  all-slots : sum_by (λ g. new_slots (is_of view.places g) view) (groups view) ≡ new_slots is_some view
  unfolding new_slots
  all-slots =
      sum-turned (λ g b. count_by (λ s. is_of view.places g (view.new b s)) (range_with_len 0 64)) (groups view) (range_with_len 0 1024)
      ∙ (λ i. sum_by (λ b. sum-turned (λ g s. one_if (is_of view.places g (view.new b s))) (groups view) (range_with_len 0 64) i) (range_with_len 0 1024))
      ∙ (λ i. sum_by (λ b. sum_by (λ s. one-of-slot b s i) (range_with_len 0 64)) (range_with_len 0 1024))

  -- a record of the tried table is of one group
  one-of-record : (r : Rec) → Contains view.records r → sum_by (λ g. one_if (is_tried r && counts_for view.places g r)) (groups view) ≡ one_if (is_tried r)
  one-of-record r known = by (is_tried r)
    where
      by : (t : Bool) → sum_by (λ g. one_if (t && bytes_eq g (counted_group view.places r))) (groups view) ≡ one_if t
      by false = sum-none (groups view)
      by true = (λ i. sum_by (λ g. one_if (same-back g (counted_group view.places r) i)) (groups view)) ∙ once-group view r known

  all-tried : sum_by (λ g. count_by (λ r. is_tried r && counts_for view.places g r) view.records) (groups view) ≡ count_by is_tried view.records
  all-tried =
      sum-turned (λ g r. one_if (is_tried r && counts_for view.places g r)) (groups view) view.records
      ∙ sum-same (Contains view.records) (λ r. sum_by (λ g. one_if (is_tried r && counts_for view.places g r)) (groups view)) (λ r. one_if (is_tried r)) view.records
      (each-known view.records) one-of-record

  pub rows_add_up : sum_by (λ row. row.numbers.slots + row.numbers.tried) (rows_of view) ≡ new_slots is_some view + count_by is_tried view.records
  unfolding rows_of groups_in
  rows_add_up =
      let f : Counted → ℕ = λ c. (numbers_of view c.group.items).slots + (numbers_of view c.group.items).tried in
      sum-map (λ (row : Row). row.numbers.slots + row.numbers.tried) (row_of view) (groups_in view)
      ∙ order-sum f (map (counted_of view) (groups view)) [] ∙ omega arith
      ∙ sum-map f (counted_of view) (groups view)
      ∙ sum-both (λ g. new_slots (is_of view.places g) view) (λ g. count_by (λ r. is_tried r && counts_for view.places g r) view.records) (groups view)
      ∙ (λ i. all-slots i + all-tried i)

-- those with an AS number and those without are all
pub numbers_add_up : (numbers : List ℕ) → count_by (λ n. n == 0) numbers + count_by (λ n. not (n == 0)) numbers ≡ length numbers
numbers_add_up numbers = omega (arith, counts_all (λ (n : ℕ). n == 0) numbers)
