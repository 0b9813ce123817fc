-- How many words at most, and at least, select records of a table.
use Rattle.std.proofs.Common.{◌≡◌, ℕ, ◌+◌, ◌-◌, ◌*◌, ◌/◌, ◌^◌, ◌≤◌, Bool, true, false, ◌==◌, List, [], ◌∷◌, length, filter, flat_map, map, Contains, count_by, sum_by, Option, Some, None, refl, sym, ap, subst, ◌∙◌, arith, true≢false, if◌then◌else◌}
use Rattle.std.specs.List.{range_with_len}
use Rattle.std.proofs.Math.Nat.{min-le_right, mul-le-mul_left, mul-le-mul_right}
use Rattle.std.proofs.lemmas.Bool.{both_ways}
use Rattle.std.proofs.lemmas.Bool.Decides.{Decides-eqb}
use Rattle.std.proofs.lemmas.List.{length-map}
use Rattle.std.proofs.lemmas.List.Concat.{length-flat_map}
use Rattle.std.proofs.lemmas.List.Elements.{All-contains}
use Rattle.std.proofs.lemmas.List.Sums.{sum_by-cons}
use Rattle.placing.specs.Places.{new_slot, tried_bucket, tried_slot}
use Rattle.peer_rec.specs.Rec.{IsPlace, IsRec, buckets_by, buckets_of, chance, is_tried}
use Rattle.peer_rec.specs.declared.place.Place.{Place}
use Rattle.peer_rec.specs.declared.place.Place.TheVariants.{New, Tried}
use Rattle.peer_rec.specs.declared.rec.Rec.{Rec}
use Rattle.table_machine.specs.Picks.{first_candidate, is_wanted, occupant_at, slots_from}
use Rattle.table_machine.specs.Sound.{IsSound}
use Rattle.table_machine.specs.State.{State, is_new_at, is_tried_at}
use Rattle.table_machine.proofs.Lists.{All-from_Contains, Contains-filter, Contains-from_filter, Contains-map, find-Some}
use Rattle.table_machine.proofs.Records.{new_at_parts, same_record, tried_at-is_tried, tried_at_parts}
use Rattle.table_laws.specs.Chances.{accepting_words, leading_slots, picking_words, words_for}
use Rattle.table_laws.specs.Odds.{leading_starts, most_slots}
use Rattle.table_laws.specs.Rounds.{gap, holds, idle_below}
use Rattle.table_laws.proofs.BoundOf.{few_words, sum_at_most}
use Rattle.table_laws.proofs.Picked.{found_at, new_words, tried_words}
use Rattle.table_laws.proofs.SearchOf.{sum_constant}
use Rattle.table_laws.proofs.Contained.{Contains-flat_map}
use Rattle.table_laws.proofs.SomeOf.{candidate-there, some_words}
use Rattle.table_laws.proofs.Within.{count_within}

at_most : (a b c : ℕ) → a ≤ b → a * c ≤ b * c
at_most a b c le = mul-le-mul_right c le

scaled : (k a b c : ℕ) → k ≤ a * c → a ≤ b → k ≤ b * c
scaled k a b c first le = let more = at_most a b c le in omega (arith, first, more)

-- a candidate is of a network that is asked for
candidate-wanted : (st : State) (in_new : Bool) (nets : List ℕ) (bucket start : ℕ) (q : Rec) → first_candidate st in_new nets bucket start ≡ Some q → is_wanted nets q ≡ true
candidate-wanted st in_new nets bucket start q is = (find-Some (is_wanted nets) _ q is).1

-- one of the tried table is tried
candidate-tried : (st : State) (nets : List ℕ) (bucket start : ℕ) (q : Rec) → first_candidate st false nets bucket start ≡ Some q → is_tried q ≡ true
candidate-tried st nets bucket start q is =
    let h = found_at (occupant_at st false bucket) nets (slots_from start) q is in
    tried_at-is_tried st.places bucket h.0 q (find-Some (is_tried_at st.places bucket h.0) st.records q h.1).1

module _ (st : State) (sound : IsSound st) (nets : List ℕ) (now factor : ℕ) where
  -- no words select a record that is no candidate
  never : (in_new : Bool) (r : Rec) → Contains st.records r → ((bucket start : ℕ) → first_candidate st in_new nets bucket start ≡ Some r → ⊥)
      → picking_words st in_new nets now factor r.number ≡ 0
  never in_new r has none =
      let few = few_words st in_new nets now factor (λ q. q.number == r.number) [] (λ bucket start q is same.
      let one : q ≡ r = same_record st.records q r sound.rising (candidate-there st in_new nets bucket start q is) has ((Decides-eqb q.number r.number).0 same) in
      absurd (none bucket start (is ∙ ap Some one))) in
      omega (arith, few)

  accepting : (r : Rec) → accepting_words r now factor ≤ 2 ^ 30
  accepting r = min-le_right ((chance r now * factor + (2 ^ 30 - 1)) / 2 ^ 30) (2 ^ 30)

  product : (a b c : ℕ) → b ≤ c → a * b ≤ a * c
  product a b c le = mul-le-mul_left a le

  exactly : (a b k : ℕ) → k ≡ a * b → b ≤ 2 ^ 30 → k ≤ a * 2 ^ 30
  exactly a b k is le = subst (λ x. x ≤ a * 2 ^ 30) (sym is) (product a b (2 ^ 30) le)

  nothing : (k a : ℕ) → k ≡ 0 → k ≤ a
  nothing k a is = omega (arith, is)

  one_record : (in_new : Bool) (r : Rec) → Contains st.records r → picking_words st in_new nets now factor r.number ≤ leading_starts st in_new nets r * 2 ^ 30
  one_record in_new r has = by in_new (is_wanted nets r) (is_tried r) refl refl
    where
      by : (n w t : Bool) → is_wanted nets r ≡ w → is_tried r ≡ t → picking_words st n nets now factor r.number ≤ leading_starts st n nets r * 2 ^ 30
      by n false t wanted tried =
          nothing (picking_words st n nets now factor r.number) (leading_starts st n nets r * 2 ^ 30)
          (never n r has (λ bucket start is. both_ways (is_wanted nets r) wanted (candidate-wanted st n nets bucket start r is)))
      by true true t wanted tried =
          exactly (leading_starts st true nets r) (accepting_words r now factor) (picking_words st true nets now factor r.number) (new_words st sound nets now factor r has wanted) (accepting r)
      by false true true wanted tried =
          subst (λ b. picking_words st false nets now factor r.number ≤ (if b then leading_slots st false nets (tried_bucket st.places r.peer) (tried_slot st.places r.peer (tried_bucket st.places r.peer)) else 0) * 2 ^ 30) (sym tried)
          (exactly (leading_slots st false nets (tried_bucket st.places r.peer) (tried_slot st.places r.peer (tried_bucket st.places r.peer))) (accepting_words r now factor) (picking_words st false nets now factor r.number)
          (tried_words st sound nets now factor r has wanted tried) (accepting r))
      by false true false wanted tried =
          nothing (picking_words st false nets now factor r.number) (leading_starts st false nets r * 2 ^ 30)
          (never false r has (λ bucket start is. both_ways (is_tried r) tried (candidate-tried st nets bucket start r is)))

  times_sum : (in_new : Bool) (rs : List Rec) → sum_by (λ r. leading_starts st in_new nets r * 2 ^ 30) rs ≡ sum_by (leading_starts st in_new nets) rs * 2 ^ 30
  times_sum in_new [] = refl
  times_sum in_new (r ∷ rs) =
      let all = sum_by-cons (λ r. leading_starts st in_new nets r * 2 ^ 30) r rs in
      let one = sum_by-cons (leading_starts st in_new nets) r rs in
      let rest = times_sum in_new rs in
      omega (arith, all, one, rest)

  pub by_gaps : (in_new : Bool) (test : Rec → Bool) → words_for st in_new nets now factor test ≤ sum_by (leading_starts st in_new nets) (filter test st.records) * 2 ^ 30
  by_gaps in_new test =
      subst (λ k. k ≤ sum_by (leading_starts st in_new nets) (filter test st.records) * 2 ^ 30) (sym (some_words st sound now factor test in_new nets))
      (subst (λ k. sum_by (λ r. picking_words st in_new nets now factor r.number) (filter test st.records) ≤ k) (times_sum in_new (filter test st.records))
      (sum_at_most (λ r. picking_words st in_new nets now factor r.number) (λ r. leading_starts st in_new nets r * 2 ^ 30) (filter test st.records)
      (All-from_Contains (λ r. picking_words st in_new nets now factor r.number ≤ leading_starts st in_new nets r * 2 ^ 30) (filter test st.records)
      (λ r c. one_record in_new r (Contains-from_filter test st.records r c).0))))

  gap_some : (wanted : ℕ → Bool) (n slot : ℕ) → 1 ≤ gap wanted n slot
  gap_some wanted n slot = by (idle_below wanted slot) (if idle_below wanted slot == slot then idle_below wanted n else 0)
    where
      by : (a b : ℕ) → 1 ≤ 1 + a + b
      by a b = omega arith

  pub at_least_new : (r : Rec) → Contains st.records r → is_wanted nets r ≡ true → length (buckets_of r) * accepting_words r now factor ≤ picking_words st true nets now factor r.number
  at_least_new r has wanted =
      subst (λ k. length (buckets_of r) * accepting_words r now factor ≤ k) (sym (new_words st sound nets now factor r has wanted))
      (at_most (length (buckets_of r)) (sum_by (λ b. leading_slots st true nets b (new_slot st.places r.peer b)) (buckets_of r)) (accepting_words r now factor)
      (subst (λ k. k ≤ sum_by (λ b. leading_slots st true nets b (new_slot st.places r.peer b)) (buckets_of r)) ones
      (sum_at_most (λ b. 1) (λ b. leading_slots st true nets b (new_slot st.places r.peer b)) (buckets_of r)
      (All-from_Contains (λ b. 1 ≤ leading_slots st true nets b (new_slot st.places r.peer b)) (buckets_of r)
      (λ b c. gap_some (λ s. holds (is_wanted nets) (occupant_at st true b s)) 64 (new_slot st.places r.peer b))))))
    where
      ones : sum_by (λ (b : ℕ). 1) (buckets_of r) ≡ length (buckets_of r)
      ones = sum_constant 1 (buckets_of r) ∙ omega arith

  pub at_least_tried : (r : Rec) → Contains st.records r → is_wanted nets r ≡ true → is_tried r ≡ true → accepting_words r now factor ≤ picking_words st false nets now factor r.number
  at_least_tried r has wanted tried =
      let bucket = tried_bucket st.places r.peer in
      let slot = tried_slot st.places r.peer bucket in
      let one : 1 * accepting_words r now factor ≡ accepting_words r now factor = omega arith in
      subst (λ k. accepting_words r now factor ≤ k) (sym (tried_words st sound nets now factor r has wanted tried))
      (subst (λ k. k ≤ leading_slots st false nets bucket slot * accepting_words r now factor) one
      (at_most 1 (leading_slots st false nets bucket slot) (accepting_words r now factor) (gap_some (λ s. holds (is_wanted nets) (occupant_at st false bucket s)) 64 slot)))

  -- the buckets of some records
  few_buckets : (place : Place) → IsPlace place → length (buckets_by place) ≤ 8
  few_buckets (New buckets) is = is.most
  few_buckets Tried is = omega arith

  eight : (rs : List Rec) → ((r : Rec) → Contains rs r → Contains st.records r) → length (flat_map buckets_of rs) ≤ 8 * length rs
  eight rs there =
      let all = sum_at_most (λ r. length (buckets_of r)) (λ r. 8) rs (All-from_Contains (λ r. length (buckets_of r) ≤ 8) rs (λ r c. few_buckets r.place (All-contains IsRec st.records r sound.records (there r c)).place)) in
      let long = length-flat_map buckets_of rs in
      let whole = sum_constant 8 rs in
      omega (arith, all, long, whole)

  pub by_peers : (in_new : Bool) (test : Rec → Bool) → words_for st in_new nets now factor test ≤ most_slots in_new * length (filter test st.records) * (64 * 2 ^ 30)
  by_peers true test =
      scaled (words_for st true nets now factor test) (length (flat_map buckets_of ones)) (8 * length ones) (64 * 2 ^ 30)
      (few_words st true nets now factor test (flat_map buckets_of ones) inside) (eight ones (λ r c. (Contains-from_filter test st.records r c).0))
    where
      ones : List Rec
      ones = filter test st.records

      inside : (bucket start : ℕ) (q : Rec) → first_candidate st true nets bucket start ≡ Some q → test q ≡ true → Contains (flat_map buckets_of ones) bucket
      inside bucket start q is passes =
          let found = found_at (occupant_at st true bucket) nets (slots_from start) q is in
          let h = find-Some (is_new_at st.places bucket found.0) st.records q found.1 in
          Contains-flat_map buckets_of ones q bucket (Contains-filter test st.records q h.0 passes) (new_at_parts st.places bucket found.0 q h.1).0
  by_peers false test =
      scaled (words_for st false nets now factor test) (length (map (λ (r : Rec). tried_bucket st.places r.peer) ones)) (1 * length ones) (64 * 2 ^ 30)
      (few_words st false nets now factor test (map (λ r. tried_bucket st.places r.peer) ones) inside) one_each
    where
      ones : List Rec
      ones = filter test st.records

      inside : (bucket start : ℕ) (q : Rec) → first_candidate st false nets bucket start ≡ Some q → test q ≡ true → Contains (map (λ (r : Rec). tried_bucket st.places r.peer) ones) bucket
      inside bucket start q is passes =
          let found = found_at (occupant_at st false bucket) nets (slots_from start) q is in
          let h = find-Some (is_tried_at st.places bucket found.0) st.records q found.1 in
          subst (Contains (map (λ (r : Rec). tried_bucket st.places r.peer) ones)) (tried_at_parts st.places bucket found.0 q h.1).0
          (Contains-map (λ (r : Rec). tried_bucket st.places r.peer) ones q (Contains-filter test st.records q h.0 passes))

      one_each : length (map (λ (r : Rec). tried_bucket st.places r.peer) ones) ≤ 1 * length ones
      one_each = let long = length-map ones (λ (r : Rec). tried_bucket st.places r.peer) in omega (arith, long)

-- records have one slot of a bucket each
pub by_slots : (st : State) (in_new : Bool) (bucket : ℕ) (test : Rec → Bool) → count_by (λ slot. holds test (occupant_at st in_new bucket slot)) (range_with_len 0 64) ≤ length (filter test st.records)
by_slots st in_new bucket test =
    subst (λ k. count_by (λ slot. holds test (occupant_at st in_new bucket slot)) (range_with_len 0 64) ≤ k) (length-map (filter test st.records) (slot_of in_new))
    (count_within (λ slot. holds test (occupant_at st in_new bucket slot)) (map (slot_of in_new) (filter test st.records)) 64 (λ slot below is. by in_new slot (occupant_at st in_new bucket slot) refl is))
  where
    slot_of : Bool → Rec → ℕ
    slot_of true r = new_slot st.places r.peer bucket
    slot_of false r = tried_slot st.places r.peer bucket

    by : (n : Bool) (slot : ℕ) (o : Option Rec) → occupant_at st n bucket slot ≡ o → holds test o ≡ true → Contains (map (slot_of n) (filter test st.records)) slot
    by n slot None is passes = absurd (true≢false (sym passes))
    by true slot (Some q) is passes =
        let h = find-Some (is_new_at st.places bucket slot) st.records q is in
        subst (Contains (map (slot_of true) (filter test st.records))) (new_at_parts st.places bucket slot q h.1).1
        (Contains-map (slot_of true) (filter test st.records) q (Contains-filter test st.records q h.0 passes))
    by false slot (Some q) is passes =
        let h = find-Some (is_tried_at st.places bucket slot) st.records q is in
        subst (Contains (map (slot_of false) (filter test st.records))) (tried_at_parts st.places bucket slot q h.1).1
        (Contains-map (slot_of false) (filter test st.records) q (Contains-filter test st.records q h.0 passes))
