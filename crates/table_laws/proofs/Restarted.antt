-- A restart leaves each record in its slots.
use Rattle.std.proofs.Common.{◌≡◌, ℕ, ◌+◌, ◌-◌, ◌*◌, ◌/◌, ◌^◌, ◌<◌, ◌≤◌, min, Bool, true, false, not, ◌&&◌, ◌||◌, nat_lt, nat_le, ◌==◌, List, [], ◌∷◌, ◌++◌, length, filter, find, sum_by, Contains, Option, Some, None, refl, sym, ap, subst, ◌∙◌, ⊎_elim, arith, true≢false, length-append, if◌then◌else◌}
use Rattle.std.proofs.lemmas.Bool.{both_ways, false_from_ne_true, le-ltb, lt-leb}
use Rattle.std.proofs.lemmas.List.Elements.{Contains-append_left, Contains-append_right}
use Rattle.net_addr.specs.NetSet.{has}
use Rattle.net_addr.specs.Ranges.{net_class}
use Rattle.placing.specs.Places.{Places, new_slot, tried_bucket, tried_slot}
use Rattle.peer_rec.specs.Rec.{buckets_by, buckets_of, is_tried, tried_by}
use Rattle.peer_rec.specs.declared.place.Place.{Place}
use Rattle.peer_rec.specs.declared.place.Place.TheVariants.{New, Tried}
use Rattle.peer_rec.specs.declared.rec.Rec.{Rec}
use Rattle.table_machine.specs.Picks.{is_eligible, is_wanted, occupant_at}
use Rattle.table_machine.specs.Restart.{with_numbers, restart}
use Rattle.table_machine.specs.Snapshot.{new_records, tried_records}
use Rattle.table_machine.specs.Sound.{IsSound}
use Rattle.table_machine.specs.State.{State, is_new_at, is_tried_at}
use Rattle.table_machine.proofs.Grown.{all_of-from}
use Rattle.table_machine.proofs.Lists.{Contains-cases, Contains-filter, Contains-from_filter, Contains-head, Contains-tail, find_none_from, none_in_nil}
use Rattle.table_machine.proofs.Records.{new_at_parts, tried_at-is_tried}
use Rattle.table_machine.proofs.SnapshotFits.{restart_sound}
use Rattle.table_laws.specs.Chances.{accepting_words, leading_slots, picking_words}
use Rattle.table_laws.specs.Restarts.{IsReopened, KeepsOverRestart, reopened}
use Rattle.table_laws.specs.Rounds.{gap, holds}
use Rattle.table_laws.proofs.Picked.{new_words, tried_words}

with_numbers-has : (n : ℕ) (rs : List Rec) (r : Rec) → Contains rs r → (number : ℕ) × Contains (with_numbers n rs) (reopened r number)
with_numbers-has n [] r c = absurd (none_in_nil r c)
with_numbers-has n (x ∷ rs) r c =
    let rest = with_numbers-has (n + 1) rs r in
    ⊎_elim (λ (is : x ≡ r). (n, subst (λ (y : Rec). Contains (with_numbers n (x ∷ rs)) (reopened y n)) is (Contains-head (reopened x n) (with_numbers (n + 1) rs))))
    (λ later. let h = rest later in (h.0, Contains-tail (reopened x n) (with_numbers (n + 1) rs) (reopened r h.0) h.1)) (Contains-cases x rs r c)

with_numbers-from : (n : ℕ) (rs : List Rec) (q : Rec) → Contains (with_numbers n rs) q → (r : Rec) × Contains rs r × (q ≡ reopened r q.number)
with_numbers-from n [] q c = absurd (none_in_nil q c)
with_numbers-from n (x ∷ rs) q c =
    let rest = with_numbers-from (n + 1) rs q in
    ⊎_elim (λ (is : reopened x n ≡ q). (x, Contains-head x rs, subst (λ (y : Rec). y ≡ reopened x y.number) is refl))
    (λ later. let h = rest later in (h.0, Contains-tail x rs h.0 h.1, h.2)) (Contains-cases (reopened x n) (with_numbers (n + 1) rs) q c)

with_numbers-length : (n : ℕ) (rs : List Rec) → length (with_numbers n rs) ≡ length rs
with_numbers-length n [] = refl
with_numbers-length n (r ∷ rs) = let rest = with_numbers-length (n + 1) rs in omega (arith, rest)

-- what a search finds
module _ (p : Rec → Bool) (same : (r : Rec) (n : ℕ) → p (reopened r n) ≡ p r) where
  find-with_numbers : (n : ℕ) (rs : List Rec) → IsReopened (find p rs) (find p (with_numbers n rs))
  find-with_numbers n [] = refl
  find-with_numbers n (r ∷ rs) =
      subst (λ b. IsReopened (if p r then Some r else find p rs) (if b then Some (reopened r n) else find p (with_numbers (n + 1) rs))) (sym (same r n))
      (by (p r) (find-with_numbers (n + 1) rs))
    where
      by : (b : Bool) → IsReopened (find p rs) (find p (with_numbers (n + 1) rs))
          → IsReopened (if b then Some r else find p rs) (if b then Some (reopened r n) else find p (with_numbers (n + 1) rs))
      by true rest = (n, refl)
      by false rest = rest

module _ {X : Type 0} (p : X → Bool) where
  -- a search among those that pass another test, which all that it may find do
  find-filter : (q : X → Bool) → ((x : X) → p x ≡ true → q x ≡ true) → (xs : List X) → find p (filter q xs) ≡ find p xs
  find-filter q is [] = refl
  find-filter q is (x ∷ xs) = by (q x) (p x) refl refl (find-filter q is xs)
    where
      by : (a b : Bool) → q x ≡ a → p x ≡ b → find p (filter q xs) ≡ find p xs → find p (filter q (x ∷ xs)) ≡ find p (x ∷ xs)
      by true b passes found rest = rw passes (ap (λ o. if p x then Some x else o) rest)
      by false true passes found rest = absurd (both_ways (q x) passes (is x found))
      by false false passes found rest = rw passes (rw found rest)

  find-second : (xs ys : List X) → find p xs ≡ None → find p (xs ++ ys) ≡ find p ys
  find-second [] ys none = refl
  find-second (x ∷ xs) ys none = by (p x) refl (find-second xs ys)
    where
      by : (b : Bool) → p x ≡ b → (find p xs ≡ None → find p (xs ++ ys) ≡ find p ys) → find p ((x ∷ xs) ++ ys) ≡ find p ys
      by true is rest = let none_here : ◌≡◌ {A = Option X} (Some x) None = sym (rw is refl) ∙ none in absurd (cc)
      by false is rest = let skip : find p xs ≡ None = sym (rw is refl) ∙ none in rw is (rest skip)

  find-first : (xs ys : List X) → find p ys ≡ None → find p (xs ++ ys) ≡ find p xs
  find-first [] ys none = none
  find-first (x ∷ xs) ys none = ap (λ o. if p x then Some x else o) (find-first xs ys none)

bare_tried : (r : Rec) → is_tried r ≡ true → buckets_of r ≡ []
bare_tried r = by r.place
  where
    by : (place : Place) → tried_by place ≡ true → buckets_by place ≡ []
    by (New buckets) is = absurd (true≢false (sym is))
    by Tried is = refl

-- how many words accept the record, if it was tried lately or not
abbrev accepting_by : Rec → ℕ → Bool → ℕ
accepting_by r factor recent =
    let tries = min r.attempts 8 in
    let parts = (2 ^ 30 * 66 ^ tries) / 100 ^ tries in
    min (((if recent then parts / 100 else parts) * factor + (2 ^ 30 - 1)) / 2 ^ 30) (2 ^ 30)

-- whether the record may be in a sample, if it was tried in the last minute or not
abbrev eligible_by : List ℕ → ℕ → Rec → Bool → Bool
eligible_by classes now r just =
    has classes (net_class r.peer.addr) && not (not just && (
    nat_lt (now + 600) r.time ||
    nat_lt (r.time + 2592000) now ||
    (r.last_success == 0 && nat_le 3 r.attempts) ||
    (nat_lt (r.last_success + 604800) now && nat_le 10 r.attempts)))

module _ (st : State) where
  abbrev all_of : List Rec
  all_of = new_records st ++ tried_records st

  abbrev untried : Rec → Bool
  untried r = not (is_tried r)

  abbrev at_slot : Bool → ℕ → ℕ → Rec → Bool
  at_slot true bucket slot = is_new_at st.places bucket slot
  at_slot false bucket slot = is_tried_at st.places bucket slot

  not_tried : (places : Places) (bucket slot : ℕ) (r : Rec) → is_new_at places bucket slot r ≡ true → is_tried r ≡ false
  not_tried places bucket slot r at =
      false_from_ne_true (is_tried r) (λ tried. none_in_nil bucket (subst (λ bs. Contains bs bucket) (bare_tried r tried) (new_at_parts places bucket slot r at).0))

  -- a search for the record at a slot finds the same among the new ones and then the tried ones
  same_search : (in_new : Bool) (bucket slot : ℕ) → find (at_slot in_new bucket slot) all_of ≡ find (at_slot in_new bucket slot) st.records
  same_search true bucket slot =
      find-first (is_new_at st.places bucket slot) (new_records st) (tried_records st)
      (find_none_from (is_new_at st.places bucket slot) (tried_records st) (λ r c at.
      both_ways (is_tried r) (not_tried st.places bucket slot r at) (Contains-from_filter is_tried st.records r c).1))
      ∙ find-filter (is_new_at st.places bucket slot) untried (λ r at. ap not (not_tried st.places bucket slot r at)) st.records
  same_search false bucket slot =
      find-second (is_tried_at st.places bucket slot) (new_records st) (tried_records st)
      (find_none_from (is_tried_at st.places bucket slot) (new_records st) (λ r c at.
      both_ways (not (is_tried r)) (ap not (tried_at-is_tried st.places bucket slot r at)) (Contains-from_filter untried st.records r c).1))
      ∙ find-filter (is_tried_at st.places bucket slot) is_tried (tried_at-is_tried st.places bucket slot) st.records

  found : (in_new : Bool) (bucket slot : ℕ) → IsReopened (find (at_slot in_new bucket slot) all_of) (find (at_slot in_new bucket slot) (with_numbers 0 all_of))
  found true bucket slot = find-with_numbers (is_new_at st.places bucket slot) (λ r n. refl) 0 all_of
  found false bucket slot = find-with_numbers (is_tried_at st.places bucket slot) (λ r n. refl) 0 all_of

  slots : (in_new : Bool) (bucket slot : ℕ) → IsReopened (occupant_at st in_new bucket slot) (occupant_at (restart st) in_new bucket slot)
  slots true bucket slot = subst (λ o. IsReopened o (find (is_new_at st.places bucket slot) (with_numbers 0 all_of))) (same_search true bucket slot) (found true bucket slot)
  slots false bucket slot = subst (λ o. IsReopened o (find (is_tried_at st.places bucket slot) (with_numbers 0 all_of))) (same_search false bucket slot) (found false bucket slot)

  same_wanted : (nets : List ℕ) (old new : Option Rec) → IsReopened old new → holds (is_wanted nets) new ≡ holds (is_wanted nets) old
  same_wanted nets None new is = ap (holds (is_wanted nets)) is
  same_wanted nets (Some r) new is = ap (holds (is_wanted nets)) is.1

  leading : (in_new : Bool) (nets : List ℕ) (bucket slot : ℕ) → leading_slots (restart st) in_new nets bucket slot ≡ leading_slots st in_new nets bucket slot
  leading in_new nets bucket slot i =
      gap (λ s. same_wanted nets (occupant_at st in_new bucket s) (occupant_at (restart st) in_new bucket s) (slots in_new bucket s) i) 64 slot

  all : (r : Rec) → Contains st.records r → (number : ℕ) × Contains (restart st).records (reopened r number)
  all r has = with_numbers-has 0 all_of r (by (is_tried r) refl)
    where
      by : (b : Bool) → is_tried r ≡ b → Contains all_of r
      by true is = Contains-append_right (new_records st) (tried_records st) r (Contains-filter is_tried st.records r has is)
      by false is = Contains-append_left (new_records st) (tried_records st) r (Contains-filter untried st.records r has (ap not is))

  only : (q : Rec) → Contains (restart st).records q → (r : Rec) × Contains st.records r × (q ≡ reopened r q.number)
  only q c = let h = with_numbers-from 0 all_of q c in (h.0, all_of-from st h.0 h.1, h.2)

  parts : (rs : List Rec) → length (filter untried rs) + length (filter is_tried rs) ≡ length rs
  parts [] = omega arith
  parts (r ∷ rs) = by (is_tried r) (parts rs)
    where
      by : (b : Bool) → length (filter untried rs) + length (filter is_tried rs) ≡ length rs
          → length (if not b then r ∷ filter untried rs else filter untried rs) + length (if b then r ∷ filter is_tried rs else filter is_tried rs) ≡ length (r ∷ rs)
      by true rest = omega (arith, rest)
      by false rest = omega (arith, rest)

  count : length (restart st).records ≡ length st.records
  count = with_numbers-length 0 all_of ∙ length-append (new_records st) (tried_records st) ∙ parts st.records

  -- ten minutes after the last try a record is as likely to be accepted
  accepted : (now factor : ℕ) (r : Rec) (number : ℕ) → r.last_try + 600 ≤ now → accepting_words (reopened r number) now factor ≡ accepting_words r now factor
  accepted now factor r number late =
      let before = le-ltb now (r.last_try + 600) late in
      let after = le-ltb now (0 + 600) (omega (arith, late)) in
      ap (λ b. accepting b) after ∙ sym (ap (λ b. accepting b) before)
    where
      accepting : Bool → ℕ
      accepting b = accepting_by (reopened r number) factor b

  module _ (sound : IsSound st) (nets : List ℕ) (now factor : ℕ) (r : Rec) (has : Contains st.records r) (wanted : is_wanted nets r ≡ true) (late : r.last_try + 600 ≤ now)
      (number : ℕ) (there : Contains (restart st).records (reopened r number)) where
    picks : picking_words (restart st) (not (is_tried r)) nets now factor number ≡ picking_words st (not (is_tried r)) nets now factor r.number
    picks = by (is_tried r) refl
      where
        by : (b : Bool) → is_tried r ≡ b → picking_words (restart st) (not b) nets now factor number ≡ picking_words st (not b) nets now factor r.number
        by true tried =
            tried_words (restart st) (restart_sound st sound) nets now factor (reopened r number) there wanted tried
            ∙ (λ i. leading false nets (tried_bucket st.places r.peer) (tried_slot st.places r.peer (tried_bucket st.places r.peer)) i * accepted now factor r number late i)
            ∙ sym (tried_words st sound nets now factor r has wanted tried)
        by false untried =
            new_words (restart st) (restart_sound st sound) nets now factor (reopened r number) there wanted
            ∙ (λ i. sum_by (λ b. leading true nets b (new_slot st.places r.peer b) i) (buckets_of r) * accepted now factor r number late i)
            ∙ sym (new_words st sound nets now factor r has wanted)

  eligible : (classes : List ℕ) (now : ℕ) (r : Rec) (number : ℕ) → r.last_try + 60 < now → is_eligible classes now (reopened r number) ≡ is_eligible classes now r
  eligible classes now r number late =
      let before = lt-leb now (r.last_try + 60) late in
      let after = lt-leb now (0 + 60) (omega (arith, late)) in
      ap (λ b. eligible_by classes now r b) after ∙ sym (ap (λ b. eligible_by classes now r b) before)

  pub keeps_over_restart : IsSound st → KeepsOverRestart st
  keeps_over_restart sound = record {
    count = count;
    all = all;
    only = only;
    slots = slots;
    leading = leading;
    picks = λ nets now factor r has wanted late number there. picks sound nets now factor r has wanted late number there;
    eligible = eligible;
  }
