-- What a walk over the occupied slots of a bucket finds.
use Rattle.std.proofs.Common.{◌≡◌, ℕ, zero, suc, ◌+◌, ◌-◌, ◌<◌, ◌≤◌, Bool, true, false, Option, None, Some, refl, sym, ap, ◌∙◌, arith, rules, List, if◌then◌else◌, find, filter_map, is_some, IsSome, bytes_eq, subst}
use Rattle.std.specs.Int.{bit_at}
use Rattle.std.specs.List.{range_with_len}
use Rattle.std.specs.Option.{option_or}
use Rattle.std.proofs.lemmas.List.Elements.{filter_map-append}
use Rattle.std.proofs.lemmas.List.Folds.{find-append}
use Rattle.std.proofs.lemmas.Slice.Eq.{bytes_eq-Decides}
use Rattle.net_addr.specs.NetSet.{all, has}
use Rattle.net_addr.specs.declared.net.Net.{Net}
use Rattle.net_addr.specs.declared.net.Net.TheVariants.{Unroutable}
use Rattle.peer_rec.specs.Rec.{network}
use Rattle.peer_rec.specs.declared.rec.Rec.{Rec}
use Rattle.table_machine.specs.State.{State}
use Rattle.table_machine.specs.Picks.{first_candidate, is_wanted, occupant_at}
use Rattle.slot_grid.specs.Masks.{bit_of}
use Rattle.picking.specs.Inside.{IsMask, candidate_in}

-- the set of all networks wants each record
pub all_want : (nets : List ℕ) (r : Rec) → bytes_eq nets all ≡ true → is_wanted nets r ≡ true
all_want nets r same = subst (λ s. is_wanted s r ≡ true) (sym ((bytes_eq-Decides nets all).0 same)) (by (network r))
  where
    by : (net : Net) → has all net ≡ true
    by Unroutable = refl
    by other = refl

-- a slot whose bit is 0 is empty, and one whose bit is 1 is occupied
empty_by : (occupant : ℕ → Option Rec) (mask slot : ℕ) → IsMask occupant mask → slot < 64 → bit_at mask slot ≡ 0 → occupant slot ≡ None
empty_by occupant mask slot is below clear = by (occupant slot) (sym (is slot below) ∙ clear)
  where
    by : (o : Option Rec) → bit_of (is_some o) ≡ 0 → o ≡ None
    by None h = refl
    by (Some r) h = absurd (omega (arith, h))

pub occupied_by : (occupant : ℕ → Option Rec) (mask slot : ℕ) → IsMask occupant mask → slot < 64 → bit_at mask slot ≡ 1 → IsSome (occupant slot)
occupied_by occupant mask slot is below set = by (occupant slot) (sym (is slot below) ∙ set)
  where
    by : (o : Option Rec) → bit_of (is_some o) ≡ 1 → IsSome o
    by None h = absurd (omega (arith, h))
    by (Some r) h = search rules

-- the record of a slot if it is wanted, and else what the slots after it give
abbrev candidate_or : List ℕ → Option Rec → Option Rec → Option Rec
candidate_or nets None rest = rest
candidate_or nets (Some r) rest = if is_wanted nets r then Some r else rest

module _ (st : State) (in_new : Bool) (nets : List ℕ) (bucket : ℕ) where
  -- the first wanted record in the slots up to `to`, from one on
  abbrev between : ℕ → ℕ → Option Rec
  between from to = candidate_in st in_new nets bucket from (to - from)

  at_slot : (slot count : ℕ) (o : Option Rec) → occupant_at st in_new bucket slot ≡ o
      → candidate_in st in_new nets bucket slot (suc count) ≡ candidate_or nets o (candidate_in st in_new nets bucket (slot + 1) count)
  at_slot slot count None is = rw is refl
  at_slot slot count (Some r) is = rw is refl

  step : (slot to : ℕ) (o : Option Rec) → slot < to → occupant_at st in_new bucket slot ≡ o
      → between slot to ≡ candidate_or nets o (between (slot + 1) to)
  step slot to o below is =
      let more : to - slot ≡ suc (to - (slot + 1)) = omega arith in
      ap (candidate_in st in_new nets bucket slot) more ∙ at_slot slot (to - (slot + 1)) o is

  -- empty slots are passed over
  skipped : (count from to : ℕ) → from + count ≤ to → ((i : ℕ) → from ≤ i → i < from + count → occupant_at st in_new bucket i ≡ None)
      → between from to ≡ between (from + count) to
  skipped zero from to within empty = let same : from ≡ from + 0 = omega arith in ap (λ k. between k to) same
  skipped (suc count) from to within empty =
      let later : from + 1 + count ≡ from + suc count = omega arith in
      step from to None (omega arith) (empty from (omega arith) (omega arith))
      ∙ skipped count (from + 1) to (omega arith) (λ i after less. empty i (omega arith) (omega arith))
      ∙ ap (λ k. between k to) later

  pub to_next : (mask from slot to : ℕ) → IsMask (occupant_at st in_new bucket) mask → from ≤ slot → slot ≤ to → to ≤ 64
      → ((i : ℕ) → from ≤ i → i < slot → bit_at mask i ≡ 0) → between from to ≡ between slot to
  to_next mask from slot to is after within slots none =
      let more : from + (slot - from) ≡ slot = omega arith in
      skipped (slot - from) from to (omega arith)
      (λ i high low. empty_by (occupant_at st in_new bucket) mask i is (omega arith) (none i high (omega arith)))
      ∙ ap (λ k. between k to) more

  -- a record that is not wanted is passed over
  pub candidate-other : (slot to : ℕ) (r : Rec) → slot < to → occupant_at st in_new bucket slot ≡ Some r → is_wanted nets r ≡ false
      → between slot to ≡ between (slot + 1) to
  candidate-other slot to r below is other = step slot to (Some r) below is ∙ ap (λ b. if b then Some r else between (slot + 1) to) other

  pub candidate-one : (slot to : ℕ) (r : Rec) → slot < to → occupant_at st in_new bucket slot ≡ Some r → is_wanted nets r ≡ true
      → between slot to ≡ Some r
  candidate-one slot to r below is wanted = step slot to (Some r) below is ∙ ap (λ b. if b then Some r else between (slot + 1) to) wanted

  pub candidate-none : (to : ℕ) → between to to ≡ None
  candidate-none to = let none : to - to ≡ 0 = omega arith in ap (candidate_in st in_new nets bucket to) none

  -- going round: the slots from the start on, and then those before it
  around : (start : ℕ)
      → first_candidate st in_new nets bucket start ≡ option_or (between start 64) (candidate_in st in_new nets bucket 0 start)
  around start =
      let at = occupant_at st in_new bucket in
      ap (find (is_wanted nets)) (filter_map-append at (range_with_len start (64 - start)) (range_with_len 0 start))
      ∙ find-append (is_wanted nets) (filter_map at (range_with_len start (64 - start))) (filter_map at (range_with_len 0 start))

  pub candidate-first : (start : ℕ) (r : Rec) → between start 64 ≡ Some r → first_candidate st in_new nets bucket start ≡ Some r
  candidate-first start r is = around start ∙ ap (λ o. option_or o (candidate_in st in_new nets bucket 0 start)) is

  pub candidate-second : (start : ℕ) → between start 64 ≡ None → first_candidate st in_new nets bucket start ≡ between 0 start
  candidate-second start none =
      let whole : start ≡ start - 0 = omega arith in
      around start
      ∙ ap (λ o. option_or o (candidate_in st in_new nets bucket 0 start)) none
      ∙ ap (candidate_in st in_new nets bucket 0) whole
