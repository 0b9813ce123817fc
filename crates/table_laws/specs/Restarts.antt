-- What a restart changes, and what it leaves as it was.
use Rattle.std.specs.Prelude.{◌≡◌, ℕ, ◌+◌, ◌<◌, ◌≤◌, List, length, Bool, true, not, Contains, Option, Some, None}
use Rattle.peer_rec.specs.Rec.{is_tried}
use Rattle.peer_rec.specs.declared.rec.Rec.{Rec}
use Rattle.table_machine.specs.Picks.{is_eligible, is_wanted, occupant_at}
use Rattle.table_machine.specs.Restart.{restart}
use Rattle.table_machine.specs.State.{State}
use Rattle.table_laws.specs.Chances.{leading_slots, picking_words}

-- the record with another number, and without the marks of tries
abbrev pub reopened : Rec → ℕ → Rec
reopened r number = record r { number = number; last_try = 0; last_count = 0 }

-- no record in either slot, or one and what a restart makes of it
abbrev pub IsReopened : Option Rec → Option Rec → Type 0
IsReopened None new = new ≡ None
IsReopened (Some r) new = (number : ℕ) × (new ≡ Some (reopened r number))

-- A restart loses no record and makes none, and leaves each in its slots. So as many slots lead to
-- a slot as before. A record that was last tried at least ten minutes ago is as likely to be picked
-- in a round as before, and one that was last tried more than a minute ago may be in a sample if it
-- might be before.
pub record KeepsOverRestart (st : State) : Type 0 where
  pub count : length (restart st).records ≡ length st.records
  pub all : (r : Rec) → Contains st.records r
      → (number : ℕ) × Contains (restart st).records (reopened r number)
  pub only : (q : Rec) → Contains (restart st).records q
      → (r : Rec) × Contains st.records r × (q ≡ reopened r q.number)
  pub slots : (in_new : Bool) (bucket slot : ℕ)
      → IsReopened (occupant_at st in_new bucket slot) (occupant_at (restart st) in_new bucket slot)
  pub leading : (in_new : Bool) (nets : List ℕ) (bucket slot : ℕ)
      → leading_slots (restart st) in_new nets bucket slot
      ≡ leading_slots st in_new nets bucket slot
  pub picks : (nets : List ℕ) (now factor : ℕ) (r : Rec) → Contains st.records r
      → is_wanted nets r ≡ true → r.last_try + 600 ≤ now
      → (number : ℕ) → Contains (restart st).records (reopened r number)
      → picking_words (restart st) (not (is_tried r)) nets now factor number
      ≡ picking_words st (not (is_tried r)) nets now factor r.number
  pub eligible : (classes : List ℕ) (now : ℕ) (r : Rec) (number : ℕ) → r.last_try + 60 < now
      → is_eligible classes now (reopened r number) ≡ is_eligible classes now r
