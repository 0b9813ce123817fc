-- Worked examples: for each test a state that fails it, and which code is that.
use Rattle.std.proofs.Common.{◌≡◌, ℕ, [], ◌∷◌, refl}
use Rattle.net_addr.specs.Same.{same_address}
use Rattle.peer_rec.specs.declared.place.Place.TheVariants.{New, Tried}
use Rattle.peer_rec.specs.declared.rec.Rec.{Rec}
use Rattle.table_machine.specs.State.{State, empty_state}
use Rattle.table_machine.proofs.ExampleStates.{rec, state, zeros}
use Rattle.node_check.specs.Check.{check_code}

-- the test of a state whose records were all that was read
abbrev code : State → ℕ
code st = check_code st.records st

abbrev reached : ℕ → ℕ → Rec
reached number port = record (rec number port Tried) { last_success = 5 }

zero_key : code (empty_state zeros) ≡ 16
zero_key = refl

never_reached : code (state (rec 0 8333 Tried ∷ []) (0 ∷ []) [] 1) ≡ 1
unfolding same_address
never_reached = refl

in_nine_buckets : code (state (rec 0 8333 (New (1 ∷ 2 ∷ 3 ∷ 4 ∷ 5 ∷ 6 ∷ 7 ∷ 8 ∷ 9 ∷ [])) ∷ []) (0 ∷ []) [] 1) ≡ 3
unfolding same_address
in_nine_buckets = refl

in_no_bucket : code (state (rec 0 8333 (New []) ∷ []) (0 ∷ []) [] 1) ≡ 4
unfolding same_address
in_no_bucket = refl

-- a peer with two records, and one whose other record was deleted
twice : code (state (reached 0 8333 ∷ reached 1 8333 ∷ []) (0 ∷ 1 ∷ []) [] 2) ≡ 5
unfolding same_address
twice = refl

other_deleted : check_code (reached 0 8333 ∷ rec 1 8333 (New []) ∷ []) (state (reached 0 8333 ∷ []) (0 ∷ []) [] 2) ≡ 5
unfolding same_address
other_deleted = refl

-- an order with a number too many, and one with another number
too_long : code (state (reached 0 8333 ∷ []) (0 ∷ 0 ∷ []) [] 1) ≡ 7
too_long = refl

not_named : code (state (reached 0 8333 ∷ []) (1 ∷ []) [] 1) ≡ 14
unfolding same_address
not_named = refl
