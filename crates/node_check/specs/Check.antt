-- The test that ends a node's loading of its peers (`AddrManImpl::CheckAddrman` in addrman.cpp of
-- Bitcoin Core 29, from memory). It gives 0, or the code of the first of its tests that fails, here
-- without its sign. A node starts only if it gives 0.
--
-- Tests that no state fails are left out. Times before 1970 (-6, -8): times here are not negative.
-- Counters of records (-9, -10) and of networks (-20, -21): a state has the records alone. A slot
-- with a record that does not belong there (-17, -18, -19): a state has no slots beside the records.
use Rattle.std.specs.Prelude.{ℕ, List, [], ◌∷◌, length, map, count_by, sum_by, Bool, true, false, ◌&&◌, not, ◌==◌, nat_lt, if◌then◌else◌}
use Rattle.std.specs.List.{list_any, list_all, range_with_len}
use Rattle.net_addr.specs.Same.{same_peer}
use Rattle.peer_rec.specs.Rec.{buckets_of, is_tried}
use Rattle.peer_rec.specs.declared.buckets.TheConstants.{MAX_LISTS}
use Rattle.peer_rec.specs.declared.rec.Rec.{Rec}
use Rattle.slot_grid.specs.declared.sizes.TheConstants.{SLOTS}
use Rattle.table_machine.specs.Picks.{bucket_count, occupant_at}
use Rattle.table_machine.specs.State.{State}
use Rattle.table_laws.specs.Rounds.{holds}

-- The first code that is not 0.
abbrev pub first_code : List ℕ → ℕ
first_code [] = 0
first_code (code ∷ codes) = if code == 0 then first_code codes else code

-- The code of a test.
abbrev pub code_if : Bool → ℕ → ℕ
code_if fails code = if fails then code else 0

-- How many slots of a table have the record of the number.
unfoldable pub held : State → Bool → ℕ → ℕ
held st in_new number =
    sum_by
    (λ bucket. count_by (λ slot. holds (λ q. q.number == number) (occupant_at st in_new bucket slot))
    (range_with_len 0 SLOTS))
    (range_with_len 0 (bucket_count in_new))

-- A peer's number is looked up in `mapAddr`. A record that is read writes its own number there, and
-- one that is deleted leaves none, so of the records that were read only one may have the peer.
abbrev pub is_found : List Rec → Rec → Bool
is_found read r = count_by (λ q. same_peer q.peer r.peer) read == 1

-- The record's number is in the order of the records (`vRandom`).
abbrev pub is_in_order : State → Rec → Bool
is_in_order st r = list_any (λ number. number == r.number) st.order

-- A tried record with no success, or in a bucket of the new table; a new one in more than eight, or
-- in none.
abbrev pub place_code : Rec → ℕ
place_code r =
    if is_tried r
    then first_code (code_if (r.last_success == 0) 1 ∷ code_if (nat_lt 0 (length (buckets_of r))) 2 ∷ [])
    else first_code (
    code_if (nat_lt MAX_LISTS (length (buckets_of r))) 3
    ∷ code_if (length (buckets_of r) == 0) 4 ∷ [])

-- The tests of one record.
abbrev pub rec_code : List Rec → State → Rec → ℕ
rec_code read st r =
    first_code (
    place_code r ∷ code_if (not (is_found read r)) 5 ∷ code_if (not (is_in_order st r)) 14 ∷ [])

-- Some record of the tried table, or of the new one, has a property.
abbrev pub some_tried : (Rec → Bool) → State → Bool
some_tried test st = list_any (λ r. is_tried r && test r) st.records

abbrev pub some_new : (Rec → Bool) → State → Bool
some_new test st = list_any (λ r. not (is_tried r) && test r) st.records

-- Each byte of a key is zero.
abbrev pub is_zero : List ℕ → Bool
is_zero key = list_all (λ b. b == 0) key

-- All tests, over the records that were read and the tables that were made of them. A node goes
-- through its records in the order of a hash table, here it is that of their numbers.
abbrev pub check_code : List Rec → State → ℕ
check_code read st =
    first_code (
    code_if (not (length st.order == length st.records)) 7
    ∷ first_code (map (rec_code read st) st.records)
    ∷ code_if (some_tried (λ r. nat_lt 1 (held st false r.number)) st) 11
    ∷ code_if (some_new (λ r. nat_lt (length (buckets_of r)) (held st true r.number)) st) 12
    ∷ code_if (some_tried (λ r. held st false r.number == 0) st) 13
    ∷ code_if (some_new (λ r. nat_lt (held st true r.number) (length (buckets_of r))) st) 15
    ∷ code_if (is_zero st.places.key) 16 ∷ [])
