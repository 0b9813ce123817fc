-- Worked examples of each law over a table of three records, computed over the definitions. Buckets
-- and slots are given, and not found by hashes.
use Rattle.std.proofs.Common.{◌≡◌, ℕ, ◌^◌, Bool, true, false, ◌&&◌, not, ◌==◌, List, [], ◌∷◌, ◌++◌, map, find, filter_map, count_by, Option, Some, None, refl, if◌then◌else◌}
use Rattle.std.specs.List.{range_with_len}
use Rattle.net_addr.specs.NetSet.{all}
use Rattle.net_addr.specs.Ranges.{in_range}
use Rattle.peer_rec.specs.Rec.{buckets_of, is_terrible, next_factor}
use Rattle.peer_rec.specs.declared.answers.Picked.TheVariants.{One}
use Rattle.peer_rec.specs.declared.place.Place.TheVariants.{New, Tried}
use Rattle.peer_rec.specs.declared.rec.Rec.{Rec}
use Rattle.table_machine.specs.Entries.{enter_occupied, with_last, with_record}
use Rattle.table_machine.specs.Picks.{candidates, first_accepted, first_factor, is_accepted, is_wanted}
use Rattle.table_machine.specs.Restart.{restart}
use Rattle.table_machine.specs.State.{State}
use Rattle.table_machine.specs.Tried.{clear_new}
use Rattle.table_machine.proofs.ExampleStates.{failed, now, peer, rec, state}
use Rattle.table_laws.specs.Chances.{accepting_words}
use Rattle.table_laws.specs.Losses.{lost_count, made_count}
use Rattle.table_laws.specs.Rounds.{around, gap, holds}
use Rattle.table_laws.specs.Searches.{candidate_in, round}
use Rattle.table_laws.specs.Shuffle.{exchanged}

-- Three records of bucket 5: one that never failed, one that failed twice an hour ago, and one
-- that failed three times and never succeeded.
abbrev first : Rec
first = failed 0 1 0 (New (5 ∷ []))

abbrev second : Rec
second = failed 1 2 2 (New (5 ∷ []))

abbrev third : Rec
third = failed 2 3 3 (New (5 ∷ []))

abbrev three : State
three = state (first ∷ second ∷ third ∷ []) (0 ∷ 1 ∷ 2 ∷ []) [] 3

-- they are in the slots 5, 40 and 63
abbrev occupants : ℕ → Option Rec
occupants slot =
    if slot == 5 then Some first
    else if slot == 40 then Some second
    else if slot == 63 then Some third
    else None

-- how many of the 64 starts lead to a slot
abbrev leads : ℕ → ℕ
leads slot = gap (λ s. holds (is_wanted all) (occupants s)) 64 slot

lead_to_first : leads 5 ≡ 6
unfolding in_range
lead_to_first = refl

lead_to_second : leads 40 ≡ 35
unfolding in_range
lead_to_second = refl

lead_to_third : leads 63 ≡ 23
unfolding in_range
lead_to_third = refl

-- the same, counted over the 64 starts
counted : count_by (λ start. holds (λ r. r.number == 1) (find (is_wanted all) (filter_map occupants (around 64 start)))) (range_with_len 0 64) ≡ 35
unfolding in_range
counted = refl

-- each word accepts the first at the first factor, and 4356 of 10000 the second
accept_first : accepting_words first now (2 ^ 30) ≡ 2 ^ 30
accept_first = refl

accept_second : accepting_words second now (2 ^ 30) ≡ 467721938
accept_second = refl

-- a record behind 20 empty slots, and one behind an occupied slot
abbrev behind : ℕ → Bool
behind slot = if slot == 10 then true else if slot == 31 then true else slot == 32

behind_twenty : gap behind 64 31 ≡ 21
behind_twenty = refl

behind_none : gap behind 64 32 ≡ 1
behind_none = refl

-- a record that is alone in its bucket
alone : gap (λ slot. slot == 3) 64 3 ≡ 64
alone = refl

-- of three, the last is drawn, and then the second of the two that are left
arranged : exchanged (0 ∷ 1 ∷ 2 ∷ []) 0 (2 ∷ 1 ∷ 0 ∷ []) ≡ 2 ∷ 0 ∷ 1 ∷ []
arranged = refl

-- of the first word's residues all but two lead to no record in the buckets 5 and 9
few_buckets : count_by (λ b. not (b == 5) && not (b == 9)) (range_with_len 0 1024) ≡ 1022
few_buckets = refl

-- An entry for an unknown peer comes upon the third record, which is terrible, in its only bucket:
-- that one is lost, and another is made.
abbrev fourth : Rec
fourth = rec 3 4 (New [])

abbrev after : State
after = (enter_occupied (with_last three fourth) now fourth true 5 third).state

numbers_after : map (λ (r : Rec). r.number) after.records ≡ 0 ∷ 1 ∷ 3 ∷ []
numbers_after = refl

lost_one : lost_count three after ≡ 1
lost_one = refl

made_one : made_count three after ≡ 1
made_one = refl

-- A search of two rounds that ends at the second record. The first round's bucket is empty, so it
-- uses two words; the second round's candidate is refused, and then accepted by a word that would
-- not accept it at the first factor.
abbrev empty_round : List ℕ
empty_round = 7 ∷ 9 ∷ []

no_candidate : candidate_in three true all (round 7 9 0) ≡ None
unfolding in_range
no_candidate = refl

two_words : candidates three true all (empty_round ++ 5 ∷ []) ≡ candidates three true all (5 ∷ [])
unfolding in_range
two_words = refl

abbrev met : List (Rec × ℕ)
met = (second, 467721938) ∷ (second, 561266325) ∷ []

ends_at_second : first_accepted now first_factor met ≡ One (peer 2) 1699996400
ends_at_second = refl

refused_at_first : map (λ m. is_accepted m.0 now first_factor m.1) met ≡ false ∷ false ∷ []
refused_at_first = refl

accepting_at_second : accepting_words second now (next_factor first_factor) ≡ 561266326
accepting_at_second = refl

-- A success of the first record displaces a tried record, which goes back to the slot of bucket 5
-- that the third one was in: that one is lost, though nothing says that it was terrible.
abbrev before : State
before = state (failed 0 1 0 (New (3 ∷ [])) ∷ failed 1 2 0 Tried ∷ failed 2 3 0 (New (5 ∷ [])) ∷ []) (0 ∷ 1 ∷ 2 ∷ []) [] 3

abbrev displaced : State
displaced =
    let left = with_record before (failed 0 1 0 (New [])) in
    with_record (with_record (clear_new left 5 (Some (failed 2 3 0 (New (5 ∷ []))))) (failed 1 2 0 (New (5 ∷ []))))
    (failed 0 1 0 Tried)

numbers_displaced : map (λ (r : Rec). r.number) displaced.records ≡ 0 ∷ 1 ∷ []
numbers_displaced = refl

buckets_displaced : map buckets_of displaced.records ≡ [] ∷ (5 ∷ []) ∷ []
buckets_displaced = refl

not_terrible : is_terrible (failed 2 3 0 (New (5 ∷ []))) now ≡ false
not_terrible = refl

lost_by_success : lost_count before displaced ≡ 1
lost_by_success = refl

made_by_success : made_count before displaced ≡ 0
made_by_success = refl

-- after a restart the tried record comes last, and the tries are as if long ago
abbrev mixed : State
mixed = state (failed 4 1 0 Tried ∷ failed 6 2 2 (New (5 ∷ [])) ∷ failed 9 3 3 (New (5 ∷ [])) ∷ []) (9 ∷ 4 ∷ 6 ∷ []) [] 10

ports_after : map (λ (r : Rec). r.peer.port) (restart mixed).records ≡ 2 ∷ 3 ∷ 1 ∷ []
ports_after = refl

numbers_restarted : map (λ (r : Rec). r.number) (restart mixed).records ≡ 0 ∷ 1 ∷ 2 ∷ []
numbers_restarted = refl

tries_restarted : map (λ (r : Rec). r.last_try) (restart mixed).records ≡ 0 ∷ 0 ∷ 0 ∷ []
tries_restarted = refl
