-- Worked examples: which states are sound, and for each part of soundness a state that breaks it.
use Rattle.std.proofs.Common.{◌≡◌, ℕ, ◌<◌, true, false, List, [], ◌∷◌, Contains, length, replicate, refl, arith}
use Rattle.std.proofs.lemmas.List.Elements.{All-from_recursion, All-replicate}
use Rattle.std.proofs.lemmas.List.Sorted.{length_permutation}
use Rattle.net_addr.specs.Address.{IsAddress}
use Rattle.net_addr.specs.OldForm.{address}
use Rattle.net_addr.specs.declared.peer.Entry.{Entry}
use Rattle.net_addr.specs.declared.net.Net.TheVariants.{Internal}
use Rattle.placing.specs.Places.{IsPlaces, new_slot}
use Rattle.peer_rec.specs.Rec.{buckets_of}
use Rattle.peer_rec.specs.declared.rec.Rec.{Rec}
use Rattle.peer_rec.specs.declared.place.Place.TheVariants.{New, Tried}
use Rattle.table_machine.specs.State.{empty_state, is_new_at}
use Rattle.table_machine.specs.Entries.{add}
use Rattle.table_machine.specs.Sound.{AtMostOne, IsSound}
use Rattle.table_machine.proofs.ExampleStates.{dns, now, peer, rec, state, zeros}
use Rattle.table_machine.proofs.Added.{sound_add, sound_empty}
use Rattle.table_machine.proofs.Records.{new_at_from}

zeros_fit : IsPlaces zeros
zeros_fit = record { key_length = refl; key_bytes = All-replicate (λ b. b < 256) 32 0 (omega arith); map = tt }

dns_fits : IsAddress dns
dns_fits = record {
  network = λ same. (cc);
  length = refl;
  bytes = All-from_recursion (λ b. b < 256) (8 ∷ 8 ∷ 8 ∷ 8 ∷ []) (omega arith, (omega arith, (omega arith, (omega arith, tt))));
  own_form = λ same. refl;
}

abbrev entry : Entry
entry = record { time = now; services = 1; peer = peer 8333 }

-- the empty state, and the state after an entry
nothing_known : IsSound (empty_state zeros)
nothing_known = sound_empty zeros zeros_fit

one_entry : IsSound (add (empty_state zeros) now entry dns 0 0).state
one_entry =
    sound_add (empty_state zeros) now entry dns 0 0 nothing_known (omega arith) dns_fits (omega arith) dns_fits (omega arith) (omega arith)

-- two records at one slot
listed : Contains (buckets_of (rec 0 8333 (New (87 ∷ [])))) 87
listed = (0, omega arith, refl)

abbrev first_there : Rec
first_there = rec 0 8333 (New (87 ∷ []))

abbrev second_there : Rec
second_there = rec 1 8333 (New (87 ∷ []))

two_at_a_slot : AtMostOne (is_new_at zeros) (first_there ∷ second_there ∷ []) → ⊥
two_at_a_slot one =
    let same : first_there.number ≡ second_there.number =
    one 87 (new_slot zeros first_there.peer 87) first_there second_there (0, omega arith, refl) (1, omega arith, refl)
    (new_at_from zeros 87 (new_slot zeros first_there.peer 87) first_there listed refl)
    (new_at_from zeros 87 (new_slot zeros first_there.peer 87) second_there listed refl) in
    omega arith

-- an order with a number twice, and one without it
named_twice : IsSound (state (rec 0 8333 Tried ∷ []) (0 ∷ 0 ∷ []) [] 2) → ⊥
named_twice sound = omega (arith, length_permutation (0 ∷ []) (0 ∷ 0 ∷ []) sound.order)

not_named : IsSound (state (rec 0 8333 Tried ∷ []) [] [] 2) → ⊥
not_named sound = omega (arith, length_permutation (0 ∷ []) [] sound.order)

-- two records of a peer, and a record of a peer that is not valid
one_peer_twice : IsSound (state (rec 0 8333 Tried ∷ rec 1 8333 (New (87 ∷ [])) ∷ []) (0 ∷ 1 ∷ []) [] 2) → ⊥
one_peer_twice sound = sound.peers 0 1 (rec 0 8333 Tried) (omega arith) (omega arith) refl

not_valid : IsSound (state ((record (rec 0 8333 Tried) { peer = record { addr = address Internal (replicate 10 0); port = 8333 } }) ∷ []) (0 ∷ []) [] 2) → ⊥
not_valid sound = let valid : false ≡ true = sound.valid 0 (rec 0 8333 Tried) (omega arith) in absurd (cc)

-- numbers that fall, and a record with the next number
numbers_fall : IsSound (state (rec 1 8333 Tried ∷ rec 0 22 (New (87 ∷ [])) ∷ []) (1 ∷ 0 ∷ []) [] 2) → ⊥
numbers_fall sound = let rise : 1 < 0 = sound.rising 0 (omega arith) in omega arith

not_below_next : IsSound (state (rec 2 8333 Tried ∷ []) (2 ∷ []) [] 2) → ⊥
not_below_next sound = let below : 2 < 2 = sound.below_next 0 (rec 2 8333 Tried) (omega arith) in omega arith

-- a collision that is there twice, eleven collisions, and one of a number that no record has had
-- yet
waits_twice : IsSound (state [] [] (1 ∷ 1 ∷ []) 2) → ⊥
waits_twice sound = let rise : 1 < 1 = sound.collisions 0 (omega arith) in omega arith

eleven_wait : (collisions : List ℕ) → length collisions ≡ 11 → IsSound (state [] [] collisions 2) → ⊥
eleven_wait collisions eleven sound = let few = sound.few_collisions in omega arith

not_made_yet : IsSound (state [] [] (2 ∷ []) 2) → ⊥
not_made_yet sound = let below : 2 < 2 = sound.collisions_below_next 0 0 (omega arith) in omega arith

-- a collision whose slot of the tried table is empty
nothing_to_wait_for : IsSound (state (rec 0 8333 (New (87 ∷ [])) ∷ []) (0 ∷ []) (0 ∷ []) 2) → ⊥
nothing_to_wait_for sound = let occupied : false ≡ true = sound.occupants 0 0 (omega arith) in absurd (cc)

-- a record in the new table with no bucket, and one with too many attempts
no_bucket : IsSound (state (rec 0 8333 (New []) ∷ []) (0 ∷ []) [] 2) → ⊥
no_bucket sound = let some : 0 < 0 = (sound.records 0 (rec 0 8333 (New [])) (omega arith)).place.some in omega arith

too_many_attempts : IsSound (state ((record (rec 0 8333 Tried) { attempts = 2147483648 }) ∷ []) (0 ∷ []) [] 2) → ⊥
too_many_attempts sound = let fits = (sound.records 0 (rec 0 8333 Tried) (omega arith)).attempts in omega arith
