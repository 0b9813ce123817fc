-- A peer that is picked has a record.
use Rattle.std.proofs.Common.{◌≡◌, ℕ, ◌%◌, Bool, true, false, List, [], ◌∷◌, Option, Some, None, refl, if◌then◌else◌}
use Rattle.std.specs.Prelude.{◌||◌, ◌&&◌, ◌==◌, Contains, find, filter_map}
use Rattle.std.specs.List.{AllByRecursion}
use Rattle.net_addr.specs.declared.peer.Peer.{Peer}
use Rattle.peer_rec.specs.declared.answers.Picked.TheVariants.{One, Nothing}
use Rattle.peer_rec.specs.declared.rec.Rec.{Rec}
use Rattle.table_machine.specs.State.{State, is_new_at, is_tried_at}
use Rattle.peer_rec.specs.Rec.{next_factor}
use Rattle.table_machine.specs.Picks.{candidate, candidates, candidates_of, candidates_of_either, first_accepted, first_factor, is_accepted, is_wanted, occupant_at, select, wanted_new, wanted_tried, with_candidate}
use Rattle.table_machine.proofs.Lists.{find-Some}
use Rattle.table_laws.proofs.Picked.{found_at}

module _ (st : State) (nets : List ℕ) where
  abbrev Are : List (Rec × ℕ) → Type 0
  Are ms = AllByRecursion (λ m. Contains st.records m.0) ms

  in_slot : (in_new : Bool) (bucket slot : ℕ) (r : Rec) → occupant_at st in_new bucket slot ≡ Some r → Contains st.records r
  in_slot true bucket slot r e = (find-Some (is_new_at st.places bucket slot) st.records r e).0
  in_slot false bucket slot r e = (find-Some (is_tried_at st.places bucket slot) st.records r e).0

  in_slots : (in_new : Bool) (bucket : ℕ) (slots : List ℕ) (r : Rec)
      → find (is_wanted nets) (filter_map (occupant_at st in_new bucket) slots) ≡ Some r → Contains st.records r
  in_slots in_new bucket slots r e = let at = found_at (occupant_at st in_new bucket) nets slots r e in in_slot in_new bucket at.0 r at.1

  in_round : (in_new : Bool) (bucket start word : ℕ) (unused rest : List (Rec × ℕ)) → Are unused → Are rest
      → Are (with_candidate (candidate st in_new nets bucket start) word unused rest)
  in_round in_new bucket start word unused rest h k = by (candidate st in_new nets bucket start) refl
    where
      by : (o : Option Rec) → candidate st in_new nets bucket start ≡ o → Are (with_candidate o word unused rest)
      by None e = h
      by (Some r) e = (in_slots in_new _ _ r e, k)

  in_search : (in_new : Bool) (words : List ℕ) → Are (candidates st in_new nets words)
  in_search in_new [] = tt
  in_search in_new (bucket ∷ []) = tt
  in_search in_new (bucket ∷ start ∷ []) = tt
  in_search in_new (bucket ∷ start ∷ word ∷ words) =
      in_round in_new bucket start word (candidates st in_new nets (word ∷ words)) (candidates st in_new nets words)
      (in_search in_new (word ∷ words)) (in_search in_new words)

  in_tables : (new_only : Bool) (words : List ℕ) → Are (candidates_of st new_only nets words)
  in_tables new_only words = by (new_only || wanted_tried st nets == 0) (wanted_new st nets == 0)
    where
      either : (words : List ℕ) → Are (candidates_of_either st nets words)
      either [] = tt
      either (word ∷ words) = in_search (word % 2 == 0) words

      by : (a b : Bool) → Are (if a then candidates st true nets words else if b then candidates st false nets words else candidates_of_either st nets words)
      by true b = in_search true words
      by false true = in_search false words
      by false false = either words

  -- the peer of a record
  abbrev pub IsKnown : Peer → Type 0
  IsKnown peer = (r : Rec) × Contains st.records r × (r.peer ≡ peer)

  accepted : (now factor : ℕ) (ms : List (Rec × ℕ)) → Are ms → (peer : Peer) (last_try : ℕ) → first_accepted now factor ms ≡ One peer last_try → IsKnown peer
  accepted now factor [] h peer last_try e = absurd (cc)
  accepted now factor (m ∷ ms) h peer last_try e = by (is_accepted m.0 now factor m.1) (accepted now (next_factor factor) ms h.1 peer last_try) e
    where
      by : (b : Bool) → (first_accepted now (next_factor factor) ms ≡ One peer last_try → IsKnown peer)
          → (if b then One m.0.peer m.0.last_try else first_accepted now (next_factor factor) ms) ≡ One peer last_try → IsKnown peer
      by true later f = let is : m.0.peer ≡ peer = cc in (m.0, h.0, is)
      by false later f = later f

  pub picked_known : (new_only : Bool) (words : List ℕ) (now : ℕ) (peer : Peer) (last_try : ℕ)
      → select st new_only nets words now ≡ One peer last_try → IsKnown peer
  picked_known new_only words now peer last_try e = by (wanted_new st nets == 0 && (new_only || wanted_tried st nets == 0)) e
    where
      by : (b : Bool) → (if b then Nothing else first_accepted now first_factor (candidates_of st new_only nets words)) ≡ One peer last_try → IsKnown peer
      by true f = absurd (cc)
      by false f = accepted now first_factor (candidates_of st new_only nets words) (in_tables new_only words) peer last_try f
