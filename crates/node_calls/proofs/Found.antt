-- A peer that is picked has a record.
use Rattle.std.proofs.Common.{◌≡◌, ℕ, ◌%◌, Bool, true, false, List, [], ◌∷◌, Option, Some, None, IsSome, refl, sym, subst, if◌then◌else◌}
use Rattle.std.specs.Prelude.{◌||◌, ◌&&◌, ◌==◌, Contains, cond, find, filter_map}
use Rattle.std.specs.List.{AllByRecursion, cons_option}
use Rattle.std.proofs.lemmas.Bool.{both_ways}
use Rattle.net_addr.specs.Same.{same_peer, same_peer-Decides}
use Rattle.net_addr.specs.declared.peer.Peer.{Peer}
use Rattle.peer_rec.specs.declared.answers.Picked.TheVariants.{One, Nothing}
use Rattle.peer_rec.specs.declared.rec.Rec.{Rec}
use Rattle.table_machine.specs.State.{State, find_peer, is_new_at, is_tried_at}
use Rattle.peer_rec.specs.Rec.{next_factor}
use Rattle.table_machine.specs.Picks.{candidate, candidates, candidates_of, candidates_of_either, first_accepted, first_factor, is_accepted, is_wanted, occupant_at, select, wanted_new, wanted_tried, with_candidate}
use Rattle.table_machine.proofs.Lists.{find-None, find-Some}
use Rattle.node_calls.specs.Picked.{IsPicked}

module _ (st : State) (nets : List ℕ) where
  -- a record of the tables, of a network of the set
  abbrev Is : Rec → Type 0
  Is r = Contains st.records r × (is_wanted nets r ≡ true)

  abbrev Are : List (Rec × ℕ) → Type 0
  Are ms = AllByRecursion (λ m. Is m.0) ms

  in_slot : (in_new : Bool) (bucket slot : ℕ) (r : Rec) → occupant_at st in_new bucket slot ≡ Some r → Contains st.records r
  in_slot true bucket slot r e = (find-Some (is_new_at st.places bucket slot) st.records r e).0
  in_slot false bucket slot r e = (find-Some (is_tried_at st.places bucket slot) st.records r e).0

  in_slots : (in_new : Bool) (bucket : ℕ) (slots : List ℕ) (r : Rec)
      → find (is_wanted nets) (filter_map (occupant_at st in_new bucket) slots) ≡ Some r → Is r
  in_slots in_new bucket [] r e = absurd (cc)
  in_slots in_new bucket (slot ∷ slots) r e = by (occupant_at st in_new bucket slot) refl (in_slots in_new bucket slots r) e
    where
      first : (q : Rec) (b : Bool) → occupant_at st in_new bucket slot ≡ Some q → is_wanted nets q ≡ b
          → (find (is_wanted nets) (filter_map (occupant_at st in_new bucket) slots) ≡ Some r → Is r)
          → cond b (Some q) (find (is_wanted nets) (filter_map (occupant_at st in_new bucket) slots)) ≡ Some r → Is r
      first q true at is later f =
          let same : q ≡ r = cc in
          subst Is same (in_slot in_new bucket slot q at, is)
      first q false at is later f = later f

      by : (o : Option Rec) → occupant_at st in_new bucket slot ≡ o
          → (find (is_wanted nets) (filter_map (occupant_at st in_new bucket) slots) ≡ Some r → Is r)
          → find (is_wanted nets) (cons_option o (filter_map (occupant_at st in_new bucket) slots)) ≡ Some r → Is r
      by None at later f = later f
      by (Some q) at later f = first q (is_wanted nets q) at refl later f

  in_round : (in_new : Bool) (bucket start word : ℕ) (unused rest : List (Rec × ℕ)) → Are unused → Are rest
      → Are (with_candidate (candidate st in_new nets bucket start) word unused rest)
  in_round in_new bucket start word unused rest h k = by (candidate st in_new nets bucket start) refl
    where
      by : (o : Option Rec) → candidate st in_new nets bucket start ≡ o → Are (with_candidate o word unused rest)
      by None e = h
      by (Some r) e = (in_slots in_new _ _ r e, k)

  in_search : (in_new : Bool) (words : List ℕ) → Are (candidates st in_new nets words)
  in_search in_new [] = tt
  in_search in_new (bucket ∷ []) = tt
  in_search in_new (bucket ∷ start ∷ []) = tt
  in_search in_new (bucket ∷ start ∷ word ∷ words) =
      in_round in_new bucket start word (candidates st in_new nets (word ∷ words)) (candidates st in_new nets words)
      (in_search in_new (word ∷ words)) (in_search in_new words)

  in_either : (words : List ℕ) → Are (candidates_of_either st nets words)
  in_either [] = tt
  in_either (word ∷ words) = in_search (word % 2 == 0) words

  in_tables : (new_only : Bool) (words : List ℕ) → Are (candidates_of st new_only nets words)
  in_tables new_only words = by (new_only || wanted_tried st nets == 0) (wanted_new st nets == 0)
    where
      by : (a b : Bool) → Are (if a then candidates st true nets words else if b then candidates st false nets words else candidates_of_either st nets words)
      by true b = in_search true words
      by false true = in_search false words
      by false false = in_either words

  accepted : (now factor : ℕ) (ms : List (Rec × ℕ)) → Are ms → (peer : Peer) (last_try : ℕ)
      → first_accepted now factor ms ≡ One peer last_try → IsPicked st nets peer last_try
  accepted now factor [] h peer last_try e = absurd (cc)
  accepted now factor (m ∷ ms) h peer last_try e = by (is_accepted m.0 now factor m.1) (accepted now (next_factor factor) ms h.1 peer last_try) e
    where
      by : (b : Bool) → (first_accepted now (next_factor factor) ms ≡ One peer last_try → IsPicked st nets peer last_try)
          → (if b then One m.0.peer m.0.last_try else first_accepted now (next_factor factor) ms) ≡ One peer last_try
          → IsPicked st nets peer last_try
      by true later f =
          let is : m.0.peer ≡ peer = cc in
          let at : m.0.last_try ≡ last_try = cc in
          (m.0, h.0.0, is, at, h.0.1)
      by false later f = later f

  -- a pick is of a record of the tables
  pub picked-record : (new_only : Bool) (words : List ℕ) (now : ℕ) (peer : Peer) (last_try : ℕ)
      → select st new_only nets words now ≡ One peer last_try → IsPicked st nets peer last_try
  picked-record new_only words now peer last_try e = by (wanted_new st nets == 0 && (new_only || wanted_tried st nets == 0)) e
    where
      by : (b : Bool) → (if b then Nothing else first_accepted now first_factor (candidates_of st new_only nets words)) ≡ One peer last_try
          → IsPicked st nets peer last_try
      by true f = absurd (cc)
      by false f = accepted now first_factor (candidates_of st new_only nets words) (in_tables new_only words) peer last_try f

  -- and so the tables find one of its peer
  pub picked-known : (peer : Peer) (last_try : ℕ) → IsPicked st nets peer last_try → IsSome (find_peer st peer)
  picked-known peer last_try is = by (find_peer st peer) refl
    where
      by : (o : Option Rec) → find_peer st peer ≡ o → IsSome o
      by None e =
          absurd (both_ways (same_peer peer is.0.peer) (find-None (λ r. same_peer peer r.peer) st.records is.0 e is.1)
          ((same_peer-Decides peer is.0.peer).1 (sym is.2)))
      by (Some r) e = refl
