-- The buckets that some groups reach are few of those that a word selects.
use Rattle.std.proofs.Common.{◌≡◌, ℕ, suc, ◌+◌, ◌*◌, ◌^◌, ◌≤◌, Bool, true, false, List, [], ◌∷◌, length, count_by, flat_map, map, Contains, Option, Some, refl, sym, subst, ◌∙◌, arith, length-append}
use Rattle.std.specs.List.{range_with_len}
use Rattle.std.proofs.lemmas.List.{length-map}
use Rattle.std.proofs.lemmas.List.FromFn.{length-map-range_with_len}
use Rattle.net_addr.specs.Address.{Address}
use Rattle.net_addr.specs.declared.peer.Peer.{Peer}
use Rattle.placing.specs.Places.{Places, group, group_bucket, group_buckets, new_bucket, source_bucket, source_choice, tried_bucket}
use Rattle.table_machine.specs.State.{State, is_new_at, is_tried_at, new_rec_at, tried_rec_at}
use Rattle.table_machine.specs.Picks.{first_candidate, slots_from}
use Rattle.table_machine.proofs.Lists.{Contains-map, find-Some}
use Rattle.table_machine.proofs.Records.{new_at_parts, tried_at_parts}
use Rattle.peer_rec.specs.declared.rec.Rec.{Rec}
use Rattle.peer_rec.specs.Snapshot.{Snapshot}
use Rattle.session.specs.State as session
use Rattle.log_laws.specs.Accepted.{IsAccepted}
use Rattle.log_laws.specs.Buckets.{AreCaused, IsListed, reach}
use Rattle.log_laws.specs.Kept.{IsOpening}
use Rattle.log_laws.proofs.Laws.{keeps_causes}
use Rattle.log_laws.proofs.Reach.{Contains-flat_map, by_reach, long-reach, tried_reach}
use Rattle.table_laws.specs.Chances.{words_for}
use Rattle.table_laws.proofs.BoundOf.{few_words}
use Rattle.table_laws.proofs.Picked.{found_at}
use Rattle.table_laws.proofs.SomeOf.{candidate-there}
use Rattle.table_laws.proofs.Within.{count_outside}
use Rattle.log_laws.specs.Shares.{AreBy, AreInGroups, IsOf, IsShared, KeepsShares, LeadsTo}

-- the buckets of the tried table for addresses of some groups: the 8 of each group in turn
abbrev tried_buckets : Places → List (List ℕ) → List ℕ
tried_buckets places groups = flat_map (group_buckets places) groups

long-tried : (places : Places) (groups : List (List ℕ)) → length (tried_buckets places groups) ≡ 8 * length groups
long-tried places [] = refl
long-tried places (g ∷ groups) =
    let first = length-map-range_with_len (group_bucket places g) 0 8 in
    let rest = long-tried places groups in
    length-append (group_buckets places g) (tried_buckets places groups) ∙ omega (arith, first, rest)

-- one bucket for each pair of a source's group and a peer's
abbrev between : Places → List (List ℕ) → List (List ℕ) → List ℕ
between places sources peers =
    flat_map (λ s. map (λ p. source_bucket places s (source_choice places p s)) peers) sources

long-between : (places : Places) (sources peers : List (List ℕ)) → length (between places sources peers) ≡ length sources * length peers
long-between places [] peers = omega arith
long-between places (s ∷ sources) peers =
    length-append (map (λ p. source_bucket places s (source_choice places p s)) peers) (between places sources peers)
    ∙ (λ i. length-map peers (λ p. source_bucket places s (source_choice places p s)) i + long-between places sources peers i)
    ∙ more (length sources) (length peers)
  where
    more : (n k : ℕ) → k + n * k ≡ suc n * k
    more n k = omega arith

new_between : (places : Places) (sources peers : List (List ℕ)) (peer : Peer) (source : Address) → Contains sources (group places source) → Contains peers (group places peer.addr)
    → Contains (between places sources peers) (new_bucket places peer source)
unfolding new_bucket
new_between places sources peers peer source from to =
    Contains-flat_map (λ s. map (λ p. source_bucket places s (source_choice places p s)) peers) sources (group places source) _ from
    (Contains-map (λ p. source_bucket places (group places source) (source_choice places p (group places source))) peers (group places peer.addr) to)

module _ (Accepted : Peer → Address → Type 0) (Listed : ℕ → Peer → ℕ → Type 0) (st : State) (caused : AreCaused Accepted Listed st) where
  in_tried : (nets : List ℕ) (groups : List (List ℕ)) (b : ℕ) → LeadsTo st false nets (IsOf st groups) b → Contains (tried_buckets st.places groups) b
  in_tried nets groups b leads =
      let r = leads.1 in
      let found = found_at (tried_rec_at st b) nets (slots_from leads.0) r leads.2 in
      let h = find-Some (is_tried_at st.places b found.0) st.records r found.1 in
      let parts = tried_at_parts st.places b found.0 r h.1 in
      subst (Contains (tried_buckets st.places groups)) parts.0
      (Contains-flat_map (group_buckets st.places) groups (group st.places r.peer.addr) (tried_bucket st.places r.peer) leads.3 (tried_reach st.places r.peer))

  new_inside : (groups : List (List ℕ)) (test : Rec → Bool) → AreBy Accepted st groups test → (b start : ℕ) (nets : List ℕ) (q : Rec) → first_candidate st true nets b start ≡ Some q → test q ≡ true
      → Contains (reach st.places groups) b
  new_inside groups test theirs b start nets q is passes =
      let found = found_at (new_rec_at st b) nets (slots_from start) q is in
      let h = find-Some (is_new_at st.places b found.0) st.records q found.1 in
      by_reach Accepted st.places groups q b (theirs q h.0 passes b (new_at_parts st.places b found.0 q h.1).0)

  pair_inside : (groups peers : List (List ℕ)) (test : Rec → Bool) → AreBy Accepted st groups test → AreInGroups st peers test → (b start : ℕ) (nets : List ℕ) (q : Rec)
      → first_candidate st true nets b start ≡ Some q → test q ≡ true → Contains (between st.places groups peers) b
  pair_inside groups peers test theirs own b start nets q is passes =
      let found = found_at (new_rec_at st b) nets (slots_from start) q is in
      let h = find-Some (is_new_at st.places b found.0) st.records q found.1 in
      let by = theirs q h.0 passes b (new_at_parts st.places b found.0 q h.1).0 in
      subst (Contains (between st.places groups peers)) (sym by.3) (new_between st.places groups peers q.peer by.0 by.1 (own q h.0 passes))

  pub shared : IsShared Accepted Listed st
  shared = record {
    new = λ nets groups safe leads.
        subst (λ (few : ℕ). 1024 ≤ count_by safe (range_with_len 0 1024) + few) (long-reach st.places groups)
        (count_outside safe (reach st.places groups) 1024 (λ b below fails. let h = leads b below fails in by_reach Accepted st.places groups h.1 b h.3));
    tried = λ nets groups safe leads.
        subst (λ (few : ℕ). 256 ≤ count_by safe (range_with_len 0 256) + few) (long-tried st.places groups)
        (count_outside safe (tried_buckets st.places groups) 256 (λ b below fails. in_tried nets groups b (leads b below fails)));
    new_words = λ nets now factor groups test theirs.
        subst (λ (few : ℕ). words_for st true nets now factor test ≤ few * (64 * 2 ^ 30)) (long-reach st.places groups)
        (few_words st true nets now factor test (reach st.places groups) (λ b start q is passes. new_inside groups test theirs b start nets q is passes));
    tried_words = λ nets now factor groups test theirs.
        subst (λ (few : ℕ). words_for st false nets now factor test ≤ few * (64 * 2 ^ 30)) (long-tried st.places groups)
        (few_words st false nets now factor test (tried_buckets st.places groups) (λ b start q is passes.
        in_tried nets groups b (start, q, is, theirs q (candidate-there st false nets b start q is) passes)));
    pair_words = λ nets now factor groups peers test theirs own.
        subst (λ (few : ℕ). words_for st true nets now factor test ≤ few * (64 * 2 ^ 30)) (long-between st.places groups peers)
        (few_words st true nets now factor test (between st.places groups peers) (λ b start q is passes. pair_inside groups peers test theirs own b start nets q is passes));
    others = λ groups r has b listed outside. (caused r has b listed, λ by. outside (by_reach Accepted st.places groups r b by));
  }

pub keeps_shares : (file : Option Snapshot) (places : Places) (st : session.SessionState) (lines : List (List ℕ)) → IsOpening file places st → KeepsShares file places st lines
keeps_shares file places st lines opening before h at =
    let kept = keeps_causes file places st opening lines in
    shared (IsAccepted st before) (IsListed file places) h.now.machine.tables (kept.causes before h at)
