-- Of the records that are read, one has the peer of a record that stays.
use Rattle.std.proofs.Common.{◌≡◌, ℕ, ◌+◌, ◌<◌, ◌≤◌, ◌^◌, Bool, true, List, [], ◌∷◌, ◌++◌, length, get_or, All, AllPairs, Contains, count_by, find, is_some, None, refl, sym, ap, subst, ◌∙◌, arith, length-append}
use Rattle.std.specs.List.{range_with_len}
use Rattle.std.proofs.lemmas.Bool.Decides.{Decides-eqb}
use Rattle.std.proofs.lemmas.List.{append-nil, append_assoc}
use Rattle.std.proofs.lemmas.List.Elements.{All-contains, All-head, All-tail, Contains-get_or}
use Rattle.std.proofs.lemmas.List.Kept.{AllPairs-from_increasing}
use Rattle.std.proofs.lemmas.List.Sorted.{IsPermutation-refl}
use Rattle.net_addr.specs.Ranges.{is_valid}
use Rattle.net_addr.specs.Same.{same_peer, same_peer-Decides}
use Rattle.net_addr.specs.declared.peer.Peer.{Peer}
use Rattle.placing.specs.Places.{IsPlaces, Places}
use Rattle.peer_rec.specs.Snapshot.{IsFileRec, Snapshot}
use Rattle.peer_rec.specs.declared.file_rec.FileRec.{FileRec}
use Rattle.peer_rec.specs.declared.rec.Rec.{Rec}
use Rattle.table_machine.specs.Restoring.{duplicate, place_all, restored, uses_buckets, with_all_new, with_all_tried, with_new, with_records, with_tried}
use Rattle.table_machine.specs.Sound.{IsSound}
use Rattle.table_machine.specs.State.{State, empty_state}
use Rattle.table_machine.proofs.Filling.{IsFilling}
use Rattle.table_machine.proofs.Lists.{AllPairs-from_map, find-IsSome, none_in_nil}
use Rattle.table_machine.proofs.Records.{numbers}
use Rattle.table_machine.proofs.RestartLaw.{in_range-below}
use Rattle.table_machine.proofs.RestoredSound.{IsFile, Progress, all-new, all-tried, duplicate-apart, empty-filling}
use Rattle.table_laws.proofs.AppendedOf.{AreNumbered, new-numbered, new-places, tried-numbered, tried-places}
use Rattle.table_laws.proofs.Balance.{count_single, one_if}
use Rattle.table_laws.proofs.PlacingOf.{IsGrown, IsKept, all-grown, all-kept}
use Rattle.node_check.specs.Check.{is_found}

module _ (snap : Snapshot) (places : Places) (is : IsFile snap) (are : IsPlaces places) (single : duplicate snap ≡ None)
    (indexes : All (λ pair. pair.1 < length snap.new_recs) snap.listed) where
  abbrev n : ℕ
  n = length snap.new_recs

  abbrev whole : State
  whole = with_records snap places

  abbrev left : State
  left = restored snap places

  fill : IsFilling n whole
  fill =
      let few_new = is.few_new in
      let few_tried = is.few_tried in
      let apart = duplicate-apart [] 0 (snap.new_recs ++ snap.tried_recs) single (λ i j d below within. absurd (omega arith)) in
      let start : Progress n [] (empty_state places) = record {
        fill = empty-filling n places are;
        from = λ q c. absurd (none_in_nil q c);
        few = omega arith;
      } in
      let new = all-new n [] (empty_state places) snap.new_recs snap.tried_recs start apart is.new_recs (omega arith) (omega arith) in
      (all-tried n snap.new_recs (with_all_new (empty_state places) snap.new_recs) snap.tried_recs new apart is.tried_recs (omega arith)).fill

  numbered : AreNumbered whole
  numbered =
      tried-numbered (with_all_new (empty_state places) snap.new_recs) snap.tried_recs
      (new-numbered (empty_state places) snap.new_recs record { below = λ r c. absurd (none_in_nil r c); once = λ r q c d same. absurd (none_in_nil r c) })

  grown : IsGrown n whole (place_all (uses_buckets snap places) whole snap.listed)
  grown = all-grown n (uses_buckets snap places) whole snap.listed numbered.once (λ pair c. All-contains (λ p. p.1 < n) snap.listed pair indexes c)

  kept : IsKept n (place_all (uses_buckets snap places) whole snap.listed) left
  kept = all-kept n (place_all (uses_buckets snap places) whole snap.listed) (range_with_len 0 n) grown.once (λ k c. in_range-below n k c)

  pub left_places : left.places ≡ places
  left_places =
      kept.places ∙ grown.places ∙ tried-places (with_all_new (empty_state places) snap.new_recs) snap.tried_recs ∙ new-places (empty_state places) snap.new_recs

  pub read_once : IsSound left → (r : Rec) → Contains left.records r → is_found whole.records r ≡ true
  read_once sound r c = (Decides-eqb (count_by is_one whole.records) 1).1 (sym (count_single is_one whole.records apart) ∙ ap one_if there)
    where
      is_one : Rec → Bool
      is_one q = same_peer q.peer r.peer

      valid : is_valid r.peer.addr ≡ true
      valid = All-contains (λ (x : Rec). is_valid x.peer.addr ≡ true) left.records r sound.valid c

      apart : AllPairs (λ x y. is_one x ≡ true → is_one y ≡ true → ⊥) whole.records
      apart i j d below within one two =
          let p = get_or whole.records i d in
          let q = get_or whole.records j d in
          let first = (same_peer-Decides p.peer r.peer).0 one in
          let second = (same_peer-Decides q.peer r.peer).0 two in
          let rise : p.number < q.number = AllPairs-from_map (λ m k. m < k) (λ (x : Rec). x.number) whole.records (AllPairs-from_increasing (numbers whole.records) fill.rising) i j d below within in
          let same = fill.peers p q (Contains-get_or whole.records i d (omega (arith, below, within))) (Contains-get_or whole.records j d within)
          (subst (λ (t : Peer). is_valid t.addr ≡ true) (sym first) valid) (first ∙ sym second) in
          omega (arith, rise, same)

      there : is_some (find is_one whole.records) ≡ true
      there =
          let g = grown.earlier r (kept.earlier r c) in
          find-IsSome is_one whole.records g.0 g.1 ((same_peer-Decides g.0.peer r.peer).1 (sym (ap (λ (x : Rec). x.peer) g.2.0)))
