-- What saved tables lose when they are opened again under some asmap.
use Rattle.std.proofs.Common.{◌≡◌, ℕ, zero, suc, ◌+◌, ◌<◌, Bool, true, false, cond, not, is_some, List, [], ◌∷◌, length, get_or, map, filter, Contains, count_by, slice_get, option_map, IsSome, Some, refl, sym, ap, subst, ◌∙◌, inl, inr, ⊎_elim, ◌⊎◌, arith, if◌then◌else◌}
use Rattle.std.proofs.lemmas.Bool.{both_ways}
use Rattle.std.proofs.lemmas.Option.{slice_get-get_or, slice_get-map}
use Rattle.std.proofs.lemmas.List.{length-map}
use Rattle.std.proofs.lemmas.List.Filters.{length-filter_both}
use Rattle.std.proofs.lemmas.List.Elements.{All-contains}
use Rattle.net_addr.specs.Ranges.{is_valid}
use Rattle.net_addr.specs.Same.{same_peer, same_peer-Decides}
use Rattle.net_addr.specs.declared.peer.Peer.{Peer}
use Rattle.placing.specs.Places.{IsPlaces, Places}
use Rattle.peer_rec.specs.Rec.{IsPlace, IsRec, buckets_by, buckets_of, is_tried, tried_by}
use Rattle.peer_rec.specs.declared.file_rec.FileRec.{FileRec}
use Rattle.peer_rec.specs.declared.place.Place.{Place}
use Rattle.peer_rec.specs.declared.place.Place.TheVariants.{New, Tried}
use Rattle.peer_rec.specs.declared.rec.Rec.{Rec}
use Rattle.table_machine.specs.Restoring.{record_of}
use Rattle.table_machine.specs.Snapshot.{file_rec, listed_of, new_records, snapshot_of, tried_records}
use Rattle.table_machine.specs.Sound.{IsSound}
use Rattle.table_machine.specs.State.{State, find_peer}
use Rattle.table_machine.proofs.Grown.{all_of}
use Rattle.table_machine.proofs.Listed.{at-append, listed-all}
use Rattle.table_machine.proofs.Lists.{Contains-filter, Contains-map, find-IsSome}
use Rattle.table_machine.proofs.Part.{At}
use Rattle.table_machine.proofs.RestartLaw.{no_duplicate}
use Rattle.table_machine.proofs.RestoredSound.{restored_sound}
use Rattle.table_machine.proofs.SnapshotFits.{snapshot_fits, snapshot_is_file}
use Rattle.table_laws.specs.Openings.{IsNewFull, IsPlacedTried, IsTriedFull, KeepsAtOpening, KeepsOverOpening, LosesNew, LosesTried, lost_at_opening, missing_count, opened_again}
use Rattle.table_laws.proofs.Counts.{count_append, count_cons}
use Rattle.table_laws.proofs.OpeningOf.{keeps_at_opening}

-- an element has its index
at-index : (n : ℕ) (xs : List Rec) (k : ℕ) (r : Rec) → slice_get xs k ≡ Some r → At n xs (n + k) r
at-index n [] k r is = absurd (cc)
at-index n (x ∷ xs) zero r is = let same : x ≡ r = cc in let here : n ≡ n + 0 = omega arith in inl (here, same)
at-index n (x ∷ xs) (suc k) r is = let next : n + 1 + k ≡ n + suc k = omega arith in inr (subst (λ m. At (n + 1) xs m r) next (at-index (n + 1) xs k r is))

count-map : {X Y : Type 0} (p : Y → Bool) (f : X → Y) (xs : List X) → count_by p (map f xs) ≡ count_by (λ x. p (f x)) xs
count-map p f [] = refl
count-map p f (x ∷ xs) =
    let one = count_cons p (f x) (map f xs) in
    let two = count_cons (λ y. p (f y)) x xs in
    let rest = count-map p f xs in
    omega (arith, one, two, rest)

-- those that pass a test, and the others
count-parts : (p keeps : Rec → Bool) (rs : List Rec) → count_by p (filter (λ r. not (keeps r)) rs) + count_by p (filter keeps rs) ≡ count_by p rs
count-parts p keeps [] = refl
count-parts p keeps (r ∷ rs) = by (keeps r) (count-parts p keeps rs) (count_cons p r rs)
  where
    by : (b : Bool) → count_by p (filter (λ r. not (keeps r)) rs) + count_by p (filter keeps rs) ≡ count_by p rs
        → count_by p (r ∷ rs) ≡ cond (p r) 1 0 + count_by p rs
        → count_by p (if not b then r ∷ filter (λ r. not (keeps r)) rs else filter (λ r. not (keeps r)) rs) + count_by p (if b then r ∷ filter keeps rs else filter keeps rs) ≡ count_by p (r ∷ rs)
    by true rest all = let one = count_cons p r (filter keeps rs) in omega (arith, rest, all, one)
    by false rest all = let one = count_cons p r (filter (λ r. not (keeps r)) rs) in omega (arith, rest, all, one)

not-not : (b : Bool) → b ≡ not (not b)
not-not true = refl
not-not false = refl

module _ (st : State) (sound : IsSound st) (places : Places) (are_places : IsPlaces places) where
  abbrev left : State
  left = opened_again places st

  opens : KeepsAtOpening (snapshot_of st) places
  opens = keeps_at_opening (snapshot_of st) places (snapshot_fits st sound).indexes

  left-sound : IsSound left
  left-sound = restored_sound (snapshot_of st) places (snapshot_is_file st sound) are_places (no_duplicate st sound)

  -- a record of the peer is found
  has_peer : (q : Rec) (peer : Peer) → Contains left.records q → q.peer ≡ peer → IsSome (find_peer left peer)
  has_peer q peer c same = find-IsSome (λ (r : Rec). same_peer peer r.peer) left.records q c ((same_peer-Decides peer q.peer).1 (sym same))

  new : (r : Rec) → Contains st.records r → is_tried r ≡ false → IsSome (find_peer left r.peer) ⊎ IsNewFull left r
  new r c untried = ⊎_elim (λ h. inl (has_peer h.0 r.peer h.1 (ap (λ (x : Rec). x.peer) h.2))) (λ lost. by lost) (opens.new index.0 (file_rec r) named)
    where
      has : Contains (new_records st) r
      has = Contains-filter (λ (q : Rec). not (is_tried q)) st.records r c (ap not untried)

      index : Contains (new_records st) r
      index = has

      found : slice_get (new_records st) index.0 ≡ Some r
      found = slice_get-get_or (new_records st) index.0 r index.1 ∙ ap Some index.2

      named : slice_get (map file_rec (new_records st)) index.0 ≡ Some (file_rec r)
      named = slice_get-map file_rec (new_records st) index.0 ∙ ap (option_map file_rec) found

      some : (place : Place) → IsPlace place → tried_by place ≡ false → 0 < length (buckets_by place)
      some (New buckets) is open_to = is.some
      some Tried is open_to = absurd (both_ways true open_to refl)

      long : 0 < length (buckets_of r)
      long = some r.place (All-contains IsRec st.records r sound.records c).place untried

      first : ℕ
      first = get_or (buckets_of r) 0 0

      first_in : (xs : List ℕ) → 0 < length xs → Contains xs (get_or xs 0 0)
      first_in [] within = absurd (omega (arith, within))
      first_in (x ∷ xs) within = (0, within, refl)

      listed : Contains (listed_of st) (first, index.0)
      listed =
          let start : 0 + index.0 ≡ index.0 = omega arith in
          listed-all st sound index.0 r (subst (λ m. At 0 (all_of st) m r) start (at-append 0 (new_records st) (tried_records st) (0 + index.0) r (at-index 0 (new_records st) index.0 r found)))
          first (first_in (buckets_of r) long)

      by : LosesNew (snapshot_of st) left index.0 (file_rec r) → IsSome (find_peer left r.peer) ⊎ IsNewFull left r
      by (inl invalid) = absurd (both_ways (is_valid r.peer.addr) invalid (All-contains (λ (q : Rec). is_valid q.peer.addr ≡ true) st.records r sound.valid c))
      by (inr full) = let h = (full first listed).0 in inr (h.0, h.1, h.3)

  tried : (r : Rec) → Contains st.records r → is_tried r ≡ true → IsSome (find_peer left r.peer) ⊎ IsTriedFull left r
  tried r c is = by (opens.tried (file_rec r) (Contains-map file_rec (tried_records st) r (Contains-filter is_tried st.records r c is)))
    where
      by : IsPlacedTried left (file_rec r) ⊎ LosesTried left (file_rec r) → IsSome (find_peer left r.peer) ⊎ IsTriedFull left r
      by (inl h) = inl (has_peer (record_of (file_rec r) h.0 Tried) r.peer h.1 refl)
      by (inr (inl invalid)) = absurd (both_ways (is_valid r.peer.addr) invalid (All-contains (λ (q : Rec). is_valid q.peer.addr ≡ true) st.records r sound.valid c))
      by (inr (inr h)) = inr h

  count : length left.records + missing_count st left ≡ length st.records
  count =
      let all = opens.count (no_duplicate st sound) left-sound in
      let gone : lost_at_opening (snapshot_of st) places ≡ missing_count st left =
      count_append missing (map file_rec (new_records st)) (map file_rec (tried_records st))
      ∙ (λ i. count-map missing file_rec (new_records st) i + count-map missing file_rec (tried_records st) i)
      ∙ count-parts (λ r. not (is_some (find_peer left r.peer))) is_tried st.records in
      let new_long = length-map (new_records st) file_rec in
      let tried_long = length-map (tried_records st) file_rec in
      let both = length-filter_both (λ (r : Rec). not (is_tried r)) is_tried (λ r. not-not (is_tried r)) st.records in
      omega (arith, all, gone, new_long, tried_long, both)
    where
      missing : FileRec → Bool
      missing f = not (is_some (find_peer left f.peer))

  pub keeps_over_opening : KeepsOverOpening st places
  keeps_over_opening = record { sound = left-sound; new = new; tried = tried; count = count }
