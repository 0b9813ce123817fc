-- What an opening keeps of the records of a file, and why it loses the others.
use Rattle.std.proofs.Common.{◌≡◌, ℕ, ◌+◌, ◌<◌, ◌≤◌, Bool, true, false, is_some, List, [], ◌++◌, length, All, AllPairs, Contains, count_by, sum_by, find, slice_get, Some, None, refl, sym, ap, subst, ◌∙◌, inl, inr, ⊎_elim, ◌⊎◌, arith, length-append}
use Rattle.std.specs.List.{range_with_len}
use Rattle.std.proofs.lemmas.Bool.{both_ways}
use Rattle.std.proofs.lemmas.Option.{get_or_from_slice_get, slice_get_within}
use Rattle.std.proofs.lemmas.List.Elements.{All-contains, Contains-append_left, Contains-append_right}
use Rattle.net_addr.specs.Ranges.{is_valid}
use Rattle.net_addr.specs.Same.{same_peer, same_peer-Decides}
use Rattle.net_addr.specs.declared.peer.Peer.{Peer}
use Rattle.placing.specs.Places.{Places, new_bucket, new_slot, tried_bucket, tried_slot}
use Rattle.peer_rec.specs.Rec.{buckets_of, is_tried}
use Rattle.peer_rec.specs.Snapshot.{Snapshot}
use Rattle.peer_rec.specs.declared.file_rec.FileRec.{FileRec}
use Rattle.peer_rec.specs.declared.place.Place.TheVariants.{New, Tried}
use Rattle.peer_rec.specs.declared.rec.Rec.{Rec}
use Rattle.table_machine.specs.Restoring.{with_records, duplicate, place_all, record_of, restored, uses_buckets, with_all_new}
use Rattle.table_machine.specs.Sound.{IsSound}
use Rattle.table_machine.specs.State.{State, empty_state, find_peer, is_new_at, is_tried_at}
use Rattle.table_machine.proofs.Buckets.{placed}
use Rattle.table_machine.proofs.Lists.{All-from_Contains, find-IsSome, none_in_nil}
use Rattle.table_machine.proofs.Records.{new_at_parts, tried_at-is_tried}
use Rattle.table_machine.proofs.RestartLaw.{in_range-below}
use Rattle.table_machine.proofs.RestoredSound.{NotBefore, duplicate-apart}
use Rattle.table_laws.specs.Openings.{HasOther, IsFromFile, IsPlacedNew, IsPlacedTried, KeepsAtOpening, LosesNew, LosesTried, lost_at_opening}
use Rattle.table_laws.proofs.AppendedOf.{AreNumbered, IsNewOf, IsTriedOf, IsTriedOrLost, new-at, new-from, new-next, new-numbered, new-places, tried-at, tried-from, tried-keeps, tried-numbered, tried-places}
use Rattle.table_laws.proofs.Balance.{count_single, one_if, sum_swap}
use Rattle.table_laws.proofs.Counts.{count_not, sum_agree}
use Rattle.table_laws.proofs.PlacingOf.{AreOnce, IsFull, IsGrown, IsKept, IsMore, all-grown, all-kept, contains_some, settled}
use Rattle.table_laws.proofs.SearchOf.{sum_constant}

module _ (snap : Snapshot) (places : Places) (indexes : All (λ pair. pair.1 < length snap.new_recs) snap.listed) where
  abbrev n : ℕ
  n = length snap.new_recs

  abbrev used : Bool
  used = uses_buckets snap places

  -- the new records, all records, those with their buckets, and those that are left
  abbrev first : State
  first = with_all_new (empty_state places) snap.new_recs

  abbrev whole : State
  whole = with_records snap places

  abbrev filled : State
  filled = place_all used whole snap.listed

  abbrev left : State
  left = restored snap places

  empty-numbered : AreNumbered (empty_state places)
  empty-numbered = record { below = λ r c. absurd (none_in_nil r c); once = λ r q c d same. absurd (none_in_nil r c) }

  first-numbered : AreNumbered first
  first-numbered = new-numbered (empty_state places) snap.new_recs empty-numbered

  first-next : first.next_number ≡ n
  first-next = let h = new-next (empty_state places) snap.new_recs in omega (arith, h)

  whole-numbered : AreNumbered whole
  whole-numbered = tried-numbered first snap.tried_recs first-numbered

  whole-once : AreOnce whole
  whole-once = whole-numbered.once

  whole-places : whole.places ≡ places
  whole-places = tried-places first snap.tried_recs ∙ new-places (empty_state places) snap.new_recs

  low : (pair : ℕ × ℕ) → Contains snap.listed pair → pair.1 < n
  low pair c = All-contains (λ p. p.1 < n) snap.listed pair indexes c

  grown : IsGrown n whole filled
  grown = all-grown n used whole snap.listed whole-once low

  kept : IsKept n filled left
  kept = all-kept n filled (range_with_len 0 n) grown.once (λ k c. in_range-below n k c)

  left-places : left.places ≡ places
  left-places = kept.places ∙ grown.places ∙ whole-places

  filled-places : filled.places ≡ places
  filled-places = grown.places ∙ whole-places

  -- an occupant stays
  other-left : (number : ℕ) (peer : Peer) (bucket : ℕ) → HasOther filled number peer bucket → HasOther left number peer bucket
  other-left number peer bucket h =
      let listed = contains_some n used (buckets_of h.0) bucket (new_at_parts filled.places bucket (new_slot filled.places peer bucket) h.0 h.3).0 in
      (h.0, kept.stays h.0 h.1 (inl listed), h.2, subst (λ (p : Places). is_new_at p bucket (new_slot p peer bucket) h.0 ≡ true) (sym kept.places) h.3)

  new : (index : ℕ) (f : FileRec) → slice_get snap.new_recs index ≡ Some f → IsPlacedNew left index f ⊎ LosesNew snap left index f
  new index f is = by (is_valid f.peer.addr) refl
    where
      r : Rec
      r = record_of f index (New [])

      has : Contains whole.records r
      has =
          let from : 0 + index ≡ index = omega arith in
          tried-keeps first snap.tried_recs r (subst (λ k. Contains first.records (record_of f k (New []))) from (new-at (empty_state places) snap.new_recs index f is))

      by : (b : Bool) → is_valid f.peer.addr ≡ b → IsPlacedNew left index f ⊎ LosesNew snap left index f
      by false invalid = inr (inl invalid)
      by true valid =
          ⊎_elim (λ h. inl (h.0, kept.stays h.0 h.1 (inl h.3), h.2, h.3)) (λ full. inr (inr (λ bucket c.
          let one = full bucket c in (
            subst (λ (p : Places). HasOther left index f.peer (new_bucket p f.peer f.source)) (filled-places ∙ sym left-places)
                (subst (λ (p : Places). HasOther left index f.peer (new_bucket p f.peer f.source)) (whole-places ∙ sym filled-places)
                (subst (λ (p : Places). HasOther left index f.peer (new_bucket p f.peer f.source)) (sym whole-places) (source bucket full c))),
            λ uses. other-left index f.peer bucket (one.1 (subst (λ (p : Places). uses_buckets snap p ≡ true) left-places uses)),
          ))))
          (settled n used whole snap.listed r whole-once low has (slice_get_within snap.new_recs index f is) valid)
        where
          source : (bucket : ℕ) → ((b : ℕ) → Contains snap.listed (b, index) → IsFull n used r filled b) → Contains snap.listed (bucket, index) → HasOther left index f.peer (new_bucket places f.peer f.source)
          source bucket full c =
              subst (λ (p : Places). HasOther left index f.peer (new_bucket p f.peer f.source)) filled-places (other-left index f.peer (new_bucket filled.places f.peer f.source) (full bucket c).0)

  -- a record of the numbers from n on is there as it was
  late-left : (q : Rec) → Contains whole.records q → n ≤ q.number → Contains left.records q
  late-left q c late =
      let g = grown.later q c in
      subst (Contains left.records) (g.2.2 late) (kept.stays g.0 g.1 (inr (subst (λ (x : Rec). n ≤ x.number) (sym (g.2.2 late)) late)))

  -- and a tried record has such a number
  tried-late : (q : Rec) → Contains whole.records q → is_tried q ≡ true → n ≤ q.number
  tried-late q c tried =
      ⊎_elim (λ old. absurd (⊎_elim (λ none. none_in_nil q none) (λ h. untried h.1 h.0 h.3) (new-from (empty_state places) snap.new_recs q old)))
      (λ h. let late = h.3 in let from = first-next in omega (arith, late, from)) (tried-from first snap.tried_recs q c)
    where
      untried : (f : FileRec) (index : ℕ) → q ≡ record_of f (0 + index) (New []) → ⊥
      untried f index is = both_ways (is_tried q) (ap is_tried is) tried

  tried : (f : FileRec) → Contains snap.tried_recs f → IsPlacedTried left f ⊎ LosesTried left f
  tried f c = by (tried-at first snap.tried_recs f c)
    where
      by : IsTriedOrLost first whole f → IsPlacedTried left f ⊎ LosesTried left f
      by (inl h) = let late = h.2 in let from = first-next in inl (h.0, late-left (record_of f h.0 Tried) h.1 (omega (arith, late, from)))
      by (inr (inl invalid)) = inr (inl invalid)
      by (inr (inr h)) =
          let same : first.places ≡ left.places = new-places (empty_state places) snap.new_recs ∙ sym left-places in
          let at = subst (λ (p : Places). is_tried_at p (tried_bucket p f.peer) (tried_slot p f.peer (tried_bucket p f.peer)) h.0 ≡ true) same h.2 in
          inr (inr (h.0, late-left h.0 h.1 (tried-late h.0 h.1 (tried_at-is_tried left.places (tried_bucket left.places f.peer) (tried_slot left.places f.peer (tried_bucket left.places f.peer)) h.0 at)), at))

  only : (q : Rec) → Contains left.records q → IsFromFile snap q
  only q c =
      let g = grown.earlier q (kept.earlier q c) in
      by g.0 g.2 (tried-from first snap.tried_recs g.0 g.1)
    where
      by : (r : Rec) → IsMore n r q → Contains first.records r ⊎ IsTriedOf first snap.tried_recs r → IsFromFile snap q
      by r more (inl old) = ⊎_elim (λ none. absurd (none_in_nil r none)) of_new (new-from (empty_state places) snap.new_recs r old)
        where
          of_new : IsNewOf (empty_state places) snap.new_recs r → IsFromFile snap q
          of_new h =
              let from : 0 + h.0 ≡ h.0 = omega arith in
              let same : r ≡ record_of h.1 h.0 (New []) = h.3 ∙ ap (λ k. record_of h.1 k (New [])) from in
              let is : q ≡ record_of h.1 h.0 q.place = more.0 ∙ ap (λ (x : Rec). placed x q.place) same in
              let number : q.number ≡ h.0 = ap (λ (x : Rec). x.number) is in
              inl (h.1, subst (λ k. slice_get snap.new_recs k ≡ Some h.1) (sym number) h.2, is ∙ ap (λ k. record_of h.1 k q.place) (sym number))
      by r more (inr h) =
          let late = h.3 in
          let from = first-next in
          let same : q ≡ r = more.2 (omega (arith, late, from)) in
          inr (h.0, h.1, subst (λ (x : Rec). x ≡ record_of h.0 x.number Tried) (sym same) h.2)

  module _ (no_duplicate : duplicate snap ≡ None) (sound : IsSound left) where
    abbrev files : List FileRec
    files = snap.new_recs ++ snap.tried_recs

    abbrev is_one : FileRec → Rec → Bool
    is_one f r = same_peer f.peer r.peer

    abbrev is_there : FileRec → Bool
    is_there f = is_some (find_peer left f.peer)

    apart : AllPairs NotBefore files
    apart = duplicate-apart [] 0 files no_duplicate (λ i j d less within. absurd (omega (arith, less, within)))

    -- a record has the peer of one record of the file
    one_file : (r : Rec) → Contains left.records r → count_by (λ f. is_one f r) files ≡ 1
    one_file r c =
        sym (count_single (λ f. is_one f r) files (λ i j d less within one two.
        let valid = All-contains (λ (x : Rec). is_valid x.peer.addr ≡ true) left.records r sound.valid c in
        let second = (same_peer-Decides _ r.peer).0 two in
        apart i j d less within (subst (λ (p : Peer). is_valid p.addr ≡ true) (sym second) valid) ((same_peer-Decides _ r.peer).0 one ∙ sym second)))
        ∙ ap one_if (from_file (only r c))
      where
        found : (f : FileRec) → Contains files f → f.peer ≡ r.peer → is_some (find (λ f. is_one f r) files) ≡ true
        found f has same = find-IsSome (λ f. is_one f r) files f has ((same_peer-Decides f.peer r.peer).1 same)

        from_file : IsFromFile snap r → is_some (find (λ f. is_one f r) files) ≡ true
        from_file (inl h) =
            found h.0 (Contains-append_left snap.new_recs snap.tried_recs h.0 (there snap.new_recs r.number h.0 h.1)) (sym (ap (λ (x : Rec). x.peer) h.2))
          where
            there : (fs : List FileRec) (k : ℕ) (f : FileRec) → slice_get fs k ≡ Some f → Contains fs f
            there fs k f is = (k, slice_get_within fs k f is, get_or_from_slice_get fs k f f is)
        from_file (inr h) = found h.0 (Contains-append_right snap.new_recs snap.tried_recs h.0 h.1) (sym (ap (λ (x : Rec). x.peer) h.2))

    -- a record of the file has the peer of one record at most
    one_record : (f : FileRec) → one_if (is_there f) ≡ count_by (is_one f) left.records
    one_record f =
        count_single (is_one f) left.records (λ i j d less within one two.
        sound.peers i j d less within (sym ((same_peer-Decides f.peer _).0 one) ∙ (same_peer-Decides f.peer _).0 two))

    there_are : count_by is_there files ≡ length left.records
    there_are =
        (λ i. sum_by (λ f. one_record f i) files)
        ∙ sum_swap (λ f r. one_if (is_one f r)) files left.records
        ∙ sum_agree (λ r. count_by (λ f. is_one f r) files) (λ r. 1) left.records (All-from_Contains (λ r. count_by (λ f. is_one f r) files ≡ 1) left.records one_file)
        ∙ sum_constant 1 left.records ∙ omega arith

    count : length left.records + lost_at_opening snap places ≡ length snap.new_recs + length snap.tried_recs
    count =
        let parts = count_not is_there files in
        let all = length-append snap.new_recs snap.tried_recs in
        let some = there_are in
        omega (arith, parts, all, some)

  pub keeps_at_opening : KeepsAtOpening snap places
  keeps_at_opening = record { new = new; tried = tried; only = only; count = λ no_duplicate sound. count no_duplicate sound }
