-- The buckets that records of a file get.
use Rattle.std.proofs.Common.{◌≡◌, ◌≢◌, is_some, ◌∷◌, ◌∙◌, ◌==◌, ◌||◌, ◌<◌, Bool, Contains, List, None, Option, Some, [], All, ap, arith, false, if◌then◌else◌, inl, inr, length, map, not, refl, subst, sym, true, ℕ, suc, ◌⊎◌}
use Rattle.std.specs.Prelude.{find, slice_get, unwrap_or}
use Rattle.std.specs.List.{list_any, position_or_len, range_with_len}
use Rattle.std.proofs.lemmas.List.Elements.{Contains-push_cases}
use Rattle.std.proofs.lemmas.Bool.{lt-ltb}
use Rattle.std.proofs.lemmas.List.Folds.{find_at}
use Rattle.std.proofs.lemmas.Slice.Eq.{bytes_eq-Decides}
use Rattle.net_addr.specs.Ranges.{is_valid}
use Rattle.net_addr.specs.Same.{same_peer, same_peer-Decides}
use Rattle.net_addr.specs.declared.peer.Peer.{Peer}
use Rattle.peer_rec.specs.Buckets.{with_bucket}
use Rattle.peer_rec.specs.Rec.{buckets_of}
use Rattle.peer_rec.specs.Snapshot.{Snapshot}
use Rattle.peer_rec.specs.declared.file_rec.FileRec.{FileRec}
use Rattle.peer_rec.specs.declared.place.Place.TheVariants.{New, Tried}
use Rattle.peer_rec.specs.declared.rec.Rec.{Rec}
use Rattle.placing.specs.Places.{Places, new_bucket, new_slot, sum_of}
use Rattle.raw_read.specs.Raw.{IsRaw}
use Rattle.raw_read.specs.declared.raw.Raw.{Raw}
use Rattle.raw_read.specs.declared.raw.RawRow.{RawRow}
use Rattle.raw_file.specs.Listing.{first_fault, index_of, new_recs, pair_of, peers_of, recs_of, tried_of}
use Rattle.raw_file.specs.Opening.{ListsIn, OpensListing, listing_file}
use Rattle.raw_file.proofs.Distinct.{HasPeer, has-first, no_duplicate}
use Rattle.raw_file.proofs.Facts.{fits, position_found, position_of}
use Rattle.table_laws.specs.Openings.{KeepsAtOpening}
use Rattle.table_laws.proofs.AppendedOf as appended
use Rattle.table_machine.specs.Entries.{delete, give_bucket, with_last}
use Rattle.table_machine.specs.Restoring.{drop_all, drop_record, give_if_empty, give_or, place_all, place_pair, place_record, record_of, restored, uses_buckets, with_all_new, with_all_tried, with_new, with_records, with_tried}
use Rattle.table_machine.specs.State.{State, by_number, empty_state, new_rec_at, tried_occupant}
use Rattle.table_machine.proofs.Buckets.{placed, with_bucket-cases}
use Rattle.table_machine.proofs.Lists.{Contains-cases, find-Some, none_in_nil}
use Rattle.table_machine.proofs.Records.{changed_cases, number_found, without_number-cases}

-- each bucket of a record is in a pair with its number, or is that of its source
module _ (pairs : List (ℕ × ℕ)) (same : Bool) where
  abbrev IsFrom : Places → Rec → ℕ → Type 0
  IsFrom places q b = Contains pairs (b, q.number) ⊎ (b ≡ new_bucket places q.peer q.source)

  abbrev pub AreFrom : State → Type 0
  AreFrom st = (q : Rec) → Contains st.records q → (b : ℕ) → Contains (buckets_of q) b → IsFrom st.places q b

  give-from : (st : State) (r : Rec) (bucket : ℕ) → Contains st.records r → IsFrom st.places r bucket → AreFrom st → AreFrom (give_bucket st r bucket)
  give-from st r bucket has why all q c b own =
      by (changed_cases r.number (placed r (New (with_bucket bucket (buckets_of r)))) st.records q c)
    where
      mine : (b ≡ bucket) ⊎ Contains (buckets_of r) b → IsFrom st.places r b
      mine (inl is) = subst (IsFrom st.places r) (sym is) why
      mine (inr old) = all r has b old

      by : (placed r (New (with_bucket bucket (buckets_of r))) ≡ q) ⊎ (Contains st.records q × (q.number ≢ r.number)) → IsFrom st.places q b
      by (inl is) =
          subst (λ (x : Rec). IsFrom st.places x b) is
          (mine (with_bucket-cases bucket (buckets_of r) b (subst (λ (x : Rec). Contains (buckets_of x) b) (sym is) own)))
      by (inr old) = all q old.0 b own

  give_or-from : (st : State) (r : Rec) (bucket : ℕ) (o : Option Rec) (other : State) → Contains st.records r → IsFrom st.places r bucket → AreFrom st → AreFrom other → AreFrom (give_or st r bucket o other)
  give_or-from st r bucket None other has why all also = give-from st r bucket has why all
  give_or-from st r bucket (Some q) other has why all also = also

  pair-from : (st : State) (bucket index : ℕ) → Contains pairs (bucket, index) → AreFrom st → AreFrom (place_record same st bucket (by_number st index))
  pair-from st bucket index has all = by (by_number st index) refl
    where
      by : (o : Option Rec) → by_number st index ≡ o → AreFrom (place_record same st bucket o)
      by None is = all
      by (Some r) is = go (not (is_valid r.peer.addr) || length (buckets_of r) == 8) same
        where
          h : Contains st.records r × (r.number ≡ index)
          h = number_found st.records index r is

          source : ℕ
          source = new_bucket st.places r.peer r.source

          listed : Contains pairs (bucket, r.number)
          listed = subst (λ n. Contains pairs (bucket, n)) (sym h.1) has

          own : AreFrom (give_if_empty st r source st)
          own = give_or-from st r source (new_rec_at st source (new_slot st.places r.peer source)) st h.0 (inr refl) all all

          go : (stays used : Bool) → AreFrom (if stays then st else (if used then give_if_empty st r bucket (give_if_empty st r source st) else give_if_empty st r source st))
          go true used = all
          go false true = give_or-from st r bucket (new_rec_at st bucket (new_slot st.places r.peer bucket)) (give_if_empty st r source st) h.0 (inl listed) all own
          go false false = own

  all-from : (st : State) (rest : List (ℕ × ℕ)) → ((pair : ℕ × ℕ) → Contains rest pair → Contains pairs pair) → AreFrom st → AreFrom (place_all same st rest)
  all-from st [] within all = all
  all-from st (pair ∷ rest) within all =
      all-from (place_pair same st pair) rest (λ p c. let below = c.1 in within p (suc c.0, omega (arith, below), c.2))
      (pair-from st pair.0 pair.1 (within pair (0, omega arith, refl)) all)

  drop-from : (st : State) (o : Option Rec) → AreFrom st → AreFrom (drop_record st o)
  drop-from st None all = all
  drop-from st (Some r) all = by (length (buckets_of r) == 0)
    where
      by : (b : Bool) → AreFrom (if b then delete st r else st)
      by true = λ q c. all q (without_number-cases r.number st.records q c).0
      by false = all

  drop_all-from : (st : State) (numbers : List ℕ) → AreFrom st → AreFrom (drop_all st numbers)
  drop_all-from st [] all = all
  drop_all-from st (number ∷ numbers) all = drop_all-from (drop_record st (by_number st number)) numbers (drop-from st (by_number st number) all)

  -- records that were appended have no bucket yet
  last-from : (st : State) (r : Rec) → buckets_of r ≡ [] → AreFrom st → AreFrom (with_last st r)
  last-from st r none all q c b own = elim (Contains-push_cases st.records r q c) [
    | inl old ↦ all q old b own
    | inr is ↦ absurd (none_in_nil b (subst (λ bs. Contains bs b) (ap buckets_of (sym is) ∙ none) own))
  ]

  new-from : (st : State) (rs : List FileRec) → AreFrom st → AreFrom (with_all_new st rs)
  new-from st [] all = all
  new-from st (r ∷ rs) all = new-from (with_new st r) rs (last-from st (record_of r st.next_number (New [])) refl all)

  tried-from : (st : State) (rs : List FileRec) → AreFrom st → AreFrom (with_all_tried st rs)
  tried-from st [] all = all
  tried-from st (r ∷ rs) all = tried-from (with_tried st r) rs (by (not (is_valid r.peer.addr) || is_some (tried_occupant st r.peer)))
    where
      by : (b : Bool) → AreFrom (if b then st else with_last st (record_of r st.next_number Tried))
      by true = all
      by false = last-from st (record_of r st.next_number Tried) refl all

-- THE LISTING

-- the places stay
places-drop : (st : State) (numbers : List ℕ) → (drop_all st numbers).places ≡ st.places
places-drop st [] = refl
places-drop st (number ∷ numbers) = places-drop (drop_record st (by_number st number)) numbers ∙ by (by_number st number)
  where
    by_length : (r : Rec) (b : Bool) → (if b then delete st r else st).places ≡ st.places
    by_length r true = refl
    by_length r false = refl

    by : (o : Option Rec) → (drop_record st o).places ≡ st.places
    by None = refl
    by (Some r) = by_length r (length (buckets_of r) == 0)

places-give : (st : State) (r : Rec) (bucket : ℕ) (o : Option Rec) (other : State) → other.places ≡ st.places → (give_or st r bucket o other).places ≡ st.places
places-give st r bucket None other is = refl
places-give st r bucket (Some q) other is = is

places-fill : (same : Bool) (st : State) (pairs : List (ℕ × ℕ)) → (place_all same st pairs).places ≡ st.places
places-fill same st [] = refl
places-fill same st (pair ∷ pairs) = places-fill same (place_pair same st pair) pairs ∙ by (by_number st pair.1)
  where
    by : (o : Option Rec) → (place_record same st pair.0 o).places ≡ st.places
    by None = refl
    by (Some r) = go (not (is_valid r.peer.addr) || length (buckets_of r) == 8) same
      where
        source : ℕ
        source = new_bucket st.places r.peer r.source

        own : (give_if_empty st r source st).places ≡ st.places
        own = places-give st r source (new_rec_at st source (new_slot st.places r.peer source)) st refl

        go : (stays used : Bool) → (if stays then st else (if used then give_if_empty st r pair.0 (give_if_empty st r source st) else give_if_empty st r source st)).places ≡ st.places
        go true used = refl
        go false true = places-give st r pair.0 (new_rec_at st pair.0 (new_slot st.places r.peer pair.0)) (give_if_empty st r source st) own
        go false false = own

places-restored : (snap : Snapshot) (places : Places) → (restored snap places).places ≡ places
places-restored snap places =
    places-drop (place_all (uses_buckets snap places) (with_records snap places) snap.listed) (range_with_len 0 (length snap.new_recs))
    ∙ places-fill (uses_buckets snap places) (with_records snap places) snap.listed
    ∙ appended.tried-places (with_all_new (empty_state places) snap.new_recs) snap.tried_recs ∙ appended.new-places (empty_state places) snap.new_recs

-- a pair of a list is that of some row
row_of : (f : RawRow → ℕ × ℕ) (rows : List RawRow) (pair : ℕ × ℕ) → Contains (map f rows) pair → (row : RawRow) × Contains rows row × (f row ≡ pair)
row_of f [] pair c = absurd (none_in_nil pair c)
row_of f (row ∷ rows) pair c = elim (Contains-cases (f row) (map f rows) pair c) [
  | inl is ↦ (row, (0, omega arith, refl), is)
  | inr rest ↦ let more = row_of f rows pair rest in let within = more.1.1 in (more.0, (suc more.1.0, omega (arith, within), more.1.2), more.2)
]

-- the record of a row
rec_in : (rows : List RawRow) (row : RawRow) → Contains rows row → Contains (recs_of rows) row.rec
rec_in [] row c = absurd (none_in_nil row c)
rec_in (r ∷ rows) row c = elim (Contains-cases r rows row c) [
  | inl is ↦ (0, omega arith, ap (λ (x : RawRow). x.rec) is)
  | inr rest ↦ let more = rec_in rows row rest in let within = more.1 in (suc more.0, omega (arith, within), more.2)
]

any_peer : (peer : Peer) (recs : List FileRec) → HasPeer peer recs → list_any (same_peer peer) (peers_of recs) ≡ true
any_peer peer [] has = absurd (none_in_nil has.0 has.1)
any_peer peer (r ∷ recs) has = elim (Contains-cases r recs has.0 has.1) [
  | inl is ↦ ap (λ b. b || list_any (same_peer peer) (peers_of recs)) ((same_peer-Decides peer r.peer).1 (sym has.2 ∙ sym (ap (λ (q : FileRec). q.peer) is)))
  | inr rest ↦ by (same_peer peer r.peer) (any_peer peer recs (has.0, rest, has.2))
]
  where
    by : (b : Bool) → list_any (same_peer peer) (peers_of recs) ≡ true → (b || list_any (same_peer peer) (peers_of recs)) ≡ true
    by true any = refl
    by false any = any

-- the index of a peer that has a record is that of such a one
at_index : (recs : List FileRec) (peer : Peer) (f : FileRec) (n : ℕ) → HasPeer peer recs → index_of recs peer ≡ n → slice_get recs n ≡ Some f → peer ≡ f.peer
at_index recs peer f n has is found =
    let place : ℕ = position_or_len (same_peer peer) (peers_of recs) in
    let index : index_of recs peer ≡ place = ap (λ b. unwrap_or (if b then Some place else None) 0) (lt-ltb place (length (peers_of recs)) (position_found (same_peer peer) (peers_of recs) (any_peer peer recs has))) in
    let at : place ≡ n = sym index ∙ is in
    let search_is : find (λ (q : FileRec). same_peer peer q.peer) recs ≡ Some f =
    find_at (λ (q : FileRec). same_peer peer q.peer) recs ∙ ap (slice_get recs) (sym (position_of recs peer) ∙ at) ∙ found in
    (same_peer-Decides peer f.peer).0 (find-Some (λ (q : FileRec). same_peer peer q.peer) recs f search_is).1

module _ (raw : Raw) (places : Places) (keeps : KeepsAtOpening (listing_file raw places) places) where
  abbrev left : State
  left = restored (listing_file raw places) places

  all : AreFrom (map (pair_of (new_recs raw)) raw.new) (uses_buckets (listing_file raw places) places) left
  all =
      let pairs = map (pair_of (new_recs raw)) raw.new in
      let same = uses_buckets (listing_file raw places) places in
      drop_all-from pairs same (place_all same (with_records (listing_file raw places) places) pairs) (range_with_len 0 (length (new_recs raw)))
      (all-from pairs same (with_records (listing_file raw places) places) pairs (λ p c. c)
      (tried-from pairs same (with_all_new (empty_state places) (new_recs raw)) (tried_of raw.tried)
      (new-from pairs same (empty_state places) (new_recs raw) (λ q c. absurd (none_in_nil q c)))))

  places-left : left.places ≡ places
  places-left = places-restored (listing_file raw places) places

  -- a listed bucket lists the record's peer
  lists : (q : Rec) → Contains left.records q → (bucket : ℕ) → Contains (buckets_of q) bucket → Contains (map (pair_of (new_recs raw)) raw.new) (bucket, q.number) → ListsIn raw bucket q.peer
  lists q c bucket own listed =
      let row = row_of (pair_of (new_recs raw)) raw.new (bucket, q.number) listed in
      elim (keeps.only q c) [
        | inl of_new ↦ (
          row.0,
          row.1,
          ap (λ p. p.0) row.2,
          at_index (new_recs raw) row.0.rec.peer of_new.0 q.number (has_rec row.0 row.1) (ap (λ p. p.1) row.2) of_new.1 ∙ sym (ap (λ (r : Rec). r.peer) of_new.2),
        )
        | inr of_tried ↦ absurd (none_in_nil bucket (subst (λ bs. Contains bs bucket) (ap buckets_of of_tried.2) own))
      ]
    where
      has_rec : (row : RawRow) → Contains raw.new row → HasPeer row.rec.peer (new_recs raw)
      has_rec row has = has-first [] (recs_of raw.new) row.rec (rec_in raw.new row has)

  pub buckets : (q : Rec) → Contains left.records q → (bucket : ℕ) → Contains (buckets_of q) bucket → ListsIn raw bucket q.peer ⊎ (bucket ≡ new_bucket places q.peer q.source)
  buckets q c bucket own = elim (all q c bucket own) [
    | inl listed ↦ inl (lists q c bucket own listed)
    | inr source ↦ inr (subst (λ (p : Places). bucket ≡ new_bucket p q.peer q.source) places-left source)
  ]

-- THE LAW

used : (raw : Raw) (places : Places) → uses_buckets (listing_file raw places) places ≡ true
used raw places = (bytes_eq-Decides (sum_of places) (sum_of places)).1 refl

pub opens : (raw : Raw) (places : Places) → first_fault raw ≡ None → KeepsAtOpening (listing_file raw places) places → OpensListing raw places
opens raw places none keeps = record {
  opens = no_duplicate raw none;
  used = used raw places;
  buckets = buckets raw places keeps;
  kept = keeps;
}

pub opens_all : (bytes : List ℕ) (raw : Raw) (places : Places) → IsRaw bytes raw → first_fault raw ≡ None
    → ((snap : Snapshot) (p : Places) → All (λ pair. pair.1 < length snap.new_recs) snap.listed → KeepsAtOpening snap p) → OpensListing raw places
opens_all bytes raw places is none keeps =
    opens raw places none
    (keeps (listing_file raw places) places (fits raw record { new = is.new; tried = is.tried; new_rows = is.new_rows; tried_rows = is.tried_rows }).indexes)
