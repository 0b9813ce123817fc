-- The rows of a table, one after another.
use Rattle.std.proofs.Common.{◌≡◌, ◌≢◌, ℕ, suc, ◌+◌, ◌<◌, ◌≤◌, Result, Ok, Err, Bool, true, false, not, true≢false, List, [], ◌∷◌, ◌++◌, drop, drop-cons, get_or, length, map, take, Option, Some, None, refl, sym, ap, ◌∙◌, arith, ◌||◌, if◌then◌else◌}
use Rattle.std.specs.Prelude.{IfErr, IfOk, OnOk}
use Rattle.std.specs.List.{list_any}
use Rattle.std.proofs.lemmas.Grind.{take_at_read}
use Rattle.std.proofs.lemmas.List.{drop_all, map-append}
use Rattle.std.proofs.lemmas.List.Sums.{fold_push}
use Rattle.net_addr.specs.Same.{same_peer}
use Rattle.net_addr.specs.declared.peer.Peer.{Peer}
use Rattle.peer_rec.specs.Snapshot.{Snapshot}
use Rattle.peer_rec.specs.declared.file_rec.FileRec.{FileRec}
use Rattle.raw_read.specs.Raw.{IsRaw}
use Rattle.raw_read.specs.declared.raw.RawFault.{RawFault}
use Rattle.raw_read.specs.declared.raw.Raw.{Raw}
use Rattle.raw_read.specs.declared.raw.RawRow.{RawRow}
use Rattle.raw_read.specs.declared.raw.RawTable.TheVariants.{New, Tried}
use Rattle.slot_grid.specs.declared.sizes.TheConstants.{NEW_BUCKETS}
use Rattle.raw_file.specs.Faults.{HasListingFault, IsListing}
use Rattle.raw_file.specs.Listing.{again_at, differs, first_again, first_fault, first_twice, firsts, is_again, known_rec, new_recs, or_else, peers_of, recs_of, same_spot, snapshot_of, spot_of, with_rec}
use Rattle.raw_file.specs.declared.fault.ListingFault.{ListingFault}
use Rattle.raw_file.specs.declared.fault.ListingFault.TheVariants.{Memory, Text}
use Rattle.raw_file.specs.declared.peers.Spot.{Spot}

pub one_more : {X : Type 0} (xs : List X) (i : ℕ) (x : X) → i < length xs → x ≡ get_or xs i x → take (i + 1) xs ≡ take i xs ++ x ∷ []
one_more xs i x lt is = (take_at_read xs i x lt).1 ∙ ap (λ y. take i xs ++ y ∷ []) (sym is)

pub map_more : {X Y : Type 0} (f : X → Y) (xs : List X) (i : ℕ) (x : X) → i < length xs → x ≡ get_or xs i x → map f (take (i + 1) xs) ≡ map f (take i xs) ++ f x ∷ []
map_more f xs i x lt is = ap (map f) (one_more xs i x lt is) ∙ map-append f (take i xs) (x ∷ [])

pub left_is : {X : Type 0} (xs : List X) (i : ℕ) (x : X) → i < length xs → x ≡ get_or xs i x → drop i xs ≡ x ∷ drop (suc i) xs
left_is xs i x lt is = drop-cons xs i x lt ∙ ap (λ y. y ∷ drop (suc i) xs) (sym is)

pub firsts_more : (rows : List RawRow) (i : ℕ) (row : RawRow) → i < length rows → row ≡ get_or rows i row → firsts (recs_of (take (i + 1) rows)) ≡ with_rec (firsts (recs_of (take i rows))) row.rec
firsts_more rows i row lt is =
    ap firsts (map_more (λ (r : RawRow). r.rec) rows i row lt is)
    ∙ fold_push with_rec [] (recs_of (take i rows)) row.rec

module _ (rows : List RawRow) (i : ℕ) (row : RawRow) (lt : i < length rows) (is : row ≡ get_or rows i row) where
  pub no_again : first_again [] rows ≡ first_again (take i rows) (drop i rows) → is_again (take i rows) row ≡ false → first_again [] rows ≡ first_again (take (i + 1) rows) (drop (i + 1) rows)
  no_again so fresh =
      let next : suc i ≡ i + 1 = omega arith in
      so ∙ ap (first_again (take i rows)) (left_is rows i row lt is)
      ∙ ap (λ b. if b then Some row else first_again (take i rows ++ row ∷ []) (drop (suc i) rows)) fresh
      ∙ ap (λ rs. first_again rs (drop (suc i) rows)) (sym (one_more rows i row lt is))
      ∙ ap (λ n. first_again (take (i + 1) rows) (drop n rows)) next

  pub found_again : first_again [] rows ≡ first_again (take i rows) (drop i rows) → is_again (take i rows) row ≡ true → first_again [] rows ≡ Some row
  found_again so here =
      so ∙ ap (first_again (take i rows)) (left_is rows i row lt is)
      ∙ ap (λ b. if b then Some row else first_again (take i rows ++ row ∷ []) (drop (suc i) rows)) here

  module _ (start peers : List Peer) where
    pub not_twice : first_twice start rows ≡ first_twice peers (drop i rows) → list_any (same_peer row.rec.peer) peers ≡ false → first_twice start rows ≡ first_twice (peers ++ row.rec.peer ∷ []) (drop (i + 1) rows)
    not_twice so fresh =
        let next : suc i ≡ i + 1 = omega arith in
        so ∙ ap (first_twice peers) (left_is rows i row lt is)
        ∙ ap (λ b. if b then Some row else first_twice (peers ++ row.rec.peer ∷ []) (drop (suc i) rows)) fresh
        ∙ ap (λ n. first_twice (peers ++ row.rec.peer ∷ []) (drop n rows)) next

    pub found_twice : first_twice start rows ≡ first_twice peers (drop i rows) → list_any (same_peer row.rec.peer) peers ≡ true → first_twice start rows ≡ Some row
    found_twice so here =
        so ∙ ap (first_twice peers) (left_is rows i row lt is)
        ∙ ap (λ b. if b then Some row else first_twice (peers ++ row.rec.peer ∷ []) (drop (suc i) rows)) here

-- what `add_row` says of a row, by the rows before it
pub again_is : (spots : List Spot) (recs : List FileRec) (earlier : List RawRow) (row : RawRow) → spots ≡ map spot_of earlier → recs ≡ firsts (recs_of earlier)
    → (list_any (same_spot (spot_of row)) spots || differs row.rec (known_rec recs row.rec.peer)) ≡ is_again earlier row
again_is spots recs earlier row s r = λ j. list_any (same_spot (spot_of row)) (s j) || differs row.rec (known_rec (r j) row.rec.peer)

pub none_left : (rows : List RawRow) (i : ℕ) → length rows ≤ i → first_again [] rows ≡ first_again (take i rows) (drop i rows) → first_again [] rows ≡ None
none_left rows i short so = so ∙ ap (first_again (take i rows)) (drop_all i rows short)

pub none_twice : (start peers : List Peer) (rows : List RawRow) (i : ℕ) → length rows ≤ i → first_twice start rows ≡ first_twice peers (drop i rows) → first_twice start rows ≡ None
none_twice start peers rows i short so = so ∙ ap (first_twice peers) (drop_all i rows short)

-- what is new, by what is said of it
pub absent : (b l : Bool) → b ≡ not l → b ≡ true → l ≡ false
absent b true is new = absurd (true≢false (sym new ∙ is))
absent b false is new = refl

pub present : (b l : Bool) → b ≡ not l → b ≡ false → l ≡ true
present b true is old = refl
present b false is old = absurd (true≢false (sym is ∙ old))

-- THE FIRST FAULT

module _ (raw : Raw) (rows : List RawRow) (is_new : rows ≡ raw.new) where
  pub new_fault : (fault : ListingFault) → again_at New (first_again [] rows) ≡ Some fault → first_fault raw ≡ Some fault
  new_fault fault why =
      let first : again_at New (first_again [] raw.new) ≡ Some fault = ap (λ rs. again_at New (first_again [] rs)) (sym is_new) ∙ why in
      ap (λ o. or_else o (again_at Tried (first_twice (peers_of (new_recs raw)) raw.tried))) first

  module _ (tried : List RawRow) (is_tried : tried ≡ raw.tried) (peers : List Peer) (are_peers : peers ≡ peers_of (new_recs raw)) (none : first_again [] rows ≡ None) where
    first : first_again [] raw.new ≡ None
    first = ap (first_again []) (sym is_new) ∙ none

    second : first_twice (peers_of (new_recs raw)) raw.tried ≡ first_twice peers tried
    second = λ i. first_twice (sym are_peers i) (sym is_tried i)

    pub tried_fault : (fault : ListingFault) → again_at Tried (first_twice peers tried) ≡ Some fault → first_fault raw ≡ Some fault
    tried_fault fault why =
        let last : again_at Tried (first_twice (peers_of (new_recs raw)) raw.tried) ≡ Some fault = ap (again_at Tried) second ∙ why in
        λ i. or_else (again_at New (first i)) (last i)

    pub no_fault : first_twice peers tried ≡ None → first_fault raw ≡ None
    no_fault ok =
        let last = second ∙ ok in
        λ i. or_else (again_at New (first i)) (again_at Tried (last i))

-- a slot that is there again is no fault of a text
no_text : (a b : Option RawRow) (fault : RawFault) → or_else (again_at New a) (again_at Tried b) ≡ Some (Text fault) → ⊥
no_text None None fault is = cc
no_text None (Some row) fault is = cc
no_text (Some row) None fault is = cc
no_text (Some row) (Some other) fault is = cc

fault_of : (bytes : List ℕ) (raw : Raw) (fault : ListingFault) → IsRaw bytes raw → first_fault raw ≡ Some fault → HasListingFault bytes fault
fault_of bytes raw (Text fault) is why = absurd (no_text (first_again [] raw.new) (first_twice (peers_of (new_recs raw)) raw.tried) fault why)
fault_of bytes raw other is why = (raw, is, why)

module _ (bytes : List ℕ) (raw : Raw) (is : IsRaw bytes raw) where
  pub listing_of : (key sum : List ℕ) (made : Result Snapshot ListingFault) → OnOk made (first_fault raw ≡ None) → IfOk made (λ snap. snap ≡ snapshot_of key sum raw) → IfOk made (IsListing key sum bytes)
  listing_of key sum (Ok snap) none same = (raw, is, none, same)
  listing_of key sum (Err fault) none same = tt

  pub listing_fault : (made : Result Snapshot ListingFault) → IfErr made (λ fault. fault ≢ Memory → first_fault raw ≡ Some fault) → IfErr made (λ fault. fault ≢ Memory → HasListingFault bytes fault)
  listing_fault (Ok snap) why = tt
  listing_fault (Err fault) why = λ some. fault_of bytes raw fault is (why some)

  pub bucket_count_of : (key sum : List ℕ) (made : Result Snapshot ListingFault) → IfOk made (λ snap. snap ≡ snapshot_of key sum raw) → IfOk made (λ snap. snap.bucket_count ≡ NEW_BUCKETS)
  bucket_count_of key sum (Ok snap) same = ap (λ (s : Snapshot). s.bucket_count) same
  bucket_count_of key sum (Err fault) same = tt
