-- What holds of the rows of a listing.
use Rattle.std.proofs.Common.{◌≡◌, ℕ, suc, ◌+◌, ◌*◌, ◌<◌, ◌≤◌, Bool, true, false, not, true≢false, ◌||◌, List, get_or, [], ◌∷◌, ◌++◌, All, AllPairs, length, map, Option, Some, None, refl, sym, ap, ◌∙◌, subst, arith, cond}
use Rattle.std.specs.Prelude.{unwrap_or, position, fold, slice_get, slice_index_or}
use Rattle.std.specs.List.{list_any, position_or_len}
use Rattle.std.proofs.lemmas.List.Folds.{find_at}
use Rattle.std.proofs.lemmas.Option.{slice_get_read}
use Rattle.std.proofs.lemmas.List.{length-map, length_push}
use Rattle.std.proofs.lemmas.List.Elements.{All-nil, All-cons, All-head, All-tail, All-push, All-map, All-weaker}
use Rattle.std.proofs.lemmas.List.Kept.{AllPairs-cons}
use Rattle.std.proofs.lemmas.List.Quantifiers.{position-Some}
use Rattle.net_addr.specs.Same.{same_peer}
use Rattle.net_addr.specs.declared.peer.Peer.{Peer}
use Rattle.peer_rec.specs.declared.file_rec.FileRec.{FileRec}
use Rattle.peer_rec.specs.declared.file_rec.TheConstants.{MAX_ATTEMPTS}
use Rattle.peer_rec.specs.declared.snapshot.TheConstants.{MAX_NEW, MAX_TRIED}
use Rattle.raw_read.specs.Rows.{AreRows, IsRow, Member, buckets_of, slot_number}
use Rattle.raw_read.specs.declared.raw.Raw.{Raw}
use Rattle.raw_read.specs.declared.raw.RawRow.{RawRow}
use Rattle.raw_read.specs.declared.raw.RawTable.{RawTable}
use Rattle.raw_read.specs.declared.raw.RawTable.TheVariants.{New, Tried}
use Rattle.raw_file.specs.Inside.{AreRowsOf}
use Rattle.raw_file.specs.Listing.{differs, firsts, index_of, known_rec, new_recs, pair_of, peers_of, recs_of, says_same, with_rec, reached, tried_of}
use Rattle.raw_file.proofs.Agains.{absent, present}
use Rattle.slot_grid.specs.declared.sizes.TheConstants.{NEW_BUCKETS, SLOTS}

abbrev number : RawRow → ℕ
number row = slot_number row.bucket row.position

within : (table : RawTable) (m : Member) (row : RawRow) → IsRow table m row → number row < buckets_of table * 64
within table m row is = by (buckets_of table) row.bucket row.position is.slot.bucket_below is.slot.position_below
  where
    by : (n b p : ℕ) → b < n → p < 64 → b * 64 + p < n * 64
    by n b p small low = omega (arith, small, low)

-- rows whose slots rise, the first of which has the number `from` or a greater one, are few
few : (table : RawTable) (from : ℕ) (ms : List Member) (rows : List RawRow) → from ≤ buckets_of table * 64 → AreRows table from ms rows → length rows + from ≤ buckets_of table * 64
unfolding AreRows
few table from [] rows room are =
    let none : length rows ≡ 0 = ap length are in
    omega (arith, none, room)
few table from (m ∷ ms) [] room are = absurd are
few table from (m ∷ ms) (row ∷ rows) room are =
    let low : row.bucket * 64 + row.position < buckets_of table * 64 = within table m row are.0 in
    let room_left : row.bucket * 64 + row.position + 1 ≤ buckets_of table * 64 = omega (arith, low) in
    let rest : length rows + (row.bucket * 64 + row.position + 1) ≤ buckets_of table * 64 = few table (number row + 1) ms rows room_left are.2 in
    let after : from ≤ row.bucket * 64 + row.position = are.1 in
    let all : suc (length rows) + from ≤ buckets_of table * 64 = omega (arith, rest, after) in
    all

attempts : (table : RawTable) (from : ℕ) (ms : List Member) (rows : List RawRow) → AreRows table from ms rows → All (λ row. row.rec.attempts ≤ MAX_ATTEMPTS) rows
unfolding AreRows
attempts table from [] rows are = subst (All (λ (row : RawRow). row.rec.attempts ≤ MAX_ATTEMPTS)) (sym are) (All-nil (λ (row : RawRow). row.rec.attempts ≤ MAX_ATTEMPTS))
attempts table from (m ∷ ms) [] are = absurd are
attempts table from (m ∷ ms) (row ∷ rows) are =
    All-cons (λ (row : RawRow). row.rec.attempts ≤ MAX_ATTEMPTS) row rows (omega (arith, are.0.rec.attempts)) (attempts table (number row + 1) ms rows are.2)

buckets : (table : RawTable) (from : ℕ) (ms : List Member) (rows : List RawRow) → AreRows table from ms rows → All (λ row. row.bucket < buckets_of table) rows
unfolding AreRows
buckets table from [] rows are = subst (All (λ (row : RawRow). row.bucket < buckets_of table)) (sym are) (All-nil (λ (row : RawRow). row.bucket < buckets_of table))
buckets table from (m ∷ ms) [] are = absurd are
buckets table from (m ∷ ms) (row ∷ rows) are =
    All-cons (λ (row : RawRow). row.bucket < buckets_of table) row rows are.0.slot.bucket_below (buckets table (number row + 1) ms rows are.2)

-- rows from a number on are in its bucket or in later ones
later : (table : RawTable) (bucket from : ℕ) (ms : List Member) (rows : List RawRow) → bucket * 64 ≤ from → AreRows table from ms rows → All (λ row. bucket ≤ row.bucket) rows
unfolding AreRows
later table bucket from [] rows low are = subst (All (λ (row : RawRow). bucket ≤ row.bucket)) (sym are) (All-nil (λ (row : RawRow). bucket ≤ row.bucket))
later table bucket from (m ∷ ms) [] low are = absurd are
later table bucket from (m ∷ ms) (row ∷ rows) low are =
    let after : from ≤ row.bucket * 64 + row.position = are.1 in
    let on : bucket * 64 ≤ row.bucket * 64 + row.position + 1 = omega (arith, low, after) in
    All-cons (λ (row : RawRow). bucket ≤ row.bucket) row rows (by row.bucket row.position are.0.slot.position_below after)
    (later table bucket (number row + 1) ms rows on are.2)
  where
    by : (b p : ℕ) → p < 64 → from ≤ b * 64 + p → bucket ≤ b
    by b p small after = omega (arith, small, after, low)

none_rise : AllPairs (λ (pair : ℕ × ℕ) (later : ℕ × ℕ). pair.0 ≤ later.0) []
none_rise i j d before inside = absurd (omega (arith, before, inside))

module _ (f : RawRow → ℕ × ℕ) (keeps : (row : RawRow) → (f row).0 ≡ row.bucket) where
  rising : (table : RawTable) (from : ℕ) (ms : List Member) (rows : List RawRow) → AreRows table from ms rows → AllPairs (λ pair later. pair.0 ≤ later.0) (map f rows)
  unfolding AreRows
  rising table from [] rows are = subst (λ rs. AllPairs (λ (pair : ℕ × ℕ) (later : ℕ × ℕ). pair.0 ≤ later.0) (map f rs)) (sym are) (none_rise)
  rising table from (m ∷ ms) [] are = absurd are
  rising table from (m ∷ ms) (row ∷ rows) are =
      let on : row.bucket * 64 ≤ row.bucket * 64 + row.position + 1 = omega arith in
      AllPairs-cons (λ (pair : ℕ × ℕ) (later : ℕ × ℕ). pair.0 ≤ later.0) (f row) (map f rows)
      (All-map (λ (pair : ℕ × ℕ). (f row).0 ≤ pair.0) f rows
      (subst (λ b. All (λ r. b ≤ (f r).0) rows) (sym (keeps row))
      (All-weaker (λ (r : RawRow). row.bucket ≤ r.bucket) (λ (r : RawRow). row.bucket ≤ (f r).0) (λ r low. subst (λ b. row.bucket ≤ b) (sym (keeps r)) low) rows
      (later table row.bucket (number row + 1) ms rows on are.2))))
      (rising table (number row + 1) ms rows are.2)

-- THE FIRST RECORDS

fewer : (recs : List FileRec) (r : FileRec) (b : Bool) → length (cond b recs (recs ++ r ∷ [])) ≤ length recs + 1
fewer recs r true = let same : length recs ≤ length recs + 1 = omega arith in same
fewer recs r false = let more : length (recs ++ r ∷ []) ≤ length recs + 1 = omega (arith, length_push recs r) in more

short_from : (done recs : List FileRec) → length (fold with_rec done recs) ≤ length done + length recs
short_from done [] = let none : length done ≤ length done + 0 = omega arith in none
short_from done (r ∷ recs) =
    let one : length (with_rec done r) ≤ length done + 1 = fewer done r (list_any (same_peer r.peer) (peers_of done)) in
    let rest : length (fold with_rec (with_rec done r) recs) ≤ length (with_rec done r) + length recs = short_from (with_rec done r) recs in
    let all : length (fold with_rec (with_rec done r) recs) ≤ length done + suc (length recs) = omega (arith, one, rest) in
    all

some_from : (done recs : List FileRec) → 0 < length done → 0 < length (fold with_rec done recs)
some_from done [] some = some
some_from done (r ∷ recs) some = some_from (with_rec done r) recs (by (list_any (same_peer r.peer) (peers_of done)))
  where
    by : (b : Bool) → 0 < length (cond b done (done ++ r ∷ []))
    by true = some
    by false = let more : 0 < length (done ++ r ∷ []) = omega (arith, length_push done r) in more

module _ (P : FileRec → Type 0) where
  each_from : (done recs : List FileRec) → All P done → All P recs → All P (fold with_rec done recs)
  each_from done [] own all = own
  each_from done (r ∷ recs) own all =
      each_from (with_rec done r) recs (by (list_any (same_peer r.peer) (peers_of done))) (All-tail P r recs all)
    where
      by : (b : Bool) → All P (cond b done (done ++ r ∷ []))
      by true = own
      by false = All-push P done r own (All-head P r recs all)

index_below : (recs : List FileRec) (peer : Peer) → 0 < length recs → index_of recs peer < length recs
index_below recs peer some = by (position (same_peer peer) (peers_of recs)) refl
  where
    by : (o : Option ℕ) → position (same_peer peer) (peers_of recs) ≡ o → unwrap_or o 0 < length recs
    by None is = some
    by (Some i) is = omega (arith, (position-Some (same_peer peer) (peers_of recs) i peer is).0, length-map recs (λ (r : FileRec). r.peer))

-- what `Snapshot::make` needs
pub record Fits (raw : Raw) : Type 0 where
  pub few_new : length (new_recs raw) ≤ MAX_NEW
  pub few_tried : length (tried_of raw.tried) ≤ MAX_TRIED
  pub new_attempts : All (λ r. r.attempts ≤ MAX_ATTEMPTS) (new_recs raw)
  pub tried_attempts : All (λ r. r.attempts ≤ MAX_ATTEMPTS) (tried_of raw.tried)
  pub buckets_below : All (λ pair. pair.0 < NEW_BUCKETS) (map (pair_of (new_recs raw)) raw.new)
  pub indexes : All (λ pair. pair.1 < length (new_recs raw)) (map (pair_of (new_recs raw)) raw.new)
  pub rise : AllPairs (λ pair later. pair.0 ≤ later.0) (map (pair_of (new_recs raw)) raw.new)
  pub few_listed : length (map (pair_of (new_recs raw)) raw.new) ≤ NEW_BUCKETS * SLOTS

indexes_below : (rows : List RawRow) → All (λ row. index_of (firsts (recs_of rows)) row.rec.peer < length (firsts (recs_of rows))) rows
indexes_below [] = All-nil (λ (row : RawRow). index_of [] row.rec.peer < 0)
indexes_below (row ∷ rows) = λ k d lt.
    let one : 0 < 1 = omega arith in
    index_below (firsts (recs_of (row ∷ rows))) (slice_index_or (row ∷ rows) k d).rec.peer (some_from (with_rec [] row.rec) (recs_of rows) one)

few_new_rows : (ms : List Member) (rows : List RawRow) → AreRows New 0 ms rows → length rows ≤ 65536
few_new_rows ms rows are =
    let all : length rows + 0 ≤ 65536 = few New 0 ms rows (omega arith) are in
    omega (arith, all)

few_tried_rows : (ms : List Member) (rows : List RawRow) → AreRows Tried 0 ms rows → length rows ≤ 16384
few_tried_rows ms rows are =
    let all : length rows + 0 ≤ 16384 = few Tried 0 ms rows (omega arith) are in
    omega (arith, all)

few_recs : (rows : List RawRow) (most : ℕ) → length rows ≤ most → length (recs_of rows) ≤ most
few_recs rows most few = subst (λ n. n ≤ most) (sym (length-map rows (λ (row : RawRow). row.rec))) few

few_firsts : (recs : List FileRec) (most : ℕ) → length recs ≤ most → length (firsts recs) ≤ most
few_firsts recs most few =
    let short : length (firsts recs) ≤ 0 + length recs = short_from [] recs in
    omega (arith, short, few)

few_pairs : (f : RawRow → ℕ × ℕ) (rows : List RawRow) (most : ℕ) → length rows ≤ most → length (map f rows) ≤ most
few_pairs f rows most few = subst (λ n. n ≤ most) (sym (length-map rows f)) few

pub fits : (raw : Raw) → AreRowsOf raw → Fits raw
fits raw are = record {
  few_new = few_firsts (recs_of raw.new) 65536 (few_recs raw.new 65536 (few_new_rows are.new raw.new are.new_rows));
  few_tried = subst (λ n. n ≤ 16384) (sym (length-map raw.tried (λ (row : RawRow). reached row.rec))) (few_tried_rows are.tried raw.tried are.tried_rows);
  new_attempts = each_from (λ (r : FileRec). r.attempts ≤ MAX_ATTEMPTS) [] (recs_of raw.new) (All-nil (λ (r : FileRec). r.attempts ≤ MAX_ATTEMPTS))
      (All-map (λ (r : FileRec). r.attempts ≤ MAX_ATTEMPTS) (λ (row : RawRow). row.rec) raw.new (attempts New 0 are.new raw.new are.new_rows));
  tried_attempts = All-map (λ (r : FileRec). r.attempts ≤ MAX_ATTEMPTS) (λ (row : RawRow). reached row.rec) raw.tried (attempts Tried 0 are.tried raw.tried are.tried_rows);
  buckets_below = All-map (λ (pair : ℕ × ℕ). pair.0 < NEW_BUCKETS) (pair_of (new_recs raw)) raw.new (buckets New 0 are.new raw.new are.new_rows);
  indexes = All-map (λ (pair : ℕ × ℕ). pair.1 < length (new_recs raw)) (pair_of (new_recs raw)) raw.new (indexes_below raw.new);
  rise = rising (pair_of (new_recs raw)) (λ row. refl) New 0 are.new raw.new are.new_rows;
  few_listed = few_pairs (pair_of (new_recs raw)) raw.new 65536 (few_new_rows are.new raw.new are.new_rows);
}

-- WHAT IS KNOWN OF A PEER

known_none : (recs : List FileRec) (peer : Peer) → list_any (same_peer peer) (peers_of recs) ≡ false → known_rec recs peer ≡ None
known_none [] peer none = refl
known_none (r ∷ recs) peer none = by (same_peer peer r.peer) none (known_none recs peer)
  where
    by : (b : Bool) → (b || list_any (same_peer peer) (peers_of recs)) ≡ false → (list_any (same_peer peer) (peers_of recs) ≡ false → known_rec recs peer ≡ None) → cond b (Some r) (known_rec recs peer) ≡ None
    by true is rest = absurd (true≢false is)
    by false is rest = rest is

pub position_of : (recs : List FileRec) (peer : Peer) → position_or_len (same_peer peer) (peers_of recs) ≡ position_or_len (λ (q : FileRec). same_peer peer q.peer) recs
position_of [] peer = refl
position_of (r ∷ recs) peer = ap (λ n. cond (not (same_peer peer r.peer)) (1 + n) 0) (position_of recs peer)

-- a new peer has no record
pub is_new_peer : (recs : List FileRec) (rec : FileRec) (new : Bool) → new ≡ not (list_any (same_peer rec.peer) (peers_of recs)) → new ≡ true → false ≡ differs rec (known_rec recs rec.peer)
is_new_peer recs rec new is fresh =
    sym (ap (differs rec) (known_none recs rec.peer (absent new (list_any (same_peer rec.peer) (peers_of recs)) is fresh)))

pub position_found : {X : Type 0} (p : X → Bool) (xs : List X) → list_any p xs ≡ true → position_or_len p xs < length xs
position_found p [] any = absurd (true≢false (sym any))
position_found p (x ∷ xs) any = by (p x) any (position_found p xs)
  where
    by : (b : Bool) → (b || list_any p xs) ≡ true → (list_any p xs ≡ true → position_or_len p xs < length xs) → cond (not b) (1 + position_or_len p xs) 0 < suc (length xs)
    by true is rest = let first : 0 < suc (length xs) = omega arith in first
    by false is rest =
        let below : position_or_len p xs < length xs = rest is in
        let later : 1 + position_or_len p xs < suc (length xs) = omega (arith, below) in
        later

-- another one has the record at its position
pub is_known_peer : (recs : List FileRec) (rec known : FileRec) (at : ℕ) (new said : Bool) → at ≡ position_or_len (same_peer rec.peer) (peers_of recs) → new ≡ not (list_any (same_peer rec.peer) (peers_of recs)) → new ≡ false → known ≡ get_or recs at known → said ≡ says_same known rec → not said ≡ differs rec (known_rec recs rec.peer)
is_known_peer recs rec known at new said is fresh old there same =
    let below : position_or_len (same_peer rec.peer) (peers_of recs) < length (peers_of recs) =
    position_found (same_peer rec.peer) (peers_of recs) (present new (list_any (same_peer rec.peer) (peers_of recs)) fresh old) in
    let within : at < length recs =
    subst (λ n. n < length recs) (sym is) (subst (λ n. position_or_len (same_peer rec.peer) (peers_of recs) < n) (length-map recs (λ (r : FileRec). r.peer)) below) in
    let found : known_rec recs rec.peer ≡ Some known =
    find_at (λ (q : FileRec). same_peer rec.peer q.peer) recs ∙ ap (slice_get recs) (sym (is ∙ position_of recs rec.peer)) ∙ slice_get_read recs (length recs) at known refl within there in
    ap not same ∙ sym (ap (differs rec) found)
