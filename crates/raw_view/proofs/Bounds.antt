-- Rows rise, so they are no more than there are slots.
use Rattle.std.proofs.Common.{◌≡◌, ℕ, ◌+◌, ◌*◌, ◌<◌, ◌≤◌, cond, Bool, true, false, not, List, [], ◌∷◌, ◌++◌, length, fold, refl, sym, ap, ◌∙◌, arith}
use Rattle.std.specs.Prelude.{◌&&◌, count_by, if◌then◌else◌, Option}
use Rattle.std.specs.List.{list_any, sum_by}
use Rattle.std.proofs.lemmas.List.{length-append, length-map}
use Rattle.std.proofs.lemmas.List.Sums.{sum_by-append, sum_by-cons}
use Rattle.net_addr.specs.Same.{same_peer}
use Rattle.peer_rec.specs.Rec.{is_tried}
use Rattle.peer_rec.specs.declared.rec.Rec.{Rec}
use Rattle.raw_read.specs.Raw.{IsRaw}
use Rattle.raw_read.specs.Rows.{AreRows, IsRow, Member, buckets_of, slot_number}
use Rattle.raw_read.specs.declared.raw.Raw.{Raw}
use Rattle.raw_read.specs.declared.raw.RawRow.{RawRow}
use Rattle.raw_read.specs.declared.raw.RawTable.{RawTable}
use Rattle.raw_read.specs.declared.raw.RawTable.TheVariants.{New, Tried}
use Rattle.raw_view.specs.Inside.{AllAre, AreIn, AreRowsIn, AreTables}
use Rattle.raw_view.specs.Listed.{RawTables, new_recs, peers_of, rec_of, slots_of, tables_of, tried_recs, with_row}

pub in_table : (table : RawTable) (m : Member) (row : RawRow) → IsRow table m row → slot_number row.bucket row.position < buckets_of table * 64
in_table New m row is = omega (arith, is.slot.bucket_below, is.slot.position_below)
in_table Tried m row is = omega (arith, is.slot.bucket_below, is.slot.position_below)

all_in : (table : RawTable) (from : ℕ) (ms : List Member) (rows : List RawRow) → AreRows table from ms rows → AreIn table rows
unfolding AreRows
all_in table from [] [] are = tt
all_in table from [] (row ∷ rows) are = absurd (omega (arith, ap length are))
all_in table from (m ∷ ms) [] are = absurd are
all_in table from (m ∷ ms) (row ∷ rows) are = (in_table table m row are.0, all_in table (slot_number row.bucket row.position + 1) ms rows are.2)

few : (table : RawTable) (from : ℕ) (ms : List Member) (rows : List RawRow) → from ≤ buckets_of table * 64 → AreRows table from ms rows → from + length rows ≤ buckets_of table * 64
unfolding AreRows
few table from [] [] le are = omega (arith, le)
few table from [] (row ∷ rows) le are = absurd (omega (arith, ap length are))
few table from (m ∷ ms) [] le are = absurd are
few table from (m ∷ ms) (row ∷ rows) le are =
    let below = in_table table m row are.0 in
    let more = few table (slot_number row.bucket row.position + 1) ms rows (omega (arith, below)) are.2 in
    omega (arith, more, are.1)

pub rows_in : (bytes : List ℕ) (raw : Raw) → IsRaw bytes raw → AreRowsIn raw
rows_in bytes raw is = record {
  new = all_in New 0 is.new raw.new is.new_rows;
  few_new = omega (arith, few New 0 is.new raw.new (omega arith) is.new_rows);
  tried = all_in Tried 0 is.tried raw.tried is.tried_rows;
  few_tried = omega (arith, few Tried 0 is.tried raw.tried (omega arith) is.tried_rows);
}

-- THE RECORDS

len_with : (b : Bool) (recs : List Rec) (r : Rec) → length (if b then recs else recs ++ r ∷ []) ≤ length recs + 1
len_with true recs r = omega arith
len_with false recs r = omega (arith, length-append recs (r ∷ []))

len_fold : (recs : List Rec) (rows : List RawRow) → length (fold with_row recs rows) ≤ length recs + length rows
len_fold recs [] = omega arith
len_fold recs (row ∷ rows) =
    omega (arith, len_fold (with_row recs row) rows, len_with (list_any (same_peer row.rec.peer) (peers_of recs)) recs (rec_of New row))

are_push : (b : Bool) (recs : List Rec) (r : Rec) → AllAre b recs → is_tried r ≡ b → AllAre b (recs ++ r ∷ [])
are_push b [] r all is = (is, tt)
are_push b (q ∷ recs) r all is = (all.0, are_push b recs r all.1 is)

new_with : (b : Bool) (recs : List Rec) (r : Rec) → AllAre false recs → is_tried r ≡ false → AllAre false (if b then recs else recs ++ r ∷ [])
new_with true recs r all is = all
new_with false recs r all is = are_push false recs r all is

new_fold : (recs : List Rec) (rows : List RawRow) → AllAre false recs → AllAre false (fold with_row recs rows)
new_fold recs [] all = all
new_fold recs (row ∷ rows) all = new_fold (with_row recs row) rows (new_with (list_any (same_peer row.rec.peer) (peers_of recs)) recs (rec_of New row) all refl)

all_tried : (rows : List RawRow) → AllAre true (tried_recs rows)
all_tried [] = tt
all_tried (row ∷ rows) = (refl, all_tried rows)

pub are_tables : (raw : Raw) → AreRowsIn raw → AreTables (tables_of raw)
are_tables raw are = record {
  few_new = omega (arith, len_fold [] raw.new, are.few_new);
  few_tried = omega (arith, length-map raw.tried (rec_of Tried), are.few_tried);
  are_new = new_fold [] raw.new tt;
  are_tried = all_tried raw.tried;
}

-- both are made of their rows
pub tables_by : (raw : Raw) (ns ts : List RawRow) (a b : List Rec) (c d : List (Option Rec)) → ns ≡ raw.new → ts ≡ raw.tried
    → a ≡ new_recs ns → b ≡ tried_recs ts → c ≡ slots_of New ns → d ≡ slots_of Tried ts
    → ◌≡◌ {A = RawTables} (record { new_recs = a; tried_recs = b; new_slots = c; tried_slots = d }) (tables_of raw)
tables_by raw ns ts a b c d new tried of_new of_tried in_new in_tried = λ i. record {
  new_recs = (of_new ∙ ap new_recs new) i;
  tried_recs = (of_tried ∙ ap tried_recs tried) i;
  new_slots = (in_new ∙ ap (slots_of New) new) i;
  tried_slots = (in_tried ∙ ap (slots_of Tried) tried) i;
}

-- COUNTS

sum_same : (f g : Rec → ℕ) (b : Bool) (recs : List Rec) → AllAre b recs → ((r : Rec) → is_tried r ≡ b → f r ≡ g r) → sum_by f recs ≡ sum_by g recs
sum_same f g b [] all same = refl
sum_same f g b (r ∷ recs) all same =
    sum_by-cons f r recs ∙ omega (arith, same r all.0, sum_same f g b recs all.1 same) ∙ sym (sum_by-cons g r recs)

sum_none : (f : Rec → ℕ) (b : Bool) (recs : List Rec) → AllAre b recs → ((r : Rec) → is_tried r ≡ b → f r ≡ 0) → sum_by f recs ≡ 0
sum_none f b [] all none = refl
sum_none f b (r ∷ recs) all none = sum_by-cons f r recs ∙ omega (arith, none r all.0, sum_none f b recs all.1 none)

sum_ones : (f : Rec → ℕ) (b : Bool) (recs : List Rec) → AllAre b recs → ((r : Rec) → is_tried r ≡ b → f r ≡ 1) → sum_by f recs ≡ length recs
sum_ones f b [] all one = refl
sum_ones f b (r ∷ recs) all one = sum_by-cons f r recs ∙ omega (arith, one r all.0, sum_ones f b recs all.1 one)

module _ (t : RawTables) (are : AreTables t) where
  pub wanted_new_is : (p : Rec → Bool) → count_by (λ r. not (is_tried r) && p r) (t.new_recs ++ t.tried_recs) ≡ count_by p t.new_recs
  wanted_new_is p =
      let f : Rec → ℕ = λ r. cond (not (is_tried r) && p r) 1 0 in
      let new = sum_same f (λ r. cond (p r) 1 0) false t.new_recs are.are_new (λ r e. ap (λ b. cond (not b && p r) 1 0) e) in
      let tried = sum_none f true t.tried_recs are.are_tried (λ r e. ap (λ b. cond (not b && p r) 1 0) e) in
      sum_by-append f t.new_recs t.tried_recs ∙ omega (arith, new, tried)

  pub wanted_tried_is : (p : Rec → Bool) → count_by (λ r. is_tried r && p r) (t.new_recs ++ t.tried_recs) ≡ count_by p t.tried_recs
  wanted_tried_is p =
      let f : Rec → ℕ = λ r. cond (is_tried r && p r) 1 0 in
      let new = sum_none f false t.new_recs are.are_new (λ r e. ap (λ b. cond (b && p r) 1 0) e) in
      let tried = sum_same f (λ r. cond (p r) 1 0) true t.tried_recs are.are_tried (λ r e. ap (λ b. cond (b && p r) 1 0) e) in
      sum_by-append f t.new_recs t.tried_recs ∙ omega (arith, new, tried)

  pub new_size : count_by (λ r. not (is_tried r)) (t.new_recs ++ t.tried_recs) ≡ length t.new_recs
  new_size =
      let f : Rec → ℕ = λ r. cond (not (is_tried r)) 1 0 in
      let new = sum_ones f false t.new_recs are.are_new (λ r e. ap (λ b. cond (not b) 1 0) e) in
      let tried = sum_none f true t.tried_recs are.are_tried (λ r e. ap (λ b. cond (not b) 1 0) e) in
      sum_by-append f t.new_recs t.tried_recs ∙ omega (arith, new, tried)

  pub tried_size : count_by is_tried (t.new_recs ++ t.tried_recs) ≡ length t.tried_recs
  tried_size =
      let f : Rec → ℕ = λ r. cond (is_tried r) 1 0 in
      let new = sum_none f false t.new_recs are.are_new (λ r e. ap (λ b. cond b 1 0) e) in
      let tried = sum_ones f true t.tried_recs are.are_tried (λ r e. ap (λ b. cond b 1 0) e) in
      sum_by-append f t.new_recs t.tried_recs ∙ omega (arith, new, tried)
