-- The view of what `raw` printed has the slots of the tables.
use Rattle.std.proofs.Common.{◌≡◌, ℕ, zero, suc, ◌+◌, ◌<◌, ◌≤◌, Bool, true, false, All, List, [], ◌∷◌, ◌++◌, refl, sym, ap, ◌∙◌, subst, arith, inl, inr, Option, Some, None}
use Rattle.std.specs.Prelude.{◌==◌, ◌⊎◌, ⊤, if◌then◌else◌, option_map}
use Rattle.std.specs.List.{flat_map, range_with_len}
use Rattle.std.proofs.lemmas.Bool.{eq-eqb, eqb-false, eqb-true}
use Rattle.node_json.specs.Raw.{rec_at}
use Rattle.node_json.specs.declared.table.Table.{Table}
use Rattle.node_json.specs.declared.table.Table.TheVariants.{New, Tried}
use Rattle.peer_rec.specs.declared.rec.Rec.{Rec}
use Rattle.placing.specs.Places.{Places}
use Rattle.raw_read.proofs.RawLaws.{one_raw}
use Rattle.raw_read.specs.Raw.{IsRaw}
use Rattle.raw_read.specs.Rows.{buckets_of, slot_number}
use Rattle.raw_read.specs.declared.raw.Raw.{Raw}
use Rattle.raw_read.specs.declared.raw.RawRow.{RawRow}
use Rattle.raw_view.proofs.Named.{named}
use Rattle.raw_view.specs.Listed as listed
use Rattle.raw_view.specs.Listed.{rec_of, row_in, slot_in, slots_of}
use Rattle.slot_grid.specs.declared.sizes.TheConstants.{SLOTS}
use Rattle.table_groups.specs.View.{view_of}
use Rattle.table_machine.specs.State.{State}
use Rattle.raw_laws.proofs.Texts.{read_back, table-rows}
use Rattle.raw_laws.specs.Printed.{IsPrintable, IsPrinted, bucket_rows, printed_rec, raw_of, row_of, table_of, table_rows}
use Rattle.raw_laws.specs.Shown.{HaveSameSlots}

abbrev number : RawRow → ℕ
number row = slot_number row.bucket row.position

-- the slots of the rows have numbers from `low` on that are below `high`
abbrev Within : ℕ → ℕ → List RawRow → Type 0
Within low high [] = ⊤
Within low high (row ∷ rows) = (low ≤ number row) × (number row < high) × Within low high rows

within-append : (low high : ℕ) (rows more : List RawRow) → Within low high rows → Within low high more → Within low high (rows ++ more)
within-append low high [] more h k = k
within-append low high (row ∷ rows) more h k = (h.0, h.1, within-append low high rows more h.2 k)

within-wide : (low high less most : ℕ) (rows : List RawRow) → less ≤ low → high ≤ most → Within low high rows → Within less most rows
within-wide low high less most [] a b h = tt
within-wide low high less most (row ∷ rows) a b h = (omega (arith, a, h.0), omega (arith, b, h.1), within-wide low high less most rows a b h.2)

outside : (low high n at : ℕ) → low ≤ at → at < high → (n < low) ⊎ (high ≤ n) → (at ≡ n → ⊥)
outside low high n at a b (inl c) e = absurd (omega (arith, a, c, e))
outside low high n at a b (inr c) e = absurd (omega (arith, b, c, e))

-- no row has a slot outside of them
none-outside : (low high n : ℕ) (rows : List RawRow) → Within low high rows → (n < low) ⊎ (high ≤ n) → row_in rows n ≡ None
none-outside low high n [] h out = refl
none-outside low high n (row ∷ rows) h out = go (number row == n) refl (none-outside low high n rows h.2 out)
  where
    go : (v : Bool) → (number row == n) ≡ v → row_in rows n ≡ None → row_in (row ∷ rows) n ≡ None
    go true e later = absurd (outside low high n (number row) h.0 h.1 out (eqb-true (number row) n e))
    go false e later = ap (λ b. if b then Some row else row_in rows n) e ∙ later

some-none : (row : RawRow) → ◌≡◌ {A = Option RawRow} (Some row) None → ⊥
some-none row e = cc

-- a row of the later ones, or of the earlier ones
after-none : (n : ℕ) (rows more : List RawRow) → row_in rows n ≡ None → row_in (rows ++ more) n ≡ row_in more n
after-none n [] more none = refl
after-none n (row ∷ rows) more none = go (number row == n) refl (λ k. after-none n rows more k)
  where
    go : (v : Bool) → (number row == n) ≡ v → (row_in rows n ≡ None → row_in (rows ++ more) n ≡ row_in more n) → row_in (row ∷ (rows ++ more)) n ≡ row_in more n
    go true e later = absurd (some-none row (sym (ap (λ b. if b then Some row else row_in rows n) e) ∙ none))
    go false e later =
        ap (λ b. if b then Some row else row_in (rows ++ more) n) e
        ∙ later (sym (ap (λ b. if b then Some row else row_in rows n) e) ∙ none)

before-none : (n : ℕ) (rows more : List RawRow) → row_in more n ≡ None → row_in (rows ++ more) n ≡ row_in rows n
before-none n [] more none = none
before-none n (row ∷ rows) more none = ap (λ o. if number row == n then Some row else o) (before-none n rows more none)

-- PARTS ONE AFTER ANOTHER

module _ (part : ℕ → List RawRow) (start : ℕ → ℕ) (rises : (a b : ℕ) → a ≤ b → start a ≤ start b)
    (inside : (i : ℕ) → Within (start i) (start (i + 1)) (part i)) where
  parts-within : (count from : ℕ) → Within (start from) (start (from + count)) (flat_map part (range_with_len from count))
  parts-within zero from = tt
  parts-within (suc count) from =
      within-append (start from) (start (from + suc count)) (part from) (flat_map part (range_with_len (from + 1) count))
      (within-wide (start from) (start (from + 1)) (start from) (start (from + suc count)) (part from) (omega arith) (rises (from + 1) (from + suc count) (omega arith)) (inside from))
      (subst (λ last. Within (start from) (start last) (flat_map part (range_with_len (from + 1) count))) (omega arith)
      (within-wide (start (from + 1)) (start (from + 1 + count)) (start from) (start (from + 1 + count)) (flat_map part (range_with_len (from + 1) count)) (rises from (from + 1) (omega arith)) (omega arith) (parts-within count (from + 1))))

  found-in : (count from i n : ℕ) → from ≤ i → i < from + count → start i ≤ n → n < start (i + 1) → row_in (flat_map part (range_with_len from count)) n ≡ row_in (part i) n
  found-in zero from i n a b c d = absurd (omega (arith, a, b))
  found-in (suc count) from i n a b c d = go (from == i) refl (λ next. found-in count (from + 1) i n next (omega (arith, b)) c d)
    where
      more : List RawRow
      more = flat_map part (range_with_len (from + 1) count)

      go : (v : Bool) → (from == i) ≡ v → (from + 1 ≤ i → row_in more n ≡ row_in (part i) n) → row_in (part from ++ more) n ≡ row_in (part i) n
      go true e later =
          let same = eqb-true from i e in
          let below : n < start (from + 1) = subst (λ k. n < start (k + 1)) (sym same) d in
          before-none n (part from) more (none-outside (start (from + 1)) (start (from + 1 + count)) n more (parts-within count (from + 1)) (inl below))
          ∙ ap (λ k. row_in (part k) n) same
      go false e later =
          let other = eqb-false from i e in
          let next : from + 1 ≤ i = omega (arith, a, other) in
          after-none n (part from) more (none-outside (start from) (start (from + 1)) n (part from) (inside from) (inr (omega (arith, c, rises (from + 1) i next))))
          ∙ later next

-- THE ROWS OF THE TABLES

slot-within : (bucket position : ℕ) (o : Option Rec) → Within (slot_number bucket position) (slot_number bucket (position + 1)) (row_of bucket position o)
slot-within bucket position None = tt
slot-within bucket position (Some r) = (omega arith, omega arith, tt)

module _ (table : Table) (st : State) where
  abbrev slot-rows : ℕ → ℕ → List RawRow
  slot-rows bucket position = row_of bucket position (rec_at table st bucket position)

  bucket-within : (bucket : ℕ) → Within (slot_number bucket 0) (slot_number (bucket + 1) 0) (bucket_rows table st bucket)
  bucket-within bucket =
      within-wide (slot_number bucket 0) (slot_number bucket (0 + SLOTS)) (slot_number bucket 0) (slot_number (bucket + 1) 0) (bucket_rows table st bucket) (omega arith) (omega arith)
      (parts-within (slot-rows bucket) (slot_number bucket) (λ a b le. omega (arith, le)) (λ position. slot-within bucket position (rec_at table st bucket position)) SLOTS 0)

  row-is : (bucket position : ℕ) → bucket < buckets_of (table_of table) → position < SLOTS → row_in (table_rows table st) (slot_number bucket position) ≡ row_in (slot-rows bucket position) (slot_number bucket position)
  row-is bucket position b p =
      found-in (bucket_rows table st) (λ k. slot_number k 0) (λ x y le. omega (arith, le)) bucket-within (buckets_of (table_of table)) 0 bucket (slot_number bucket position) (omega arith) (omega (arith, b)) (omega arith) (omega (arith, p))
      ∙ found-in (slot-rows bucket) (slot_number bucket) (λ x y le. omega (arith, le)) (λ q. slot-within bucket q (rec_at table st bucket q)) SLOTS 0 position (slot_number bucket position) (omega arith) (omega (arith, p)) (omega arith) (omega arith)

  one-row : (bucket position : ℕ) (o : Option Rec) → option_map printed_rec (option_map (rec_of (table_of table)) (row_in (row_of bucket position o) (slot_number bucket position))) ≡ option_map printed_rec o
  one-row bucket position None = refl
  one-row bucket position (Some r) =
      ap (λ b. option_map printed_rec (option_map (rec_of (table_of table)) (if b then Some (record { bucket = bucket; position = position; rec = printed_rec r }) else None)))
      (eq-eqb (slot_number bucket position) (slot_number bucket position) refl)

  slot-is : (bucket position : ℕ) → All IsPrintable st.records → bucket < buckets_of (table_of table) → position < SLOTS
      → option_map printed_rec (slot_in (slots_of (table_of table) (table_rows table st)) bucket position) ≡ option_map printed_rec (rec_at table st bucket position)
  slot-is bucket position h b p =
      ap (option_map printed_rec) (named (table_of table) _ (table_rows table st) bucket position (table-rows table st h) ∙ ap (option_map (rec_of (table_of table))) (row-is bucket position b p))
      ∙ one-row bucket position (rec_at table st bucket position)

pub shown : (places : Places) (st : State) (text : List ℕ) (raw : Raw) → IsPrinted st text → IsRaw text raw → HaveSameSlots (listed.view_of places raw) (view_of st)
shown places st text raw h is =
    subst (λ it. HaveSameSlots (listed.view_of places it) (view_of st)) (one_raw text (raw_of st) raw (read_back st text h) is) of_printed
  where
    of_printed : HaveSameSlots (listed.view_of places (raw_of st)) (view_of st)
    of_printed true bucket slot b p = slot-is New st bucket slot h.records b p
    of_printed false bucket slot b p = slot-is Tried st bucket slot h.records b p
