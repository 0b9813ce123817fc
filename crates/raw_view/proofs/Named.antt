-- The slots that rows put together have the records of the rows that name them.
use Rattle.std.proofs.Common.{◌≡◌, ℕ, zero, suc, ◌+◌, ◌*◌, ◌<◌, Bool, true, false, List, [], ◌∷◌, length, replicate, get_or, fold, Option, Some, None, refl, sym, ap, ◌∙◌, arith}
use Rattle.std.specs.Prelude.{◌==◌, if◌then◌else◌, option_map}
use Rattle.std.proofs.lemmas.Bool.{eqb-false, eqb-true}
use Rattle.std.proofs.lemmas.Grind.{get_or-set_at}
use Rattle.std.proofs.lemmas.List.{get_or-set_other, length-replicate, length-set}
use Rattle.peer_rec.specs.declared.rec.Rec.{Rec}
use Rattle.raw_read.specs.Rows.{AreRows, Member, buckets_of, slot_number}
use Rattle.raw_read.specs.declared.raw.RawRow.{RawRow}
use Rattle.raw_read.specs.declared.raw.RawTable.{RawTable}
use Rattle.raw_view.specs.Listed.{rec_of, row_in, slot_in, slots_of, with_slot}
use Rattle.raw_view.proofs.Bounds.{in_table}

number : RawRow → ℕ
number row = slot_number row.bucket row.position

-- no later row names an earlier slot
none_after : (table : RawTable) (from n : ℕ) (ms : List Member) (rows : List RawRow) → AreRows table from ms rows → n < from → row_in rows n ≡ None
unfolding AreRows
none_after table from n [] [] are lt = refl
none_after table from n [] (row ∷ rows) are lt = absurd (omega (arith, ap length are))
none_after table from n (m ∷ ms) [] are lt = absurd are
none_after table from n (m ∷ ms) (row ∷ rows) are lt =
    go (slot_number row.bucket row.position == n) refl (none_after table (slot_number row.bucket row.position + 1) n ms rows are.2 (omega (arith, lt, are.1)))
  where
    go : (v : Bool) → (slot_number row.bucket row.position == n) ≡ v → row_in rows n ≡ None → row_in (row ∷ rows) n ≡ None
    go true e later = absurd (omega (arith, lt, are.1, eqb-true (slot_number row.bucket row.position) n e))
    go false e later = ap (λ b. if b then Some row else row_in rows n) e ∙ later

-- the record of a row that names the slot, or what was there
found_or : RawTable → Option RawRow → Option Rec → Option Rec
found_or table None was = was
found_or table (Some row) was = Some (rec_of table row)

slot_is : (table : RawTable) (from n : ℕ) (ms : List Member) (rows : List RawRow) (slots : List (Option Rec)) → AreRows table from ms rows → length slots ≡ buckets_of table * 64
    → get_or (fold (with_slot table) slots rows) n None ≡ found_or table (row_in rows n) (get_or slots n None)
unfolding AreRows found_or
slot_is table from n [] [] slots are long = refl
slot_is table from n [] (row ∷ rows) slots are long = absurd (omega (arith, ap length are))
slot_is table from n (m ∷ ms) [] slots are long = absurd are
slot_is table from n (m ∷ ms) (row ∷ rows) slots are long =
    go (slot_number row.bucket row.position == n) refl
    (slot_is table (slot_number row.bucket row.position + 1) n ms rows (with_slot table slots row) are.2
    (length-set slots (slot_number row.bucket row.position) (Some (rec_of table row)) ∙ long))
  where
    at : ℕ
    at = slot_number row.bucket row.position

    next : List (Option Rec)
    next = with_slot table slots row

    below : at < length slots
    below = omega (arith, in_table table m row are.0, long)

    go : (v : Bool) → (at == n) ≡ v → get_or (fold (with_slot table) next rows) n None ≡ found_or table (row_in rows n) (get_or next n None)
        → get_or (fold (with_slot table) next rows) n None ≡ found_or table (if at == n then Some row else row_in rows n) (get_or slots n None)
    go true e later =
        let same = eqb-true at n e in
        later
        ∙ ap (λ found. found_or table found (get_or next n None)) (none_after table (at + 1) n ms rows are.2 (omega (arith, same)))
        ∙ get_or-set_at slots at n (Some (rec_of table row)) None (sym same) below
        ∙ sym (ap (λ b. found_or table (if b then Some row else row_in rows n) (get_or slots n None)) e)
    go false e later =
        let other = eqb-false at n e in
        later
        ∙ ap (found_or table (row_in rows n)) (get_or-set_other slots at n (Some (rec_of table row)) None (λ is. other (sym is)))
        ∙ sym (ap (λ b. found_or table (if b then Some row else row_in rows n) (get_or slots n None)) e)

empty : (count n : ℕ) → ◌≡◌ {A = Option Rec} (get_or (replicate count None) n None) None
empty zero n = refl
empty (suc count) zero = refl
empty (suc count) (suc n) = empty count n

as_map : (table : RawTable) (found : Option RawRow) → found_or table found None ≡ option_map (rec_of table) found
unfolding found_or
as_map table None = refl
as_map table (Some row) = refl

pub named : (table : RawTable) (ms : List Member) (rows : List RawRow) (bucket position : ℕ) → AreRows table 0 ms rows
    → slot_in (slots_of table rows) bucket position ≡ option_map (rec_of table) (row_in rows (slot_number bucket position))
named table ms rows bucket position are =
    let size : ℕ = buckets_of table * 64 in
    slot_is table 0 (slot_number bucket position) ms rows (replicate size None) are (length-replicate size None)
    ∙ ap (found_or table (row_in rows (slot_number bucket position))) (empty size (slot_number bucket position))
    ∙ as_map table (row_in rows (slot_number bucket position))
