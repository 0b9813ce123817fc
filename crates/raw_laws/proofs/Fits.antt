-- Rows of slots one after another.
use Rattle.std.proofs.Common.{◌≡◌, ℕ, ◌+◌, ◌≤◌, List, [], ◌∷◌, ◌++◌, refl, subst, arith}
use Rattle.raw_read.specs.Rows.{AreRows, Member, next_slot, slot_number}
use Rattle.raw_read.specs.declared.raw.RawRow.{RawRow}
use Rattle.raw_read.specs.declared.raw.RawTable.{RawTable}

abbrev number : RawRow → ℕ
number row = slot_number row.bucket row.position

-- the rows of the members have numbers from `low` on that are below `high`
pub record Fits (table : RawTable) (low high : ℕ) (ms : List Member) (rows : List RawRow) : Type 0 where
  pub are : AreRows table low ms rows
  pub ends : next_slot low rows ≤ high

rows-lower : (table : RawTable) (low from : ℕ) (ms : List Member) (rows : List RawRow) → low ≤ from → AreRows table from ms rows → AreRows table low ms rows
unfolding AreRows
rows-lower table low from [] rows le h = h
rows-lower table low from (m ∷ ms) [] le h = h
rows-lower table low from (m ∷ ms) (row ∷ rows) le h = (h.0, omega (arith, le, h.1), h.2)

rows-append : (table : RawTable) (from : ℕ) (ms ns : List Member) (rows more : List RawRow) → AreRows table from ms rows → AreRows table (next_slot from rows) ns more → AreRows table from (ms ++ ns) (rows ++ more)
unfolding AreRows next_slot
rows-append table from [] ns [] more h k = k
rows-append table from [] ns (row ∷ rows) more h k = cc
rows-append table from (m ∷ ms) ns [] more h k = absurd h
rows-append table from (m ∷ ms) ns (row ∷ rows) more h k = (h.0, h.1, rows-append table (number row + 1) ms ns rows more h.2 k)

next-append : (from : ℕ) (rows more : List RawRow) → next_slot from (rows ++ more) ≡ next_slot (next_slot from rows) more
unfolding next_slot
next-append from [] more = refl
next-append from (row ∷ rows) more = next-append (number row + 1) rows more

next-le : (low from : ℕ) (rows : List RawRow) → low ≤ from → next_slot low rows ≤ next_slot from rows
unfolding next_slot
next-le low from [] le = le
next-le low from (row ∷ rows) le = omega arith

pub fits-none : (table : RawTable) (low high : ℕ) → low ≤ high → Fits table low high [] []
unfolding AreRows next_slot
fits-none table low high le = record { are = refl; ends = le }

pub fits-append : (table : RawTable) (low middle high : ℕ) (ms ns : List Member) (rows more : List RawRow) → Fits table low middle ms rows → Fits table middle high ns more → Fits table low high (ms ++ ns) (rows ++ more)
fits-append table low middle high ms ns rows more h k =
    let le = next-le (next_slot low rows) middle more h.ends in
    record {
      are = rows-append table low ms ns rows more h.are (rows-lower table (next_slot low rows) middle ns more h.ends k.are);
      ends = omega (arith, next-append low rows more, le, k.ends);
    }

pub fits-at : {ms : List Member} {rows : List RawRow} (table : RawTable) (low from high last : ℕ) → low ≡ from → high ≡ last → Fits table low high ms rows → Fits table from last ms rows
fits-at {ms} {rows} table low from high last e f h =
    subst (λ n. Fits table from n ms rows) f (subst (λ n. Fits table n high ms rows) e h)
