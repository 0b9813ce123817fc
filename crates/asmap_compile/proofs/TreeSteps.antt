-- What is known of a part while its tree is written.
use Rattle.std.proofs.Common.{◌≡◌, ◌↔◌, ℕ, ◌+◌, ◌-◌, ◌<◌, ◌≤◌, Bool, true, false, not, List, [], ◌∷◌, ◌++◌, length, take, drop, get_or, min, refl, ap, sym, ◌∙◌, subst, arith}
use mathlib.Core.Bool.{beq}
use Rattle.std.proofs.lemmas.List.{take_rest}
use Rattle.std.specs.List.Sorted.{IsPartitionPoint, IsPartitionedBy}
use Rattle.bit_code.specs.Coder.{HasValue}
use Rattle.bit_code.specs.declared.coder.Coder.TheVariants as coders
use Rattle.asmap_vm.specs.Code.{Tree, Return}
use Rattle.prefix_table.specs.declared.rows.Row.{Row}
use Rattle.prefix_table.specs.Rows.{first_bits, number_at}
use Rattle.asmap_compile.specs.Compiled.{rows_kept, Forked, onward, matches, under_default, tree_at}
use Rattle.asmap_compile.specs.Inside.{bits_between, bit_of, is_low, IsPart, IsLonger}
use Rattle.asmap_compile.proofs.ChildLaws.{child_part, rows_of_side, way_part, part_end, end_value, part_way, part_value}
use Rattle.asmap_compile.proofs.StopLaws.{Stops, way_of, stop_after}
use Rattle.asmap_compile.proofs.TurnLaws.{AreLonger, longer_at, longer_rises, rows_le, low_first, ends_fork}
use Rattle.asmap_compile.proofs.Ways.{fork_sides}

-- a part, the number of its path, and the rows that are longer
pub record Facts (table : List Row) (p : List Bool) (left : ℕ) (part : List Row) (depth above default number : ℕ) (rows : List Row) : Type 0 where
  pub is : IsPart table p left part depth above default
  pub longer : IsLonger table p rows
  pub number_is : number ≡ number_at (rows_kept table) p

abbrev pub zero_row : Row
zero_row = record { bits = 0; len = 0; asn = 0 }

pub facts_longer : (table : List Row) (p : List Bool) (left : ℕ) (part : List Row) (depth above default number : ℕ) (rows : List Row) → Facts table p left part depth above default number rows → AreLonger table p rows
facts_longer table p left part depth above default number rows f = record { is_table = f.is.is_table; are = f.longer }

pub facts_depth : (table : List Row) (p : List Bool) (left : ℕ) (part : List Row) (depth above default number : ℕ) (rows : List Row) → Facts table p left part depth above default number rows → 0 < length rows → depth < 128
facts_depth table p left part depth above default number rows f some =
    let r = longer_at table p rows (facts_longer table p left part depth above default number rows f) 0 zero_row some in
    omega (arith, r.long, r.is.len, f.is.long)

pub facts_sides : (table : List Row) (p : List Bool) (left : ℕ) (part : List Row) (depth above default number : ℕ) (rows : List Row) → Facts table p left part depth above default number rows → IsPartitionedBy (is_low depth) rows
facts_sides table p left part depth above default number rows f =
    subst (λ n. IsPartitionedBy (is_low n) rows) f.is.long (low_first table p rows (facts_longer table p left part depth above default number rows f))

-- the first and the last row part at once
pub facts_fork : (table : List Row) (p : List Bool) (left : ℕ) (part : List Row) (depth above default number : ℕ) (rows : List Row) → Facts table p left part depth above default number rows → 0 < length rows →
    (bit_of (get_or rows 0 zero_row).bits depth ≡ bit_of (get_or rows (length rows - 1) zero_row).bits depth → ⊥) → onward (rows_kept table) p ≡ Forked
facts_fork table p left part depth above default number rows f some other =
    let l = facts_longer table p left part depth above default number rows f in
    let r = longer_at table p rows l 0 zero_row some in
    let t = longer_at table p rows l (length rows - 1) zero_row (omega arith) in
    let rise = rows_le rows (longer_rises table p rows l) 0 (length rows - 1) zero_row (omega arith) (omega arith) in
    ends_fork table p (get_or rows 0 zero_row) (get_or rows (length rows - 1) zero_row) r t rise
    (subst (λ n. bit_of (get_or rows 0 zero_row).bits n ≡ bit_of (get_or rows (length rows - 1) zero_row).bits n → ⊥) (sym f.is.long) other)

abbrev pub IsMiddle : ℕ → List Row → ℕ → Type 0
IsMiddle depth rows n = IsPartitionPoint (λ row. is_low depth row ≡ true) (λ row. is_low depth row ≡ false) rows n

pub facts_low : (table : List Row) (p : List Bool) (left : ℕ) (part : List Row) (depth above default number : ℕ) (rows : List Row) → Facts table p left part depth above default number rows →
    onward (rows_kept table) p ≡ Forked → (n : ℕ) → n ≤ length rows → IsMiddle depth rows n → IsPart table (p ++ false ∷ []) (left - 1) (take n rows) (depth + 1) number default
facts_low table p left part depth above default number rows f fork n fits point =
    let l = facts_longer table p left part depth above default number rows f in
    let at = subst (λ k. IsMiddle k rows n) (sym f.is.long) point in
    subst (λ m. IsPart table (p ++ false ∷ []) (left - 1) (take n rows) (depth + 1) m default) (sym f.number_is)
    (child_part table p left part depth above default f.is false (take n rows) (rows_of_side table p rows l n fits at false) (fork_sides (rows_kept table) p fork false))

pub facts_high : (table : List Row) (p : List Bool) (left : ℕ) (part : List Row) (depth above default number : ℕ) (rows : List Row) → Facts table p left part depth above default number rows →
    onward (rows_kept table) p ≡ Forked → (n : ℕ) → n ≤ length rows → IsMiddle depth rows n → IsPart table (p ++ true ∷ []) (left - 1) (take (length rows - n) (drop n rows)) (depth + 1) number default
facts_high table p left part depth above default number rows f fork n fits point =
    let l = facts_longer table p left part depth above default number rows f in
    let at = subst (λ k. IsMiddle k rows n) (sym f.is.long) point in
    subst (λ m. IsPart table (p ++ true ∷ []) (left - 1) (take (length rows - n) (drop n rows)) (depth + 1) m default) (sym f.number_is)
    (child_part table p left part depth above default f.is true (take (length rows - n) (drop n rows)) (take_rest rows n ∙ rows_of_side table p rows l n fits at true) (fork_sides (rows_kept table) p fork true))

-- the first and the last row go on through the same side
pub facts_stops : (table : List Row) (p : List Bool) (left : ℕ) (part : List Row) (depth above default number : ℕ) (rows : List Row) → Facts table p left part depth above default number rows → 0 < length rows →
    bit_of (get_or rows 0 zero_row).bits depth ≡ bit_of (get_or rows (length rows - 1) zero_row).bits depth →
    (common : ℕ) → common ≤ 128 → ((len : ℕ) → len ≤ 128 → (first_bits len (get_or rows 0 zero_row).bits ≡ first_bits len (get_or rows (length rows - 1) zero_row).bits) ↔ (len ≤ common)) →
    (stop : ℕ) → stop ≡ min (get_or rows 0 zero_row).len common → Stops table p rows zero_row stop
facts_stops table p left part depth above default number rows f some same common most agree stop e =
    record {
      longer = facts_longer table p left part depth above default number rows f;
      some = some;
      common = common;
      most = most;
      same = agree;
      is = e;
      single = subst (λ n. bit_of (get_or rows 0 zero_row).bits n ≡ bit_of (get_or rows (length rows - 1) zero_row).bits n) (sym f.is.long) same;
    }

pub facts_after : (table : List Row) (p : List Bool) (left : ℕ) (part : List Row) (depth above default number : ℕ) (rows : List Row) → Facts table p left part depth above default number rows →
    (stop : ℕ) → Stops table p rows zero_row stop → depth < stop
facts_after table p left part depth above default number rows f stop s = omega (arith, stop_after table p rows zero_row stop s, f.is.long)

pub facts_way : (table : List Row) (p : List Bool) (left : ℕ) (part : List Row) (depth above default number : ℕ) (rows : List Row) → Facts table p left part depth above default number rows →
    (stop : ℕ) → Stops table p rows zero_row stop → IsPart table (p ++ way_of p rows zero_row stop) (left - 1) rows stop number number
facts_way table p left part depth above default number rows f stop s =
    subst (λ m. IsPart table (p ++ way_of p rows zero_row stop) (left - 1) rows stop m m) (sym f.number_is) (way_part table p left part depth above default f.is rows zero_row stop s)

-- the tree of a part, in each case
pub facts_end_tree : (table : List Row) (p : List Bool) (left : ℕ) (part : List Row) (depth above default number : ℕ) (rows : List Row) → Facts table p left part depth above default number rows → length rows ≡ 0 →
    Return number ≡ tree_at left (rows_kept table) p default
facts_end_tree table p left part depth above default number rows f none =
    ap Return f.number_is ∙ sym (part_end table p left part depth above default f.is rows (facts_longer table p left part depth above default number rows f) none)

pub facts_end_value : (table : List Row) (p : List Bool) (left : ℕ) (part : List Row) (depth above default number : ℕ) (rows : List Row) → Facts table p left part depth above default number rows → length rows ≡ 0 → HasValue coders.Asn number
facts_end_value table p left part depth above default number rows f none =
    subst (HasValue coders.Asn) (sym f.number_is) (end_value table p left part depth above default f.is rows (facts_longer table p left part depth above default number rows f) none)

pub facts_value : (table : List Row) (p : List Bool) (left : ℕ) (part : List Row) (depth above default number : ℕ) (rows : List Row) → Facts table p left part depth above default number rows → (number ≡ default → ⊥) → HasValue coders.Asn number
facts_value table p left part depth above default number rows f other =
    subst (HasValue coders.Asn) (sym f.number_is) (part_value table p left part depth above default f.is (λ same. other (f.number_is ∙ same)))

-- the tree after the way
abbrev pub next_tree : List Row → List Bool → ℕ → ℕ → List Row → ℕ → Tree
next_tree table p left number rows stop = tree_at (left - 1) (rows_kept table) (p ++ way_of p rows zero_row stop) number

pub facts_way_tree : (table : List Row) (p : List Bool) (left : ℕ) (part : List Row) (depth above default number : ℕ) (rows : List Row) → Facts table p left part depth above default number rows →
    (stop : ℕ) → Stops table p rows zero_row stop →
    under_default number default (matches 16 (bits_between (get_or rows 0 zero_row).bits depth stop) (next_tree table p left number rows stop)) ≡ tree_at left (rows_kept table) p default
facts_way_tree table p left part depth above default number rows f stop s =
    ap (λ n. under_default number default (matches 16 (bits_between (get_or rows 0 zero_row).bits n stop) (next_tree table p left number rows stop))) (sym f.is.long)
    ∙ ap (λ m. under_default m default (matches 16 (way_of p rows zero_row stop) (next_tree table p left m rows stop))) f.number_is
    ∙ sym (part_way table p left part depth above default f.is rows zero_row stop s)

-- two bits that were compared
pub differ : (a b : Bool) → not (beq a b) ≡ true → a ≡ b → ⊥
differ true true h e = let off : false ≡ true = h in cc
differ true false h e = let off : true ≡ false = e in cc
differ false true h e = let off : false ≡ true = e in cc
differ false false h e = let off : false ≡ true = h in cc

pub agree : (a b : Bool) → not (beq a b) ≡ false → a ≡ b
agree true true h = refl
agree true false h = let off : true ≡ false = h in cc
agree false true h = let off : true ≡ false = h in cc
agree false false h = refl
