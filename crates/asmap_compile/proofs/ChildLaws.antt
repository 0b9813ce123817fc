-- The parts that a part splits into, and its tree by theirs.
use Rattle.std.proofs.Common.{◌≡◌, ℕ, zero, suc, ◌+◌, ◌-◌, ◌<◌, ◌≤◌, Bool, true, false, not, ◌&&◌, List, [], ◌∷◌, ◌++◌, length, take, drop, filter, cond, get_or, refl, ap, sym, ◌∙◌, subst, arith, append_assoc, length-append, Contains, nat_lt}
use Rattle.std.proofs.lemmas.Bool.{and_parts, and_from, lt-ltb, ltb-true, not-true, not-false, false_from_ne_true}
use Rattle.std.specs.List.Sorted.{IsPartitionPoint}
use Rattle.bit_code.specs.Coder.{HasValue}
use Rattle.bit_code.specs.declared.coder.Coder.TheVariants as coders
use Rattle.bit_code.specs.Prefixes.{begins_with}
use Rattle.asmap_vm.specs.Code.{Return, Jump, code}
use Rattle.prefix_table.specs.declared.rows.Row.{Row}
use Rattle.prefix_table.specs.Rows.{path, number_at}
use Rattle.asmap_compile.specs.Compiled.{rows_kept, is_row, goes_on, Forked, onward, matches, under_default, tree_at}
use Rattle.asmap_compile.specs.Inside.{bit_of, is_low, IsPart}
use Rattle.asmap_compile.proofs.BetweenLaws.{between_long}
use Rattle.bit_code.proofs.PrefixLaws.{begins_start, begins_long, false_true, same_tests}
use Rattle.prefix_table.proofs.Items.{Passes, contains_head, filter_same, filter_item, filter_twice, item_filter}
use Rattle.prefix_table.proofs.PathLaws.{path_long, table_rows}
use Rattle.asmap_compile.proofs.RowLaws.{kept_rows, number_step, number_value}
use Rattle.asmap_compile.proofs.SaneTrees.{number_stays, last, way_off, end_row, value_of, jump_value}
use Rattle.asmap_compile.proofs.StopLaws.{Stops, way_of, stop_way, stop_after, way_unique, way_end, all_reach}
use Rattle.asmap_compile.proofs.Trees.{tree_last, tree_end, way_bits, tree_single, tree_forked, full_end}
use Rattle.asmap_compile.proofs.TurnLaws.{AreLonger, LongRow, item_longer, longer_at, side_goes, side_is, side_long, none_ends, ends_single, single_by, long_side}
use Rattle.asmap_compile.proofs.Ways.{Begun, begun_side, begun_short, IsWay, way_is, fork_sides}
use Rattle.asmap_compile.proofs.Whole.{kept_are}

pub part_begun : (table : List Row) (p : List Bool) (left : ℕ) (part : List Row) (depth above default : ℕ) → IsPart table p left part depth above default → Begun (rows_kept table) p
part_begun table p left [] depth above default is = absurd (omega (arith, is.some))
part_begun table p left (x ∷ xs) depth above default is =
    let at = filter_item (λ row. begins_with (path row) p) (rows_kept table) x (subst (λ ys. Contains ys x) is.rows (contains_head x xs)) in
    record { item = x; there = at.0; passes = at.1 }

filter_some : (test : Row → Bool) (xs : List Row) → Passes test xs → 0 < length (filter test xs)
filter_some test xs p = omega (arith, (item_filter test xs p.item p.there p.passes).1)

-- the rows that go on through one side
pub child_part : (table : List Row) (p : List Bool) (left : ℕ) (part : List Row) (depth above default : ℕ) → IsPart table p left part depth above default →
    (side : Bool) (sub : List Row) → sub ≡ filter (λ row. begins_with (path row) (p ++ side ∷ [])) (rows_kept table) → goes_on (rows_kept table) p side ≡ true →
    IsPart table (p ++ side ∷ []) (left - 1) sub (depth + 1) (number_at (rows_kept table) p) default
child_part table p left part depth above default is side sub e goes =
    let kept = rows_kept table in
    let are = kept_rows table (table_rows table is.is_table) in
    let b = begun_side kept p side goes in
    let short = begun_short kept (p ++ side ∷ []) are b in
    let long = length-append p (side ∷ []) in
    record {
      is_table = is.is_table;
      some = omega (arith, ap length e, filter_some (λ row. begins_with (path row) (p ++ side ∷ [])) kept b);
      rows = e;
      long = omega (arith, long, is.long);
      room = omega (arith, long, is.room, short);
      number = number_step kept p side;
      none = λ zero_after. is.none (number_stays kept are p (side ∷ []) zero_after);
    }

-- the rows of a side of a point: those before it, or those from it on
abbrev pub side_of : Bool → ℕ → List Row → List Row
side_of false n rows = take n rows
side_of true n rows = drop n rows

point_side : (test : Row → Bool) (xs : List Row) (n : ℕ) (side : Bool) → ((k : ℕ) (d : Row) → k < n → k < length xs → test (get_or xs k d) ≡ not side) → ((k : ℕ) (d : Row) → n ≤ k → k < length xs → test (get_or xs k d) ≡ side) → filter test xs ≡ side_of side n xs
point_side test [] zero false low high = refl
point_side test [] zero true low high = refl
point_side test [] (suc n) false low high = refl
point_side test [] (suc n) true low high = refl
point_side test (x ∷ xs) zero false low high =
    ap (λ b. cond b (x ∷ filter test xs) (filter test xs)) (high 0 x (omega arith) (omega arith))
    ∙ point_side test xs zero false (λ k d less fits. absurd (omega arith)) (λ k d more fits. high (suc k) d (omega arith) (omega arith))
point_side test (x ∷ xs) zero true low high =
    ap (λ b. cond b (x ∷ filter test xs) (filter test xs)) (high 0 x (omega arith) (omega arith))
    ∙ ap (λ ys. x ∷ ys) (point_side test xs zero true (λ k d less fits. absurd (omega arith)) (λ k d more fits. high (suc k) d (omega arith) (omega arith)))
point_side test (x ∷ xs) (suc n) false low high =
    ap (λ b. cond b (x ∷ filter test xs) (filter test xs)) (low 0 x (omega arith) (omega arith))
    ∙ ap (λ ys. x ∷ ys) (point_side test xs n false (λ k d less fits. low (suc k) d (omega arith) (omega arith)) (λ k d more fits. high (suc k) d (omega arith) (omega arith)))
point_side test (x ∷ xs) (suc n) true low high =
    ap (λ b. cond b (x ∷ filter test xs) (filter test xs)) (low 0 x (omega arith) (omega arith))
    ∙ point_side test xs n true (λ k d less fits. low (suc k) d (omega arith) (omega arith)) (λ k d more fits. high (suc k) d (omega arith) (omega arith))

-- the rows that go on through a side, among those that are longer
side_rows : (table : List Row) (p : List Bool) (rows : List Row) → AreLonger table p rows → (side : Bool) →
    filter (λ row. begins_with (path row) (p ++ side ∷ [])) rows ≡ filter (λ row. begins_with (path row) (p ++ side ∷ [])) (rows_kept table)
side_rows table p rows l side =
    let test = λ (row : Row). begins_with (path row) (p ++ side ∷ []) in
    let longer = λ (row : Row). begins_with (path row) p && nat_lt (length p) row.len in
    ap (filter test) l.are.are ∙ filter_twice test longer (rows_kept table)
    ∙ filter_same (λ row. longer row && test row) test (rows_kept table)
    (λ row has. same_tests (longer row && test row) (test row) (λ h. (and_parts (longer row) (test row) h).1)
    (λ h. and_from (longer row) (test row) (and_from (begins_with (path row) p) (nat_lt (length p) row.len) (begins_start (path row) p (side ∷ []) h) (lt-ltb (length p) row.len (side_long p side row h))) h))

-- which side a row goes on through
row_side : (table : List Row) (p : List Bool) (row : Row) → LongRow table p row → (side bit : Bool) → bit_of row.bits (length p) ≡ bit → begins_with (path row) (p ++ side ∷ []) ≡ cond bit side (not side)
row_side table p row r true true e = subst (λ b. begins_with (path row) (p ++ b ∷ []) ≡ true) e (long_side table p row r)
row_side table p row r false false e = subst (λ b. begins_with (path row) (p ++ b ∷ []) ≡ true) e (long_side table p row r)
row_side table p row r true false e = false_from_ne_true (begins_with (path row) (p ++ true ∷ [])) (λ h. false_true e (side_is table p row true r h))
row_side table p row r false true e = false_from_ne_true (begins_with (path row) (p ++ false ∷ [])) (λ h. false_true (side_is table p row false r h) e)

pub rows_of_side : (table : List Row) (p : List Bool) (rows : List Row) → AreLonger table p rows → (n : ℕ) → n ≤ length rows →
    IsPartitionPoint (λ row. is_low (length p) row ≡ true) (λ row. is_low (length p) row ≡ false) rows n →
    (side : Bool) → side_of side n rows ≡ filter (λ row. begins_with (path row) (p ++ side ∷ [])) (rows_kept table)
rows_of_side table p rows l n fits point side =
    sym
    (point_side (λ row. begins_with (path row) (p ++ side ∷ [])) rows n side
    (λ k d less low. row_side table p (get_or rows k d) (longer_at table p rows l k d low) side false (not-true (bit_of (get_or rows k d).bits (length p)) (point.0 k d (omega arith) less)))
    (λ k d more low. row_side table p (get_or rows k d) (longer_at table p rows l k d low) side true (not-false (bit_of (get_or rows k d).bits (length p)) (point.1 k d more low))))
    ∙ side_rows table p rows l side

-- the number at the end of a way at which no row ends
way_number : (rows : List Row) (p bits : List Bool) → IsWay rows p bits → is_row rows (p ++ bits) ≡ false → number_at rows (p ++ bits) ≡ number_at rows p
way_number rows p bits way off =
    let l = last bits way.some in
    let e : p ++ bits ≡ (p ++ l.start) ++ l.bit ∷ [] = ap (λ xs. p ++ xs) l.is ∙ sym (append_assoc p l.start (l.bit ∷ [])) in
    let before = way_off rows p bits l.start way (omega (arith, ap length l.is, length-append l.start (l.bit ∷ []))) in
    ap (number_at rows) e ∙ number_step rows (p ++ l.start) l.bit (ap (is_row rows) (sym e) ∙ off) ∙ before

on_longer : (table : List Row) (p : List Bool) (rows : List Row) (d : Row) (stop : ℕ) → Stops table p rows d stop → (row : Row) → Contains (rows_kept table) row → (begins_with (path row) p && nat_lt (length p) row.len) ≡ true → begins_with (path row) (p ++ way_of p rows d stop) ≡ true
on_longer table p rows d stop s row has h =
    let both = and_parts (begins_with (path row) p) (nat_lt (length p) row.len) h in
    subst (λ q. begins_with (path row) q ≡ true) (sym (way_end table p rows d stop s))
    (all_reach table p rows d stop s row (item_longer table p rows s.longer row has both.0 (ltb-true (length p) row.len both.1)))

-- the rows of a single path, at its end
pub way_part : (table : List Row) (p : List Bool) (left : ℕ) (part : List Row) (depth above default : ℕ) → IsPart table p left part depth above default →
    (rows : List Row) (d : Row) (stop : ℕ) → Stops table p rows d stop →
    IsPart table (p ++ way_of p rows d stop) (left - 1) rows stop (number_at (rows_kept table) p) (number_at (rows_kept table) p)
way_part table p left part depth above default is rows d stop s =
    let kept = rows_kept table in
    let bits = way_of p rows d stop in
    let are = kept_rows table (table_rows table is.is_table) in
    let way = stop_way table p rows d stop s in
    let after = stop_after table p rows d stop s in
    let long = length-append p bits in
    let bits_long = between_long (get_or rows 0 d).bits (length p) stop in
    let short = begun_short kept (p ++ bits) are way.begun in
    let longer = λ (row : Row). begins_with (path row) p && nat_lt (length p) row.len in
    record {
      is_table = is.is_table;
      some = s.some;
      rows = s.longer.are.are
          ∙ filter_same longer (λ row. begins_with (path row) (p ++ bits)) kept
          (λ row has. same_tests (longer row) (begins_with (path row) (p ++ bits)) (on_longer table p rows d stop s row has)
          (λ h. and_from (begins_with (path row) p) (nat_lt (length p) row.len) (begins_start (path row) p bits h) (lt-ltb (length p) row.len (omega (arith, begins_long (path row) (p ++ bits) h, path_long row, long, bits_long, after)))));
      long = omega (arith, long, bits_long, after);
      room = omega (arith, long, is.room, way.some, short);
      number = way_number kept p bits way;
      none = number_stays kept are p bits;
    }

-- a part with no longer row is an end
pub part_end : (table : List Row) (p : List Bool) (left : ℕ) (part : List Row) (depth above default : ℕ) → IsPart table p left part depth above default → (rows : List Row) → AreLonger table p rows → length rows ≡ 0 →
    tree_at left (rows_kept table) p default ≡ Return (number_at (rows_kept table) p)
part_end table p zero part depth above default is rows l none = tree_last (rows_kept table) p default
part_end table p (suc left) part depth above default is rows l none =
    let off = none_ends table p rows l none in
    tree_end left (rows_kept table) p default (rw (off false, off true) refl)

pub end_value : (table : List Row) (p : List Bool) (left : ℕ) (part : List Row) (depth above default : ℕ) → IsPart table p left part depth above default → (rows : List Row) → AreLonger table p rows → length rows ≡ 0 →
    HasValue coders.Asn (number_at (rows_kept table) p)
end_value table p left part depth above default is rows l none =
    number_value (rows_kept table) p (kept_rows table (table_rows table is.is_table)) (end_row (rows_kept table) p (part_begun table p left part depth above default is) (none_ends table p rows l none))

-- a part that forks
pub part_fork : (table : List Row) (p : List Bool) (left : ℕ) (part : List Row) (depth above default : ℕ) → IsPart table p left part depth above default → onward (rows_kept table) p ≡ Forked →
    tree_at left (rows_kept table) p default ≡ Jump (tree_at (left - 1) (rows_kept table) (p ++ false ∷ []) default) (tree_at (left - 1) (rows_kept table) (p ++ true ∷ []) default)
part_fork table p zero part depth above default is fork =
    absurd (false_true (full_end (rows_kept table) p (kept_rows table (table_rows table is.is_table)) (omega (arith, is.room)) true) (fork_sides (rows_kept table) p fork true))
part_fork table p (suc left) part depth above default is fork =
    let e : suc left - 1 ≡ left = omega arith in
    tree_forked left (rows_kept table) p default fork ∙ ap (λ n. Jump (tree_at n (rows_kept table) (p ++ false ∷ []) default) (tree_at n (rows_kept table) (p ++ true ∷ []) default)) (sym e)

-- a part that goes on through one side
pub part_way : (table : List Row) (p : List Bool) (left : ℕ) (part : List Row) (depth above default : ℕ) → IsPart table p left part depth above default → (rows : List Row) (d : Row) (stop : ℕ) → Stops table p rows d stop →
    tree_at left (rows_kept table) p default
    ≡ under_default (number_at (rows_kept table) p) default (matches 16 (way_of p rows d stop) (tree_at (left - 1) (rows_kept table) (p ++ way_of p rows d stop) (number_at (rows_kept table) p)))
part_way table p zero part depth above default is rows d stop s =
    let way = stop_way table p rows d stop s in
    absurd (omega (arith, is.room, way.some, length-append p (way_of p rows d stop), begun_short (rows_kept table) (p ++ way_of p rows d stop) (kept_rows table (table_rows table is.is_table)) way.begun))
part_way table p (suc left) part depth above default is rows d stop s =
    let kept = rows_kept table in
    let side = bit_of (get_or rows 0 d).bits (length p) in
    let goes = side_goes table p (get_or rows 0 d) side (longer_at table p rows s.longer 0 d s.some) refl in
    let none = ends_single table p rows s.longer d s.some s.single in
    let way = way_is left kept p side (kept_rows table (table_rows table is.is_table)) goes none is.room in
    let same = way_unique kept p (way_bits left kept p side) (way_of p rows d stop) way (stop_way table p rows d stop s) in
    let e : suc left - 1 ≡ left = omega arith in
    tree_single left kept p default side (single_by table p side goes none)
    ∙ ap (λ w. under_default (number_at kept p) default (matches 16 w (tree_at left kept (p ++ w) (number_at kept p)))) same
    ∙ ap (λ n. under_default (number_at kept p) default (matches 16 (way_of p rows d stop) (tree_at n kept (p ++ way_of p rows d stop) (number_at kept p)))) (sym e)

-- the jump over the left part
pub fork_value : (table : List Row) (p : List Bool) (left : ℕ) (part : List Row) (depth above default : ℕ) → IsPart table p left part depth above default → onward (rows_kept table) p ≡ Forked →
    HasValue coders.Jump (length (code (tree_at (left - 1) (rows_kept table) (p ++ false ∷ []) default)))
fork_value table p left part depth above default is fork =
    let b = begun_side (rows_kept table) p false (fork_sides (rows_kept table) p fork false) in
    let short = begun_short (rows_kept table) (p ++ false ∷ []) (kept_rows table (table_rows table is.is_table)) b in
    jump_value (left - 1) (rows_kept table) (p ++ false ∷ []) default (kept_are table is.is_table) b (omega (arith, is.room, length-append p (false ∷ []), short))

-- the default of a path under another one
pub part_value : (table : List Row) (p : List Bool) (left : ℕ) (part : List Row) (depth above default : ℕ) → IsPart table p left part depth above default → (number_at (rows_kept table) p ≡ default → ⊥) → HasValue coders.Asn (number_at (rows_kept table) p)
part_value table p left part depth above default is other =
    value_of (rows_kept table) (kept_rows table (table_rows table is.is_table)) p default is.none other
