-- Rows with the numbers of their lines.
use Rattle.std.proofs.Common.{◌≡◌, ℕ, ◌+◌, ◌-◌, ◌%◌, ◌^◌, ◌<◌, ◌≤◌, List, [], ◌∷◌, ◌++◌, map, length, get_or, zero, suc, ◌∙◌, ap, sym, subst, arith, inl, inr, refl, All, length-append}
use Rattle.std.specs.Prelude.{AllPairs, Contains}
use Rattle.std.proofs.lemmas.Bool.{cases_order}
use Rattle.std.proofs.lemmas.List.{get_or_append_left}
use Rattle.std.proofs.Math.Seq.{get_or-append_right}
use Rattle.std.proofs.lemmas.List.Elements.{All-nil, All-cons, All-weaker, Contains-append_cases}
use Rattle.prefix_table.specs.Rows.{IsRow}
use Rattle.host_io.specs.Lines.{IsPassedOver}
use Rattle.prefix_table.specs.Text.{IsRowLine, IsRowAddress, AreLines, width, address_bits}
use Rattle.prefix_table.specs.Numbered.{row_in, AreNumbered}
use Rattle.prefix_table.specs.declared.rows.Row.{Row}
use Rattle.prefix_table.specs.declared.line.Family.{Family}
use Rattle.prefix_table.specs.declared.line.Family.TheVariants.{Ipv4, Ipv6}
use Rattle.prefix_table.specs.declared.numbered.NumberedRow.{NumberedRow}

pub Contains-nil : {X : Type 0} (y : X) → Contains [] y → ⊥
Contains-nil y (k, within, is) = omega arith

pub Contains-one : {X : Type 0} (x y : X) → Contains (x ∷ []) y → x ≡ y
Contains-one x y (k, within, is) = let first : k ≡ 0 = omega arith in ap (λ i. get_or (x ∷ []) i y) (sym first) ∙ is

AllPairs-cons : {X : Type 0} (R : X → X → Type 0) (x : X) (xs : List X) → All (R x) xs → AllPairs R xs → AllPairs R (x ∷ xs)
AllPairs-cons R x xs each pairs zero zero d l w = absurd (omega arith)
AllPairs-cons R x xs each pairs zero (suc j) d l w = each j d (omega arith)
AllPairs-cons R x xs each pairs (suc i) zero d l w = absurd (omega arith)
AllPairs-cons R x xs each pairs (suc i) (suc j) d l w = pairs i j d (omega arith) (omega arith)

-- the lines come after the first one's number
numbered_from : (n : ℕ) (lines : List (List ℕ)) (rows : List NumberedRow) → AreNumbered n lines rows → All (λ p. n ≤ p.line) rows
unfolding AreNumbered
numbered_from n [] [] are = All-nil (λ p. n ≤ p.line)
numbered_from n [] (row ∷ rows) are = cc
numbered_from n (line ∷ lines) [] are = All-nil (λ p. n ≤ p.line)
numbered_from n (line ∷ lines) (row ∷ rows) (inl are) = All-weaker (λ p. n + 1 ≤ p.line) (λ p. n ≤ p.line) (λ p h. omega arith) (row ∷ rows) (numbered_from (n + 1) lines (row ∷ rows) are.1)
numbered_from n (line ∷ lines) (row ∷ rows) (inr are) =
    All-cons (λ p. n ≤ p.line) row rows (omega (arith, are.0)) (All-weaker (λ p. n + 1 ≤ p.line) (λ p. n ≤ p.line) (λ p h. omega arith) rows (numbered_from (n + 1) lines rows are.2))

-- the numbers of the lines rise
pub numbered_rise : (n : ℕ) (lines : List (List ℕ)) (rows : List NumberedRow) → AreNumbered n lines rows → AllPairs (λ p q. p.line < q.line) rows
unfolding AreNumbered
numbered_rise n [] [] are = λ i j d l w. absurd (omega arith)
numbered_rise n [] (row ∷ rows) are = cc
numbered_rise n (line ∷ lines) [] are = λ i j d l w. absurd (omega arith)
numbered_rise n (line ∷ lines) (row ∷ rows) (inl are) = numbered_rise (n + 1) lines (row ∷ rows) are.1
numbered_rise n (line ∷ lines) (row ∷ rows) (inr are) =
    AllPairs-cons (λ p q. p.line < q.line) row rows
    (All-weaker (λ p. n + 1 ≤ p.line) (λ p. row.line < p.line) (λ p h. omega (arith, are.0)) rows (numbered_from (n + 1) lines rows are.2))
    (numbered_rise (n + 1) lines rows are.2)

-- the rows without numbers
pub numbered_lines : (n : ℕ) (lines : List (List ℕ)) (rows : List NumberedRow) → AreNumbered n lines rows → AreLines lines (map row_in rows)
unfolding AreNumbered AreLines
numbered_lines n [] [] are = refl
numbered_lines n [] (row ∷ rows) are = cc
numbered_lines n (line ∷ lines) [] are = (are.0, numbered_lines (n + 1) lines [] are.1)
numbered_lines n (line ∷ lines) (row ∷ rows) (inl are) = inl (are.0, numbered_lines (n + 1) lines (row ∷ rows) are.1)
numbered_lines n (line ∷ lines) (row ∷ rows) (inr are) = inr (are.1, numbered_lines (n + 1) lines rows are.2)

address_small : (family : Family) (text : List ℕ) (address : ℕ) → IsRowAddress family text address → address_bits family address < 2 ^ 128
address_small Ipv4 text address is = omega (arith, is.0)
address_small Ipv6 text address is = is.small

len_small : (family : Family) (len : ℕ) → len ≤ width family → 128 - width family + len ≤ 128
len_small Ipv4 len h = omega arith
len_small Ipv6 len h = omega arith

-- the row of a line is a row of a table
pub row_from_line : (line : List ℕ) (row : Row) → IsRowLine line row → IsRow row
row_from_line line row is = subst IsRow (sym is.made) record {
  len = len_small is.entry.family is.entry.len is.in_range.len;
  bits = address_small is.entry.family is.is_entry.address is.entry.address is.is_entry.is_address;
  clear = subst (λ (r : Row). r.bits % 2 ^ (128 - r.len) ≡ 0) is.made is.clear;
  some = is.in_range.some;
  most = is.in_range.most;
}

pub numbered_rows : (n : ℕ) (lines : List (List ℕ)) (rows : List NumberedRow) → AreNumbered n lines rows → All (λ p. IsRow (row_in p)) rows
unfolding AreNumbered
numbered_rows n [] [] are = All-nil (λ p. IsRow (row_in p))
numbered_rows n [] (row ∷ rows) are = cc
numbered_rows n (line ∷ lines) [] are = All-nil (λ p. IsRow (row_in p))
numbered_rows n (line ∷ lines) (row ∷ rows) (inl are) = numbered_rows (n + 1) lines (row ∷ rows) are.1
numbered_rows n (line ∷ lines) (row ∷ rows) (inr are) =
    All-cons (λ p. IsRow (row_in p)) row rows (row_from_line line (row_in row) are.1) (numbered_rows (n + 1) lines rows are.2)

-- the lines and rows before and after a row
pub record IsSplitAt (n : ℕ) (lines : List (List ℕ)) (rows : List NumberedRow) (row : NumberedRow) : Type 0 where
  pub before : List (List ℕ)
  pub line : List ℕ
  pub after : List (List ℕ)
  pub lines_are : lines ≡ before ++ line ∷ after
  pub first : List NumberedRow
  pub later : List NumberedRow
  pub rows_are : rows ≡ first ++ row ∷ later
  pub are_rows : AreNumbered n before first
  pub number : row.line ≡ n + length before
  pub is_row : IsRowLine line (row_in row)

after_passed : (n : ℕ) (passed : List ℕ) (lines : List (List ℕ)) (rows : List NumberedRow) (row : NumberedRow) → IsPassedOver passed → IsSplitAt (n + 1) lines rows row → IsSplitAt n (passed ∷ lines) rows row
unfolding AreNumbered
after_passed n passed lines rows row is split = record {
  before = passed ∷ split.before;
  line = split.line;
  after = split.after;
  lines_are = ap (λ (ls : List (List ℕ)). passed ∷ ls) split.lines_are;
  first = split.first;
  later = split.later;
  rows_are = split.rows_are;
  are_rows = onto split.first split.are_rows;
  number = omega (arith, split.number);
  is_row = split.is_row;
}
  where
    onto : (rs : List NumberedRow) → AreNumbered (n + 1) split.before rs → AreNumbered n (passed ∷ split.before) rs
    onto [] are = (is, are)
    onto (r ∷ rs) are = inl (is, are)

pub split_at : (n : ℕ) (lines : List (List ℕ)) (rows : List NumberedRow) (row : NumberedRow) → AreNumbered n lines rows → Contains rows row → IsSplitAt n lines rows row
unfolding AreNumbered
split_at n [] [] row are has = absurd (Contains-nil row has)
split_at n [] (r ∷ rows) row are has = cc
split_at n (line ∷ lines) [] row are has = absurd (Contains-nil row has)
split_at n (line ∷ lines) (r ∷ rows) row (inl are) has = after_passed n line lines (r ∷ rows) row are.0 (split_at (n + 1) lines (r ∷ rows) row are.1 has)
split_at n (line ∷ lines) (r ∷ rows) row (inr are) has = elim (Contains-append_cases (r ∷ []) rows row has) [
  | inl here ↦
      let e : r ≡ row = Contains-one r row here in
      record {
        before = [];
        line = line;
        after = lines;
        lines_are = refl;
        first = [];
        later = rows;
        rows_are = ap (λ (x : NumberedRow). x ∷ rows) e;
        are_rows = refl;
        number = ap (λ (x : NumberedRow). x.line) (sym e) ∙ are.0 ∙ omega arith;
        is_row = subst (λ (x : NumberedRow). IsRowLine line (row_in x)) e are.1;
      }
  | inr there ↦
      let split = split_at (n + 1) lines rows row are.2 there in
      record {
        before = line ∷ split.before;
        line = split.line;
        after = split.after;
        lines_are = ap (λ (ls : List (List ℕ)). line ∷ ls) split.lines_are;
        first = r ∷ split.first;
        later = split.later;
        rows_are = ap (λ (rs : List NumberedRow). r ∷ rs) split.rows_are;
        are_rows = inr (are.0, are.1, split.are_rows);
        number = omega (arith, split.number);
        is_row = split.is_row;
      }
]

-- a row of an earlier line is among the first
pub among_first : (rows first later : List NumberedRow) (p q : NumberedRow) → AllPairs (λ a b. a.line < b.line) rows → rows ≡ first ++ q ∷ later → Contains rows p → p.line < q.line → Contains first p
among_first rows first later p q rise split (k, within, is) earlier =
    let m = length first in
    let long : length rows ≡ m + (1 + length later) = omega (arith, ap (λ (rs : List NumberedRow). length rs) split, length-append first (q ∷ later)) in
    let at_m : get_or rows m p ≡ q = ap (λ (rs : List NumberedRow). get_or rs m p) split ∙ get_or-append_right first (q ∷ later) m p (omega arith) ∙ ap (λ i. get_or (q ∷ later) i p) (sub_same m) in
    elim (cases_order k m) [
      | inl e ↦ absurd (omega (arith, ap (λ (x : NumberedRow). x.line) (sym is ∙ ap (λ i. get_or rows i p) e ∙ at_m)))
      | inr (inl l) ↦ (k, l, sym (get_or_append_left first (q ∷ later) p k l) ∙ ap (λ (rs : List NumberedRow). get_or rs k p) (sym split) ∙ is)
      | inr (inr g) ↦
          absurd (omega (arith, rise m k p g within, ap (λ (x : NumberedRow). x.line) at_m, ap (λ (x : NumberedRow). x.line) is))
    ]
  where
    sub_same : (n : ℕ) → n - n ≡ 0
    sub_same n = omega arith

-- a row among the first is of an earlier line
pub before_split : (rows first later : List NumberedRow) (p q : NumberedRow) → AllPairs (λ a b. a.line < b.line) rows → rows ≡ first ++ q ∷ later → Contains first p → p.line < q.line
before_split rows first later p q rise split (k, within, is) =
    let m = length first in
    let long : length rows ≡ m + (1 + length later) = omega (arith, ap (λ (rs : List NumberedRow). length rs) split, length-append first (q ∷ later)) in
    let at_m : get_or rows m p ≡ q = ap (λ (rs : List NumberedRow). get_or rs m p) split ∙ get_or-append_right first (q ∷ later) m p (omega arith) ∙ ap (λ i. get_or (q ∷ later) i p) (sub_same m) in
    let at_k : get_or rows k p ≡ p = ap (λ (rs : List NumberedRow). get_or rs k p) split ∙ get_or_append_left first (q ∷ later) p k within ∙ is in
    omega (arith, rise k m p within (omega arith), ap (λ (x : NumberedRow). x.line) at_m, ap (λ (x : NumberedRow). x.line) at_k)
  where
    sub_same : (n : ℕ) → n - n ≡ 0
    sub_same n = omega arith

-- a fact of each two holds of the first ones
pub AllPairs-first : (R : NumberedRow → NumberedRow → Type 0) (first later : List NumberedRow) → AllPairs R (first ++ later) → AllPairs R first
AllPairs-first R first later pairs i j d l w =
    subst (λ (x : NumberedRow). R x (get_or first j d)) (get_or_append_left first later d i (omega arith))
    (subst (λ (x : NumberedRow). R (get_or (first ++ later) i d) x) (get_or_append_left first later d j w) (pairs i j d l (omega (arith, length-append first later))))
