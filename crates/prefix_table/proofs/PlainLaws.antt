-- The rows of a text without the numbers of their lines.
use Rattle.std.proofs.Common.{◌≡◌, ◌⊎◌, ℕ, ◌+◌, ◌<◌, ◌≤◌, false, Option, Some, List, [], ◌∷◌, ◌++◌, map, length, get_or, ◌∙◌, ap, sym, subst, arith, inl, inr, refl, All, length-append}
use Rattle.std.specs.Prelude.{AllPairs, IsPermutation, IfSome}
use Rattle.std.specs.declared.cmp.Ordering.{Ordering}
use Rattle.std.specs.Ordering.{nat_cmp, ordering_then, is_lt}
use Rattle.std.specs.Cmp.{IsTotalOrder}
use Rattle.std.specs.List.Sorted.{IsSortedBy}
use Rattle.std.proofs.lemmas.Cmp.{then_total, on_total, nat_cmp_total}
use Rattle.std.proofs.lemmas.List.{length-map, map-append}
use Rattle.std.proofs.lemmas.List.Elements.{All-map}
use Rattle.std.proofs.lemmas.List.Sorted.{ranks_by, sorted_far, IsPermutation-sym, IsPermutation-trans, All-permutation, length_permutation}
use Rattle.prefix_table.specs.Rows.{IsRow, SamePrefix, Precedes}
use Rattle.host_io.specs.Lines.{IsPassedOver, lines_of}
use Rattle.prefix_table.specs.Text.{IsTableText, IsRowLine, AreLines, HasRowFault, HasNoTable}
use Rattle.prefix_table.specs.Numbered.{IsSettled, row_in, with_line, AreAllRows, StopsAt, Overflows}
use Rattle.prefix_table.specs.declared.rows.Row.{Row}
use Rattle.prefix_table.specs.declared.rows.TheConstants.{MAX_ROWS}
use Rattle.prefix_table.specs.declared.numbered.NumberedRow.{NumberedRow}
use Rattle.prefix_table.specs.declared.fault.TableFault.{TableFault}
use Rattle.prefix_table.proofs.NumberedLaws.{numbered_lines, numbered_rows}
use Rattle.prefix_table.proofs.OneReading.{AreApart, lines_one, fault_clash, full_clash, table_apart}
use Rattle.prefix_table.proofs.OrderedLaws.{then_not_lt}
use Rattle.prefix_table.proofs.ReadLaws.{has_fault}
use Rattle.prefix_table.proofs.RowsLaws.{SoFar, so_far_none, so_far_passed, so_far_row, overflows, stops_at, whole}

pub if_some : {A : Type 0} (P : A → Type 0) (o : Option A) (a : A) → o ≡ Some a → IfSome o P → P a
if_some P o a e h = subst (λ p. IfSome p P) e h

-- how the program compares two rows
abbrev pub plain_cmp : Row → Row → Ordering
plain_cmp a b = ordering_then (nat_cmp a.bits b.bits) (ordering_then (nat_cmp a.len b.len) (nat_cmp a.asn b.asn))

plain_total : IsTotalOrder plain_cmp
plain_total = then_total (on_total (λ r. r.bits) nat_cmp_total) (then_total (on_total (λ r. r.len) nat_cmp_total) (on_total (λ r. r.asn) nat_cmp_total))

up_to : (a b : Row) → is_lt (plain_cmp b a) ≡ false → Precedes a b ⊎ SamePrefix a b
up_to a b h = elim (then_not_lt b.bits a.bits _ h) [
  | inl l ↦ inl (inl l)
  | inr (e, k) ↦ elim (then_not_lt b.len a.len _ k) [ inl l ↦ inl (inr (e, l)) | inr (f, m) ↦ inr (e, f) ]
]

-- rows in order with distinct prefixes rise
rise_apart : (rows : List Row) → IsSortedBy (λ a b. is_lt (plain_cmp a b)) rows → AreApart rows → AllPairs Precedes rows
rise_apart rows up apart i j d l w = elim (up_to (get_or rows i d) (get_or rows j d) (sorted_far (λ a b. is_lt (plain_cmp a b)) (ranks_by plain_total (λ r. r)) rows up i j d (omega arith) w)) [
  | inl before ↦ before
  | inr same ↦ absurd (apart i j d l w same)
]

-- the rows of a text are its table once they rise
pub plain_table : (text : List ℕ) (rows sorted : List Row) → AreAllRows text rows → IsPermutation rows sorted → AllPairs Precedes sorted → IsTableText text sorted
plain_table text rows sorted (numbered, same, w) moved rising = record {
  table = record {
    each = All-permutation IsRow rows sorted moved (subst (All IsRow) (sym same) (All-map IsRow row_in numbered (numbered_rows 1 (lines_of text) numbered w.lines)));
    rising = rising;
    few = omega (arith, w.few, length-map numbered row_in, ap (λ (rs : List Row). length rs) same, length_permutation rows sorted moved);
  };
  said = rows;
  lines = subst (AreLines (lines_of text)) (sym same) (numbered_lines 1 (lines_of text) numbered w.lines);
  order = moved;
}

-- rows in order that do not rise are those of no table
pub plain_none : (text : List ℕ) (rows sorted : List Row) → AreAllRows text rows → IsPermutation rows sorted → IsSortedBy (λ a b. is_lt (plain_cmp a b)) sorted → (AllPairs Precedes sorted → ⊥) → HasNoTable text
plain_none text rows sorted (numbered, same, w) moved up falls others t =
    let said : rows ≡ t.said = lines_one (lines_of text) rows t.said w.settled (subst (AreLines (lines_of text)) (sym same) (numbered_lines 1 (lines_of text) numbered w.lines)) t.lines in
    let order : IsPermutation sorted others = IsPermutation-trans sorted rows others (IsPermutation-sym rows sorted moved) (subst (λ (rs : List Row). IsPermutation rs others) (sym said) t.order) in
    falls (rise_apart sorted up (table_apart others sorted t.table order))

-- a line with a fault of its own is in no text of a table
stop_none : (text : List ℕ) (rows : List NumberedRow) (fault : TableFault) → StopsAt text rows fault → HasNoTable text
stop_none text rows fault s others t =
    fault_clash s.before s.line s.after (map row_in rows) t.said (length s.before + 1) fault s.settled (numbered_lines 1 s.before rows s.are_rows)
    (has_fault (map row_in rows) s.line (length s.before + 1) fault s.has) (subst (λ (ls : List (List ℕ)). AreLines ls t.said) s.lines t.lines)
    (table_apart others t.said t.table t.order) (omega (arith, t.table.few, length_permutation t.said others t.order))

-- nor is a row more than a table has
overflow_none : (text : List ℕ) (rows : List NumberedRow) → Overflows text rows → HasNoTable text
overflow_none text rows o others t =
    full_clash o.before o.line o.after (map row_in o.first) t.said (row_in o.last) o.settled (numbered_lines 1 o.before o.first o.are_rows) o.is_row (length-map o.first row_in ∙ o.full)
    (subst (λ (ls : List (List ℕ)). AreLines ls t.said) o.lines t.lines) (omega (arith, t.table.few, length_permutation t.said others t.order))

-- the lines of the text up to the rest are those of the rows
pub record PlainSoFar (text rest : List ℕ) (rows : List Row) (line : ℕ) : Type 0 where
  pub numbered : List NumberedRow
  pub same : rows ≡ map row_in numbered
  pub so_far : SoFar text rest numbered line

pub plain_so_far_none : (text : List ℕ) → PlainSoFar text text [] 0
plain_so_far_none text = record { numbered = []; same = refl; so_far = so_far_none text }

pub plain_passed : (text rest after first : List ℕ) (rows : List Row) (line : ℕ) → PlainSoFar text rest rows line → lines_of rest ≡ first ∷ lines_of after → length after < length rest → IsSettled first → IsPassedOver first → PlainSoFar text after rows (line + 1)
plain_passed text rest after first rows line p cut fewer settled passed = record {
  numbered = p.numbered;
  same = p.same;
  so_far = so_far_passed text rest after first p.numbered line p.so_far cut fewer settled passed;
}

as_long : (rows : List Row) (numbered : List NumberedRow) → rows ≡ map row_in numbered → length rows ≡ length numbered
as_long rows numbered same = ap (λ (rs : List Row). length rs) same ∙ length-map numbered row_in

pub plain_row : (text rest after first : List ℕ) (rows : List Row) (line : ℕ) (row : Row) → PlainSoFar text rest rows line → lines_of rest ≡ first ∷ lines_of after → length after < length rest → IsSettled first → IsRowLine first row → length rows + 1 ≤ MAX_ROWS → PlainSoFar text after (rows ++ row ∷ []) (line + 1)
plain_row text rest after first rows line row p cut fewer settled is room = record {
  numbered = p.numbered ++ with_line row (line + 1) ∷ [];
  same = ap (λ (rs : List Row). rs ++ row ∷ []) p.same ∙ sym (map-append row_in p.numbered (with_line row (line + 1) ∷ []));
  so_far = so_far_row text rest after first p.numbered line row p.so_far cut fewer settled is (omega (arith, room, as_long rows p.numbered p.same));
}

pub plain_full : (text rest after first : List ℕ) (rows : List Row) (line : ℕ) (row : Row) → PlainSoFar text rest rows line → lines_of rest ≡ first ∷ lines_of after → IsSettled first → IsRowLine first row → MAX_ROWS < length rows + 1 → HasNoTable text
plain_full text rest after first rows line row p cut settled is full =
    let last = with_line row (line + 1) in
    overflow_none text (p.numbered ++ last ∷ []) (overflows text rest after first p.numbered line row p.so_far cut settled is (omega (arith, full, as_long rows p.numbered p.same, length-append p.numbered (last ∷ []))))

pub plain_stops : (text rest after first : List ℕ) (rows : List Row) (line : ℕ) (fault : TableFault) → PlainSoFar text rest rows line → lines_of rest ≡ first ∷ lines_of after → IsSettled first → HasRowFault [] first (line + 1) fault → HasNoTable text
plain_stops text rest after first rows line fault p cut settled has =
    stop_none text p.numbered fault (stops_at text rest after first p.numbered line fault p.so_far cut settled has)

pub plain_whole : (text : List ℕ) (rows : List Row) (line : ℕ) (rest : List ℕ) → PlainSoFar text rest rows line → rest ≡ [] → AreAllRows text rows
plain_whole text rows line rest p none = (p.numbered, p.same, whole text p.numbered line rest p.so_far none)
