-- What the reading of the lines and the first repeat make of a text.
use Rattle.std.proofs.Common.{◌≡◌, ℕ, ◌+◌, ◌<◌, ◌≤◌, List, [], ◌∷◌, ◌++◌, map, length, get_or, Option, Some, None, ◌∙◌, ap, sym, subst, arith, inl, inr, refl, append_assoc, append-nil, length-append}
use Rattle.std.specs.Prelude.{All, AllPairs, Contains, IsPermutation}
use Rattle.std.specs.Ordering.{is_lt}
use Rattle.std.specs.List.Sorted.{IsSortedBy}
use Rattle.std.proofs.lemmas.List.{get_or-map, length-map}
use Rattle.std.proofs.lemmas.List.Elements.{All-map, Contains-get_or, Contains-append_left, Contains-append_right}
use Rattle.std.proofs.lemmas.List.Sorted.{IsPermutation-map, length_permutation, Contains-permutation, All-permutation}
use Rattle.prefix_table.specs.Rows.{IsRow, SamePrefix, Precedes}
use Rattle.host_io.specs.Lines.{lines_of}
use Rattle.prefix_table.specs.Text.{IsTableText, IsFault, HasRowFault}
use Rattle.prefix_table.specs.Numbered.{IsSettled, row_in, AreNumbered, NotAfter, IsRepeatAt, IsWhole, StopsAt, Overflows, IsReadingOf}
use Rattle.prefix_table.specs.declared.rows.Row.{Row}
use Rattle.prefix_table.specs.declared.rows.TheConstants.{MAX_ROWS}
use Rattle.prefix_table.specs.declared.numbered.NumberedRow.{NumberedRow}
use Rattle.prefix_table.specs.declared.fault.TableFault.{TableFault}
use Rattle.prefix_table.specs.declared.fault.TableFault.TheVariants.{Form, Number, HostBits, Repeated, TooMany, TooLarge, Memory}
use Rattle.prefix_table.proofs.RowsLaws.{numbered_row}
use Rattle.prefix_table.proofs.OneReading.{first_settled}
use Rattle.prefix_table.proofs.NumberedLaws.{numbered_rise, numbered_lines, numbered_rows, split_at, among_first, before_split, AllPairs-first}
use Rattle.prefix_table.proofs.OrderedLaws.{row_cmp, ordered, IsRepeat, repeat_in, repeat_of, repeat_by}

-- no two rows have one prefix
abbrev pub NoRepeat : List NumberedRow → Type 0
NoRepeat rows = (p q : NumberedRow) → Contains rows p → Contains rows q → SamePrefix (row_in p) (row_in q) → p.line < q.line → ⊥

-- no line below n repeats a prefix
abbrev pub NoneBelow : List NumberedRow → ℕ → Type 0
NoneBelow rows n = (p q : NumberedRow) → Contains rows p → Contains rows q → SamePrefix (row_in p) (row_in q) → p.line < q.line → n ≤ q.line

pub apart_map : (rows : List NumberedRow) → AllPairs (λ a b. a.line < b.line) rows → NoRepeat rows → AllPairs (λ (a : Row) (b : Row). SamePrefix a b → ⊥) (map row_in rows)
apart_map rows rise none i j d l w same =
    let long : length (map row_in rows) ≡ length rows = length-map rows row_in in
    let in_i : i < length rows = omega arith in
    let in_j : j < length rows = omega arith in
    let blank : NumberedRow = record { bits = 0; len = 0; line = 0; asn = 0 } in
    none (get_or rows i blank) (get_or rows j blank) (Contains-get_or rows i blank in_i) (Contains-get_or rows j blank in_j) (subst (λ (r : Row). SamePrefix (row_in (get_or rows i blank)) r) (get_or-map row_in rows j blank d in_j) (subst (λ (r : Row). SamePrefix r (get_or (map row_in rows) j d)) (get_or-map row_in rows i blank d in_i) same)) (rise i j blank l in_j)

contains_map : (rows : List NumberedRow) (p : NumberedRow) → Contains rows p → Contains (map row_in rows) (row_in p)
contains_map rows p (k, within, is) = (k, omega (arith, length-map rows row_in), get_or-map row_in rows k p (row_in p) within ∙ ap row_in is)

from_map : (rows : List NumberedRow) (r : Row) → Contains (map row_in rows) r → (p : NumberedRow) × Contains rows p × (row_in p ≡ r)
from_map rows r (k, within, is) =
    let in_k : k < length rows = omega (arith, length-map rows row_in) in
    let blank : NumberedRow = record { bits = 0; len = 0; line = 0; asn = 0 } in
    (get_or rows k blank, Contains-get_or rows k blank in_k, sym (get_or-map row_in rows k blank r in_k) ∙ is)

-- what no repeat after the sort says of the text
pub no_repeat : (rows sorted : List NumberedRow) → IsPermutation rows sorted → AllPairs NotAfter sorted → ((k m : ℕ) → IsRepeatAt sorted k m → ⊥) → NoRepeat rows
no_repeat rows sorted moved order none p q in_p in_q same l =
    let found = repeat_of sorted p q order (Contains-permutation rows sorted p moved in_p) (Contains-permutation rows sorted q moved in_q) same l in
    none found.0 found.1 found.2

-- what the least repeat after the sort says of the text
pub none_below : (rows sorted : List NumberedRow) (n : ℕ) → IsPermutation rows sorted → AllPairs NotAfter sorted → ((k m : ℕ) → IsRepeatAt sorted k m → n ≤ m) → NoneBelow rows n
none_below rows sorted n moved order least p q in_p in_q same l =
    let found = repeat_of sorted p q order (Contains-permutation rows sorted p moved in_p) (Contains-permutation rows sorted q moved in_q) same l in
    omega (arith, least found.0 found.1 found.2, found.3)

-- rows in order without repeats rise
rising_map : (sorted : List NumberedRow) → AllPairs NotAfter sorted → ((k m : ℕ) → IsRepeatAt sorted k m → ⊥) → AllPairs Precedes (map row_in sorted)
rising_map sorted order none i j d l w =
    let blank : NumberedRow = record { bits = 0; len = 0; line = 0; asn = 0 } in
    let in_j : j < length sorted = omega (arith, length-map sorted row_in) in
    let a = get_or sorted i blank in
    let b = get_or sorted j blank in
    let rises : Precedes (row_in a) (row_in b) = elim (order i j blank l in_j) [
      | inl before ↦ before
      | inr same ↦ (let found = repeat_by sorted i j blank order l in_j same.0 in absurd (none i found.0 found.1))
    ] in
    subst (λ (r : Row). Precedes r (get_or (map row_in sorted) j d)) (sym (get_or-map row_in sorted i blank d (omega arith))) (subst (λ (r : Row). Precedes (row_in a) r) (sym (get_or-map row_in sorted j blank d in_j)) rises)

-- the lines of some rows, and the others
pub record IsRead (text : List ℕ) (rows : List NumberedRow) : Type 0 where
  pub lines : List (List ℕ)
  pub more : List (List ℕ)
  pub lines_are : lines_of text ≡ lines ++ more
  pub are_rows : AreNumbered 1 lines rows
  pub settled : All IsSettled lines
  pub few : length rows ≤ MAX_ROWS + 1

whole_read : (text : List ℕ) (rows : List NumberedRow) → IsWhole text rows → IsRead text rows
whole_read text rows w = record { lines = lines_of text; more = []; lines_are = sym (append-nil (lines_of text)); are_rows = w.lines; settled = w.settled; few = omega (arith, w.few) }

stop_read : (text : List ℕ) (rows : List NumberedRow) (fault : TableFault) → StopsAt text rows fault → IsRead text rows
stop_read text rows fault s = record { lines = s.before; more = s.line ∷ s.after; lines_are = s.lines; are_rows = s.are_rows; settled = first_settled s.before (s.line ∷ []) s.settled; few = omega (arith, s.few) }

overflow_read : (text : List ℕ) (rows : List NumberedRow) → Overflows text rows → IsRead text rows
overflow_read text rows o = record {
  lines = o.before ++ o.line ∷ [];
  more = o.after;
  lines_are = o.lines ∙ sym (append_assoc o.before (o.line ∷ []) o.after);
  are_rows = subst (AreNumbered 1 (o.before ++ o.line ∷ [])) (sym o.split) (numbered_row 1 o.before o.first o.line o.last o.are_rows (omega (arith, o.number)) o.is_row);
  settled = o.settled;
  few = omega (arith, o.full, ap (λ (rs : List NumberedRow). length rs) o.split, length-append o.first (o.last ∷ []));
}

pub is_read : (text : List ℕ) (rows : List NumberedRow) (fault : Option TableFault) → IsReadingOf text rows fault → IsRead text rows
is_read text rows None w = whole_read text rows w
is_read text rows (Some (Form n)) s = stop_read text rows (Form n) s
is_read text rows (Some (Number n)) s = stop_read text rows (Number n) s
is_read text rows (Some (HostBits n)) s = stop_read text rows (HostBits n) s
is_read text rows (Some (Repeated n)) s = stop_read text rows (Repeated n) s
is_read text rows (Some TooMany) o = overflow_read text rows o
is_read text rows (Some (TooLarge n)) s = stop_read text rows (TooLarge n) s
is_read text rows (Some Memory) s = stop_read text rows Memory s

-- a fault of lines that are read in one way
pub record IsOwnFault (text : List ℕ) (fault : TableFault) : Type 0 where
  pub own : IsFault text fault
  pub settled : All IsSettled (own.before ++ own.line ∷ [])

-- a table of lines that are read in one way
pub record IsOwnTable (text : List ℕ) (rows : List Row) : Type 0 where
  pub own : IsTableText text rows
  pub settled : All IsSettled (lines_of text)

-- the first repeat is the fault
pub repeated_is : (text : List ℕ) (rows : List NumberedRow) (n : ℕ) → IsRead text rows → IsRepeat rows n → NoneBelow rows n → IsOwnFault text (Repeated n)
repeated_is text rows n read is least =
    let rise = numbered_rise 1 read.lines rows read.are_rows in
    let split = split_at 1 read.lines rows is.later read.are_rows is.is_later in
    let first = split.first in
    let rise_first = AllPairs-first (λ a b. a.line < b.line) first (is.later ∷ split.later) (subst (AllPairs (λ a b. a.line < b.line)) split.rows_are rise) in
    let in_rows = λ (p : NumberedRow) (h : Contains first p). subst (λ (rs : List NumberedRow). Contains rs p) (sym split.rows_are) (Contains-append_left first (is.later ∷ split.later) p h) in
    record {
      own = record {
        before = split.before;
        line = split.line;
        after = split.after ++ read.more;
        lines = read.lines_are ∙ ap (λ (ls : List (List ℕ)). ls ++ read.more) split.lines_are ∙ append_assoc split.before (split.line ∷ split.after) read.more;
        rows = map row_in first;
        are_rows = record {
          said = numbered_lines 1 split.before first split.are_rows;
          apart = apart_map first rise_first (λ p q in_p in_q same l.
              let bound = least p q (in_rows p in_p) (in_rows q in_q) same l in
              omega (arith, bound, is.line, before_split rows first split.later q is.later rise split.rows_are in_q));
          few = omega (arith, length-map first row_in, read.few, ap (λ (rs : List NumberedRow). length rs) split.rows_are, length-append first (is.later ∷ split.later));
        };
        has_fault = (
          omega (arith, is.line, split.number),
          record {
            row = row_in is.later;
            is_row = split.is_row;
            earlier = row_in is.earlier;
            is_earlier = contains_map first is.earlier (among_first rows first split.later is.earlier is.later rise split.rows_are is.is_earlier is.before);
            same = (sym is.same.0, sym is.same.1);
          },
        );
      };
      settled = first_settled (split.before ++ split.line ∷ []) split.after (subst (All IsSettled) (split.lines_are ∙ sym (append_assoc split.before (split.line ∷ []) split.after)) read.settled);
    }

pub has_fault : (before : List Row) (line : List ℕ) (n : ℕ) (fault : TableFault) → HasRowFault [] line n fault → HasRowFault before line n fault
has_fault before line n (Form at) h = h
has_fault before line n (Number at) h = h
has_fault before line n (HostBits at) h = h
has_fault before line n (Repeated at) h = absurd (omega (arith, h.1.is_earlier.1))
has_fault before line n TooMany h = absurd (omega (arith, h.full))
has_fault before line n (TooLarge size) h = absurd h
has_fault before line n Memory h = absurd h

-- a line's own fault is the fault if nothing repeats
pub stop_is : (text : List ℕ) (rows : List NumberedRow) (fault : TableFault) → StopsAt text rows fault → NoRepeat rows → IsOwnFault text fault
stop_is text rows fault s none = record {
  own = record {
    before = s.before;
    line = s.line;
    after = s.after;
    lines = s.lines;
    rows = map row_in rows;
    are_rows = record {
      said = numbered_lines 1 s.before rows s.are_rows;
      apart = apart_map rows (numbered_rise 1 s.before rows s.are_rows) none;
      few = omega (arith, length-map rows row_in, s.few);
    };
    has_fault = has_fault (map row_in rows) s.line (length s.before + 1) fault s.has;
  };
  settled = s.settled;
}

-- one row too many is the fault if nothing repeats
pub overflow_is : (text : List ℕ) (rows : List NumberedRow) → Overflows text rows → NoRepeat rows → IsOwnFault text TooMany
overflow_is text rows o none =
    let read = overflow_read text rows o in
    let rise = numbered_rise 1 read.lines rows read.are_rows in
    let in_rows = λ (p : NumberedRow) (h : Contains o.first p). subst (λ (rs : List NumberedRow). Contains rs p) (sym o.split) (Contains-append_left o.first (o.last ∷ []) p h) in
    let last_in : Contains rows o.last = subst (λ (rs : List NumberedRow). Contains rs o.last) (sym o.split) (Contains-append_right o.first (o.last ∷ []) o.last (0, omega arith, refl)) in
    record {
      own = record {
        before = o.before;
        line = o.line;
        after = o.after;
        lines = o.lines;
        rows = map row_in o.first;
        are_rows = record {
          said = numbered_lines 1 o.before o.first o.are_rows;
          apart = apart_map o.first (numbered_rise 1 o.before o.first o.are_rows) (λ p q in_p in_q same l. none p q (in_rows p in_p) (in_rows q in_q) same l);
          few = omega (arith, length-map o.first row_in, o.full);
        };
        has_fault = record {
          row = row_in o.last;
          is_row = o.is_row;
          new = λ earlier has same.
              let p = from_map o.first earlier has in
              let back = subst (λ (r : Row). SamePrefix (row_in o.last) r) (sym p.2) same in
              none p.0 o.last (in_rows p.0 p.1) last_in (sym back.0, sym back.1) (before_split rows o.first [] p.0 o.last rise o.split p.1);
          full = length-map o.first row_in ∙ o.full;
        };
      };
      settled = o.settled;
    }

-- rows without repeats make a table once they are sorted
pub table_is : (text : List ℕ) (rows sorted : List NumberedRow) → IsWhole text rows → ((k m : ℕ) → IsRepeatAt sorted k m → ⊥) → IsPermutation rows sorted → AllPairs NotAfter sorted → IsOwnTable text (map row_in sorted)
table_is text rows sorted w none moved order = record {
  own = record {
    table = record {
      each = All-map IsRow row_in sorted (All-permutation (λ p. IsRow (row_in p)) rows sorted moved (numbered_rows 1 (lines_of text) rows w.lines));
      rising = rising_map sorted order none;
      few = omega (arith, w.few, length-map sorted row_in, length_permutation rows sorted moved);
    };
    said = map row_in rows;
    lines = numbered_lines 1 (lines_of text) rows w.lines;
    order = IsPermutation-map row_in rows sorted moved;
  };
  settled = w.settled;
}

-- what the program has after it sorted the rows
pub record IsSort (text : List ℕ) (rows sorted : List NumberedRow) (fault : Option TableFault) : Type 0 where
  pub reading : IsReadingOf text rows fault
  pub moved : IsPermutation rows sorted
  pub order : IsSortedBy (λ a b. is_lt (row_cmp a b)) sorted

pub fault_by_repeat : (text : List ℕ) (rows sorted : List NumberedRow) (fault : Option TableFault) (n : ℕ) → IsSort text rows sorted fault → ((k : ℕ) × IsRepeatAt sorted k n) → ((k m : ℕ) → IsRepeatAt sorted k m → n ≤ m) → IsOwnFault text (Repeated n)
fault_by_repeat text rows sorted fault n s (k, at) least =
    let read = is_read text rows fault s.reading in
    let order = ordered sorted s.order in
    repeated_is text rows n read (repeat_in rows sorted k n (numbered_rise 1 read.lines rows read.are_rows) s.moved order at) (none_below rows sorted n s.moved order least)

pub fault_by_line : (text : List ℕ) (rows sorted : List NumberedRow) (fault : TableFault) → IsSort text rows sorted (Some fault) → ((k m : ℕ) → IsRepeatAt sorted k m → ⊥) → IsOwnFault text fault
fault_by_line text rows sorted (Form n) s none = stop_is text rows (Form n) s.reading (no_repeat rows sorted s.moved (ordered sorted s.order) none)
fault_by_line text rows sorted (Number n) s none = stop_is text rows (Number n) s.reading (no_repeat rows sorted s.moved (ordered sorted s.order) none)
fault_by_line text rows sorted (HostBits n) s none = stop_is text rows (HostBits n) s.reading (no_repeat rows sorted s.moved (ordered sorted s.order) none)
fault_by_line text rows sorted (Repeated n) s none = stop_is text rows (Repeated n) s.reading (no_repeat rows sorted s.moved (ordered sorted s.order) none)
fault_by_line text rows sorted TooMany s none = overflow_is text rows s.reading (no_repeat rows sorted s.moved (ordered sorted s.order) none)
fault_by_line text rows sorted (TooLarge n) s none = stop_is text rows (TooLarge n) s.reading (no_repeat rows sorted s.moved (ordered sorted s.order) none)
fault_by_line text rows sorted Memory s none = stop_is text rows Memory s.reading (no_repeat rows sorted s.moved (ordered sorted s.order) none)

pub table_by_sort : (text : List ℕ) (rows sorted : List NumberedRow) → IsSort text rows sorted None → ((k m : ℕ) → IsRepeatAt sorted k m → ⊥) → IsOwnTable text (map row_in sorted)
table_by_sort text rows sorted s none = table_is text rows sorted s.reading none s.moved (ordered sorted s.order)

-- a line's own fault ends the reading
pub reading_stops : (text : List ℕ) (rows : List NumberedRow) (fault : TableFault) → StopsAt text rows fault → IsReadingOf text rows (Some fault)
reading_stops text rows (Form n) s = s
reading_stops text rows (Number n) s = s
reading_stops text rows (HostBits n) s = s
reading_stops text rows (Repeated n) s = s
reading_stops text rows TooMany s = absurd (omega (arith, s.has.full))
reading_stops text rows (TooLarge n) s = s
reading_stops text rows Memory s = s
