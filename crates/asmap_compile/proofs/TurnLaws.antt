-- How the rows that are longer than a path extend it, by the bits of the first and the last of
-- them.
use Rattle.std.proofs.Common.{◌≡◌, ℕ, ◌-◌, ◌<◌, ◌≤◌, Bool, true, false, not, ◌&&◌, List, [], ◌∷◌, ◌++◌, length, get_or, inl, inr, refl, ap, sym, ◌∙◌, subst, arith, length-append, Contains, AllPairs, nat_lt}
use Rattle.std.proofs.lemmas.Bool.{cases_eq, and_parts, and_from, ltb-true, lt-ltb, false_from_ne_true, not-true, not_from_false}
use Rattle.std.proofs.lemmas.List.{get_or_default}
use Rattle.std.proofs.lemmas.List.Elements.{Contains-get_or}
use Rattle.std.specs.List.Sorted.{IsPartitionedBy}
use Rattle.bit_code.specs.Prefixes.{begins_with}
use Rattle.prefix_table.specs.declared.rows.Row.{Row}
use Rattle.prefix_table.specs.Rows.{path, IsRow, IsTable, Precedes}
use Rattle.asmap_compile.specs.Compiled.{rows_kept, stays, goes_on, Single, Forked, onward}
use Rattle.asmap_compile.specs.Inside.{bit_of, is_low, IsLonger}
use Rattle.bit_code.proofs.PrefixLaws.{begins_start, begins_long, sides_same, false_true}
use Rattle.prefix_table.proofs.Items.{filter_item, item_filter}
use Rattle.prefix_table.proofs.Rising.{pairs_filter}
use Rattle.asmap_compile.proofs.OrderLaws.{bits_rise, begun_start, next_bit, bit_rises, first_same}
use Rattle.asmap_compile.proofs.PartLaws.{kept_is_row}
use Rattle.prefix_table.proofs.PathLaws.{path_long}
use Rattle.asmap_compile.proofs.Ways.{side_from, begun_side}

-- rows that are longer than a path, of a table
pub record AreLonger (table : List Row) (p : List Bool) (rows : List Row) : Type 0 where
  pub is_table : IsTable table
  pub are : IsLonger table p rows

abbrev is_longer : List Bool → Row → Bool
is_longer p row = begins_with (path row) p && nat_lt (length p) row.len

-- such a row
pub record LongRow (table : List Row) (p : List Bool) (row : Row) : Type 0 where
  pub there : Contains (rows_kept table) row
  pub is : IsRow row
  pub begins : begins_with (path row) p ≡ true
  pub long : length p < row.len

pub longer_item : (table : List Row) (p : List Bool) (rows : List Row) → AreLonger table p rows → (row : Row) → Contains rows row → LongRow table p row
longer_item table p rows l row has =
    let f = filter_item (is_longer p) (rows_kept table) row (subst (λ xs. Contains xs row) l.are.are has) in
    let both = and_parts (begins_with (path row) p) (nat_lt (length p) row.len) f.1 in
    record { there = f.0; is = kept_is_row table l.is_table row f.0; begins = both.0; long = ltb-true (length p) row.len both.1 }

pub item_longer : (table : List Row) (p : List Bool) (rows : List Row) → AreLonger table p rows → (row : Row) → Contains (rows_kept table) row → begins_with (path row) p ≡ true → length p < row.len → Contains rows row
item_longer table p rows l row has begins long =
    subst (λ xs. Contains xs row) (sym l.are.are) (item_filter (is_longer p) (rows_kept table) row has (and_from (begins_with (path row) p) (nat_lt (length p) row.len) begins (lt-ltb (length p) row.len long)))

pub longer_rises : (table : List Row) (p : List Bool) (rows : List Row) → AreLonger table p rows → AllPairs Precedes rows
longer_rises table p rows l = subst (AllPairs Precedes) (sym l.are.are) (pairs_filter (is_longer p) (rows_kept table) (pairs_filter (stays table) table l.is_table.rising))

-- it goes on by its next bit
pub long_side : (table : List Row) (p : List Bool) (row : Row) → LongRow table p row → begins_with (path row) (p ++ bit_of row.bits (length p) ∷ []) ≡ true
long_side table p row r = next_bit row p r.is.len r.begins r.long

pub side_is : (table : List Row) (p : List Bool) (row : Row) (side : Bool) → LongRow table p row → begins_with (path row) (p ++ side ∷ []) ≡ true → bit_of row.bits (length p) ≡ side
side_is table p row side r h = sides_same (path row) p (bit_of row.bits (length p)) side (long_side table p row r) h

pub side_long : (p : List Bool) (side : Bool) (row : Row) → begins_with (path row) (p ++ side ∷ []) ≡ true → length p < row.len
side_long p side row h = omega (arith, begins_long (path row) (p ++ side ∷ []) h, length-append p (side ∷ []), path_long row)

-- rows with the same first bits, of which one is no greater
pub bit_up : (table : List Row) (p : List Bool) (a b : Row) → LongRow table p a → LongRow table p b → a.bits ≤ b.bits → bit_of a.bits (length p) ≡ true → bit_of b.bits (length p) ≡ true
bit_up table p a b r s le h =
    let same = sym (begun_start a p r.is.len r.begins) ∙ begun_start b p s.is.len s.begins in
    let low : length p < 128 = omega (arith, r.long, r.is.len) in
    bit_rises (length p) a.bits b.bits low (first_same (length p) a.bits b.bits (omega arith) r.is.bits s.is.bits same) le h

pub rows_le : (rows : List Row) → AllPairs Precedes rows → (i j : ℕ) (d : Row) → i ≤ j → j < length rows → (get_or rows i d).bits ≤ (get_or rows j d).bits
rows_le rows h i j d le low =
    elim (cases_eq i j) [
      | inl same ↦ omega (arith, ap (λ k. (get_or rows k d).bits) same)
      | inr other ↦ bits_rise (get_or rows i d) (get_or rows j d) (h i j d (omega arith) low)
    ]

-- a row lies between the first and the last
pub record Between (rows : List Row) (d row : Row) : Type 0 where
  pub first : (get_or rows 0 d).bits ≤ row.bits
  pub last : row.bits ≤ (get_or rows (length rows - 1) d).bits

pub between : (rows : List Row) → AllPairs Precedes rows → (d row : Row) → Contains rows row → Between rows d row
between rows h d row has =
    let at : get_or rows has.0 d ≡ row = get_or_default rows has.0 d row has.1 ∙ has.2 in
    record {
      first = subst (λ (r : Row). (get_or rows 0 d).bits ≤ r.bits) at (rows_le rows h 0 has.0 d (omega arith) has.1);
      last = subst (λ (r : Row). r.bits ≤ (get_or rows (length rows - 1) d).bits) at (rows_le rows h has.0 (length rows - 1) d (omega (arith, has.1)) (omega (arith, has.1)));
    }

pub longer_at : (table : List Row) (p : List Bool) (rows : List Row) → AreLonger table p rows → (i : ℕ) (d : Row) → i < length rows → LongRow table p (get_or rows i d)
longer_at table p rows l i d low = longer_item table p rows l (get_or rows i d) (Contains-get_or rows i d low)

pub low_first : (table : List Row) (p : List Bool) (rows : List Row) → AreLonger table p rows → IsPartitionedBy (is_low (length p)) rows
low_first table p rows l i j d le low h =
    let at = longer_at table p rows l i d (omega arith) in
    let later = longer_at table p rows l j d low in
    let rise = rows_le rows (longer_rises table p rows l) i j d le low in
    not_from_false (bit_of (get_or rows i d).bits (length p))
    (false_from_ne_true (bit_of (get_or rows i d).bits (length p))
    (λ up. false_true (not-true (bit_of (get_or rows j d).bits (length p)) h) (bit_up table p (get_or rows i d) (get_or rows j d) at later rise up)))

pub none_ends : (table : List Row) (p : List Bool) (rows : List Row) → AreLonger table p rows → length rows ≡ 0 → (side : Bool) → goes_on (rows_kept table) p side ≡ false
none_ends table p rows l none side =
    false_from_ne_true (goes_on (rows_kept table) p side)
    (λ h.
    let b = begun_side (rows_kept table) p side h in
    let has = item_longer table p rows l b.item b.there (begins_start (path b.item) p (side ∷ []) b.passes) (side_long p side b.item b.passes) in
    omega (arith, has.1, none))

-- a side that a row has
pub side_goes : (table : List Row) (p : List Bool) (row : Row) (side : Bool) → LongRow table p row → bit_of row.bits (length p) ≡ side → goes_on (rows_kept table) p side ≡ true
side_goes table p row side r e =
    side_from (rows_kept table) p side row r.there (subst (λ b. begins_with (path row) (p ++ b ∷ []) ≡ true) e (long_side table p row r))

fork_by : (table : List Row) (p : List Bool) (first last : Row) → LongRow table p first → LongRow table p last → (low high : Bool) → bit_of first.bits (length p) ≡ low → bit_of last.bits (length p) ≡ high → (bit_of first.bits (length p) ≡ bit_of last.bits (length p) → ⊥) → (bit_of first.bits (length p) ≡ true → bit_of last.bits (length p) ≡ true) → onward (rows_kept table) p ≡ Forked
fork_by table p first last r s false true e f other up = rw (side_goes table p first false r e, side_goes table p last true s f) refl
fork_by table p first last r s false false e f other up = absurd (other (e ∙ sym f))
fork_by table p first last r s true high e f other up = absurd (other (e ∙ sym (up e)))

-- the first and the last row go on through both sides
pub ends_fork : (table : List Row) (p : List Bool) (first last : Row) → LongRow table p first → LongRow table p last → first.bits ≤ last.bits → (bit_of first.bits (length p) ≡ bit_of last.bits (length p) → ⊥) → onward (rows_kept table) p ≡ Forked
ends_fork table p first last r s le other =
    fork_by table p first last r s (bit_of first.bits (length p)) (bit_of last.bits (length p)) refl refl other (bit_up table p first last r s le)

pub single_by : (table : List Row) (p : List Bool) (side : Bool) → goes_on (rows_kept table) p side ≡ true → goes_on (rows_kept table) p (not side) ≡ false → onward (rows_kept table) p ≡ Single side
single_by table p true goes none = rw (goes, none) refl
single_by table p false goes none = rw (goes, none) refl

apart : (a b c : Bool) → b ≡ not a → a ≡ c → (a ≡ true → b ≡ true) → (b ≡ true → c ≡ true) → ⊥
apart true b c e f up more = false_true e (up refl)
apart false b c e f up more = false_true (sym f) (more e)

-- if they have the same bit, so have all rows between
pub ends_single : (table : List Row) (p : List Bool) (rows : List Row) → AreLonger table p rows → (d : Row) → 0 < length rows →
    bit_of (get_or rows 0 d).bits (length p) ≡ bit_of (get_or rows (length rows - 1) d).bits (length p) → goes_on (rows_kept table) p (not (bit_of (get_or rows 0 d).bits (length p))) ≡ false
ends_single table p rows l d some same =
    let first = get_or rows 0 d in
    let last = get_or rows (length rows - 1) d in
    let r = longer_at table p rows l 0 d some in
    let s = longer_at table p rows l (length rows - 1) d (omega arith) in
    false_from_ne_true (goes_on (rows_kept table) p (not (bit_of first.bits (length p))))
    (λ h.
    let b = begun_side (rows_kept table) p (not (bit_of first.bits (length p))) h in
    let has = item_longer table p rows l b.item b.there (begins_start (path b.item) p (not (bit_of first.bits (length p)) ∷ []) b.passes) (side_long p (not (bit_of first.bits (length p))) b.item b.passes) in
    let t = longer_item table p rows l b.item has in
    let mid = between rows (longer_rises table p rows l) d b.item has in
    let at = side_is table p b.item (not (bit_of first.bits (length p))) t b.passes in
    apart (bit_of first.bits (length p)) (bit_of b.item.bits (length p)) (bit_of last.bits (length p)) at same (bit_up table p first b.item r t mid.first) (bit_up table p b.item last t s mid.last))
