-- The end of a single path: the first row that is longer, or the first bit in which the first and
-- the last row differ.
use Rattle.std.proofs.Common.{◌≡◌, ◌↔◌, ℕ, ◌+◌, ◌-◌, ◌/◌, ◌%◌, ◌<◌, ◌≤◌, Bool, true, false, List, [], ◌∷◌, ◌++◌, length, get_or, min, ◌⊎◌, inl, inr, refl, ap, sym, ◌∙◌, subst, arith, length-append, append-nil, Contains, eqb, eq-eqb}
use Rattle.std.proofs.lemmas.Bool.{cases_lt, cases_eq, eqb-true, eqb-false, ne_eqb}
use Rattle.std.proofs.lemmas.List.{get_or_default}
use Rattle.std.proofs.lemmas.List.Elements.{Contains-get_or}
use Rattle.asmap_compile.proofs.PartLaws.{path_of_row}
use Rattle.bit_code.specs.Prefixes.{begins_with}
use Rattle.prefix_table.specs.declared.rows.Row.{Row}
use Rattle.prefix_table.specs.Rows.{path, first_bits, Precedes}
use Rattle.asmap_compile.specs.Compiled.{rows_kept, is_row, goes_on, Forked, onward}
use Rattle.asmap_compile.specs.Inside.{bits_between, bit_of}
use Rattle.asmap_compile.proofs.BetweenLaws.{between_long, between_split}
use Rattle.bit_code.proofs.PrefixLaws.{begins_cut, begins_from, begins_start, begins_both, begins_long, begins_equal, sides_same, begins_within, false_true}
use Rattle.prefix_table.proofs.BitLaws.{first_bits_between}
use Rattle.asmap_compile.proofs.OrderLaws.{start, start_begins, start_same, begun_start, first_same, next_first, bit_first, path_start}
use Rattle.prefix_table.proofs.PathLaws.{path_long, prefix_first}
use Rattle.asmap_compile.proofs.RowLaws.{row_from, row_at}
use Rattle.asmap_compile.proofs.TurnLaws.{AreLonger, LongRow, longer_item, item_longer, longer_rises, rows_le, between, longer_at, ends_fork}
use Rattle.asmap_compile.proofs.Ways.{IsWay, fork_sides, begun_side}

-- two lists that one begins with
pub one_longer : (w a b : List Bool) → begins_with w a ≡ true → begins_with w b ≡ true → length a ≤ length b → begins_with b a ≡ true
one_longer w a b h k low =
    let f = begins_cut w a h in
    let g = begins_cut w b k in
    begins_within b g.rest a (subst (λ xs. begins_with xs a ≡ true) g.is h) low

-- a row after a path lies on every way from it
on_way : (rows : List Row) (p a : List Bool) (row : Row) → IsWay rows p a → Contains rows row → begins_with (path row) p ≡ true → length p < length (path row) → begins_with (path row) (p ++ a) ≡ true
on_way rows p a row way has h long =
    elim (way.all row has h) [
      | inl same ↦ absurd (omega (arith, ap length same))
      | inr more ↦ more
    ]

-- a row that begins with the end of one way, on the other way
on_other : (rows : List Row) (p a b : List Bool) (row : Row) → IsWay rows p a → IsWay rows p b → Contains rows row → begins_with (path row) (p ++ a) ≡ true → begins_with (path row) (p ++ b) ≡ true
on_other rows p a b row way other has h =
    on_way rows p b row other has (begins_start (path row) p a h) (omega (arith, begins_long (path row) (p ++ a) h, length-append p a, way.some))

stops_row : (rows : List Row) (p a b : List Bool) → IsWay rows p a → IsWay rows p b → is_row rows (p ++ a) ≡ true → length b ≤ length a
stops_row rows p a b way other here =
    let r = row_at rows (p ++ a) here in
    let starts : begins_with (path r.row) (p ++ a) ≡ true = begins_from (path r.row) (p ++ a) [] (r.is ∙ sym (append-nil (p ++ a))) in
    let more = on_other rows p a b r.row way other r.there starts in
    omega (arith, begins_long (path r.row) (p ++ b) more, ap length r.is, length-append p a, length-append p b)

-- if the first of two ways forks, rows leave the other
fork_leaves : (rows : List Row) (p a b : List Bool) → IsWay rows p a → IsWay rows p b → length a < length b → (side : Bool) → goes_on rows (p ++ a) side ≡ true → begins_with (p ++ b) ((p ++ a) ++ side ∷ []) ≡ true
fork_leaves rows p a b way other less side goes =
    let r = begun_side rows (p ++ a) side goes in
    let more = on_other rows p a b r.item way other r.there (begins_start (path r.item) (p ++ a) (side ∷ []) r.passes) in
    one_longer (path r.item) ((p ++ a) ++ side ∷ []) (p ++ b) r.passes more (omega (arith, length-append (p ++ a) (side ∷ []), length-append p a, length-append p b))

stops_fork : (rows : List Row) (p a b : List Bool) → IsWay rows p a → IsWay rows p b → onward rows (p ++ a) ≡ Forked → length a < length b → ⊥
stops_fork rows p a b way other fork less =
    let sides = fork_sides rows (p ++ a) fork in
    false_true refl (sides_same (p ++ b) (p ++ a) false true (fork_leaves rows p a b way other less false (sides false)) (fork_leaves rows p a b way other less true (sides true)))

-- a way is no longer than another that ends
way_stops : (rows : List Row) (p a b : List Bool) → IsWay rows p a → IsWay rows p b → length b ≤ length a
way_stops rows p a b way other =
    elim way.stop [
      | inl here ↦ stops_row rows p a b way other here
      | inr fork ↦ elim (cases_lt (length a) (length b)) [
        | inl less ↦ absurd (stops_fork rows p a b way other fork less)
        | inr more ↦ more
      ]
    ]

-- there is one way from a path
pub way_unique : (rows : List Row) (p a b : List Bool) → IsWay rows p a → IsWay rows p b → a ≡ b
way_unique rows p a b way other =
    let r = way.begun in
    let more = on_other rows p a b r.item way other r.there r.passes in
    let low = way_stops rows p a b way other in
    let high = way_stops rows p b a other way in
    begins_equal a b
    (sym (begins_both p a b) ∙ one_longer (path r.item) (p ++ b) (p ++ a) more r.passes (omega (arith, length-append p a, length-append p b)))
    (sym (begins_both p b a) ∙ one_longer (path r.item) (p ++ a) (p ++ b) r.passes more (omega (arith, length-append p a, length-append p b)))

-- the rows of a part that goes on through one side, from the first to the last, and their end
pub record Stops (table : List Row) (p : List Bool) (rows : List Row) (d : Row) (stop : ℕ) : Type 0 where
  pub longer : AreLonger table p rows
  pub some : 0 < length rows
  pub common : ℕ
  pub most : common ≤ 128
  pub same : (len : ℕ) → len ≤ 128 → (first_bits len (get_or rows 0 d).bits ≡ first_bits len (get_or rows (length rows - 1) d).bits) ↔ (len ≤ common)
  pub is : stop ≡ min (get_or rows 0 d).len common
  pub single : bit_of (get_or rows 0 d).bits (length p) ≡ bit_of (get_or rows (length rows - 1) d).bits (length p)

same_half : (x y : ℕ) → eqb (x % 2) 1 ≡ eqb (y % 2) 1 → x / 2 ≡ y / 2 → x ≡ y
same_half x y same half =
    elim (cases_eq (x % 2) 1) [
      | inl one ↦ omega (arith, one, half, eqb-true (y % 2) 1 (sym same ∙ eq-eqb (x % 2) 1 one))
      | inr other ↦ omega (arith, other, half, eqb-false (y % 2) 1 (sym same ∙ ne_eqb (x % 2) 1 other))
    ]

-- one more bit in common
more_common : (k a b : ℕ) → k < 128 → first_bits k a ≡ first_bits k b → bit_of a k ≡ bit_of b k → first_bits (k + 1) a ≡ first_bits (k + 1) b
more_common k a b low same bit =
    same_half (first_bits (k + 1) a) (first_bits (k + 1) b) (sym (bit_first k a low) ∙ bit ∙ bit_first k b low) (next_first k a low ∙ same ∙ sym (next_first k b low))

-- the first and the last row
abbrev first_of : List Row → Row → Row
first_of rows d = get_or rows 0 d

abbrev last_of : List Row → Row → Row
last_of rows d = get_or rows (length rows - 1) d

first_long : (table : List Row) (p : List Bool) (rows : List Row) (d : Row) (stop : ℕ) → Stops table p rows d stop → LongRow table p (first_of rows d)
first_long table p rows d stop s = longer_at table p rows s.longer 0 d s.some

last_long : (table : List Row) (p : List Bool) (rows : List Row) (d : Row) (stop : ℕ) → Stops table p rows d stop → LongRow table p (last_of rows d)
last_long table p rows d stop s = longer_at table p rows s.longer (length rows - 1) d (omega (arith, s.some))

-- the path goes on at least one bit
pub stop_after : (table : List Row) (p : List Bool) (rows : List Row) (d : Row) (stop : ℕ) → Stops table p rows d stop → length p < stop
stop_after table p rows d stop s =
    let r = first_long table p rows d stop s in
    let t = last_long table p rows d stop s in
    let low : length p < 128 = omega (arith, r.long, r.is.len) in
    let starts = sym (begun_start (first_of rows d) p r.is.len r.begins) ∙ begun_start (last_of rows d) p t.is.len t.begins in
    let same = first_same (length p) (first_of rows d).bits (last_of rows d).bits (omega arith) r.is.bits t.is.bits starts in
    let more = (s.same (length p + 1) (omega arith)).0 (more_common (length p) (first_of rows d).bits (last_of rows d).bits low same s.single) in
    omega (arith, more, r.long, s.is)

-- the bits of the way
abbrev pub way_of : List Bool → List Row → Row → ℕ → List Bool
way_of p rows d stop = bits_between (get_or rows 0 d).bits (length p) stop

pub way_end : (table : List Row) (p : List Bool) (rows : List Row) (d : Row) (stop : ℕ) → Stops table p rows d stop → p ++ way_of p rows d stop ≡ start stop (get_or rows 0 d).bits
way_end table p rows d stop s =
    let r = first_long table p rows d stop s in
    let after = stop_after table p rows d stop s in
    ap (λ q. q ++ way_of p rows d stop) (begun_start (first_of rows d) p r.is.len r.begins)
    ∙ sym (between_split (first_of rows d).bits 0 (length p) stop (omega arith) (omega arith) (omega (arith, s.is, s.most)))

-- no row but the first is a prefix of it
not_prefix : (table : List Row) (p : List Bool) (rows : List Row) (d : Row) (stop : ℕ) → Stops table p rows d stop → (row : Row) → Contains rows row → begins_with (path (first_of rows d)) (path row) ≡ true → row.len < (first_of rows d).len → ⊥
not_prefix table p rows d stop s row has h less =
    let r = first_long table p rows d stop s in
    let t = longer_item table p rows s.longer row has in
    elim (cases_eq has.0 0) [
      | inl same ↦
          let is_first : row ≡ first_of rows d = sym has.2 ∙ get_or_default rows has.0 row d has.1 ∙ ap (λ k. get_or rows k d) same in
          omega (arith, less, ap (λ (x : Row). x.len) is_first)
      | inr later ↦
          let before = longer_rises table p rows s.longer 0 has.0 d (omega arith) has.1 in
          prefix_first (first_of rows d) row r.is t.is h (subst (Precedes (first_of rows d)) (get_or_default rows has.0 d row has.1 ∙ has.2) before)
    ]

-- a row has as many of the first row's bits as the first and the last have in common
between_same : (table : List Row) (p : List Bool) (rows : List Row) (d : Row) (stop : ℕ) (s : Stops table p rows d stop) → (row : Row) → Contains rows row → (len : ℕ) → len ≤ 128 → len ≤ s.common → start len row.bits ≡ start len (first_of rows d).bits
between_same table p rows d stop s row has len top low =
    let mid = between rows (longer_rises table p rows s.longer) d row has in
    let ends = (s.same len top).1 low in
    let same = first_bits_between len (first_of rows d).bits row.bits (last_of rows d).bits mid.first mid.last ends in
    start_same len row.bits (first_of rows d).bits (same ∙ sym ends)

reach_long : (table : List Row) (p : List Bool) (rows : List Row) (d : Row) (stop : ℕ) → Stops table p rows d stop → (row : Row) → Contains rows row → stop ≤ row.len
reach_long table p rows d stop s row has =
    let r = first_long table p rows d stop s in
    let t = longer_item table p rows s.longer row has in
    elim (cases_lt row.len stop) [
      | inl short ↦
          let same = between_same table p rows d stop s row has row.len t.is.len (omega (arith, s.is)) in
          let prefix = subst (λ q. begins_with (path (first_of rows d)) q ≡ true) (sym (path_start row ∙ same)) (start_begins (first_of rows d) row.len r.is.len (omega (arith, s.is))) in
          absurd (not_prefix table p rows d stop s row has prefix (omega (arith, s.is)))
      | inr fits ↦ fits
    ]

-- every row of the part begins with the bits up to the end
pub all_reach : (table : List Row) (p : List Bool) (rows : List Row) (d : Row) (stop : ℕ) → Stops table p rows d stop → (row : Row) → Contains rows row → begins_with (path row) (start stop (get_or rows 0 d).bits) ≡ true
all_reach table p rows d stop s row has =
    let t = longer_item table p rows s.longer row has in
    subst (λ q. begins_with (path row) q ≡ true) (between_same table p rows d stop s row has stop (omega (arith, s.is, s.most)) (omega (arith, s.is)))
    (start_begins row stop t.is.len (reach_long table p rows d stop s row has))

start_long : (len bits : ℕ) → length (start len bits) ≡ len
start_long len bits = between_long bits 0 len ∙ (let e : len - 0 ≡ len = omega arith in e)

-- the last row is longer than the bits that it has in common with the first, if the first is
last_longer : (table : List Row) (p : List Bool) (rows : List Row) (d : Row) (stop : ℕ) → Stops table p rows d stop → stop < (first_of rows d).len → stop < (last_of rows d).len
last_longer table p rows d stop s less =
    let last = last_of rows d in
    let has = Contains-get_or rows (length rows - 1) d (omega (arith, s.some)) in
    let r = first_long table p rows d stop s in
    elim (cases_lt stop last.len) [
      | inl long ↦ long
      | inr short ↦
          let reach = reach_long table p rows d stop s last has in
          let q = start stop (first_of rows d).bits in
          let same : path last ≡ q = path_of_row q last (all_reach table p rows d stop s last has) (omega (arith, start_long stop (first_of rows d).bits)) in
          let prefix = subst (λ w. begins_with (path (first_of rows d)) w ≡ true) (sym same) (start_begins (first_of rows d) stop r.is.len (omega arith)) in
          absurd (not_prefix table p rows d stop s last has prefix (omega arith))
    ]

long_at : (table : List Row) (p : List Bool) (rows : List Row) (d : Row) (stop : ℕ) → Stops table p rows d stop → (row : Row) → Contains rows row → stop < row.len → LongRow table (start stop (first_of rows d).bits) row
long_at table p rows d stop s row has long =
    let t = longer_item table p rows s.longer row has in
    record { there = t.there; is = t.is; begins = all_reach table p rows d stop s row has; long = omega (arith, start_long stop (first_of rows d).bits, long) }

stop_fork : (table : List Row) (p : List Bool) (rows : List Row) (d : Row) (stop : ℕ) (s : Stops table p rows d stop) → stop ≡ s.common → stop < (first_of rows d).len → onward (rows_kept table) (start stop (first_of rows d).bits) ≡ Forked
stop_fork table p rows d stop s e less =
    let first = first_of rows d in
    let last = last_of rows d in
    let q = start stop first.bits in
    let low : stop < 128 = omega (arith, (first_long table p rows d stop s).is.len) in
    let r = long_at table p rows d stop s first (Contains-get_or rows 0 d s.some) less in
    let t = long_at table p rows d stop s last (Contains-get_or rows (length rows - 1) d (omega (arith, s.some))) (last_longer table p rows d stop s less) in
    let rise = rows_le rows (longer_rises table p rows s.longer) 0 (length rows - 1) d (omega arith) (omega (arith, s.some)) in
    ends_fork table q first last r t rise
    (λ bit.
    let here = subst (λ k. bit_of first.bits k ≡ bit_of last.bits k) (start_long stop first.bits) bit in
    let more = more_common stop first.bits last.bits low ((s.same stop (omega arith)).1 (omega (arith, e))) here in
    omega (arith, (s.same (stop + 1) (omega arith)).0 more, e))

stop_is : (table : List Row) (p : List Bool) (rows : List Row) (d : Row) (stop : ℕ) → Stops table p rows d stop →
    (is_row (rows_kept table) (start stop (get_or rows 0 d).bits) ≡ true) ⊎ (onward (rows_kept table) (start stop (get_or rows 0 d).bits) ≡ Forked)
stop_is table p rows d stop s =
    elim (cases_lt stop (first_of rows d).len) [
      | inl less ↦ inr (stop_fork table p rows d stop s (omega (arith, s.is)) less)
      | inr all ↦
          let e : (first_of rows d).len ≡ stop = omega (arith, s.is) in
          inl (row_from (rows_kept table) (start stop (first_of rows d).bits) (first_of rows d) (first_long table p rows d stop s).there (path_start (first_of rows d) ∙ ap (λ n. start n (first_of rows d).bits) e))
    ]

pub stop_way : (table : List Row) (p : List Bool) (rows : List Row) (d : Row) (stop : ℕ) → Stops table p rows d stop → IsWay (rows_kept table) p (way_of p rows d stop)
stop_way table p rows d stop s =
    let end = way_end table p rows d stop s in
    let r = first_long table p rows d stop s in
    let reach = λ (row : Row) (has : Contains rows row). subst (λ q. begins_with (path row) q ≡ true) (sym end) (all_reach table p rows d stop s row has) in
    record {
      some = omega (arith, between_long (first_of rows d).bits (length p) stop, stop_after table p rows d stop s);
      begun = record { item = first_of rows d; there = r.there; passes = reach (first_of rows d) (Contains-get_or rows 0 d s.some) };
      all = λ row has h. elim (cases_lt (length p) row.len) [
        | inl long ↦ inr (reach row (item_longer table p rows s.longer row has h long))
        | inr short ↦ inl (path_of_row p row h (omega (arith, begins_long (path row) p h, path_long row)))
      ];
      stop = subst (λ q. (is_row (rows_kept table) q ≡ true) ⊎ (onward (rows_kept table) q ≡ Forked)) (sym end) (stop_is table p rows d stop s);
    }
