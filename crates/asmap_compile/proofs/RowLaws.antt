-- The number of a path, by the rows of a table.
use Rattle.std.proofs.Common.{◌≡◌, ◌≢◌, ◌==◌, ℕ, suc, ◌≤◌, Bool, true, false, not, ◌&&◌, List, [], ◌∷◌, ◌++◌, length, filter, nat_lt, inl, inr, refl, ap, sym, ◌∙◌, subst, arith, append_assoc, length-append, append-nil, Contains}
use Rattle.std.specs.Option.{option_map_or}
use Rattle.std.proofs.lemmas.Bool.{ltb-true, eqb-true, eqb-false, and_parts, and_from, false_from_ne_true, not-true, not-false, lt-ltb, le-ltb, ne_eqb, not_from_false, cases_Bool}
use Rattle.bit_code.specs.Coder.{HasValue, values_of, sizes}
use Rattle.bit_code.specs.declared.coder.Coder.TheVariants as coders
use Rattle.bit_code.specs.Prefixes.{begins_with}
use Rattle.prefix_table.specs.declared.rows.Row.{Row}
use Rattle.prefix_table.specs.Rows.{path, longest, IsRow, number_at}
use Rattle.asmap_compile.specs.Compiled.{shorter_than, stays, rows_kept, is_row}
use Rattle.bit_code.proofs.PrefixLaws.{begins_cut, begins_from, begins_long, nil_from, begins_equal, begins_within, begins_more, same_tests, begins_step}
use Rattle.prefix_table.proofs.PathLaws.{AreRows, path_long, longest_some}
use Rattle.prefix_table.proofs.Items.{any_from, any_item, filter_same, filter_item, filter_twice, filter_none, item_filter}

-- the longest of the rows that are a prefix of a path
pub record Best (rows : List Row) (p : List Bool) : Type 0 where
  pub row : Row
  pub there : Contains rows row
  pub begins : begins_with p (path row) ≡ true
  pub most : (other : Row) → Contains rows other → begins_with p (path other) ≡ true → other.len ≤ row.len
  pub number : number_at rows p ≡ row.asn

pub best_row : (rows : List Row) (p : List Bool) (row : Row) → Contains rows row → begins_with p (path row) ≡ true → Best rows p
unfolding number_at
best_row rows p row has begins =
    let prefix : Row → Bool = λ r. begins_with p (path r) in
    let l = longest_some (filter prefix rows) row (item_filter prefix rows row has begins) in
    let there = filter_item prefix rows l.row l.there in
    record {
      row = l.row;
      there = there.0;
      begins = there.1;
      most = λ other more at. l.most other (item_filter prefix rows other more at);
      number = rw l.is refl;
    }

-- the row that a path is
pub record RowAt (rows : List Row) (p : List Bool) : Type 0 where
  pub row : Row
  pub there : Contains rows row
  pub is : path row ≡ p

pub row_at : (rows : List Row) (p : List Bool) → is_row rows p ≡ true → RowAt rows p
unfolding is_row
row_at rows p h =
    let f = any_item (λ row. begins_with (path row) p && begins_with p (path row)) rows h in
    let both = and_parts (begins_with (path f.item) p) (begins_with p (path f.item)) f.passes in
    record { row = f.item; there = f.there; is = begins_equal (path f.item) p both.0 both.1 }

begins_same : (a b : List Bool) → a ≡ b → begins_with a b ≡ true
begins_same a b e = begins_from a b [] (e ∙ sym (append-nil b))

pub row_from : (rows : List Row) (p : List Bool) (row : Row) → Contains rows row → path row ≡ p → is_row rows p ≡ true
unfolding is_row
row_from rows p row has e =
    any_from (λ row. begins_with (path row) p && begins_with p (path row)) rows row has
    (and_from (begins_with (path row) p) (begins_with p (path row)) (begins_same (path row) p e) (begins_same p (path row) (sym e)))

-- the number of a path that is a row is the row's
pub number_row : (rows : List Row) (p : List Bool) (row : Row) → AreRows rows → Contains rows row → path row ≡ p → number_at rows p ≡ row.asn
number_row rows p row are has e =
    let b = best_row rows p row has (begins_same p (path row) (sym e)) in
    let long = b.most row has (begins_same p (path row) (sym e)) in
    let least = begins_long p (path b.row) b.begins in
    let c = begins_cut p (path b.row) b.begins in
    let none : c.rest ≡ [] = nil_from c.rest (omega (arith, ap length c.is, length-append (path b.row) c.rest, path_long b.row, path_long row, ap length e)) in
    let same : path b.row ≡ path row = sym (append-nil (path b.row)) ∙ ap (λ xs. path b.row ++ xs) (sym none) ∙ sym c.is ∙ sym e in
    b.number ∙ ap (λ r. r.asn) (are.distinct b.row row b.there has same)

no_row : (rows : List Row) (p : List Bool) → is_row rows p ≡ false → (row : Row) → Contains rows row → path row ≡ p → ⊥
no_row rows p h row has e = let yes = row_from rows p row has e in let no : true ≡ false = sym yes ∙ h in cc

-- a path that is no row has the number of the path before it
pub number_step : (rows : List Row) (p : List Bool) (side : Bool) → is_row rows (p ++ side ∷ []) ≡ false → number_at rows (p ++ side ∷ []) ≡ number_at rows p
unfolding number_at
number_step rows p side h =
    ap (λ xs. option_map_or (λ (row : Row). row.asn) (longest xs) 0)
    (filter_same (λ row. begins_with (p ++ side ∷ []) (path row)) (λ row. begins_with p (path row)) rows (λ row has. begins_step p side (path row) (no_row rows (p ++ side ∷ []) h row has)))

nothing_before : (rows : List Row) (row : Row) → is_row rows [] ≡ false → Contains rows row → begins_with [] (path row) ≡ false
nothing_before rows row h has =
    false_from_ne_true (begins_with [] (path row)) (λ yes. no_row rows [] h row has (begins_equal (path row) [] (begins_from (path row) [] (path row) refl) yes))

pub number_none : (rows : List Row) → is_row rows [] ≡ false → number_at rows [] ≡ 0
unfolding number_at longest
number_none rows h =
    ap (λ xs. option_map_or (λ (row : Row). row.asn) (longest xs) 0)
    (filter_same (λ row. begins_with [] (path row)) (λ _. false) rows (λ row has. nothing_before rows row h has) ∙ filter_none rows)

-- the AS number of a row can be spelled
pub row_value : (row : Row) → IsRow row → HasValue coders.Asn row.asn
unfolding values_of sizes
row_value row is = record { low = is.some; high = omega (arith, is.most) }

pub number_value : (rows : List Row) (p : List Bool) → AreRows rows → is_row rows p ≡ true → HasValue coders.Asn (number_at rows p)
number_value rows p are h =
    let r = row_at rows p h in
    rw (number_row rows p r.row are r.there r.is) (row_value r.row (are.each r.row r.there))

-- the rows that are shorter than a path give the number of the path before it
short_before : (p : List Bool) (side : Bool) (len : ℕ) → len ≡ suc (length p) → (row : Row) → (nat_lt row.len len && begins_with (p ++ side ∷ []) (path row)) ≡ begins_with p (path row)
short_before p side len e row =
    let long = path_long row in
    same_tests (nat_lt row.len len && begins_with (p ++ side ∷ []) (path row)) (begins_with p (path row))
    (λ h.
    let both = and_parts (nat_lt row.len len) (begins_with (p ++ side ∷ []) (path row)) h in
    begins_within p (side ∷ []) (path row) both.1 (omega (arith, ltb-true row.len len both.0)))
    (λ h.
    let less = lt-ltb row.len len (omega (arith, begins_long p (path row) h)) in
    and_from (nat_lt row.len len) (begins_with (p ++ side ∷ []) (path row)) less (begins_more p (side ∷ []) (path row) h))

shorter_rows : (rows : List Row) (p : List Bool) (side : Bool) (len : ℕ) → len ≡ suc (length p) → number_at (shorter_than len rows) (p ++ side ∷ []) ≡ number_at rows p
unfolding number_at
shorter_rows rows p side len e =
    ap (λ xs. option_map_or (λ (row : Row). row.asn) (longest xs) 0)
    (filter_twice (λ row. begins_with (p ++ side ∷ []) (path row)) (λ row. nat_lt row.len len) rows
    ∙ filter_same (λ row. nat_lt row.len len && begins_with (p ++ side ∷ []) (path row)) (λ row. begins_with p (path row)) rows (λ row has. short_before p side len e row))

shorter_none : (rows : List Row) (p : List Bool) → number_at (shorter_than 0 rows) p ≡ 0
unfolding number_at longest
shorter_none rows p =
    let none : shorter_than 0 rows ≡ [] = filter_same (λ row. nat_lt row.len 0) (λ _. false) rows (λ row has. le-ltb row.len 0 (omega arith)) ∙ filter_none rows in
    ap (λ xs. option_map_or (λ (row : Row). row.asn) (longest (filter (λ row. begins_with p (path row)) xs)) 0) none

pub stays_at : (rows : List Row) (p : List Bool) (side : Bool) (row : Row) → path row ≡ p ++ side ∷ [] → stays rows row ≡ not (number_at rows p == row.asn)
unfolding stays
stays_at rows p side row e =
    let len : row.len ≡ suc (length p) = omega (arith, path_long row, ap length e, length-append p (side ∷ [])) in
    ap (λ n. not (n == row.asn)) (ap (number_at (shorter_than row.len rows)) e ∙ shorter_rows rows p side row.len len)

pub stays_first : (rows : List Row) (row : Row) → IsRow row → path row ≡ [] → stays rows row ≡ true
unfolding stays
stays_first rows row is e =
    let len : row.len ≡ 0 = omega (arith, path_long row, ap length e) in
    let none : number_at (shorter_than row.len rows) (path row) ≡ 0 = ap (λ n. number_at (shorter_than n rows) (path row)) len ∙ shorter_none rows (path row) in
    not_from_false (number_at (shorter_than row.len rows) (path row) == row.asn) (ne_eqb (number_at (shorter_than row.len rows) (path row)) row.asn (λ same. omega (arith, is.some, none)))

pub kept_rows : (rows : List Row) → AreRows rows → AreRows (rows_kept rows)
kept_rows rows are =
    record {
      each = λ row has. are.each row (filter_item (stays rows) rows row has).0;
      distinct = λ row other has more. are.distinct row other (filter_item (stays rows) rows row has).0 (filter_item (stays rows) rows other more).0;
    }

kept_none : (rows : List Row) (p : List Bool) → is_row rows p ≡ false → is_row (rows_kept rows) p ≡ false
kept_none rows p h =
    false_from_ne_true (is_row (rows_kept rows) p)
    (λ yes. let r = row_at (rows_kept rows) p yes in no_row rows p h r.row (filter_item (stays rows) rows r.row r.there).0 r.is)

-- the path is a row that stays, and so its number stays
kept_row : (rows : List Row) (p : List Bool) (r : RowAt rows p) → AreRows rows → stays rows r.row ≡ true → number_at (rows_kept rows) p ≡ number_at rows p
kept_row rows p r are h =
    number_row (rows_kept rows) p r.row (kept_rows rows are) (item_filter (stays rows) rows r.row r.there h) r.is
    ∙ sym (number_row rows p r.row are r.there r.is)

dropped : (rows : List Row) (p : List Bool) (r : RowAt rows p) → AreRows rows → stays rows r.row ≡ false → is_row (rows_kept rows) p ≡ false
dropped rows p r are h =
    false_from_ne_true (is_row (rows_kept rows) p)
    (λ yes.
    let k = row_at (rows_kept rows) p yes in
    let there = filter_item (stays rows) rows k.row k.there in
    let same = are.distinct r.row k.row r.there there.0 (r.is ∙ sym k.is) in
    let no : true ≡ false = sym there.1 ∙ ap (stays rows) (sym same) ∙ h in
    cc)

kept_step : (rows : List Row) → AreRows rows → (p : List Bool) (side : Bool) → number_at (rows_kept rows) p ≡ number_at rows p → number_at (rows_kept rows) (p ++ side ∷ []) ≡ number_at rows (p ++ side ∷ [])
kept_step rows are p side before =
    let q = p ++ side ∷ [] in
    elim (cases_Bool (is_row rows q)) [
      | inl here ↦
          let r = row_at rows q here in
          elim (cases_Bool (stays rows r.row)) [
            | inl stay ↦ kept_row rows q r are stay
            | inr drop ↦
                let same = eqb-true (number_at rows p) r.row.asn (not-false (number_at rows p == r.row.asn) (sym (stays_at rows p side r.row r.is) ∙ drop)) in
                number_step (rows_kept rows) p side (dropped rows q r are drop) ∙ before ∙ same ∙ sym (number_row rows q r.row are r.there r.is)
          ]
      | inr none ↦ number_step (rows_kept rows) p side (kept_none rows q none) ∙ before ∙ sym (number_step rows p side none)
    ]

kept_first : (rows : List Row) → AreRows rows → number_at (rows_kept rows) [] ≡ number_at rows []
kept_first rows are =
    elim (cases_Bool (is_row rows [])) [
      | inl here ↦ let r = row_at rows [] here in kept_row rows [] r are (stays_first rows r.row (are.each r.row r.there) r.is)
      | inr none ↦ number_none (rows_kept rows) (kept_none rows [] none) ∙ sym (number_none rows none)
    ]

kept_along : (rows : List Row) → AreRows rows → (p s : List Bool) → number_at (rows_kept rows) p ≡ number_at rows p → number_at (rows_kept rows) (p ++ s) ≡ number_at rows (p ++ s)
kept_along rows are p [] before = rw append-nil before
kept_along rows are p (b ∷ s) before =
    subst (λ q. number_at (rows_kept rows) q ≡ number_at rows q) (append_assoc p (b ∷ []) s) (kept_along rows are (p ++ b ∷ []) s (kept_step rows are p b before))

-- dropping rows changes no number
pub number_kept : (rows : List Row) → AreRows rows → (p : List Bool) → number_at (rows_kept rows) p ≡ number_at rows p
number_kept rows are p = kept_along rows are [] p (kept_first rows are)

-- a row that stays has another number than the path before it
pub kept_fresh : (rows : List Row) → AreRows rows → (p : List Bool) (side : Bool) → is_row (rows_kept rows) (p ++ side ∷ []) ≡ true → number_at (rows_kept rows) (p ++ side ∷ []) ≢ number_at (rows_kept rows) p
kept_fresh rows are p side h same =
    let r = row_at (rows_kept rows) (p ++ side ∷ []) h in
    let stay = (filter_item (stays rows) rows r.row r.there).1 in
    let other = eqb-false (number_at rows p) r.row.asn (not-true (number_at rows p == r.row.asn) (sym (stays_at rows p side r.row r.is) ∙ stay)) in
    let number = number_row (rows_kept rows) (p ++ side ∷ []) r.row (kept_rows rows are) r.there r.is in
    other (sym (number_kept rows are p) ∙ sym same ∙ number)
