-- How rows extend a path, and the bits from a single path on.
use Rattle.std.proofs.Common.{◌≡◌, ℕ, zero, suc, ◌+◌, ◌<◌, ◌≤◌, Bool, true, false, not, List, [], ◌∷◌, ◌++◌, length, ◌⊎◌, inl, inr, refl, ap, sym, ◌∙◌, subst, arith, append_assoc, length-append, append-nil, Contains}
use Rattle.std.proofs.lemmas.Bool.{false_from_ne_true}
use Rattle.bit_code.specs.Prefixes.{begins_with}
use Rattle.prefix_table.specs.declared.rows.Row.{Row}
use Rattle.prefix_table.specs.Rows.{path, number_at}
use Rattle.asmap_compile.specs.Compiled.{is_row, goes_on, End, Single, Forked, onward, stretch}
use Rattle.bit_code.proofs.PrefixLaws.{begins_cut, begins_from, begins_both, begins_long, nil_from, begins_more, false_true, begins_next}
use Rattle.prefix_table.proofs.Items.{any_from, Passes, any_item}
use Rattle.prefix_table.proofs.PathLaws.{AreRows, path_long}
use Rattle.asmap_compile.proofs.RowLaws.{row_at, row_from, number_step}

-- a row that begins with the path
abbrev pub Begun : List Row → List Bool → Type 0
Begun rows p = Passes (λ row. begins_with (path row) p) rows

pub begun_side : (rows : List Row) (p : List Bool) (side : Bool) → goes_on rows p side ≡ true → Begun rows (p ++ side ∷ [])
unfolding goes_on
begun_side rows p side h = any_item (λ row. begins_with (path row) (p ++ side ∷ [])) rows h

pub side_from : (rows : List Row) (p : List Bool) (side : Bool) (row : Row) → Contains rows row → begins_with (path row) (p ++ side ∷ []) ≡ true → goes_on rows p side ≡ true
unfolding goes_on
side_from rows p side row has h = any_from (λ row. begins_with (path row) (p ++ side ∷ [])) rows row has h

-- a row as long as an address ends every path
pub begun_short : (rows : List Row) (p : List Bool) → AreRows rows → Begun rows p → length p ≤ 128
begun_short rows p are b =
    let is = are.each b.item b.there in
    omega (arith, begins_long (path b.item) p b.passes, path_long b.item, is.len)

-- whether rows extend a path through its next bits
pub data Turn (rows : List Row) (p : List Bool) : Type 0 where
  turn_end : onward rows p ≡ End → ((side : Bool) → goes_on rows p side ≡ false) → Turn rows p
  turn_single : (side : Bool) → onward rows p ≡ Single side → goes_on rows p side ≡ true → goes_on rows p (not side) ≡ false → Turn rows p
  turn_forked : onward rows p ≡ Forked → ((side : Bool) → goes_on rows p side ≡ true) → Turn rows p

each_side : (b : Bool) (f : Bool → Bool) → f false ≡ b → f true ≡ b → (side : Bool) → f side ≡ b
each_side b f low high true = high
each_side b f low high false = low

turn_by : (rows : List Row) (p : List Bool) (low high : Bool) → goes_on rows p false ≡ low → goes_on rows p true ≡ high → Turn rows p
turn_by rows p false false e f = turn_end (rw (e, f) refl) (each_side false (goes_on rows p) e f)
turn_by rows p true false e f = turn_single false (rw (e, f) refl) e f
turn_by rows p false true e f = turn_single true (rw (e, f) refl) f e
turn_by rows p true true e f = turn_forked (rw (e, f) refl) (each_side true (goes_on rows p) e f)

pub turn : (rows : List Row) (p : List Bool) → Turn rows p
turn rows p = turn_by rows p (goes_on rows p false) (goes_on rows p true) refl refl

side_by : (rows : List Row) (p : List Bool) (side : Bool) → goes_on rows p (not side) ≡ false → (row : Row) → Contains rows row → (path row ≡ p) ⊎ ((x : Bool) × (begins_with (path row) (p ++ x ∷ []) ≡ true)) → (path row ≡ p) ⊎ (begins_with (path row) (p ++ side ∷ []) ≡ true)
side_by rows p side none row has (inl same) = inl same
side_by rows p true none row has (inr (true, h)) = inr h
side_by rows p false none row has (inr (false, h)) = inr h
side_by rows p true none row has (inr (false, h)) = absurd (false_true none (side_from rows p false row has h))
side_by rows p false none row has (inr (true, h)) = absurd (false_true none (side_from rows p true row has h))

fork_by : (rows : List Row) (p : List Bool) → Turn rows p → onward rows p ≡ Forked → (side : Bool) → goes_on rows p side ≡ true
fork_by rows p (turn_end is none) fork side = let off : End ≡ Forked = sym is ∙ fork in cc
fork_by rows p (turn_single one is goes none) fork side = let off : Single one ≡ Forked = sym is ∙ fork in cc
fork_by rows p (turn_forked is goes) fork side = goes side

pub fork_sides : (rows : List Row) (p : List Bool) → onward rows p ≡ Forked → (side : Bool) → goes_on rows p side ≡ true
fork_sides rows p fork side = fork_by rows p (turn rows p) fork side

-- a row that begins with a single path is the path, or goes on through its side
pub single_side : (rows : List Row) (p : List Bool) (side : Bool) → goes_on rows p (not side) ≡ false → (row : Row) → Contains rows row → begins_with (path row) p ≡ true → (path row ≡ p) ⊎ (begins_with (path row) (p ++ side ∷ []) ≡ true)
single_side rows p side none row has h = side_by rows p side none row has (begins_next (path row) p h)

-- the bits from a path to its end
pub record IsStretch (rows : List Row) (p bits : List Bool) : Type 0 where
  pub all : (row : Row) → Contains rows row → begins_with (path row) p ≡ true → begins_with (path row) (p ++ bits) ≡ true
  pub stop : (is_row rows (p ++ bits) ≡ true) ⊎ (onward rows (p ++ bits) ≡ Forked)

stop_here : (rows : List Row) (p : List Bool) → (is_row rows p ≡ true) ⊎ (onward rows p ≡ Forked) → IsStretch rows p []
stop_here rows p stop =
    record {
      all = λ row has h. rw append-nil h;
      stop = rw append-nil stop;
    }

beyond : (rows : List Row) (p : List Bool) (side : Bool) → is_row rows p ≡ false → goes_on rows p (not side) ≡ false → (row : Row) → Contains rows row → begins_with (path row) p ≡ true → begins_with (path row) (p ++ side ∷ []) ≡ true
beyond rows p side off none row has h =
    elim (single_side rows p side none row has h) [
      | inl same ↦ absurd (false_true off (row_from rows p row has same))
      | inr more ↦ more
    ]

longer_stretch : (rows : List Row) (p : List Bool) (side : Bool) (bits : List Bool) → is_row rows p ≡ false → goes_on rows p (not side) ≡ false → IsStretch rows (p ++ side ∷ []) bits → IsStretch rows p (side ∷ bits)
longer_stretch rows p side bits off none s =
    let e : (p ++ side ∷ []) ++ bits ≡ p ++ side ∷ bits = append_assoc p (side ∷ []) bits in
    record {
      all = λ row has h. subst (λ q. begins_with (path row) q ≡ true) e (s.all row has (beyond rows p side off none row has h));
      stop = subst (λ q. (is_row rows q ≡ true) ⊎ (onward rows q ≡ Forked)) e s.stop;
    }

row_there : (rows : List Row) (p : List Bool) → AreRows rows → Begun rows p → 128 ≤ length p → is_row rows p ≡ true
row_there rows p are b long =
    let is = are.each b.item b.there in
    let c = begins_cut (path b.item) p b.passes in
    let none : c.rest ≡ [] = nil_from c.rest (omega (arith, ap length c.is, length-append p c.rest, path_long b.item, is.len)) in
    row_from rows p b.item b.there (c.is ∙ ap (λ xs. p ++ xs) none ∙ append-nil p)

pub begun_goes : (rows : List Row) (p : List Bool) → Begun rows p → is_row rows p ≡ false → ((side : Bool) → goes_on rows p side ≡ false) → ⊥
begun_goes rows p b off none =
    elim (begins_next (path b.item) p b.passes) [
      | inl same ↦ false_true off (row_from rows p b.item b.there same)
      | inr more ↦ false_true (none more.0) (side_from rows p more.0 b.item b.there more.1)
    ]

stretch_by : (left : ℕ) (rows : List Row) (p : List Bool) → AreRows rows → Begun rows p → 128 ≤ suc left + length p → (here : Bool) → is_row rows p ≡ here → Turn rows p → ((side : Bool) → goes_on rows p side ≡ true → IsStretch rows (p ++ side ∷ []) (stretch left rows (p ++ side ∷ []))) → IsStretch rows p (stretch (suc left) rows p)
unfolding stretch
stretch_by left rows p are b long true e t more = rw (e, stretch) (stop_here rows p (inl e))
stretch_by left rows p are b long false e (turn_end is none) more = absurd (begun_goes rows p b e none)
stretch_by left rows p are b long false e (turn_single side is goes none) more = rw (e, is, stretch) (longer_stretch rows p side (stretch left rows (p ++ side ∷ [])) e none (more side goes))
stretch_by left rows p are b long false e (turn_forked is goes) more = rw (e, is, stretch) (stop_here rows p (inr is))

pub stretch_is : (left : ℕ) (rows : List Row) (p : List Bool) → AreRows rows → Begun rows p → 128 ≤ left + length p → IsStretch rows p (stretch left rows p)
unfolding stretch
stretch_is zero rows p are b long = stop_here rows p (inl (row_there rows p are b (omega arith)))
stretch_is (suc left) rows p are b long = stretch_by left rows p are b long (is_row rows p) refl (turn rows p)
    (λ side goes. stretch_is left rows (p ++ side ∷ []) are (begun_side rows p side goes) (omega (arith, length-append p (side ∷ []))))

-- a single path, and the bits from it to its end
pub record IsWay (rows : List Row) (p bits : List Bool) : Type 0 where
  pub some : 0 < length bits
  pub begun : Begun rows (p ++ bits)
  pub all : (row : Row) → Contains rows row → begins_with (path row) p ≡ true → (path row ≡ p) ⊎ (begins_with (path row) (p ++ bits) ≡ true)
  pub stop : (is_row rows (p ++ bits) ≡ true) ⊎ (onward rows (p ++ bits) ≡ Forked)

way_from : (rows : List Row) (p : List Bool) (side : Bool) (bits : List Bool) → goes_on rows p side ≡ true → goes_on rows p (not side) ≡ false → IsStretch rows (p ++ side ∷ []) bits → IsWay rows p (side ∷ bits)
way_from rows p side bits goes none s =
    let e : (p ++ side ∷ []) ++ bits ≡ p ++ side ∷ bits = append_assoc p (side ∷ []) bits in
    let b = begun_side rows p side goes in
    record {
      some = omega arith;
      begun = record {
        item = b.item;
        there = b.there;
        passes = subst (λ q. begins_with (path b.item) q ≡ true) e (s.all b.item b.there b.passes);
      };
      all = λ row has h. elim (single_side rows p side none row has h) [
        | inl same ↦ inl same
        | inr more ↦ inr (subst (λ q. begins_with (path row) q ≡ true) e (s.all row has more))
      ];
      stop = subst (λ q. (is_row rows q ≡ true) ⊎ (onward rows q ≡ Forked)) e s.stop;
    }

pub way_is : (left : ℕ) (rows : List Row) (p : List Bool) (side : Bool) → AreRows rows → goes_on rows p side ≡ true → goes_on rows p (not side) ≡ false → 128 ≤ suc left + length p → IsWay rows p (side ∷ stretch left rows (p ++ side ∷ []))
way_is left rows p side are goes none long =
    way_from rows p side (stretch left rows (p ++ side ∷ [])) goes none
    (stretch_is left rows (p ++ side ∷ []) are (begun_side rows p side goes) (omega (arith, length-append p (side ∷ []))))

-- a row after the path lies beyond the way
pub way_row : (rows : List Row) (p bits t : List Bool) → IsWay rows p bits → 0 < length t → is_row rows (p ++ t) ≡ true → begins_with t bits ≡ true
way_row rows p bits t way some h =
    let r = row_at rows (p ++ t) h in
    let starts = begins_from (path r.row) p t r.is in
    elim (way.all r.row r.there starts) [
      | inl same ↦ absurd (omega (arith, ap length r.is, ap length same, length-append p t))
      | inr more ↦ sym (begins_both p t bits) ∙ subst (λ q. begins_with q (p ++ bits) ≡ true) r.is more
    ]

-- a row after the path goes on through its next bit
pub row_side : (rows : List Row) (p : List Bool) (side : Bool) (t : List Bool) → is_row rows (p ++ side ∷ t) ≡ true → goes_on rows p side ≡ true
row_side rows p side t h =
    let r = row_at rows (p ++ side ∷ t) h in
    side_from rows p side r.row r.there (begins_from (path r.row) (p ++ side ∷ []) t (r.is ∙ sym (append_assoc p (side ∷ []) t)))

-- if no path after it is a row, the number stays
pub number_same : (rows : List Row) (p rest : List Bool) → ((t u : List Bool) → rest ≡ t ++ u → 0 < length t → is_row rows (p ++ t) ≡ false) → number_at rows (p ++ rest) ≡ number_at rows p
number_same rows p [] none = ap (number_at rows) (append-nil p)
number_same rows p (side ∷ rest) none =
    let assoc = λ (t : List Bool). append_assoc p (side ∷ []) t in
    let off = λ (t u : List Bool) (e : rest ≡ t ++ u) (some : 0 < length t). ap (is_row rows) (assoc t) ∙ none (side ∷ t) u (ap (λ xs. side ∷ xs) e) (omega arith) in
    ap (number_at rows) (sym (assoc rest)) ∙ number_same rows (p ++ side ∷ []) rest off ∙ number_step rows p side (none (side ∷ []) rest refl (omega arith))

end_off : (rows : List Row) (p t : List Bool) → ((side : Bool) → goes_on rows p side ≡ false) → 0 < length t → is_row rows (p ++ t) ≡ false
end_off rows p [] none some = absurd (omega arith)
end_off rows p (side ∷ t) none some = false_from_ne_true (is_row rows (p ++ side ∷ t)) (λ h. false_true (none side) (row_side rows p side t h))

-- an end's number is that of every path after it
pub number_end : (rows : List Row) (p rest : List Bool) → ((side : Bool) → goes_on rows p side ≡ false) → number_at rows (p ++ rest) ≡ number_at rows p
number_end rows p rest none = number_same rows p rest (λ t u e some. end_off rows p t none some)

-- so is that of a single path, off the way
pub number_off : (rows : List Row) (p bits rest : List Bool) → IsWay rows p bits → begins_with rest bits ≡ false → number_at rows (p ++ rest) ≡ number_at rows p
number_off rows p bits rest way off =
    number_same rows p rest
    (λ t u e some. false_from_ne_true (is_row rows (p ++ t)) (λ h. false_true off (subst (λ xs. begins_with xs bits ≡ true) (sym e) (begins_more t u bits (way_row rows p bits t way some h)))))
