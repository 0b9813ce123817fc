-- The compiled tree is sane.
use Rattle.std.proofs.Common.{◌≡◌, ◌≢◌, ℕ, zero, suc, ◌+◌, ◌-◌, ◌*◌, ◌<◌, ◌≤◌, Bool, true, false, List, [], ◌∷◌, ◌++◌, length, take, drop, ◌⊎◌, inl, inr, refl, ap, sym, ◌∙◌, subst, arith, append_assoc, length-append, append-nil}
use Rattle.std.proofs.lemmas.Bool.{cases_eq, cases_Bool, false_from_ne_true, true_from_ne_false}
use Rattle.std.proofs.lemmas.List.Sums.{length-filter, count_by-le-length}
use Rattle.std.proofs.lemmas.List.{length-drop, length-take}
use Rattle.std.proofs.Math.Nat.{mul-le-mul_right}
use Rattle.bit_code.specs.Coder.{HasValue, values_of, sizes}
use Rattle.bit_code.specs.declared.coder.Coder.TheVariants as coders
use Rattle.bit_code.specs.Prefixes.{begins_with}
use Rattle.asmap_vm.specs.Code.{Tree, Return, Jump, Default, code, IsSaneWithin, TakesDefault, IsNoShortMatch, IsMatch}
use Rattle.prefix_table.specs.Rows.{path, number_at}
use Rattle.prefix_table.specs.declared.rows.Row.{Row}
use Rattle.asmap_compile.specs.Compiled.{is_row, goes_on, matches, under_default, tree_at}
use Rattle.bit_code.proofs.PrefixLaws.{begins_long, nil_from}
use Rattle.prefix_table.proofs.PathLaws.{AreRows}
use Rattle.asmap_compile.proofs.RowLaws.{number_value, number_step, number_none}
use Rattle.asmap_compile.proofs.Sizes.{rows_at, room, tree_long, code_least, single_not_forked, matches_none}
use Rattle.asmap_compile.proofs.Trees.{tree_last, tree_end, way_bits, tree_single, tree_forked, full_end, default_holds, default_set}
use Rattle.asmap_compile.proofs.Ways.{Begun, Turn, turn, turn_end, turn_single, turn_forked, begun_side, begun_short, IsWay, way_is, begun_goes, way_row, number_same}

-- rows that the tree is made of: distinct, not too many, each with another number than the path
-- before it
pub record AreKept (rows : List Row) : Type 0 where
  pub are : AreRows rows
  pub few : length rows ≤ 2000000
  pub fresh : (p : List Bool) (side : Bool) → is_row rows (p ++ side ∷ []) ≡ true → number_at rows (p ++ side ∷ []) ≢ number_at rows p

-- the number of a path is none, or one that can be spelled
abbrev IsFit : List Row → List Bool → Type 0
IsFit rows p = (number_at rows p ≡ 0) ⊎ HasValue coders.Asn (number_at rows p)

fits_step : (rows : List Row) → AreRows rows → (p : List Bool) (side : Bool) → IsFit rows p → IsFit rows (p ++ side ∷ [])
fits_step rows are p side before =
    elim (cases_Bool (is_row rows (p ++ side ∷ []))) [
      | inl here ↦ inr (number_value rows (p ++ side ∷ []) are here)
      | inr off ↦ subst (λ n. (n ≡ 0) ⊎ HasValue coders.Asn n) (sym (number_step rows p side off)) before
    ]

fits_first : (rows : List Row) → AreRows rows → IsFit rows []
fits_first rows are =
    elim (cases_Bool (is_row rows [])) [
      | inl here ↦ inr (number_value rows [] are here)
      | inr off ↦ inl (number_none rows off)
    ]

fits_along : (rows : List Row) → AreRows rows → (p bits : List Bool) → IsFit rows p → IsFit rows (p ++ bits)
fits_along rows are p [] before = rw append-nil before
fits_along rows are p (side ∷ bits) before = subst (IsFit rows) (append_assoc p (side ∷ []) bits) (fits_along rows are (p ++ side ∷ []) bits (fits_step rows are p side before))

pub number_fits : (rows : List Row) → AreRows rows → (p : List Bool) → IsFit rows p
number_fits rows are p = fits_along rows are [] p (fits_first rows are)

stays_step : (rows : List Row) → AreRows rows → (p : List Bool) (side : Bool) → number_at rows (p ++ side ∷ []) ≡ 0 → number_at rows p ≡ 0
stays_step rows are p side none =
    elim (cases_Bool (is_row rows (p ++ side ∷ []))) [
      | inl here ↦ absurd (omega (arith, none, (number_value rows (p ++ side ∷ []) are here).low))
      | inr off ↦ sym (number_step rows p side off) ∙ none
    ]

-- once there is a number, there is one on every path after
pub number_stays : (rows : List Row) → AreRows rows → (p bits : List Bool) → number_at rows (p ++ bits) ≡ 0 → number_at rows p ≡ 0
number_stays rows are p [] none = ap (number_at rows) (sym (append-nil p)) ∙ none
number_stays rows are p (side ∷ bits) none =
    stays_step rows are p side (number_stays rows are (p ++ side ∷ []) bits (ap (number_at rows) (append_assoc p (side ∷ []) bits) ∙ none))

pub jump_values : values_of (sizes coders.Jump) ≡ 2147483616
unfolding values_of sizes
jump_values = refl

rows_few : (rows : List Row) (p : List Bool) → rows_at rows p ≤ length rows
rows_few rows p =
    let test = λ (row : Row). begins_with (path row) p in
    omega (arith, length-filter test rows, count_by-le-length test rows)

-- a jump over the code at a path can be spelled
pub jump_value : (left : ℕ) (rows : List Row) (p : List Bool) (default : ℕ) → AreKept rows → Begun rows p → 128 ≤ left + length p → HasValue coders.Jump (length (code (tree_at left rows p default)))
jump_value left rows p default kept b long =
    let k = 128 - length p in
    let short = begun_short rows p kept.are b in
    let whole = tree_long left rows p k default kept.are b long (omega arith) in
    let few : rows_at rows p ≤ 2000000 = omega (arith, rows_few rows p, kept.few) in
    let most = mul-le-mul_right (room k) few in
    record {
      low = code_least (tree_at left rows p default);
      high = omega (arith, whole.any, most, jump_values);
    }

all_left : (k : ℕ) (t : Tree) → IsSaneWithin (k - 0) t → IsSaneWithin k t
all_left k t sane = let e : k - 0 ≡ k = omega arith in subst (λ n. IsSaneWithin n t) e sane

matches_sane : (count : ℕ) (bits : List Bool) (t : Tree) (k : ℕ) → length bits ≤ 8 * count → length bits ≤ k → (0 < length bits → IsNoShortMatch t) → IsSaneWithin (k - length bits) t → IsSaneWithin k (matches count bits t)
unfolding matches IsSaneWithin
matches_sane zero [] t k low fits short sane = all_left k t sane
matches_sane zero (b ∷ bits) t k low fits short sane = absurd (omega arith)
matches_sane (suc count) [] t k low fits short sane = all_left k t sane
matches_sane (suc count) (b ∷ bits) t k low fits short sane =
    let xs : List Bool = b ∷ bits in
    let start = take 8 xs in
    let back = drop 8 xs in
    let start_long = length-take 8 xs in
    let back_long = length-drop 8 xs in
    let left : k - length xs ≡ k - length start - length back = omega arith in
    let next : IsSaneWithin (k - length start) (matches count back t) =
    matches_sane count back t (k - length start) (omega arith) (omega arith) (λ _. short (omega arith)) (subst (λ n. IsSaneWithin n t) left sane) in
    let joined = λ (less : length start < 8).
    let none : back ≡ [] = nil_from back (omega arith) in
    let last : matches count back t ≡ t = ap (λ ys. matches count ys t) none ∙ matches_none count t in
    subst IsNoShortMatch (sym last) (short (omega arith)) in
    let is : IsMatch start (matches count back t) = record { some = omega arith; most = omega arith; joined = joined } in
    (is, omega arith, next)

matches_take : (count : ℕ) (bits : List Bool) (t : Tree) → 0 < length bits → TakesDefault (matches (suc count) bits t)
unfolding matches
matches_take count [] t some = absurd (omega arith)
matches_take count (b ∷ bits) t some = tt

-- the last of some bits
pub record Last (bits : List Bool) : Type 0 where
  pub start : List Bool
  pub bit : Bool
  pub is : bits ≡ start ++ bit ∷ []

last_of : (b : Bool) (bits : List Bool) → Last (b ∷ bits)
last_of b [] = record { start = []; bit = b; is = refl }
last_of b (c ∷ bits) = let l = last_of c bits in record { start = b ∷ l.start; bit = l.bit; is = ap (λ xs. b ∷ xs) l.is }

pub last : (bits : List Bool) → 0 < length bits → Last bits
last [] some = absurd (omega arith)
last (b ∷ bits) some = last_of b bits

-- no path on a way before its end is a row
pub way_off : (rows : List Row) (p bits start : List Bool) → IsWay rows p bits → length start < length bits → number_at rows (p ++ start) ≡ number_at rows p
way_off rows p bits start way less =
    number_same rows p start
    (λ t u e some. false_from_ne_true (is_row rows (p ++ t)) (λ h. omega (arith, begins_long t bits (way_row rows p bits t way some h), ap length e, length-append t u)))

-- a row at the end of a way has another number than the path
way_fresh : (rows : List Row) (p bits : List Bool) → AreKept rows → IsWay rows p bits → is_row rows (p ++ bits) ≡ true → number_at rows (p ++ bits) ≡ number_at rows p → ⊥
way_fresh rows p bits kept way here same =
    let l = last bits way.some in
    let e : p ++ bits ≡ (p ++ l.start) ++ l.bit ∷ [] = ap (λ xs. p ++ xs) l.is ∙ sym (append_assoc p l.start (l.bit ∷ [])) in
    let before = way_off rows p bits l.start way (omega (arith, ap length l.is, length-append l.start (l.bit ∷ []))) in
    kept.fresh (p ++ l.start) l.bit (ap (is_row rows) (sym e) ∙ here) (ap (number_at rows) (sym e) ∙ same ∙ sym before)

no_short_by : (left : ℕ) (rows : List Row) (p bits : List Bool) → AreKept rows → IsWay rows p bits → Turn rows (p ++ bits) → IsNoShortMatch (tree_at (suc left) rows (p ++ bits) (number_at rows p))
no_short_by left rows p bits kept way (turn_end is none) = rw (tree_end left rows (p ++ bits) (number_at rows p) is) tt
no_short_by left rows p bits kept way (turn_forked is goes) = rw (tree_forked left rows (p ++ bits) (number_at rows p) is) tt
no_short_by left rows p bits kept way (turn_single side is goes none) =
    let q = p ++ bits in
    let next = matches 16 (way_bits left rows q side) (tree_at left rows (q ++ way_bits left rows q side) (number_at rows q)) in
    elim way.stop [
      | inl here ↦ rw (tree_single left rows q (number_at rows p) side is, default_set (number_at rows q) (number_at rows p) next (way_fresh rows p bits kept way here)) tt
      | inr fork ↦ absurd (single_not_forked (sym is ∙ fork))
    ]

-- a way stops at no short match
no_short : (left : ℕ) (rows : List Row) (p bits : List Bool) → AreKept rows → IsWay rows p bits → IsNoShortMatch (tree_at left rows (p ++ bits) (number_at rows p))
no_short zero rows p bits kept way = rw (tree_last rows (p ++ bits) (number_at rows p)) tt
no_short (suc left) rows p bits kept way = no_short_by left rows p bits kept way (turn rows (p ++ bits))

pub end_row : (rows : List Row) (p : List Bool) → Begun rows p → ((side : Bool) → goes_on rows p side ≡ false) → is_row rows p ≡ true
end_row rows p b none = true_from_ne_false (is_row rows p) (λ off. begun_goes rows p b off none)

end_sane : (rows : List Row) (p : List Bool) (k : ℕ) → AreKept rows → Begun rows p → ((side : Bool) → goes_on rows p side ≡ false) → IsSaneWithin k (Return (number_at rows p))
unfolding IsSaneWithin
end_sane rows p k kept b none = number_value rows p kept.are (end_row rows p b none)

jump_sane : (k : ℕ) (l r : Tree) → HasValue coders.Jump (length (code l)) → IsSaneWithin k l → IsSaneWithin k r → IsSaneWithin (suc k) (Jump l r)
unfolding IsSaneWithin
jump_sane k l r value low high = let e : suc k - 1 ≡ k = omega arith in (omega arith, value, rw e low, rw e high)

default_sane : (k n : ℕ) (t : Tree) → HasValue coders.Asn n → TakesDefault t → IsSaneWithin k t → IsSaneWithin k (Default n t)
unfolding IsSaneWithin
default_sane k n t value takes sane = (value, takes, sane)

pub value_of : (rows : List Row) → AreRows rows → (p : List Bool) (default : ℕ) → (number_at rows p ≡ 0 → default ≡ 0) → (number_at rows p ≡ default → ⊥) → HasValue coders.Asn (number_at rows p)
value_of rows are p default none other =
    elim (number_fits rows are p) [
      | inl zero_here ↦ absurd (other (zero_here ∙ sym (none zero_here)))
      | inr value ↦ value
    ]

under_sane : (rows : List Row) → AreRows rows → (p : List Bool) (k default : ℕ) (t : Tree) → (number_at rows p ≡ 0 → default ≡ 0) → TakesDefault t → IsSaneWithin k t → IsSaneWithin k (under_default (number_at rows p) default t)
under_sane rows are p k default t none takes sane =
    elim (cases_eq (number_at rows p) default) [
      | inl same ↦ subst (IsSaneWithin k) (sym (default_holds (number_at rows p) default t same)) sane
      | inr other ↦ subst (IsSaneWithin k) (sym (default_set (number_at rows p) default t other)) (default_sane k (number_at rows p) t (value_of rows are p default none other) takes sane)
    ]

tree_sane_by : (left : ℕ) (rows : List Row) (p : List Bool) (k default : ℕ) → AreKept rows → Begun rows p → 128 ≤ suc left + length p → k + length p ≡ 128 → (number_at rows p ≡ 0 → default ≡ 0) → Turn rows p →
    ((q : List Bool) (j before : ℕ) → Begun rows q → 128 ≤ left + length q → j + length q ≡ 128 → (number_at rows q ≡ 0 → before ≡ 0) → IsSaneWithin j (tree_at left rows q before)) →
    IsSaneWithin k (tree_at (suc left) rows p default)
tree_sane_by left rows p k default kept b long e none (turn_end is ends) more = rw (tree_end left rows p default is) (end_sane rows p k kept b ends)
tree_sane_by left rows p zero default kept b long e none (turn_forked is goes) more =
    absurd (omega (arith, begun_short rows (p ++ true ∷ []) kept.are (begun_side rows p true (goes true)), length-append p (true ∷ [])))
tree_sane_by left rows p (suc k) default kept b long e none (turn_forked is goes) more =
    let child = λ (side : Bool).
    more (p ++ side ∷ []) k default (begun_side rows p side (goes side)) (omega (arith, length-append p (side ∷ []))) (omega (arith, length-append p (side ∷ [])))
    (λ zero_after. none (number_stays rows kept.are p (side ∷ []) zero_after)) in
    rw (tree_forked left rows p default is)
    (jump_sane k (tree_at left rows (p ++ false ∷ []) default) (tree_at left rows (p ++ true ∷ []) default)
    (jump_value left rows (p ++ false ∷ []) default kept (begun_side rows p false (goes false)) (omega (arith, length-append p (false ∷ []))))
    (child false) (child true))
tree_sane_by left rows p k default kept b long e none (turn_single side is goes off) more =
    let bits = way_bits left rows p side in
    let way = way_is left rows p side kept.are goes off long in
    let next = tree_at left rows (p ++ bits) (number_at rows p) in
    let short = begun_short rows (p ++ bits) kept.are way.begun in
    let sane = more (p ++ bits) (k - length bits) (number_at rows p) way.begun (omega (arith, length-append p bits, way.some)) (omega (arith, length-append p bits)) (number_stays rows kept.are p bits) in
    let all = matches_sane 16 bits next k (omega (arith, length-append p bits)) (omega (arith, length-append p bits)) (λ _. no_short left rows p bits kept way) sane in
    rw (tree_single left rows p default side is)
    (under_sane rows kept.are p k default (matches 16 bits next) none (matches_take 15 bits next way.some) all)

pub tree_sane : (left : ℕ) (rows : List Row) (p : List Bool) (k default : ℕ) → AreKept rows → Begun rows p → 128 ≤ left + length p → k + length p ≡ 128 → (number_at rows p ≡ 0 → default ≡ 0) → IsSaneWithin k (tree_at left rows p default)
tree_sane zero rows p k default kept b long e none = rw (tree_last rows p default) (end_sane rows p k kept b (full_end rows p kept.are (omega arith)))
tree_sane (suc left) rows p k default kept b long e none = tree_sane_by left rows p k default kept b long e none (turn rows p) (λ q j before. tree_sane left rows q j before kept)
