-- The compiled tree gives every address the number of its longest row.
use Rattle.std.proofs.Common.{◌≡◌, ℕ, zero, suc, ◌+◌, ◌*◌, ◌<◌, ◌≤◌, Bool, true, false, ◌&&◌, cond, List, [], ◌∷◌, ◌++◌, length, take, drop, refl, ap, sym, ◌∙◌, arith, append_assoc, length-append, inl, inr}
use Rattle.std.proofs.lemmas.Bool.{cases_Bool, cases_eq, cond-true, cond-false}
use Rattle.std.proofs.lemmas.List.{take-append-drop, drop-drop, length-drop, drop_at}
use Rattle.bit_code.specs.Prefixes.{begins_with}
use Rattle.asmap_vm.specs.Code.{Tree, Return, Jump, meaning}
use Rattle.prefix_table.specs.declared.rows.Row.{Row}
use Rattle.prefix_table.specs.Rows.{number_at}
use Rattle.asmap_compile.specs.Compiled.{matches, under_default, tree_at}
use Rattle.bit_code.proofs.PrefixLaws.{begins_cut, begins_long}
use Rattle.prefix_table.proofs.PathLaws.{AreRows}
use Rattle.asmap_compile.proofs.Trees.{tree_last, tree_end, way_bits, tree_single, tree_forked, full_end, default_holds, default_set}
use Rattle.asmap_compile.proofs.Ways.{turn, turn_end, turn_single, turn_forked, begun_side, begun_short, IsWay, way_is, number_end, number_off}

begins_append : (a b rest : List Bool) → begins_with rest (a ++ b) ≡ (begins_with rest a && begins_with (drop (length a) rest) b)
unfolding begins_with
begins_append [] b rest = refl
begins_append (x ∷ a) b [] = refl
begins_append (true ∷ a) b (true ∷ rest) = begins_append a b rest
begins_append (false ∷ a) b (false ∷ rest) = begins_append a b rest
begins_append (true ∷ a) b (false ∷ rest) = refl
begins_append (false ∷ a) b (true ∷ rest) = refl

cond_and : {A : Type 0} (x y : Bool) (a b : A) → cond (x && y) a b ≡ cond x (cond y a b) b
cond_and true y a b = refl
cond_and false y a b = refl

-- matches in a row are one match of all their bits
pub matches_mean : (count : ℕ) (bits : List Bool) (t : Tree) (rest : List Bool) (default : ℕ) → length bits ≤ 8 * count →
    meaning (matches count bits t) rest default ≡ cond (begins_with rest bits) (meaning t (drop (length bits) rest) default) default
unfolding matches meaning begins_with
matches_mean zero [] t rest default low = refl
matches_mean zero (b ∷ bits) t rest default low = absurd (omega arith)
matches_mean (suc count) [] t rest default low = refl
matches_mean (suc count) (b ∷ bits) t rest default low =
    let xs : List Bool = b ∷ bits in
    let start = take 8 xs in
    let back = drop 8 xs in
    let whole : start ++ back ≡ xs = take-append-drop 8 xs in
    let more = matches_mean count back t (drop (length start) rest) default (omega (arith, length-drop 8 xs)) in
    let places : length start + length back ≡ length xs = sym (length-append start back) ∙ ap length whole in
    let past : drop (length back) (drop (length start) rest) ≡ drop (length xs) rest = drop-drop (length back) (length start) rest ∙ ap (λ n. drop n rest) places in
    ap (λ m. cond (begins_with rest start) m default) (more ∙ ap (λ r. cond (begins_with (drop (length start) rest) back) (meaning t r default) default) past)
    ∙ sym (cond_and (begins_with rest start) (begins_with (drop (length start) rest) back) (meaning t (drop (length xs) rest) default) default)
    ∙ ap (λ b. cond b (meaning t (drop (length xs) rest) default) default) (sym (begins_append start back rest) ∙ ap (begins_with rest) whole)

default_mean : (default before : ℕ) (t : Tree) (rest : List Bool) → meaning (under_default default before t) rest before ≡ meaning t rest default
unfolding meaning
default_mean default before t rest =
    elim (cases_eq default before) [
      | inl same ↦ ap (λ u. meaning u rest before) (default_holds default before t same) ∙ ap (meaning t rest) (sym same)
      | inr other ↦ ap (λ u. meaning u rest before) (default_set default before t other)
    ]

-- a tree that jumps, by the bits that are left
jump_mean : (l r : Tree) (rest : List Bool) (default answer : ℕ) → 0 < length rest →
    ((side : Bool) (more : List Bool) → rest ≡ side ∷ more → meaning (cond side r l) more default ≡ answer) → meaning (Jump l r) rest default ≡ answer
unfolding meaning
jump_mean l r [] default answer some each = absurd (omega arith)
jump_mean l r (true ∷ rest) default answer some each = each true rest refl
jump_mean l r (false ∷ rest) default answer some each = each false rest refl

side_mean : (l r : Tree) (more : List Bool) (default answer : ℕ) (side : Bool) → (side ≡ false → meaning l more default ≡ answer) → (side ≡ true → meaning r more default ≡ answer) → meaning (cond side r l) more default ≡ answer
side_mean l r more default answer true low high = high refl
side_mean l r more default answer false low high = low refl

return_mean : (n : ℕ) (rest : List Bool) (default : ℕ) → meaning (Return n) rest default ≡ n
unfolding meaning
return_mean n rest default = refl

way_mean : (rows : List Row) (p bits rest : List Bool) (t : Tree) → IsWay rows p bits → length bits ≤ 128 →
    (begins_with rest bits ≡ true → meaning t (drop (length bits) rest) (number_at rows p) ≡ number_at rows (p ++ rest)) →
    meaning (matches 16 bits t) rest (number_at rows p) ≡ number_at rows (p ++ rest)
way_mean rows p bits rest t way low on =
    let m = matches_mean 16 bits t rest (number_at rows p) (omega arith) in
    elim (cases_Bool (begins_with rest bits)) [
      | inl starts ↦ m ∙ cond-true (begins_with rest bits) (meaning t (drop (length bits) rest) (number_at rows p)) (number_at rows p) starts ∙ on starts
      | inr off ↦ m ∙ cond-false (begins_with rest bits) (meaning t (drop (length bits) rest) (number_at rows p)) (number_at rows p) off ∙ sym (number_off rows p bits rest way off)
    ]

on_way : (bits rest : List Bool) → begins_with rest bits ≡ true → bits ++ drop (length bits) rest ≡ rest
on_way bits rest h =
    let f = begins_cut rest bits h in
    ap (λ xs. bits ++ drop (length bits) xs) f.is ∙ ap (λ xs. bits ++ xs) (drop_at bits f.rest (length bits) refl) ∙ sym f.is

pub tree_mean : (left : ℕ) (rows : List Row) (p rest : List Bool) (default : ℕ) → AreRows rows → 128 ≤ left + length p → 128 ≤ length p + length rest → meaning (tree_at left rows p default) rest default ≡ number_at rows (p ++ rest)
tree_mean zero rows p rest default are long full =
    ap (λ t. meaning t rest default) (tree_last rows p default) ∙ return_mean (number_at rows p) rest default ∙ sym (number_end rows p rest (full_end rows p are (omega arith)))
tree_mean (suc left) rows p rest default are long full =
    elim (turn rows p) [
      | turn_end is none ↦
          ap (λ t. meaning t rest default) (tree_end left rows p default is) ∙ return_mean (number_at rows p) rest default ∙ sym (number_end rows p rest none)
      | turn_single side is goes none ↦
          let bits = way_bits left rows p side in
          let way = way_is left rows p side are goes none long in
          let next = tree_at left rows (p ++ bits) (number_at rows p) in
          let short = begun_short rows (p ++ bits) are way.begun in
          ap (λ t. meaning t rest default) (tree_single left rows p default side is)
          ∙ default_mean (number_at rows p) default (matches 16 bits next) rest
          ∙ way_mean rows p bits rest next way (omega (arith, length-append p bits))
          (λ starts.
          tree_mean left rows (p ++ bits) (drop (length bits) rest) (number_at rows p) are (omega (arith, length-append p bits, way.some)) (omega (arith, length-append p bits, length-drop (length bits) rest, begins_long rest bits starts))
          ∙ ap (number_at rows) (append_assoc p bits (drop (length bits) rest) ∙ ap (λ xs. p ++ xs) (on_way bits rest starts)))
      | turn_forked is goes ↦
          let l = tree_at left rows (p ++ false ∷ []) default in
          let r = tree_at left rows (p ++ true ∷ []) default in
          let short = begun_short rows (p ++ true ∷ []) are (begun_side rows p true (goes true)) in
          let child = λ (side : Bool) (more : List Bool) (e : rest ≡ side ∷ more).
          tree_mean left rows (p ++ side ∷ []) more default are (omega (arith, length-append p (side ∷ []))) (omega (arith, length-append p (side ∷ []), ap length e))
          ∙ ap (number_at rows) (append_assoc p (side ∷ []) more ∙ ap (λ xs. p ++ xs) (sym e)) in
          ap (λ t. meaning t rest default) (tree_forked left rows p default is)
          ∙ jump_mean l r rest default (number_at rows (p ++ rest)) (omega (arith, length-append p (true ∷ [])))
          (λ side more e. side_mean l r more default (number_at rows (p ++ rest)) side (λ is. child false more (e ∙ ap (λ b. b ∷ more) is)) (λ is. child true more (e ∙ ap (λ b. b ∷ more) is)))
    ]
