-- The tree of a path, by how rows extend it.
use Rattle.std.proofs.Common.{◌≡◌, ℕ, suc, ◌≤◌, Bool, true, false, List, [], ◌∷◌, ◌++◌, length, refl, arith, length-append}
use Rattle.std.proofs.lemmas.Bool.{false_from_ne_true, eq-eqb, ne_eqb}
use Rattle.asmap_vm.specs.Code.{Tree, Return, Jump, Default}
use Rattle.prefix_table.specs.declared.rows.Row.{Row}
use Rattle.prefix_table.specs.Rows.{number_at}
use Rattle.asmap_compile.specs.Compiled.{goes_on, End, Single, Forked, onward, stretch, matches, under_default, tree_at}
use Rattle.prefix_table.proofs.PathLaws.{AreRows}
use Rattle.asmap_compile.proofs.Ways.{begun_side, begun_short}

pub tree_last : (rows : List Row) (p : List Bool) (default : ℕ) → tree_at 0 rows p default ≡ Return (number_at rows p)
unfolding tree_at
tree_last rows p default = refl

pub tree_end : (left : ℕ) (rows : List Row) (p : List Bool) (default : ℕ) → onward rows p ≡ End → tree_at (suc left) rows p default ≡ Return (number_at rows p)
unfolding tree_at
tree_end left rows p default e = rw (e, tree_at) refl

-- the bits of a single path, up to its end
abbrev pub way_bits : ℕ → List Row → List Bool → Bool → List Bool
way_bits left rows p side = side ∷ stretch left rows (p ++ side ∷ [])

pub tree_single : (left : ℕ) (rows : List Row) (p : List Bool) (default : ℕ) (side : Bool) → onward rows p ≡ Single side →
    tree_at (suc left) rows p default
    ≡ under_default (number_at rows p) default (matches 16 (way_bits left rows p side) (tree_at left rows (p ++ way_bits left rows p side) (number_at rows p)))
unfolding tree_at
tree_single left rows p default side e = rw (e, tree_at) refl

pub tree_forked : (left : ℕ) (rows : List Row) (p : List Bool) (default : ℕ) → onward rows p ≡ Forked →
    tree_at (suc left) rows p default ≡ Jump (tree_at left rows (p ++ false ∷ []) default) (tree_at left rows (p ++ true ∷ []) default)
unfolding tree_at
tree_forked left rows p default e = rw (e, tree_at) refl

-- no row is longer than an address
pub full_end : (rows : List Row) (p : List Bool) → AreRows rows → 128 ≤ length p → (side : Bool) → goes_on rows p side ≡ false
full_end rows p are long side =
    false_from_ne_true (goes_on rows p side)
    (λ h. omega (arith, begun_short rows (p ++ side ∷ []) are (begun_side rows p side h), length-append p (side ∷ [])))

pub default_holds : (default before : ℕ) (t : Tree) → default ≡ before → under_default default before t ≡ t
unfolding under_default
default_holds default before t e = rw (eq-eqb default before e, under_default) refl

pub default_set : (default before : ℕ) (t : Tree) → (default ≡ before → ⊥) → under_default default before t ≡ Default default t
unfolding under_default
default_set default before t e = rw (ne_eqb default before e, under_default) refl
