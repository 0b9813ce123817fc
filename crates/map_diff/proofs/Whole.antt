-- The changes of two whole files.
use Rattle.std.proofs.Common.{◌≡◌, ℕ, suc, false, ◌-◌, ◌<◌, ◌≤◌, Bool, List, [], ◌∷◌, map, length, refl, ap, ◌∙◌, subst, arith, replicate}
use Rattle.bit_code.specs.Coder.{file_bits}
use Rattle.asmap_vm.specs.Code.{Tree, code, IsSaneFile}
use Rattle.asmap_vm.specs.Held.{bytes_held, tree_held}
use Rattle.asmap_vm.specs.declared.sane.Sane.{Sane}
use Rattle.prefix_table.specs.declared.rows.TheConstants.{MAX_ROWS}
use Rattle.map_diff.specs.Diff.{Change, changes_of, map_of, changed_at, changed_prefixes}
use Rattle.map_diff.specs.Inside.{IsTree, IsMap, AreMaps, part_at, rows_at, HasCause}
use Rattle.map_diff.specs.declared.cursor.Cursor.{Cursor}
use Rattle.map_diff.specs.declared.fault.DiffFault.{DiffFault}
use Rattle.map_diff.specs.declared.fault.DiffFault.TheVariants.{TooMany, Memory}
use Rattle.asmap_back.proofs.Steps.{first_none}

whole_by : (t : Tree) (bits : List Bool) (bytes : List ℕ) → bits ≡ file_bits bytes → IsSaneFile t bytes → IsTree bits 128 0 0 (map_of t)
whole_by t bits bytes e file =
    record {
      within = omega arith;
      tree = t;
      rest = replicate (length (file_bits bytes) - length (code t)) false;
      has = record { sane = file.sane; spelled = e ∙ file.file.spelled };
      map_is = refl;
    }

-- the whole tree of a checked file is at its start
pub whole_tree : (s : Sane) (bits : List Bool) (bytes : List ℕ) → bytes ≡ bytes_held s → bits ≡ file_bits bytes → IsSaneFile (tree_held s) (bytes_held s) → IsTree bits 128 0 0 (map_of (tree_held s))
whole_tree s bits bytes e f file = whole_by (tree_held s) bits (bytes_held s) (f ∙ ap file_bits e) file

-- two cursors at the starts stand for the maps of the files
pub whole_maps : (old_bits new_bits : List Bool) (from to : Cursor) (f g : List Bool → ℕ) → IsMap old_bits 128 from f → IsMap new_bits 128 to g → AreMaps old_bits new_bits (record { bits = 0; len = 0 }) from to [] f g
whole_maps old_bits new_bits from to f g old new =
    record { len = refl; bits = first_none; short = omega arith; old = old; new = new }

pub changed_are : (old new : Tree) → rows_at [] (changes_of (part_at [] (map_of old) (map_of new))) ≡ changed_prefixes old new
unfolding rows_at
changed_are old new = refl

rows_long : (p : List Bool) (cs : List Change) → length (map (changed_at p) cs) ≡ length cs
rows_long p [] = refl
rows_long p (c ∷ cs) = ap suc (rows_long p cs)

-- too many rows with 128 bits left are too many changes
pub whole_cause : (old new : Tree) (n : ℕ) (fault : DiffFault) → n ≤ 128 → HasCause [] (part_at [] (map_of old) (map_of new)) n fault → fault ≡ TooMany → MAX_ROWS < length (changed_prefixes old new)
whole_cause old new n TooMany few cause e = omega (arith, cause, rows_long [] (changes_of (part_at [] (map_of old) (map_of new))))
whole_cause old new n Memory few cause e = absurd (memory_not e)
  where
    memory_not : Memory ≡ TooMany → ⊥
    memory_not e = subst (λ x. elim x as (λ _. Type 0) [ TooMany ↦ ⊥ | Memory ↦ Unit {0} ]) e tt
