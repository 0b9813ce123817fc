use Rattle.std.proofs.Common.{◌≡◌, ℕ, ◌-◌, Bool, true, false, List, sym, ◌∙◌, subst}
use Rattle.bit_code.specs.Coder.{has_bit}
use Rattle.map_diff.specs.Inside.{IsMap, IsMatching}
use Rattle.map_diff.specs.declared.cursor.Cursor.{Cursor}
use Rattle.map_diff.specs.declared.cursor.Cursor.TheVariants as cursors
use Rattle.map_diff.proofs.Parts.{true_false}
use Rattle.map_diff.proofs.Cursors.{after_other}
use Rattle.map_diff.proofs.cursor.sides.Goals as goal

-- the cursor by its parts
matching_by : (bits : List Bool) (n : ℕ) (cursor : Cursor) (number size offset default : ℕ) (f : List Bool → ℕ) → cursor ≡ cursors.Match number size offset default → IsMap bits n cursor f → IsMatching bits n number size offset default f
matching_by bits n cursor number size offset default f e h = subst (λ x. IsMap bits n x f) e h

pub returns-then-has_bit-clause-zero : goal.returns-then-has_bit-clause-zero
returns-then-has_bit-clause-zero c = λ n f h.
    let m = c.in-Match in
    let set : has_bit m.number (m.size - 1) ≡ true = sym c.has_bit.ensures ∙ c.if-has_bit.true in
    after_other c.args.bits.now n m.number m.size m.offset m.default f false (matching_by _ n c.args.cursor _ _ _ _ f m.is h) (λ e. true_false (sym set ∙ e))

pub returns-else-has_bit-clause-one : goal.returns-else-has_bit-clause-one
returns-else-has_bit-clause-one c = λ n f h.
    let m = c.in-Match in
    let unset : has_bit m.number (m.size - 1) ≡ false = sym c.has_bit.ensures ∙ c.if-has_bit.false in
    after_other c.args.bits.now n m.number m.size m.offset m.default f true (matching_by _ n c.args.cursor _ _ _ _ f m.is h) (λ e. true_false (sym e ∙ unset))
