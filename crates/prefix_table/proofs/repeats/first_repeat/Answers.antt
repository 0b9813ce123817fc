use Rattle.std.proofs.Common.{ℕ, ◌+◌, ◌≤◌, List, length, Option, Some, None, sym, subst, arith, refl}
use Rattle.std.proofs.lemmas.Bool.{false≢true}
use Rattle.std.specs.Prelude.{IfSome, IfNone}
use Rattle.prefix_table.specs.Numbered.{IsRepeatAt}
use Rattle.prefix_table.specs.declared.numbered.NumberedRow.{NumberedRow}
use Rattle.prefix_table.proofs.RepeatLaws.{IsFirstBelow, no_repeat_here, repeat_here}
use Rattle.prefix_table.proofs.repeats.first_repeat.Goals as goal
use Rattle.prefix_table.proofs.repeats.first_repeat.Goals.{then-is_same_prefix, else-is_same_prefix}

abbrev blank : NumberedRow
blank = record { bits = 0; len = 0; line = 0; asn = 0 }

least_of : (rows : List NumberedRow) (i : ℕ) (o : Option ℕ) → IsFirstBelow rows i o → length rows ≤ i → IfSome o (λ n. (k m : ℕ) → IsRepeatAt rows k m → n ≤ m)
least_of rows i None first all = tt
least_of rows i (Some n) first all = λ k m is. first.1 k m (omega (arith, is.within)) is

none_of : (rows : List NumberedRow) (i : ℕ) (o : Option ℕ) → IsFirstBelow rows i o → length rows ≤ i → IfNone o ((k m : ℕ) → IsRepeatAt rows k m → ⊥)
none_of rows i None first all = λ k m is. first k m (omega (arith, is.within)) is
none_of rows i (Some n) first all = tt

pub loop-i-preserved : goal.loop-i-preserved
loop-i-preserved c = elim c.if-is_same_prefix.branch [
  | then-is_same_prefix w ↦
      let below = repeat_here c.args.rows.now c.loop-i.i c.loop-i.first blank w.earlier.result (omega arith) (omega arith) (w.if-is_same_prefix.ensures.0 refl) w.earlier.ensures c.loop-i.invariant in
      subst (λ o. IsFirstBelow c.args.rows.now (c.loop-i.i + 1) o) (sym w.first-is) below
  | else-is_same_prefix w ↦
      let below = no_repeat_here c.args.rows.now c.loop-i.i c.loop-i.first blank (omega arith) (λ same. false≢true (w.if-is_same_prefix.ensures.1 same)) c.loop-i.invariant in
      subst (λ o. IsFirstBelow c.args.rows.now (c.loop-i.i + 1) o) (sym w.first-is) below
]

pub returns-clause-least : goal.returns-clause-least
returns-clause-least c = least_of c.args.rows.now c.loop-i.i c.loop-i.first c.loop-i.invariant c.loop-i-test.false

pub returns-clause-none : goal.returns-clause-none
returns-clause-none c = none_of c.args.rows.now c.loop-i.i c.loop-i.first c.loop-i.invariant c.loop-i-test.false
