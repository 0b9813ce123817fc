use Rattle.std.proofs.Common.{◌≡◌, ℕ, ◌+◌, ◌≤◌, List, [], ◌∷◌, length, ap, arith}
use Rattle.prefix_table.specs.declared.rows.Row.{Row}
use Rattle.prefix_table.specs.declared.rows.TheConstants.{MAX_ROWS}
use Rattle.asmap_back.proofs.BackLaws.{back_best}
use Rattle.asmap_back.proofs.decompiling.fits_table.Goals as goal

-- one row more is counted
one_more : (all count : ℕ) (left after : List Row) (row : Row) → all ≡ count + length left → left ≡ row ∷ after → all ≡ count + 1 + length after
one_more all count left after row e is = omega (arith, e, ap (λ (rs : List Row). length rs) is)

-- no row is left
all_counted : (all count : ℕ) (left : List Row) → all ≡ count + length left → left ≡ [] → count ≤ MAX_ROWS → all ≤ MAX_ROWS
all_counted all count left e none few = omega (arith, e, few, ap (λ (rs : List Row). length rs) none)

pub returns-then-count-eq-MAX_ROWS-clause-many : goal.returns-then-count-eq-MAX_ROWS-clause-many
returns-then-count-eq-MAX_ROWS-clause-many c = λ _.
    let now = c.loop-count.invariant in
    let next = c.in-Some.ensures.row now.left now.has in
    omega (arith, one_more _ _ now.left next.0 c.in-Some.field-0 now.all next.1, c.if-count-eq-MAX_ROWS.true)

pub loop-count-preserved : goal.loop-count-preserved
loop-count-preserved c =
    let now = c.loop-count.invariant in
    let next = c.in-Some.ensures.row now.left now.has in
    record {
      left = next.0;
      has = next.2;
      all = one_more _ _ now.left next.0 c.in-Some.field-0 now.all next.1;
      few = omega (arith, now.few, c.if-count-eq-MAX_ROWS.false);
    }

pub returns-clause-few : goal.returns-clause-few
returns-clause-few c = λ _.
    let now = c.loop-count.invariant in
    all_counted _ _ now.left now.all (c.in_default.ensures.row now.left now.has).0 now.few

pub returns-clause-best : goal.returns-clause-best
returns-clause-best c = λ _ bits long.
    let now = c.loop-count.invariant in
    back_best _ bits c.args.code.now.sane.sane (all_counted _ _ now.left now.all (c.in_default.ensures.row now.left now.has).0 now.few) long
