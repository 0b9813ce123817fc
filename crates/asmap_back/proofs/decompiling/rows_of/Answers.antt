use Rattle.std.proofs.Common.{rules, ◌≡◌, ℕ, ◌≤◌, ◌<◌, List, [], ◌∷◌, ◌++◌, length, refl, ap, sym, ◌∙◌, arith, append_assoc, append-nil, length-append}
use Rattle.prefix_table.specs.declared.rows.Row.{Row}
use Rattle.prefix_table.specs.declared.rows.TheConstants.{MAX_ROWS}
use Rattle.asmap_back.proofs.decompiling.rows_of.Goals as goal

-- the next row is put last
one_more : (all now new left after : List Row) (row : Row) → all ≡ now ++ left → left ≡ row ∷ after → new ≡ now ++ row ∷ [] → all ≡ new ++ after
one_more all now new left after row e is n =
    e ∙ ap (λ (rs : List Row). now ++ rs) is ∙ sym (append_assoc now (row ∷ []) after) ∙ ap (λ (rs : List Row). rs ++ after) (sym n)

-- a row comes after the most rows
too_many : (all now left after : List Row) (row : Row) (count : ℕ) → all ≡ now ++ left → left ≡ row ∷ after → MAX_ROWS ≤ count → count ≡ length now → MAX_ROWS < length all
too_many all now left after row count e is full same =
    omega (arith, full, same, ap (λ (rs : List Row). length rs) e, length-append now left, ap (λ (rs : List Row). length rs) is)

-- no row is left
all_there : (all now left : List Row) → all ≡ now ++ left → left ≡ [] → now ≡ all
all_there all now left e none = sym (e ∙ ap (λ (rs : List Row). now ++ rs) none ∙ append-nil now)

-- the list with one row more
longer : (now new : List Row) (row : Row) (count : ℕ) → new ≡ now ++ row ∷ [] → count < MAX_ROWS → count ≡ length now → length new ≤ MAX_ROWS
longer now new row count e few same = omega (arith, few, same, ap (λ (rs : List Row). length rs) e, length-append now (row ∷ []))

pub returns-then-len-ge-MAX_ROWS-clause-cause : goal.returns-then-len-ge-MAX_ROWS-clause-cause
returns-then-len-ge-MAX_ROWS-clause-cause c =
    let now = c.loop-row.invariant in
    let next = c.in-Some.ensures.row now.after now.has in
    (refl, too_many _ c.loop-row.rows.items now.after next.0 c.in-Some.row c.len.result now.all next.1 c.if-len-ge-MAX_ROWS.true (search rules))

pub loop-row-preserved : goal.loop-row-preserved
loop-row-preserved c =
    let now = c.loop-row.invariant in
    let next = c.in-Some.ensures.row now.after now.has in
    let put = c.push_reserved.ensures.items ∙ ap (λ (rs : List Row). rs ++ c.in-Some.row ∷ []) c.in_ok-reserve.ensures.items in
    record {
      after = next.0;
      has = next.2;
      all = one_more _ c.loop-row.rows.items _ now.after next.0 c.in-Some.row now.all next.1 put;
      few = longer c.loop-row.rows.items _ c.in-Some.row c.len.result put c.if-len-ge-MAX_ROWS.false (search rules);
    }

pub returns-clause-found : goal.returns-clause-found
returns-clause-found c =
    let now = c.loop-row.invariant in
    all_there _ c.loop-row.rows.items now.after now.all (c.in_default.ensures.row now.after now.has).0

pub returns-clause-few : goal.returns-clause-few
returns-clause-few c =
    let now = c.loop-row.invariant in
    let same = all_there _ c.loop-row.rows.items now.after now.all (c.in_default.ensures.row now.after now.has).0 in
    omega (arith, now.few, ap (λ (rs : List Row). length rs) same)
