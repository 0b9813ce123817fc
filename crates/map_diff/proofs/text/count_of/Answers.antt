use Rattle.std.proofs.Common.{◌≡◌, ℕ, ◌+◌, ◌<◌, ◌≤◌, Bool, true, false, List, [], ◌∷◌, length, get_or, take, cond, refl, ap, sym, ◌∙◌, arith, sum_by}
use Rattle.std.proofs.lemmas.List.Sums.{sum_by-append, sum_by-cons, sum_by-take-le}
use Rattle.std.proofs.lemmas.Grind.{take_at_read}
use Rattle.map_diff.specs.Text.{is_counted, span, count_of}
use Rattle.map_diff.specs.declared.changed.ChangedPrefix.{ChangedPrefix}
use Rattle.map_diff.specs.declared.text.Count.{Count}
use Rattle.map_diff.proofs.Texts.{blank}
use Rattle.map_diff.proofs.text.count_of.Goals.{then-is_counted, else-is_counted}
use Rattle.map_diff.proofs.text.count_of.Goals as goal

-- what a row adds to the count
abbrev part_of : Bool → ChangedPrefix → ℕ
part_of ipv4 row = cond (is_counted ipv4 row) (span row) 0

none_counted : (ipv4 : Bool) → count_of ipv4 [] ≡ 0
unfolding count_of
none_counted ipv4 = refl

-- one more row
more_counted : (ipv4 : Bool) (rows : List ChangedPrefix) (i : ℕ) → i < length rows → count_of ipv4 (take (i + 1) rows) ≡ count_of ipv4 (take i rows) + part_of ipv4 (get_or rows i blank)
unfolding count_of
more_counted ipv4 rows i within =
    let row = get_or rows i blank in
    ap (λ (xs : List ChangedPrefix). sum_by (part_of ipv4) xs) (take_at_read rows i blank within).1
    ∙ sum_by-append (part_of ipv4) (take i rows) (row ∷ [])
    ∙ ap (λ n. sum_by (part_of ipv4) (take i rows) + n) (sum_by-cons (part_of ipv4) row [] ∙ plus_zero (part_of ipv4 row))
  where
    plus_zero : (n : ℕ) → n + 0 ≡ n
    plus_zero n = omega arith

most_counted : (ipv4 : Bool) (rows : List ChangedPrefix) (i : ℕ) → count_of ipv4 (take i rows) ≤ count_of ipv4 rows
unfolding count_of
most_counted ipv4 rows i = sum_by-take-le (part_of ipv4) rows i

counted : (ipv4 : Bool) (row : ChangedPrefix) → is_counted ipv4 row ≡ true → part_of ipv4 row ≡ span row
counted ipv4 row e = ap (λ b. cond b (span row) 0) e

left_out : (ipv4 : Bool) (row : ChangedPrefix) → is_counted ipv4 row ≡ false → part_of ipv4 row ≡ 0
left_out ipv4 row e = ap (λ b. cond b (span row) 0) e

pub loop-row-init : goal.loop-row-init
loop-row-init c = record { counted = sym (none_counted c.args.ipv4); few = omega arith }

pub overflow_add-count : goal.overflow_add-count
overflow_add-count c =
    let i = c.loop-row.row-index in
    let rows = c.args.rows.now in
    let row = get_or rows i blank in
    omega (
      arith,
      c.loop-row.invariant.counted,
      more_counted c.args.ipv4 rows i c.loop-row-test.true,
      most_counted c.args.ipv4 rows (i + 1),
      counted c.args.ipv4 row (sym c.is_counted.ensures ∙ c.if-is_counted.true),
      c.span_less_one.ensures,
      c.requires.few,
    )

pub loop-row-preserved : goal.loop-row-preserved
loop-row-preserved c = elim c.if-is_counted.branch [
  | then-is_counted w ↦ record {
    counted = omega (
      arith,
      ap (λ (x : Count). x.less + x.rows) w.count-is,
      c.loop-row.invariant.counted,
      more_counted c.args.ipv4 c.args.rows.now c.loop-row.row-index c.loop-row-test.true,
      counted c.args.ipv4 (get_or c.args.rows.now c.loop-row.row-index blank) (sym c.is_counted.ensures ∙ w.if-is_counted.true),
      w.span_less_one.ensures,
    );
    few = omega (arith, ap (λ (x : Count). x.rows) w.count-is, c.loop-row.invariant.few);
  }
  | else-is_counted w ↦ record {
    counted = omega (
      arith,
      ap (λ (x : Count). x.less + x.rows) w.count-is,
      c.loop-row.invariant.counted,
      more_counted c.args.ipv4 c.args.rows.now c.loop-row.row-index c.loop-row-test.true,
      left_out c.args.ipv4 (get_or c.args.rows.now c.loop-row.row-index blank) (sym c.is_counted.ensures ∙ w.if-is_counted.false),
    );
    few = omega (arith, ap (λ (x : Count). x.rows) w.count-is, c.loop-row.invariant.few);
  }
]
