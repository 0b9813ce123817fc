use Rattle.std.proofs.Common.{rules, ◌≡◌, ℕ, ◌+◌, ◌^◌, ◌≤◌, List, ◌++◌, codes, decimal, refl, ap, sym, ◌∙◌, arith}
use Rattle.std.specs.Fmt.{digits}
use Rattle.map_diff.specs.Text.{count_of}
use Rattle.map_diff.proofs.text.put_count.Goals as goal

all_text : decimal (2 ^ 128) ≡ codes "340282366920938463463374607431768211456"
unfolding digits
all_text = refl

-- a sum that does not fit is 2 ^ 128
whole : (less rows n : ℕ) → (2 ^ 128 ≤ less + rows) → less + rows ≡ n → n ≤ 2 ^ 128 → n ≡ 2 ^ 128
whole less rows n past e few = omega (arith, past, e, few)

pub returns-in_ok-extend_from_slice-in-None-clause-ok : goal.returns-in_ok-extend_from_slice-in-None-clause-ok
returns-in_ok-extend_from_slice-in-None-clause-ok c =
    let n = whole c.count_of-count.result.less c.count_of-count.result.rows (count_of c.args.ipv4 c.args.rows.now) (search rules) c.count_of-count.ensures c.requires.few in
    c.in_ok-extend_from_slice-in-None.ensures.items ∙ ap (λ (t : List ℕ). c.args.out.now.items ++ t) (sym all_text ∙ ap decimal (sym n))
