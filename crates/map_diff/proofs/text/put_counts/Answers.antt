use Rattle.std.proofs.Common.{◌≡◌, ℕ, true, false, List, [], ◌∷◌, ◌++◌, codes, decimal, ap, ◌∙◌, append_assoc}
use Rattle.map_diff.specs.Text.{count_of, counts_text}
use Rattle.map_diff.proofs.text.put_counts.Goals as goal

six : (before a b c d e f : List ℕ) → (((((before ++ a) ++ b) ++ c) ++ d) ++ e) ++ f ≡ before ++ (a ++ b ++ c ++ d ++ e ++ f)
six before a b c d e f = simp append_assoc

pub returns-clause-ok : goal.returns-clause-ok
unfolding counts_text
returns-clause-ok c =
    let four = decimal (count_of true c.args.rows.now) in
    let others = decimal (count_of false c.args.rows.now) in
    let start = c.in_ok-extend_from_slice.ensures.items in
    let with_four = c.in_ok-put_count.ensures.ok ∙ ap (λ (xs : List ℕ). xs ++ four) start in
    let between = c.in_ok-extend_from_slice-2.ensures.items ∙ ap (λ (xs : List ℕ). xs ++ codes " IPv4 addresses changed; ") with_four in
    let with_others = c.in_ok-put_count-2.ensures.ok ∙ ap (λ (xs : List ℕ). xs ++ others) between in
    let text = c.in_ok-extend_from_slice-3.ensures.items ∙ ap (λ (xs : List ℕ). xs ++ codes " IPv6 addresses changed") with_others in
    c.in_ok-extend_from_slice-4.ensures.items ∙ ap (λ (xs : List ℕ). xs ++ 10 ∷ []) text
    ∙ six c.args.out.now.items (codes "# ") four (codes " IPv4 addresses changed; ") others (codes " IPv6 addresses changed") (10 ∷ [])
