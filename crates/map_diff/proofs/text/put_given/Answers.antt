use Rattle.std.proofs.Common.{◌≡◌, List, ◌++◌, ℕ, codes, decimal, ap, ◌∙◌, append_assoc}
use Rattle.map_diff.proofs.Texts.{on_err, kept}
use Rattle.map_diff.proofs.text.put_given.Goals as goal

four : (before a b c d : List ℕ) → (((before ++ a) ++ b) ++ c) ++ d ≡ before ++ (a ++ b ++ c ++ d)
four before a b c d = simp append_assoc

pub returns-in_err-put_number-clause-err : goal.returns-in_err-put_number-clause-err
returns-in_err-put_number-clause-err c =
    let before = c.args.out.now.items in
    let tag = c.in_ok-extend_from_slice.ensures.items ∙ ap (λ (xs : List ℕ). xs ++ codes " AS") c.in_ok-put_prefix.ensures.ok in
    let asn = c.as_bytes.ensures.value ∙ c.format.ensures.text in
    let with_asn = c.in_ok-extend_from_slice-2.ensures.items ∙ (λ i. tag i ++ asn i) in
    let was = c.in_ok-extend_from_slice-3.ensures.items ∙ ap (λ (xs : List ℕ). xs ++ codes " # was ") with_asn in
    on_err c.from_residual-in_err-put_number.result _
    (kept before _ c.put_number.new.out.items _ (was ∙ four before _ (codes " AS") (decimal c.args.change.new) (codes " # was ")) c.in_err-put_number.ensures.err)
