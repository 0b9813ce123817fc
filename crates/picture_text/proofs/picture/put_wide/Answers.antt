use Rattle.std.proofs.Common.{List, ℕ, ◌++◌, ap, ◌∙◌, append_assoc}
use Rattle.std.specs.Prelude.{codes, decimal}
use Rattle.picture_text.specs.Elements.{wide_text}
use Rattle.picture_text.proofs.picture.put_wide.Goals as goal

pub returns : goal.returns
unfolding wide_text
returns c =
    let label : List ℕ = codes "<text x=\"694\" y=\"644\">Groups in more than 32 of the 1024 new buckets: " in
    c.in_ok-put_text.ensures.ok ∙ ap (λ (t : List ℕ). t ++ codes "</text>\n") c.in_ok-put_number.ensures.ok
    ∙ append_assoc (c.args.out.now.items ++ label) (decimal c.args.count) (codes "</text>\n")
    ∙ append_assoc c.args.out.now.items label (decimal c.args.count ++ codes "</text>\n")
