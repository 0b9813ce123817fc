use Rattle.std.proofs.Common.{◌≡◌, ◌++◌, rules, ◌∙◌}
use Rattle.std.proofs.lemmas.List.{append_assoc}
use Rattle.table_groups.specs.View.{view_of}
use Rattle.table_risk.specs.SetTexts.{lines_at, ten_line}
use Rattle.table_risk.specs.Tens.{ten_part}
use Rattle.table_risk.specs.Texts.{heading_of}
use Rattle.table_risk.proofs.set_text.sets_text.Goals as goal

pub ten_part-requires : goal.ten_part-requires
ten_part-requires g c = c.in_ok-known.ensures.sound

pub returns : goal.returns
returns g c =
    let st = c.args.tables.now in
    let head : c.put_heading_of.new.out.items ≡ heading_of (view_of st) = search rules in
    let lines : c.put_lines.new.out.items ≡ c.put_heading_of.new.out.items ++ lines_at st c.args.now c.args.sets.now = search rules in
    c.in_ok-put_ten_line.ensures ∙ (λ i. lines i ++ ten_line (c.in_ok-part.ensures i))
    ∙ (λ i. (head i ++ lines_at st c.args.now c.args.sets.now) ++ ten_line (ten_part st c.args.now c.args.sets.now))
    ∙ append_assoc (heading_of (view_of st)) (lines_at st c.args.now c.args.sets.now) (ten_line (ten_part st c.args.now c.args.sets.now))
