use Rattle.std.proofs.Common.{rules, take, ◌++◌, ◌∙◌, codes, append_assoc, ap}
use Rattle.std.specs.List.{flat_map}
use Rattle.log_lines.specs.Replies.{rec_text}
use Rattle.log_lines.proofs.Items.{one_more}
use Rattle.log_lines.proofs.Kept.{kept_after}
use Rattle.log_lines.proofs.print.put_rec_lines.Goals as goal

pub loop-rec-preserved : goal.loop-rec-preserved
loop-rec-preserved c =
    let out = c.loop-rec.out.items in
    let rec = c.rec-item.result in
    one_more (λ r. rec_text r ++ codes "\n") c.args.out.now.items c.args.recs.now c.loop-rec.rec-index rec out c.put_text.new.out.items
    c.loop-rec-test.true c.rec-item.is c.loop-rec.invariant
    (c.in_ok-put_text.ensures.ok ∙ ap (λ t. t ++ codes "\n") c.in_ok-put_rec.ensures.text ∙ append_assoc out (rec_text rec) (codes "\n"))

pub returns-in_err-put_rec-clause-kept : goal.returns-in_err-put_rec-clause-kept
returns-in_err-put_rec-clause-kept c =
    kept_after c.args.out.now.items c.loop-rec.out.items c.put_rec.new.out.items (flat_map (λ r. rec_text r ++ codes "\n") (take c.loop-rec.rec-index c.args.recs.now)) _ _
    c.in_err-put_rec.ensures.kept c.loop-rec.invariant (search rules)
