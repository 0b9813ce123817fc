use Rattle.std.proofs.Common.{◌++◌, ap, sym, ◌∙◌}
use Rattle.peers_file.specs.Inside.{front_text, who_text, marks_text}
use Rattle.peers_file.proofs.WriteLaws.{three_parts, record_parts}
use Rattle.peers_file.proofs.write.put_record.Goals as goal

pub returns-clause-found : goal.returns-clause-found
returns-clause-found c =
    let r = c.args.rec.now in
    three_parts c.args.out.now.items (front_text r) (who_text r) (marks_text r) c.put_front.new.out.items c.put_who.new.out.items c.put_marks.new.out.items
    c.in_ok-put_front.ensures.found c.in_ok-put_who.ensures.found c.in_ok-put_marks.ensures.found ∙ ap (λ t. c.args.out.now.items ++ t) (sym (record_parts r))
