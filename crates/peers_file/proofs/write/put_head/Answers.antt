use Rattle.std.proofs.Common.{◌++◌, ◌∷◌, [], ap, sym, ◌∙◌}
use Rattle.peers_file.specs.Inside.{counts_text}
use Rattle.peers_file.proofs.WriteLaws.{three_parts, head_parts}
use Rattle.peers_file.proofs.write.put_head.Goals as goal

pub returns-clause-found : goal.returns-clause-found
returns-clause-found c =
    let snap = c.args.snap.now in
    three_parts c.args.out.now.items (4 ∷ 36 ∷ []) snap.key (counts_text snap) c.extend_from_slice.new.self.items c.extend_from_slice-2.new.self.items c.put_counts.new.out.items
    c.in_ok-extend_from_slice.ensures.items (c.in_ok-extend_from_slice-2.ensures.items ∙ ap (λ t. c.extend_from_slice.new.self.items ++ t) c.key-key.ensures.found) c.in_ok-put_counts.ensures ∙ ap (λ t. c.args.out.now.items ++ t) (sym (head_parts snap))
