use Rattle.std.proofs.Common.{◌≡◌, true, false, sym, ap, subst, ◌∙◌}
use Rattle.net_addr.specs.NetSet.{has}
use Rattle.grammar.specs.Words.{pieces_after}
use Rattle.grammar.proofs.NameLemmas.{SoFar, so_far_next, not_named, named_twice, all_named}
use Rattle.grammar.proofs.nets.read_names.Goals as goal

pub returns-in-None-clause-none : goal.returns-in-None-clause-none
returns-in-None-clause-none c =
    not_named c.args.text.now c.loop-rest.rest c.cut_piece.result.1 c.loop-rest.nets c.cut_piece.result.0.now c.loop-rest.invariant
    (ap (pieces_after 44) c.in-Some.is ∙ c.cut_piece.ensures.cut) c.in-None.ensures.none

pub returns-then-has-clause-none : goal.returns-then-has-clause-none
returns-then-has-clause-none c =
    let there : has c.loop-rest.nets c.in-Some-of_name.net ≡ true = cc in
    named_twice c.args.text.now c.loop-rest.rest c.cut_piece.result.1 c.loop-rest.nets c.cut_piece.result.0.now c.in-Some-of_name.net c.loop-rest.invariant
    (ap (pieces_after 44) c.in-Some.is ∙ c.cut_piece.ensures.cut) c.in-Some-of_name.ensures.found there

pub loop-rest-preserved : goal.loop-rest-preserved
loop-rest-preserved c =
    let absent : has c.loop-rest.nets c.in-Some-of_name.net ≡ false = cc in
    subst (λ nets. SoFar c.args.text.now c.cut_piece.result.1 nets) (sym c.with-nets.ensures)
    (so_far_next c.args.text.now c.loop-rest.rest c.cut_piece.result.1 c.loop-rest.nets c.cut_piece.result.0.now c.in-Some-of_name.net c.loop-rest.invariant
    (ap (pieces_after 44) c.in-Some.is ∙ c.cut_piece.ensures.cut) c.in-Some-of_name.ensures.found absent)

pub returns-clause-found : goal.returns-clause-found
returns-clause-found c = all_named c.args.text.now c.loop-rest.rest c.loop-rest.nets c.in_default.is c.loop-rest.invariant
