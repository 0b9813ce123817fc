use Rattle.std.proofs.Common.{◌++◌, ◌∙◌, ap, sym}
use Rattle.opener_lines.specs.State.{answer_to_feeler}
use Rattle.opener_lines.specs.Texts.{answer_text}
use Rattle.opener_lines.proofs.Done.{feeler_done, on_ok}
use Rattle.opener_lines.proofs.requests.feeler.Goals as goal

pub returns-in_ok-text-in-Taken-clause-step : goal.returns-in_ok-text-in-Taken-clause-step
returns-in_ok-text-in-Taken-clause-step g c =
    let before = c.args.out.now.items in
    let whole = c.as_slice.ensures.value ∙ c.in_ok-text-in-Taken.ensures ∙ ap (λ o. answer_text (answer_to_feeler o)) (sym c.in-Taken.is) in
    on_ok _ _ c.put_text.result
    (λ text. feeler_done c.args.rules.now c.args.manager.now c.occupant-occupant.new.manager c.args.opener.now c.args.seed c.args.word c.occupant-occupant.result c.find_feeler.result before
    c.put_text.new.out.items c.occupant-occupant.ensures.answer c.occupant-occupant.ensures.machine c.find_feeler.ensures (text ∙ ap (λ t. before ++ t) whole))
    c.put_text.ensures.ok

pub returns-in-Nothing-clause-step : goal.returns-in-Nothing-clause-step
returns-in-Nothing-clause-step g c =
    let before = c.args.out.now.items in
    on_ok _ _ c.put_text-in-Nothing.result
    (λ text. feeler_done c.args.rules.now c.args.manager.now c.occupant-occupant.new.manager c.args.opener.now c.args.seed c.args.word c.occupant-occupant.result c.find_feeler.result before
    c.put_text-in-Nothing.new.out.items c.occupant-occupant.ensures.answer c.occupant-occupant.ensures.machine c.find_feeler.ensures
    (text ∙ ap (λ o. before ++ answer_text (answer_to_feeler o)) (sym c.in-Nothing.is)))
    c.put_text-in-Nothing.ensures.ok

pub returns-in-GaveUp-clause-step : goal.returns-in-GaveUp-clause-step
returns-in-GaveUp-clause-step g c =
    let before = c.args.out.now.items in
    on_ok _ _ c.put_text-in-GaveUp.result
    (λ text. feeler_done c.args.rules.now c.args.manager.now c.occupant-occupant.new.manager c.args.opener.now c.args.seed c.args.word c.occupant-occupant.result c.find_feeler.result before
    c.put_text-in-GaveUp.new.out.items c.occupant-occupant.ensures.answer c.occupant-occupant.ensures.machine c.find_feeler.ensures
    (text ∙ ap (λ o. before ++ answer_text (answer_to_feeler o)) (sym c.in-GaveUp.is)))
    c.put_text-in-GaveUp.ensures.ok
