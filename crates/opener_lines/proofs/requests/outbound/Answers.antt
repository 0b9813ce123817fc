use Rattle.std.proofs.Common.{◌≡◌, ◌<◌, ◌++◌, ◌∙◌, length, ap, subst, rules, refl}
use Rattle.peer_open.specs.Groups.{with_peer}
use Rattle.peer_open.specs.declared.opener.TheConstants.{MAX_OUTBOUND}
use Rattle.opener_lines.specs.Inside.{Finds}
use Rattle.opener_lines.specs.Texts.{opened_text}
use Rattle.opener_lines.specs.declared.tries.Outcome.TheVariants.{Taken, Nothing, GaveUp}
use Rattle.opener_lines.proofs.Done.{full_done, on_ok, outbound_done}
use Rattle.opener_lines.proofs.Fairness.{no_group}
use Rattle.opener_lines.proofs.requests.outbound.Goals as goal

pub returns-then-len-eq-MAX_OUTBOUND-clause-step : goal.returns-then-len-eq-MAX_OUTBOUND-clause-step
returns-then-len-eq-MAX_OUTBOUND-clause-step g c =
    let full : length c.args.opener.now ≡ MAX_OUTBOUND = search rules in
    on_ok _ _ c.put_text.result (λ text. full_done c.args.rules.now c.args.manager.now c.args.opener.now c.args.seed c.args.out.now.items c.put_text.new.out.items full text) c.put_text.ensures.ok

pub add_counted-requires-clause-group : goal.add_counted-requires-clause-group
add_counted-requires-clause-group g c =
    let finds = subst (Finds c.args.rules.now c.args.manager.now c.args.opener.now c.args.seed) c.in-Taken.is c.find_outbound.ensures in
    no_group c.args.rules.now c.args.manager.now c.args.opener.now c.args.seed c.in-Taken.peer c.in-Taken.tries c.in-Taken.group.items finds.outcome finds.group

pub returns-in_ok-put_text-in-Taken-clause-step : goal.returns-in_ok-put_text-in-Taken-clause-step
returns-in_ok-put_text-in-Taken-clause-step g c =
    let m = c.args.manager.now in
    let before = c.args.out.now.items in
    let peers = c.args.opener.now in
    let peer = c.in-Taken.peer in
    let finds = subst (Finds c.args.rules.now m peers c.args.seed) c.in-Taken.is c.find_outbound.ensures in
    let few : length peers < MAX_OUTBOUND = search rules in
    let whole = c.as_slice-in-Taken.ensures.value ∙ c.in_ok-text-in-Taken.ensures ∙ ap (λ g. opened_text peer g c.in-Taken.tries) (c.as_slice.ensures.value ∙ finds.group) in
    outbound_done c.args.rules.now m peers c.add_counted.new.self c.args.seed (Taken peer c.in-Taken.tries) before c.put_text-in-Taken.new.out.items few finds.outcome
    (c.add_counted.ensures ∙ ap (λ g. with_peer peer g peers) finds.group)
    (c.in_ok-put_text-in-Taken.ensures.ok ∙ ap (λ t. before ++ t) whole)

pub returns-in-Nothing-clause-step : goal.returns-in-Nothing-clause-step
returns-in-Nothing-clause-step g c =
    let m = c.args.manager.now in
    let finds = subst (Finds c.args.rules.now m c.args.opener.now c.args.seed) c.in-Nothing.is c.find_outbound.ensures in
    let few : length c.args.opener.now < MAX_OUTBOUND = search rules in
    on_ok _ _ c.put_text-in-Nothing.result
    (λ text. outbound_done c.args.rules.now m c.args.opener.now c.args.opener.now c.args.seed Nothing c.args.out.now.items c.put_text-in-Nothing.new.out.items few finds.outcome refl text)
    c.put_text-in-Nothing.ensures.ok

pub returns-in-GaveUp-clause-step : goal.returns-in-GaveUp-clause-step
returns-in-GaveUp-clause-step g c =
    let m = c.args.manager.now in
    let finds = subst (Finds c.args.rules.now m c.args.opener.now c.args.seed) c.in-GaveUp.is c.find_outbound.ensures in
    let few : length c.args.opener.now < MAX_OUTBOUND = search rules in
    on_ok _ _ c.put_text-in-GaveUp.result
    (λ text. outbound_done c.args.rules.now m c.args.opener.now c.args.opener.now c.args.seed GaveUp c.args.out.now.items c.put_text-in-GaveUp.new.out.items few finds.outcome refl text)
    c.put_text-in-GaveUp.ensures.ok
