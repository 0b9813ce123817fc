use Rattle.std.proofs.Common.{OnOk, OnErr, sym, subst}
use Rattle.opener_lines.specs.Inside.{Leaves}
use Rattle.opener_lines.specs.State.{state}
use Rattle.opener_lines.proofs.Done.{HasDone, closed, closed_leaves, err_so, feeler_leaves, on_err, on_ok, told, told_leaves}
use Rattle.opener_lines.proofs.requests.carry_out.Goals as goal

pub returns-in-Feeler-clause-step : goal.returns-in-Feeler-clause-step
returns-in-Feeler-clause-step g c =
    let old = state c.args.rules.now c.args.manager.now c.args.opener.now in
    let new = state c.args.rules.now c.feeler.new.manager c.args.opener.now in
    subst (λ r. OnOk c.feeler.result (HasDone old r new c.args.out.now.items c.feeler.new.out.items)) (sym c.in-Feeler.is) c.feeler.ensures.step

pub returns-in-Feeler-clause-err : goal.returns-in-Feeler-clause-err
returns-in-Feeler-clause-err g c =
    let old = state c.args.rules.now c.args.manager.now c.args.opener.now in
    let new = state c.args.rules.now c.feeler.new.manager c.args.opener.now in
    subst (λ r. OnErr c.feeler.result (Leaves old r new)) (sym c.in-Feeler.is)
    (on_err _ _ c.feeler.result (λ is. feeler_leaves c.args.rules.now c.args.manager.now c.feeler.new.manager c.args.opener.now c.in-Feeler.seed c.in-Feeler.word is) c.feeler.ensures.err)

pub returns-in-Close-clause-step : goal.returns-in-Close-clause-step
returns-in-Close-clause-step g c =
    let old = state c.args.rules.now c.args.manager.now c.args.opener.now in
    let new = state c.args.rules.now c.args.manager.now c.close.new.opener in
    subst (λ r. OnOk c.close.result (HasDone old r new c.args.out.now.items c.close.new.out.items)) (sym c.in-Close.is)
    (on_ok _ _ c.close.result
    (λ text. closed c.args.rules.now c.args.manager.now c.args.opener.now c.close.new.opener c.in-Close.peer c.args.out.now.items c.close.new.out.items c.close.ensures.open_peers text)
    c.close.ensures.text)

pub returns-in-Close-clause-err : goal.returns-in-Close-clause-err
returns-in-Close-clause-err g c =
    let old = state c.args.rules.now c.args.manager.now c.args.opener.now in
    let new = state c.args.rules.now c.args.manager.now c.close.new.opener in
    subst (λ r. OnErr c.close.result (Leaves old r new)) (sym c.in-Close.is)
    (err_so _ c.close.result (closed_leaves c.args.rules.now c.args.manager.now c.args.opener.now c.close.new.opener c.in-Close.peer c.close.ensures.open_peers))

pub returns-in-Machine-clause-step : goal.returns-in-Machine-clause-step
returns-in-Machine-clause-step g c =
    let old = state c.args.rules.now c.args.manager.now c.args.opener.now in
    let new = state c.args.rules.now c.tell.new.manager c.args.opener.now in
    subst (λ r. OnOk c.tell.result (HasDone old r new c.args.out.now.items c.tell.new.out.items)) (sym c.in-Machine.is)
    (on_ok _ _ c.tell.result
    (λ step. told c.args.rules.now c.args.manager.now c.tell.new.manager c.args.opener.now c.in-Machine.command c.args.out.now.items c.tell.new.out.items step) c.tell.ensures.step)

pub returns-in-Machine-clause-err : goal.returns-in-Machine-clause-err
returns-in-Machine-clause-err g c =
    let old = state c.args.rules.now c.args.manager.now c.args.opener.now in
    let new = state c.args.rules.now c.tell.new.manager c.args.opener.now in
    subst (λ r. OnErr c.tell.result (Leaves old r new)) (sym c.in-Machine.is)
    (on_err _ _ c.tell.result (λ part. told_leaves c.args.rules.now c.args.manager.now c.tell.new.manager c.args.opener.now c.in-Machine.command part) c.tell.ensures.err)
