use Rattle.std.proofs.Common.{drop, arith, refl, length-drop}
use Rattle.std.proofs.lemmas.List.{drop-drop}
use Rattle.bit_code.proofs.BothFronts.{BeginsWithBoth, window_both, found_both, only_both, none_both}
use Rattle.bit_code.proofs.number.read_kind_and_number.Goals.{After-number_after-number}
use Rattle.bit_code.proofs.number.read_kind_and_number.Goals as goal

begins : (c : After-number_after-number) → BeginsWithBoth c.kind_ahead-kind.result.value c.number_after-number.result.value c.kind_ahead-kind.result.len c.number_after-number.result.len (drop c.args.at c.args.bits.now)
begins c =
    let k = c.kind_ahead-kind.ensures in
    let n = c.number_after-number.ensures in
    window_both _ _ _ _ c.args.bits.now c.args.at c.window-window.result c.window-window.ensures _ refl k.top k.most k.kind n.most k.value n.value

pub returns-in_default-clause-only : goal.returns-in_default-clause-only
returns-in_default-clause-only c = λ kind number rest h.
    let b = begins (goal.at.returns-in_default-clause-only c).After-number_after-number in
    none_both _ _ _ _ (drop c.args.at c.args.bits.now) b (omega (arith, c.in_default.ensures.none, c.len.ensures, length-drop c.args.at c.args.bits.now)) kind number rest h

pub returns-in_default-clause-none : goal.returns-in_default-clause-none
returns-in_default-clause-none c = returns-in_default-clause-only c

pub returns-clause-found : goal.returns-clause-found
returns-clause-found c =
    let b = begins (goal.at.returns-clause-found c).After-number_after-number in
    rw c.in-Some.ensures.found.0 (rw drop-drop at (found_both _ _ _ _ (drop c.args.at c.args.bits.now) b (omega (arith, c.in-Some.ensures.found, c.len.ensures, length-drop c.args.at c.args.bits.now))))

pub returns-clause-only : goal.returns-clause-only
returns-clause-only c = λ kind number rest h.
    let b = begins (goal.at.returns-clause-only c).After-number_after-number in
    let o = only_both _ _ _ _ (drop c.args.at c.args.bits.now) b (omega (arith, c.in-Some.ensures.found, c.len.ensures, length-drop c.args.at c.args.bits.now)) kind number rest h in
    (o.0, o.1, rw c.in-Some.ensures.found.0 (rw drop-drop at o.2))
