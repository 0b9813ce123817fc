use Rattle.std.proofs.Common.{drop, arith, length-drop}
use Rattle.std.proofs.lemmas.List.{drop-drop}
use Rattle.bit_code.proofs.Fronts.{BeginsWith, window_begins, longest-le, found, only, none}
use Rattle.bit_code.proofs.number.read_number.Goals.{After-number_ahead-number}
use Rattle.bit_code.proofs.number.read_number.Goals as goal

begins : (c : After-number_ahead-number) → BeginsWith c.args.coder c.number_ahead-number.result.value c.number_ahead-number.result.len (drop c.args.at c.args.bits.now)
begins c =
    let n = c.number_ahead-number.ensures in
    window_begins c.args.coder _ _ c.args.bits.now c.args.at c.window.result c.window.ensures (longest-le c.args.coder) n.most n.value

pub returns-in_default-clause-only : goal.returns-in_default-clause-only
returns-in_default-clause-only c = λ n rest h.
    let b = begins (goal.at.returns-in_default-clause-only c).After-number_ahead-number in
    none c.args.coder _ _ (drop c.args.at c.args.bits.now) b (omega (arith, c.in_default.ensures.none, c.len.ensures, length-drop c.args.at c.args.bits.now)) n rest h

pub returns-in_default-clause-none : goal.returns-in_default-clause-none
returns-in_default-clause-none c = returns-in_default-clause-only c

pub returns-clause-found : goal.returns-clause-found
returns-clause-found c =
    let b = begins (goal.at.returns-clause-found c).After-number_ahead-number in
    rw c.in-Some.ensures.found.0 (rw drop-drop at (found c.args.coder _ _ (drop c.args.at c.args.bits.now) b (omega (arith, c.in-Some.ensures.found, c.len.ensures, length-drop c.args.at c.args.bits.now))))

pub returns-clause-only : goal.returns-clause-only
returns-clause-only c = λ n rest h.
    let b = begins (goal.at.returns-clause-only c).After-number_ahead-number in
    let o = only c.args.coder _ _ (drop c.args.at c.args.bits.now) b (omega (arith, c.in-Some.ensures.found, c.len.ensures, length-drop c.args.at c.args.bits.now)) n rest h in
    (o.0, rw c.in-Some.ensures.found.0 (rw drop-drop at o.1))
