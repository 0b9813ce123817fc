use Rattle.std.proofs.Common.{inr, rules}
use Rattle.arguments.proofs.OpenerOptions.{found_number, no_number}
use Rattle.arguments.proofs.opener_options.cut_services.Goals as goal

pub returns-in_default-clause-rest : goal.returns-in_default-clause-rest
returns-in_default-clause-rest c = λ text rest begins. absurd (c.in_default.ensures.none text rest begins)

pub returns-in-Some-read_decimal-clause-found : goal.returns-in-Some-read_decimal-clause-found
returns-in-Some-read_decimal-clause-found c =
    let read = c.in-Some-read_decimal.ensures.found in
    inr (c.in-Some.text.now, found_number c.in-Some.text.now c.in-Some-read_decimal.services read.0 read.1, c.in-Some.ensures.found)

pub returns-in-None-clause-none : goal.returns-in-None-clause-none
returns-in-None-clause-none c = (_, _, c.in-Some.ensures.found, no_number _ c.read_decimal.result (search rules) c.read_decimal.ensures.only)
