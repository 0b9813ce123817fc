use Rattle.std.proofs.Common.{◌≡◌, None, sym, ◌∙◌, arith}
use Rattle.std.proofs.lemmas.Option.{none-some}
use Rattle.names.proofs.Readings.{port_parts}
use Rattle.names.proofs.text.parse_with_port.Goals as goal

pub returns-in_err-_port-clause-only : goal.returns-in_err-_port-clause-only
returns-in_err-_port-clause-only c = λ a h.
    let parts = port_parts c.args.text.now _ _ a c.in_ok-host.ensures.cut c.in_ok-host.ensures.last h in
    let none : c.parse_number.result ≡ None = cc in
    absurd (none-some h.port (sym none ∙ c.parse_number.ensures.only h.port (omega (arith, h.small)) parts.1))

pub returns-clause-only : goal.returns-clause-only
returns-clause-only c = λ a h.
    c.parse_host_of_port.ensures.only a (port_parts c.args.text.now _ _ a c.in_ok-host.ensures.cut c.in_ok-host.ensures.last h).0
