use Rattle.std.proofs.Common.{inl}
use Rattle.names.specs.Text.{IsHost, IsWithPort}
use Rattle.names.proofs.Readings.{first_only, none_of, second_found, second_only}
use Rattle.names.proofs.text.parse_text.Goals as goal

pub returns-in-Some-clause-found : goal.returns-in-Some-clause-found
returns-in-Some-clause-found c = inl c.in-Some.ensures.found

pub returns-in-Some-clause-only : goal.returns-in-Some-clause-only
returns-in-Some-clause-only c =
    first_only (IsHost c.args.text.now) (IsWithPort c.args.text.now) c.in-Some.addr c.in-Some.ensures.found c.in-Some.ensures.only

pub returns-in-None-clause-found : goal.returns-in-None-clause-found
returns-in-None-clause-found c =
    second_found (IsHost c.args.text.now) (IsWithPort c.args.text.now) c.parse_with_port.result
    (none_of (IsHost c.args.text.now) c.parse_host.result c.in-None.is c.parse_host.ensures.only) c.parse_with_port.ensures.found

pub returns-in-None-clause-only : goal.returns-in-None-clause-only
returns-in-None-clause-only c =
    second_only (IsHost c.args.text.now) (IsWithPort c.args.text.now) c.parse_with_port.result
    (none_of (IsHost c.args.text.now) c.parse_host.result c.in-None.is c.parse_host.ensures.only) c.parse_with_port.ensures.only
