use Rattle.net_addr.specs.Text.{IsAddrText}
use Rattle.names.specs.Name.{IsName}
use Rattle.names.proofs.Readings.{first_only, none_of, second_found, second_only}
use Rattle.names.proofs.text.parse_host.Goals as goal

pub returns-in-Some-clause-only : goal.returns-in-Some-clause-only
returns-in-Some-clause-only c =
    first_only (IsAddrText c.args.text.now) (IsName c.args.text.now) c.in-Some.addr c.in-Some.ensures.found c.in-Some.ensures.only

pub returns-in-None-clause-found : goal.returns-in-None-clause-found
returns-in-None-clause-found c =
    second_found (IsAddrText c.args.text.now) (IsName c.args.text.now) c.parse_name.result
    (none_of (IsAddrText c.args.text.now) c.parse_addr.result c.in-None.is c.parse_addr.ensures.only) c.parse_name.ensures.found

pub returns-in-None-clause-only : goal.returns-in-None-clause-only
returns-in-None-clause-only c =
    second_only (IsAddrText c.args.text.now) (IsName c.args.text.now) c.parse_name.result
    (none_of (IsAddrText c.args.text.now) c.parse_addr.result c.in-None.is c.parse_addr.ensures.only) c.parse_name.ensures.only
