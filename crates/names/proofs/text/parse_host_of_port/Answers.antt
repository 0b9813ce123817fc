use Rattle.std.proofs.Common.{◌≢◌, All}
use Rattle.net_addr.specs.Text.{IsAddrText}
use Rattle.names.specs.Name.{IsName}
use Rattle.names.proofs.Readings.{both_found, colon_in, first_only, none_of, second_found, second_only}
use Rattle.names.proofs.text.parse_host_of_port.Goals as goal

pub returns-in-Some-clause-only : goal.returns-in-Some-clause-only
returns-in-Some-clause-only c =
    first_only (IsAddrText c.args.text.now) (λ a. All (λ d. d ≢ 58) c.args.text.now × IsName c.args.text.now a) c.in-Some.addr c.in-Some.ensures.found c.in-Some.ensures.only

pub returns-in-Some-around_last-clause-only : goal.returns-in-Some-around_last-clause-only
returns-in-Some-around_last-clause-only c =
    second_only (IsAddrText c.args.text.now) (λ a. All (λ d. d ≢ 58) c.args.text.now × IsName c.args.text.now a) _
    (none_of (IsAddrText c.args.text.now) c.parse_addr.result c.in_default.is c.parse_addr.ensures.only)
    (λ a h. absurd (colon_in c.args.text.now _ _ c.in-Some-around_last.ensures.cut h.0))

pub returns-in-None-clause-found : goal.returns-in-None-clause-found
returns-in-None-clause-found c =
    second_found (IsAddrText c.args.text.now) (λ a. All (λ d. d ≢ 58) c.args.text.now × IsName c.args.text.now a) c.parse_name.result
    (none_of (IsAddrText c.args.text.now) c.parse_addr.result c.in_default.is c.parse_addr.ensures.only)
    (both_found (All (λ d. d ≢ 58) c.args.text.now) (IsName c.args.text.now) c.parse_name.result c.in-None.ensures.none c.parse_name.ensures.found)

pub returns-in-None-clause-only : goal.returns-in-None-clause-only
returns-in-None-clause-only c =
    second_only (IsAddrText c.args.text.now) (λ a. All (λ d. d ≢ 58) c.args.text.now × IsName c.args.text.now a) c.parse_name.result
    (none_of (IsAddrText c.args.text.now) c.parse_addr.result c.in_default.is c.parse_addr.ensures.only)
    (λ a h. c.parse_name.ensures.only a h.1)
