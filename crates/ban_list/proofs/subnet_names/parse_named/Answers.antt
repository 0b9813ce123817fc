use Rattle.names.specs.Name.{IsName}
use Rattle.ban_list.proofs.Named.{whole_only, whole_name}
use Rattle.ban_list.proofs.subnet_names.parse_named.Goals as goal

pub returns-in_err-parse_name-clause-only : goal.returns-in_err-parse_name-clause-only
returns-in_err-parse_name-clause-only c = λ s h. let found = c.in_err-parse_name.ensures.only s.addr h.name in cc

pub returns-clause-found : goal.returns-clause-found
returns-clause-found c = whole_name _ _ c.whole_of.result c.in_ok-parse_name.ensures.found c.in_ok-parse_name.ensures.address c.whole_of.ensures.found

pub returns-clause-only : goal.returns-clause-only
returns-clause-only c = λ s h.
    whole_only (IsName c.args.text.now) _ c.whole_of.result c.whole_of.ensures.found c.whole_of.ensures.none c.in_ok-parse_name.ensures.only s h.name h.network h.length
