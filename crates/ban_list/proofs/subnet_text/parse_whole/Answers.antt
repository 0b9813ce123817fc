use Rattle.net_addr.specs.Text.{IsAddrText}
use Rattle.ban_list.proofs.Named.{whole_only, whole_text}
use Rattle.ban_list.proofs.subnet_text.parse_whole.Goals as goal

pub returns-in_err-parse_addr-clause-only : goal.returns-in_err-parse_addr-clause-only
returns-in_err-parse_addr-clause-only c = λ s h. let found = c.in_err-parse_addr.ensures.only s.addr h.addr_text in cc

pub returns-clause-found : goal.returns-clause-found
returns-clause-found c = whole_text _ _ c.whole_of.result c.in_ok-parse_addr.ensures.found c.whole_of.ensures.found

pub returns-clause-only : goal.returns-clause-only
returns-clause-only c = λ s h.
    whole_only (IsAddrText c.args.text.now) _ c.whole_of.result c.whole_of.ensures.found c.whole_of.ensures.none c.in_ok-parse_addr.ensures.only s h.addr_text h.network h.length
