use Rattle.std.proofs.Common.{sym, ap, ◌∙◌}
use Rattle.limiter.specs.State.{find_conn, set_conn}
use Rattle.addr_limit.specs.Steps.{serve}
use Rattle.addr_limit.proofs.Changes.{open-is, getaddr-is, stat-is}
use Rattle.addr_limit.proofs.requests.change.Goals as goal

pub returns-in_ok-add_conn-in-Open-clause-conns : goal.returns-in_ok-add_conn-in-Open-clause-conns
returns-in_ok-add_conn-in-Open-clause-conns g c =
    let old = c.args.limiter.now in
    c.in_ok-add_conn-in-Open.ensures.conns
    ∙ open-is c.args.clock c.args.number old c.requires.rising c.in-Open.addr c.in-Open.unlimited
    ∙ sym (ap (λ r. set_conn c.args.number (serve c.args.clock c.args.number (find_conn c.args.number old) r).conn old) c.in-Open.is)

pub returns-in-GetAddr-clause-conns : goal.returns-in-GetAddr-clause-conns
returns-in-GetAddr-clause-conns g c =
    let old = c.args.limiter.now in
    c.getaddr.ensures.conns
    ∙ getaddr-is c.args.clock c.args.number old c.requires.rising
    ∙ sym (ap (λ r. set_conn c.args.number (serve c.args.clock c.args.number (find_conn c.args.number old) r).conn old) c.in-GetAddr.is)

pub returns-in-Stat-clause-conns : goal.returns-in-Stat-clause-conns
returns-in-Stat-clause-conns g c =
    let old = c.args.limiter.now in
    stat-is c.args.clock c.args.number old c.requires.rising
    ∙ sym (ap (λ r. set_conn c.args.number (serve c.args.clock c.args.number (find_conn c.args.number old) r).conn old) c.in-Stat.is)
