use Rattle.std.proofs.Common.{◌∙◌, ap, sym, nat_eq}
use Rattle.std.specs.Map.{lookup}
use Rattle.limiter.specs.State.{with_conn}
use Rattle.limiter.specs.Calls.{asked_of, after_asking}
use Rattle.limiter.specs.Inside.{conns_of}
use Rattle.limiter.proofs.Written.{conn_is, find_is, written-entries, written-is, none_is, some_found, asking_is}
use Rattle.limiter.proofs.connections.getaddr_in.Goals as goal

pub ask-requires : goal.ask-requires
ask-requires g c = conn_is c.args.number c.args.conns.now.entries c.in-Some.conn.now c.requires c.in-Some.ensures.value

pub returns-in-Some-clause-answer : goal.returns-in-Some-clause-answer
returns-in-Some-clause-answer g c = c.ask.ensures.answer ∙ ap asked_of (sym (find_is c.args.number c.args.conns.now.entries c.in-Some.conn.now c.requires c.in-Some.ensures.value))

pub returns-in-Some-clause-conns : goal.returns-in-Some-clause-conns
returns-in-Some-clause-conns g c =
    let es = c.args.conns.now.entries in
    let next = c.ask.new.conn in
    let held = c.get_mut.follows.holds next in
    let found = find_is c.args.number es c.in-Some.conn.now c.requires c.in-Some.ensures.value in
    written-is c.args.number es c.in-Some.conn.now c.requires c.in-Some.ensures.value (c.get_mut.follows.lender next).entries next held.0 c.ask.ensures.kept
    (held.3 (some_found c.in-Some.conn.now (lookup (nat_eq c.args.number) es) c.in-Some.ensures.value)).0
    ∙ ap (λ d. with_conn d (conns_of es)) c.ask.ensures.change
    ∙ asking_is c.args.number c.in-Some.conn.now es found
    ∙ ap (λ o. after_asking o (conns_of es)) (sym found)

pub returns-in-Some-clause-entries : goal.returns-in-Some-clause-entries
returns-in-Some-clause-entries g c =
    let next = c.ask.new.conn in
    written-entries c.args.number c.args.conns.now.entries c.in-Some.conn.now c.requires c.in-Some.ensures.value _ next (c.get_mut.follows.holds next).0 c.ask.ensures.kept

pub returns-in-None-clause-answer : goal.returns-in-None-clause-answer
returns-in-None-clause-answer g c = ap asked_of (sym (none_is c.args.number c.args.conns.now.entries c.requires c.in-None.ensures.value))

pub returns-in-None-clause-conns : goal.returns-in-None-clause-conns
returns-in-None-clause-conns g c =
    ap (λ m. conns_of m.entries) c.get_mut.follows.holds-at-none
    ∙ ap (λ o. after_asking o (conns_of c.args.conns.now.entries)) (sym (none_is c.args.number c.args.conns.now.entries c.requires c.in-None.ensures.value))
