use Rattle.std.proofs.Common.{◌∙◌, ap, sym, Some, option_map, nat_eq}
use Rattle.std.specs.Map.{lookup}
use Rattle.limiter.specs.State.{with_conn}
use Rattle.limiter.specs.Tokens.{refill, intake_count}
use Rattle.limiter.specs.Calls.{after_taking}
use Rattle.limiter.specs.Inside.{conns_of}
use Rattle.limiter.proofs.Written.{conn_is, find_is, written-entries, written-is, none_is, some_found}
use Rattle.limiter.proofs.connections.admit_in.Goals as goal

pub spend-requires : goal.spend-requires
spend-requires g c = conn_is c.args.number c.args.conns.now.entries c.in-Some.conn.now c.requires c.in-Some.ensures.value

pub returns-in-Some-clause-answer : goal.returns-in-Some-clause-answer
returns-in-Some-clause-answer g c =
    ap (λ n. Some n) c.spend.ensures.answer
    ∙ ap (option_map (λ d. intake_count (refill c.args.now d) c.args.count)) (sym (find_is c.args.number c.args.conns.now.entries c.in-Some.conn.now c.requires c.in-Some.ensures.value))

pub returns-in-Some-clause-conns : goal.returns-in-Some-clause-conns
returns-in-Some-clause-conns g c =
    let es = c.args.conns.now.entries in
    let next = c.spend.new.conn in
    let held = c.get_mut.follows.holds next in
    written-is c.args.number es c.in-Some.conn.now c.requires c.in-Some.ensures.value (c.get_mut.follows.lender next).entries next held.0 c.spend.ensures.kept
    (held.3 (some_found c.in-Some.conn.now (lookup (nat_eq c.args.number) es) c.in-Some.ensures.value)).0
    ∙ ap (λ d. with_conn d (conns_of es)) c.spend.ensures.change
    ∙ ap (λ o. after_taking c.args.now c.args.count o (conns_of es)) (sym (find_is c.args.number es c.in-Some.conn.now c.requires c.in-Some.ensures.value))

pub returns-in-Some-clause-entries : goal.returns-in-Some-clause-entries
returns-in-Some-clause-entries g c =
    let next = c.spend.new.conn in
    written-entries c.args.number c.args.conns.now.entries c.in-Some.conn.now c.requires c.in-Some.ensures.value _ next (c.get_mut.follows.holds next).0 c.spend.ensures.kept

pub returns-in-None-clause-answer : goal.returns-in-None-clause-answer
returns-in-None-clause-answer g c =
    ap (option_map (λ d. intake_count (refill c.args.now d) c.args.count)) (sym (none_is c.args.number c.args.conns.now.entries c.requires c.in-None.ensures.value))

pub returns-in-None-clause-conns : goal.returns-in-None-clause-conns
returns-in-None-clause-conns g c =
    ap (λ m. conns_of m.entries) c.get_mut.follows.holds-at-none
    ∙ ap (λ o. after_taking c.args.now c.args.count o (conns_of c.args.conns.now.entries)) (sym (none_is c.args.number c.args.conns.now.entries c.requires c.in-None.ensures.value))
