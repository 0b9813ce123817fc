use Rattle.std.proofs.Common.{◌≤◌, ◌<◌, ◌^◌, ◌∙◌, List, length, inr, arith, subst}
use Rattle.net_addr.specs.declared.peer.Peer.{Peer}
use Rattle.addrman_c.specs.Sampling.{PutEntries, entries_of}
use Rattle.addrman_c.proofs.sampling.sample_entries_on.Goals as goal

pub returns-in-Ok-clause-call : goal.returns-in-Ok-clause-call
returns-in-Ok-clause-call c =
    let few : c.args.percent ≤ 100 = omega (arith, c.if-percent-gt100.false) in
    let short : length c.args.words.now < 2 ^ 32 = omega (arith, c.if-words-gt4294967295.false) in
    let new = c.put_entries_of.new in
    let put =
    subst (λ (peers : List Peer). PutEntries (entries_of c.sample.new.tables peers) c.put_entries_of.result c.args.out.now new.out new.length)
    (c.items.ensures ∙ c.in-Ok.ensures.peers) c.put_entries_of.ensures.call in
    inr (few, short, inr (c.in-Ok.ensures.enough, inr (c.in-Ok.ensures.state, put)))
