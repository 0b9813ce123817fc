use Rattle.std.proofs.Common.{◌≡◌, true, false, refl, inr, subst}
use Rattle.net_addr.specs.NetSet.{none, has}
use Rattle.net_addr.specs.declared.net.Net.TheVariants.{Unroutable}
use Rattle.grammar.proofs.NameLemmas.{no_nets, set_lacks, some_unroutable}
use Rattle.grammar.proofs.nets.read_nets.Goals as goal

pub returns-in-None-clause-fault : goal.returns-in-None-clause-fault
returns-in-None-clause-fault c = λ f is. (no_nets c.args.text.now (λ all. let yes = c.is_all.ensures.no all in absurd (cc)) (λ nets named _. c.in-None.ensures.none nets named), cc is)

pub returns-then-has-clause-fault : goal.returns-then-has-clause-fault
returns-then-has-clause-fault c =
    let found = c.in-Some.ensures.found in
    let there : has c.in-Some.nets Unroutable ≡ true = cc in
    λ f is. (no_nets c.args.text.now (λ all. let yes = c.is_all.ensures.no all in absurd (cc)) (some_unroutable c.args.text.now c.in-Some.nets found.0 found.1 found.2 there), cc is)

pub returns-else-has-clause-found : goal.returns-else-has-clause-found
returns-else-has-clause-found c =
    let found = c.in-Some.ensures.found in
    let absent : has c.in-Some.nets Unroutable ≡ false = cc in
    (c.in-Some.nets, refl, inr (found.0, found.1, (set_lacks found.0 none Unroutable (subst (λ s. has s Unroutable ≡ false) found.2 absent)).1, found.2))
