use Rattle.std.proofs.Common.{◌≡◌, length, nat_lt, true, false, arith, sym, ap, ◌∙◌}
use Rattle.std.proofs.lemmas.Bool.Decides.{nat_tests}
use Rattle.limiter.specs.State.{find_conn, set_conn}
use Rattle.addr_limit.specs.Steps.{serve}
use Rattle.addr_limit.specs.declared.command.LimitCommand.TheVariants.{Message}
use Rattle.addr_limit.proofs.Changes.{refused-is, short-is, taken-is}
use Rattle.addr_limit.proofs.requests.take_message.Goals as goal

pub returns-in_default : goal.returns-in_default
returns-in_default g c =
    let old = c.args.limiter.now in
    refused-is c.args.clock c.args.number old c.requires.rising c.in_default.field-0 c.args.words.now
    ∙ sym (ap (λ r. set_conn c.args.number (serve c.args.clock c.args.number (find_conn c.args.number old) (Message r c.args.words.now)).conn old) c.in_default.is)

pub returns-then-entries-items : goal.returns-then-entries-items
returns-then-entries-items g c =
    let old = c.args.limiter.now in
    let enough : nat_lt (length c.args.words.now) (length c.in-Ok.entries) ≡ false =
    grind (arith, nat_tests, c.if-entries-items.true, c.items.ensures.items, c.items-entries.ensures) in
    c.admit.ensures.entries c.in-Ok.entries (sym (c.count_of.ensures ∙ ap length c.items-entries.ensures))
    ∙ taken-is c.args.clock c.args.number old c.requires.rising c.in-Ok.entries c.args.words.now enough
    ∙ sym (ap (λ r. set_conn c.args.number (serve c.args.clock c.args.number (find_conn c.args.number old) (Message r c.args.words.now)).conn old) c.in-Ok.is)

pub returns-else-entries-items : goal.returns-else-entries-items
returns-else-entries-items g c =
    let old = c.args.limiter.now in
    let short : nat_lt (length c.args.words.now) (length c.in-Ok.entries) ≡ true =
    grind (arith, nat_tests, c.if-entries-items.false, c.items.ensures.items, c.items-entries.ensures) in
    short-is c.args.clock c.args.number old c.requires.rising c.in-Ok.entries c.args.words.now short
    ∙ sym (ap (λ r. set_conn c.args.number (serve c.args.clock c.args.number (find_conn c.args.number old) (Message r c.args.words.now)).conn old) c.in-Ok.is)
