use Rattle.std.proofs.Common.{ap, map, ◌∙◌}
use Rattle.std.proofs.lemmas.Bool.{ne_eqb}
use Rattle.node_json.proofs.Known.{number-written}
use Rattle.node_json.proofs.groups.add_number.Goals as goal

pub returns-in_ok-insert : goal.returns-in_ok-insert
returns-in_ok-insert g c =
    ap (map (λ e. e.0)) c.in_ok-insert.ensures.entries ∙ number-written c.args.seen.now.entries c.args.number tt (ne_eqb c.args.number 0 c.if-number-ne0.true)
