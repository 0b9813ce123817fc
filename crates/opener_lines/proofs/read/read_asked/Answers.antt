use Rattle.std.proofs.Common.{Some, refl, sym, subst}
use Rattle.opener_lines.specs.Grammar.{AsksBy}
use Rattle.opener_lines.specs.declared.command.OpenerCommand.TheVariants as request
use Rattle.opener_lines.proofs.read.read_asked.Goals as goal

pub returns-in_ok-seed-in-Outbound-clause-found : goal.returns-in_ok-seed-in-Outbound-clause-found
returns-in_ok-seed-in-Outbound-clause-found g c =
    let seed = c.in_ok-seed-in-Outbound.seed in
    subst (λ verb. AsksBy (Some verb) (g.T.Texts.texts c.args.rest) (request.Outbound seed)) (sym c.in-Outbound.is) (seed, c.in_ok-seed-in-Outbound.ensures.found, refl)

pub returns-in_ok-seed-in-Feeler-clause-found : goal.returns-in_ok-seed-in-Feeler-clause-found
returns-in_ok-seed-in-Feeler-clause-found g c =
    let fields = c.in_ok-seed-in-Feeler in
    subst (λ verb. AsksBy (Some verb) (g.T.Texts.texts c.args.rest) (request.Feeler fields.seed fields.word)) (sym c.in-Feeler.is)
    (fields.seed, fields.word, fields.ensures.found, refl)
