use Rattle.std.proofs.Common.{[], ◌∷◌, Some, refl, sym, subst}
use Rattle.grammar.specs.Fields.{TheNumber, TheAddr, TheChoice}
use Rattle.addr_limit.specs.Lines.{SaysBy}
use Rattle.addr_limit.specs.declared.command.Event.TheVariants.{Now, Of}
use Rattle.addr_limit.specs.declared.command.LimitCommand.TheVariants.{Open}
use Rattle.addr_limit.proofs.read.read_event.Goals as goal

pub returns-in_ok-time-in-Now-clause-found : goal.returns-in_ok-time-in-Now-clause-found
returns-in_ok-time-in-Now-clause-found g c =
    let time = c.in_ok-time-in-Now.time in
    subst (λ verb. SaysBy (Some verb) (g.T.Texts.texts c.args.rest) (Now time)) (sym c.in-Now.is) (TheNumber time ∷ [], c.in_ok-time-in-Now.ensures.found, (time, refl, refl))

pub returns-in_ok-number-in-Open-clause-found : goal.returns-in_ok-number-in-Open-clause-found
returns-in_ok-number-in-Open-clause-found g c =
    let fields = c.in_ok-number-in-Open in
    subst (λ verb. SaysBy (Some verb) (g.T.Texts.texts c.args.rest) (Of fields.number (Open fields.addr fields.unlimited))) (sym c.in-Open.is)
    (TheNumber fields.number ∷ TheAddr fields.addr ∷ TheChoice fields.unlimited ∷ [], fields.ensures.found, (fields.number, fields.addr, fields.unlimited, refl, refl))
