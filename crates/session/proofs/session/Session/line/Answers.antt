use Rattle.std.proofs.Common.{inl, inr, refl, rules}
use Rattle.session.proofs.Lines.{for_line, has_percent, no_fault, passed, same_fault}
use Rattle.session.proofs.session.Session.line.Goals as goal

pub returns-in-Ok-None-clause-step : goal.returns-in-Ok-None-clause-step
returns-in-Ok-None-clause-step g c =
    passed c.args.self.now c.args.line.now _ (g.F.Folder.past c.args.folder.now) _ (search rules)

pub returns-in-Ok-Some-clause-step : goal.returns-in-Ok-Some-clause-step
returns-in-Ok-Some-clause-step g c =
    for_line c.command.result (λ told. (told.0, told.1 c.args.line.now (search rules), told.2)) c.command.ensures.step

pub returns-in-Ok-Some-clause-any_moment : goal.returns-in-Ok-Some-clause-any_moment
returns-in-Ok-Some-clause-any_moment g c = c.command.ensures.any_moment c.args.line.now (search rules)

pub returns-in-Ok-Some-clause-still : goal.returns-in-Ok-Some-clause-still
returns-in-Ok-Some-clause-still g c = c.command.ensures.still c.args.line.now (search rules)

pub returns-in-Ok-Some-clause-memory : goal.returns-in-Ok-Some-clause-memory
returns-in-Ok-Some-clause-memory g c = λ memory. c.command.ensures.memory memory c.args.line.now (search rules)

pub returns-in-Ok-Some-clause-fault : goal.returns-in-Ok-Some-clause-fault
returns-in-Ok-Some-clause-fault g c = λ f is apart. absurd (apart (c.command.ensures.cause f is))

pub returns-in-Ok-Some-clause-only_fault : goal.returns-in-Ok-Some-clause-only_fault
returns-in-Ok-Some-clause-only_fault g c = λ f has.
    elim (c.in-Ok-Some.ensures.only_fault f has) [
      | inl is ↦ absurd (no_fault _ f is)
      | inr is ↦ absurd (no_fault _ _ is)
    ]

pub returns-in-Err-clause-fault : goal.returns-in-Err-clause-fault
returns-in-Err-clause-fault g c = λ f is apart. (c.in-Err.ensures.fault f (same_fault _ f is) apart, refl, refl)

pub returns-in-Err-clause-only_fault : goal.returns-in-Err-clause-only_fault
returns-in-Err-clause-only_fault g c = λ f has.
    elim (c.in-Err.ensures.only_fault f has) [
      | inl is ↦ inl (same_fault _ f is)
      | inr is ↦ inr (same_fault _ _ is)
    ]

pub command-requires-clause-percent : goal.command-requires-clause-percent
command-requires-clause-percent g c = has_percent c.args.line.now c.in-Ok-Some.command (search rules)
