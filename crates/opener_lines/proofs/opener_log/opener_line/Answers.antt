use Rattle.std.proofs.Common.{inl, inr, refl, rules}
use Rattle.opener_lines.specs.State.{state}
use Rattle.opener_lines.proofs.Done.{can_be_done, left}
use Rattle.opener_lines.proofs.OneMeaning.{asked_no_fault}
use Rattle.opener_lines.proofs.Results.{same_fault}
use Rattle.opener_lines.proofs.opener_log.opener_line.Goals as goal

pub returns-in-Err-clause-fault : goal.returns-in-Err-clause-fault
returns-in-Err-clause-fault g c = λ f is other. (c.in-Err.ensures.fault f (same_fault _ f is) other, refl, refl)

pub returns-in-Err-clause-only_fault : goal.returns-in-Err-clause-only_fault
returns-in-Err-clause-only_fault g c = λ f has.
    elim (c.in-Err.ensures.only_fault f has) [
      | inl is ↦ inl (same_fault _ f is)
      | inr is ↦ inr (same_fault _ _ is)
    ]

pub returns-in-Ok-clause-only_fault : goal.returns-in-Ok-clause-only_fault
returns-in-Ok-clause-only_fault g c = λ f has. absurd (asked_no_fault c.args.line.now c.in-Ok-Some.request f (search rules) has)

pub returns-clause-memory : goal.returns-clause-memory
returns-clause-memory g c = λ _.
    left (state c.args.rules.now c.args.manager.now c.args.opener.now) (state c.args.rules.now c.carry_out.new.manager c.carry_out.new.opener) c.args.line.now c.in-Ok-Some.request (search rules)
    c.in-Err-carry_out.ensures.err

pub carry_out-requires-clause-done : goal.carry_out-requires-clause-done
carry_out-requires-clause-done g c = can_be_done c.args.line.now c.in-Ok-Some.request (search rules)
