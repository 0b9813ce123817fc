use Rattle.std.proofs.Common.{refl, sym}
use Rattle.asmap_back.proofs.Steps.{none_after, none_left, moved, given_row}
use Rattle.asmap_back.proofs.back_rows.BackRows.next.Goals as goal

pub step-requires-clause-offset : goal.step-requires-clause-offset
step-requires-clause-offset c = (c.loop-part.invariant.same c.requires.0 c.requires.1).within

pub returns-in-Some-step-clause-row : goal.returns-in-Some-step-clause-row
returns-in-Some-step-clause-row c = λ left h.
    let now = c.loop-part.invariant.same left h in
    let all = c.step.ensures.gives left (moved _ _ _ _ _ left refl c.in-Some.ensures now.parts) in
    let given = given_row _ _ _ c.step.result c.in-Some-step.row left c.in-Some-step.is all in
    (given.after, given.rows_are, record { parts = given.ahead; within = c.step.ensures.offset })

pub returns-clause-row : goal.returns-clause-row
returns-clause-row c = λ left h.
    let now = c.loop-part.invariant.same left h in
    let parts = moved _ _ _ _ _ left refl c.in_default.ensures.0 now.parts in
    (none_left _ _ left parts, record { parts = moved _ _ _ _ _ _ refl (sym c.in_default.ensures.1) (none_after _ _ left parts); within = now.within })
