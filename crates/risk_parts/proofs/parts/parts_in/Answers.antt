use Rattle.std.proofs.Common.{◌≤◌, ◌∙◌, List, false, get_or, subst, sum_by, sym, true}
use Rattle.risk_parts.specs.Leads.{class_starts}
use Rattle.risk_parts.specs.declared.leads.Lead.{Lead}
use Rattle.risk_parts.proofs.parts.parts_in.Goals as goal

pub with_theirs-in_new-requires-clause-fit : goal.with_theirs-in_new-requires-clause-fit
with_theirs-in_new-requires-clause-fit c = λ k d low.
    subst (λ (xs : List Lead). sum_by (class_starts true (get_or c.args.new.now k d).chance) xs ≤ 65536) (sym (c.as_slice.ensures.value ∙ c.in_ok-some.ensures)) (c.requires.new.fit k d low)

pub with_theirs-in_tried-requires-clause-fit : goal.with_theirs-in_tried-requires-clause-fit
with_theirs-in_tried-requires-clause-fit c = λ k d low.
    subst (λ (xs : List Lead). sum_by (class_starts false (get_or c.args.tried.now k d).chance) xs ≤ 65536) (sym (c.as_slice-2.ensures.value ∙ c.in_ok-some.ensures)) (c.requires.tried.fit k d low)
