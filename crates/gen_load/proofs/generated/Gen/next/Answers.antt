use Rattle.std.proofs.Common.{rules, ◌≡◌, ◌≢◌, ◌++◌, ℕ, List, [], sym, ap, subst, ◌∙◌, arith, ◌-◌}
use Rattle.gen_load.specs.Inside.{line_with, position_with}
use Rattle.gen_load.specs.Log.{drawn_lines, next_line, lines_after}
use Rattle.gen_load.specs.Spelling.{IsGenLine}
use Rattle.gen_load.proofs.LineLaws.{next-is_line}
use Rattle.gen_load.proofs.Lines.{still_in_time, next_text, later_lines, is_some}
use Rattle.gen_load.proofs.generated.Gen.next.Goals as goal

same_position : (c : goal.After-self-3-1) → c.in_ok-position.position ≡ c.self.inside.position
same_position c = search rules

some_left : (c : goal.After-self-3-1) → c.self.inside.left ≢ 0
some_left c = λ e. grind (arith, e, c.if-self-eq0.false)

pub invariant_of-self : goal.invariant_of-self
invariant_of-self c = still_in_time c.self.inside.begun c.self.inside.left c.self.inside.position c.append_line.new.position (some_left c) c.self.invariant (c.in-Ok.ensures.after ∙ ap (position_with c.self.inside.begun) (same_position c))

pub returns-clause-more : goal.returns-clause-more
returns-clause-more c = (λ t none. is_some c.self.inside.begun c.self.inside.left c.self.inside.position (some_left c) (c.self.view_is ∙ none), λ n. search rules)

pub returns-clause-text : goal.returns-clause-text
returns-clause-text c =
    c.in-Ok.ensures.text
    ∙ ap (λ t. c.args.out.now.items ++ t)
    (ap (line_with c.self.inside.begun) (same_position c)
    ∙ sym (next_text c.self.inside.begun c.self.inside.left c.self.inside.position (some_left c)) ∙ ap next_line c.self.view_is)

pub returns-clause-lines : goal.returns-clause-lines
returns-clause-lines c =
    ap (drawn_lines (c.self.inside.left - 1)) (c.in-Ok.ensures.after ∙ ap (position_with c.self.inside.begun) (same_position c))
    ∙ sym (later_lines c.self.inside.begun c.self.inside.left c.self.inside.position (some_left c)) ∙ ap lines_after c.self.view_is

pub returns-clause-line : goal.returns-clause-line
returns-clause-line c =
    subst (λ (ls : List (List ℕ)). ls ≢ [] → IsGenLine (next_line ls)) c.self.view_is
    (next-is_line c.self.inside.begun c.self.inside.left c.self.inside.position c.self.invariant)
