use Rattle.std.proofs.Common.{rules, [], ◌∷◌, ◌++◌, ◌<◌, map, get_or, length, None, arith, ap, ◌∙◌, sym}
use Rattle.std.proofs.lemmas.List.{get_or_default}
use Rattle.addr_limit.specs.Steps.{unless_hidden}
use Rattle.addr_limit.proofs.PassedOn.{first_kept, word_kept, left_out, are_passing}
use Rattle.addr_limit.proofs.requests.passing_entries.Goals as goal
use Rattle.addr_limit.proofs.requests.passing_entries.Goals.{in-Some+in_ok-push+in_ok-push-2, in_default}

pub loop-i-preserved : goal.loop-i-preserved
loop-i-preserved c =
    let es = c.args.entries.now in
    let ws = c.args.words.now in
    let i = c.loop-i.i in
    let lt : i < length es = omega (arith, c.loop-i-test.true, c.requires.few) in
    let here = c.unless_hidden.ensures ∙ ap unless_hidden (c.index-entries-i.is ∙ get_or_default es i c.index-entries-i.result None lt) in
    elim c.match-unless_hidden.branch [
      | in-Some+in_ok-push+in_ok-push-2 w ↦ (
        ap (λ p. p.entries.items) w.passing-is ∙ w.in_ok-push.ensures.items ∙ ap (λ xs. xs ++ w.in-Some.entry ∷ []) c.loop-i.invariant.0
            ∙ first_kept es ws i lt c.requires.words w.in-Some.entry (sym here ∙ w.in-Some.is),
        ap (λ p. p.words.items) w.passing-is ∙ w.in_ok-push-2.ensures.items ∙ ap (λ xs. xs ++ get_or ws i 0 ∷ []) c.loop-i.invariant.1
            ∙ word_kept es ws i lt c.requires.words w.in-Some.entry (sym here ∙ w.in-Some.is),
      )
      | in_default w ↦
          let same = left_out es ws i lt c.requires.words (sym here ∙ w.in_default.is) in (
            ap (λ p. p.entries.items) w.passing-is ∙ c.loop-i.invariant.0 ∙ ap (map (λ p. p.0)) (sym same),
            ap (λ p. p.words.items) w.passing-is ∙ c.loop-i.invariant.1 ∙ ap (map (λ p. p.1)) (sym same),
          )
    ]

pub returns-clause-passing : goal.returns-clause-passing
returns-clause-passing c = are_passing c.args.entries.now c.args.words.now c.loop-i.i c.loop-i.passing.entries.items (search rules) c.loop-i.invariant.0
