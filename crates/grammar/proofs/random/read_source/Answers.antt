use Rattle.std.proofs.Common.{arith, get_or, subst, sym, ap, ◌∙◌, inl, Ok}
use Rattle.grammar.proofs.WordLemmas.{no_words, only_seeded, only_numbers}
use Rattle.grammar.specs.Fields.{AreSeeded}
use Rattle.grammar.proofs.random.read_source.Goals as goal

pub returns-then-is_dash-clause-only : goal.returns-then-is_dash-clause-only
returns-then-is_dash-clause-only c = λ words is. inl (ap Ok (c.of-then-is_dash.ensures ∙ c.of.ensures ∙ c.new.ensures.items ∙ sym (no_words c.args.text.now words (c.is_dash.ensures.yes (cc)) is)))

pub returns-in-Some-clause-only : goal.returns-in-Some-clause-only
returns-in-Some-clause-only c = λ words is. inl (c.read_seeded.ensures.only words (only_seeded c.args.text.now c.in-Some.text.now words c.in-Some.ensures.found is))

pub returns-in-None-clause-only : goal.returns-in-None-clause-only
returns-in-None-clause-only c = λ words is. c.read_numbers.ensures.only words (only_numbers c.args.text.now words (λ dash. let yes = c.is_dash.ensures.no dash in absurd (cc)) c.in-None.ensures.none is)

pub returns-then-is_dash-clause-seeded : goal.returns-then-is_dash-clause-seeded
returns-then-is_dash-clause-seeded c = λ words is. absurd (omega (arith, ap (λ t. get_or t 0 0) (sym (c.is_dash.ensures.yes (cc)) ∙ is.4)))

pub returns-in-Some-clause-seeded : goal.returns-in-Some-clause-seeded
returns-in-Some-clause-seeded c = λ words is. c.read_seeded.ensures.only words (subst (λ t. AreSeeded t words) c.in-Some.ensures.found is)

pub returns-in-None-clause-seeded : goal.returns-in-None-clause-seeded
returns-in-None-clause-seeded c = λ words is. absurd (c.in-None.ensures.none _ is.4)
