use Rattle.std.proofs.Common.{length, string_bytes, ap, sym, ◌∙◌, arith}
use Rattle.std.proofs.lemmas.Bool.{eqb-false}
use Rattle.std.proofs.lemmas.List.{length-map}
use Rattle.arguments.proofs.Choosing.{more_words, no_option, only_net}
use Rattle.arguments.proofs.options.read_net.Goals as goal

pub returns-in_default-clause-only : goal.returns-in_default-clause-only
returns-in_default-clause-only c = λ chain net.
    absurd (no_option _
    (λ none. omega (arith, eqb-false (length c.args.words.now) 0 (sym c.is_empty.ensures ∙ c.if-is_empty.false), ap length none, length-map c.args.words.now string_bytes))
    c.in_default.ensures.none chain net)

pub returns-then-not-is_empty-clause-only : goal.returns-then-not-is_empty-clause-only
returns-then-not-is_empty-clause-only c = λ chain net.
    absurd (more_words _ _ _ _ c.in-Some.ensures.found
    (λ none. omega (arith, eqb-false (length c.in-Some.rest.now) 0 (sym c.is_empty-2.ensures ∙ c.if-not-is_empty.true), ap length none, length-map c.in-Some.rest.now string_bytes))
    chain net)

pub returns-clause-only : goal.returns-clause-only
returns-clause-only c = only_net _ _ _ _ _ c.in-Some.ensures.found c.read_chain.ensures.only
