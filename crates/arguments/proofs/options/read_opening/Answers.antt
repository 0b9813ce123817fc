use Rattle.std.proofs.Common.{length, string_bytes, ap, sym, ◌∙◌, arith}
use Rattle.std.proofs.lemmas.Bool.{eqb-false}
use Rattle.std.proofs.lemmas.List.{length-map}
use Rattle.arguments.proofs.Choosing.{found_by_key, found_by_net, only_by_key, only_by_net, no_options}
use Rattle.arguments.proofs.options.read_opening.Goals as goal

pub returns-in-Some-clause-found : goal.returns-in-Some-clause-found
returns-in-Some-clause-found c = found_by_key _ _ _ _ c.in-Some.ensures.found c.read_key_then_net.ensures.found

pub returns-in-Some-clause-only : goal.returns-in-Some-clause-only
returns-in-Some-clause-only c = only_by_key _ _ _ _ c.in-Some.ensures.found c.read_key_then_net.ensures.only

pub returns-in_default-cut_chain-clause-only : goal.returns-in_default-cut_chain-clause-only
returns-in_default-cut_chain-clause-only c = λ key chain asks.
    absurd (no_options _ key chain
    (λ none. omega (arith, eqb-false (length c.args.words.now) 0 (sym c.is_empty.ensures ∙ c.if-is_empty.false), ap length none, length-map c.args.words.now string_bytes))
    c.in_default.ensures.none c.in_default-cut_chain.ensures.none asks)

pub returns-clause-found : goal.returns-clause-found
returns-clause-found c = found_by_net _ _ _ _ _ c.in-Some-cut_chain.ensures.found c.read_net_then_key.ensures.found

pub returns-clause-only : goal.returns-clause-only
returns-clause-only c = only_by_net _ _ _ _ _ c.in-Some-cut_chain.ensures.found c.read_net_then_key.ensures.only
