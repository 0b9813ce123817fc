use Rattle.std.proofs.Common.{length, string_bytes, ap, refl, sym, ◌∙◌, arith}
use Rattle.std.proofs.lemmas.Bool.{eqb-false}
use Rattle.std.proofs.lemmas.List.{length-map}
use Rattle.arguments.proofs.Names.{found_command, no_command, no_commands, word_found}
use Rattle.arguments.proofs.commands.read_command.Goals as goal

pub returns-in_default-clause-none : goal.returns-in_default-clause-none
returns-in_default-clause-none c =
    no_commands _
    (λ none. omega (arith, eqb-false (length c.args.words.now) 0 (sym c.is_empty.ensures ∙ c.if-is_empty.false), ap length none, length-map c.args.words.now string_bytes))
    c.in_default.ensures.none

pub returns-in-Some-find_keyword-clause-found : goal.returns-in-Some-find_keyword-clause-found
returns-in-Some-find_keyword-clause-found c =
    (refl, (_, refl, found_command _ _ _ c.in-Some.ensures.some (word_found _ _ _ c.find_keyword.ensures c.in-Some-find_keyword.is)))

pub returns-in-None-clause-none : goal.returns-in-None-clause-none
returns-in-None-clause-none c = no_command _ _ _ c.in-Some.ensures.some c.find_keyword.ensures c.in-None.is
