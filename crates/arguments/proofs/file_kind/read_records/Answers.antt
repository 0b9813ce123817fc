use Rattle.std.proofs.Common.{length, string_bytes, ap, sym, ◌∙◌, arith, rules}
use Rattle.std.proofs.lemmas.Bool.{eqb-false}
use Rattle.std.proofs.lemmas.List.{length-map}
use Rattle.arguments.proofs.Asking.{no_records}
use Rattle.arguments.proofs.file_kind.read_records.Goals as goal

pub returns-in-None-clause-none : goal.returns-in-None-clause-none
returns-in-None-clause-none c =
    no_records _ _ _ c.cut_rule-rule.ensures.found c.cut_rule-rule.ensures.none _
    (λ none. omega (arith, eqb-false (length c.args.words.now) 0 (sym c.is_empty.ensures ∙ c.if-is_empty.false), ap length none, length-map c.args.words.now string_bytes))
    (search rules) c.read_after_word.ensures.only
