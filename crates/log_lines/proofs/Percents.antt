-- The percentage of a `sample` line is at most 100.
use Rattle.std.proofs.Common.{ℕ, ◌≤◌, List, [], ◌∷◌, sym, ap, subst}
use Rattle.grammar.specs.Contents.{number_in}
use Rattle.grammar.specs.Fields.{AllMean}
use Rattle.log_lines.specs.Spelling.{kinds_of, command_values}
use Rattle.log_lines.specs.declared.command.Command.TheVariants as c
use Rattle.log_lines.specs.declared.word.CommandWord.TheVariants as v

pub percent : (texts : List (List ℕ)) (max pct : ℕ) (classes words : List ℕ)
    → AllMean (kinds_of v.Sample) texts (command_values (c.Sample max pct classes words)) → pct ≤ 100
percent [] max pct classes words h = absurd h
percent (text ∷ []) max pct classes words h = absurd h.1
percent (text ∷ second ∷ texts) max pct classes words h = subst (λ n. n ≤ 100) (sym (ap number_in h.1.0.1)) h.1.0.3
