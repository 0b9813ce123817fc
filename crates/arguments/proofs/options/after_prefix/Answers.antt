use Rattle.std.proofs.Common.{◌≡◌, ◌≢◌, List, ◌++◌, Option, Some, None, Bor, MatchOption}
use Rattle.std.specs.Prelude.{IfSome, IfNone, ℕ}
use Rattle.std.proofs.lemmas.Bool.Decides.{Decides-eqb}
use Rattle.std.proofs.lemmas.Slice.Eq.{strip_prefix_is}
use Rattle.arguments.proofs.options.after_prefix.Goals as goal

found_by : (s p : List ℕ) (r : Option (Bor (List ℕ))) → MatchOption r ((rest : List ℕ) → s ≢ p ++ rest) (λ x. s ≡ p ++ x.now) → IfSome r (λ x. s ≡ p ++ x.now)
found_by s p None m = tt
found_by s p (Some x) m = m

none_by : (s p : List ℕ) (r : Option (Bor (List ℕ))) → MatchOption r ((rest : List ℕ) → s ≢ p ++ rest) (λ x. s ≡ p ++ x.now) → IfNone r ((rest : List ℕ) → s ≡ p ++ rest → ⊥)
none_by s p None m = m
none_by s p (Some x) m = tt

pub returns-clause-found : goal.returns-clause-found
returns-clause-found c = found_by c.args.text.now c.args.prefix.now c.strip_prefix.result (strip_prefix_is Decides-eqb c.args.text.now c.args.prefix.now c.strip_prefix.result c.strip_prefix.ensures.cases)

pub returns-clause-none : goal.returns-clause-none
returns-clause-none c = none_by c.args.text.now c.args.prefix.now c.strip_prefix.result (strip_prefix_is Decides-eqb c.args.text.now c.args.prefix.now c.strip_prefix.result c.strip_prefix.ensures.cases)
