-- What the arguments ask for, in a run.
use Rattle.std.proofs.Common.{◌≡◌, ◌≢◌, ℕ, List, Option, Some, None, ap, refl, sym, ◌∙◌}
use Rattle.std.specs.Prelude.{unwrap_or}
use Rattle.std.proofs.lemmas.Option.{none-some}
use Rattle.arguments.specs.Table.{Asks}
use Rattle.arguments.specs.declared.request.Request.{Request}
use Rattle.addrman_run.specs.Untouched.{TellsUsage}
use Rattle.addrman_run.specs.declared.status.Status.{Status}
use Rattle.addrman_run.specs.declared.status.Status.TheVariants.{Usage}

pub asks_something : (words : List (List ℕ)) (answer : Status) (request : Request) → answer ≢ Usage → Asks words request → TellsUsage words answer
asks_something words Usage request not_usage asks = absurd (not_usage refl)
asks_something words other request not_usage asks = (request, asks)

-- what was read is the only request
pub not_read : (read : Option Request) (request : Request) → read ≡ None → read ≡ Some request → ⊥
not_read read request none some = none-some request (sym none ∙ some)

pub same_request : (read : Option Request) (a b : Request) → read ≡ Some a → read ≡ Some b → a ≡ b
same_request read a b is same = ap (λ o. unwrap_or o a) (sym is ∙ same)
