use Rattle.std.proofs.Common.{Result, Ok, Err, refl}
use Rattle.std.specs.Prelude.{MatchResult, IsOk}
use Rattle.std.proofs.lemmas.Str.{IsUtf8-from_ascii}
use Rattle.names.proofs.print.str_of.Goals as goal

not_refused : {A E : Type 0} (P : A → Type 0) (Q : E → Type 0) (r : Result A E) → MatchResult r P Q → ((e : E) → ¬ (Q e)) → IsOk r
not_refused P Q (Ok x) h never = refl
not_refused P Q (Err e) h never = absurd (never e h)

pub unwrap-requires : goal.unwrap-requires
unwrap-requires c = not_refused _ _ c.from_utf8.result c.from_utf8.ensures.cases (λ e h. h.0 (IsUtf8-from_ascii c.args.bytes.now c.requires))
