-- `none` owns nothing.
use Rattle.std.proofs.Common.{refl}
use Rattle.c_handles.specs.contracts.answers_handle.KeptAnswers as R
use Rattle.c_handles.specs.contracts.answers_handle.LooseAnswers as L
use Rattle.c_handles.specs.contracts.answers_handle.LooseAnswers.none.Key as key
use Rattle.c_handles.proofs.Handles.{nones}
use Rattle.c_handles.proofs.answers_handle.LooseAnswers.none.Statement.{statement}
use Rattle.c_handles.proofs.answers_handle.LooseAnswers.none.Code as code

pub none_spec : {M : Type 1} → statement M
none_spec 𝓤 𝓛 𝓜 𝓡 wired = nones R.the_row L.the_row L.struct.name (λ p a o. record { at = p; alloc = a; kept = o }) (λ d. d.at) (λ d. d.alloc) (λ d. d.kept)
    (λ p a o vs. refl) (λ p a o. refl) 𝓤 𝓛 𝓜 𝓡 key.name (code.unfolded 𝓤 𝓛.H 𝓜 𝓡 wired)
