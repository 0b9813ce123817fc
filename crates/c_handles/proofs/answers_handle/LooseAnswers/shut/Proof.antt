-- `shut` keeps the pointer and forgets its type.
use Rattle.std.proofs.Common.{refl}
use Rattle.c_handles.specs.contracts.answers_handle.KeptAnswers as R
use Rattle.c_handles.specs.contracts.answers_handle.LooseAnswers as L
use Rattle.c_handles.specs.contracts.answers_handle.LooseAnswers.shut.Key as key
use Rattle.c_handles.proofs.Handles.{shuts}
use Rattle.c_handles.proofs.answers_handle.LooseAnswers.shut.Statement.{statement}
use Rattle.c_handles.proofs.answers_handle.LooseAnswers.shut.Code as code

pub shut_spec : {M : Type 1} → statement M
shut_spec 𝓤 𝓛 𝓜 𝓡 wired = shuts R.the_row L.the_row L.struct.name (λ p a o. record { at = p; alloc = a; kept = o }) (λ d. d.at) (λ d. d.alloc) (λ d. d.kept)
    (λ p a o vs. refl) (λ p a o. refl) 𝓤 𝓛 𝓜 𝓡 key.name (code.unfolded 𝓤 𝓛.H 𝓜 𝓡 wired)
