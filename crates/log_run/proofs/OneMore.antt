-- A run goes on by one line.
use Rattle.std.proofs.Common.{◌≡◌, List, ℕ, [], ◌∷◌, ◌++◌, refl, sym, ap, ◌∙◌, subst, append_assoc}
use Rattle.std.proofs.lemmas.List.{append-nil}
use Rattle.log_run.specs.Run.{Run, Steps, last_reply}

pub Run-more : {S : Type 0} (step : Steps S) (done : List (List ℕ)) (a b c : S) (line text reply : List ℕ)
    → Run step a done text b → step b line reply c → Run step a (done ++ line ∷ []) (text ++ reply) c
Run-more step [] a b c line text reply run one =
    (reply, [], c, ap (λ t. t ++ reply) run.0 ∙ sym (append-nil reply), subst (λ s. step s line reply c) run.1 one, (refl, refl))
Run-more step (first ∷ done) a b c line text reply run one =
    (run.0, run.1 ++ reply, run.2, ap (λ t. t ++ reply) run.3 ∙ append_assoc run.0 run.1 reply, run.4, Run-more step done run.2 b c line run.1 reply run.5 one)

-- the reply to that line is the last one
pub last-more : {S : Type 0} (step : Steps S) (done : List (List ℕ)) (a b c : S) (line text reply before : List ℕ) (run : Run step a done text b) (one : step b line reply c)
    → last_reply step a (done ++ line ∷ []) (text ++ reply) c before (Run-more step done a b c line text reply run one) ≡ reply
unfolding Run-more
last-more step [] a b c line text reply before run one = refl
last-more step (first ∷ done) a b c line text reply before run one = last-more step done run.2 b c line run.1 reply run.0 run.5 one
