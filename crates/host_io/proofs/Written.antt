-- What is written after one more write.
use Rattle.std.proofs.Common.{◌≡◌, ℕ, ◌+◌, ◌-◌, List, ◌++◌, length, take, drop, Option, None, Some, IfSome, IfNone, append_assoc, sym, ap, ◌∙◌, arith}
use Rattle.std.proofs.Math.Seq.{take-add}
use Rattle.std.proofs.lemmas.Grind.{common_steps}

-- the slice from an offset on is the list without what is before that offset
the_rest : (bytes : List ℕ) (done : ℕ) → take (length bytes - done) (drop done bytes) ≡ drop done bytes
the_rest bytes done = grind (arith, common_steps)

-- a write of the first bytes of the rest adds them to those that were written before
pub written-step : (old now new : Option (List ℕ)) (bytes : List ℕ) (done more : ℕ)
    → IfSome old (λ before. now ≡ Some (before ++ take done bytes))
    → IfSome now (λ sofar. new ≡ Some (sofar ++ take more (take (length bytes - done) (drop done bytes))))
    → IfSome old (λ before. new ≡ Some (before ++ take (done + more) bytes))
written-step None now new bytes done more h k = tt
written-step (Some before) now new bytes done more h k =
    (rw h at k) ∙ ap Some (ap (λ xs. (before ++ take done bytes) ++ take more xs) (the_rest bytes done)
    ∙ append_assoc before (take done bytes) (take more (drop done bytes))
    ∙ ap (λ xs. before ++ xs) (sym (take-add done more bytes)))

-- the unknown bytes of a sink stay unknown
pub unknown-step : (old now new : Option (List ℕ))
    → IfNone old (now ≡ None) → IfNone now (new ≡ None) → IfNone old (new ≡ None)
unknown-step (Some before) now new h k = tt
unknown-step None now new h k = rw h at k
