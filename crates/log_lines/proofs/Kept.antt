-- Text that is appended twice leaves what was there before.
use Rattle.std.proofs.Common.{◌≡◌, ℕ, List, ◌++◌, length, take, drop, sym, ap, ◌∙◌, append_assoc}
use Rattle.std.proofs.lemmas.List.{take-append-drop}
use Rattle.std.proofs.Math.Seq.{take-append_seam}

-- a text that begins with one that begins with the old one begins with the old one
pub kept_after : (old mid new more : List ℕ) (n m : ℕ) → take m new ≡ mid → mid ≡ old ++ more → n ≡ length old → take n new ≡ old
kept_after old mid new more n m kept is at =
    let whole : new ≡ old ++ (more ++ drop m new) = sym (take-append-drop m new) ∙ ap (λ t. t ++ drop m new) (kept ∙ is) ∙ append_assoc old more (drop m new) in
    (λ i. take (at i) (whole i)) ∙ take-append_seam old (more ++ drop m new)
