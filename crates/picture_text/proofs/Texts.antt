-- Texts that are appended one after another.
use Rattle.std.proofs.Common.{◌≡◌, ℕ, List, ◌++◌, ap, ◌∙◌, append_assoc}
use Rattle.picture_text.specs.Elements.{count_text, row_text}

pub two_parts : (old a b first second : List ℕ) → first ≡ old ++ a → second ≡ first ++ b → second ≡ old ++ (a ++ b)
two_parts old a b first second p q = q ∙ ap (λ (t : List ℕ). t ++ b) p ∙ append_assoc old a b

-- three texts of which the first has three parts
pub five_parts : (old a b c d e first second third : List ℕ) → first ≡ old ++ (a ++ (b ++ c)) → second ≡ first ++ d → third ≡ second ++ e
    → third ≡ old ++ (a ++ (b ++ (c ++ (d ++ e))))
five_parts old a b c d e first second third p q r =
    r ∙ ap (λ (t : List ℕ). t ++ e) (q ∙ ap (λ (t : List ℕ). t ++ d) p)
    ∙ append_assoc (old ++ (a ++ (b ++ c))) d e
    ∙ append_assoc old (a ++ (b ++ c)) (d ++ e)
    ∙ ap (λ (t : List ℕ). old ++ t) (append_assoc a (b ++ c) (d ++ e) ∙ ap (λ (t : List ℕ). a ++ t) (append_assoc b c (d ++ e)))

-- three texts of which the first and the last have three parts
pub seven_parts : (old a b c d e f g first second third : List ℕ) → first ≡ old ++ (a ++ (b ++ c)) → second ≡ first ++ d → third ≡ second ++ (e ++ (f ++ g))
    → third ≡ old ++ (a ++ (b ++ (c ++ (d ++ (e ++ (f ++ g))))))
seven_parts old a b c d e f g first second third p q r = five_parts old a b c d (e ++ (f ++ g)) first second third p q r

-- a row by equal numbers
pub row_same : (y z : ℕ) (fill fill' name name' : List ℕ) (slots slots' tried tried' : ℕ) → y ≡ z → fill ≡ fill' → name ≡ name' → slots ≡ slots' → tried ≡ tried'
    → row_text y fill name slots tried ≡ row_text z fill' name' slots' tried'
row_same y z fill fill' name name' slots slots' tried tried' p q r s t = cc

pub count_same : (x y z n m : ℕ) → y ≡ z → n ≡ m → count_text x y n ≡ count_text x z m
count_same x y z n m p q = cc
