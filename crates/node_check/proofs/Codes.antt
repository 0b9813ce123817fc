-- Codes of lists of tests.
use Rattle.std.proofs.Common.{◌≡◌, ℕ, Bool, true, false, ◌||◌, List, [], ◌∷◌, map, Contains, refl, sym, ap, ◌∙◌}
use Rattle.std.specs.List.{list_any}
use Rattle.table_machine.proofs.Lists.{Contains-head, Contains-tail}
use Rattle.node_check.specs.Check.{code_if, first_code}

-- a test that nothing fails
pub skip : (code : ℕ) (codes : List ℕ) → code ≡ 0 → first_code (code ∷ codes) ≡ first_code codes
skip code codes is = ap (λ c. first_code (c ∷ codes)) is

pub no_code : (b : Bool) (code : ℕ) → b ≡ false → code_if b code ≡ 0
no_code b code is = ap {B = ℕ} (λ b. code_if b code) is

-- if each element has the code 1 or none, so has the list
pub first_of : {X : Type 0} (t : X → Bool) (f : X → ℕ) (xs : List X) → ((x : X) → Contains xs x → f x ≡ code_if (t x) 1) → first_code (map f xs) ≡ code_if (list_any t xs) 1
first_of t f [] each = refl
first_of {X} t f (x ∷ xs) each = by (t x) refl (each x (Contains-head x xs)) (first_of t f xs (λ y c. each y (Contains-tail x xs y c)))
  where
    by : (b : Bool) → t x ≡ b → f x ≡ code_if (t x) 1 → first_code (map f xs) ≡ code_if (list_any t xs) 1 → first_code (f x ∷ map f xs) ≡ code_if (t x || list_any t xs) 1
    by true is here rest =
        ap (λ c. first_code (c ∷ map f xs)) (here ∙ ap {B = ℕ} (λ b. code_if b 1) is)
        ∙ sym (ap {B = ℕ} (λ b. code_if (b || list_any t xs) 1) is)
    by false is here rest =
        skip (f x) (map f xs) (here ∙ no_code (t x) 1 is) ∙ rest ∙ sym (ap {B = ℕ} (λ b. code_if (b || list_any t xs) 1) is)
