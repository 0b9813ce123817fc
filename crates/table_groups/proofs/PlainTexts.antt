-- Texts that need no escapes.
use Rattle.std.proofs.Common.{◌≡◌, ℕ, zero, suc, ◌/◌, ◌%◌, ◌==◌, Bool, true, false, cond, List, [], ◌∷◌, ◌++◌, refl, ap, ◌∙◌, arith, append_assoc}
use Rattle.std.specs.Prelude.{decimal}
use Rattle.std.specs.Fmt.{digit_glyph, digits, digits_onto}
use Rattle.std.specs.List.{flat_map, list_all}
use Rattle.std.proofs.lemmas.Bool.{and_from}
use Rattle.std.proofs.lemmas.List.Folds.{list_all-append}
use Rattle.net_addr.specs.NetBits.{each_below}
use Rattle.table_groups.specs.Plain.{IsPlain, is_plain}

pub plain-cons : (b : ℕ) (text : List ℕ) → is_plain b ≡ true → IsPlain text → IsPlain (b ∷ text)
plain-cons b text p q = and_from (is_plain b) (list_all is_plain text) p q

pub plain-append : (a b : List ℕ) → IsPlain a → IsPlain b → IsPlain (a ++ b)
plain-append a b p q = list_all-append is_plain a b ∙ and_from (list_all is_plain a) (list_all is_plain b) p q

pub plain-flat_map : {X : Type 0} (f : X → List ℕ) → ((x : X) → IsPlain (f x)) → (xs : List X) → IsPlain (flat_map f xs)
plain-flat_map f each [] = refl
plain-flat_map f each (x ∷ xs) = plain-append (f x) (flat_map f xs) (each x) (plain-flat_map f each xs)

glyph : (n : ℕ) → is_plain (digit_glyph false (n % 10)) ≡ true
glyph n = each_below (λ d. is_plain (digit_glyph false d)) 10 refl (n % 10) (omega arith)

onto : (k n : ℕ) (text : List ℕ) → IsPlain text → IsPlain (digits_onto k 10 false n text)
onto zero n text plain = plain
onto (suc k) n text plain =
    by (n / 10 == 0) (plain-cons (digit_glyph false (n % 10)) text (glyph n) plain)
    (onto k (n / 10) (digit_glyph false (n % 10) ∷ text) (plain-cons (digit_glyph false (n % 10)) text (glyph n) plain))
  where
    by : (b : Bool) → IsPlain (digit_glyph false (n % 10) ∷ text) → IsPlain (digits_onto k 10 false (n / 10) (digit_glyph false (n % 10) ∷ text))
        → IsPlain (cond b (digit_glyph false (n % 10) ∷ text) (digits_onto k 10 false (n / 10) (digit_glyph false (n % 10) ∷ text)))
    by true one more = one
    by false one more = more

pub plain-decimal : (n : ℕ) → IsPlain (decimal n)
unfolding digits
plain-decimal n = onto 64 n [] refl

-- a text before a number, and one after it
pub plain-numbered : (a : List ℕ) (n : ℕ) (b : List ℕ) → IsPlain a → IsPlain b → IsPlain (a ++ (decimal n ++ b))
plain-numbered a n b p q = plain-append a (decimal n ++ b) p (plain-append (decimal n) b (plain-decimal n) q)

-- three texts
pub three_parts : (old a b c first second third : List ℕ) → first ≡ old ++ a → second ≡ first ++ b → third ≡ second ++ c → third ≡ old ++ (a ++ (b ++ c))
three_parts old a b c first second third p q r =
    r ∙ ap (λ (t : List ℕ). t ++ c) (q ∙ ap (λ (t : List ℕ). t ++ b) p) ∙ append_assoc (old ++ a) b c ∙ append_assoc old a (b ++ c)
