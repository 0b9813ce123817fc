-- The laws of bits that begin with others.
use Rattle.std.proofs.Common.{◌≡◌, ◌≤◌, Bool, true, false, List, [], ◌∷◌, ◌++◌, length, take, drop, ◌⊎◌, inl, inr, refl, ap, sym, ◌∙◌, arith, append_assoc, length-append, append-nil}
use Rattle.std.proofs.lemmas.List.{append_cancel_left, take-append-le, take_at, take-append-drop}
use Rattle.bit_code.specs.Prefixes.{begins_with}

pub begins_self : (b s : List Bool) → begins_with (b ++ s) b ≡ true
unfolding begins_with
begins_self [] s = refl
begins_self (true ∷ b) s = begins_self b s
begins_self (false ∷ b) s = begins_self b s

-- what follows the bits that a list begins with
pub record Follows (a b : List Bool) : Type 0 where
  pub rest : List Bool
  pub is : a ≡ b ++ rest

follows_cons : (x : Bool) (a b : List Bool) → Follows a b → Follows (x ∷ a) (x ∷ b)
follows_cons x a b f = record { rest = f.rest; is = ap (λ xs. x ∷ xs) f.is }

pub begins_cut : (a b : List Bool) → begins_with a b ≡ true → Follows a b
unfolding begins_with
begins_cut a [] h = record { rest = a; is = refl }
begins_cut [] (w ∷ b) h = cc
begins_cut (true ∷ a) (true ∷ b) h = follows_cons true a b (begins_cut a b h)
begins_cut (false ∷ a) (false ∷ b) h = follows_cons false a b (begins_cut a b h)
begins_cut (true ∷ a) (false ∷ b) h = cc
begins_cut (false ∷ a) (true ∷ b) h = cc

pub begins_from : (a b s : List Bool) → a ≡ b ++ s → begins_with a b ≡ true
begins_from a b s e = rw e (begins_self b s)

-- the first bits of bits that a list begins with
pub begins_start : (a b s : List Bool) → begins_with a (b ++ s) ≡ true → begins_with a b ≡ true
begins_start a b s h =
    let f = begins_cut a (b ++ s) h in
    begins_from a b (s ++ f.rest) (f.is ∙ append_assoc b s f.rest)

-- a common prefix makes no difference
pub begins_both : (p a b : List Bool) → begins_with (p ++ a) (p ++ b) ≡ begins_with a b
unfolding begins_with
begins_both [] a b = refl
begins_both (true ∷ p) a b = begins_both p a b
begins_both (false ∷ p) a b = begins_both p a b

pub begins_long : (a b : List Bool) → begins_with a b ≡ true → length b ≤ length a
begins_long a b h =
    let f = begins_cut a b h in
    omega (arith, ap length f.is, length-append b f.rest)

pub nil_from : (s : List Bool) → length s ≡ 0 → s ≡ []
nil_from [] h = refl
nil_from (x ∷ s) h = absurd (omega arith)

pub begins_equal : (a b : List Bool) → begins_with a b ≡ true → begins_with b a ≡ true → a ≡ b
begins_equal a b h k =
    let f = begins_cut a b h in
    let e : f.rest ≡ [] = nil_from f.rest (omega (arith, ap length f.is, length-append b f.rest, begins_long b a k)) in
    f.is ∙ ap (λ xs. b ++ xs) e ∙ append-nil b

-- the bit after a path
pub sides_same : (w p : List Bool) (side other : Bool) → begins_with w (p ++ side ∷ []) ≡ true → begins_with w (p ++ other ∷ []) ≡ true → side ≡ other
sides_same w p side other h k =
    let f = begins_cut w (p ++ side ∷ []) h in
    let g = begins_cut w (p ++ other ∷ []) k in
    let same = append_cancel_left p (side ∷ f.rest) (other ∷ g.rest) (sym (append_assoc p (side ∷ []) f.rest) ∙ sym f.is ∙ g.is ∙ append_assoc p (other ∷ []) g.rest) in
    cc

-- what a prefix of a list begins with
pub begins_within : (a s w : List Bool) → begins_with (a ++ s) w ≡ true → length w ≤ length a → begins_with a w ≡ true
begins_within a s w h low =
    let f = begins_cut (a ++ s) w h in
    let start : take (length w) a ≡ w = sym (take-append-le (length w) a s low) ∙ ap (take (length w)) f.is ∙ take_at w f.rest (length w) refl in
    begins_from a w (drop (length w) a) (sym (take-append-drop (length w) a) ∙ ap (λ xs. xs ++ drop (length w) a) start)

pub begins_more : (a s w : List Bool) → begins_with a w ≡ true → begins_with (a ++ s) w ≡ true
begins_more a s w h =
    let f = begins_cut a w h in
    begins_from (a ++ s) w (f.rest ++ s) (ap (λ xs. xs ++ s) f.is ∙ append_assoc w f.rest s)

pub false_true : {b : Bool} → b ≡ false → b ≡ true → ⊥
false_true e h = let no : true ≡ false = sym h ∙ e in cc

pub same_tests : (b w : Bool) → (b ≡ true → w ≡ true) → (w ≡ true → b ≡ true) → b ≡ w
same_tests true true f g = refl
same_tests true false f g = sym (f refl)
same_tests false true f g = g refl
same_tests false false f g = refl

shorter_by : (p : List Bool) (side : Bool) (w rest : List Bool) → p ++ side ∷ [] ≡ w ++ rest → (w ≡ p ++ side ∷ [] → ⊥) → length w ≤ length p
shorter_by p side w [] e other = absurd (other (sym (append-nil w) ∙ sym e))
shorter_by p side w (x ∷ rest) e other = omega (arith, ap length e, length-append p (side ∷ []), length-append w (x ∷ rest))

shorter : (p : List Bool) (side : Bool) (w : List Bool) → (w ≡ p ++ side ∷ [] → ⊥) → begins_with (p ++ side ∷ []) w ≡ true → length w ≤ length p
shorter p side w other h =
    let f = begins_cut (p ++ side ∷ []) w h in
    shorter_by p side w f.rest f.is other

-- a bit more at the end of a list makes no difference to lists that are not as long
pub begins_step : (p : List Bool) (side : Bool) (w : List Bool) → (w ≡ p ++ side ∷ [] → ⊥) → begins_with (p ++ side ∷ []) w ≡ begins_with p w
begins_step p side w other =
    same_tests (begins_with (p ++ side ∷ []) w) (begins_with p w) (λ h. begins_within p (side ∷ []) w h (shorter p side w other h)) (begins_more p (side ∷ []) w)

next_by : (a b s : List Bool) → a ≡ b ++ s → (a ≡ b) ⊎ ((x : Bool) × (begins_with a (b ++ x ∷ []) ≡ true))
next_by a b [] e = inl (e ∙ append-nil b)
next_by a b (x ∷ s) e = inr (x, begins_from a (b ++ x ∷ []) s (e ∙ sym (append_assoc b (x ∷ []) s)))

-- a list that begins with some bits is these, or begins with one bit more
pub begins_next : (a b : List Bool) → begins_with a b ≡ true → (a ≡ b) ⊎ ((x : Bool) × (begins_with a (b ++ x ∷ []) ≡ true))
begins_next a b h = let f = begins_cut a b h in next_by a b f.rest f.is
