-- Laws of tokens.
use Rattle.std.proofs.Common.{◌≡◌, ℕ, zero, suc, ◌-◌, ◌*◌, ◌/◌, ◌≤◌, ◌<◌, ◌^◌, min, List, [], ◌∷◌, length, take, nat_le, if◌then◌else◌, ◌||◌, Bool, true, false, refl, sym, ◌∙◌, ap, arith}
use Rattle.std.proofs.lemmas.Bool.Decides.{nat_tests}
use Rattle.std.proofs.Math.Seq.{take-nil}
use Rattle.std.proofs.lemmas.List.{take_all}
use Rattle.limiter.specs.declared.limiter.Conn.{Conn}
use Rattle.limiter.specs.Tokens.{refill, count_up, admits, after_entry, after_entries, intake, intake_count, admit_conn}

-- filling adds no token above a thousand
pub refill-most : (now : ℕ) (c : Conn) (most : ℕ) → 10000 ≤ most → c.tenths ≤ most → (refill now c).tenths ≤ most
refill-most now c most room h = grind (arith, nat_tests)

-- filling takes no token
pub refill-least : (now : ℕ) (c : Conn) → c.tenths ≤ (refill now c).tenths
refill-least now c = grind (arith, nat_tests)

-- filling twice is filling once, at the later time
pub refill_twice : (now later : ℕ) (c : Conn) → c.moment ≤ now → now ≤ later → (refill later (refill now c)).tenths ≡ (refill later c).tenths
refill_twice now later c first second = grind (arith, nat_tests)

-- an unlimited connection admits all
pub unlimited-all : {E : Type 0} (c : Conn) (es : List E) → c.unlimited ≡ true → intake c es ≡ es
unlimited-all c [] h = refl
unlimited-all c (e ∷ es) h =
    ap (λ b. if b || nat_le 10 c.tenths then e ∷ intake (after_entry c) es else intake (after_entry c) es) h ∙ ap (λ xs. e ∷ xs) (unlimited-all (after_entry c) es h)

-- counts stay within 32 bits
pub count_up-fits : (n : ℕ) → count_up n < 2 ^ 32
count_up-fits n = grind (arith)

pub record CountsFit (c : Conn) : Type 0 where
  pub processed : c.processed < 2 ^ 32
  pub limited : c.limited < 2 ^ 32

pub after_entry-counts : (c : Conn) → CountsFit c → CountsFit (after_entry c)
after_entry-counts c h = by (admits c)
  where
    by : (b : Bool) → CountsFit (record (after_entry c) { processed = if b then count_up c.processed else c.processed; limited = if b then c.limited else count_up c.limited })
    by true = record { processed = count_up-fits c.processed; limited = h.limited }
    by false = record { processed = h.processed; limited = count_up-fits c.limited }

pub after_entries-counts : {E : Type 0} (c : Conn) (es : List E) → CountsFit c → CountsFit (after_entries c es)
after_entries-counts c [] h = h
after_entries-counts c (e ∷ es) h = after_entries-counts (after_entry c) es (after_entry-counts c h)

-- what entries cost
pub after_entries-tenths : {E : Type 0} (c : Conn) (es : List E) → (after_entries c es).tenths ≡ c.tenths - 10 * min (length es) (c.tenths / 10)
after_entries-tenths c [] = grind (arith)
after_entries-tenths c (e ∷ es) = grind (arith, nat_tests, after_entries-tenths (after_entry c) es)

take_cons : {E : Type 0} (e : E) (es : List E) (n : ℕ) → 0 < n → take n (e ∷ es) ≡ e ∷ take (n - 1) es
take_cons e es zero h = absurd (omega (arith, h))
take_cons e es (suc n) h = ap (λ k. e ∷ take k es) (omega arith)

no_token : (n : ℕ) → nat_le 10 n ≡ false → n / 10 ≡ 0
no_token n h = grind (arith, nat_tests, h)

token_less : (n : ℕ) → nat_le 10 n ≡ true → (0 < n / 10) × (n / 10 - 1 ≡ (n - 10) / 10)
token_less n h = (grind (arith, nat_tests, h), grind (arith, nat_tests, h))

-- a limited connection admits the first entries, as many as it has tokens
pub limited-first : {E : Type 0} (c : Conn) (es : List E) → c.unlimited ≡ false → intake c es ≡ take (c.tenths / 10) es
limited-first c [] h = grind (arith, take-nil)
limited-first {E = E} c (e ∷ es) h = by (nat_le 10 c.tenths) refl (limited-first (after_entry c) es h)
  where
    by : (b : Bool) → nat_le 10 c.tenths ≡ b → intake (after_entry c) es ≡ take ((after_entry c).tenths / 10) es →
        (if c.unlimited || nat_le 10 c.tenths then e ∷ intake (after_entry c) es else intake (after_entry c) es) ≡ take (c.tenths / 10) (e ∷ es)
    by true full rest =
        ap (λ t. if t then e ∷ intake (after_entry c) es else intake (after_entry c) es) (ap (λ x. x || nat_le 10 c.tenths) h ∙ full)
        ∙ ap (λ xs. e ∷ xs) (rest ∙ ap (λ t. take ((if t then c.tenths - 10 else c.tenths) / 10) es) full ∙ ap (λ n. take n es) (sym (token_less c.tenths full).1))
        ∙ sym (take_cons e es (c.tenths / 10) (token_less c.tenths full).0)
    by false empty rest =
        ap (λ t. if t then e ∷ intake (after_entry c) es else intake (after_entry c) es) (ap (λ x. x || nat_le 10 c.tenths) h ∙ empty)
        ∙ rest ∙ ap (λ t. take ((if t then c.tenths - 10 else c.tenths) / 10) es) empty
        ∙ ap (λ n. take n es) (no_token c.tenths empty) ∙ sym (ap (λ n. take n (e ∷ es)) (no_token c.tenths empty))

-- after any number of entries: the tokens that are left, and the counts
pub after_entries-is : {E : Type 0} (c : Conn) (es : List E) → CountsFit c → after_entries c es ≡ admit_conn c (length es)
after_entries-is c [] h = by
  where
    by : c ≡ admit_conn c 0
    by = λ i. record c { tenths = tenths i; processed = processed i; limited = limited i }
      where
        tenths : c.tenths ≡ (admit_conn c 0).tenths
        tenths = grind (arith)

        processed : c.processed ≡ (admit_conn c 0).processed
        processed = grind (arith, h.processed)

        limited : c.limited ≡ (admit_conn c 0).limited
        limited = grind (arith, h.limited)
after_entries-is c (e ∷ es) h = after_entries-is (after_entry c) es (after_entry-counts c h) ∙ (λ i. record c { tenths = tenths i; processed = processed i; limited = limited i })
  where
    tenths : (admit_conn (after_entry c) (length es)).tenths ≡ (admit_conn c (length (e ∷ es))).tenths
    tenths = grind (arith, nat_tests)

    processed : (admit_conn (after_entry c) (length es)).processed ≡ (admit_conn c (length (e ∷ es))).processed
    processed = grind (arith, nat_tests)

    limited : (admit_conn (after_entry c) (length es)).limited ≡ (admit_conn c (length (e ∷ es))).limited
    limited = grind (arith, nat_tests)

-- no more than all
take-most : {E : Type 0} (n : ℕ) (es : List E) → take (min (length es) n) es ≡ take n es
take-most n [] = take-nil (min 0 n) ∙ sym (take-nil n)
take-most zero (e ∷ es) = ap (λ k. take k (e ∷ es)) none
  where
    none : min (length (e ∷ es)) 0 ≡ 0
    none = omega arith
take-most (suc n) (e ∷ es) = ap (λ k. take k (e ∷ es)) less ∙ ap (λ xs. e ∷ xs) (take-most n es)
  where
    less : min (length (e ∷ es)) (suc n) ≡ suc (min (length es) n)
    less = grind (arith)

-- the entries that are admitted are the first ones, and this many
pub intake-first : {E : Type 0} (c : Conn) (es : List E) → intake c es ≡ take (intake_count c (length es)) es
intake-first c es = by c.unlimited refl
  where
    by : (b : Bool) → c.unlimited ≡ b → intake c es ≡ take (if b then length es else min (length es) (c.tenths / 10)) es
    by true h = unlimited-all c es h ∙ sym (take_all (length es) es (omega arith))
    by false h = limited-first c es h ∙ sym (take-most (c.tenths / 10) es)
