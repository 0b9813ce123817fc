-- The laws of reading and spelling, which undo each other. The crates above cite them too.
use Rattle.std.proofs.Common.{◌≡◌, ℕ, ◌+◌, ◌-◌, ◌^◌, ◌<◌, ◌≤◌, Bool, true, false, List, [], ◌∷◌, ◌++◌, length, take, drop, refl, ap, inl, inr, arith, length-append, length-take, cond, nat_lt, Option, Some, None}
use Rattle.std.proofs.Math.Seq.{take-append_seam, drop-append_seam}
use Rattle.std.proofs.lemmas.List.{take-append-drop}
use Rattle.std.proofs.lemmas.List.Sums.{sum_by-cons}
use Rattle.std.proofs.lemmas.Bool.{cases_lt, lt-ltb, le-ltb, ltb-false}
use Rattle.bit_code.specs.declared.coder.Coder.{Coder}
use Rattle.bit_code.specs.Coder.{digits, number_of, values_of, spelling_by, spelling, sizes, least, Spells}
use Rattle.bit_code.specs.Reading.{digits_at, read_by, read_value, after_values}
use Rattle.bit_code.proofs.DigitLaws.{length-digits, number_of-lt, digits-number_of, number_of-digits}

-- the bits begin with the spelling of number n over the classes, and then go on with the rest
pub record Begins (classes : List ℕ) (n : ℕ) (bits rest : List Bool) : Type 0 where
  pub below : n < values_of classes
  pub spelled : bits ≡ spelling_by classes n ++ rest

-- the bits begin with this many digits of n, and then go on with the rest
record HasDigits (size n : ℕ) (bits rest : List Bool) : Type 0 where
  below : n < 2 ^ size
  spelled : bits ≡ digits size n ++ rest

digits_at-again : (size n : ℕ) (rest : List Bool) → n < 2 ^ size → digits_at size (digits size n ++ rest) ≡ Some (n, rest)
unfolding digits_at
digits_at-again size n rest h =
    let long : nat_lt (length (digits size n ++ rest)) size ≡ false = le-ltb _ _ (omega (arith, length-append (digits size n) rest, length-digits size n)) in
    let front : take size (digits size n ++ rest) ≡ digits size n = rw length-digits at (take-append_seam (digits size n) rest) in
    let back : drop size (digits size n ++ rest) ≡ rest = rw length-digits at (drop-append_seam (digits size n) rest) in
    rw (long, front, back, number_of-digits size n h) refl

-- a value after a test means that the test did not refuse
guard_some : {A : Type 0} (b : Bool) (x y : A) → cond b None (Some x) ≡ Some y → (b ≡ false) × (x ≡ y)
guard_some true x y h = cc
guard_some false x y h = (refl, cc)

digits_at-takes : (size n : ℕ) (bits rest : List Bool) → digits_at size bits ≡ Some (n, rest) → HasDigits size n bits rest
unfolding digits_at
digits_at-takes size n bits rest h =
    let g = guard_some (nat_lt (length bits) size) (number_of (take size bits), drop size bits) (n, rest) h in
    let long : size ≤ length bits = ltb-false _ _ g.0 in
    let len : length (take size bits) ≡ size = simp length-take (omega arith) in
    let same_n : number_of (take size bits) ≡ n = ap (λ p. p.0) g.1 in
    let same_rest : drop size bits ≡ rest = ap (λ p. p.1) g.1 in
    let front : digits size n ≡ take size bits = rw (len, same_n) at (digits-number_of (take size bits)) in
    record {
      below = rw (len, same_n) at (number_of-lt (take size bits));
      spelled = rw (front, ← same_rest, take-append-drop) refl;
    }

-- the value and the rest, after a test of the class
after_some : (passed n : ℕ) (rest : List Bool) (read : Option (ℕ × List Bool)) → after_values passed read ≡ Some (n, rest) → (m : ℕ) × (read ≡ Some (m, rest)) × (passed + m ≡ n)
after_some passed n rest None h = cc
after_some passed n rest (Some r) h =
    let e : ◌≡◌ {A = ℕ × List Bool} (passed + r.0, r.1) (n, rest) = cc in
    let same_rest : r.1 ≡ rest = ap (λ p. p.1) e in
    (r.0, ap (λ x. Some (r.0, x)) same_rest, ap (λ p. p.0) e)

pub values_of_none : values_of [] ≡ 0
unfolding values_of
values_of_none = refl

pub values_of_cons : (size : ℕ) (more : List ℕ) → values_of (size ∷ more) ≡ 2 ^ size + values_of more
unfolding values_of
values_of_cons size more = sum_by-cons (λ x. 2 ^ x) size more

-- what is spelled is read again, whatever follows it
pub read_by-again : (classes : List ℕ) (n : ℕ) (rest : List Bool) → n < values_of classes → read_by classes (spelling_by classes n ++ rest) ≡ Some (n, rest)
unfolding read_by spelling_by
read_by-again [] n rest h = absurd (omega (arith, values_of_none))
read_by-again (size ∷ []) n rest h = digits_at-again size n rest (omega (arith, values_of_cons size [], values_of_none))
read_by-again (size ∷ next ∷ more) n rest h =
    elim (cases_lt n (2 ^ size)) [
      | inl here ↦ rw (lt-ltb n (2 ^ size) here) (digits_at-again size n rest here)
      | inr later ↦
          let e : 2 ^ size + (n - 2 ^ size) ≡ n = omega arith in
          rw (le-ltb n (2 ^ size) later, read_by-again (next ∷ more) (n - 2 ^ size) rest (omega (arith, values_of_cons size (next ∷ more)))) (ap (λ m. Some (m, rest)) e)
    ]

-- what is read is spelled there
pub read_by-takes : (classes : List ℕ) (n : ℕ) (bits rest : List Bool) → read_by classes bits ≡ Some (n, rest) → Begins classes n bits rest
unfolding read_by spelling_by
read_by-takes [] n bits rest h = cc
read_by-takes (size ∷ []) n bits rest h =
    let d = digits_at-takes size n bits rest h in
    record { below = omega (arith, d.below, values_of_cons size [], values_of_none); spelled = d.spelled }
read_by-takes (size ∷ next ∷ more) n [] rest h = cc
read_by-takes (size ∷ next ∷ more) n (false ∷ bits) rest h =
    let d = digits_at-takes size n bits rest h in
    record { below = omega (arith, d.below, values_of_cons size (next ∷ more)); spelled = rw (lt-ltb n (2 ^ size) d.below) (ap (λ x. false ∷ x) d.spelled) }
read_by-takes (size ∷ next ∷ more) n (true ∷ bits) rest h =
    let a = after_some (2 ^ size) n rest (read_by (next ∷ more) bits) h in
    let d = read_by-takes (next ∷ more) a.0 bits rest a.1 in
    let less : n - 2 ^ size ≡ a.0 = omega (arith, a.2) in
    let later : 2 ^ size ≤ n = omega (arith, a.2) in
    record {
      below = omega (arith, d.below, a.2, values_of_cons size (next ∷ more));
      spelled = rw (le-ltb n (2 ^ size) later, less) (ap (λ x. true ∷ x) d.spelled);
    }

-- the value that is spelled is read again, whatever follows it
pub read_value-again : (coder : Coder) (n : ℕ) (bits rest : List Bool) → Spells coder n bits rest → read_value coder bits ≡ Some (n, rest)
unfolding read_value spelling
read_value-again coder n bits rest h =
    let e : least coder + (n - least coder) ≡ n = omega (arith, h.value.low) in
    rw (h.spelled, read_by-again (sizes coder) (n - least coder) rest (omega (arith, h.value.low, h.value.high))) (ap (λ m. Some (m, rest)) e)

-- the value that is read is spelled there
pub read_value-takes : (coder : Coder) (n : ℕ) (bits rest : List Bool) → read_value coder bits ≡ Some (n, rest) → Spells coder n bits rest
unfolding read_value spelling
read_value-takes coder n bits rest h =
    let a = after_some (least coder) n rest (read_by (sizes coder) bits) h in
    let d = read_by-takes (sizes coder) a.0 bits rest a.1 in
    let less : n - least coder ≡ a.0 = omega (arith, a.2) in
    record {
      value = record { low = omega (arith, a.2); high = omega (arith, a.2, d.below) };
      spelled = rw less d.spelled;
    }
