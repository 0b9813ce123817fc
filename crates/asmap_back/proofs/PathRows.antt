-- The row of a path, and the addresses that begin with the path.
use Rattle.std.proofs.Common.{◌≡◌, ℕ, ◌+◌, ◌-◌, ◌*◌, ◌%◌, ◌^◌, ◌<◌, ◌≤◌, Bool, true, false, List, [], ◌∷◌, ◌++◌, length, refl, ap, sym, ◌∙◌, arith, length-append}
use Rattle.std.proofs.Math.Nat.{mul-div_cancel}
use Rattle.std.proofs.lemmas.Nat.{pow-add, pow_pos, mod-mul-add, mul-le}
use Rattle.bit_code.specs.Coder.{digits, number_of, HasValue, values_of, sizes}
use Rattle.bit_code.specs.declared.coder.Coder.TheVariants as coders
use Rattle.bit_code.proofs.DigitLaws.{digits-number_of, number_of-lt}
use Rattle.bit_code.proofs.OtherOrder.{number_of-append}
use Rattle.prefix_table.specs.Rows.{path, IsRow}
use Rattle.asmap_back.specs.Back.{first_at, row_at}

-- how many addresses begin with a path of this length
abbrev pub span : ℕ → ℕ
span len = 2 ^ (128 - len)

-- the path of a path's row is the path
pub path_row_at : (p : List Bool) (n : ℕ) → path (row_at p n) ≡ p
unfolding path
path_row_at p n = ap (digits (length p)) (mul-div_cancel (number_of p) (pow_pos (128 - length p))) ∙ digits-number_of p

-- the addresses of a path are those of 2 ^ k paths that are k bits longer
pub span_split : (len k : ℕ) → len + k ≤ 128 → span len ≡ 2 ^ k * span (len + k)
span_split len k low =
    let e : 128 - len ≡ k + (128 - (len + k)) = omega arith in
    ap (λ n. 2 ^ n) e ∙ pow-add 2 k (128 - (len + k))

-- the first address of a longer path
pub first_longer : (p w : List Bool) → length p + length w ≤ 128 → first_at (p ++ w) ≡ first_at p + number_of w * span (length (p ++ w))
first_longer p w low =
    let s = span (length p + length w) in
    let long = length-append p w in
    let e = ap (λ n. number_of p * n) (span_split (length p) (length w) low) in
    rw (long, number_of-append p w) omega (arith, e)

-- the addresses of a longer path are some of the path's
pub record IsInside (p w : List Bool) : Type 0 where
  pub low : first_at p ≤ first_at (p ++ w)
  pub high : first_at (p ++ w) + span (length (p ++ w)) ≤ first_at p + span (length p)

pub inside : (p w : List Bool) → length p + length w ≤ 128 → IsInside p w
inside p w low =
    let s = span (length (p ++ w)) in
    let e = first_longer p w low in
    let split = span_split (length p) (length w) low ∙ ap (λ n. 2 ^ length w * span n) (sym (length-append p w)) in
    let most = mul-le (number_of w + 1) s (2 ^ length w) s (omega (arith, number_of-lt w)) (omega arith) in
    record { low = omega (arith, e); high = omega (arith, e, split, most) }

pub number_zero : number_of (false ∷ []) ≡ 0
unfolding number_of
number_zero = refl

pub number_one : number_of (true ∷ []) ≡ 1
unfolding number_of
number_one = refl

-- the addresses of the two sides follow each other
pub sides_meet : (p : List Bool) → length p < 128 → first_at (p ++ true ∷ []) ≡ first_at (p ++ false ∷ []) + span (length (p ++ false ∷ []))
sides_meet p low =
    let l = first_longer p (false ∷ []) (omega arith) in
    let r = first_longer p (true ∷ []) (omega arith) in
    let same = ap span (length-append p (false ∷ []) ∙ sym (length-append p (true ∷ []))) in
    omega (arith, l, r, same, ap (λ n. n * span (length (p ++ false ∷ []))) number_zero, ap (λ n. n * span (length (p ++ true ∷ []))) number_one)

asn_values : values_of (sizes coders.Asn) ≡ 33521664
unfolding values_of sizes
asn_values = refl

pub below_top : (p : List Bool) → length p ≤ 128 → first_at p < 2 ^ 128
below_top p low =
    let whole = span_split 0 (length p) (omega arith) in
    let e : 0 + length p ≡ length p = omega arith in
    let less = mul-le (number_of p + 1) (span (length p)) (2 ^ length p) (span (length p)) (omega (arith, number_of-lt p)) (omega arith) in
    omega (arith, whole, ap (λ n. 2 ^ length p * span n) e, less, pow_pos (128 - length p))

-- the row of a path is a row, if an asmap spells its number
pub is_row_at : (p : List Bool) (n : ℕ) → length p ≤ 128 → HasValue coders.Asn n → IsRow (row_at p n)
is_row_at p n low value =
    let w = 2 ^ (128 - length p) in
    let none : first_at p + 0 ≡ first_at p = omega arith in
    record {
      len = low;
      bits = below_top p low;
      clear = ap (λ x. x % w) (sym none) ∙ mod-mul-add (number_of p) w 0 (pow_pos (128 - length p));
      some = value.low;
      most = omega (arith, value.high, asn_values);
    }
