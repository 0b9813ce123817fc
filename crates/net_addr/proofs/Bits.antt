-- A range of bits, by whole bytes and the high bits of one more.
use Rattle.std.proofs.Common.{◌≡◌, ℕ, zero, suc, ◌+◌, ◌-◌, ◌*◌, ◌/◌, ◌%◌, ◌^◌, ◌<◌, ◌≤◌, Bool, true, false, ◌&&◌, List, [], ◌∷◌, length, get_or, take, drop, refl, sym, ap, ◌∙◌, arith, eqb, drop-cons}
use Rattle.std.proofs.lemmas.Bool.Decides.{nat_tests}
use Rattle.std.proofs.Math.Bool.{and_assoc}
use Rattle.std.specs.Int.{bit_at}
use Rattle.std.specs.List.{starts_with}
use Rattle.net_addr.specs.Ranges.{bits_of, range, in_range}

-- the test of the first bits, with one more bit
one_more : (x y x' y' : ℕ) (t : Bool) → x' ≡ x / 2 → y' ≡ y / 2 → (eqb x' y' && (eqb (x % 2) (y % 2) && t)) ≡ (eqb x y && t)
one_more x y x' y' t e f = grind (arith, nat_tests)

first_bit : (x y : ℕ) (t : Bool) → x < 2 → y < 2 → (eqb (x % 2) (y % 2) && t) ≡ (eqb x y && t)
first_bit x y t e f = grind (arith, nat_tests)

pub and_true : (a : Bool) → (a && true) ≡ a
and_true true = refl
and_true false = refl

div_one : (n : ℕ) → n / 1 ≡ n
div_one n = omega arith

module _ (b c : ℕ) (h : b < 256) (k : c < 256) where
  -- the k-th bits of the two are the same
  abbrev e : ℕ → Bool
  e i = eqb (bit_at b i) (bit_at c i)

  -- the two are the same, shifted down
  abbrev d : ℕ → Bool
  d n = eqb (b / n) (c / n)

  bits_1 : (t : Bool) → (e 7 && t) ≡ (d 128 && t)
  bits_1 t = first_bit (b / 128) (c / 128) t (omega arith) (omega arith)

  bits_2 : (t : Bool) → (e 7 && (e 6 && t)) ≡ (d 64 && t)
  bits_2 t = bits_1 (e 6 && t) ∙ one_more (b / 64) (c / 64) (b / 128) (c / 128) t (omega arith) (omega arith)

  bits_3 : (t : Bool) → (e 7 && (e 6 && (e 5 && t))) ≡ (d 32 && t)
  bits_3 t = bits_2 (e 5 && t) ∙ one_more (b / 32) (c / 32) (b / 64) (c / 64) t (omega arith) (omega arith)

  bits_4 : (t : Bool) → (e 7 && (e 6 && (e 5 && (e 4 && t)))) ≡ (d 16 && t)
  bits_4 t = bits_3 (e 4 && t) ∙ one_more (b / 16) (c / 16) (b / 32) (c / 32) t (omega arith) (omega arith)

  bits_5 : (t : Bool) → (e 7 && (e 6 && (e 5 && (e 4 && (e 3 && t))))) ≡ (d 8 && t)
  bits_5 t = bits_4 (e 3 && t) ∙ one_more (b / 8) (c / 8) (b / 16) (c / 16) t (omega arith) (omega arith)

  bits_6 : (t : Bool) → (e 7 && (e 6 && (e 5 && (e 4 && (e 3 && (e 2 && t)))))) ≡ (d 4 && t)
  bits_6 t = bits_5 (e 2 && t) ∙ one_more (b / 4) (c / 4) (b / 8) (c / 8) t (omega arith) (omega arith)

  bits_7 : (t : Bool) → (e 7 && (e 6 && (e 5 && (e 4 && (e 3 && (e 2 && (e 1 && t))))))) ≡ (d 2 && t)
  bits_7 t = bits_6 (e 1 && t) ∙ one_more (b / 2) (c / 2) (b / 4) (c / 4) t (omega arith) (omega arith)

  bits_8 : (t : Bool) → (e 7 && (e 6 && (e 5 && (e 4 && (e 3 && (e 2 && (e 1 && (e 0 && t)))))))) ≡ (eqb b c && t)
  bits_8 t =
      let one : d 1 ≡ eqb b c = rw (div_one b, div_one c) refl in
      bits_7 (e 0 && t) ∙ one_more (b / 1) (c / 1) (b / 2) (c / 2) t (omega arith) (omega arith) ∙ ap (λ u. u && t) one

  -- the first r bits of a byte, fewer than eight
  high_bits : (r : ℕ) (xs ys : List ℕ) → 0 < r → r < 8 → starts_with eqb (bits_of (c ∷ ys)) (take r (bits_of (b ∷ xs))) ≡ d (2 ^ (8 - r))
  high_bits zero xs ys pos lt = absurd (omega arith)
  high_bits (suc zero) xs ys pos lt = bits_1 true ∙ and_true (d 128)
  high_bits (suc (suc zero)) xs ys pos lt = bits_2 true ∙ and_true (d 64)
  high_bits (suc (suc (suc zero))) xs ys pos lt = bits_3 true ∙ and_true (d 32)
  high_bits (suc (suc (suc (suc zero)))) xs ys pos lt = bits_4 true ∙ and_true (d 16)
  high_bits (suc (suc (suc (suc (suc zero))))) xs ys pos lt = bits_5 true ∙ and_true (d 8)
  high_bits (suc (suc (suc (suc (suc (suc zero)))))) xs ys pos lt = bits_6 true ∙ and_true (d 4)
  high_bits (suc (suc (suc (suc (suc (suc (suc zero))))))) xs ys pos lt = bits_7 true ∙ and_true (d 2)
  high_bits (suc (suc (suc (suc (suc (suc (suc (suc r)))))))) xs ys pos lt = absurd (omega arith)

-- each element is a byte
abbrev pub AllBytes : List ℕ → Type 0
AllBytes xs = (i : ℕ) → get_or xs i 0 < 256

-- n whole bytes, and then r bits
whole_and_bits : (n r : ℕ) (bytes base : List ℕ) → AllBytes bytes → AllBytes base → n ≤ length base → n ≤ length bytes → starts_with eqb (bits_of bytes) (take (8 * n + r) (bits_of base)) ≡ (starts_with eqb bytes (take n base) && starts_with eqb (bits_of (drop n bytes)) (take r (bits_of (drop n base))))
whole_and_bits zero r bytes base h k l m = let none : 8 * 0 + r ≡ r = omega arith in rw none refl
whole_and_bits (suc n) r bytes [] h k l m = absurd (omega arith)
whole_and_bits (suc n) r [] (b ∷ base) h k l m = absurd (omega arith)
whole_and_bits (suc n) r (c ∷ bytes) (b ∷ base) h k l m =
    let more : 8 * suc n + r ≡ suc (suc (suc (suc (suc (suc (suc (suc (8 * n + r)))))))) = omega arith in
    let later = whole_and_bits n r bytes base (λ i. h (suc i)) (λ i. k (suc i)) (omega arith) (omega arith) in
    rw more (bits_8 b c (k 0) (h 0) (starts_with eqb (bits_of bytes) (take (8 * n + r) (bits_of base))) ∙ ap (λ t. eqb b c && t) later ∙ sym (and_assoc (eqb b c) _ _))

-- a range is the whole bytes of its base, and then the bits of one more
in_range_is : (bytes base : List ℕ) (bits : ℕ) → AllBytes bytes → AllBytes base → bits ≤ 8 * length base → length base ≤ length bytes → in_range (range base bits) bytes ≡ (starts_with eqb bytes (take (bits / 8) base) && starts_with eqb (bits_of (drop (bits / 8) bytes)) (take (bits % 8) (bits_of (drop (bits / 8) base))))
unfolding in_range
in_range_is bytes base bits h k l m =
    let parts : bits ≡ 8 * (bits / 8) + bits % 8 = omega arith in
    ap (λ n. starts_with eqb (bits_of bytes) (take n (bits_of base))) parts ∙ whole_and_bits (bits / 8) (bits % 8) bytes base h k (omega arith) (omega arith)

-- the whole bytes differ
pub in_range_other : (bytes base : List ℕ) (bits : ℕ) → AllBytes bytes → AllBytes base → bits ≤ 8 * length base → length base ≤ length bytes → starts_with eqb bytes (take (bits / 8) base) ≡ false → in_range (range base bits) bytes ≡ false
in_range_other bytes base bits h k l m e = in_range_is bytes base bits h k l m ∙ ap (λ t. t && starts_with eqb (bits_of (drop (bits / 8) bytes)) (take (bits % 8) (bits_of (drop (bits / 8) base)))) e

-- the whole bytes are equal, and there is no more
pub in_range_whole : (bytes base : List ℕ) (bits : ℕ) → AllBytes bytes → AllBytes base → bits ≤ 8 * length base → length base ≤ length bytes → starts_with eqb bytes (take (bits / 8) base) ≡ true → bits % 8 ≡ 0 → in_range (range base bits) bytes ≡ true
in_range_whole bytes base bits h k l m e none =
    in_range_is bytes base bits h k l m ∙ ap (λ t. t && starts_with eqb (bits_of (drop (bits / 8) bytes)) (take (bits % 8) (bits_of (drop (bits / 8) base)))) e ∙ ap (λ r. starts_with eqb (bits_of (drop (bits / 8) bytes)) (take r (bits_of (drop (bits / 8) base)))) none

-- the whole bytes are equal, and the bits of the next byte decide
pub in_range_part : (bytes base : List ℕ) (bits : ℕ) → AllBytes bytes → AllBytes base → bits ≤ 8 * length base → length base ≤ length bytes → starts_with eqb bytes (take (bits / 8) base) ≡ true → 0 < bits % 8 → in_range (range base bits) bytes ≡ eqb (get_or base (bits / 8) 0 / 2 ^ (8 - bits % 8)) (get_or bytes (bits / 8) 0 / 2 ^ (8 - bits % 8))
in_range_part bytes base bits h k l m e some =
    let n = bits / 8 in
    let r = bits % 8 in
    let in_base : n < length base = omega arith in
    let in_bytes : n < length bytes = omega arith in
    in_range_is bytes base bits h k l m ∙ ap (λ t. t && starts_with eqb (bits_of (drop n bytes)) (take r (bits_of (drop n base)))) e ∙ ap (λ xs. starts_with eqb (bits_of xs) (take r (bits_of (drop n base)))) (drop-cons bytes n 0 in_bytes) ∙ ap (λ xs. starts_with eqb (bits_of (get_or bytes n 0 ∷ drop (suc n) bytes)) (take r (bits_of xs))) (drop-cons base n 0 in_base) ∙ high_bits (get_or base n 0) (get_or bytes n 0) (k n) (h n) r (drop (suc n) base) (drop (suc n) bytes) some (omega arith)
