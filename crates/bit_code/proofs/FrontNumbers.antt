-- The number that the digits of a window begin with.
use Rattle.std.proofs.Common.{◌≡◌, ℕ, zero, suc, ◌+◌, ◌-◌, ◌*◌, ◌/◌, ◌^◌, ◌<◌, ◌≤◌, Bool, true, false, List, [], ◌∷◌, ◌++◌, length, take, drop, Some, refl, ap, sym, ◌∙◌, arith, append_assoc, length-append, add-one, nat_lt}
use Rattle.std.specs.List.{range_with_len}
use Rattle.std.proofs.Math.Seq.{take-append_seam, drop-append_seam, drop-append-add}
use Rattle.std.proofs.lemmas.Bool.{le-ltb}
use Rattle.bit_code.specs.Coder.{low_digits, number_of, has_bit, sizes, least}
use Rattle.bit_code.specs.Inside.{class_head, IsClass, longest}
use Rattle.bit_code.specs.Reading.{digits_at, read_by, after_values, read_value}
use Rattle.bit_code.specs.declared.coder.Coder.{Coder}
use Rattle.bit_code.specs.declared.coder.Coder.TheVariants as coders
use Rattle.bit_code.proofs.LowDigits.{length-low_digits, low_digits_split}
use Rattle.bit_code.proofs.RisingClasses.{read_class, low_digits_head}

-- digits, and more bits after them
pub digits_at_front : (size : ℕ) (ds tail : List Bool) → length ds ≡ size → digits_at size (ds ++ tail) ≡ Some (number_of ds, tail)
unfolding digits_at
digits_at_front size ds tail e =
    let long : nat_lt (length (ds ++ tail)) size ≡ false = le-ltb _ _ (omega (arith, length-append ds tail)) in
    let front : take size (ds ++ tail) ≡ ds = rw e at (take-append_seam ds tail) in
    let back : drop size (ds ++ tail) ≡ tail = rw e at (drop-append_seam ds tail) in
    rw (long, front, back) refl

module _ (n class last first : ℕ) (more : List Bool) (c : IsClass n class last) where
  abbrev head : ℕ
  head = length (class_head class last)

  abbrev bits : List Bool
  bits = low_digits (first + 2 * last) n ++ more

  abbrev ds : List Bool
  ds = low_digits (first + class) (n / 2 ^ head)

  record Parts : Type 0 where
    tail : List Bool
    parts : bits ≡ class_head class last ++ (ds ++ tail)

  cut : (k : ℕ) → first + 2 * last ≡ head + (first + class + k) → Parts
  cut k e =
      let top = low_digits k (n / 2 ^ head / 2 ^ (first + class)) in
      let whole : low_digits (first + 2 * last) n ≡ class_head class last ++ (ds ++ top) =
      ap (λ j. low_digits j n) e
      ∙ low_digits_split head (first + class + k) n
      ∙ ap (λ xs. xs ++ low_digits (first + class + k) (n / 2 ^ head)) (low_digits_head class last n c)
      ∙ ap (λ xs. class_head class last ++ xs) (low_digits_split (first + class) k (n / 2 ^ head)) in
      record { tail = top ++ more; parts = ap (λ xs. xs ++ more) whole ∙ simp append_assoc }

  read_parts : (least : ℕ) → Parts → after_values least (read_by (range_with_len first (suc last)) bits) ≡ Some (least + (2 ^ (first + class) - 2 ^ first + number_of ds), drop (head + (first + class)) bits)
  read_parts least p =
      let size = first + class in
      let read = read_class class last first (ds ++ p.tail) c.within in
      let front = digits_at_front size ds p.tail (length-low_digits size (n / 2 ^ head)) in
      let rest : drop (head + size) bits ≡ p.tail = ap (drop (head + size)) p.parts ∙ drop-append-add (class_head class last) (ds ++ p.tail) size ∙ (rw length-low_digits at (drop-append_seam ds p.tail)) in
      ap (λ xs. after_values least (read_by (range_with_len first (suc last)) xs)) p.parts
      ∙ ap (after_values least) (read ∙ ap (after_values (2 ^ size - 2 ^ first)) front)
      ∙ ap (λ xs. Some (least + (2 ^ size - 2 ^ first + number_of ds), xs)) (sym rest)

  pub read_rising : (coder : Coder) (low : ℕ) → low ≡ least coder → sizes coder ≡ range_with_len first (last + 1) → first + 2 * last ≡ longest coder → head + class ≤ 2 * last → read_value coder (low_digits (longest coder) n ++ more) ≡ Some (low + (2 ^ (first + class) - 2 ^ first) + number_of ds, drop (head + (first + class)) (low_digits (longest coder) n ++ more))
  unfolding read_value
  read_rising coder low same_least same_sizes same_longest h =
      let e : low + (2 ^ (first + class) - 2 ^ first + number_of ds) ≡ low + (2 ^ (first + class) - 2 ^ first) + number_of ds = omega arith in
      rw (← same_least, same_sizes, ← same_longest, add-one)
      (read_parts low (cut (2 * last - head - class) (omega (arith, h))) ∙ ap (λ x. Some (x, drop (head + (first + class)) bits)) e)

-- ---- the four kinds

-- how many bits spell a kind
abbrev pub kind_len : ℕ → ℕ
kind_len kind = length (class_head kind 3)

read_kind : (kind : ℕ) (a b c : Bool) (more : List Bool) → kind ≤ 3 → (0 < kind → a ≡ true) → (1 < kind → b ≡ true) → (2 < kind → c ≡ true) → (kind ≡ 0 → a ≡ false) → (kind ≡ 1 → b ≡ false) → (kind ≡ 2 → c ≡ false) → read_value coders.Kind (a ∷ b ∷ c ∷ more) ≡ Some (kind, drop (kind_len kind) (a ∷ b ∷ c ∷ more))
unfolding read_value read_by digits_at sizes number_of
read_kind zero a b c more top one two three none first second =
    rw (none refl) (ap (after_values 0) (digits_at_front 0 [] (b ∷ c ∷ more) refl))
read_kind (suc zero) a b c more top one two three none first second =
    rw (one (omega arith), first refl) (ap (λ r. after_values 0 (after_values 1 r)) (digits_at_front 0 [] (c ∷ more) refl))
read_kind (suc (suc zero)) a b c more top one two three none first second =
    rw (one (omega arith), two (omega arith), second refl) (ap (λ r. after_values 0 (after_values 1 (after_values 1 r))) (digits_at_front 1 (false ∷ []) more refl))
read_kind (suc (suc (suc zero))) a b c more top one two three none first second =
    rw (one (omega arith), two (omega arith), three (omega arith)) (ap (λ r. after_values 0 (after_values 1 (after_values 1 r))) (digits_at_front 1 (true ∷ []) more refl))
read_kind (suc (suc (suc (suc kind)))) a b c more top one two three none first second = absurd (omega arith)

pub kind_ahead : (n kind : ℕ) (more : List Bool) → IsClass n kind 3 → read_value coders.Kind (low_digits 3 n ++ more) ≡ Some (kind, drop (kind_len kind) (low_digits 3 n ++ more))
unfolding low_digits
kind_ahead n kind more r =
    read_kind kind (has_bit n 0) (has_bit n 1) (has_bit n 2) more r.within (λ h. r.ones 0 h) (λ h. r.ones 1 h) (λ h. r.ones 2 h) (λ e. rw e at r.stop (omega arith)) (λ e. rw e at r.stop (omega arith)) (λ e. rw e at r.stop (omega arith))
