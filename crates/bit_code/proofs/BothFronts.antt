-- The kind and the number that some bits begin with.
use Rattle.std.proofs.Common.{◌≡◌, ℕ, zero, suc, ◌+◌, ◌-◌, ◌/◌, ◌^◌, ◌<◌, ◌≤◌, Bool, List, ◌++◌, length, drop, Option, Some, ap, sym, ◌∙◌, arith, append_assoc, length-append}
use Rattle.std.proofs.Math.Seq.{drop-append_seam}
use Rattle.std.proofs.lemmas.List.{drop-drop}
use Rattle.bit_code.specs.declared.coder.Coder.{Coder}
use Rattle.bit_code.specs.declared.coder.Coder.TheVariants as coders
use Rattle.bit_code.specs.Coder.{low_digits, spelling, Spells, SpellsBoth, coder_after}
use Rattle.bit_code.specs.Inside.{IsWindow, longest}
use Rattle.bit_code.specs.Reading.{read_value}
use Rattle.bit_code.proofs.LowDigits.{length-low_digits, low_digits_split}
use Rattle.bit_code.proofs.ReadingLaws.{read_value-again, read_value-takes}
use Rattle.bit_code.proofs.Fronts.{shorter, shorter_rest, past_the_end, more_after}

-- with more bits after them, the bits begin with this kind and this number, which this many bits
-- spell
pub record BeginsWithBoth (kind n kind_len len : ℕ) (bits : List Bool) : Type 0 where
  pub after : List Bool
  pub room : kind_len + len ≤ length (bits ++ after)
  pub kind_read : read_value coders.Kind (bits ++ after) ≡ Some (kind, drop kind_len (bits ++ after))
  pub read : read_value (coder_after kind) (drop kind_len (bits ++ after)) ≡ Some (n, drop (kind_len + len) (bits ++ after))

same_read : {A : Type 0} (o : Option (ℕ × A)) (n m : ℕ) (xs ys : A) → o ≡ Some (n, xs) → o ≡ Some (m, ys) → (n ≡ m) × (xs ≡ ys)
same_read {A} o n m xs ys e h =
    let same : ◌≡◌ {A = Option (ℕ × A)} (Some (n, xs)) (Some (m, ys)) = sym e ∙ h in
    let pair : ◌≡◌ {A = ℕ × A} (n, xs) (m, ys) = cc in
    (ap (λ p. p.0) pair, ap (λ p. p.1) pair)

module _ (kind n kind_len len : ℕ) (bits : List Bool) (b : BeginsWithBoth kind n kind_len len bits) where
  abbrev whole : List Bool
  whole = bits ++ b.after

  pub found_both : kind_len + len ≤ length bits → SpellsBoth kind n bits (drop (kind_len + len) bits)
  found_both h =
      let kind_taken = read_value-takes coders.Kind kind whole (drop kind_len whole) b.kind_read in
      let taken = read_value-takes (coder_after kind) n (drop kind_len whole) (drop (kind_len + len) whole) b.read in
      let first = spelling coders.Kind kind in
      let second = spelling (coder_after kind) n in
      let e : whole ≡ first ++ second ++ drop (kind_len + len) whole = kind_taken.spelled ∙ ap (λ xs. first ++ xs) taken.spelled ∙ sym (append_assoc first second (drop (kind_len + len) whole)) in
      record {
        kind_value = kind_taken.value;
        value = taken.value;
        spelled = shorter bits b.after (first ++ second) (kind_len + len) e h ∙ append_assoc first second (drop (kind_len + len) bits);
      }

  other : (k m : ℕ) (rest : List Bool) → SpellsBoth k m bits rest → (kind ≡ k) × (n ≡ m) × (drop (kind_len + len) whole ≡ rest ++ b.after)
  other k m rest h =
      let second = spelling (coder_after k) m in
      let kind_more = more_after coders.Kind k bits (second ++ rest) b.after (record { value = h.kind_value; spelled = h.spelled }) in
      let kinds = same_read (read_value coders.Kind whole) kind k (drop kind_len whole) (second ++ rest ++ b.after) b.kind_read (read_value-again coders.Kind k whole (second ++ rest ++ b.after) kind_more) in
      let more : Spells (coder_after k) m (drop kind_len whole) (rest ++ b.after) = record { value = h.value; spelled = kinds.1 ∙ append_assoc second rest b.after } in
      let again = read_value-again (coder_after k) m (drop kind_len whole) (rest ++ b.after) more in
      let numbers = same_read (read_value (coder_after kind) (drop kind_len whole)) n m (drop (kind_len + len) whole) (rest ++ b.after) b.read (ap (λ j. read_value (coder_after j) (drop kind_len whole)) kinds.0 ∙ again) in
      (kinds.0, numbers.0, numbers.1)

  pub only_both : kind_len + len ≤ length bits → (k m : ℕ) (rest : List Bool) → SpellsBoth k m bits rest → (kind ≡ k) × (n ≡ m) × (drop (kind_len + len) bits ≡ rest)
  only_both room k m rest h = let o = other k m rest h in (o.0, o.1, shorter_rest bits b.after rest (kind_len + len) o.2 room)

  pub none_both : length bits < kind_len + len → (k m : ℕ) (rest : List Bool) → SpellsBoth k m bits rest → ⊥
  none_both past k m rest h = past_the_end bits b.after rest (kind_len + len) (other k m rest h).2 b.room past

both_fit : (kind kind_len : ℕ) → kind ≤ 3 → kind_len ≤ 3 → kind_len ≤ kind + 1 → kind_len + longest (coder_after kind) ≤ 57
both_fit zero kind_len top h k = omega arith
both_fit (suc zero) kind_len top h k = omega arith
both_fit (suc (suc zero)) kind_len top h k = omega arith
both_fit (suc (suc (suc zero))) kind_len top h k = omega arith
both_fit (suc (suc (suc (suc kind)))) kind_len top h k = absurd (omega arith)

module _ (kind n kind_len len : ℕ) (bits : List Bool) (at window : ℕ) (w : IsWindow bits at window) where
  abbrev shown : List Bool
  shown = low_digits 57 window ++ w.more

  kind_shown : ((more : List Bool) → read_value coders.Kind (low_digits 3 window ++ more) ≡ Some (kind, drop kind_len (low_digits 3 window ++ more))) → read_value coders.Kind shown ≡ Some (kind, drop kind_len shown)
  kind_shown read =
      let split : shown ≡ low_digits 3 window ++ (low_digits 54 (window / 2 ^ 3) ++ w.more) = ap (λ xs. xs ++ w.more) (low_digits_split 3 54 window) ∙ append_assoc (low_digits 3 window) (low_digits 54 (window / 2 ^ 3)) w.more in
      rw split (read (low_digits 54 (window / 2 ^ 3) ++ w.more))

  number_shown : (coder : Coder) → kind_len + longest coder ≤ 57 → ((more : List Bool) → read_value coder (low_digits (longest coder) (window / 2 ^ kind_len) ++ more) ≡ Some (n, drop len (low_digits (longest coder) (window / 2 ^ kind_len) ++ more))) → read_value coder (drop kind_len shown) ≡ Some (n, drop (kind_len + len) shown)
  number_shown coder fits read =
      let long = longest coder in
      let k = 57 - kind_len - long in
      let e : 57 ≡ kind_len + (long + k) = omega arith in
      let low = low_digits kind_len window in
      let mid = low_digits long (window / 2 ^ kind_len) in
      let top = low_digits k (window / 2 ^ kind_len / 2 ^ long) in
      let digits : low_digits 57 window ≡ low ++ (mid ++ top) = ap (λ j. low_digits j window) e ∙ low_digits_split kind_len (long + k) window ∙ ap (λ xs. low ++ xs) (low_digits_split long k (window / 2 ^ kind_len)) in
      let parts : shown ≡ low ++ (mid ++ (top ++ w.more)) = ap (λ xs. xs ++ w.more) digits ∙ simp append_assoc in
      let from : drop kind_len shown ≡ mid ++ (top ++ w.more) = ap (drop kind_len) parts ∙ (rw length-low_digits at (drop-append_seam low (mid ++ (top ++ w.more)))) in
      let rest : drop len (mid ++ (top ++ w.more)) ≡ drop (kind_len + len) shown = ap (drop len) (sym from) ∙ drop-drop len kind_len shown in
      ap (read_value coder) from ∙ read (top ++ w.more) ∙ ap (λ xs. Some (n, xs)) rest

  pub window_both : (coder : Coder) → coder ≡ coder_after kind → kind ≤ 3 → kind_len ≤ 3 → kind_len ≤ kind + 1 → len ≤ longest coder → ((more : List Bool) → read_value coders.Kind (low_digits 3 window ++ more) ≡ Some (kind, drop kind_len (low_digits 3 window ++ more))) → ((more : List Bool) → read_value coder (low_digits (longest coder) (window / 2 ^ kind_len) ++ more) ≡ Some (n, drop len (low_digits (longest coder) (window / 2 ^ kind_len) ++ more))) → BeginsWithBoth kind n kind_len len (drop at bits)
  window_both coder e top few few_more short kind_read read =
      let fits : kind_len + longest coder ≤ 57 = rw e (both_fit kind kind_len top few few_more) in
      let room : kind_len + len ≤ length shown = omega (arith, fits, short, length-append (low_digits 57 window) w.more, length-low_digits 57 window) in
      record {
        after = w.after;
        room = rw w.shown room;
        kind_read = rw w.shown (kind_shown kind_read);
        read = rw (w.shown, ← e) (number_shown coder fits read);
      }
