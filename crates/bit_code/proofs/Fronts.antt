-- What some bits begin with, by what they begin with when more bits follow.
use Rattle.std.proofs.Common.{◌≡◌, ℕ, ◌+◌, ◌-◌, ◌/◌, ◌^◌, ◌<◌, ◌≤◌, Bool, List, ◌++◌, length, drop, Option, Some, ap, sym, ◌∙◌, arith, append_assoc, length-append, length-drop}
use Rattle.std.proofs.lemmas.List.{append_cancel_right, drop-append-le}
use Rattle.bit_code.specs.declared.coder.Coder.{Coder}
use Rattle.bit_code.specs.declared.coder.Coder.TheVariants as coders
use Rattle.bit_code.specs.Coder.{low_digits, spelling, Spells}
use Rattle.bit_code.specs.Inside.{IsWindow, longest}
use Rattle.bit_code.specs.Reading.{read_value}
use Rattle.bit_code.proofs.LowDigits.{length-low_digits, low_digits_split}
use Rattle.bit_code.proofs.ReadingLaws.{read_value-again, read_value-takes}

-- the same spelling with fewer bits after it
pub shorter : (bits after word : List Bool) (len : ℕ) → bits ++ after ≡ word ++ drop len (bits ++ after) → len ≤ length bits → bits ≡ word ++ drop len bits
shorter bits after word len e h =
    let rest : drop len (bits ++ after) ≡ drop len bits ++ after = drop-append-le len bits after h in
    append_cancel_right bits (word ++ drop len bits) after (e ∙ ap (λ xs. word ++ xs) rest ∙ sym (append_assoc word (drop len bits) after))

pub shorter_rest : (bits after rest : List Bool) (len : ℕ) → drop len (bits ++ after) ≡ rest ++ after → len ≤ length bits → drop len bits ≡ rest
shorter_rest bits after rest len e h =
    append_cancel_right (drop len bits) rest after (sym (drop-append-le len bits after h) ∙ e)

pub past_the_end : (bits after rest : List Bool) (len : ℕ) → drop len (bits ++ after) ≡ rest ++ after → len ≤ length (bits ++ after) → length bits < len → ⊥
past_the_end bits after rest len e h past =
    omega (arith, ap length e, length-drop len (bits ++ after), length-append bits after, length-append rest after)

pub more_after : (coder : Coder) (n : ℕ) (bits rest after : List Bool) → Spells coder n bits rest → Spells coder n (bits ++ after) (rest ++ after)
more_after coder n bits rest after h =
    record { value = h.value; spelled = ap (λ xs. xs ++ after) h.spelled ∙ append_assoc (spelling coder n) rest after }

-- with more bits after them, the bits begin with this value, which this many bits spell
pub record BeginsWith (coder : Coder) (value len : ℕ) (bits : List Bool) : Type 0 where
  pub after : List Bool
  pub room : len ≤ length (bits ++ after)
  pub read : read_value coder (bits ++ after) ≡ Some (value, drop len (bits ++ after))

module _ (coder : Coder) (value len : ℕ) (bits : List Bool) (b : BeginsWith coder value len bits) where
  taken : Spells coder value (bits ++ b.after) (drop len (bits ++ b.after))
  taken = read_value-takes coder value (bits ++ b.after) (drop len (bits ++ b.after)) b.read

  pub found : len ≤ length bits → Spells coder value bits (drop len bits)
  found h = record { value = taken.value; spelled = shorter bits b.after (spelling coder value) len taken.spelled h }

  other : (n : ℕ) (rest : List Bool) → Spells coder n bits rest → (value ≡ n) × (drop len (bits ++ b.after) ≡ rest ++ b.after)
  other n rest h =
      let again = read_value-again coder n (bits ++ b.after) (rest ++ b.after) (more_after coder n bits rest b.after h) in
      let same : ◌≡◌ {A = Option (ℕ × List Bool)} (Some (value, drop len (bits ++ b.after))) (Some (n, rest ++ b.after)) = sym b.read ∙ again in
      let pair : ◌≡◌ {A = ℕ × List Bool} (value, drop len (bits ++ b.after)) (n, rest ++ b.after) = cc in
      (ap (λ p. p.0) pair, ap (λ p. p.1) pair)

  pub only : len ≤ length bits → (n : ℕ) (rest : List Bool) → Spells coder n bits rest → (value ≡ n) × (drop len bits ≡ rest)
  only room n rest h = let o = other n rest h in (o.0, shorter_rest bits b.after rest len o.1 room)

  pub none : length bits < len → (n : ℕ) (rest : List Bool) → Spells coder n bits rest → ⊥
  none past n rest h = past_the_end bits b.after rest len (other n rest h).1 b.room past

-- a window shows what the bits begin with
pub window_begins : (coder : Coder) (value len : ℕ) (bits : List Bool) (at window : ℕ) → IsWindow bits at window → longest coder ≤ 57 → len ≤ longest coder → ((more : List Bool) → read_value coder (low_digits (longest coder) window ++ more) ≡ Some (value, drop len (low_digits (longest coder) window ++ more))) → BeginsWith coder value len (drop at bits)
window_begins coder value len bits at window w fits short read =
    let long = longest coder in
    let e : 57 ≡ long + (57 - long) = omega arith in
    let more = low_digits (57 - long) (window / 2 ^ long) ++ w.more in
    let split : low_digits 57 window ++ w.more ≡ low_digits long window ++ more = ap (λ k. low_digits k window ++ w.more) e ∙ ap (λ xs. xs ++ w.more) (low_digits_split long (57 - long) window) ∙ append_assoc (low_digits long window) (low_digits (57 - long) (window / 2 ^ long)) w.more in
    let whole : drop at bits ++ w.after ≡ low_digits long window ++ more = w.shown ∙ split in
    let room : len ≤ length (low_digits long window ++ more) = omega (arith, length-append (low_digits long window) more, length-low_digits long window) in
    record { after = w.after; room = rw whole room; read = rw whole (read more) }

pub longest-le : (coder : Coder) → longest coder ≤ 57
longest-le coders.Kind = omega arith
longest-le coders.Asn = omega arith
longest-le coders.Match = omega arith
longest-le coders.Jump = omega arith
