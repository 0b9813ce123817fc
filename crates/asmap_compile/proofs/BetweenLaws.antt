-- The bits of an address from one index up to another.
use Rattle.std.proofs.Common.{◌≡◌, ℕ, zero, suc, ◌+◌, ◌-◌, ◌*◌, ◌/◌, ◌%◌, ◌^◌, ◌<◌, ◌≤◌, Bool, true, List, [], ◌∷◌, ◌++◌, length, take, drop, min, refl, ap, sym, ◌∙◌, arith, length-append, bit_and, ◌⊎◌, inl, inr, append-nil}
use Rattle.std.proofs.lemmas.Nat.{shr-shr, one_shl, and_mask}
use Rattle.std.proofs.lemmas.List.{take_at, drop_at, take_all, drop_all}
use Rattle.std.proofs.Math.Nat.{pow-suc}
use Rattle.std.proofs.Math.Pow.{pow_mono}
use Rattle.bit_code.specs.Coder.{digits, number_of, HasValue}
use Rattle.bit_code.specs.declared.coder.Coder.TheVariants as coders
use Rattle.bit_code.proofs.DigitLaws.{length-digits, digits_above, number_of-lt}
use Rattle.asmap_vm.specs.Code.{Tree, Match}
use Rattle.asmap_compile.specs.Compiled.{matches}
use Rattle.asmap_compile.specs.Inside.{bits_between}
use Rattle.bit_code.proofs.PrefixLaws.{nil_from}
use Rattle.std.proofs.lemmas.Bool.{cases_lt}
use Rattle.asmap_vm.proofs.AddressLaws.{number_of-mod}
use Rattle.asmap_vm.proofs.MatchLaws.{match_values, number_of_wanted}

pub between_long : (bits from to : ℕ) → length (bits_between bits from to) ≡ to - from
unfolding bits_between
between_long bits from to = length-digits (to - from) (bits / 2 ^ (128 - to))

pub between_value : (bits from to : ℕ) → from < to → to ≤ from + 8 → HasValue coders.Match (number_of (true ∷ bits_between bits from to))
between_value bits from to some few =
    let wanted = bits_between bits from to in
    let long = between_long bits from to in
    let one : 1 ≤ length wanted = omega arith in
    let eight : length wanted ≤ 8 = omega arith in
    record {
      low = omega (arith, number_of_wanted wanted, pow_mono one);
      high = omega (arith, number_of-lt (true ∷ wanted), pow_mono eight, pow-suc 2 (length wanted), match_values);
    }

pub match_number_is : (bits from to : ℕ) → from < to → to ≤ from + 8 →
    1 * 2 ^ (to - from) % 2 ^ 32 + bit_and (bits / 2 ^ (128 - to)) (1 * 2 ^ (to - from) % 2 ^ 128 - 1) ≡ number_of (true ∷ bits_between bits from to)
unfolding bits_between
match_number_is bits from to some few =
    let size = to - from in
    let low = bits / 2 ^ (128 - to) in
    let value : number_of (digits size low) ≡ low % 2 ^ size = number_of-mod size low in
    let long : length (digits size low) ≡ size = length-digits size low in
    rw (one_shl size 128 (omega arith), one_shl size 32 (omega arith), and_mask, number_of_wanted (digits size low), long, value) refl

-- the bits up to an index between, and then those after it
pub between_split : (bits from end to : ℕ) → from ≤ end → end ≤ to → to ≤ 128 → bits_between bits from to ≡ bits_between bits from end ++ bits_between bits end to
unfolding bits_between
between_split bits from end to low high top =
    let size : (end - from) + (to - end) ≡ to - from = omega arith in
    let shift : (128 - to) + (to - end) ≡ 128 - end = omega arith in
    let above = digits_above (end - from) (to - end) (bits / 2 ^ (128 - to)) in
    let part : bits / 2 ^ (128 - to) / 2 ^ (to - end) ≡ bits / 2 ^ (128 - end) = shr-shr bits (128 - to) (to - end) ∙ ap (λ n. bits / 2 ^ n) shift in
    ap (λ n. digits n (bits / 2 ^ (128 - to))) (sym size) ∙ above ∙ ap (λ n. digits (end - from) n ++ digits (to - end) (bits / 2 ^ (128 - to))) part

pub matches_none : (count : ℕ) (t : Tree) → matches count [] t ≡ t
unfolding matches
matches_none zero t = refl
matches_none (suc count) t = refl

matches_some : (count : ℕ) (bits : List Bool) (t : Tree) → 0 < length bits → matches (suc count) bits t ≡ Match (take 8 bits) (matches count (drop 8 bits) t)
unfolding matches
matches_some count [] t some = absurd (omega arith)
matches_some count (b ∷ bits) t some = refl

-- the first eight bits, or all if there are no more
record IsCut (start back : List Bool) : Type 0 where
  first : take 8 (start ++ back) ≡ start
  rest : drop 8 (start ++ back) ≡ back

cut_at : (start back : List Bool) → (length start ≡ 8) ⊎ ((length back ≡ 0) × (length start ≤ 8)) → IsCut start back
cut_at start back (inl eight) = record { first = take_at start back 8 eight; rest = drop_at start back 8 eight }
cut_at start back (inr (none, few)) =
    let whole : length (start ++ back) ≤ 8 = omega (arith, length-append start back) in
    record {
      first = take_all 8 (start ++ back) whole ∙ ap (λ xs. start ++ xs) (nil_from back none) ∙ append-nil start;
      rest = drop_all 8 (start ++ back) whole ∙ sym (nil_from back none);
    }

-- the first match of the bits between two indexes, and then those of the others
pub matches_first : (count bits from to end : ℕ) (t : Tree) → from < to → to ≤ 128 → end ≡ min to (from + 8) →
    matches (suc count) (bits_between bits from to) t ≡ Match (bits_between bits from end) (matches count (bits_between bits end to) t)
matches_first count bits from to end t some top e =
    let start = bits_between bits from end in
    let back = bits_between bits end to in
    let split = between_split bits from end to (omega arith) (omega arith) top in
    let start_long = between_long bits from end in
    let back_long = between_long bits end to in
    let cut = cut_at start back (elim (cases_lt to (from + 8)) [ inl near ↦ inr (omega arith, omega arith) | inr far ↦ inl (omega arith) ]) in
    matches_some count (bits_between bits from to) t (omega (arith, between_long bits from to))
    ∙ ap (λ xs. Match (take 8 xs) (matches count (drop 8 xs) t)) split
    ∙ ap (λ xs. Match xs (matches count (drop 8 (start ++ back)) t)) cut.first
    ∙ ap (λ xs. Match start (matches count xs t)) cut.rest

pub between_none : (bits at : ℕ) → bits_between bits at at ≡ []
between_none bits at = nil_from (bits_between bits at at) (omega (arith, between_long bits at at))
