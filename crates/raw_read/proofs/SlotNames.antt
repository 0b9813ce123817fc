-- The name of a slot is that of one slot.
use Rattle.std.proofs.Common.{◌≡◌, ◌≢◌, ℕ, ◌<◌, ◌^◌, All, List, [], ◌∷◌, ◌++◌, codes, decimal, drop, refl, sym, ap, ◌∙◌, subst, arith, append_assoc}
use Rattle.std.proofs.lemmas.Fmt.{decimal_is_IsNumeral, decimal_injective}
use Rattle.std.proofs.lemmas.Str.Parse.{digit_at}
use Rattle.std.proofs.lemmas.List.Elements.{All-head, All-tail, All-from_get_or}
use Rattle.raw_read.specs.Rows.{IsSlot, buckets_of}
use Rattle.raw_read.specs.declared.raw.RawTable.{RawTable}
use Rattle.raw_read.specs.declared.raw.RawTable.TheVariants.{New, Tried}

abbrev NoSlash : List ℕ → Type 0
NoSlash = All (λ c. c ≢ 47)

not_without : (earlier later : List ℕ) → NoSlash (earlier ++ 47 ∷ later) → ⊥
not_without [] later h = All-head (λ c. c ≢ 47) 47 later h refl
not_without (x ∷ earlier) later h = not_without earlier later (All-tail (λ c. c ≢ 47) x (earlier ++ 47 ∷ later) h)

-- the texts around the last slash are known from the whole
one_cut : (a x b y : List ℕ) → a ++ 47 ∷ b ≡ x ++ 47 ∷ y → NoSlash b → NoSlash y → (a ≡ x) × (b ≡ y)
one_cut [] [] b y e h k = (refl, ap (λ xs. drop 1 xs) e)
one_cut [] (c ∷ x) b y e h k = absurd (not_without x y (subst NoSlash (ap (λ xs. drop 1 xs) e) h))
one_cut (c ∷ a) [] b y e h k = absurd (not_without a b (subst NoSlash (sym (ap (λ xs. drop 1 xs) e)) k))
one_cut (c ∷ a) (d ∷ x) b y e h k =
    let heads : c ≡ d = cc in
    let tails : a ++ 47 ∷ b ≡ x ++ 47 ∷ y = ap (λ xs. drop 1 xs) e in
    let rest = one_cut a x b y tails h k in
    (λ i. heads i ∷ rest.0 i, rest.1)

no_slash : (n : ℕ) → n < 2 ^ 64 → NoSlash (decimal n)
no_slash n h =
    All-from_get_or (λ c. c ≢ 47) (decimal n) 0 λ i lt.
    let digit = digit_at (decimal n) i (decimal_is_IsNumeral n h).0.1 lt in
    omega arith

pub few_buckets : (table : RawTable) → buckets_of table < 2000
few_buckets New = omega arith
few_buckets Tried = omega arith

-- the parts around the last slash are the bucket and the position
pub slot_parts : (table : RawTable) (name before after : List ℕ) (bucket position : ℕ) → name ≡ before ++ 47 ∷ after → NoSlash after → IsSlot table name bucket position → (before ≡ decimal bucket) × (after ≡ decimal position)
slot_parts table name before after bucket position cut last h =
    one_cut before (decimal bucket) after (decimal position)
    (sym cut ∙ h.named ∙ append_assoc (decimal bucket) (codes "/") (decimal position)) last
    (no_slash position (omega (arith, h.position_below)))

pub one_slot : (table : RawTable) (name : List ℕ) (b c p q : ℕ) → IsSlot table name b p → IsSlot table name c q → (b ≡ c) × (p ≡ q)
one_slot table name b c p q h k =
    let cut = h.named ∙ append_assoc (decimal b) (codes "/") (decimal p) in
    let parts = slot_parts table name (decimal b) (decimal p) c q cut (no_slash p (omega (arith, h.position_below))) k in
    let few = few_buckets table in (
      decimal_injective b c (omega (arith, few, h.bucket_below)) (omega (arith, few, k.bucket_below)) parts.0,
      decimal_injective p q (omega (arith, h.position_below)) (omega (arith, k.position_below)) parts.1,
    )
