-- A grid's blocks and masks as the list of the slots.
use Rattle.std.proofs.Common.{◌≡◌, ◌≢◌, ◌∙◌, ℕ, zero, suc, ◌+◌, ◌*◌, ◌/◌, ◌%◌, ◌==◌, ◌<◌, ◌≤◌, List, [], ◌∷◌, ◌++◌, All, length, set, get_or, take, drop, true, false, cond, append-nil, inl, inr, Option, Some, None, is_some, sym, ap, subst, refl, arith}
use Rattle.std.specs.Int.{bit_at}
use Rattle.std.proofs.lemmas.Bool.{cases_eq, cases_lt}
use Rattle.std.proofs.lemmas.Nat.Bits.{bit_at-zero}
use Rattle.std.proofs.lemmas.List.{ext_get_or, get_or-set_same, get_or-set_other, length-set, get_or_append_left, get_or_at, length-append, get_or_past, get_or_default, take_all, drop_all}
use Rattle.std.proofs.lemmas.List.Edits.{map_over_more}
use Rattle.std.specs.Prelude.{map}
use Rattle.std.proofs.lemmas.List.Elements.{All-get_or}
use Rattle.std.proofs.lemmas.List.FromFn.{get_or-map-range_with_len, length-map-range_with_len}
use Rattle.std.proofs.lemmas.Option.{none-some, same_Some}
use Rattle.slot_grid.specs.Masks.{AreMasks, bit_of}
use Rattle.slot_grid.specs.Slots.{Slots, AreEmpty, renumbered}
use Rattle.slot_grid.specs.Inside.{in_block, occupant, slots_of, missing, AreBlocks, AreStored, IsGrown, IsKept}
use Rattle.slot_grid.specs.declared.sizes.TheConstants.{BUCKETS, SLOTS, ALL_SLOTS, NEW_BUCKETS}

pub length-slots : (ids : List (List ℕ)) (blocks : List (Option ℕ)) (masks : List ℕ) → length (slots_of ids blocks masks) ≡ ALL_SLOTS
unfolding slots_of
length-slots ids blocks masks = length-map-range_with_len (occupant ids blocks masks) 0 ALL_SLOTS

-- the slot of a bucket is what its block and its mask say
pub slot-at : (ids : List (List ℕ)) (blocks : List (Option ℕ)) (masks : List ℕ) (bucket slot : ℕ) → bucket < BUCKETS → slot < SLOTS
    → get_or (slots_of ids blocks masks) (SLOTS * bucket + slot) None ≡ in_block ids (get_or blocks bucket None) (get_or masks bucket 0) slot
unfolding slots_of occupant
slot-at ids blocks masks bucket slot b s =
    get_or-map-range_with_len (occupant ids blocks masks) 0 ALL_SLOTS (SLOTS * bucket + slot) (SLOTS * bucket + slot) None (omega (arith, b, s)) (omega arith)
    ∙ ap (λ n. in_block ids (get_or blocks n None) (get_or masks n 0) ((SLOTS * bucket + slot) % SLOTS)) row
    ∙ ap (λ n. in_block ids (get_or blocks bucket None) (get_or masks bucket 0) n) column
  where
    row : (SLOTS * bucket + slot) / SLOTS ≡ bucket
    row = omega (arith, s)

    column : (SLOTS * bucket + slot) % SLOTS ≡ slot
    column = omega (arith, s)

-- a bucket without a block has nothing
pub none-at : (ids : List (List ℕ)) (blocks : List (Option ℕ)) (masks : List ℕ) (bucket slot : ℕ) → bucket < BUCKETS → slot < SLOTS
    → get_or blocks bucket None ≡ None → None ≡ get_or (slots_of ids blocks masks) (SLOTS * bucket + slot) None
unfolding in_block
none-at ids blocks masks bucket slot b s is =
    sym (slot-at ids blocks masks bucket slot b s ∙ ap (λ o. in_block ids o (get_or masks bucket 0) slot) is)

on : (ids : List (List ℕ)) (block mask slot : ℕ) → bit_at mask slot ≡ 1 → in_block ids (Some block) mask slot ≡ Some (get_or (get_or ids block []) slot 0)
unfolding in_block
on ids block mask slot e = ap (λ bit. cond (bit == 1) (Some (get_or (get_or ids block []) slot 0)) None) e

off : (ids : List (List ℕ)) (block : Option ℕ) (mask slot : ℕ) → bit_at mask slot ≡ 0 → in_block ids block mask slot ≡ None
unfolding in_block
off ids None mask slot e = refl
off ids (Some block) mask slot e = ap (λ bit. cond (bit == 1) (Some (get_or (get_or ids block []) slot 0)) None) e

same-bit : (ids : List (List ℕ)) (block : Option ℕ) (mask new_mask slot : ℕ) → bit_at new_mask slot ≡ bit_at mask slot → in_block ids block new_mask slot ≡ in_block ids block mask slot
unfolding in_block
same-bit ids None mask new_mask slot e = refl
same-bit ids (Some block) mask new_mask slot e = ap (λ bit. cond (bit == 1) (Some (get_or (get_or ids block []) slot 0)) None) e

same-id : (ids new_ids : List (List ℕ)) (block mask slot : ℕ) → get_or (get_or new_ids block []) slot 0 ≡ get_or (get_or ids block []) slot 0
    → in_block new_ids (Some block) mask slot ≡ in_block ids (Some block) mask slot
unfolding in_block
same-id ids new_ids block mask slot e = ap (λ id. cond (bit_at mask slot == 1) (Some id) None) e

same-row : (ids new_ids : List (List ℕ)) (block : Option ℕ) (mask slot : ℕ) → ((b : ℕ) → block ≡ Some b → get_or new_ids b [] ≡ get_or ids b [])
    → in_block new_ids block mask slot ≡ in_block ids block mask slot
unfolding in_block
same-row ids new_ids None mask slot e = refl
same-row ids new_ids (Some block) mask slot e = same-id ids new_ids block mask slot (ap (λ row. get_or row slot 0) (e block refl))

-- a bucket with a block has the id there if its bit is 1, and nothing if it is 0
pub some-at : (ids : List (List ℕ)) (blocks : List (Option ℕ)) (masks : List ℕ) (bucket slot block : ℕ) → bucket < BUCKETS → slot < SLOTS
    → get_or blocks bucket None ≡ Some block → (bit_at (get_or masks bucket 0) slot == 1) ≡ true
    → Some (get_or (get_or ids block []) slot 0) ≡ get_or (slots_of ids blocks masks) (SLOTS * bucket + slot) None
unfolding in_block
some-at ids blocks masks bucket slot block b s is bit =
    sym (slot-at ids blocks masks bucket slot b s ∙ ap (λ o. in_block ids o (get_or masks bucket 0) slot) is
    ∙ ap (λ t. cond t (Some (get_or (get_or ids block []) slot 0)) None) bit)

pub no-bit-at : (ids : List (List ℕ)) (blocks : List (Option ℕ)) (masks : List ℕ) (bucket slot block : ℕ) → bucket < BUCKETS → slot < SLOTS
    → get_or blocks bucket None ≡ Some block → (bit_at (get_or masks bucket 0) slot == 1) ≡ false
    → None ≡ get_or (slots_of ids blocks masks) (SLOTS * bucket + slot) None
unfolding in_block
no-bit-at ids blocks masks bucket slot block b s is bit =
    sym (slot-at ids blocks masks bucket slot b s ∙ ap (λ o. in_block ids o (get_or masks bucket 0) slot) is
    ∙ ap (λ t. cond t (Some (get_or (get_or ids block []) slot 0)) None) bit)

-- the number of buckets without a block

count-none : (blocks : List (Option ℕ)) → missing (None ∷ blocks) ≡ 1 + missing blocks
count-none blocks = refl

count-some : (block : ℕ) (blocks : List (Option ℕ)) → missing (Some block ∷ blocks) ≡ missing blocks
count-some block blocks = refl

count-more : (first : Option ℕ) (blocks new_blocks : List (Option ℕ)) → missing new_blocks + 1 ≡ missing blocks
    → missing (first ∷ new_blocks) + 1 ≡ missing (first ∷ blocks)
count-more None blocks new_blocks e = omega (arith, e, count-none blocks, count-none new_blocks)
count-more (Some block) blocks new_blocks e = omega (arith, e, count-some block blocks, count-some block new_blocks)

count-first : (block : ℕ) (blocks : List (Option ℕ)) → missing (Some block ∷ blocks) + 1 ≡ missing (None ∷ blocks)
count-first block blocks = omega (arith, count-some block blocks, count-none blocks)

-- a bucket that gets its first block was one of them
pub count-given : (blocks : List (Option ℕ)) (bucket block : ℕ) → bucket < length blocks → get_or blocks bucket None ≡ None
    → missing (set blocks bucket (Some block)) + 1 ≡ missing blocks
count-given [] bucket block within is = absurd (omega (arith, within))
count-given (None ∷ blocks) zero block within is = count-first block blocks
count-given (Some other ∷ blocks) zero block within is = absurd (none-some other (sym is))
count-given (first ∷ blocks) (suc bucket) block within is = count-more first blocks (set blocks bucket (Some block)) (count-given blocks bucket block (omega (arith, within)) is)

all-none : (blocks : List (Option ℕ)) → ((i : ℕ) → get_or blocks i None ≡ None) → missing blocks ≡ length blocks
all-none [] h = refl
all-none (None ∷ blocks) h = omega (arith, count-none blocks, all-none blocks (λ i. h (suc i)))
all-none (Some block ∷ blocks) h = absurd (none-some block (sym (h zero)))

-- there is room for one more
pub few-blocks : (ids : List (List ℕ)) (blocks : List (Option ℕ)) (bucket : ℕ) → AreBlocks ids blocks → bucket < BUCKETS → get_or blocks bucket None ≡ None → length ids < BUCKETS
few-blocks ids blocks bucket are b is = omega (arith, are.left, count-given blocks bucket 0 (omega (arith, are.buckets, b)) is)

longer : (ids : List (List ℕ)) (row : List ℕ) → length (ids ++ row ∷ []) ≡ length ids + 1
longer ids row = length-append ids (row ∷ [])

-- a bucket without a block gets a new one
pub blocks-given : (ids : List (List ℕ)) (blocks : List (Option ℕ)) (bucket : ℕ) (row : List ℕ) → AreBlocks ids blocks → bucket < BUCKETS → get_or blocks bucket None ≡ None
    → length row ≡ SLOTS → AreBlocks (ids ++ row ∷ []) (set blocks bucket (Some (length ids)))
blocks-given ids blocks bucket row are b is long = record {
  buckets = length-set blocks bucket (Some (length ids)) ∙ are.buckets;
  sizes = λ block less. elim (cases_lt block (length ids)) [
    | inl old ↦ ap length (get_or_append_left ids (row ∷ []) [] block old) ∙ are.sizes block old
    | inr more ↦
        let e : block ≡ length ids = omega (arith, less, more, longer ids row) in
        subst (λ n. length (get_or (ids ++ row ∷ []) n []) ≡ SLOTS) (sym e) (ap length (get_or_at ids row [] [] (length ids) refl) ∙ long)
  ];
  below = λ other block e. elim (cases_eq other bucket) [
    | inl same ↦
        let n : length ids ≡ block = new block other same e in
        omega (arith, n, longer ids row)
    | inr apart ↦
        let old : block < length ids = are.below other block (sym (get_or-set_other blocks bucket other (Some (length ids)) None apart) ∙ e) in
        omega (arith, old, longer ids row)
  ];
  apart = λ one other block p q. elim (cases_eq one bucket) [
    | inl same ↦ elim (cases_eq other bucket) [
      | inl also ↦ same ∙ sym also
      | inr apart ↦
          let old : block < length ids = are.below other block (sym (get_or-set_other blocks bucket other (Some (length ids)) None apart) ∙ q) in
          absurd (omega (arith, old, new block one same p))
    ]
    | inr apart ↦ elim (cases_eq other bucket) [
      | inl also ↦
          let old : block < length ids = are.below one block (sym (get_or-set_other blocks bucket one (Some (length ids)) None apart) ∙ p) in
          absurd (omega (arith, old, new block other also q))
      | inr too ↦ are.apart one other block (sym (get_or-set_other blocks bucket one (Some (length ids)) None apart) ∙ p) (sym (get_or-set_other blocks bucket other (Some (length ids)) None too) ∙ q)
    ]
  ];
  left = omega (arith, longer ids row, count-given blocks bucket (length ids) (omega (arith, are.buckets, b)) is, are.left);
}
  where
    new : (block other : ℕ) → other ≡ bucket → get_or (set blocks bucket (Some (length ids))) other None ≡ Some block → length ids ≡ block
    new block other same e =
        same_Some (length ids) block (sym (get_or-set_same blocks bucket (Some (length ids)) None (omega (arith, are.buckets, b)))
        ∙ subst (λ n. get_or (set blocks bucket (Some (length ids))) n None ≡ Some block) same e)

pub grown-given : (ids : List (List ℕ)) (blocks : List (Option ℕ)) (bucket : ℕ) (row : List ℕ) (given : Option ℕ) → get_or blocks bucket None ≡ None
    → IsGrown bucket ids blocks (ids ++ row ∷ []) (set blocks bucket given)
grown-given ids blocks bucket row given is = record {
  others = λ other apart. get_or-set_other blocks bucket other given None apart;
  same = λ block e. absurd (none-some block (sym is ∙ e));
  kept = λ block less. get_or_append_left ids (row ∷ []) [] block less;
}

pub grown-same : (ids : List (List ℕ)) (blocks : List (Option ℕ)) (bucket : ℕ) → IsGrown bucket ids blocks ids blocks
grown-same ids blocks bucket = record {
  others = λ other apart. refl;
  same = λ block e. e;
  kept = λ block less. refl;
}

-- an id is written into a block

pub blocks-written : (ids : List (List ℕ)) (blocks : List (Option ℕ)) (block slot id : ℕ) → AreBlocks ids blocks → block < length ids
    → AreBlocks (set ids block (set (get_or ids block []) slot id)) blocks
blocks-written ids blocks block slot id are within = record {
  buckets = are.buckets;
  sizes = λ other less. elim (cases_eq other block) [
    | inl same ↦
        subst (λ n. length (get_or (set ids block (set (get_or ids block []) slot id)) n []) ≡ SLOTS) (sym same)
        (ap length (get_or-set_same ids block (set (get_or ids block []) slot id) [] within) ∙ length-set (get_or ids block []) slot id ∙ are.sizes block within)
    | inr apart ↦
        ap length (get_or-set_other ids block other (set (get_or ids block []) slot id) [] apart) ∙ are.sizes other (omega (arith, less, long))
  ];
  below = λ bucket other e. omega (arith, are.below bucket other e, long);
  apart = are.apart;
  left = omega (arith, are.left, long);
}
  where
    long : length (set ids block (set (get_or ids block []) slot id)) ≡ length ids
    long = length-set ids block (set (get_or ids block []) slot id)

pub kept-written : (ids new_ids : List (List ℕ)) (blocks new_blocks : List (Option ℕ)) (bucket slot block id : ℕ) → AreBlocks ids blocks → AreBlocks new_ids new_blocks
    → IsGrown bucket ids blocks new_ids new_blocks → get_or new_blocks bucket None ≡ Some block → slot < SLOTS
    → IsKept bucket slot (Some id) ids blocks (set new_ids block (set (get_or new_ids block []) slot id)) new_blocks
unfolding in_block
kept-written ids new_ids blocks new_blocks bucket slot block id are new grown is s = record {
  others = λ other at mask apart.
      ap (λ o. in_block written o mask at) (grown.others other apart)
      ∙ same-row ids written (get_or blocks other None) mask at (λ b e.
      get_or-set_other new_ids block b (set (get_or new_ids block []) slot id) [] (λ same. apart (new.apart other bucket block (grown.others other apart ∙ e ∙ ap Some same) is))
      ∙ grown.kept b (are.below other b e));
  same = λ at mask new_mask apart bits marked.
      ap (λ o. in_block written o new_mask at) is
      ∙ by_block (get_or blocks bucket None) refl at mask new_mask apart bits marked;
  here = λ mask bit.
      ap (λ o. in_block written o mask slot) is
      ∙ on written block mask slot bit
      ∙ ap (λ row. Some (get_or row slot 0)) (get_or-set_same new_ids block (set (get_or new_ids block []) slot id) [] within)
      ∙ ap Some (get_or-set_same (get_or new_ids block []) slot id 0 (omega (arith, new.sizes block within, s)));
}
  where
    within : block < length new_ids
    within = new.below bucket block is

    written : List (List ℕ)
    written = set new_ids block (set (get_or new_ids block []) slot id)

    by_block : (o : Option ℕ) → get_or blocks bucket None ≡ o → (at mask new_mask : ℕ) → at ≢ slot → bit_at new_mask at ≡ bit_at mask at
        → bit_at mask at ≡ bit_of (is_some (in_block ids o mask at)) → in_block written (Some block) new_mask at ≡ in_block ids o mask at
    by_block None e at mask new_mask apart bits marked = off written (Some block) new_mask at (bits ∙ marked)
    by_block (Some b) e at mask new_mask apart bits marked =
        let same : b ≡ block = same_Some b block (sym (grown.same b e) ∙ is) in
        same-bit written (Some block) mask new_mask at bits
        ∙ same-id ids written block mask at (
        ap (λ row. get_or row at 0) (get_or-set_same new_ids block (set (get_or new_ids block []) slot id) [] within)
        ∙ get_or-set_other (get_or new_ids block []) slot at id 0 apart
        ∙ ap (λ row. get_or row at 0) (grown.kept block (subst (λ n. n < length ids) same (are.below bucket b e))))
        ∙ ap (λ n. in_block ids (Some n) mask at) (sym same)

pub kept-same : (ids : List (List ℕ)) (blocks : List (Option ℕ)) (bucket slot : ℕ) → IsKept bucket slot None ids blocks ids blocks
kept-same ids blocks bucket slot = record {
  others = λ other at mask apart. refl;
  same = λ at mask new_mask apart bits marked. same-bit ids (get_or blocks bucket None) mask new_mask at bits;
  here = λ mask bit. off ids (get_or blocks bucket None) mask slot bit;
}

-- what `put` does to the slots
pub slots-put : (ids new_ids : List (List ℕ)) (blocks new_blocks : List (Option ℕ)) (masks : List ℕ) (bucket slot : ℕ) (id : Option ℕ) (mask : ℕ)
    → AreMasks (slots_of ids blocks masks) masks → bucket < BUCKETS → slot < SLOTS → IsKept bucket slot id ids blocks new_ids new_blocks
    → bit_at mask slot ≡ bit_of (is_some id) → ((i : ℕ) → i < SLOTS → i ≢ slot → bit_at mask i ≡ bit_at (get_or masks bucket 0) i)
    → slots_of new_ids new_blocks (set masks bucket mask) ≡ set (slots_of ids blocks masks) (SLOTS * bucket + slot) id
slots-put ids new_ids blocks new_blocks masks bucket slot id mask are b s kept bit others =
    ext_get_or None (slots_of new_ids new_blocks (set masks bucket mask)) (set (slots_of ids blocks masks) (SLOTS * bucket + slot) id)
    (length-slots new_ids new_blocks (set masks bucket mask) ∙ sym (length-set (slots_of ids blocks masks) (SLOTS * bucket + slot) id ∙ length-slots ids blocks masks))
    (λ i less.
    let within : i < ALL_SLOTS = omega (arith, less, length-slots new_ids new_blocks (set masks bucket mask)) in
    let split : SLOTS * (i / SLOTS) + i % SLOTS ≡ i = omega arith in
    subst (λ n. get_or (slots_of new_ids new_blocks (set masks bucket mask)) n None ≡ get_or (set (slots_of ids blocks masks) (SLOTS * bucket + slot) id) n None) split
    (one (i / SLOTS) (i % SLOTS) (omega (arith, within)) (omega arith)))
  where
    whole : SLOTS * bucket + slot < length (slots_of ids blocks masks)
    whole = omega (arith, b, s, length-slots ids blocks masks)

    mask_at : get_or (set masks bucket mask) bucket 0 ≡ mask
    mask_at = get_or-set_same masks bucket mask 0 (omega (arith, b, are.buckets))

    one : (other at : ℕ) → other < BUCKETS → at < SLOTS
        → get_or (slots_of new_ids new_blocks (set masks bucket mask)) (SLOTS * other + at) None ≡ get_or (set (slots_of ids blocks masks) (SLOTS * bucket + slot) id) (SLOTS * other + at) None
    one other at o a = elim (cases_eq other bucket) [
      | inl same ↦ elim (cases_eq at slot) [
        | inl also ↦
            let here : SLOTS * bucket + slot ≡ SLOTS * other + at = omega (arith, same, also) in
            subst (λ n. get_or (slots_of new_ids new_blocks (set masks bucket mask)) n None ≡ get_or (set (slots_of ids blocks masks) (SLOTS * bucket + slot) id) n None) here
            (slot-at new_ids new_blocks (set masks bucket mask) bucket slot b s
            ∙ ap (λ m. in_block new_ids (get_or new_blocks bucket None) m slot) mask_at
            ∙ kept.here mask bit
            ∙ sym (get_or-set_same (slots_of ids blocks masks) (SLOTS * bucket + slot) id None whole))
        | inr apart ↦
            subst (λ n. get_or (slots_of new_ids new_blocks (set masks bucket mask)) (SLOTS * n + at) None ≡ get_or (set (slots_of ids blocks masks) (SLOTS * bucket + slot) id) (SLOTS * n + at) None) (sym same)
            (slot-at new_ids new_blocks (set masks bucket mask) bucket at b a
            ∙ ap (λ m. in_block new_ids (get_or new_blocks bucket None) m at) mask_at
            ∙ kept.same at (get_or masks bucket 0) mask apart (others at a apart) (are.each bucket b at a ∙ ap (λ x. bit_of (is_some x)) (slot-at ids blocks masks bucket at b a))
            ∙ sym (slot-at ids blocks masks bucket at b a)
            ∙ sym (get_or-set_other (slots_of ids blocks masks) (SLOTS * bucket + slot) (SLOTS * bucket + at) id None (λ e. apart (omega (arith, e)))))
      ]
      | inr apart ↦
          slot-at new_ids new_blocks (set masks bucket mask) other at o a
          ∙ ap (λ m. in_block new_ids (get_or new_blocks other None) m at) (get_or-set_other masks bucket other mask 0 apart)
          ∙ kept.others other at (get_or masks other 0) apart
          ∙ sym (slot-at ids blocks masks other at o a)
          ∙ sym (get_or-set_other (slots_of ids blocks masks) (SLOTS * bucket + slot) (SLOTS * other + at) id None (λ e. apart (omega (arith, e, a, s))))
    ]

-- what it does to the masks
pub masks-put : (slots : Slots) (masks : List ℕ) (bucket slot : ℕ) (id : Option ℕ) (mask : ℕ) → AreMasks slots masks → bucket < BUCKETS → slot < SLOTS
    → bit_at mask slot ≡ bit_of (is_some id) → ((i : ℕ) → i < SLOTS → i ≢ slot → bit_at mask i ≡ bit_at (get_or masks bucket 0) i)
    → AreMasks (set slots (SLOTS * bucket + slot) id) (set masks bucket mask)
masks-put slots masks bucket slot id mask are b s bit others = record {
  slots = length-set slots (SLOTS * bucket + slot) id ∙ are.slots;
  buckets = length-set masks bucket mask ∙ are.buckets;
  each = λ other o at a. elim (cases_eq other bucket) [
    | inl same ↦ subst (λ n. bit_at (get_or (set masks bucket mask) n 0) at ≡ bit_of (is_some (get_or (set slots (SLOTS * bucket + slot) id) (SLOTS * n + at) None))) (sym same) (here at a)
    | inr apart ↦
        ap (λ m. bit_at m at) (get_or-set_other masks bucket other mask 0 apart)
        ∙ are.each other o at a
        ∙ ap (λ x. bit_of (is_some x)) (sym (get_or-set_other slots (SLOTS * bucket + slot) (SLOTS * other + at) id None (λ e. apart (omega (arith, e, a, s)))))
  ];
}
  where
    mask_at : get_or (set masks bucket mask) bucket 0 ≡ mask
    mask_at = get_or-set_same masks bucket mask 0 (omega (arith, b, are.buckets))

    here : (at : ℕ) → at < SLOTS → bit_at (get_or (set masks bucket mask) bucket 0) at ≡ bit_of (is_some (get_or (set slots (SLOTS * bucket + slot) id) (SLOTS * bucket + at) None))
    here at a = elim (cases_eq at slot) [
      | inl same ↦
          subst (λ n. bit_at (get_or (set masks bucket mask) bucket 0) n ≡ bit_of (is_some (get_or (set slots (SLOTS * bucket + slot) id) (SLOTS * bucket + n) None))) (sym same)
          (ap (λ m. bit_at m slot) mask_at ∙ bit
          ∙ ap (λ x. bit_of (is_some x)) (sym (get_or-set_same slots (SLOTS * bucket + slot) id None (omega (arith, b, s, are.slots)))))
      | inr apart ↦
          ap (λ m. bit_at m at) mask_at
          ∙ others at a apart
          ∙ are.each bucket b at a
          ∙ ap (λ x. bit_of (is_some x)) (sym (get_or-set_other slots (SLOTS * bucket + slot) (SLOTS * bucket + at) id None (λ e. apart (omega (arith, e)))))
    ]

-- an empty grid

none-everywhere : (blocks : List (Option ℕ)) → All (λ block. block ≡ None) blocks → (i : ℕ) → get_or blocks i None ≡ None
none-everywhere blocks all i = elim (cases_lt i (length blocks)) [
  | inl less ↦ All-get_or (λ block. block ≡ None) blocks i None less all
  | inr more ↦ get_or_past blocks i None more
]

pub stored-empty : (blocks : List (Option ℕ)) (masks : List ℕ) → length blocks ≡ BUCKETS → length masks ≡ BUCKETS → All (λ block. block ≡ None) blocks → All (λ mask. mask ≡ 0) masks
    → AreStored [] blocks masks
unfolding in_block
stored-empty blocks masks long wide none zeros = record {
  parts = record {
    buckets = long;
    sizes = λ block less. absurd (omega (arith, less));
    below = λ bucket block e. absurd (none-some block (sym (empty bucket) ∙ e));
    apart = λ one other block p q. absurd (none-some block (sym (empty one) ∙ p));
    left = omega (arith, all-none blocks empty, long);
  };
  bits = record {
    slots = length-slots [] blocks masks;
    buckets = wide;
    each = λ bucket b slot s.
        ap (λ m. bit_at m slot) (All-get_or (λ mask. mask ≡ 0) masks bucket 0 (omega (arith, wide, b)) zeros)
        ∙ bit_at-zero slot
        ∙ ap (λ x. bit_of (is_some x)) (none-at [] blocks masks bucket slot b s (empty bucket));
  };
}
  where
    empty : (i : ℕ) → get_or blocks i None ≡ None
    empty = none-everywhere blocks none

pub empty-slots : (blocks : List (Option ℕ)) (masks : List ℕ) → All (λ block. block ≡ None) blocks → AreEmpty (slots_of [] blocks masks)
empty-slots blocks masks none = record {
  new = λ bucket slot b s. sym (none-at [] blocks masks bucket slot (omega (arith, b)) s (none-everywhere blocks none bucket));
  tried = λ bucket slot b s. sym (none-at [] blocks masks (NEW_BUCKETS + bucket) slot (omega (arith, b)) s (none-everywhere blocks none (NEW_BUCKETS + bucket)));
}

-- each slot is renumbered in turn

pub renumber-more : (ids : List ℕ) (old now new : Slots) (i place : ℕ) (x y : Option ℕ) → length old ≡ ALL_SLOTS → now ≡ map (renumbered ids) (take i old) ++ drop i old
    → x ≡ get_or now place None → y ≡ renumbered ids x → new ≡ set now place y → length now ≡ ALL_SLOTS → i < ALL_SLOTS → place ≡ i
    → new ≡ map (renumbered ids) (take (i + 1) old) ++ drop (i + 1) old
renumber-more ids old now new i place x y long is read one written wide less here =
    written
    ∙ ap (set now place) one
    ∙ ap (λ n. set now n (renumbered ids x)) here
    ∙ map_over_more (renumbered ids) old now i x (omega (arith, less, long)) is
    (read ∙ ap (λ n. get_or now n None) here ∙ get_or_default now i None x (omega (arith, less, wide)))

pub renumber-all : (ids : List ℕ) (old new : Slots) (i : ℕ) → new ≡ map (renumbered ids) (take i old) ++ drop i old → length old ≤ i → new ≡ map (renumbered ids) old
renumber-all ids old new i is all =
    is
    ∙ ap (λ xs. map (renumbered ids) (take i old) ++ xs) (drop_all i old all)
    ∙ append-nil (map (renumbered ids) (take i old))
    ∙ ap (map (renumbered ids)) (take_all i old all)
