-- The value of a group is what its own visits make of it, and the groups are those of the visits.
use Rattle.std.proofs.Common.{◌≡◌, ℕ, ◌||◌, Bool, true, false, cond, List, [], ◌∷◌, ◌++◌, map, refl, sym, ap, ◌∙◌, unwrap_or, Option, Some, None}
use Rattle.std.specs.Prelude.{bytes_eq}
use Rattle.std.specs.List.{fold, list_any}
use Rattle.std.specs.Map.{lookup}
use Rattle.std.proofs.lemmas.Bool.{both_ways}
use Rattle.std.proofs.lemmas.Slice.Eq.{bytes_eq-Decides}
use Rattle.arrayvec.specs.ArrayVec.{ArrayVec}
use Rattle.indexmap.specs.IndexMap.{insert_entry}
use Rattle.table_groups.specs.Tally.{by_bytes, groups_of, noted, once, tally_of, value_in, with_group}

abbrev pub same_group : ArrayVec ℕ → ArrayVec ℕ → Bool
same_group g h = bytes_eq g.items h.items

-- ---- the entries of a map

pub insert-bytes : {V : Type 0} (es : List (ArrayVec ℕ × V)) (g : ArrayVec ℕ) (v : V) → by_bytes (insert_entry same_group es g v) ≡ insert_entry bytes_eq (by_bytes es) g.items v
insert-bytes [] g v = refl
insert-bytes {V} (e ∷ es) g v = by (bytes_eq g.items e.0.items) (insert-bytes es g v)
  where
    by : (b : Bool) → by_bytes (insert_entry same_group es g v) ≡ insert_entry bytes_eq (by_bytes es) g.items v
        → by_bytes (cond b ((e.0, v) ∷ es) (e ∷ insert_entry same_group es g v)) ≡ cond b ((e.0.items, v) ∷ by_bytes es) ((e.0.items, e.1) ∷ insert_entry bytes_eq (by_bytes es) g.items v)
    by true more = refl
    by false more = ap (λ (ds : List (List ℕ × V)). (e.0.items, e.1) ∷ ds) more

lookup-bytes : {V : Type 0} (es : List (ArrayVec ℕ × V)) (g : ArrayVec ℕ) → lookup (same_group g) es ≡ lookup (bytes_eq g.items) (by_bytes es)
lookup-bytes [] g = refl
lookup-bytes {V} (e ∷ es) g = by (bytes_eq g.items e.0.items) (lookup-bytes es g)
  where
    by : (b : Bool) → lookup (same_group g) es ≡ lookup (bytes_eq g.items) (by_bytes es)
        → cond b (Some e.1) (lookup (same_group g) es) ≡ cond b (Some e.1) (lookup (bytes_eq g.items) (by_bytes es))
    by true more = refl
    by false more = more

-- what a look-up finds, or not, is the value
pub found : {V : Type 0} (es : List (ArrayVec ℕ × V)) (g : ArrayVec ℕ) (none v : V) → lookup (same_group g) es ≡ Some v → v ≡ value_in none (by_bytes es) g.items
found {V} es g none v is = sym (ap (λ (o : Option V). unwrap_or o none) is) ∙ ap (λ (o : Option V). unwrap_or o none) (lookup-bytes es g)

pub missing : {V : Type 0} (es : List (ArrayVec ℕ × V)) (g : ArrayVec ℕ) (none : V) → lookup (same_group g) es ≡ None → none ≡ value_in none (by_bytes es) g.items
missing {V} es g none is = sym (ap (λ (o : Option V). unwrap_or o none) is) ∙ ap (λ (o : Option V). unwrap_or o none) (lookup-bytes es g)

-- ---- visits

same : (j k : List ℕ) → bytes_eq j k ≡ true → j ≡ k
same j k = (bytes_eq-Decides j k).0

itself : (k : List ℕ) → bytes_eq k k ≡ true
itself k = (bytes_eq-Decides k k).1 refl

-- what a visit adds to one group
abbrev pub after_visit : {V E : Type 0} → (V → E → V) → List ℕ → V → List ℕ × E → V
after_visit after g n visit = cond (bytes_eq g visit.0) (after n visit.1) n

module _ {V E : Type 0} (none : V) (after : V → E → V) where
  -- what a write leaves at a group
  at : (es : List (List ℕ × V)) (j k : List ℕ) (v : V) → value_in none (insert_entry bytes_eq es j v) k ≡ cond (bytes_eq k j) v (value_in none es k)
  at [] j k v = by (bytes_eq k j)
    where
      by : (b : Bool) → unwrap_or (cond b (Some v) (lookup (bytes_eq k) [])) none ≡ cond b v none
      by true = refl
      by false = refl
  at (e ∷ es) j k v = by (bytes_eq j e.0) refl (bytes_eq k e.0) refl (bytes_eq k j) refl (at es j k v)
    where
      by : (a : Bool) → bytes_eq j e.0 ≡ a → (b : Bool) → bytes_eq k e.0 ≡ b → (c : Bool) → bytes_eq k j ≡ c
          → value_in none (insert_entry bytes_eq es j v) k ≡ cond (bytes_eq k j) v (value_in none es k)
          → value_in none (cond a ((e.0, v) ∷ es) (e ∷ insert_entry bytes_eq es j v)) k ≡ cond c v (unwrap_or (cond b (Some e.1) (lookup (bytes_eq k) es)) none)
      by true p true q true r more = ap (λ (t : Bool). unwrap_or (cond t (Some v) (lookup (bytes_eq k) es)) none) q
      by true p false q false r more = ap (λ (t : Bool). unwrap_or (cond t (Some v) (lookup (bytes_eq k) es)) none) q
      by true p true q false r more = absurd (both_ways (bytes_eq k j) r (ap (bytes_eq k) (same j e.0 p) ∙ q))
      by true p false q true r more = absurd (both_ways (bytes_eq k e.0) q (ap (bytes_eq k) (sym (same j e.0 p)) ∙ r))
      by false p true q false r more = ap (λ (t : Bool). unwrap_or (cond t (Some e.1) (lookup (bytes_eq k) (insert_entry bytes_eq es j v))) none) q
      by false p false q c r more =
          ap (λ (t : Bool). unwrap_or (cond t (Some e.1) (lookup (bytes_eq k) (insert_entry bytes_eq es j v))) none) q ∙ more
          ∙ ap (λ (t : Bool). cond t v (value_in none es k)) r
      by false p true q true r more = absurd (both_ways (bytes_eq j e.0) p (ap (λ (i : List ℕ). bytes_eq i e.0) (sym (same k j r)) ∙ q))

  -- what a visit leaves at a group
  pub visited : (es : List (List ℕ × V)) (v : List ℕ × E) (k : List ℕ) → value_in none (noted none after es v) k ≡ after_visit after k (value_in none es k) v
  visited es v k = at es v.0 k (after (value_in none es v.0) v.1) ∙ by (bytes_eq k v.0) refl
    where
      by : (b : Bool) → bytes_eq k v.0 ≡ b → cond b (after (value_in none es v.0) v.1) (value_in none es k) ≡ cond b (after (value_in none es k) v.1) (value_in none es k)
      by true is = ap (λ (i : List ℕ). after (value_in none es i) v.1) (sym (same k v.0 is))
      by false is = refl

  pub folded : (vs : List (List ℕ × E)) (es : List (List ℕ × V)) (k : List ℕ) → value_in none (fold (noted none after) es vs) k ≡ fold (after_visit after k) (value_in none es k) vs
  folded [] es k = refl
  folded (v ∷ vs) es k = folded vs (noted none after es v) k ∙ ap (λ (n : V). fold (after_visit after k) n vs) (visited es v k)

  pub values-are : (vs : List (List ℕ × E)) (k : List ℕ) → value_in none (tally_of none after vs) k ≡ fold (after_visit after k) none vs
  values-are vs k = folded vs [] k

  -- a write adds its group
  written : (es : List (List ℕ × V)) (j : List ℕ) (v : V) → groups_of (insert_entry bytes_eq es j v) ≡ with_group (groups_of es) j
  written [] j v = refl
  written (e ∷ es) j v = by (bytes_eq j e.0) (list_any (bytes_eq j) (groups_of es)) (written es j v)
    where
      by : (a b : Bool) → groups_of (insert_entry bytes_eq es j v) ≡ cond b (groups_of es) (groups_of es ++ j ∷ [])
          → groups_of (cond a ((e.0, v) ∷ es) (e ∷ insert_entry bytes_eq es j v)) ≡ cond (a || b) (e.0 ∷ groups_of es) (e.0 ∷ (groups_of es ++ j ∷ []))
      by true b more = refl
      by false true more = ap (λ (gs : List (List ℕ)). e.0 ∷ gs) more
      by false false more = ap (λ (gs : List (List ℕ)). e.0 ∷ gs) more

  pub all-written : (vs : List (List ℕ × E)) (es : List (List ℕ × V)) → groups_of (fold (noted none after) es vs) ≡ fold with_group (groups_of es) (map (λ v. v.0) vs)
  all-written [] es = refl
  all-written (v ∷ vs) es =
      all-written vs (noted none after es v) ∙ ap (λ (gs : List (List ℕ)). fold with_group gs (map (λ v. v.0) vs)) (written es v.0 (after (value_in none es v.0) v.1))

  pub groups-are : (vs : List (List ℕ × E)) → groups_of (tally_of none after vs) ≡ once (map (λ v. v.0) vs)
  groups-are vs = all-written vs []
