-- What a pick does depends on residues of its words only.
use Rattle.std.proofs.Common.{◌≡◌, ◌≢◌, ℕ, zero, suc, ◌+◌, ◌-◌, ◌*◌, ◌%◌, ◌^◌, ◌<◌, ◌≤◌, Bool, true, false, cond, ◌&&◌, ◌||◌, ◌==◌, nat_lt, List, [], ◌∷◌, map, count_by, Option, Some, None, refl, sym, ap, ◌∙◌, arith, if◌then◌else◌}
use Rattle.std.specs.List.{range_with_len}
use Rattle.std.proofs.lemmas.Bool.{false_from_ne_true}
use Rattle.std.proofs.lemmas.Bool.Decides.{Decides-eqb}
use Rattle.std.proofs.lemmas.Nat.{mod-mul-add}
use Rattle.peer_rec.specs.Rec.{chance, next_factor}
use Rattle.peer_rec.specs.declared.answers.Picked.TheVariants.{One, Nothing}
use Rattle.peer_rec.specs.declared.rec.Rec.{Rec}
use Rattle.table_machine.specs.Picks.{bucket_count, candidate, candidates, candidates_of_either, first_accepted, first_candidate, first_factor, is_accepted, select, wanted_new, wanted_tried, with_candidate}
use Rattle.table_machine.specs.State.{State}
use Rattle.table_laws.proofs.Counts.{all_range, count_append, count_cons, count_no, range_split}

pub round_same : (st : State) (in_new : Bool) (nets : List ℕ) (r : Rec) (now factor bucket start word other_bucket other_start other_word : ℕ)
    → bucket % bucket_count in_new ≡ other_bucket % bucket_count in_new → start % 64 ≡ other_start % 64 → word % 2 ^ 30 ≡ other_word % 2 ^ 30
    → (candidate st in_new nets bucket start ≡ candidate st in_new nets other_bucket other_start) × (is_accepted r now factor word ≡ is_accepted r now factor other_word)
round_same st in_new nets r now factor bucket start word other_bucket other_start other_word one two three =
    (λ i. first_candidate st in_new nets (one i) (two i), ap (λ w. nat_lt (w * 2 ^ 30) (chance r now * factor)) three)

-- the low 30 bits of a word
abbrev low : ℕ → ℕ
low word = word % 2 ^ 30

low_1024 : (word : ℕ) → low word % 1024 ≡ word % 1024
low_1024 word = omega arith

low_256 : (word : ℕ) → low word % 256 ≡ word % 256
low_256 word = omega arith

low_64 : (word : ℕ) → low word % 64 ≡ word % 64
low_64 word = omega arith

low_2 : (word : ℕ) → low word % 2 ≡ word % 2
low_2 word = omega arith

low_low : (word : ℕ) → low word % 2 ^ 30 ≡ word % 2 ^ 30
low_low word = omega arith

low_bucket : (in_new : Bool) (word : ℕ) → low word % bucket_count in_new ≡ word % bucket_count in_new
low_bucket true = low_1024
low_bucket false = low_256

module _ (st : State) (nets : List ℕ) (now : ℕ) where
  -- a candidate with the low bits of the word that decides on it
  abbrev lowered : List (Rec × ℕ) → List (Rec × ℕ)
  lowered ms = map (λ m. (m.0, low m.1)) ms

  decided : (factor : ℕ) (ms : List (Rec × ℕ)) → first_accepted now factor (lowered ms) ≡ first_accepted now factor ms
  decided factor [] = refl
  decided factor (m ∷ ms) =
      (λ i. if nat_lt (low_low m.1 i * 2 ^ 30) (chance m.0 now * factor) then One m.0.peer m.0.last_try else decided (next_factor factor) ms i)

  low_candidates : (in_new : Bool) (words : List ℕ) → candidates st in_new nets (map low words) ≡ lowered (candidates st in_new nets words)
  low_candidates in_new [] = refl
  low_candidates in_new (bucket ∷ []) = refl
  low_candidates in_new (bucket ∷ start ∷ []) = refl
  low_candidates in_new (bucket ∷ start ∷ word ∷ words) =
      (λ i. with_candidate (first_candidate st in_new nets (low_bucket in_new bucket i) (low_64 start i)) (low word) (low_candidates in_new (word ∷ words) i) (low_candidates in_new words i))
      ∙ by (candidate st in_new nets bucket start)
    where
      by : (o : Option Rec) → with_candidate o (low word) (lowered (candidates st in_new nets (word ∷ words))) (lowered (candidates st in_new nets words))
          ≡ lowered (with_candidate o word (candidates st in_new nets (word ∷ words)) (candidates st in_new nets words))
      by None = refl
      by (Some r) = refl

  low_search : (in_new : Bool) (words : List ℕ) → first_accepted now first_factor (candidates st in_new nets (map low words)) ≡ first_accepted now first_factor (candidates st in_new nets words)
  low_search in_new words = ap (first_accepted now first_factor) (low_candidates in_new words) ∙ decided first_factor (candidates st in_new nets words)

  low_either : (words : List ℕ) → first_accepted now first_factor (candidates_of_either st nets (map low words)) ≡ first_accepted now first_factor (candidates_of_either st nets words)
  low_either [] = refl
  low_either (word ∷ words) =
      ap (λ k. first_accepted now first_factor (candidates st (k == 0) nets (map low words))) (low_2 word) ∙ low_search (word % 2 == 0) words

  low_of : (a b : Bool) (words : List ℕ)
      → first_accepted now first_factor (if a then candidates st true nets (map low words) else if b then candidates st false nets (map low words) else candidates_of_either st nets (map low words))
      ≡ first_accepted now first_factor (if a then candidates st true nets words else if b then candidates st false nets words else candidates_of_either st nets words)
  low_of true b words = low_search true words
  low_of false true words = low_search false words
  low_of false false words = low_either words

pub pick_same : (st : State) (new_only : Bool) (nets words : List ℕ) (now : ℕ) → select st new_only nets (map low words) now ≡ select st new_only nets words now
pick_same st new_only nets words now =
    ap (λ p. if wanted_new st nets == 0 && (new_only || wanted_tried st nets == 0) then Nothing else p)
    (low_of st nets now (new_only || wanted_tried st nets == 0) (wanted_new st nets == 0) words)

-- of n numbers from a multiple of n on, one has a residue
one_of : (n residue k : ℕ) → residue < n → count_by (λ w. w % n == residue) (range_with_len (k * n) n) ≡ 1
one_of n residue k below =
    let cut : n ≡ residue + suc (n - residue - 1) = omega (arith, below) in
    let parts = ap (λ m. count_by (λ w. w % n == residue) (range_with_len (k * n) m)) cut
    ∙ ap (count_by (λ w. w % n == residue)) (range_split (k * n) residue (suc (n - residue - 1)))
    ∙ count_append (λ w. w % n == residue) (range_with_len (k * n) residue) (range_with_len (k * n + residue) (suc (n - residue - 1))) in
    let first = count_no (λ w. w % n == residue) (range_with_len (k * n) residue)
    (all_range (λ w. (w % n == residue) ≡ false) (k * n) residue (λ w from to. other w from (omega (arith, to, below)) (λ is. omega (arith, is, to)))) in
    let here = count_cons (λ w. w % n == residue) (k * n + residue) (range_with_len (k * n + residue + 1) (n - residue - 1)) in
    let one : ◌≡◌ {A = ℕ} (cond ((k * n + residue) % n == residue) 1 0) 1 =
    ap {B = ℕ} (λ b. cond b 1 0) ((Decides-eqb ((k * n + residue) % n) residue).1 (mod-mul-add k n residue below)) in
    let last = count_no (λ w. w % n == residue) (range_with_len (k * n + residue + 1) (n - residue - 1))
    (all_range (λ w. (w % n == residue) ≡ false) (k * n + residue + 1) (n - residue - 1)
    (λ w from to. other w (omega (arith, from)) (omega (arith, from, to, below)) (λ is. omega (arith, is, from)))) in
    omega (arith, parts, first, here, one, last)
  where
    other : (w : ℕ) → k * n ≤ w → w < k * n + n → (w ≢ k * n + residue) → (w % n == residue) ≡ false
    other w from to not_it =
        let as_sum : w ≡ k * n + (w - k * n) = omega (arith, from) in
        let rest : w % n ≡ w - k * n = ap (λ x. x % n) as_sum ∙ mod-mul-add k n (w - k * n) (omega (arith, to, from)) in
        false_from_ne_true (w % n == residue) (λ is. let same = sym rest ∙ (Decides-eqb (w % n) residue).0 is in not_it (omega (arith, same, from)))

pub each_residue : (n residue times : ℕ) → residue < n → count_by (λ w. w % n == residue) (range_with_len 0 (times * n)) ≡ times
each_residue n residue zero below =
    let none : 0 * n ≡ 0 = omega arith in
    ap (λ m. count_by (λ w. w % n == residue) (range_with_len 0 m)) none
each_residue n residue (suc times) below =
    let longer : suc times * n ≡ times * n + n = omega arith in
    let from : 0 + times * n ≡ times * n = omega arith in
    let split = ap (λ m. count_by (λ w. w % n == residue) (range_with_len 0 m)) longer
    ∙ ap (count_by (λ w. w % n == residue)) (range_split 0 (times * n) n)
    ∙ count_append (λ w. w % n == residue) (range_with_len 0 (times * n)) (range_with_len (0 + times * n) n)
    ∙ ap (λ a. count_by (λ w. w % n == residue) (range_with_len 0 (times * n)) + count_by (λ w. w % n == residue) (range_with_len a n)) from in
    let before = each_residue n residue times below in
    let one = one_of n residue times below in
    omega (arith, split, before, one)
