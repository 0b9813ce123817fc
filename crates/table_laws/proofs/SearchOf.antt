-- A search over n rounds and one more: the first round selects the record, or has no candidate, or
-- refuses its candidate, after which the factor has grown.
use Rattle.std.proofs.Common.{◌≡◌, ℕ, zero, suc, ◌+◌, ◌*◌, ◌^◌, ◌<◌, Bool, true, false, not, ◌&&◌, ◌==◌, is_some, List, [], ◌∷◌, All, Contains, sum_by, length, Option, Some, None, refl, sym, ap, ◌∙◌, arith, if◌then◌else◌}
use Rattle.std.specs.List.{range_with_len}
use Rattle.std.proofs.lemmas.Bool.{both_ways}
use Rattle.std.proofs.lemmas.Bool.Decides.{Decides-eqb}
use Rattle.std.proofs.lemmas.List.Elements.{All-contains}
use Rattle.std.proofs.lemmas.List.FromFn.{length-range_with_len}
use Rattle.std.proofs.lemmas.List.Sums.{sum_by-cons}
use Rattle.std.proofs.Math.Nat.{mod-eq_of_lt}
use Rattle.net_addr.specs.Same.{same_peer, same_peer-Decides}
use Rattle.peer_rec.specs.declared.answers.Picked.TheVariants.{One}
use Rattle.peer_rec.specs.declared.rec.Rec.{Rec}
use Rattle.peer_rec.specs.Rec.{next_factor}
use Rattle.table_machine.specs.Picks.{bucket_count, candidate, candidates, first_accepted, first_candidate, is_accepted, with_candidate}
use Rattle.table_machine.specs.Sound.{IsSound}
use Rattle.table_machine.specs.State.{State}
use Rattle.table_machine.proofs.Lists.{All-from_Contains}
use Rattle.table_machine.proofs.Records.{same_by_peer, same_record}
use Rattle.table_laws.specs.Chances.{picking_words, picks}
use Rattle.table_laws.specs.Rounds.{holds}
use Rattle.table_laws.specs.Searches.{Round, all_lists, candidate_in, ending_lists, ends_at, idle_rounds, is_pick_of, one_if, refusing_rounds, round, sum_lists, sum_rounds, used, words_of}
use Rattle.table_laws.proofs.Counts.{all_range, sum_agree}
use Rattle.table_laws.proofs.SomeOf.{candidate-there}

-- sums of three products
pub sum_three : {X : Type 0} (f g h : X → ℕ) (a b c : ℕ) (xs : List X)
    → sum_by (λ x. f x * a + g x * b + h x * c) xs ≡ sum_by f xs * a + sum_by g xs * b + sum_by h xs * c
sum_three f g h a b c [] = omega arith
sum_three f g h a b c (x ∷ xs) =
    sum_by-cons (λ y. f y * a + g y * b + h y * c) x xs
    ∙ ap (λ k. f x * a + g x * b + h x * c + k) (sum_three f g h a b c xs)
    ∙ spread (f x) (g x) (h x) (sum_by f xs) (sum_by g xs) (sum_by h xs)
    ∙ sym (λ i. sum_by-cons f x xs i * a + sum_by-cons g x xs i * b + sum_by-cons h x xs i * c)
  where
    spread : (u v w s t z : ℕ) → u * a + v * b + w * c + (s * a + t * b + z * c) ≡ (u + s) * a + (v + t) * b + (w + z) * c
    spread u v w s t z = omega arith

pub sum_constant : {X : Type 0} (k : ℕ) (xs : List X) → sum_by (λ x. k) xs ≡ length xs * k
sum_constant k [] = omega arith
sum_constant k (x ∷ xs) = sum_by-cons (λ y. k) x xs ∙ ap (λ m. k + m) (sum_constant k xs) ∙ more (length xs)
  where
    more : (n : ℕ) → k + n * k ≡ suc n * k
    more n = omega arith

-- the sum over some buckets, starts and words
abbrev pub over : List ℕ → List ℕ → List ℕ → (Round → ℕ) → ℕ
over buckets starts words f = sum_by (λ b. sum_by (λ s. sum_by (λ w. f (round b s w)) words) starts) buckets

pub over-constant : (buckets starts words : List ℕ) (k : ℕ) → over buckets starts words (λ x. k) ≡ length buckets * (length starts * (length words * k))
over-constant buckets starts words k =
    (λ i. sum_by (λ b. sum_by (λ s. sum_constant k words i) starts) buckets)
    ∙ (λ i. sum_by (λ b. sum_constant (length words * k) starts i) buckets)
    ∙ sum_constant (length starts * (length words * k)) buckets

no_product : (a b c : ℕ) → a * (b * (c * 0)) ≡ 0
no_product a b c = let one : c * 0 ≡ 0 = omega arith in let two : b * 0 ≡ 0 = omega arith in let three : a * 0 ≡ 0 = omega arith in ap (λ k. a * (b * k)) one ∙ ap (λ k. a * k) two ∙ three

lists-nothing : (in_new : Bool) (n : ℕ) → sum_lists in_new n (λ rounds. 0) ≡ 0
lists-nothing in_new zero = refl
lists-nothing in_new (suc n) =
    (λ i. sum_rounds in_new (λ x. lists-nothing in_new n i))
    ∙ over-constant (range_with_len 0 (bucket_count in_new)) (range_with_len 0 64) (range_with_len 0 (2 ^ 30)) 0
    ∙ no_product (length (range_with_len 0 (bucket_count in_new))) (length (range_with_len 0 64)) (length (range_with_len 0 (2 ^ 30)))

-- one round more has so many times as many lists
pub all_more : (in_new : Bool) (n : ℕ) → all_lists in_new (suc n) ≡ bucket_count in_new * (64 * (2 ^ 30 * all_lists in_new n))
all_more in_new n =
    over-constant (range_with_len 0 (bucket_count in_new)) (range_with_len 0 64) (range_with_len 0 (2 ^ 30)) (all_lists in_new n)
    ∙ (λ i. length-range_with_len 0 (bucket_count in_new) i * (length-range_with_len 0 64 i * (length-range_with_len 0 (2 ^ 30) i * all_lists in_new n)))

module _ (st : State) (sound : IsSound st) (in_new : Bool) (nets : List ℕ) (now : ℕ) (r : Rec) (has : Contains st.records r) where
  -- the candidates of a round and of those after it
  abbrev with_round : Option Rec → Round → List (Rec × ℕ) → List (Rec × ℕ)
  with_round None x rest = rest
  with_round (Some q) x rest = (q, x.word) ∷ rest

  module _ (x : Round) (low : x.bucket < bucket_count in_new) (below : x.start < 64) where
    residues : candidate st in_new nets x.bucket x.start ≡ candidate_in st in_new nets x
    residues i = first_candidate st in_new nets (mod-eq_of_lt low i) (mod-eq_of_lt below i)

    first_round : (words : List ℕ) (o : Option Rec) → candidate_in st in_new nets x ≡ o
        → candidates st in_new nets (used o x words) ≡ with_round o x (candidates st in_new nets words)
    first_round [] None is = refl
    first_round (w ∷ words) None is =
        ap (λ o. with_candidate o w (candidates st in_new nets (w ∷ words)) (candidates st in_new nets words)) (residues ∙ is)
    first_round words (Some q) is =
        ap (λ o. with_candidate o x.word (candidates st in_new nets (x.word ∷ words)) (candidates st in_new nets words)) (residues ∙ is)

    -- whether a search ends at the record, by the candidate of its first round
    abbrev by_candidate : Option Rec → ℕ → List Round → Bool
    by_candidate None factor rounds = ends_at st in_new nets now factor r.peer rounds
    by_candidate (Some q) factor rounds =
        if is_accepted q now factor x.word then same_peer r.peer q.peer
        else ends_at st in_new nets now (next_factor factor) r.peer rounds

    ends_round : (factor : ℕ) (rounds : List Round) (o : Option Rec) → candidate_in st in_new nets x ≡ o
        → ends_at st in_new nets now factor r.peer (x ∷ rounds) ≡ by_candidate o factor rounds
    ends_round factor rounds o is =
        ap (λ o. is_pick_of r.peer (first_accepted now factor (candidates st in_new nets (used o x (words_of st in_new nets rounds))))) is
        ∙ ap (λ cs. is_pick_of r.peer (first_accepted now factor cs)) (first_round (words_of st in_new nets rounds) o is)
        ∙ by o
      where
        rest : List (Rec × ℕ)
        rest = candidates st in_new nets (words_of st in_new nets rounds)

        accepted : (q : Rec) (b : Bool)
            → is_pick_of r.peer (if b then One q.peer q.last_try else first_accepted now (next_factor factor) rest)
            ≡ (if b then same_peer r.peer q.peer else is_pick_of r.peer (first_accepted now (next_factor factor) rest))
        accepted q true = refl
        accepted q false = refl

        by : (o : Option Rec) → is_pick_of r.peer (first_accepted now factor (with_round o x rest)) ≡ by_candidate o factor rounds
        by None = refl
        by (Some q) = accepted q (is_accepted q now factor x.word)

  -- a record is known by its peer as by its number
  same_one : (q : Rec) → Contains st.records q → same_peer r.peer q.peer ≡ (q.number == r.number)
  same_one q c = by (same_peer r.peer q.peer) (q.number == r.number) refl refl
    where
      by : (a b : Bool) → same_peer r.peer q.peer ≡ a → (q.number == r.number) ≡ b → a ≡ b
      by true true one two = refl
      by false false one two = refl
      by true false one two =
          let is : q ≡ r = same_by_peer st.records q r sound.peers c has (sym ((same_peer-Decides r.peer q.peer).0 one)) in
          absurd (both_ways (q.number == r.number) two ((Decides-eqb q.number r.number).1 (ap (λ (y : Rec). y.number) is)))
      by false true one two =
          let is : q ≡ r = same_record st.records q r sound.rising c has ((Decides-eqb q.number r.number).0 two) in
          absurd (both_ways (same_peer r.peer q.peer) one ((same_peer-Decides r.peer q.peer).1 (sym (ap (λ (y : Rec). y.peer) is))))

  module _ (factor n : ℕ) where
    abbrev ends : ℕ → ℕ
    ends f = ending_lists st in_new nets now f r.peer n

    abbrev total : Round → ℕ
    total x = sum_lists in_new n (λ rounds. one_if (ends_at st in_new nets now factor r.peer (x ∷ rounds)))

    abbrev pick : Round → ℕ
    pick x = one_if (picks st in_new nets now factor (λ q. q.number == r.number) x.bucket x.start x.word)

    abbrev idle : Round → ℕ
    idle x = one_if (not (is_some (candidate_in st in_new nets x)))

    abbrev refuse : Round → ℕ
    refuse x = one_if (holds (λ q. not (is_accepted q now factor x.word)) (candidate_in st in_new nets x))

    parts : (x : Round) → x.bucket < bucket_count in_new → x.start < 64
        → total x ≡ pick x * all_lists in_new n + idle x * ends factor + refuse x * ends (next_factor factor)
    parts x low below = by (candidate_in st in_new nets x) refl
      where
        three : ℕ → ℕ → ℕ → ℕ
        three a b c = a * all_lists in_new n + b * ends factor + c * ends (next_factor factor)

        first : (k m l : ℕ) → k ≡ 1 * k + 0 * m + 0 * l
        first k m l = omega arith

        second : (k m l : ℕ) → m ≡ 0 * k + 1 * m + 0 * l
        second k m l = omega arith

        third : (k m l : ℕ) → l ≡ 0 * k + 0 * m + 1 * l
        third k m l = omega arith

        nothing : (k m l : ℕ) → 0 ≡ 0 * k + 0 * m + 0 * l
        nothing k m l = omega arith

        candidate_is : (q : Rec) (same accepts : Bool) → same_peer r.peer q.peer ≡ same
            → sum_lists in_new n (λ rounds. one_if (if accepts then same_peer r.peer q.peer else ends_at st in_new nets now (next_factor factor) r.peer rounds))
            ≡ three (one_if (same && accepts)) 0 (one_if (not accepts))
        candidate_is q true true is = (λ i. sum_lists in_new n (λ rounds. one_if (is i))) ∙ first (all_lists in_new n) (ends factor) (ends (next_factor factor))
        candidate_is q false true is = (λ i. sum_lists in_new n (λ rounds. one_if (is i))) ∙ lists-nothing in_new n ∙ nothing (all_lists in_new n) (ends factor) (ends (next_factor factor))
        candidate_is q true false is = third (all_lists in_new n) (ends factor) (ends (next_factor factor))
        candidate_is q false false is = third (all_lists in_new n) (ends factor) (ends (next_factor factor))

        by : (o : Option Rec) → candidate_in st in_new nets x ≡ o
            → total x ≡ three (one_if (holds (λ q. q.number == r.number && is_accepted q now factor x.word) o)) (one_if (not (is_some o))) (one_if (holds (λ q. not (is_accepted q now factor x.word)) o))
        by None is =
            (λ i. sum_lists in_new n (λ rounds. one_if (ends_round x low below factor rounds None is i)))
            ∙ second (all_lists in_new n) (ends factor) (ends (next_factor factor))
        by (Some q) is =
            (λ i. sum_lists in_new n (λ rounds. one_if (ends_round x low below factor rounds (Some q) is i)))
            ∙ candidate_is q (q.number == r.number) (is_accepted q now factor x.word) (same_one q (candidate-there st in_new nets x.bucket x.start q is))

    over_parts : (buckets starts words : List ℕ) → All (λ b. b < bucket_count in_new) buckets → All (λ s. s < 64) starts
        → over buckets starts words total
        ≡ over buckets starts words pick * all_lists in_new n + over buckets starts words idle * ends factor + over buckets starts words refuse * ends (next_factor factor)
    over_parts buckets starts words low below =
        sum_agree (λ b. sum_by (λ s. sum_by (λ w. total (round b s w)) words) starts) (λ b. at_bucket pick b * A + at_bucket idle b * B + at_bucket refuse b * C) buckets
        (All-from_Contains _ buckets (λ b c. bucket_parts b (All-contains (λ b. b < bucket_count in_new) buckets b low c)))
        ∙ sum_three (at_bucket pick) (at_bucket idle) (at_bucket refuse) A B C buckets
      where
        A : ℕ
        A = all_lists in_new n

        B : ℕ
        B = ends factor

        C : ℕ
        C = ends (next_factor factor)

        at_start : (Round → ℕ) → ℕ → ℕ → ℕ
        at_start f b s = sum_by (λ w. f (round b s w)) words

        at_bucket : (Round → ℕ) → ℕ → ℕ
        at_bucket f b = sum_by (at_start f b) starts

        start_parts : (b s : ℕ) → b < bucket_count in_new → s < 64 → at_start total b s ≡ at_start pick b s * A + at_start idle b s * B + at_start refuse b s * C
        start_parts b s l h =
            (λ i. sum_by (λ w. parts (round b s w) l h i) words)
            ∙ sum_three (λ w. pick (round b s w)) (λ w. idle (round b s w)) (λ w. refuse (round b s w)) A B C words

        bucket_parts : (b : ℕ) → b < bucket_count in_new → at_bucket total b ≡ at_bucket pick b * A + at_bucket idle b * B + at_bucket refuse b * C
        bucket_parts b l =
            sum_agree (at_start total b) (λ s. at_start pick b s * A + at_start idle b s * B + at_start refuse b s * C) starts
            (All-from_Contains _ starts (λ s c. start_parts b s l (All-contains (λ s. s < 64) starts s below c)))
            ∙ sum_three (at_start pick b) (at_start idle b) (at_start refuse b) A B C starts

    pub one_more : ending_lists st in_new nets now factor r.peer (suc n)
        ≡ picking_words st in_new nets now factor r.number * all_lists in_new n
        + idle_rounds st in_new nets * ending_lists st in_new nets now factor r.peer n
        + refusing_rounds st in_new nets now factor * ending_lists st in_new nets now (next_factor factor) r.peer n
    one_more =
        over_parts (range_with_len 0 (bucket_count in_new)) (range_with_len 0 64) (range_with_len 0 (2 ^ 30))
        (all_range (λ b. b < bucket_count in_new) 0 (bucket_count in_new) (λ i from to. omega (arith, to)))
        (all_range (λ s. s < 64) 0 64 (λ i from to. omega (arith, to)))
