-- Lists of words that select a peer of a set are at most what the rounds give.
use Rattle.std.proofs.Common.{◌≡◌, ℕ, zero, suc, ◌+◌, ◌*◌, ◌%◌, ◌^◌, ◌≤◌, ◌<◌, Bool, true, false, not, ◌&&◌, ◌||◌, ◌==◌, is_some, List, [], ◌∷◌, sum_by, Option, Some, None, refl, sym, ap, subst, ◌∙◌, arith, if◌then◌else◌}
use Rattle.std.specs.List.{range_with_len}
use Rattle.std.proofs.Math.Nat.{mul-le-mul_left, mul-le-mul_right, le_of_mul-le-mul_left, pow-succ', pow-zero}
use Rattle.std.proofs.lemmas.Bool.{false_from_ne_true}
use Rattle.std.proofs.lemmas.Bool.Decides.{Decides-eqb}
use Rattle.std.proofs.lemmas.List.FromFn.{length-range_with_len}
use Rattle.std.proofs.lemmas.List.Sums.{sum_by-cons}
use Rattle.net_addr.specs.declared.peer.Peer.{Peer}
use Rattle.peer_rec.specs.declared.answers.Picked.TheVariants.{One, Nothing}
use Rattle.peer_rec.specs.declared.rec.Rec.{Rec}
use Rattle.peer_rec.specs.Rec.{next_factor}
use Rattle.table_machine.specs.Picks.{bucket_count, candidate, candidates, candidates_of_either, first_accepted, first_factor, is_accepted, select, wanted_new, wanted_tried, with_candidate}
use Rattle.table_machine.specs.Sound.{IsSound}
use Rattle.table_machine.specs.State.{State}
use Rattle.table_machine.proofs.Lists.{All-from_Contains}
use Rattle.table_laws.specs.Chances.{picks, words_for}
use Rattle.table_laws.specs.Rounds.{holds}
use Rattle.table_laws.specs.Searches.{Round, candidate_in, idle_rounds, one_if, refusing_rounds, round, sum_rounds}
use Rattle.table_laws.proofs.Balance.{sum_nothing}
use Rattle.table_laws.proofs.BoundOf.{sum_at_most}
use Rattle.table_laws.proofs.Draws.{sum_times}
use Rattle.table_laws.proofs.Residues.{round_same}
use Rattle.table_laws.proofs.SearchOf.{over, sum_constant, sum_three}
use Rattle.risk_sum.specs.Kinds.{rounded_up}
use Rattle.risk_laws.specs.Enclosures.{most_of}
use Rattle.risk_laws.specs.Lists.{is_theirs, searching_lists, selecting_lists, sum_words, word_lists}
use Rattle.risk_laws.proofs.EnclosuresOf.{at_least_it, one_round}
use Rattle.risk_laws.proofs.Periods.{periodic}

times_in : {X : Type 0} (f : X → ℕ) (u : ℕ) (xs : List X) → sum_by f xs * u ≡ sum_by (λ x. f x * u) xs
times_in f u xs = sym (sum_times f u xs)

times_out : {X : Type 0} (k : ℕ) (f : X → ℕ) (xs : List X) → sum_by (λ x. k * f x) xs ≡ k * sum_by f xs
times_out k f xs = (λ i. sum_by (λ x. turn k (f x) i) xs) ∙ sym (times_in f k xs) ∙ turn (sum_by f xs) k
  where
    turn : (a b : ℕ) → a * b ≡ b * a
    turn a b = omega arith

three_sums : (f g h : Round → ℕ) (u v w : ℕ) (buckets starts words : List ℕ)
    → over buckets starts words (λ r. f r * u + g r * v + h r * w) ≡ over buckets starts words f * u + over buckets starts words g * v + over buckets starts words h * w
three_sums f g h u v w buckets starts words =
    (λ i. sum_by (λ b. sum_by (λ s. sum_three (λ x. f (round b s x)) (λ x. g (round b s x)) (λ x. h (round b s x)) u v w words i) starts) buckets)
    ∙ (λ i. sum_by (λ b. sum_three (λ s. sum_by (λ x. f (round b s x)) words) (λ s. sum_by (λ x. g (round b s x)) words) (λ s. sum_by (λ x. h (round b s x)) words) u v w starts i) buckets)
    ∙ sum_three (λ b. sum_by (λ s. sum_by (λ x. f (round b s x)) words) starts) (λ b. sum_by (λ s. sum_by (λ x. g (round b s x)) words) starts) (λ b. sum_by (λ s. sum_by (λ x. h (round b s x)) words) starts) u v w buckets

nothing : (e u b : ℕ) → e ≡ 0 → e * u ≤ b
nothing e u b is = let product : e * u ≡ 0 * u = ap (λ k. k * u) is in omega (arith, product)

-- the recursion, over all words, gives the bound
joined : (x y w l l' a b c d k m size left : ℕ) → 0 < size → x * size ≡ a * (b * (c * w)) → w * left ≤ d * (64 * k) * (l * size) * m → l' ≡ size * (size * (size * l))
    → size ≡ a * d → size ≡ b * 64 → size ≡ c * k → x * left ≤ l' * m
joined x y w l l' a b c d k m size left some is few longer one two three =
    let product = mul-le-mul_left a (mul-le-mul_left b (mul-le-mul_left c few)) in
    let whole : l' ≡ (a * d) * ((b * 64) * ((c * k) * l)) = longer ∙ (λ i. one i * (two i * (three i * l))) in
    le_of_mul-le-mul_left (trans3 (start is) product (turn a b c d k m l size ∙ ap (λ z. size * (z * m)) (sym whole))) some
  where
    start : x * size ≡ a * (b * (c * w)) → size * (x * left) ≡ a * (b * (c * (w * left)))
    start is = let h : x * size * left ≡ a * (b * (c * w)) * left = ap (λ k. k * left) is in omega (arith, h)

    turn : (a b c d k m l s : ℕ) → a * (b * (c * (d * (64 * k) * (l * s) * m))) ≡ s * ((a * d) * ((b * 64) * ((c * k) * l)) * m)
    turn a b c d k m l s = omega arith

    trans3 : {p q r t : ℕ} → p ≡ q → q ≤ r → r ≡ t → p ≤ t
    trans3 one two three = omega (arith, one, two, three)

turned : (x l size a m : ℕ) → x ≤ l * m → l ≡ size * a → x ≤ a * size * m
turned x l size a m h is = let more : l * m ≡ size * a * m = ap (λ k. k * m) is in omega (arith, h, more)

scaled : (x u a m size : ℕ) → x * u ≤ a * m → x * size * u ≤ a * size * m
scaled x u a m size h = let more = mul-le-mul_left size h in omega (arith, more)

words_nothing : (size n : ℕ) → sum_words size n (λ ws. 0) ≡ 0
words_nothing size zero = refl
words_nothing size (suc n) = (λ i. sum_by (λ w. words_nothing size n i) (range_with_len 0 size)) ∙ sum_nothing (range_with_len 0 size)

pub one_more_word : (size n : ℕ) → sum_words size (suc n) (λ ws. 1) ≡ size * sum_words size n (λ ws. 1)
one_more_word size n = sum_constant (sum_words size n (λ ws. 1)) (range_with_len 0 size) ∙ ap (λ k. k * sum_words size n (λ ws. 1)) (length-range_with_len 0 size)

module _ (st : State) (in_new : Bool) (nets : List ℕ) (now : ℕ) (theirs : Peer → Bool) (size : ℕ) where
  abbrev ends : ℕ → List ℕ → ℕ
  ends factor ws = one_if (is_theirs theirs (first_accepted now factor (candidates st in_new nets ws)))

  abbrev lists : ℕ → ℕ → ℕ
  lists factor n = sum_words size n (ends factor)

  abbrev all : ℕ → ℕ
  all n = sum_words size n (λ ws. 1)

  abbrev test : Rec → Bool
  test r = theirs r.peer

  -- the lists that end there after the words of a first round, by its candidate
  abbrev by_candidate : Option Rec → ℕ → ℕ → ℕ → ℕ
  by_candidate None factor n word = sum_words size n (λ ws. ends factor (word ∷ ws))
  by_candidate (Some q) factor n word =
      if is_accepted q now factor word then one_if (theirs q.peer) * all n else lists (next_factor factor) n

  known : (b : Bool) (n : ℕ) → sum_words size n (λ ws. one_if b) ≡ one_if b * all n
  known true n = one (all n)
    where
      one : (a : ℕ) → a ≡ 1 * a
      one a = omega arith
  known false n = words_nothing size n ∙ none (all n)
    where
      none : (a : ℕ) → 0 ≡ 0 * a
      none a = omega arith

  first_round : (factor n bucket start word : ℕ) (o : Option Rec) → candidate st in_new nets bucket start ≡ o
      → sum_words size n (λ ws. ends factor (bucket ∷ start ∷ word ∷ ws)) ≡ by_candidate o factor n word
  first_round factor n bucket start word o is =
      (λ i. sum_words size n (λ ws. one_if (is_theirs theirs (first_accepted now factor (with_candidate (is i) word (candidates st in_new nets (word ∷ ws)) (candidates st in_new nets ws))))))
      ∙ by o
    where
      accepted : (q : Rec) (b : Bool)
          → sum_words size n (λ ws. one_if (is_theirs theirs (if b then One q.peer q.last_try else first_accepted now (next_factor factor) (candidates st in_new nets ws))))
          ≡ (if b then one_if (theirs q.peer) * all n else lists (next_factor factor) n)
      accepted q true = known (theirs q.peer) n
      accepted q false = refl

      by : (o : Option Rec) → sum_words size n (λ ws. one_if (is_theirs theirs (first_accepted now factor (with_candidate o word (candidates st in_new nets (word ∷ ws)) (candidates st in_new nets ws))))) ≡ by_candidate o factor n word
      by None = refl
      by (Some q) = accepted q (is_accepted q now factor word)

  module _ (unit : ℕ) where
    -- what a round is worth: a unit, if it selects theirs, and so much if it has no candidate, or refuses it
    abbrev worth : ℕ → ℕ → ℕ → Round → ℕ
    worth factor idle later r =
        one_if (picks st in_new nets now factor test r.bucket r.start r.word) * unit
        + one_if (not (is_some (candidate_in st in_new nets r))) * idle
        + one_if (holds (λ q. not (is_accepted q now factor r.word)) (candidate_in st in_new nets r)) * later

    abbrev residues : ℕ → ℕ → ℕ → Round
    residues bucket start word = round (bucket % bucket_count in_new) (start % 64) (word % 2 ^ 30)

    -- the same, by the candidate
    abbrev worth_by : ℕ → ℕ → ℕ → Option Rec → ℕ → ℕ
    worth_by factor idle later o word =
        one_if (holds (λ r. test r && is_accepted r now factor word) o) * unit
        + one_if (not (is_some o)) * idle
        + one_if (holds (λ q. not (is_accepted q now factor word)) o) * later

    one_word : (factor n idle : ℕ) → all n * size ≡ unit → (q : Rec) (word : ℕ)
        → by_candidate (Some q) factor n word * size ≡ worth_by factor idle (lists (next_factor factor) n * size) (Some q) (word % 2 ^ 30)
    one_word factor n idle is q word = by (is_accepted q now factor word) ∙ ap at (sym low)
      where
        at : Bool → ℕ
        at b = one_if (theirs q.peer && b) * unit + one_if false * idle + one_if (not b) * (lists (next_factor factor) n * size)

        low : is_accepted q now factor (word % 2 ^ 30) ≡ is_accepted q now factor word
        low = (round_same st in_new nets q now factor 0 0 (word % 2 ^ 30) 0 0 word refl refl (omega arith)).1

        yes : (t : Bool) (a s u i l : ℕ) → a * s ≡ u → one_if t * a * s ≡ one_if (t && true) * u + 0 * i + 0 * l
        yes true a s u i l is = omega (arith, is)
        yes false a s u i l is = omega arith

        no : (t : Bool) (x u i : ℕ) → x ≡ one_if (t && false) * u + 0 * i + 1 * x
        no true x u i = omega arith
        no false x u i = omega arith

        by : (b : Bool) → (if b then one_if (theirs q.peer) * all n else lists (next_factor factor) n) * size ≡ at b
        by true = yes (theirs q.peer) (all n) size unit idle (lists (next_factor factor) n * size) is
        by false = no (theirs q.peer) (lists (next_factor factor) n * size) unit idle

    pair : (factor n : ℕ) → all n * size ≡ unit → (bucket start : ℕ) (o : Option Rec) → candidate st in_new nets bucket start ≡ o
        → sum_by (λ w. sum_words size n (λ ws. ends factor (bucket ∷ start ∷ w ∷ ws))) (range_with_len 0 size) * size
        ≡ sum_by (λ w. worth factor (lists factor (suc n)) (lists (next_factor factor) n * size) (residues bucket start w)) (range_with_len 0 size)
    pair factor n unit_is bucket start None is =
        (λ i. sum_by (λ w. first_round factor n bucket start w None is i) (range_with_len 0 size) * size)
        ∙ turn (lists factor (suc n)) size
        ∙ sym ((λ i. sum_by (λ w. worth_by factor (lists factor (suc n)) (lists (next_factor factor) n * size) (is i) (w % 2 ^ 30)) (range_with_len 0 size))
        ∙ (λ i. sum_by (λ w. just unit (lists factor (suc n)) (lists (next_factor factor) n * size) i) (range_with_len 0 size))
        ∙ sum_constant (lists factor (suc n)) (range_with_len 0 size) ∙ ap (λ k. k * lists factor (suc n)) (length-range_with_len 0 size))
      where
        turn : (a b : ℕ) → a * b ≡ b * a
        turn a b = omega arith

        just : (u i l : ℕ) → 0 * u + 1 * i + 0 * l ≡ i
        just u i l = omega arith
    pair factor n unit_is bucket start (Some q) is =
        (λ i. sum_by (λ w. first_round factor n bucket start w (Some q) is i) (range_with_len 0 size) * size)
        ∙ times_in (by_candidate (Some q) factor n) size (range_with_len 0 size)
        ∙ (λ i. sum_by (λ w. one_word factor n (lists factor (suc n)) unit_is q w i) (range_with_len 0 size))
        ∙ sym (λ i. sum_by (λ w. worth_by factor (lists factor (suc n)) (lists (next_factor factor) n * size) (is i) (w % 2 ^ 30)) (range_with_len 0 size))

    triples : (factor n : ℕ) → all n * size ≡ unit → lists factor (suc (suc (suc n))) * size
        ≡ sum_by (λ b. sum_by (λ s. sum_by (λ w. worth factor (lists factor (suc n)) (lists (next_factor factor) n * size) (residues b s w)) (range_with_len 0 size)) (range_with_len 0 size)) (range_with_len 0 size)
    triples factor n unit_is =
        times_in (λ b. sum_by (λ s. sum_by (λ w. sum_words size n (λ ws. ends factor (b ∷ s ∷ w ∷ ws))) (range_with_len 0 size)) (range_with_len 0 size)) size (range_with_len 0 size)
        ∙ (λ i. sum_by (λ b. times_in (λ s. sum_by (λ w. sum_words size n (λ ws. ends factor (b ∷ s ∷ w ∷ ws))) (range_with_len 0 size)) size (range_with_len 0 size) i) (range_with_len 0 size))
        ∙ (λ i. sum_by (λ b. sum_by (λ s. pair factor n unit_is b s (candidate st in_new nets b s) refl i) (range_with_len 0 size)) (range_with_len 0 size))

    -- the residues of a round come from equally many words each
    even : (factor idle later a b c : ℕ) → size ≡ a * bucket_count in_new → size ≡ b * 64 → size ≡ c * 2 ^ 30
        → sum_by (λ x. sum_by (λ y. sum_by (λ w. worth factor idle later (residues x y w)) (range_with_len 0 size)) (range_with_len 0 size)) (range_with_len 0 size)
        ≡ a * (b * (c * sum_rounds in_new (worth factor idle later)))
    even factor idle later a b c one two three =
        (λ i. sum_by (λ x. sum_by (λ y. word_sums (x % bucket_count in_new) (y % 64) i) (range_with_len 0 size)) (range_with_len 0 size))
        ∙ (λ i. sum_by (λ x. start_sums (x % bucket_count in_new) i) (range_with_len 0 size))
        ∙ ap (λ m. sum_by (λ x. b * (c * in_bucket (x % bucket_count in_new))) (range_with_len 0 m)) one
        ∙ periodic (λ x. b * (c * in_bucket x)) (bucket_count in_new) a
        ∙ ap (λ k. a * k) (times_out b (λ x. c * in_bucket x) (range_with_len 0 (bucket_count in_new)) ∙ ap (λ k. b * k) (times_out c in_bucket (range_with_len 0 (bucket_count in_new))))
      where
        in_start : ℕ → ℕ → ℕ
        in_start x y = sum_by (λ w. worth factor idle later (round x y w)) (range_with_len 0 (2 ^ 30))

        in_bucket : ℕ → ℕ
        in_bucket x = sum_by (in_start x) (range_with_len 0 64)

        word_sums : (x y : ℕ) → sum_by (λ w. worth factor idle later (round x y (w % 2 ^ 30))) (range_with_len 0 size) ≡ c * in_start x y
        word_sums x y =
            ap (λ m. sum_by (λ w. worth factor idle later (round x y (w % 2 ^ 30))) (range_with_len 0 m)) three
            ∙ periodic (λ w. worth factor idle later (round x y w)) (2 ^ 30) c

        start_sums : (x : ℕ) → sum_by (λ y. c * in_start x (y % 64)) (range_with_len 0 size) ≡ b * (c * in_bucket x)
        start_sums x =
            ap (λ m. sum_by (λ y. c * in_start x (y % 64)) (range_with_len 0 m)) two
            ∙ periodic (λ y. c * in_start x y) 64 b
            ∙ ap (λ k. b * k) (times_out c (in_start x) (range_with_len 0 64))

    -- what all rounds are worth
    worth_of_all : (factor idle later : ℕ) → sum_rounds in_new (worth factor idle later)
        ≡ words_for st in_new nets now factor test * unit + idle_rounds st in_new nets * idle + refusing_rounds st in_new nets now factor * later
    worth_of_all factor idle later = three_sums (λ r. one_if (picks st in_new nets now factor test r.bucket r.start r.word)) (λ r. one_if (not (is_some (candidate_in st in_new nets r))))
        (λ r. one_if (holds (λ q. not (is_accepted q now factor r.word)) (candidate_in st in_new nets r))) unit idle later
        (range_with_len 0 (bucket_count in_new)) (range_with_len 0 64) (range_with_len 0 (2 ^ 30))

  -- the searches by words follow the recursion of those by rounds
  module _ (a b c : ℕ) (one : size ≡ a * bucket_count in_new) (two : size ≡ b * 64) (three : size ≡ c * 2 ^ 30) where
    pub recursion : (factor n : ℕ) → lists factor (suc (suc (suc n))) * size
        ≡ a * (b * (c * (words_for st in_new nets now factor test * (all n * size) + idle_rounds st in_new nets * lists factor (suc n)
        + refusing_rounds st in_new nets now factor * (lists (next_factor factor) n * size))))
    recursion factor n =
        triples (all n * size) factor n refl
        ∙ even (all n * size) factor (lists factor (suc n)) (lists (next_factor factor) n * size) a b c one two three
        ∙ ap (λ k. a * (b * (c * k))) (worth_of_all (all n * size) factor (lists factor (suc n)) (lists (next_factor factor) n * size))

    more_words : (n : ℕ) → all (suc (suc (suc n))) ≡ size * (size * (size * all n))
    more_words n = one_more_word size (suc (suc n)) ∙ ap (λ k. size * k) (one_more_word size (suc n) ∙ ap (λ k. size * k) (one_more_word size n))

    module _ (sound : IsSound st) (positive : 0 < size) (busy : ℕ) (some : 0 < busy) (whole : busy + idle_rounds st in_new nets ≡ bucket_count in_new * (64 * 2 ^ 30)) where
      -- one round more
      next : (factor n left after x y : ℕ) → left * words_for st in_new nets now factor test ≤ busy * x → left * refusing_rounds st in_new nets now factor ≤ busy * after
          → lists factor (suc n) * left ≤ all (suc n) * (x + y) → lists (next_factor factor) n * after ≤ all n * y
          → lists factor (suc (suc (suc n))) * left ≤ all (suc (suc (suc n))) * (x + y)
      next factor n left after x y here later before rest =
          joined (lists factor (suc (suc (suc n)))) 0 _ (all n) (all (suc (suc (suc n)))) a b c (bucket_count in_new) (2 ^ 30) (x + y) size left positive (recursion factor n)
          (subst (λ k. (words_for st in_new nets now factor test * (all n * size) + idle_rounds st in_new nets * lists factor (suc n)
          + refusing_rounds st in_new nets now factor * (lists (next_factor factor) n * size)) * left ≤ k * (all n * size) * (x + y)) whole
          (one_round (words_for st in_new nets now factor test) (idle_rounds st in_new nets) (refusing_rounds st in_new nets now factor) (all n * size) (lists factor (suc n)) (lists (next_factor factor) n * size) left after x y busy
          here later (turned (lists factor (suc n) * left) (all (suc n)) size (all n) (x + y) before (one_more_word size n)) (scaled (lists (next_factor factor) n) after (all n) y size rest)))
          (more_words n) one two three

      pub no_more_lists : (n factor : ℕ) → lists factor n ≤ all n
      no_more_lists n factor = each n (ends factor) (λ ws. at_most_one (is_theirs theirs (first_accepted now factor (candidates st in_new nets ws))))
        where
          at_most_one : (b : Bool) → one_if b ≤ 1
          at_most_one true = omega arith
          at_most_one false = omega arith

          each : (n : ℕ) (f : List ℕ → ℕ) → ((ws : List ℕ) → f ws ≤ 1) → sum_words size n f ≤ all n
          each zero f h = h []
          each (suc n) f h = sum_at_most (λ w. sum_words size n (λ ws. f (w ∷ ws))) (λ w. all n) (range_with_len 0 size)
              (All-from_Contains (λ w. sum_words size n (λ ws. f (w ∷ ws)) ≤ all n) (range_with_len 0 size) (λ w c. each n (λ ws. f (w ∷ ws)) (λ ws. h (w ∷ ws))))

      pub at_most : (ahead n left factor : ℕ) → lists factor n * left ≤ all n * most_of st in_new nets now test busy left ahead factor
      at_most zero n left factor = mul-le-mul_right left (no_more_lists n factor)
      at_most (suc ahead) zero left factor = omega arith
      at_most (suc ahead) (suc zero) left factor = nothing (lists factor 1) left _ (sum_nothing (range_with_len 0 size))
      at_most (suc ahead) (suc (suc zero)) left factor = nothing (lists factor 2) left _ (words_nothing size 2)
      at_most (suc ahead) (suc (suc (suc n))) left factor =
          next factor n left (rounded_up (left * refusing_rounds st in_new nets now factor) busy) (rounded_up (left * words_for st in_new nets now factor test) busy)
          (most_of st in_new nets now test busy (rounded_up (left * refusing_rounds st in_new nets now factor) busy) ahead (next_factor factor))
          (at_least_it (left * words_for st in_new nets now factor test) busy some) (at_least_it (left * refusing_rounds st in_new nets now factor) busy some)
          (at_most (suc ahead) (suc n) left factor) (at_most ahead n (rounded_up (left * refusing_rounds st in_new nets now factor) busy) (next_factor factor))

words_there : 0 < 2 ^ 64
words_there = omega arith

one_longer : (n : ℕ) → suc n ≡ n + 1
one_longer n = omega arith

powers : (size n : ℕ) → sum_words size n (λ ws. 1) ≡ size ^ n
powers size zero = sym (pow-zero size)
powers size (suc n) = one_more_word size n ∙ ap (λ k. size * k) (powers size n) ∙ sym (pow-succ' size n)

pub all_lists_are : (n : ℕ) → word_lists n ≡ (2 ^ 64) ^ n
all_lists_are n = powers (2 ^ 64) n

-- the recursion without the numbers of words that a residue stands for
rounds_of : (x s a b c d k w i r all l l' : ℕ) → 0 < s → x * s ≡ a * (b * (c * (w * (all * s) + i * l + r * (l' * s))))
    → s ≡ a * d → s ≡ b * 64 → s ≡ c * k → x * (d * (64 * k)) ≡ s * s * (s * (w * all + r * l') + i * l)
rounds_of x s a b c d k w i r all l l' some is one two three =
    let same = start is ∙ (λ j. sym one j * (sym two j * (sym three j * (w * (all * s) + i * l + r * (l' * s))))) ∙ turn s w all i l r l' in
    cancel (x * (d * (64 * k))) (s * s * (s * (w * all + r * l') + i * l)) same
  where
    start : x * s ≡ a * (b * (c * (w * (all * s) + i * l + r * (l' * s))))
        → s * (x * (d * (64 * k))) ≡ (a * d) * ((b * 64) * ((c * k) * (w * (all * s) + i * l + r * (l' * s))))
    start is = let h : x * s * (d * (64 * k)) ≡ a * (b * (c * (w * (all * s) + i * l + r * (l' * s)))) * (d * (64 * k)) = ap (λ z. z * (d * (64 * k))) is in omega (arith, h)

    turn : (s w all i l r l' : ℕ) → s * (s * (s * (w * (all * s) + i * l + r * (l' * s)))) ≡ s * (s * s * (s * (w * all + r * l') + i * l))
    turn s w all i l r l' = omega arith

    cancel : (p q : ℕ) → s * p ≡ s * q → p ≡ q
    cancel p q same =
        let up : p ≤ q = le_of_mul-le-mul_left (omega (arith, same)) some in
        let down : q ≤ p = le_of_mul-le-mul_left (omega (arith, same)) some in
        omega (arith, up, down)

more_of : (st : State) (in_new : Bool) (nets : List ℕ) (now factor n a b c : ℕ) (theirs : Peer → Bool) → 2 ^ 64 ≡ a * bucket_count in_new → 2 ^ 64 ≡ b * 64 → 2 ^ 64 ≡ c * 2 ^ 30
    → searching_lists st in_new nets now theirs factor (suc (suc (suc n))) * (bucket_count in_new * (64 * 2 ^ 30))
    ≡ 2 ^ 64 * 2 ^ 64 * (2 ^ 64 * (words_for st in_new nets now factor (λ r. theirs r.peer) * word_lists n + refusing_rounds st in_new nets now factor * searching_lists st in_new nets now theirs (next_factor factor) n)
    + idle_rounds st in_new nets * searching_lists st in_new nets now theirs factor (suc n))
more_of st in_new nets now factor n a b c theirs one two three =
    rounds_of (searching_lists st in_new nets now theirs factor (suc (suc (suc n)))) (2 ^ 64) a b c (bucket_count in_new) (2 ^ 30) (words_for st in_new nets now factor (λ r. theirs r.peer)) (idle_rounds st in_new nets)
    (refusing_rounds st in_new nets now factor) (word_lists n) (searching_lists st in_new nets now theirs factor (suc n)) (searching_lists st in_new nets now theirs (next_factor factor) n) words_there
    (recursion st in_new nets now theirs (2 ^ 64) a b c one two three factor n) one two three

pub by_more : (st : State) (in_new : Bool) (nets : List ℕ) (now factor n : ℕ) (theirs : Peer → Bool)
    → searching_lists st in_new nets now theirs factor (n + 3) * (bucket_count in_new * (64 * 2 ^ 30))
    ≡ 2 ^ 64 * 2 ^ 64 * (2 ^ 64 * (words_for st in_new nets now factor (λ r. theirs r.peer) * word_lists n + refusing_rounds st in_new nets now factor * searching_lists st in_new nets now theirs (next_factor factor) n)
    + idle_rounds st in_new nets * searching_lists st in_new nets now theirs factor (n + 1))
by_more st in_new nets now factor n theirs =
    subst (λ k. searching_lists st in_new nets now theirs factor k * (bucket_count in_new * (64 * 2 ^ 30))
    ≡ 2 ^ 64 * 2 ^ 64 * (2 ^ 64 * (words_for st in_new nets now factor (λ r. theirs r.peer) * word_lists n + refusing_rounds st in_new nets now factor * searching_lists st in_new nets now theirs (next_factor factor) n)
    + idle_rounds st in_new nets * searching_lists st in_new nets now theirs factor (n + 1))) (three_more n)
    (subst (λ k. searching_lists st in_new nets now theirs factor (suc (suc (suc n))) * (bucket_count in_new * (64 * 2 ^ 30))
    ≡ 2 ^ 64 * 2 ^ 64 * (2 ^ 64 * (words_for st in_new nets now factor (λ r. theirs r.peer) * word_lists n + refusing_rounds st in_new nets now factor * searching_lists st in_new nets now theirs (next_factor factor) n)
    + idle_rounds st in_new nets * searching_lists st in_new nets now theirs factor k)) (one_longer n) (by in_new))
  where
    three_more : (n : ℕ) → suc (suc (suc n)) ≡ n + 3
    three_more n = omega arith

    by : (k : Bool) → searching_lists st k nets now theirs factor (suc (suc (suc n))) * (bucket_count k * (64 * 2 ^ 30))
        ≡ 2 ^ 64 * 2 ^ 64 * (2 ^ 64 * (words_for st k nets now factor (λ r. theirs r.peer) * word_lists n + refusing_rounds st k nets now factor * searching_lists st k nets now theirs (next_factor factor) n)
        + idle_rounds st k nets * searching_lists st k nets now theirs factor (suc n))
    by true = more_of st true nets now factor n (2 ^ 54) (2 ^ 58) (2 ^ 34) theirs refl refl refl
    by false = more_of st false nets now factor n (2 ^ 56) (2 ^ 58) (2 ^ 34) theirs refl refl refl

pub by_few : (st : State) (in_new : Bool) (nets : List ℕ) (now factor n : ℕ) (theirs : Peer → Bool) → n < 3 → searching_lists st in_new nets now theirs factor n ≡ 0
by_few st in_new nets now factor zero theirs low = refl
by_few st in_new nets now factor (suc zero) theirs low = words_nothing (2 ^ 64) 1
by_few st in_new nets now factor (suc (suc zero)) theirs low = words_nothing (2 ^ 64) 2
by_few st in_new nets now factor (suc (suc (suc n))) theirs low = absurd (omega (arith, low))

pub by_search : (st : State) (in_new : Bool) (nets : List ℕ) (now unit busy ahead n factor : ℕ) (theirs : Peer → Bool) → IsSound st → 0 < busy
    → busy + idle_rounds st in_new nets ≡ bucket_count in_new * (64 * 2 ^ 30)
    → searching_lists st in_new nets now theirs factor n * unit ≤ word_lists n * most_of st in_new nets now (λ r. theirs r.peer) busy unit ahead factor
by_search st true nets now unit busy ahead n factor theirs sound some whole =
    at_most st true nets now theirs (2 ^ 64) (2 ^ 54) (2 ^ 58) (2 ^ 34) refl refl refl sound words_there busy some whole ahead n unit factor
by_search st false nets now unit busy ahead n factor theirs sound some whole =
    at_most st false nets now theirs (2 ^ 64) (2 ^ 56) (2 ^ 58) (2 ^ 34) refl refl refl sound words_there busy some whole ahead n unit factor

-- without words there is no pick, and the first word selects the table
either_lists : (st : State) (nets : List ℕ) (now n : ℕ) (theirs : Peer → Bool) (size half : ℕ) → size ≡ half * 2
    → sum_words size (suc n) (λ ws. one_if (is_theirs theirs (first_accepted now first_factor (candidates_of_either st nets ws))))
    ≡ half * (lists st true nets now theirs size first_factor n + lists st false nets now theirs size first_factor n)
either_lists st nets now n theirs size half is =
    ap (λ m. sum_by (λ w. F (w % 2)) (range_with_len 0 m)) is ∙ periodic F 2 half ∙ ap (λ k. half * k) (sum_by-cons F 0 (1 ∷ []) ∙ ap (λ k. F 0 + k) (sum_by-cons F 1 []) ∙ last (F 0) (F 1))
  where
    F : ℕ → ℕ
    F r = sum_words size n (λ ws. one_if (is_theirs theirs (first_accepted now first_factor (candidates st (r == 0) nets ws))))

    last : (a b : ℕ) → a + (b + 0) ≡ a + b
    last a b = omega arith

pub not_zero : (n : ℕ) → 0 < n → (n == 0) ≡ false
not_zero n some = false_from_ne_true (n == 0) (λ is. let none = (Decides-eqb n 0).0 is in omega (arith, none, some))

select_either : (st : State) (nets words : List ℕ) (now : ℕ) → (wanted_new st nets == 0) ≡ false → (wanted_tried st nets == 0) ≡ false
    → select st false nets words now ≡ first_accepted now first_factor (candidates_of_either st nets words)
select_either st nets words now one two i =
    if one i && (false || two i) then Nothing
    else first_accepted now first_factor (if false || two i then candidates st true nets words else if one i then candidates st false nets words else candidates_of_either st nets words)

pub by_either_lists : (st : State) (nets : List ℕ) (now n : ℕ) (theirs : Peer → Bool) → 0 < wanted_new st nets → 0 < wanted_tried st nets
    → selecting_lists st false nets now theirs (suc n) ≡ 2 ^ 63 * (searching_lists st true nets now theirs first_factor n + searching_lists st false nets now theirs first_factor n)
by_either_lists st nets now n theirs has also =
    (λ i. sum_words (2 ^ 64) (suc n) (λ ws. one_if (is_theirs theirs (select_either st nets ws now (not_zero (wanted_new st nets) has) (not_zero (wanted_tried st nets) also) i))))
    ∙ either_lists st nets now n theirs (2 ^ 64) (2 ^ 63) refl

pub by_both : (st : State) (nets : List ℕ) (now n : ℕ) (theirs : Peer → Bool) → 0 < wanted_new st nets → 0 < wanted_tried st nets
    → selecting_lists st false nets now theirs (n + 1) ≡ 2 ^ 63 * (searching_lists st true nets now theirs first_factor n + searching_lists st false nets now theirs first_factor n)
by_both st nets now n theirs has also =
    ap (selecting_lists st false nets now theirs) (sym (one_longer n)) ∙ by_either_lists st nets now n theirs has also

pub halves : (h x y u a p q l size z : ℕ) → z ≡ h * (x + y) → l ≡ size * a → size ≡ h * 2 → x * u ≤ a * p → y * u ≤ a * q → z * (2 * u) ≤ l * (p + q)
halves h x y u a p q l size z is longer two first second =
    let one = mul-le-mul_left h first in
    let other = mul-le-mul_left h second in
    let whole : l ≡ h * 2 * a = longer ∙ ap (λ k. k * a) two in
    subst (λ k. k * (2 * u) ≤ l * (p + q)) (sym is) (subst (λ k. h * (x + y) * (2 * u) ≤ k * (p + q)) (sym whole) (turn one other))
  where
    turn : h * (x * u) ≤ h * (a * p) → h * (y * u) ≤ h * (a * q) → h * (x + y) * (2 * u) ≤ h * 2 * a * (p + q)
    turn one other = omega (arith, one, other)

pub by_either : (st : State) (nets : List ℕ) (now unit new tried ahead n : ℕ)
    (theirs : Peer → Bool) → IsSound st → 0 < new → 0 < tried →
    new + idle_rounds st true nets ≡ bucket_count true * (64 * 2 ^ 30) →
    tried + idle_rounds st false nets ≡ bucket_count false * (64 * 2 ^ 30) →
    0 < wanted_new st nets → 0 < wanted_tried st nets →
    selecting_lists st false nets now theirs n * (2 * unit)
    ≤ word_lists n
    * (most_of st true nets now (λ r. theirs r.peer) new unit ahead first_factor
    + most_of st false nets now (λ r. theirs r.peer) tried unit ahead first_factor)
by_either st nets now unit new tried ahead zero theirs sound one two first second has also =
    nothing _ (2 * unit) _ (λ i. one_if (is_theirs theirs (select_either st nets [] now (not_zero (wanted_new st nets) has) (not_zero (wanted_tried st nets) also) i)))
by_either st nets now unit new tried ahead (suc n) theirs sound one two first second has also =
    halves (2 ^ 63) (lists st true nets now theirs (2 ^ 64) first_factor n) (lists st false nets now theirs (2 ^ 64) first_factor n) unit (word_lists n) _ _ (word_lists (suc n)) (2 ^ 64) (selecting_lists st false nets now theirs (suc n))
    (by_either_lists st nets now n theirs has also)
    (one_more_word (2 ^ 64) n) refl
    (by_search st true nets now unit new ahead n first_factor theirs sound one first)
    (by_search st false nets now unit tried ahead n first_factor theirs sound two second)

-- with no candidates in the tried table, or for the new one only, a pick is a search of the new table
select_new : (st : State) (new_only : Bool) (nets words : List ℕ) (now : ℕ) → (wanted_new st nets == 0) ≡ false → (new_only || wanted_tried st nets == 0) ≡ true
    → select st new_only nets words now ≡ first_accepted now first_factor (candidates st true nets words)
select_new st new_only nets words now one two i =
    if one i && two i then Nothing
    else first_accepted now first_factor (if two i then candidates st true nets words else if wanted_new st nets == 0 then candidates st false nets words else candidates_of_either st nets words)

pub by_new : (st : State) (new_only : Bool) (nets : List ℕ) (now unit new ahead n : ℕ) (theirs : Peer → Bool) → IsSound st → 0 < new
    → new + idle_rounds st true nets ≡ bucket_count true * (64 * 2 ^ 30) → 0 < wanted_new st nets → (new_only || wanted_tried st nets == 0) ≡ true
    → selecting_lists st new_only nets now theirs n * unit ≤ word_lists n * most_of st true nets now (λ r. theirs r.peer) new unit ahead first_factor
by_new st new_only nets now unit new ahead n theirs sound some whole has only =
    subst (λ k. k * unit ≤ word_lists n * most_of st true nets now (λ r. theirs r.peer) new unit ahead first_factor)
    (sym (λ i. sum_words (2 ^ 64) n (λ ws. one_if (is_theirs theirs (select_new st new_only nets ws now (not_zero (wanted_new st nets) has) only i)))))
    (by_search st true nets now unit new ahead n first_factor theirs sound some whole)

-- with no candidates in the new table, a pick is a search of the tried table
select_tried : (st : State) (nets words : List ℕ) (now : ℕ) → (wanted_new st nets == 0) ≡ true → (wanted_tried st nets == 0) ≡ false
    → select st false nets words now ≡ first_accepted now first_factor (candidates st false nets words)
select_tried st nets words now one two i =
    if one i && (false || two i) then Nothing
    else first_accepted now first_factor (if false || two i then candidates st true nets words else if one i then candidates st false nets words else candidates_of_either st nets words)

pub by_tried : (st : State) (nets : List ℕ) (now unit tried ahead n : ℕ) (theirs : Peer → Bool) → IsSound st → 0 < tried
    → tried + idle_rounds st false nets ≡ bucket_count false * (64 * 2 ^ 30) → wanted_new st nets ≡ 0 → 0 < wanted_tried st nets
    → selecting_lists st false nets now theirs n * unit ≤ word_lists n * most_of st false nets now (λ r. theirs r.peer) tried unit ahead first_factor
by_tried st nets now unit tried ahead n theirs sound some whole none has =
    subst (λ k. k * unit ≤ word_lists n * most_of st false nets now (λ r. theirs r.peer) tried unit ahead first_factor)
    (sym (λ i. sum_words (2 ^ 64) n (λ ws. one_if (is_theirs theirs (select_tried st nets ws now ((Decides-eqb (wanted_new st nets) 0).1 none) (not_zero (wanted_tried st nets) has) i)))))
    (by_search st false nets now unit tried ahead n first_factor theirs sound some whole)
