-- The parts are bounds.
use Rattle.std.proofs.Common.{◌≡◌, ℕ, zero, suc, ◌+◌, ◌-◌, ◌*◌, ◌^◌, ◌≤◌, ◌<◌, min, Bool, true, false, cond, ◌&&◌, ◌||◌, ◌==◌, List, [], ◌∷◌, count_by, map, sum_by, refl, sym, ap, subst, ◌∙◌, arith, inl, inr, if◌then◌else◌}
use Rattle.std.specs.List.{range_with_len}
use Rattle.std.proofs.Math.Nat.{mul-le-mul_left, mul-le-mul_right, le_of_mul-le-mul_left}
use Rattle.std.proofs.lemmas.Bool.{cases_lt}
use Rattle.std.proofs.lemmas.Bool.Decides.{Decides-eqb}
use Rattle.std.proofs.lemmas.List.Sums.{sum_by-cons}
use Rattle.net_addr.specs.NetSet.{all, has}
use Rattle.net_addr.specs.declared.net.Net.{Net}
use Rattle.net_addr.specs.declared.net.Net.TheVariants.{Unroutable, Ipv4, Ipv6, Onion, I2p, Cjdns, Internal}
use Rattle.net_addr.specs.declared.peer.Peer.{Peer}
use Rattle.peer_rec.specs.Rec.{chance, is_tried, network, next_factor}
use Rattle.peer_rec.specs.declared.answers.Picked.TheVariants.{Nothing, Exhausted}
use Rattle.peer_rec.specs.declared.rec.Rec.{Rec}
use Rattle.placing.specs.Places.{tried_bucket, tried_slot}
use Rattle.risk_laws.specs.Classes.{chances, kind_of, kinds_of, starts_for}
use Rattle.risk_laws.specs.Lists.{is_theirs, searching_lists, selecting_lists, sum_words, word_lists}
use Rattle.risk_laws.proofs.Classed.{sum_filter, sum_map}
use Rattle.risk_laws.proofs.EnclosuresOf.{at_least_it}
use Rattle.risk_laws.proofs.ClassesOf.{by_bound, by_refused, by_taken, by_whole, kinds_new, kinds_tried}
use Rattle.risk_laws.proofs.ListsOf.{all_lists_are, by_either_lists, by_few, by_more, by_search, halves, not_zero, one_more_word}
use Rattle.risk_sum.specs.Kinds.{AreKinds, accepting, starts_of}
use Rattle.risk_sum.specs.declared.kinds.Kind.{Kind}
use Rattle.table_laws.specs.Chances.{leading_slots, words_for}
use Rattle.table_laws.specs.Odds.{leading_starts}
use Rattle.table_laws.specs.Searches.{idle_rounds, one_if, refusing_rounds}
use Rattle.table_machine.specs.Picks.{candidates, candidates_of, candidates_of_either, first_accepted, first_factor, is_wanted, select, wanted_new, wanted_tried}
use Rattle.table_machine.specs.Sound.{IsSound}
use Rattle.table_machine.specs.State.{State}
use Rattle.risk_parts.specs.Parts.{bound_in, millionths, share_for, wanted_in}

-- ---- all lists are the most

low_one : (b : Bool) → one_if b ≤ 1
low_one true = omega arith
low_one false = omega arith

sum_low : {X : Type 0} (f g : X → ℕ) (xs : List X) → ((x : X) → f x ≤ g x) → sum_by f xs ≤ sum_by g xs
sum_low f g [] h = omega arith
sum_low f g (x ∷ xs) h = omega (arith, sum_by-cons f x xs, sum_by-cons g x xs, h x, sum_low f g xs h)

words_low : (size n : ℕ) (f g : List ℕ → ℕ) → ((ws : List ℕ) → f ws ≤ g ws) → sum_words size n f ≤ sum_words size n g
words_low size zero f g h = h []
words_low size (suc n) f g h =
    sum_low (λ w. sum_words size n (λ ws. f (w ∷ ws))) (λ w. sum_words size n (λ ws. g (w ∷ ws))) (range_with_len 0 size)
    (λ w. words_low size n (λ ws. f (w ∷ ws)) (λ ws. g (w ∷ ws)) (λ ws. h (w ∷ ws)))

no_more : (st : State) (new_only : Bool) (nets : List ℕ) (now n : ℕ) (theirs : Peer → Bool) → selecting_lists st new_only nets now theirs n ≤ (2 ^ 64) ^ n
no_more st new_only nets now n theirs =
    subst (λ k. selecting_lists st new_only nets now theirs n ≤ k) (all_lists_are n)
    (words_low (2 ^ 64) n (λ ws. one_if (is_theirs theirs (select st new_only nets ws now))) (λ ws. 1) (λ ws. low_one (is_theirs theirs (select st new_only nets ws now))))

-- ---- in parts of a million

below_min : (a w b whole : ℕ) → a ≤ w → a * whole ≤ w * b → a * whole ≤ w * min b whole
below_min a w b whole low few = elim (cases_lt b whole) [
  | inl less ↦ let is : min b whole ≡ b = omega (arith, less) in subst (λ k. a * whole ≤ w * k) (sym is) few
  | inr more ↦ let is : min b whole ≡ whole = omega (arith, more) in subst (λ k. a * whole ≤ w * k) (sym is) (mul-le-mul_right whole low)
]

in_parts : (a w m p whole million : ℕ) → 0 < whole → a * whole ≤ w * m → m * million ≤ whole * p → a * million ≤ w * p
in_parts a w m p whole million some few up =
    le_of_mul-le-mul_left (both (turn a whole million) (mul-le-mul_right million few) (turn_back w m million) (mul-le-mul_left w up) (turn_out w whole p)) some
  where
    turn : (a b c : ℕ) → b * (a * c) ≡ a * b * c
    turn a b c = omega arith

    turn_back : (a b c : ℕ) → a * b * c ≡ a * (b * c)
    turn_back a b c = omega arith

    turn_out : (a b c : ℕ) → a * (b * c) ≡ b * (a * c)
    turn_out a b c = omega arith

    both : {u v x y z t : ℕ} → u ≡ v → v ≤ x → x ≡ y → y ≤ z → z ≡ t → u ≤ t
    both one two three four five = omega (arith, one, two, three, four, five)

pub rounded : (a w b whole : ℕ) → 0 < whole → a ≤ w → a * whole ≤ w * b → a * 10 ^ 6 ≤ w * millionths b whole
rounded a w b whole some low few =
    in_parts a w (min b whole) (millionths b whole) whole (10 ^ 6) some (below_min a w b whole low few) (at_least_it (min b whole * 10 ^ 6) whole some)

pub not_none : (n : ℕ) → (n == 0) ≡ false → 0 < n
not_none zero is = absurd (cc)
not_none (suc n) is = omega arith

none : (n : ℕ) → (n == 0) ≡ true → n ≡ 0
none n is = (Decides-eqb n 0).0 is

nothing_selected : (st : State) (new_only : Bool) (nets : List ℕ) (now n : ℕ) (theirs : Peer → Bool)
    → (wanted_new st nets == 0 && (new_only || wanted_tried st nets == 0)) ≡ true → selecting_lists st new_only nets now theirs n ≡ 0
nothing_selected st new_only nets now n theirs is =
    (λ i. sum_words (2 ^ 64) n (λ ws. one_if (is_theirs theirs (if is i then Nothing else first_accepted now first_factor (candidates_of st new_only nets ws)))))
    ∙ zeros (2 ^ 64) n
  where
    sum_zeros : {X : Type 0} (xs : List X) → sum_by (λ x. 0) xs ≡ 0
    sum_zeros [] = refl
    sum_zeros (x ∷ xs) = omega (arith, sum_by-cons (λ y. 0) x xs, sum_zeros xs)

    zeros : (size n : ℕ) → sum_words size n (λ ws. 0) ≡ 0
    zeros size zero = refl
    zeros size (suc n) = (λ i. sum_by (λ w. zeros size n i) (range_with_len 0 size)) ∙ sum_zeros (range_with_len 0 size)

doubled : (a b : ℕ) → a * (2 * 2 ^ 64) ≤ b → a * 2 ^ 65 ≤ b
doubled a b h = omega (arith, h)

plus_none : (n : ℕ) → n ≡ n + 0
plus_none n = omega arith

none_plus : (n : ℕ) → n ≡ 0 + n
none_plus n = omega arith

few_none : (a w p : ℕ) → a ≡ 0 → a * 10 ^ 6 ≤ w * p
few_none a w p is = let zero_is : a * 10 ^ 6 ≡ 0 = ap (λ k. k * 10 ^ 6) is in omega (arith, zero_is)

-- ---- one table

searches_low : (st : State) (in_new : Bool) (nets : List ℕ) (now factor n : ℕ) (theirs : Peer → Bool) → searching_lists st in_new nets now theirs factor n ≤ word_lists n
searches_low st in_new nets now factor n theirs =
    words_low (2 ^ 64) n (λ ws. one_if (is_theirs theirs (first_accepted now factor (candidates st in_new nets ws)))) (λ ws. 1)
    (λ ws. low_one (is_theirs theirs (first_accepted now factor (candidates st in_new nets ws))))

some_rounds : (n : ℕ) → 0 < n → 0 < n * 2 ^ 30
some_rounds n some = omega (arith, some)

-- the kinds of a table that has records
pub kinds_there : (st : State) (in_new : Bool) (now : ℕ) (test : Rec → Bool) → IsSound st → 0 < wanted_in st in_new → AreKinds (kinds_of st in_new all now test)
kinds_there st true now test sound some = kinds_new st all now test sound some
kinds_there st false now test sound some = kinds_tried st all now test sound some

searched : (st : State) (in_new : Bool) (now n : ℕ) (theirs : Peer → Bool) → IsSound st → 0 < wanted_in st in_new
    → searching_lists st in_new all now theirs first_factor n * 2 ^ 64 ≤ word_lists n * min (bound_in st in_new now theirs) (2 ^ 64)
unfolding bound_in
searched st in_new now n theirs sound some =
    let test : Rec → Bool = λ r. theirs r.peer in
    let busy = starts_of (kinds_of st in_new all now test) * 2 ^ 30 in
    below_min (searching_lists st in_new all now theirs first_factor n) (word_lists n) (bound_in st in_new now theirs) (2 ^ 64) (searches_low st in_new all now first_factor n theirs)
    (subst (λ k. searching_lists st in_new all now theirs first_factor n * 2 ^ 64 ≤ word_lists n * k)
    (by_bound st in_new all now busy (2 ^ 64) 48 first_factor test sound)
    (by_search st in_new all now (2 ^ 64) busy 48 n first_factor theirs sound (some_rounds _ (kinds_there st in_new now test sound some).some)
    (by_whole st in_new all now test sound)))

-- ---- a table without records

-- a record of any network is in the set of all
pub wanted_all : (r : Rec) → is_wanted all r ≡ true
wanted_all r = by (network r)
  where
    by : (net : Net) → has all net ≡ true
    by Unroutable = refl
    by Ipv4 = refl
    by Ipv6 = refl
    by Onion = refl
    by I2p = refl
    by Cjdns = refl
    by Internal = refl

-- records of which none is tried
none_tried : (p : Rec → Bool) (g : Rec → ℕ) (recs : List Rec) → count_by (λ r. is_tried r && is_wanted all r) recs ≡ 0 → sum_by (λ r. cond (p r) (if is_tried r then g r else 0) 0) recs ≡ 0
none_tried p g [] few = refl
none_tried p g (r ∷ recs) few =
    by (is_tried r) refl (sum_by-cons (λ q. cond (is_tried q && is_wanted all q) 1 0) r recs) (sum_by-cons (λ q. cond (p q) (if is_tried q then g q else 0) 0) r recs) (none_tried p g recs)
  where
    same_either : (b : Bool) (n : ℕ) → cond b n n ≡ n
    same_either true n = refl
    same_either false n = refl

    by : (t : Bool) → is_tried r ≡ t → count_by (λ q. is_tried q && is_wanted all q) (r ∷ recs) ≡ cond (is_tried r && is_wanted all r) 1 0 + count_by (λ q. is_tried q && is_wanted all q) recs
        → sum_by (λ q. cond (p q) (if is_tried q then g q else 0) 0) (r ∷ recs) ≡ cond (p r) (if is_tried r then g r else 0) 0 + sum_by (λ q. cond (p q) (if is_tried q then g q else 0) 0) recs
        → (count_by (λ q. is_tried q && is_wanted all q) recs ≡ 0 → sum_by (λ q. cond (p q) (if is_tried q then g q else 0) 0) recs ≡ 0)
        → sum_by (λ q. cond (p q) (if is_tried q then g q else 0) 0) (r ∷ recs) ≡ 0
    by true is one two more =
        let here : one_if (is_tried r && is_wanted all r) ≡ 1 = λ i. one_if (is i && wanted_all r i) in
        absurd (omega (arith, one, here, few))
    by false is one two more =
        let here : cond (p r) (if is_tried r then g r else 0) 0 ≡ 0 = (λ i. cond (p r) (if is i then g r else 0) 0) ∙ same_either (p r) 0 in
        let rest = more (omega (arith, one, few)) in
        omega (arith, two, here, rest)

no_product : (s d : ℕ) → 0 < d → s * d ≡ 0 → s ≡ 0
no_product zero d some is = refl
no_product (suc s) d some is = absurd (omega (arith, some, is))

zero_times : (n : ℕ) → 0 * n ≡ 0
zero_times n = omega arith

sum_none : {X : Type 0} (xs : List X) → sum_by (λ x. 0) xs ≡ 0
sum_none [] = refl
sum_none (x ∷ xs) = omega (arith, sum_by-cons (λ y. 0) x xs, sum_none xs)

module _ (st : State) (now : ℕ) (theirs : Peer → Bool) (sound : IsSound st) (empty : wanted_tried st all ≡ 0) where
  no_starts : (test : Rec → Bool) (c : ℕ) → starts_for st false all now test c ≡ 0
  no_starts test c =
      sum_filter (leading_starts st false all) (λ r. test r && is_wanted all r && chance r now == c) st.records
      ∙ none_tried (λ r. test r && is_wanted all r && chance r now == c)
      (λ r. leading_slots st false all (tried_bucket st.places r.peer) (tried_slot st.places r.peer (tried_bucket st.places r.peer))) st.records empty

  no_words : (factor : ℕ) → words_for st false all now factor (λ r. theirs r.peer) ≡ 0
  no_words factor =
      by_taken st false all now factor (λ r. theirs r.peer) sound
      ∙ sum_map (λ (k : Kind). k.theirs * accepting k.chance factor) (kind_of st false all now (λ r. theirs r.peer)) chances
      ∙ (λ i. sum_by (λ c. no_starts (λ r. theirs r.peer) c i * accepting c factor) chances)
      ∙ (λ i. sum_by (λ c. zero_times (accepting c factor) i) chances) ∙ sum_none chances

  no_refusals : (factor : ℕ) → refusing_rounds st false all now factor ≡ 0
  no_refusals factor =
      by_refused st false all now factor (λ r. theirs r.peer) sound
      ∙ sum_map (λ (k : Kind). k.all * (2 ^ 30 - accepting k.chance factor)) (kind_of st false all now (λ r. theirs r.peer)) chances
      ∙ (λ i. sum_by (λ c. no_starts (λ r. true) c i * (2 ^ 30 - accepting c factor)) chances)
      ∙ (λ i. sum_by (λ c. zero_times (2 ^ 30 - accepting c factor) i) chances) ∙ sum_none chances

  abbrev found_in : ℕ → ℕ
  found_in n = searching_lists st false all now theirs first_factor n

  three_more : (n : ℕ) → found_in (n + 1) ≡ 0 → found_in (n + 3) ≡ 0
  three_more n before =
      no_product (found_in (n + 3)) (256 * (64 * 2 ^ 30)) (omega arith)
      (by_more st false all now first_factor n theirs
      ∙ (λ i. 2 ^ 64 * 2 ^ 64 * (2 ^ 64 * (no_words first_factor i * word_lists n + no_refusals first_factor i * searching_lists st false all now theirs (next_factor first_factor) n) + idle_rounds st false all * before i))
      ∙ nothing (2 ^ 64) (word_lists n) (searching_lists st false all now theirs (next_factor first_factor) n) (idle_rounds st false all))
    where
      nothing : (k w l i : ℕ) → k * k * (k * (0 * w + 0 * l) + i * 0) ≡ 0
      nothing k w l i = omega arith

  pub none_found : (n : ℕ) → (found_in n ≡ 0) × (found_in (n + 1) ≡ 0) × (found_in (n + 2) ≡ 0)
  none_found zero = (by_few st false all now first_factor 0 theirs (omega arith), by_few st false all now first_factor 1 theirs (omega arith), by_few st false all now first_factor 2 theirs (omega arith))
  none_found (suc n) =
      let before = none_found n in
      (subst (λ k. found_in k ≡ 0) (one n) before.1, subst (λ k. found_in k ≡ 0) (two n) before.2, subst (λ k. found_in k ≡ 0) (three n) (three_more n before.1))
    where
      one : (n : ℕ) → n + 1 ≡ suc n
      one n = omega arith

      two : (n : ℕ) → n + 2 ≡ suc n + 1
      two n = omega arith

      three : (n : ℕ) → n + 3 ≡ suc n + 2
      three n = omega arith

module _ (st : State) (now : ℕ) (theirs : Peer → Bool) (sound : IsSound st) where
  abbrev new_share : ℕ
  new_share = min (bound_in st true now theirs) (2 ^ 64)

  abbrev tried_share : ℕ
  tried_share = min (bound_in st false now theirs) (2 ^ 64)

  abbrev picked : Bool → ℕ → ℕ
  picked new_only n = selecting_lists st new_only all now theirs n

  -- a pick that is a search of one table
  abbrev IsSearch : Bool → Bool → Type 0
  IsSearch new_only in_new = (words : List ℕ) → select st new_only all words now ≡ first_accepted now first_factor (candidates st in_new all words)

  by_one : (new_only in_new : Bool) (n : ℕ) → IsSearch new_only in_new → 0 < wanted_in st in_new
      → picked new_only n * 2 ^ 64 ≤ (2 ^ 64) ^ n * min (bound_in st in_new now theirs) (2 ^ 64)
  by_one new_only in_new n is some =
      subst (λ k. k * 2 ^ 64 ≤ (2 ^ 64) ^ n * min (bound_in st in_new now theirs) (2 ^ 64)) (sym (λ i. sum_words (2 ^ 64) n (λ ws. one_if (is_theirs theirs (is ws i)))))
      (subst (λ k. searching_lists st in_new all now theirs first_factor n * 2 ^ 64 ≤ k * min (bound_in st in_new now theirs) (2 ^ 64)) (all_lists_are n)
      (searched st in_new now n theirs sound some))

  is_new : (new_only : Bool) → (wanted_new st all == 0) ≡ false → (new_only || wanted_tried st all == 0) ≡ true → IsSearch new_only true
  is_new new_only one two words i =
      if one i && two i then Nothing
      else first_accepted now first_factor (if two i then candidates st true all words else if wanted_new st all == 0 then candidates st false all words else candidates_of_either st all words)

  is_old : (wanted_new st all == 0) ≡ true → (wanted_tried st all == 0) ≡ false → IsSearch false false
  is_old one two words i =
      if one i && (false || two i) then Nothing
      else first_accepted now first_factor (if false || two i then candidates st true all words else if one i then candidates st false all words else candidates_of_either st all words)

  by_two : (n : ℕ) → 0 < wanted_new st all → 0 < wanted_tried st all → picked false n * (2 * 2 ^ 64) ≤ (2 ^ 64) ^ n * (new_share + tried_share)
  by_two zero has also = absent (picked false 0) _ (few_lists (sound_select has also))
    where
      sound_select : 0 < wanted_new st all → 0 < wanted_tried st all → select st false all [] now ≡ Exhausted
      sound_select has also = λ i. if not_zero (wanted_new st all) has i && (false || not_zero (wanted_tried st all) also i) then Nothing
          else first_accepted now first_factor (if false || not_zero (wanted_tried st all) also i then candidates st true all [] else if not_zero (wanted_new st all) has i then candidates st false all [] else [])

      few_lists : select st false all [] now ≡ Exhausted → picked false 0 ≡ 0
      few_lists is = λ i. one_if (is_theirs theirs (is i))

      absent : (a b : ℕ) → a ≡ 0 → a * (2 * 2 ^ 64) ≤ b
      absent a b is = let zero_is : a * (2 * 2 ^ 64) ≡ 0 = ap (λ k. k * (2 * 2 ^ 64)) is in omega (arith, zero_is)
  by_two (suc n) has also =
      subst (λ k. picked false (suc n) * (2 * 2 ^ 64) ≤ k * (new_share + tried_share)) (all_lists_are (suc n))
      (halves (2 ^ 63) (searching_lists st true all now theirs first_factor n) (searching_lists st false all now theirs first_factor n) (2 ^ 64) (word_lists n) new_share tried_share (word_lists (suc n)) (2 ^ 64) (picked false (suc n))
      (by_either_lists st all now n theirs has also) (one_more_word (2 ^ 64) n) refl
      (searched st true now n theirs sound has) (searched st false now n theirs sound also))

  -- of all picks, with both tables or the one that has records
  pub by_share : (n : ℕ) → picked false n * (if wanted_new st all == 0 || wanted_tried st all == 0 then 2 ^ 64 else 2 ^ 65)
      ≤ (2 ^ 64) ^ n * (share_for st true now theirs + share_for st false now theirs)
  by_share n = cases (wanted_new st all == 0) refl (wanted_tried st all == 0) refl
    where
      absent : (a w b : ℕ) → a ≡ 0 → a * w ≤ b
      absent a w b is = let zero_is : a * w ≡ 0 * w = ap (λ k. k * w) is in omega (arith, zero_is)

      cases : (a : Bool) → (wanted_new st all == 0) ≡ a → (b : Bool) → (wanted_tried st all == 0) ≡ b
          → picked false n * (if a || b then 2 ^ 64 else 2 ^ 65) ≤ (2 ^ 64) ^ n * ((if a then 0 else new_share) + (if b then 0 else tried_share))
      cases true one true two =
          absent (picked false n) (2 ^ 64) _ (nothing_selected st false all now n theirs (λ i. one i && (false || two i)))
      cases true one false two =
          subst (λ k. picked false n * 2 ^ 64 ≤ (2 ^ 64) ^ n * k) (none_plus tried_share)
          (by_one false false n (is_old one two) (not_none (wanted_tried st all) two))
      cases false one true two =
          subst (λ k. picked false n * 2 ^ 64 ≤ (2 ^ 64) ^ n * k) (plus_none new_share)
          (by_one false true n (is_new false one two) (not_none (wanted_new st all) one))
      cases false one false two =
          doubled (picked false n) ((2 ^ 64) ^ n * (new_share + tried_share)) (by_two n (not_none (wanted_new st all) one) (not_none (wanted_tried st all) two))

  pub by_picks : (n : ℕ) → picked false n * 10 ^ 6
      ≤ (2 ^ 64) ^ n * millionths (share_for st true now theirs + share_for st false now theirs) (if wanted_new st all == 0 || wanted_tried st all == 0 then 2 ^ 64 else 2 ^ 65)
  by_picks n =
      rounded (picked false n) ((2 ^ 64) ^ n) (share_for st true now theirs + share_for st false now theirs) _ (some (wanted_new st all == 0 || wanted_tried st all == 0))
      (no_more st false all now n theirs) (by_share n)
    where
      some : (b : Bool) → 0 < (if b then 2 ^ 64 else 2 ^ 65)
      some true = omega arith
      some false = omega arith

  pub by_new : (n : ℕ) → picked true n * 10 ^ 6 ≤ (2 ^ 64) ^ n * millionths (share_for st true now theirs) (2 ^ 64)
  by_new n = cases (wanted_new st all == 0) refl
    where
      cases : (a : Bool) → (wanted_new st all == 0) ≡ a → picked true n * 10 ^ 6 ≤ (2 ^ 64) ^ n * millionths (if a then 0 else new_share) (2 ^ 64)
      cases true one = few_none (picked true n) ((2 ^ 64) ^ n) _ (nothing_selected st true all now n theirs (λ i. one i && true))
      cases false one =
          rounded (picked true n) ((2 ^ 64) ^ n) new_share (2 ^ 64) (omega arith) (no_more st true all now n theirs)
          (by_one true true n (is_new true one refl) (not_none (wanted_new st all) one))

  pub by_tried : (n : ℕ) → searching_lists st false all now theirs first_factor n * 10 ^ 6 ≤ (2 ^ 64) ^ n * millionths (share_for st false now theirs) (2 ^ 64)
  by_tried n = cases (wanted_tried st all == 0) refl
    where
      low : searching_lists st false all now theirs first_factor n ≤ (2 ^ 64) ^ n
      low = subst (λ k. searching_lists st false all now theirs first_factor n ≤ k) (all_lists_are n) (searches_low st false all now first_factor n theirs)

      cases : (a : Bool) → (wanted_tried st all == 0) ≡ a → searching_lists st false all now theirs first_factor n * 10 ^ 6 ≤ (2 ^ 64) ^ n * millionths (if a then 0 else tried_share) (2 ^ 64)
      cases true one = few_none (searching_lists st false all now theirs first_factor n) ((2 ^ 64) ^ n) _ (none_found st now theirs sound (none (wanted_tried st all) one) n).0
      cases false one =
          rounded (searching_lists st false all now theirs first_factor n) ((2 ^ 64) ^ n) tried_share (2 ^ 64) (omega arith) low
          (subst (λ k. searching_lists st false all now theirs first_factor n * 2 ^ 64 ≤ k * tried_share) (all_lists_are n)
          (searched st false now n theirs sound (not_none (wanted_tried st all) one)))
