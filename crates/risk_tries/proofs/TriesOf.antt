-- Lists of tries that take peers of a set alone are at most the product.
use Rattle.std.proofs.Common.{◌≡◌, ℕ, zero, suc, ◌+◌, ◌-◌, ◌*◌, ◌≤◌, ◌<◌, Bool, true, false, not, ◌&&◌, ◌||◌, List, [], ◌∷◌, length, map, sum_by, ◌⊎◌, refl, sym, ap, subst, ◌∙◌, inl, inr, arith, if◌then◌else◌}
use Rattle.std.specs.Prelude.{bytes_eq}
use Rattle.std.specs.List.{list_any}
use Rattle.std.proofs.Math.Nat.{mul-le-mul_left, mul-le-mul_right, le_of_mul-le-mul_left}
use Rattle.std.proofs.lemmas.Bool.{cases_lt}
use Rattle.std.proofs.lemmas.List.{length-append}
use Rattle.std.proofs.lemmas.List.Folds.{list_any-append}
use Rattle.std.proofs.lemmas.List.Sums.{sum_by-append, sum_by-cons}
use Rattle.net_addr.specs.NetSet.{all}
use Rattle.net_addr.specs.declared.peer.Peer.{Peer}
use Rattle.peer_open.specs.Groups.{Outbound, outbound, with_peer}
use Rattle.peer_rec.specs.declared.answers.Picked.{Picked}
use Rattle.peer_rec.specs.declared.answers.Picked.TheVariants.{One, Nothing, Exhausted}
use Rattle.placing.specs.Places.{group}
use Rattle.risk_laws.specs.Lists.{is_theirs, sum_words}
use Rattle.risk_laws.proofs.EnclosuresOf.{at_least_it}
use Rattle.risk_sum.specs.Kinds.{rounded_up}
use Rattle.table_laws.specs.Searches.{one_if}
use Rattle.table_machine.specs.Picks.{select}
use Rattle.table_machine.specs.State.{State}
use Rattle.risk_tries.specs.TenBound.{least_sum, part_from}
use Rattle.risk_tries.specs.Tries.{after_pick, is_same_group, sum_tries, takes_theirs}
use Rattle.risk_tries.proofs.Known.{IsKnown, picked_known}
use Rattle.risk_tries.proofs.Least.{has, less_least, less_share, still_has, without}
use Rattle.risk_tries.proofs.Sums.{one_more_try, tries_low, tries_nothing, words_low, words_nothing, words_two}

one_low : (b : Bool) → one_if b ≤ 1
one_low true = omega arith
one_low false = omega arith

up : {a b c : ℕ} → a ≤ b → b ≤ c → a ≤ c
up one two = omega (arith, one, two)

same_at_most : (a b : ℕ) → a ≡ b → a ≤ b
same_at_most a b is = omega (arith, is)

-- of those that are not in open groups, so many are theirs
fits : (s t w x total whole low : ℕ) → s * whole ≤ w * x → t * whole ≤ w * (total - x) → low ≤ x → x ≤ total → total < whole
    → s * (total - low) + t * (whole - low) ≤ w * (total - low)
fits s t w x total whole low one two least most less =
    by low (x - low) (total - x) (whole - total) x total whole (omega (arith, least)) (omega (arith, most)) (omega (arith, less)) one two (omega (arith, less))
  where
    by : (l y z r x total whole : ℕ) → x ≡ l + y → total ≡ x + z → whole ≡ total + r → s * whole ≤ w * x → t * whole ≤ w * (total - x) → 0 < whole
        → s * (total - l) + t * (whole - l) ≤ w * (total - l)
    by l y z r x total whole isx ist isw one two some =
        let a : total - l ≡ y + z = omega (arith, isx, ist) in
        let b : whole - l ≡ y + z + r = omega (arith, isx, ist, isw) in
        let c : total - x ≡ z = omega (arith, ist) in
        subst (λ k. s * k + t * (whole - l) ≤ w * k) (sym a)
        (subst (λ k. s * (y + z) + t * k ≤ w * (y + z)) (sym b)
        (le_of_mul-le-mul_left
        (turn (mul-le-mul_right (y + z) one) (mul-le-mul_right (y + z + r) (subst (λ k. t * whole ≤ w * k) c two)) (mul-le-mul_left w (inner isx ist isw)))
        some))
      where
        inner : x ≡ l + y → total ≡ x + z → whole ≡ total + r → x * (y + z) + z * (y + z + r) ≤ whole * (y + z)
        inner isx ist isw =
            let is : whole ≡ l + y + z + r = omega (arith, isx, ist, isw) in
            subst (λ k. k * (y + z) + z * (y + z + r) ≤ whole * (y + z)) (sym isx)
            (subst (λ k. (l + y) * (y + z) + z * (y + z + r) ≤ k * (y + z)) (sym is) (omega arith))

        turn : s * whole * (y + z) ≤ w * x * (y + z) → t * whole * (y + z + r) ≤ w * z * (y + z + r) → w * (x * (y + z) + z * (y + z + r)) ≤ w * (whole * (y + z))
            → whole * (s * (y + z) + t * (y + z + r)) ≤ whole * (w * (y + z))
        turn one two three = omega (arith, one, two, three)

module _ (st : State) (now : ℕ) (theirs : Peer → Bool) (size n : ℕ) where
  abbrev key : Peer → List ℕ
  key peer = group st.places peer.addr

  abbrev pick : List ℕ → Picked
  pick words = select st false all words now

  abbrev words : ℕ
  words = sum_words size n (λ ws. 1)

  -- how many lists of words pick a peer of a set
  abbrev picking : (Peer → Bool) → ℕ
  picking set = sum_words size n (λ ws. one_if (is_theirs set (pick ws)))

  abbrev lists : ℕ → List Outbound → ℕ → ℕ
  lists count open_peers m = sum_tries size n m (λ tries. one_if (takes_theirs st now theirs count open_peers tries))

  abbrev all_lists : ℕ → ℕ
  all_lists m = sum_tries size n m (λ tries. 1)

  pub lists_low : (count : ℕ) (open_peers : List Outbound) (m : ℕ) → lists count open_peers m ≤ all_lists m
  lists_low count open_peers m =
      tries_low size n m (λ tries. one_if (takes_theirs st now theirs count open_peers tries)) (λ tries. 1) (λ tries. one_low (takes_theirs st now theirs count open_peers tries))

  -- which pick a peer of one of some groups
  abbrev any_of : {X : Type 0} → (X → List ℕ) → List X → Peer → Bool
  any_of of xs peer = list_any (λ x. bytes_eq (of x) (key peer)) xs

  picking_low : (set more : Peer → Bool) → ((ws : List ℕ) → one_if (is_theirs set (pick ws)) ≤ one_if (is_theirs more (pick ws))) → picking set ≤ picking more
  picking_low set more each = words_low size n (λ ws. one_if (is_theirs set (pick ws))) (λ ws. one_if (is_theirs more (pick ws))) each

  picking_words : (set : Peer → Bool) → picking set ≤ words
  picking_words set = words_low size n (λ ws. one_if (is_theirs set (pick ws))) (λ ws. 1) (λ ws. one_low (is_theirs set (pick ws)))

  module _ (share : List ℕ → ℕ) (whole : ℕ) (few : (g : List ℕ) → picking (λ peer. bytes_eq g (key peer)) * whole ≤ words * share g) where
    any_few : {X : Type 0} (of : X → List ℕ) (xs : List X) → picking (any_of of xs) * whole ≤ words * sum_by (λ x. share (of x)) xs
    any_few of [] = nothing (picking (λ peer. false)) whole words ((λ i. sum_words size n (λ ws. never (pick ws) i)) ∙ words_nothing size n)
      where
        never : (q : Picked) → one_if (is_theirs (λ peer. false) q) ≡ 0
        never (One peer last_try) = refl
        never Nothing = refl
        never Exhausted = refl

        nothing : (a b c : ℕ) → a ≡ 0 → a * b ≤ c * 0
        nothing a b c is = let h : a * b ≡ 0 * b = ap (λ k. k * b) is in omega (arith, h)
    any_few {X} of (x ∷ xs) =
        joined (picking (any_of of (x ∷ xs))) (picking (λ peer. bytes_eq (of x) (key peer))) (picking (any_of of xs)) whole words (share (of x)) (sum_by (λ y. share (of y)) xs) (sum_by (λ y. share (of y)) (x ∷ xs))
        (words_two size n (λ ws. one_if (is_theirs (any_of of (x ∷ xs)) (pick ws))) (λ ws. one_if (is_theirs (λ peer. bytes_eq (of x) (key peer)) (pick ws))) (λ ws. one_if (is_theirs (any_of of xs) (pick ws))) 1 1 1
        (λ ws. by (pick ws)))
        (few (of x)) (any_few of xs) (sum_by-cons (λ (y : X). share (of y)) x xs)
      where
        either : (a b : Bool) → one_if (a || b) * 1 ≤ one_if a * 1 + one_if b * 1
        either true b = omega (arith, one_low b)
        either false b = omega (arith, one_low b)

        by : (q : Picked) → one_if (is_theirs (any_of of (x ∷ xs)) q) * 1 ≤ one_if (is_theirs (λ peer. bytes_eq (of x) (key peer)) q) * 1 + one_if (is_theirs (any_of of xs) q) * 1
        by (One peer last_try) = either (bytes_eq (of x) (key peer)) (any_of of xs peer)
        by Nothing = omega arith
        by Exhausted = omega arith

        joined : (p q r w n a b c : ℕ) → p * 1 ≤ q * 1 + r * 1 → q * w ≤ n * a → r * w ≤ n * b → c ≡ a + b → p * w ≤ n * c
        joined p q r w n a b c one two three is =
            let low : p ≤ q + r = omega (arith, one) in
            let more = mul-le-mul_right w low in
            subst (λ k. p * w ≤ n * k) (sym is) (omega (arith, more, two, three))

    module _ (groups : List (List ℕ)) (less : sum_by share groups < whole) where
      abbrev total : ℕ
      total = sum_by share groups

      abbrev shares : List ℕ
      shares = map share groups

      abbrev open_share : List Outbound → ℕ
      open_share open_peers = sum_by (λ o. share o.group) open_peers

      abbrev least : ℕ → ℕ
      least opened = least_sum total opened shares

      abbrev part : ℕ → ℕ → ℕ → ℕ
      part opened count left = part_from shares total whole opened count left

      -- the groups that are left, as connections are opened
      record Left (open_peers : List Outbound) (left : List (List ℕ)) : Type 0 where
        pub sum : sum_by share left + open_share open_peers ≤ total
        pub low : (i : ℕ) → least (length open_peers + i) ≤ open_share open_peers + least_sum total i (map share left)
        pub cover : (peer : Peer) → IsKnown st all peer → theirs peer ≡ true → is_same_group st open_peers peer ≡ false → has left (key peer) ≡ true

      at_first : ((peer : Peer) → IsKnown st all peer → theirs peer ≡ true → has groups (key peer) ≡ true) → Left [] groups
      at_first cover = record {
        sum = end total;
        low = λ i. start (least (0 + i)) (least i) (ap least (none_plus i));
        cover = λ peer known own away. cover peer known own;
      }
        where
          end : (a : ℕ) → a + 0 ≤ a
          end a = omega arith

          none_plus : (i : ℕ) → 0 + i ≡ i
          none_plus i = omega arith

          start : (a b : ℕ) → a ≡ b → a ≤ 0 + b
          start a b is = omega (arith, is)

      open_more : (peer : Peer) (open_peers : List Outbound) (left : List (List ℕ)) → Left open_peers left → has left (key peer) ≡ true
          → Left (with_peer peer (key peer) open_peers) (without (key peer) left)
      open_more peer open_peers left h there =
          let own = outbound peer (key peer) in
          let sums = sum_by-append (λ (o : Outbound). share o.group) open_peers (own ∷ []) ∙ ap (λ k. open_share open_peers + k) (sum_by-cons (λ (o : Outbound). share o.group) own []) in
          record {
            sum = summed (sum_by share (without (key peer) left)) (share (key peer)) (sum_by share left) (open_share open_peers) (open_share (with_peer peer (key peer) open_peers)) total sums
                (less_share share (key peer) left there) h.sum;
            low = λ i. subst (λ k. least k ≤ open_share (with_peer peer (key peer) open_peers) + least_sum total i (map share (without (key peer) left))) (longer i)
                (lower (least (length open_peers + suc i)) (open_share open_peers) (least_sum total (suc i) (map share left)) (share (key peer)) (least_sum total i (map share (without (key peer) left))) (open_share (with_peer peer (key peer) open_peers))
                sums (h.low (suc i)) (less_least share total i (key peer) left there));
            cover = λ q known own apart. let parts = neither (is_same_group st open_peers q) (bytes_eq (key peer) (key q)) (sym (list_any-append (λ (o : Outbound). bytes_eq o.group (key q)) open_peers (outbound peer (key peer) ∷ [])) ∙ apart) in
                still_has (key peer) (key q) left (h.cover q known own parts.0) parts.1;
          }
        where
          summed : (a b c x y t : ℕ) → y ≡ x + (b + 0) → a + b ≤ c → c + x ≤ t → a + y ≤ t
          summed a b c x y t is one two = omega (arith, is, one, two)

          lower : (a x b c d y : ℕ) → y ≡ x + (c + 0) → a ≤ x + b → b ≤ c + d → a ≤ y + d
          lower a x b c d y is one two = omega (arith, is, one, two)

          longer : (i : ℕ) → length open_peers + suc i ≡ length (with_peer peer (key peer) open_peers) + i
          longer i = let more = length-append open_peers (outbound peer (key peer) ∷ []) in omega (arith, more)

          neither : (a b : Bool) → (a || (b || false)) ≡ false → (a ≡ false) × (b ≡ false)
          neither true b is = absurd (cc)
          neither false true is = absurd (cc)
          neither false false is = (refl, refl)

      -- a step of the product
      abbrev rest_of : ℕ → ℕ
      rest_of opened = total - least opened

      abbrev room_of : ℕ → ℕ
      room_of opened = whole - least opened

      step : (all s t w q a b rest left : ℕ) → q * (left * a) ≤ s * (all * rest * a) + t * (all * rest * b) → s * a + t * b ≤ w * a → 0 < a → q * left ≤ w * all * rest
      step all s t w q a b rest left one two some =
          let more = mul-le-mul_left (all * rest) two in
          le_of_mul-le-mul_left (turn one more) some
        where
          turn : q * (left * a) ≤ s * (all * rest * a) + t * (all * rest * b) → all * rest * (s * a + t * b) ≤ all * rest * (w * a) → a * (q * left) ≤ a * (w * all * rest)
          turn one two = omega (arith, one, two)

      -- without a group that is left, no pick is taken
      last_step : (all s t w q b rest left : ℕ) → q * left ≤ s * (all * rest) + t * (all * left) → s * 0 + t * b ≤ w * 0 → 0 < b → s ≤ w → q * left ≤ w * all * rest
      last_step all s t w q b rest left one two some few = by t refl
        where
          by : (k : ℕ) → t ≡ k → q * left ≤ w * all * rest
          by zero is =
              let none : t * (all * left) ≡ 0 * (all * left) = ap (λ k. k * (all * left)) is in
              let more = mul-le-mul_right (all * rest) few in
              omega (arith, one, none, more)
          by (suc k) is =
              let grows : t * b ≡ suc k * b = ap (λ k. k * b) is in
              absurd (omega (arith, two, grows, some))

      abbrev out : List Outbound → Peer → Bool
      out open_peers peer = theirs peer && not (is_same_group st open_peers peer)

      -- what the lists of tries after a first one are worth, by its pick
      abbrev inner : ℕ → List Outbound → ℕ → Picked → ℕ
      inner count open_peers m q =
          sum_tries size n m (λ tries. one_if (after_pick q (is_same_group st open_peers) (takes_theirs st now theirs (suc count) open_peers tries)
          (λ peer. theirs peer && takes_theirs st now theirs count (with_peer peer (key peer) open_peers) tries)))

      by_pick : (count : ℕ) (open_peers : List Outbound) (m k u v : ℕ)
          → lists (suc count) open_peers m * k ≤ u
          → ((peer : Peer) → IsKnown st all peer → theirs peer ≡ true → is_same_group st open_peers peer ≡ false → lists count (with_peer peer (key peer) open_peers) m * k ≤ v)
          → sum_tries size n (suc m) (λ tries. one_if (takes_theirs st now theirs (suc count) open_peers tries)) * k
          ≤ picking (is_same_group st open_peers) * u + picking (out open_peers) * v
      by_pick count open_peers m k u v next more =
          words_two size n (λ ws. inner count open_peers m (pick ws)) (λ ws. one_if (is_theirs (is_same_group st open_peers) (pick ws))) (λ ws. one_if (is_theirs (out open_peers) (pick ws))) k u v
          (λ ws. by ws (pick ws) refl)
        where
          nothing : (a b : ℕ) → a ≡ 0 → a * k ≤ b
          nothing a b is = let h : a * k ≡ 0 * k = ap (λ z. z * k) is in omega (arith, h)

          again : (a b c : ℕ) → a ≤ b → a ≤ 1 * b + c
          again a b c h = omega (arith, h)

          first : (a b c : ℕ) → a ≤ c → a ≤ 0 * b + 1 * c
          first a b c h = omega (arith, h)

          by_peer : (peer : Peer) (last_try : ℕ) → IsKnown st all peer → (b : Bool) → is_same_group st open_peers peer ≡ b → (c : Bool) → theirs peer ≡ c
              → sum_tries size n m (λ tries. one_if (if b then takes_theirs st now theirs (suc count) open_peers tries
              else (c && takes_theirs st now theirs count (with_peer peer (key peer) open_peers) tries))) * k
              ≤ one_if b * u + one_if (c && not b) * v
          by_peer peer last_try known true same c own = again (lists (suc count) open_peers m * k) u (one_if (c && false) * v) next
          by_peer peer last_try known false same true own = first (lists count (with_peer peer (key peer) open_peers) m * k) u v (more peer known own same)
          by_peer peer last_try known false same false own = nothing _ _ (tries_nothing size n m)

          by : (ws : List ℕ) (q : Picked) → pick ws ≡ q → inner count open_peers m q * k ≤ one_if (is_theirs (is_same_group st open_peers) q) * u + one_if (is_theirs (out open_peers) q) * v
          by ws (One peer last_try) is =
              by_peer peer last_try (picked_known st all false ws now peer last_try is) (is_same_group st open_peers peer) refl (theirs peer) refl
          by ws Nothing is = nothing _ _ (tries_nothing size n m)
          by ws Exhausted is = nothing _ _ (tries_nothing size n m)

      -- a pick that is taken is in a group that is left
      out_low : (open_peers : List Outbound) (left : List (List ℕ)) → Left open_peers left → picking (out open_peers) ≤ picking (any_of (λ g. g) left)
      out_low open_peers left h = picking_low (out open_peers) (any_of (λ g. g) left) (λ ws. by ws (pick ws) refl)
        where
          at_least : (b : Bool) → b ≡ true → 1 ≤ one_if b
          at_least true is = omega arith
          at_least false is = absurd (cc)

          by_peer : (peer : Peer) → IsKnown st all peer → (b : Bool) → is_same_group st open_peers peer ≡ b → (c : Bool) → theirs peer ≡ c
              → one_if (c && not b) ≤ one_if (has left (key peer))
          by_peer peer known b same false own = omega arith
          by_peer peer known true same true own = omega arith
          by_peer peer known false same true own = at_least (has left (key peer)) (h.cover peer known own same)

          by : (ws : List ℕ) (q : Picked) → pick ws ≡ q → one_if (is_theirs (out open_peers) q) ≤ one_if (is_theirs (any_of (λ g. g) left) q)
          by ws (One peer last_try) is = by_peer peer (picked_known st all false ws now peer last_try is) (is_same_group st open_peers peer) refl (theirs peer) refl
          by ws Nothing is = omega arith
          by ws Exhausted is = omega arith

      least_low : (open_peers : List Outbound) (left : List (List ℕ)) → Left open_peers left → least (length open_peers) ≤ open_share open_peers
      least_low open_peers left h = by (least (length open_peers)) (ap least (plus_none (length open_peers))) (h.low 0)
        where
          plus_none : (a : ℕ) → a + 0 ≡ a
          plus_none a = omega arith

          by : (b : ℕ) → least (length open_peers + 0) ≡ b → least (length open_peers + 0) ≤ open_share open_peers + 0 → b ≤ open_share open_peers
          by b is h = omega (arith, is, h)

      fit : (open_peers : List Outbound) (left : List (List ℕ)) → Left open_peers left
          → picking (is_same_group st open_peers) * rest_of (length open_peers) + picking (out open_peers) * room_of (length open_peers) ≤ words * rest_of (length open_peers)
      fit open_peers left h =
          fits (picking (is_same_group st open_peers)) (picking (out open_peers)) words (open_share open_peers) total whole (least (length open_peers))
          (any_few (λ (o : Outbound). o.group) open_peers)
          (up (mul-le-mul_right whole (out_low open_peers left h)) (up (any_few (λ g. g) left) (mul-le-mul_left words (others (sum_by share left) (open_share open_peers) total h.sum))))
          (least_low open_peers left h) (most (sum_by share left) (open_share open_peers) total h.sum) less
        where
          others : (a b c : ℕ) → a + b ≤ c → a ≤ c - b
          others a b c h = omega (arith, h)

          most : (a b c : ℕ) → a + b ≤ c → b ≤ c
          most a b c h = omega (arith, h)

      some_room : (open_peers : List Outbound) (left : List (List ℕ)) → Left open_peers left → 0 < room_of (length open_peers)
      some_room open_peers left h =
          by (least (length open_peers)) (open_share open_peers) (sum_by share left) total whole (least_low open_peers left h) h.sum less
        where
          by : (a b c t w : ℕ) → a ≤ b → c + b ≤ t → t < w → 0 < w - a
          by a b c t w one two three = omega (arith, one, two, three)

      -- one try more
      one_more : (m count left : ℕ) (open_peers : List Outbound) (groups_left : List (List ℕ)) → Left open_peers groups_left
          → (0 < rest_of (length open_peers)) ⊎ (rest_of (length open_peers) ≤ 0)
          → lists (suc count) open_peers m * left ≤ all_lists m * part (length open_peers) (suc count) left
          → ((peer : Peer) → has groups_left (key peer) ≡ true
          → lists count (with_peer peer (key peer) open_peers) m * rounded_up (left * (total - least (length open_peers))) (whole - least (length open_peers))
          ≤ all_lists m * part (length (with_peer peer (key peer) open_peers)) count (rounded_up (left * (total - least (length open_peers))) (whole - least (length open_peers))))
          → lists (suc count) open_peers (suc m) * left ≤ words * all_lists m * part (length open_peers) (suc count) left
      one_more m count left open_peers groups_left h (inl some) next more =
          step (all_lists m) (picking (is_same_group st open_peers)) (picking (out open_peers)) words (lists (suc count) open_peers (suc m)) (rest_of (length open_peers)) (room_of (length open_peers))
          (part (length open_peers) (suc count) left) left
          (by_pick count open_peers m (left * rest_of (length open_peers)) (all_lists m * part (length open_peers) (suc count) left * rest_of (length open_peers)) (all_lists m * part (length open_peers) (suc count) left * room_of (length open_peers))
          (again (lists (suc count) open_peers m) left (rest_of (length open_peers)) (all_lists m * part (length open_peers) (suc count) left) next)
          (λ peer known own apart. first (lists count (with_peer peer (key peer) open_peers) m) (left * rest_of (length open_peers)) (room_of (length open_peers)) (rounded_up (left * rest_of (length open_peers)) (room_of (length open_peers)))
          (all_lists m * part (length open_peers) (suc count) left)
          (at_least_it (left * rest_of (length open_peers)) (room_of (length open_peers)) (some_room open_peers groups_left h))
          (subst (λ k. lists count (with_peer peer (key peer) open_peers) m * rounded_up (left * rest_of (length open_peers)) (room_of (length open_peers)) ≤ all_lists m * part k count (rounded_up (left * rest_of (length open_peers)) (room_of (length open_peers))))
          (longer peer) (more peer (h.cover peer known own apart)))))
          (fit open_peers groups_left h) some
        where
          longer : (peer : Peer) → length (with_peer peer (key peer) open_peers) ≡ suc (length open_peers)
          longer peer = let is = length-append open_peers (outbound peer (key peer) ∷ []) in omega (arith, is)

          again : (x l a r : ℕ) → x * l ≤ r → x * (l * a) ≤ r * a
          again x l a r one = let two = mul-le-mul_right a one in omega (arith, two)

          first : (x y b l r : ℕ) → y ≤ b * l → x * l ≤ r → x * y ≤ r * b
          first x y b l r one two = let three = mul-le-mul_left x one in let four = mul-le-mul_left b two in omega (arith, three, four)
      one_more m count left open_peers groups_left h (inr none) next more =
          let is : rest_of (length open_peers) ≡ 0 = omega (arith, none) in
          last_step (all_lists m) (picking (is_same_group st open_peers)) (picking (out open_peers)) words (lists (suc count) open_peers (suc m)) (room_of (length open_peers))
          (part (length open_peers) (suc count) left) left
          (by_pick count open_peers m left (all_lists m * part (length open_peers) (suc count) left) (all_lists m * left) next
          (λ peer known own apart. mul-le-mul_right left (lists_low count (with_peer peer (key peer) open_peers) m)))
          (subst (λ k. picking (is_same_group st open_peers) * k + picking (out open_peers) * room_of (length open_peers) ≤ words * k) is (fit open_peers groups_left h))
          (some_room open_peers groups_left h) (picking_words (is_same_group st open_peers))

      -- Of `all`, so many lists open the connections that are left.
      bounded : (m count left : ℕ) (open_peers : List Outbound) (groups_left : List (List ℕ)) → Left open_peers groups_left
          → lists count open_peers m * left ≤ all_lists m * part (length open_peers) count left
      bounded m zero left open_peers groups_left h = same_at_most (all_lists m * left) (all_lists m * left) refl
      bounded zero (suc count) left open_peers groups_left h = omega arith
      bounded (suc m) (suc count) left open_peers groups_left h =
          subst (λ k. lists (suc count) open_peers (suc m) * left ≤ k * part (length open_peers) (suc count) left) (sym (one_more_try size n m))
          (one_more m count left open_peers groups_left h (cases_lt 0 (rest_of (length open_peers)))
          (bounded m (suc count) left open_peers groups_left h)
          (λ peer there. bounded m count (rounded_up (left * (total - least (length open_peers))) (whole - least (length open_peers)))
          (with_peer peer (key peer) open_peers) (without (key peer) groups_left) (open_more peer open_peers groups_left h there)))

      pub at_most : (m count left : ℕ) → ((peer : Peer) → IsKnown st all peer → theirs peer ≡ true → has groups (key peer) ≡ true)
          → lists count [] m * left ≤ all_lists m * part 0 count left
      at_most m count left cover = bounded m count left [] groups (at_first cover)
