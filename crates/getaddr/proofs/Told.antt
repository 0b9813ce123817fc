-- What is in a new answer.
use Rattle.std.proofs.Common.{◌≡◌, ℕ, ◌+◌, ◌-◌, ◌*◌, ◌%◌, ◌≤◌, nat_lt, Bool, true, false, cond, List, [], ◌∷◌, ◌++◌, length, Option, Some, None, IfSome, refl, sym, ap, ◌∙◌, subst, arith, if◌then◌else◌}
use Rattle.std.specs.Prelude.{◌&&◌, Contains, find, flat_map, option_to_list, option_map, is_some}
use Rattle.std.specs.List.{AllByRecursion}
use Rattle.std.proofs.lemmas.List.{length-append}
use Rattle.std.proofs.lemmas.List.Elements.{All-contains_itself, recursion_from_All}
use Rattle.net_addr.specs.Same.{same_peer, same_peer-Decides}
use Rattle.net_addr.specs.declared.peer.Entry.{Entry}
use Rattle.net_addr.specs.declared.peer.Peer.{Peer}
use Rattle.peer_rec.specs.declared.rec.Rec.{Rec}
use Rattle.ban_list.specs.Bans.{stops}
use Rattle.ban_list.specs.declared.ban.Ban.{Ban}
use Rattle.table_machine.specs.State.{State, After, outcome, find_peer}
use Rattle.table_machine.specs.Picks.{sample, sample_from, sample_limit, order_swap, eligible_at, with_peers}
use Rattle.picking.specs.Announced.{IsAnnounced}
use Rattle.picking.proofs.SampleLaws.{most_of, part_of, records_of as sampled}
use Rattle.addr_answers.specs.Answers.{told_time}
use Rattle.getaddr.specs.Fresh.{entry, entry_of, fresh, sample_of, time_for_all, told_nets, IsTold}
use Rattle.getaddr.specs.declared.times.Times.{Times}
use Rattle.getaddr.specs.declared.times.Times.TheVariants.{Hidden}

-- the sample after the next word
abbrev after : State → List ℕ → ℕ → ℕ → ℕ → ℕ → List ℕ → After (List Peer)
after st classes now i left word words =
    let new = order_swap st i (i + word % (length st.order - i)) in
    let here = eligible_at new classes now i in
    with_peers here (sample_from new classes now (i + 1) (left - length here) words)

-- a sample changes only the order
only_order : (st : State) (classes : List ℕ) (now i left : ℕ) (words : List ℕ)
    → (sample_from st classes now i left words).state ≡ record st { order = (sample_from st classes now i left words).state.order }
only_order st classes now i left [] = refl
only_order st classes now i left (word ∷ words) =
    let new = order_swap st i (i + word % (length st.order - i)) in
    by (nat_lt i (length st.order) && nat_lt 0 left)
    (only_order new classes now (i + 1) (left - length (eligible_at new classes now i)) words)
  where
    by : (b : Bool) → (after st classes now i left word words).state ≡ record st { order = (after st classes now i left word words).state.order }
        → (if b then after st classes now i left word words else outcome [] st).state
        ≡ record st { order = (if b then after st classes now i left word words else outcome [] st).state.order }
    by true h = h
    by false h = refl

pub changes_order : (st tables : State) (most percent : ℕ) (classes words : List ℕ) (now : ℕ) → tables ≡ (sample st most percent classes words now).state
    → tables ≡ record st { order = tables.order }
changes_order st tables most percent classes words now is =
    subst (λ t. t ≡ record st { order = t.order }) (sym is) (only_order st classes now 0 (sample_limit (length st.order) most percent) words)

pub same_records : (st : State) (classes : List ℕ) (now i left : ℕ) (words : List ℕ) → (sample_from st classes now i left words).state.records ≡ st.records
same_records st classes now i left words = ap (λ s. s.records) (only_order st classes now i left words)

found : (P : Rec → Type 0) (test : Rec → Bool) (records : List Rec) → AllByRecursion P records → IfSome (find test records) (λ r. P r × (test r ≡ true))
found P test [] h = tt
found P test (r ∷ records) h = by (test r) refl (found P test records h.1)
  where
    by : (b : Bool) → test r ≡ b → IfSome (find test records) (λ r. P r × (test r ≡ true)) → IfSome (cond b (Some r) (find test records)) (λ r. P r × (test r ≡ true))
    by true is rest = (h.0, is)
    by false is rest = rest

joined : (P : Entry → Type 0) (xs ys : List Entry) → AllByRecursion P xs → AllByRecursion P ys → AllByRecursion P (xs ++ ys)
joined P [] ys h k = k
joined P (x ∷ xs) ys h k = (h.0, joined P xs ys h.1 k)

module _ (st : State) (bans : List Ban) (time : Option ℕ) (now : ℕ) where
  few-entry : (peer : Peer) → length (option_to_list (entry_of st bans time now peer)) ≤ 1
  few-entry peer = by (entry_of st bans time now peer)
    where
      by : (o : Option Entry) → length (option_to_list o) ≤ 1
      by None = omega arith
      by (Some e) = omega arith

  pub few-entries : (peers : List Peer) → length (flat_map (λ p. option_to_list (entry_of st bans time now p)) peers) ≤ length peers
  few-entries [] = omega arith
  few-entries (p ∷ peers) =
      omega (arith, few-entry p, few-entries peers, length-append (option_to_list (entry_of st bans time now p)) (flat_map (λ p. option_to_list (entry_of st bans time now p)) peers))

  -- ---- records

  -- a record of the peer says so, and it is not banned
  abbrev Is : List Rec → Peer → Entry → Type 0
  Is records peer e = (r : Rec) × Contains records r × (entry time r ≡ e) × (e.peer ≡ peer) × (is_some (find (stops e.peer.addr now) bans) ≡ false)

  told : (peer : Peer) → AllByRecursion (Is st.records peer) (option_to_list (entry_of st bans time now peer))
  told peer = by (is_some (find (stops peer.addr now) bans)) refl (find_peer st peer)
      (found (Contains st.records) (λ r. same_peer peer r.peer) st.records (recursion_from_All (Contains st.records) st.records (All-contains_itself st.records)))
    where
      by : (b : Bool) → is_some (find (stops peer.addr now) bans) ≡ b → (o : Option Rec) → IfSome o (λ r. Contains st.records r × (same_peer peer r.peer ≡ true))
          → AllByRecursion (Is st.records peer) (option_to_list (if b then None else option_map (entry time) o))
      by true is o h = tt
      by false is None h = tt
      by false is (Some r) h =
          let same : peer ≡ r.peer = (same_peer-Decides peer r.peer).0 h.1 in
          ((r, h.0, refl, sym same, ap (λ p. is_some (find (stops p.addr now) bans)) (sym same) ∙ is), tt)

  -- what holds of each entry of a peer for which something holds, holds of all
  pub all_told : (Q : Peer → Type 0) (P : Entry → Type 0) → ((peer : Peer) (e : Entry) → Q peer → Is st.records peer e → P e)
      → (peers : List Peer) → AllByRecursion Q peers → AllByRecursion P (flat_map (λ p. option_to_list (entry_of st bans time now p)) peers)
  all_told Q P each [] h = tt
  all_told Q P each (p ∷ peers) h =
      joined P (option_to_list (entry_of st bans time now p)) _ (mapped (option_to_list (entry_of st bans time now p)) (told p)) (all_told Q P each peers h.1)
    where
      mapped : (es : List Entry) → AllByRecursion (Is st.records p) es → AllByRecursion P es
      mapped [] k = tt
      mapped (e ∷ es) k = (each p e h.0 k.0, mapped es k.1)

-- ---- of a new answer

pub most : (st : State) (bans : List Ban) (times : Times) (now word : ℕ) (words : List ℕ) → length (fresh st bans times now word words) ≤ 1000
most st bans times now word words =
    let found = sample_of st now words in
    omega (arith, few-entries found.state bans (time_for_all times now word) now found.answer, most_of st 1000 23 told_nets words now (λ e. omega (arith, e)))

pub part : (st : State) (bans : List Ban) (times : Times) (now word : ℕ) (words : List ℕ) → length (fresh st bans times now word words) * 100 ≤ 23 * length st.order
part st bans times now word words =
    let found = sample_of st now words in
    omega (arith, few-entries found.state bans (time_for_all times now word) now found.answer, part_of st 1000 23 told_nets words now (λ e. omega (arith, e)))

pub records_of : (st : State) (bans : List Ban) (times : Times) (now word : ℕ) (words : List ℕ)
    → AllByRecursion (IsTold st bans times now word) (fresh st bans times now word words)
records_of st bans times now word words =
    let found = sample_of st now words in
    let time = time_for_all times now word in
    let same = same_records st told_nets now 0 (sample_limit (length st.order) 1000 23) words in
    all_told found.state bans time now (IsAnnounced st told_nets now) (IsTold st bans times now word)
    (λ peer e announced is. (
      (is.0, subst (λ rs. Contains rs is.0) same is.1, is.2),
      subst (IsAnnounced st told_nets now) (sym is.3) announced,
      is.4,
    )) found.answer (sampled st 1000 23 told_nets words now)

pub one_time : (st : State) (bans : List Ban) (now word : ℕ) (words : List ℕ)
    → AllByRecursion (λ e. e.time ≡ told_time now word) (fresh st bans Hidden now word words)
one_time st bans now word words =
    let found = sample_of st now words in
    all_told found.state bans (Some (told_time now word)) now (IsAnnounced st told_nets now) (λ e. e.time ≡ told_time now word)
    (λ peer e announced is. sym (ap (λ e. e.time) is.2)) found.answer (sampled st 1000 23 told_nets words now)
