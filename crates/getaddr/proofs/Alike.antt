-- What an answer with hidden times depends on.
use Rattle.std.proofs.Common.{◌≡◌, ℕ, ◌+◌, ◌-◌, ◌%◌, nat_lt, Bool, true, false, cond, not, List, [], ◌∷◌, ◌++◌, length, map, filter, Option, Some, None, refl, sym, ap, ◌∙◌, if◌then◌else◌}
use Rattle.std.specs.Prelude.{◌&&◌, ◌==◌, find, swap, slice_get, flat_map, option_to_list, option_map, option_and_then, is_some}
use Rattle.net_addr.specs.NetSet.{has}
use Rattle.net_addr.specs.Ranges.{net_class}
use Rattle.net_addr.specs.Same.{same_peer}
use Rattle.net_addr.specs.declared.peer.Entry.{Entry}
use Rattle.net_addr.specs.declared.peer.Peer.{Peer}
use Rattle.peer_rec.specs.declared.rec.Rec.{Rec}
use Rattle.ban_list.specs.Bans.{stops}
use Rattle.ban_list.specs.declared.ban.Ban.{Ban}
use Rattle.table_machine.specs.State.{State, outcome}
use Rattle.table_machine.specs.Picks.{sample_from, sample_limit, order_swap, order_at, eligible_at, is_eligible, with_peers}
use Rattle.addr_answers.specs.Answers.{told_time}
use Rattle.getaddr.specs.Alike.{Seen, seen, IsAlike}
use Rattle.getaddr.specs.Fresh.{entry, fresh, sample_of, told_nets}
use Rattle.getaddr.specs.declared.times.Times.TheVariants.{Hidden}
use Rattle.getaddr.proofs.Told.{same_records}

module _ (now : ℕ) where
  -- a search by what is seen finds what is seen of the record
  found : (test : Rec → Bool) (by : Seen → Bool) → ((r : Rec) → test r ≡ by (seen now r)) → (records : List Rec)
      → option_map (seen now) (find test records) ≡ find by (map (seen now) records)
  found test by same [] = refl
  found test by same (r ∷ records) = cases (test r) (by (seen now r)) (same r) (found test by same records)
    where
      cases : (a b : Bool) → a ≡ b → option_map (seen now) (find test records) ≡ find by (map (seen now) records)
          → option_map (seen now) (cond a (Some r) (find test records)) ≡ cond b (Some (seen now r)) (find by (map (seen now) records))
      cases true b is rest = ap (λ c. cond c (Some (seen now r)) (find by (map (seen now) records))) is
      cases false b is rest = rest ∙ ap (λ c. cond c (Some (seen now r)) (find by (map (seen now) records))) is

  -- ---- the sample

  abbrev is_fit : Seen → Bool
  is_fit s = has told_nets (net_class s.peer.addr) && not s.is_terrible

  abbrev peers_in : Option Seen → List Peer
  peers_in o = map (λ s. s.peer) (filter is_fit (option_to_list o))

  -- the same of the order and of what is seen
  abbrev peers_at : List ℕ → List Seen → ℕ → List Peer
  peers_at order all i = peers_in (option_and_then (λ number. find (λ s. s.number == number) all) (slice_get order i))

  abbrev peers_from : List ℕ → List Seen → ℕ → ℕ → List ℕ → List Peer
  peers_from order all i left [] = []
  peers_from order all i left (word ∷ words) =
      if nat_lt i (length order) && nat_lt 0 left
      then (
      let next = swap order i (i + word % (length order - i)) in
      let here = peers_at next all i in
      here ++ peers_from next all (i + 1) (left - length here) words)
      else []

  peers_of : (o : Option Rec) → map (λ r. r.peer) (filter (is_eligible told_nets now) (option_to_list o)) ≡ peers_in (option_map (seen now) o)
  peers_of None = refl
  peers_of (Some r) = by (is_eligible told_nets now r)
    where
      by : (b : Bool) → map (λ r. r.peer) (if b then r ∷ [] else []) ≡ map (λ s. s.peer) (if b then seen now r ∷ [] else [])
      by true = refl
      by false = refl

  here : (st : State) (i : ℕ) → eligible_at st told_nets now i ≡ peers_at st.order (map (seen now) st.records) i
  here st i = peers_of (order_at st i) ∙ ap peers_in (by (slice_get st.order i))
    where
      by : (o : Option ℕ) → option_map (seen now) (option_and_then (λ number. find (λ r. r.number == number) st.records) o)
          ≡ option_and_then (λ number. find (λ s. s.number == number) (map (seen now) st.records)) o
      by None = refl
      by (Some number) = found (λ r. r.number == number) (λ s. s.number == number) (λ r. refl) st.records

  picked : (st : State) (i left : ℕ) (words : List ℕ)
      → (sample_from st told_nets now i left words).answer ≡ peers_from st.order (map (seen now) st.records) i left words
  picked st i left [] = refl
  picked st i left (word ∷ words) =
      let next = order_swap st i (i + word % (length st.order - i)) in
      let all = map (seen now) st.records in
      by (nat_lt i (length st.order) && nat_lt 0 left)
      (ap (λ ps. ps ++ (sample_from next told_nets now (i + 1) (left - length ps) words).answer) (here next i)
      ∙ ap (λ ps. peers_at next.order all i ++ ps) (picked next (i + 1) (left - length (peers_at next.order all i)) words))
    where
      by : (b : Bool)
          → eligible_at (order_swap st i (i + word % (length st.order - i))) told_nets now i
          ++ (sample_from (order_swap st i (i + word % (length st.order - i))) told_nets now (i + 1) (left - length (eligible_at (order_swap st i (i + word % (length st.order - i))) told_nets now i)) words).answer
          ≡ peers_at (swap st.order i (i + word % (length st.order - i))) (map (seen now) st.records) i
          ++ peers_from (swap st.order i (i + word % (length st.order - i))) (map (seen now) st.records) (i + 1) (left - length (peers_at (swap st.order i (i + word % (length st.order - i))) (map (seen now) st.records) i)) words
          → (if b then with_peers (eligible_at (order_swap st i (i + word % (length st.order - i))) told_nets now i)
          (sample_from (order_swap st i (i + word % (length st.order - i))) told_nets now (i + 1) (left - length (eligible_at (order_swap st i (i + word % (length st.order - i))) told_nets now i)) words)
          else outcome [] st).answer
          ≡ (if b then peers_at (swap st.order i (i + word % (length st.order - i))) (map (seen now) st.records) i
          ++ peers_from (swap st.order i (i + word % (length st.order - i))) (map (seen now) st.records) (i + 1) (left - length (peers_at (swap st.order i (i + word % (length st.order - i))) (map (seen now) st.records) i)) words else [])
      by true same = same
      by false same = refl

  -- ---- the entries

  abbrev entry_seen : ℕ → Seen → Entry
  entry_seen time s = record { time = time; services = s.services; peer = s.peer }

  abbrev entry_in : List Seen → List Ban → ℕ → Peer → Option Entry
  entry_in all bans time peer =
      if is_some (find (stops peer.addr now) bans) then None else option_map (entry_seen time) (find (λ s. same_peer peer s.peer) all)

  -- the whole answer, of the order and of what is seen
  abbrev answer_in : List ℕ → List Seen → List Ban → ℕ → List ℕ → List Entry
  answer_in order all bans time words =
      flat_map (λ p. option_to_list (entry_in all bans time p)) (peers_from order all 0 (sample_limit (length order) 1000 23) words)

  entries : (records : List Rec) (bans : List Ban) (time : ℕ) (peers : List Peer)
      → flat_map (λ p. option_to_list (if is_some (find (stops p.addr now) bans) then None else option_map (entry (Some time)) (find (λ r. same_peer p r.peer) records))) peers
      ≡ flat_map (λ p. option_to_list (entry_in (map (seen now) records) bans time p)) peers
  entries records bans time [] = refl
  entries records bans time (p ∷ peers) =
      ap (λ es. es ++ flat_map (λ p. option_to_list (if is_some (find (stops p.addr now) bans) then None else option_map (entry (Some time)) (find (λ r. same_peer p r.peer) records))) peers)
      (ap (λ o. option_to_list (if is_some (find (stops p.addr now) bans) then None else o))
      (by (find (λ r. same_peer p r.peer) records) ∙ ap (option_map (entry_seen time)) (found (λ r. same_peer p r.peer) (λ s. same_peer p s.peer) (λ r. refl) records)))
      ∙ ap (λ es. option_to_list (entry_in (map (seen now) records) bans time p) ++ es) (entries records bans time peers)
    where
      by : (o : Option Rec) → option_map (entry (Some time)) o ≡ option_map (entry_seen time) (option_map (seen now) o)
      by None = refl
      by (Some r) = refl

  told : (st : State) (bans : List Ban) (word : ℕ) (words : List ℕ)
      → fresh st bans Hidden now word words ≡ answer_in st.order (map (seen now) st.records) bans (told_time now word) words
  told st bans word words =
      let sampled = sample_of st now words in
      let limit = sample_limit (length st.order) 1000 23 in
      ap (λ rs. flat_map (λ p. option_to_list (if is_some (find (stops p.addr now) bans) then None else option_map (entry (Some (told_time now word))) (find (λ r. same_peer p r.peer) rs))) sampled.answer)
      (same_records st told_nets now 0 limit words)
      ∙ entries st.records bans (told_time now word) sampled.answer
      ∙ ap (flat_map (λ p. option_to_list (entry_in (map (seen now) st.records) bans (told_time now word) p))) (picked st 0 limit words)

pub same_answers : (st other : State) (bans : List Ban) (now word : ℕ) (words : List ℕ) → IsAlike now st other
    → fresh st bans Hidden now word words ≡ fresh other bans Hidden now word words
same_answers st other bans now word words alike =
    told now st bans word words
    ∙ ap (λ order. answer_in now order (map (seen now) st.records) bans (told_time now word) words) alike.order
    ∙ ap (λ all. answer_in now other.order all bans (told_time now word) words) alike.records
    ∙ sym (told now other bans word words)
