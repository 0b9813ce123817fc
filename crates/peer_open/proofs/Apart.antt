-- Open peers in groups that differ.
use Rattle.std.proofs.Common.{◌≢◌, ℕ, suc, List, [], ◌∷◌, ◌++◌, All, arith, Contains}
use Rattle.std.specs.Bool.{Decides}
use Rattle.std.proofs.lemmas.List.Elements.{All-nil, All-cons, All-head, All-tail, All-append}
use Rattle.std.proofs.lemmas.List.Kept.{AllPairs-cons, AllPairs-filter}
use Rattle.std.proofs.lemmas.Slice.Eq.{bytes_eq-Decides}
use Rattle.net_addr.specs.Same.{same_peer-Decides}
use Rattle.net_addr.specs.declared.peer.Peer.{Peer}
use Rattle.peer_open.proofs.Members.{contains_cons, any-Decides}
use Rattle.peer_open.specs.Groups.{Outbound, outbound, AreApart, groups, peers, has_group, is_in_group, is_open, with_peer, without_peer}

pub has_group-Decides : (group : List ℕ) (os : List Outbound) → Decides (has_group group os) (Contains (groups os) group)
has_group-Decides group os = any-Decides (is_in_group group) (λ o. o.group) group (λ o. bytes_eq-Decides o.group group) os

pub is_open-Decides : (peer : Peer) (os : List Outbound) → Decides (is_open peer os) (Contains (peers os) peer)
is_open-Decides peer os = any-Decides _ (λ o. o.peer) peer (λ o. same_peer-Decides o.peer peer) os

abbrev Differ : Outbound → Outbound → Type 0
Differ a b = a.group ≢ b.group

absent : (group : List ℕ) (os : List Outbound) → ¬ Contains (groups os) group → All (λ o. o.group ≢ group) os
absent group [] none = All-nil (λ o. o.group ≢ group)
absent group (o ∷ os) none =
    All-cons (λ q. q.group ≢ group) o os (λ is. none (0, omega arith, is)) (absent group os (λ has. none (contains_cons o.group group (groups os) has)))

head : (o : Outbound) (os : List Outbound) → AreApart (o ∷ os) → All (Differ o) os
head o os h = λ j d within. h 0 (suc j) d (omega arith) (omega arith)

tail : (o : Outbound) (os : List Outbound) → AreApart (o ∷ os) → AreApart os
tail o os h = λ i j d before within. h (suc i) (suc j) d (omega arith) (omega arith)

one_more : (q : Outbound) (os : List Outbound) → AreApart os → All (λ o. Differ o q) os → AreApart (os ++ q ∷ [])
one_more q [] h k = AllPairs-cons Differ q [] (All-nil (Differ q)) h
one_more q (o ∷ os) h k =
    AllPairs-cons Differ o (os ++ q ∷ [])
    (All-append (Differ o) os (q ∷ []) (head o os h) (All-cons (Differ o) q [] (All-head (λ x. Differ x q) o os k) (All-nil (Differ o))))
    (one_more q os (tail o os h) (All-tail (λ x. Differ x q) o os k))

-- a peer of a group that none has leaves the groups distinct
pub apart-with_peer : (peer : Peer) (group : List ℕ) (os : List Outbound) → AreApart os → ¬ Contains (groups os) group → AreApart (with_peer peer group os)
apart-with_peer peer group os h none = one_more (outbound peer group) os h (absent group os none)

pub apart-without_peer : (peer : Peer) (os : List Outbound) → AreApart os → AreApart (without_peer peer os)
apart-without_peer peer os h = AllPairs-filter Differ _ os h
