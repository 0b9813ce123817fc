-- One more record of an order is added to an index.
use Rattle.std.proofs.Common.{◌≡◌, ◌≢◌, ℕ, zero, suc, ◌+◌, ◌<◌, List, [], ◌∷◌, ◌++◌, length, get_or, set, take, All, Some, None, refl, sym, ap, ◌∙◌, arith, cond}
use Rattle.std.specs.Prelude.{find}
use Rattle.std.specs.Option.{option_map}
use Rattle.std.proofs.lemmas.List.{get_or-set_other, get_or-set_same, get_or-take, map-append, take_more, length-take-le}
use Rattle.std.proofs.lemmas.List.Elements.{All-tail}
use Rattle.net_addr.specs.Same.{same_peer}
use Rattle.net_addr.specs.declared.peer.Peer.{Peer}
use Rattle.peer_rec.specs.declared.rec.Rec.{Rec}
use Rattle.peer_index.specs.Order.{Item, id_of, with_item}
use Rattle.peer_index.proofs.Kept.{same_peer-differs}
use Rattle.tables.specs.Filled.{HasApart, filled, item_of, rec_at}

-- a peer that no record of the order has is not in the index
not-in : (ids : List ℕ) (recs : List Rec) (peer : Peer) (ns : List ℕ) → All (λ m. (rec_at recs m).peer ≢ peer) ns → id_of (filled ids recs ns) peer ≡ None
not-in ids recs peer [] others = refl
not-in ids recs peer (n ∷ ns) others =
    ap (λ b. option_map (λ (l : Item). l.id) (cond b (Some (item_of ids recs n)) (find (λ l. same_peer peer l.rec.peer) (filled ids recs ns))))
    (same_peer-differs peer (rec_at recs n).peer (others 0 n (omega arith)))
    ∙ not-in ids recs peer ns (All-tail (λ m. (rec_at recs m).peer ≢ peer) n ns others)

-- a change of the id of a number that is not in the order
same-items : (ids : List ℕ) (recs : List Rec) (n id : ℕ) (ns : List ℕ) → All (λ m. m ≢ n) ns → filled (set ids n id) recs ns ≡ filled ids recs ns
same-items ids recs n id [] others = refl
same-items ids recs n id (m ∷ ns) others =
    let rest = same-items ids recs n id ns (All-tail (λ k. k ≢ n) m ns others) in
    λ i. record { id = get_or-set_other ids n m id m (others 0 m (omega arith)) i; rec = rec_at recs m } ∷ rest i

module _ (ids : List ℕ) (recs : List Rec) (order : List ℕ) (apart : HasApart recs order) (k n : ℕ) (within : k < length order) (is : n ≡ get_or order k n) where
  before : (i : ℕ) (d : ℕ) → i < length (take k order) → (rec_at recs (get_or (take k order) i d)).peer ≢ (rec_at recs n).peer
  before i d inside same =
      let long = length-take-le k order (omega arith) in
      let first : get_or (take k order) i d ≡ get_or order i n = get_or-take k order i d (omega (arith, long)) ∙ get_or_any i d (omega (arith, long)) in
      apart i k n (omega (arith, long)) within (ap (λ m. (rec_at recs m).peer) (sym first) ∙ same ∙ ap (λ m. (rec_at recs m).peer) is)
    where
      get_or_any : (i d : ℕ) → i < length order → get_or order i d ≡ get_or order i n
      get_or_any i d low = by order i low
        where
          by : (xs : List ℕ) (j : ℕ) → j < length xs → get_or xs j d ≡ get_or xs j n
          by [] j low = absurd (omega arith)
          by (x ∷ xs) zero low = refl
          by (x ∷ xs) (suc j) low = by xs j (omega arith)

  pub absent : id_of (filled ids recs (take k order)) (rec_at recs n).peer ≡ None
  absent = not-in ids recs (rec_at recs n).peer (take k order) before

  pub filled-more : (id : ℕ) → n < length ids → filled (set ids n id) recs (take (k + 1) order) ≡ with_item (filled ids recs (take k order)) id (rec_at recs n)
  filled-more id low =
      ap (filled (set ids n id) recs) (take_more order k n within ∙ ap (λ m. take k order ++ m ∷ []) (sym is))
      ∙ map-append (item_of (set ids n id) recs) (take k order) (n ∷ [])
      ∙ (λ i. same-items ids recs n id (take k order) (λ j d inside same. before j d inside (ap (λ m. (rec_at recs m).peer) same)) i
      ++ record { id = get_or-set_same ids n id n low i; rec = rec_at recs n } ∷ [])
