-- The peers of a map's entries, seen as a set.
use Rattle.std.proofs.Common.{◌≡◌, ℕ, Bool, true, false, ◌||◌, not, cond, List, [], ◌∷◌, Option, Some, refl, sym, ap, ◌∙◌}
use Rattle.std.specs.Prelude.{is_some}
use Rattle.std.specs.Map.{lookup, keys_of}
use Rattle.net_addr.specs.Same.{same_peer}
use Rattle.net_addr.specs.declared.peer.Peer.{Peer}
use Rattle.peer_index.specs.Peers.{has_peer}

-- a look-up finds a peer that is a key
has-found : (es : List (Peer × ℕ)) (peer : Peer) → is_some (lookup (same_peer peer) es) ≡ has_peer (keys_of es) peer
has-found [] peer = refl
has-found (e ∷ es) peer = by (same_peer peer e.0) (has-found es peer)
  where
    by : (b : Bool) → is_some (lookup (same_peer peer) es) ≡ has_peer (keys_of es) peer
        → is_some (cond b (Some e.1) (lookup (same_peer peer) es)) ≡ (b || has_peer (keys_of es) peer)
    by true rest = refl
    by false rest = rest

-- a peer is new if the map had nothing under it
pub is-new : (es : List (Peer × ℕ)) (peers : List Peer) (peer : Peer) (old : Option ℕ) (new : Bool) → keys_of es ≡ peers → old ≡ lookup (same_peer peer) es
    → is_some old ≡ not new → new ≡ not (has_peer peers peer)
is-new es peers peer old new view is none =
    twice new ∙ ap not (sym none ∙ ap is_some is ∙ has-found es peer ∙ ap (λ ps. has_peer ps peer) view)
  where
    twice : (b : Bool) → b ≡ not (not b)
    twice true = refl
    twice false = refl

-- a set after one peer more
pub has-more : (es fs : List (Peer × ℕ)) (peers : List Peer) (peer : Peer) (id : ℕ) → keys_of es ≡ peers
    → ((other : Peer) → lookup (same_peer other) fs ≡ cond (same_peer peer other) (Some id) (lookup (same_peer other) es))
    → (other : Peer) → has_peer (keys_of fs) other ≡ (same_peer peer other || has_peer peers other)
has-more es fs peers peer id view updates other =
    sym (has-found fs other) ∙ ap is_some (updates other) ∙ by (same_peer peer other)
    ∙ ap (λ b. same_peer peer other || b) (has-found es other ∙ ap (λ ps. has_peer ps other) view)
  where
    by : (b : Bool) → is_some (cond b (Some id) (lookup (same_peer other) es)) ≡ (b || is_some (lookup (same_peer other) es))
    by true = refl
    by false = refl
