-- What a sample by the next words of a generator is.
use Rattle.std.specs.Prelude.{◌≡◌, ℕ, zero, suc, List, [], ◌∷◌, length, min}
use Rattle.rand_core.specs.Stream.{Stream, next_u64}
use Rattle.net_addr.specs.declared.peer.Peer.{Peer}
use Rattle.peer_rec.specs.declared.rec.Rec.{Rec}
use Rattle.node_calls.specs.Unfiltered.{sample_unfiltered}
use Rattle.table_machine.specs.State.{State}
use Rattle.table_machine.specs.Picks.{sample}

-- the next words that a generator gives
unfoldable pub next_words : ℕ → Stream → List ℕ
next_words zero stream = []
next_words (suc more) stream = (next_u64 stream).0 ∷ next_words more (next_u64 stream).1

-- the sample by the next words of a generator, one for each record
abbrev pub IsSample : Stream → State → ℕ → ℕ → List ℕ → ℕ → List Peer → State → Type 0
IsSample stream old max percent classes now peers new =
    (words : List ℕ) × (words ≡ next_words (length old.order) stream)
    × (peers ≡ (sample old max (min percent 100) classes words now).answer)
    × (new ≡ (sample old max (min percent 100) classes words now).state)

-- the same of a sample with terrible records, which leaves the tables as they are
abbrev pub IsUnfiltered : Stream → State → ℕ → ℕ → List ℕ → List Rec → Type 0
IsUnfiltered stream st max percent classes recs =
    (words : List ℕ) × (words ≡ next_words (length st.order) stream)
    × (recs ≡ sample_unfiltered st max (min percent 100) classes words)
