-- What the calls on asmaps, network groups and slots return and write.
use Rattle.std.specs.Prelude.{◌≡◌, ◌⊎◌, ℕ, ◌<◌, ◌≤◌, List, length, Option, Some, None}
use Rattle.bit_code.specs.declared.bits.TheConstants.{MAX_ASMAP}
use Rattle.net_addr.specs.Address.{Address}
use Rattle.asmap_vm.specs.Code.{Tree, IsSaneFile}
use Rattle.net_addr.specs.declared.peer.Peer.{Peer}
use Rattle.placing.specs.Places.{Places, asn, group, new_slot, tried_bucket, tried_slot}
use Rattle.slot_grid.specs.declared.sizes.TheConstants.{NEW_BUCKETS}
use Rattle.c_values.specs.declared.code.TheConstants.{OK, ARGUMENT, REFUSED}
use Rattle.c_values.specs.Values.{IsPut}

-- whether bytes are the file of a sane tree, and not too many
abbrev pub CheckCall : List ℕ → ℕ → Type 0
CheckCall bytes code =
    ((code ≡ OK) × (length bytes ≤ MAX_ASMAP) × ((t : Tree) × IsSaneFile t bytes))
    ⊎ ((code ≡ REFUSED)
    × ((MAX_ASMAP < length bytes) ⊎ ((t : Tree) → IsSaneFile t bytes → ⊥)))

-- the number of an address's autonomous system; None is no address
abbrev pub AsnCall : Option Address → Places → ℕ → ℕ → Type 0
AsnCall None places code number = code ≡ ARGUMENT
AsnCall (Some addr) places code number = (code ≡ OK) × (number ≡ asn places.map addr)

-- the network group of an address; None is no address
abbrev pub GroupCall : Option Address → Places → ℕ → List ℕ → List ℕ → ℕ → Type 0
GroupCall None places code old new count = (code ≡ ARGUMENT) × (new ≡ old)
GroupCall (Some addr) places code old new count = IsPut (group places addr) old code count new

-- the slot of a peer in a bucket of the new table, if there is such a bucket; None is no peer
abbrev pub NewSlotCall : Option Peer → ℕ → Places → ℕ → ℕ → Type 0
NewSlotCall None bucket places code slot = code ≡ ARGUMENT
NewSlotCall (Some peer) bucket places code slot =
    ((NEW_BUCKETS ≤ bucket) × (code ≡ ARGUMENT))
    ⊎ ((bucket < NEW_BUCKETS) × (code ≡ OK) × (slot ≡ new_slot places peer bucket))

-- the bucket and the slot of a peer in the tried table; None is no peer
abbrev pub TriedSlotCall : Option Peer → Places → ℕ → ℕ → ℕ → Type 0
TriedSlotCall None places code bucket slot = code ≡ ARGUMENT
TriedSlotCall (Some peer) places code bucket slot =
    (code ≡ OK) × (bucket ≡ tried_bucket places peer) × (slot ≡ tried_slot places peer bucket)
