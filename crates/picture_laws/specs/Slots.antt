-- The groups of the list, and the slots that are of none of them.
use Rattle.std.specs.Prelude.{ℕ, ◌&&◌, not, List, map, Bool, IfSome, Option, is_some}
use Rattle.std.specs.List.{list_any}
use Rattle.net_addr.specs.Address.{IsAddress}
use Rattle.peer_rec.specs.declared.rec.Rec.{Rec}
use Rattle.placing.specs.Places.{Places}
use Rattle.table_groups.specs.Slots.{is_of}
use Rattle.table_picture.specs.Picture.{listed_of}
use Rattle.table_groups.specs.View.{View, occupant_at}

-- there is a record, and its source is in none of the groups
abbrev pub is_other : Places → List (List ℕ) → Option Rec → Bool
is_other places gs rec = is_some rec && not (list_any (λ g. is_of places g rec) gs)

-- there is no record
abbrev pub is_free : Option Rec → Bool
is_free rec = not (is_some rec)

-- the groups that the picture lists
abbrev pub listed_groups : View → List (List ℕ)
listed_groups view = map (λ s. s.group.items) (listed_of view)

-- there is a record, and its source is in none of the listed groups
abbrev pub is_unlisted : View → Option Rec → Bool
is_unlisted view = is_other view.places (listed_groups view)

-- the source of each record in a slot is an address
abbrev pub HasSources : View → Type 0
HasSources view = (in_new : Bool) (bucket slot : ℕ) →
    IfSome (occupant_at view in_new bucket slot) (λ r. IsAddress r.source)

-- its source and its peer have addresses
abbrev pub HasAddresses : Rec → Type 0
HasAddresses r = IsAddress r.source × IsAddress r.peer.addr

-- The records in all slots have addresses.
abbrev pub HasPeers : View → Type 0
HasPeers view = (in_new : Bool) (bucket slot : ℕ) →
    IfSome (occupant_at view in_new bucket slot) HasAddresses
