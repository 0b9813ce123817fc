-- An index that is filled along an order of record numbers.
use Rattle.std.specs.Prelude.{◌≢◌, ℕ, List, [], map, get_or, AllPairs}
use Rattle.net_addr.specs.declared.net.Net.TheVariants.{Unroutable}
use Rattle.peer_rec.specs.Blank.{blank_record}
use Rattle.peer_rec.specs.declared.rec.Rec.{Rec}
use Rattle.peer_index.specs.Order.{Item, Order}

-- the record in place of one that is missing; it is never used
abbrev pub blank : Rec
blank = blank_record (record { addr = record { net = Unroutable; bytes = [] }; port = 0 })

-- the record of a number, where numbers are positions
abbrev pub rec_at : List Rec → ℕ → Rec
rec_at recs n = get_or recs n blank

-- a number's record with the id that a list has at the number
abbrev pub item_of : List ℕ → List Rec → ℕ → Item
item_of ids recs n = record { id = get_or ids n n; rec = rec_at recs n }

-- the records of an order, with their ids
abbrev pub filled : List ℕ → List Rec → List ℕ → Order
filled ids recs order = map (item_of ids recs) order

-- no two numbers of the order have records of one peer
abbrev pub HasApart : List Rec → List ℕ → Type 0
HasApart recs order = AllPairs (λ m n. (rec_at recs m).peer ≢ (rec_at recs n).peer) order
