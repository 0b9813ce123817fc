-- The groups of the tables: how many slots, buckets and records each has. How well the asmap covers
-- the records is what `NetGroupManager::ASMapHealthCheck` in netgroup.cpp of Bitcoin Core logs.
use Rattle.std.specs.Prelude.{◌≡◌, ℕ, All, Bool, Contains, IfSome, true, false, not, List, [], ◌∷◌, ◌++◌, length, map, Option, Some, None, bytes_eq, codes, count_by, filter, fold, if◌then◌else◌, is_some, ◌==◌, ◌||◌}
use Rattle.std.specs.List.{flat_map, list_any}
use Rattle.json.specs.Json.{Json, string}
use Rattle.net_addr.specs.Address.{Address}
use Rattle.net_addr.specs.Ranges.{net_class}
use Rattle.net_addr.specs.declared.net.Net.{Net}
use Rattle.net_addr.specs.declared.net.Net.TheVariants.{Ipv4, Ipv6}
use Rattle.peer_rec.specs.Rec.{is_tried}
use Rattle.peer_rec.specs.declared.rec.Rec.{Rec}
use Rattle.placing.specs.Places.{Places, asn}
use Rattle.table_groups.specs.Groups.{counted_address, counted_group, groups_in, numbers_of, rows_of}
use Rattle.table_groups.specs.Names.{name_of}
use Rattle.table_groups.specs.Slots.{new_slots}
use Rattle.table_groups.specs.declared.ranked_groups.Numbers.{Numbers}
use Rattle.table_groups.specs.declared.ranked_groups.Row.{Row}
use Rattle.node_json.specs.Value.{Member, array_of, json_number, object_of, unless_zero}
use Rattle.table_groups.specs.View.{View}

-- A GROUP

-- The numbers of a group, as members.
unfoldable pub number_members : Numbers → List Member
number_members n =
    (codes "new_slots", json_number n.slots) ∷ (codes "new_buckets", json_number n.buckets)
    ∷ (codes "new_records", json_number n.records)
    ∷ (codes "tried_records", json_number n.tried) ∷ []

-- the name and the AS number are those of the first record of the group
unfoldable pub group_members : Places → Numbers → Address → List Member
group_members places n a =
    (codes "group", string (name_of places a)) ∷ []
    ++ unless_zero (codes "mapped_as") (asn places.map a) ++ number_members n

-- the object of a group, if it has a first address
abbrev pub items_by : Places → Numbers → Option Address → List Json
items_by places n None = []
items_by places n (Some a) = object_of (group_members places n a) ∷ []

-- The object of a row; none if its group has no first address.
abbrev pub row_items : Places → Row → List Json
row_items places row = items_by places row.numbers row.first

-- All groups as an array, the one with the most slots first.
unfoldable pub groups_array : View → Json
groups_array view = array_of (flat_map (row_items view.places) (rows_of view))

-- the object of this group
abbrev pub group_object : View → Rec → Json
group_object view r =
    object_of (group_members view.places (numbers_of view (counted_group view.places r))
    (counted_address r))

-- each record in a slot of the new table is one of the records, and not of the tried table
abbrev pub ListsSlots : View → Type 0
ListsSlots view = (bucket slot : ℕ) →
    IfSome (view.new bucket slot) (λ r. Contains view.records r × (is_tried r ≡ false))

-- The array has one object for each group that a record counts for, and no other: those of some
-- records, of which one has the group of each record. There are as many as the totals say.
pub record ListsGroups (view : View) : Type 0 where
  pub recs : List Rec
  pub known : All (Contains view.records) recs
  pub once : (r : Rec) → Contains view.records r →
      count_by (λ q. bytes_eq (counted_group view.places q) (counted_group view.places r)) recs ≡ 1
  pub array : groups_array view ≡ array_of (map (group_object view) recs)
  pub count : length recs ≡ length (groups_in view)

-- THE WHOLE

-- how many groups there are, and the numbers of all of them
unfoldable pub totals_by : ℕ → ℕ → ℕ → ℕ → List Member
totals_by groups slots records tried =
    (codes "groups", json_number groups) ∷ (codes "new_slots", json_number slots)
    ∷ (codes "new_records", json_number records) ∷ (codes "tried_records", json_number tried) ∷ []

-- The members on all groups together.
abbrev pub totals_members : View → List Member
totals_members view =
    totals_by (length (groups_in view)) (new_slots is_some view)
    (count_by (λ r. not (is_tried r)) view.records) (count_by is_tried view.records)

-- the records whose address an asmap can map
abbrev pub is_clearnet_class : Net → Bool
is_clearnet_class Ipv4 = true
is_clearnet_class Ipv6 = true
is_clearnet_class other = false

-- The record's address is one that an asmap can map: IPv4, IPv6, or with a linked IPv4 address.
abbrev pub is_clearnet : Rec → Bool
is_clearnet r = is_clearnet_class (net_class r.peer.addr)

-- the AS number of each of these records, 0 if it has none
unfoldable pub clearnet_numbers : View → List ℕ
clearnet_numbers view =
    map (λ r. asn view.places.map r.peer.addr) (filter is_clearnet view.records)

-- a number more, unless it is 0 or there
abbrev pub with_number : List ℕ → ℕ → List ℕ
with_number seen n = if n == 0 || list_any (λ m. n == m) seen then seen else seen ++ n ∷ []

-- the numbers other than 0, each once
abbrev pub known_numbers : List ℕ → List ℕ
known_numbers numbers = fold with_number [] numbers

-- how many records an asmap can map, how many numbers it gives them, and how many it gives none
unfoldable pub health_members : List ℕ → List Member
health_members numbers =
    (codes "clearnet_peers", json_number (length numbers))
    ∷ (codes "as_numbers", json_number (length (known_numbers numbers)))
    ∷ (codes "unmapped", json_number (count_by (λ n. n == 0) numbers)) ∷ []

-- The members of the whole value: the groups, the totals, and how well the asmap covers the
-- records.
unfoldable pub groups_members : View → List Member
groups_members view =
    (codes "groups", groups_array view) ∷ (codes "totals", object_of (totals_members view))
    ∷ (codes "asmap", object_of (health_members (clearnet_numbers view))) ∷ []

-- The whole value that `groups` prints.
unfoldable pub groups_json : View → Json
groups_json view = object_of (groups_members view)
