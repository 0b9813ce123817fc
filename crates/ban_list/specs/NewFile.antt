-- The file that is written for a list by the rule of Bitcoin Core: what the old file has besides
-- its bans stays in it as it is and in its order, and so does what the element of a ban has
-- besides.
use Rattle.std.specs.Prelude.{◌≡◌, ℕ, List, [], ◌∷◌, ◌++◌, map, filter, flat_map, codes, decimal, IsUtf8, Bool, ◌||◌, not, ⊤, Option, Some, None, if◌then◌else◌}
use Rattle.std.specs.Cmp.Lexicographic.{slice_cmp}
use Rattle.std.specs.List.Sorted.{IsPermutation, IsSortedBy}
use Rattle.std.specs.Ordering.{is_lt, nat_cmp, ordering_then}
use Rattle.std.specs.Str.{bytes_eq}
use Rattle.std.specs.declared.cmp.Ordering.{Ordering}
use Rattle.json.specs.Find.{get}
use Rattle.json.specs.Json.{Json, Items, Members, array, document, item, member, no_items, no_members, number, object, string}
use Rattle.json.specs.Print.{print}
use Rattle.json.specs.Tree.{json_tokens}
use Rattle.serde_json.specs.Data.{Data}
use Rattle.serde_json.specs.Read.{of_json, read}
use Rattle.net_addr.specs.Address.{net_number}
use Rattle.ban_list.specs.BanFile.{IsElement, bans_text}
use Rattle.ban_list.specs.Bans.{same_subnet}
use Rattle.ban_list.specs.SubnetText.{subnet_name}
use Rattle.ban_list.specs.declared.ban.Ban.{Ban}
use Rattle.ban_list.specs.declared.ban.BanRule.{BanRule}
use Rattle.ban_list.specs.declared.ban.BanRule.TheVariants.{Labels, Names}
use Rattle.ban_list.specs.declared.subnet.Subnet.{Subnet}

-- the order of subnets: by network, address and length (`operator<` of CSubNet and CNetAddr in
-- netaddress.h)
abbrev pub subnet_cmp : Subnet → Subnet → Ordering
subnet_cmp s t =
    ordering_then (nat_cmp (net_number s.addr.net) (net_number t.addr.net))
    (ordering_then (slice_cmp nat_cmp s.addr.bytes t.addr.bytes) (nat_cmp s.len t.len))

-- The ban of the lower subnet comes first.
abbrev pub comes_before : Ban → Ban → Bool
comes_before a b = is_lt (subnet_cmp a.subnet b.subnet)

-- a member of an object: its name and its value, whose numbers are text
abbrev pub Member : Type 0
Member = List ℕ × Json

-- the object with these members, in this order; a name may come twice
abbrev pub members_of : List Member → Members
members_of [] = no_members
members_of (m ∷ ms) = member m.0 m.1 (members_of ms)

-- the array of these values
abbrev pub items_of : List Json → Items
items_of [] = no_items
items_of (j ∷ js) = item j (items_of js)

-- an element of the old list as it is in the text, and the subnet that it bans, unless it is no ban
abbrev pub Element : Type 0
Element = Json × Option Subnet

-- An element of the old list bans this subnet, or is not a ban.
abbrev pub IsOldElement : Json → Option Subnet → Type 0
IsOldElement j (Some subnet) =
    (d : Data) × (of_json j ≡ Some d) × (ban : Ban) × IsElement Names d ban × (ban.subnet ≡ subnet)
IsOldElement j None = (d : Data) → of_json j ≡ Some d → (ban : Ban) → IsElement Names d ban → ⊥

-- Each element is paired with the subnet that it bans, if it is a ban.
unfoldable pub AreOldElements : List Element → Type 0
AreOldElements [] = ⊤
AreOldElements (e ∷ es) = IsOldElement e.0 e.1 × AreOldElements es

-- the bytes are a text of an object with these members that is read as a value, and these are the
-- elements of the array under `banned_nets`: of several members of that name the last one's
pub record IsOldFile (bytes : List ℕ) (members : List Member) (elements : List Element)
    : Type 0 where
  pub text : document bytes ≡ Some (object (members_of members))
  pub value : Data
  pub is_read : read bytes ≡ Some value
  pub list : get (codes "banned_nets") (object (members_of members))
      ≡ Some (array (items_of (map (λ e. e.0) elements)))
  pub are : AreOldElements elements

-- the same of the file that the list was read from, if there was one
abbrev pub IsOld : Option (List ℕ) → List Member → List Element → Type 0
IsOld None members elements = (members ≡ []) × (elements ≡ [])
IsOld (Some bytes) members elements = IsOldFile bytes members elements

-- the name of the member that has the list
abbrev pub is_list_name : List ℕ → Bool
is_list_name name = bytes_eq name (codes "banned_nets")

-- the names of the members that a ban has
abbrev pub is_ban_name : List ℕ → Bool
is_ban_name name =
    bytes_eq name (codes "address") || bytes_eq name (codes "ban_created")
    || bytes_eq name (codes "banned_until") || bytes_eq name (codes "version")

-- the members of other names, in their order
abbrev pub besides : (List ℕ → Bool) → List Member → List Member
besides has members = filter (λ m. not (has m.0)) members

-- the list in the place of the first member of its name, or last if there is none; there is no
-- other member of that name
abbrev pub with_list : Json → List Member → List Member
with_list list [] = (codes "banned_nets", list) ∷ []
with_list list (m ∷ ms) =
    if is_list_name m.0 then (codes "banned_nets", list) ∷ besides is_list_name ms
    else m ∷ with_list list ms

-- the members of a ban, with this text of its subnet
abbrev pub own_members_with : List ℕ → Ban → List Member
own_members_with text ban =
    (codes "address", string text)
    ∷ (codes "ban_created", number (decimal ban.created))
    ∷ (codes "banned_until", number (decimal ban.until))
    ∷ (codes "version", number (decimal 1)) ∷ []

-- the members of a ban
abbrev pub own_members : Ban → List Member
own_members ban = own_members_with (subnet_name ban.subnet) ban

-- the members of an object, none of any other value
abbrev pub members_list : Members → List Member
members_list no_members = []
members_list (member name value more) = (name, value) ∷ members_list more

-- The members of a value; none if it is not an object.
abbrev pub members_in : Json → List Member
members_in (object ms) = members_list ms
members_in other = []

-- what an element has besides the members of a ban, if it is a ban of this subnet
abbrev pub besides_at : Subnet → Json → Option Subnet → List Member
besides_at subnet j None = []
besides_at subnet j (Some own) =
    if same_subnet own subnet then besides is_ban_name (members_in j) else []

-- the element of a ban: its members, and then what the old elements of its subnet have besides
abbrev pub ban_tree : List Element → Ban → Json
ban_tree elements ban =
    object (members_of (own_members ban ++ flat_map (λ e. besides_at ban.subnet e.0 e.1) elements))

-- an element that is no ban
abbrev pub other_of : Json → Option Subnet → List Json
other_of j None = j ∷ []
other_of j (Some subnet) = []

-- the new list: the bans, and the elements that are no bans
abbrev pub list_tree : List Element → List Ban → Json
list_tree elements bans =
    array (items_of (map (ban_tree elements) bans ++ flat_map (λ e. other_of e.0 e.1) elements))

-- the value of the file: the old members, with the new list in the place of the old one
abbrev pub named_tree : List Member → List Element → List Ban → Json
named_tree members elements bans =
    object (members_of (with_list (list_tree elements bans) members))

-- The members of the old file, with a new list under `banned_nets`: the bans, sorted, each with the
-- members that the old elements of its subnet have besides, and then the old elements that are no
-- bans (`BanMapToJson` in net_types.cpp). What is kept is as it was, in its order: a number has its
-- digits, and a name that comes twice still does. The text has no spaces and the shortest escapes,
-- and is UTF-8.
pub record IsNamedFile (old : Option (List ℕ)) (bans : List Ban) (text : List ℕ) : Type 0 where
  pub members : List Member
  pub elements : List Element
  pub is_old : IsOld old members elements
  pub sorted : List Ban
  pub same : IsPermutation bans sorted
  pub order : IsSortedBy comes_before sorted
  pub exact : text ≡ print (json_tokens (named_tree members elements sorted))
  pub utf8 : IsUtf8 text

-- the text that is written for a list, by the rule and the file that it was read from
abbrev pub IsWritten : BanRule → Option (List ℕ) → List Ban → List ℕ → Type 0
IsWritten Labels old bans text = text ≡ bans_text bans
IsWritten Names old bans text = IsNamedFile old bans text
