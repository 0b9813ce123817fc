-- What is found in an old file, and the tokens of what is written of it; for private clauses.
use Rattle.std.specs.Prelude.{◌≡◌, ℕ, ◌+◌, List, [], ◌∷◌, ◌++◌, flat_map, codes, decimal, get_or, length, nat_lt, IsUtf8, Bool, false, Vec, Option, Some, None, option_and_then, if◌then◌else◌}
use Rattle.std.specs.Borrow.{Bor}
use Rattle.std.specs.declared.alloc.Global.{Global}
use Rattle.std.specs.Map.{lookup}
use Rattle.json.specs.Find.{get}
use Rattle.json.specs.Json.{Json, Items, array, item, no_items, null, number}
use Rattle.json.specs.Token.{Token}
use Rattle.json.specs.Tree.{json_tokens}
use Rattle.json.specs.Value.{value_view}
use Rattle.json.specs.Written.{Written}
use Rattle.json.specs.declared.value.Value.{Value}
use Rattle.serde_json.specs.Data.{Data}
use Rattle.ban_list.specs.BanFile.{IsElement}
use Rattle.ban_list.specs.Bans.{same_subnet}
use Rattle.ban_list.specs.SubnetText.{subnet_name}
use Rattle.ban_list.specs.NewFile.{Element, IsOldFile, Member, besides, is_ban_name, is_list_name, members_in, named_tree, other_of, own_members_with}
use Rattle.ban_list.specs.declared.ban.Ban.{Ban}
use Rattle.ban_list.specs.declared.ban.BanRule.TheVariants.{Names}
use Rattle.ban_list.specs.declared.named_text.Part.{Part}
use Rattle.ban_list.specs.declared.named_text.Part.TheVariants as part
use Rattle.ban_list.specs.declared.subnet.Subnet.{Subnet}
use Rattle.json.specs.Print.{print}

-- a member as it is in memory
abbrev pub member_view : {A : Type 0} → Bor (List ℕ) × Value A → Member
member_view m = (m.0.now, value_view m.1)

-- the elements of an array
abbrev pub item_list : Items → List Json
item_list no_items = []
item_list (item j js) = j ∷ item_list js

-- The elements of a value, if it is an array.
abbrev pub array_list : Json → Option (List Json)
array_list (array js) = Some (item_list js)
array_list other = None

-- the elements of the list of a file
abbrev pub list_in : Json → Option (List Json)
list_in j = option_and_then array_list (get (codes "banned_nets") j)

-- the element bans this subnet, or is no ban
abbrev pub IsSubnetOf : Data → Option Subnet → Type 0
IsSubnetOf d (Some subnet) = (ban : Ban) × IsElement Names d ban × (ban.subnet ≡ subnet)
IsSubnetOf d None = (ban : Ban) → IsElement Names d ban → ⊥

-- The subnets are those of the elements, one for each.
unfoldable pub AreSubnets : List Data → List (Option Subnet) → Type 0
AreSubnets [] subnets = subnets ≡ []
AreSubnets (d ∷ ds) [] = ⊥
AreSubnets (d ∷ ds) (subnet ∷ subnets) = IsSubnetOf d subnet × AreSubnets ds subnets

-- sorted bans were written over an old file
pub record IsNamedOver (bytes : List ℕ) (bans : List Ban) (text : List ℕ) : Type 0 where
  pub members : List Member
  pub elements : List Element
  pub is_old : IsOldFile bytes members elements
  pub exact : text ≡ print (json_tokens (named_tree members elements bans))
  pub utf8 : IsUtf8 text

-- the elements, each with its subnet
abbrev pub elements_with : List Json → List (Option Subnet) → List Element
elements_with [] subnets = []
elements_with (j ∷ js) [] = []
elements_with (j ∷ js) (subnet ∷ subnets) = (j, subnet) ∷ elements_with js subnets

-- ---- the positions of the elements of a subnet

-- An element with this subnet bans it.
abbrev pub bans_it : Subnet → Option Subnet → Bool
bans_it subnet None = false
bans_it subnet (Some own) = same_subnet own subnet

-- The places of the elements that ban a subnet, counted from a number on.
unfoldable pub places_from : Subnet → ℕ → List (Option Subnet) → List ℕ
places_from subnet place [] = []
places_from subnet place (own ∷ subnets) =
    (if bans_it subnet own then place ∷ [] else []) ++ places_from subnet (place + 1) subnets

-- The places of the elements that ban a subnet.
abbrev pub places_of : Subnet → List (Option Subnet) → List ℕ
places_of subnet subnets = places_from subnet 0 subnets

-- The places that are found; none if the subnet has no element.
abbrev pub list_of : Option (Vec ℕ Global) → List ℕ
list_of None = []
list_of (Some places) = places.items

-- what is stored under a subnet
abbrev pub places_at : List (Subnet × Vec ℕ Global) → Subnet → List ℕ
places_at stored subnet = list_of (lookup (same_subnet subnet) stored)

-- one position more was stored, under the subnet that an element bans
abbrev pub IsStoredAt : Option Subnet → ℕ → List (Subnet × Vec ℕ Global) →
    List (Subnet × Vec ℕ Global) → Type 0
IsStoredAt own place old new = (subnet : Subnet) →
    places_at new subnet ≡ places_at old subnet ++ (if bans_it subnet own then place ∷ [] else [])

-- ---- the tokens of what is written

-- these tokens were written
abbrev pub IsAppended : Written → Written → List Token → Type 0
IsAppended old new tokens = (new.tokens ≡ old.tokens ++ tokens) × (new.before ≡ old.before)

-- The tokens of a member: its name and its value.
abbrev pub member_tokens : Member → List Token
member_tokens m = Token.key m.0 ∷ json_tokens m.1

-- The tokens of some members.
abbrev pub tokens_of : List Member → List Token
tokens_of ms = flat_map member_tokens ms

-- a name of a member that is written anew
abbrev pub has_name : Part → List ℕ → Bool
has_name part.File name = is_list_name name
has_name part.Ban name = is_ban_name name

-- a member, unless it is written anew
abbrev pub beside_tokens : Part → Member → List Token
beside_tokens part m = if has_name part m.0 then [] else member_tokens m

-- The tokens of a member as it is in memory, unless it is written anew.
abbrev pub besides_tokens : {A : Type 0} → Part → Bor (List ℕ) × Value A → List Token
besides_tokens part m = beside_tokens part (member_view m)

-- A member whose value is a whole number.
abbrev pub number_member : List ℕ → ℕ → Member
number_member name n = (name, number (decimal n))

-- the members of a ban that are numbers
abbrev pub number_members : ℕ → ℕ → List Member
number_members created until =
    number_member (codes "ban_created") created ∷ number_member (codes "banned_until") until
    ∷ number_member (codes "version") 1 ∷ []

-- what the element at a position has besides the members of its ban
abbrev pub item_tokens : List Json → ℕ → List Token
item_tokens items place =
    if nat_lt place (length items)
    then tokens_of (besides is_ban_name (members_in (get_or items place null))) else []

-- the element of a ban
abbrev pub ban_tokens : List Json → List (Subnet × Vec ℕ Global) → Ban → List Token
ban_tokens items stored ban =
    (Token.begin_object ∷ []) ++ (tokens_of (own_members_with (subnet_name ban.subnet) ban)
    ++ (flat_map (item_tokens items) (places_at stored ban.subnet) ++ Token.end_object ∷ []))

-- an element that is no ban
abbrev pub other_tokens : Element → List Token
other_tokens e = flat_map json_tokens (other_of e.0 e.1)
