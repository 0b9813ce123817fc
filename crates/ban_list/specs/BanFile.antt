-- The file of a list of bans (`banlist.json`). Bitcoin Core reads it in `BanMapFromJson` in
-- net_types.cpp.
use Rattle.std.specs.Prelude.{◌≡◌, ◌⊎◌, ℕ, ◌+◌, ◌<◌, ◌≤◌, List, [], ◌∷◌, map, length, codes, min, Option, Some, None, option_and_then, IsUtf8}
use Rattle.std.specs.List.{fold}
use Rattle.serde_json.specs.Data.{Num, unsigned, negative, float, Data, Members, number, string, array, object, member, no_members}
use Rattle.serde_json.specs.Find.{get, as_array, as_number, as_str, as_u64}
use Rattle.serde_json.specs.Read.{read}
use Rattle.serde_json.specs.View.{items_of}
use Rattle.serde_json.specs.Written.{compact_text}
use Rattle.ban_list.specs.Bans.{put}
use Rattle.ban_list.specs.SubnetText.{IsSubnetText, IsSubnetTextBy, subnet_text, subnet_text_by}
use Rattle.ban_list.specs.declared.ban.Ban.{Ban}
use Rattle.ban_list.specs.declared.bans.TheConstants.{MAX_BANS}
use Rattle.ban_list.specs.declared.fault.BanFault.{BanFault}
use Rattle.ban_list.specs.declared.fault.BanFault.TheVariants.{Json, Form, TooMany, TooLarge, Memory}
use Rattle.ban_list.specs.declared.ban.BanRule.{BanRule}
use Rattle.ban_list.specs.declared.ban.BanRule.TheVariants.{Labels}

-- the greatest time
abbrev pub max_time : ℕ
max_time = 4294967295

-- a whole number clamped to the range of times, if the number is one: an integer of 64 bits
abbrev pub clamped : Num → Option ℕ
clamped (unsigned n) = Some (min n max_time)
clamped (negative z) = Some 0
clamped (float x) = None

-- the number under a name
abbrev pub number_at : List ℕ → Data → Option Num
number_at name d = option_and_then as_number (get name d)

-- the time under a name
abbrev pub time_at : List ℕ → Data → Option ℕ
time_at name d = option_and_then clamped (number_at name d)

-- an element that counts by the rule of a list, and its ban. All other elements are passed over
pub record IsElement (rule : BanRule) (d : Data) (ban : Ban) : Type 0 where
  pub version : option_and_then as_u64 (number_at (codes "version") d) ≡ Some 1
  pub address : List ℕ
  pub address_text : option_and_then as_str (get (codes "address") d) ≡ Some address
  pub subnet : IsSubnetTextBy rule address ban.subnet
  pub created : time_at (codes "ban_created") d ≡ Some ban.created
  pub until : time_at (codes "banned_until") d ≡ Some ban.until

-- the bans of the elements that count, in their order
unfoldable pub AreElements : BanRule → List Data → List Ban → Type 0
AreElements rule [] bans = bans ≡ []
AreElements rule (d ∷ ds) [] = ((ban : Ban) → IsElement rule d ban → ⊥) × AreElements rule ds []
AreElements rule (d ∷ ds) (ban ∷ bans) =
    (((other : Ban) → IsElement rule d other → ⊥) × AreElements rule ds (ban ∷ bans))
    ⊎ (IsElement rule d ban × AreElements rule ds bans)

-- one ban for each subnet: a later one takes the place of an earlier one
abbrev pub merged : List Ban → List Ban
merged bans = fold (λ done ban. put ban done) [] bans

-- the bytes are JSON text of this value, nested at most 127 deep
abbrev pub IsJson : List ℕ → Data → Type 0
IsJson bytes d = IsUtf8 bytes × (read bytes ≡ Some d)

-- the value is an object with an array under `banned_nets`, and these are its elements
abbrev pub HasElements : Data → List Data → Type 0
HasElements d ds = option_and_then as_array (get (codes "banned_nets") d) ≡ Some (items_of ds)

-- the file is that of the list, by the rule
pub record IsListFile (rule : BanRule) (bytes : List ℕ) (bans : List Ban) : Type 0 where
  pub value : Data
  pub json : IsJson bytes value
  pub elements : List Data
  pub form : HasElements value elements
  pub counted : List Ban
  pub are_counted : AreElements rule elements counted
  pub few : length counted ≤ MAX_BANS
  pub made : bans ≡ merged counted

-- The bytes are the file of a list, with addresses as labels.
abbrev pub IsBanFile : List ℕ → List Ban → Type 0
IsBanFile bytes bans = IsListFile Labels bytes bans

-- this many elements of the file do not count
pub record PassesOver (rule : BanRule) (bytes : List ℕ) (count : ℕ) : Type 0 where
  pub value : Data
  pub json : IsJson bytes value
  pub elements : List Data
  pub form : HasElements value elements
  pub counted : List Ban
  pub are_counted : AreElements rule elements counted
  pub rest : length counted + count ≡ length elements

-- an object without such an array, or no object
pub record HasNoForm (bytes : List ℕ) : Type 0 where
  pub value : Data
  pub json : IsJson bytes value
  pub none : option_and_then as_array (get (codes "banned_nets") value) ≡ None

-- more elements count than a list has
pub record HasTooMany (rule : BanRule) (bytes : List ℕ) : Type 0 where
  pub value : Data
  pub json : IsJson bytes value
  pub elements : List Data
  pub form : HasElements value elements
  pub counted : List Ban
  pub are_counted : AreElements rule elements counted
  pub many : MAX_BANS < length counted

-- the fault of a file
abbrev pub HasListFault : BanRule → List ℕ → BanFault → Type 0
HasListFault rule bytes Json = (d : Data) → IsJson bytes d → ⊥
HasListFault rule bytes Form = HasNoForm bytes
HasListFault rule bytes TooMany = HasTooMany rule bytes
HasListFault rule bytes (TooLarge size) = ⊥
HasListFault rule bytes Memory = ⊥

-- The fault of a file that is read with addresses as labels.
abbrev pub HasBanFault : List ℕ → BanFault → Type 0
HasBanFault bytes fault = HasListFault Labels bytes fault

-- The bytes are the file of one list or have one fault, and never both; that memory runs out is no
-- fault of bytes. That they are neither is impossible; which of the two holds, `read_bans` says.
pub record HasOneMeaning (rule : BanRule) (bytes : List ℕ) : Type 0 where
  pub some : ((bans : List Ban) → ¬ IsListFile rule bytes bans)
      → ((f : BanFault) → ¬ HasListFault rule bytes f) → ⊥
  pub one_list : (a b : List Ban) → IsListFile rule bytes a → IsListFile rule bytes b → a ≡ b
  pub one_fault : (f g : BanFault) → HasListFault rule bytes f → HasListFault rule bytes g → f ≡ g
  pub never_both : (a : List Ban) (f : BanFault) → IsListFile rule bytes a →
      HasListFault rule bytes f → ⊥

-- the members of a ban's element, with this text of its subnet
abbrev pub ban_members : List ℕ → Ban → Members
ban_members text ban =
    member (codes "address") (string text)
    (member (codes "ban_created") (number (unsigned ban.created))
    (member (codes "banned_until") (number (unsigned ban.until))
    (member (codes "version") (number (unsigned 1)) no_members)))

-- the element that is written for a ban with this text of its subnet
abbrev pub ban_data_with : List ℕ → Ban → Data
ban_data_with text ban = object (ban_members text ban)

-- the element that is written for a ban by the rule of a list
abbrev pub ban_data_by : BanRule → Ban → Data
ban_data_by rule ban = ban_data_with (subnet_text_by rule ban.subnet) ban

-- The element that is written for a ban, with addresses as labels.
abbrev pub ban_data : Ban → Data
ban_data ban = ban_data_by Labels ban

-- The whole file that is written for a list: an object with one array of bans.
abbrev pub file_data : List Ban → Data
file_data bans =
    object (member (codes "banned_nets") (array (items_of (map ban_data bans))) no_members)

-- the file that is written for a list: without spaces and line feeds
unfoldable pub bans_text : List Ban → List ℕ
bans_text bans = compact_text (file_data bans)

-- what is written of a ban is read as the ban; for private clauses
pub record IsReadBack (ban : Ban) : Type 0 where
  pub subnet : IsSubnetText (subnet_text ban.subnet) ban.subnet
  pub created : ban.created ≤ max_time
  pub until : ban.until ≤ max_time
