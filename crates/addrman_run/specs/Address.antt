-- What is printed of an address, and how that ends.
use Rattle.std.specs.Prelude.{◌≡◌, ℕ, Bool, true, false, ◌==◌, List, [], ◌++◌, Option, codes, decimal, if◌then◌else◌}
use Rattle.hex.specs.Hex.{encode_lower}
use Rattle.host_io.specs.Outside.{Outside}
use Rattle.host_io.specs.Past.{Past}
use Rattle.asmap_vm.specs.Asmap.{Asmap}
use Rattle.names.specs.Name.{name_text}
use Rattle.net_addr.specs.Address.{Address}
use Rattle.net_addr.specs.Ranges.{is_routable, net_class}
use Rattle.net_addr.specs.Text.{addr_text, net_name}
use Rattle.net_group.specs.Group.{group_of}
use Rattle.placing.specs.Places.{asn}
use Rattle.addrman_run.specs.Asmaps.{IsMapIn, ReportsAsmap}
use Rattle.addrman_run.specs.TextOut.{TextEnds}
use Rattle.addrman_run.specs.declared.status.Status.{Status}

-- a line with a word and a value
abbrev pub value_line : List ℕ → List ℕ → List ℕ
value_line word value = word ++ (value ++ codes "\n")

-- the network of an address, its text as in a log, and its name
unfoldable pub name_lines : Address → List ℕ
name_lines a =
    value_line (codes "network ") (net_name a.net)
    ++ (value_line (codes "address ") (addr_text a) ++ value_line (codes "name ") (name_text a))

-- A truth value as a word.
abbrev pub yes_or_no : Bool → List ℕ
yes_or_no true = codes "yes"
yes_or_no false = codes "no"

-- the network that it is reached through, and whether it is routable
unfoldable pub class_lines : Address → List ℕ
class_lines a =
    value_line (codes "class ") (net_name (net_class a))
    ++ value_line (codes "routable ") (yes_or_no (is_routable a))

-- an AS number, left out if it is 0
abbrev pub number_line : ℕ → List ℕ
number_line number = if number == 0 then [] else value_line (codes "asn ") (decimal number)

-- an AS number, and the group of the address under it
unfoldable pub group_lines : Address → ℕ → List ℕ
group_lines a number =
    number_line number ++ value_line (codes "group ") (encode_lower (group_of a number))

-- what is known of an address under an asmap
unfoldable pub address_text : Option Asmap → Address → List ℕ
address_text map a = name_lines a ++ (class_lines a ++ group_lines a (asn map a))

-- a text about the address under the folder's asmap
abbrev pub IsAddressText : Address → Option Past → List ℕ → Type 0
IsAddressText a past text =
    (map : Option Asmap) × IsMapIn past map × (text ≡ address_text map a)

-- How `address` ends: it writes the lines about the address, under asmap.dat if the folder has one,
-- or reports why asmap.dat is refused. Nothing in the folder changes.
abbrev pub AddressEnds : Address → Outside → Outside → Status → Type 0
AddressEnds a = TextEnds (IsAddressText a) ReportsAsmap
