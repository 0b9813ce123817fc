-- What the calls on lists of bans return, write and leave.
use Rattle.std.specs.Prelude.{◌≡◌, ◌⊎◌, ℕ, ◌<◌, List, [], length, find, is_some, Option, Some, None, MatchOption}
use Rattle.net_addr.specs.Address.{Address}
use Rattle.ban_list.specs.BanFile.{IsBanFile, HasBanFault, bans_text}
use Rattle.ban_list.specs.Bans.{after_ban, ban_of, listed, without_ban, stops}
use Rattle.ban_list.specs.SubnetText.{IsSubnetText}
use Rattle.ban_list.specs.declared.ban.Ban.{Ban}
use Rattle.ban_list.specs.declared.subnet.Subnet.{Subnet}
use Rattle.ban_list.specs.declared.bans.BanReply.{BanReply}
use Rattle.ban_list.specs.declared.bans.BanReply.TheVariants.{Added, Kept, Full}
use Rattle.ban_list.specs.declared.fault.BanFault.{BanFault}
use Rattle.ban_list.specs.declared.fault.BanFault.TheVariants.{Json, Form, TooMany, TooLarge, Memory}
use Rattle.c_handles.specs.declared.bans_handle.KeptBans.{KeptBans}
use Rattle.c_values.specs.declared.code.TheConstants.{OK, CLOSED, MEMORY, ARGUMENT, REFUSED, NONE}
use Rattle.c_values.specs.declared.structs.AddrmanBan.{AddrmanBan}
use Rattle.c_values.specs.declared.structs.AddrmanFault.{AddrmanFault}
use Rattle.c_values.specs.declared.values.AddrmanAddr.{AddrmanAddr}
use Rattle.c_values.specs.Faults.{fault_at}
use Rattle.c_values.specs.Values.{address_in, bit, IsPut}

-- A closed handle stays closed. An open one stays open, and its list before and after is as the
-- call says.
abbrev pub OnBans : Option KeptBans → ℕ → Option KeptBans → (List Ban → List Ban → Type 0) → Type 0
OnBans None code new Call = (code ≡ CLOSED) × (new ≡ None)
OnBans (Some kept) code None Call = ⊥
OnBans (Some kept) code (Some after) Call = Call kept.bans after.bans

-- the list of the bytes; no bytes are an empty list
abbrev pub IsListOf : List ℕ → List Ban → Type 0
IsListOf json bans =
    ((length json ≡ 0) × (bans ≡ [])) ⊎ ((0 < length json) × IsBanFile json bans)

-- why bytes are not read: memory, or the fault of a file
abbrev pub IsListFault : List ℕ → BanFault → Type 0
IsListFault json fault = (fault ≡ Memory) ⊎ HasBanFault json fault

-- the number of a fault in the header
abbrev pub ban_fault_number : BanFault → ℕ
ban_fault_number Json = 30
ban_fault_number Form = 31
ban_fault_number TooMany = 3
ban_fault_number (TooLarge size) = 19
ban_fault_number Memory = 0

-- the code and the output that say why bytes are not read
abbrev pub TellsList : BanFault → ℕ → AddrmanFault → Type 0
TellsList Memory code out = code ≡ MEMORY
TellsList why code out = (code ≡ REFUSED) × (out ≡ fault_at (ban_fault_number why) 0)

-- a list is read, or the handle is closed
abbrev pub ReadCall : List ℕ → ℕ → AddrmanFault → Option KeptBans → Type 0
ReadCall json code out None = (why : BanFault) × IsListFault json why × TellsList why code out
ReadCall json code out (Some kept) = (code ≡ OK) × IsListOf json kept.bans

-- the bytes of the file of a list
abbrev pub PrintCall : List Ban → ℕ → List ℕ → List ℕ → ℕ → Type 0
PrintCall bans code old new count =
    ((code ≡ MEMORY) × (new ≡ old)) ⊎ IsPut (bans_text bans) old code count new

-- the subnet that a text names, if it names one
abbrev pub IsParsed : List ℕ → Option Subnet → Type 0
IsParsed text None = (s : Subnet) → IsSubnetText text s → ⊥
IsParsed text (Some s) = IsSubnetText text s

-- the code and the outputs for a subnet, or None if there is none
abbrev pub SubnetCall : Option Subnet → ℕ → AddrmanAddr → ℕ → Type 0
SubnetCall None code base prefix = code ≡ ARGUMENT
SubnetCall (Some s) code base prefix =
    (code ≡ OK) × (address_in base ≡ Some s.addr) × (prefix ≡ s.len)

-- the number of a reply in the header
abbrev pub reply_number : BanReply → ℕ
reply_number Added = 0
reply_number Kept = 1
reply_number Full = 2

-- a subnet is banned; None is no subnet
abbrev pub BanCall : Option Subnet → ℕ → ℕ → List Ban → ℕ → ℕ → List Ban → Type 0
BanCall None now until old code reply new = (code ≡ ARGUMENT) × (new ≡ old)
BanCall (Some s) now until old code reply new =
    ((code ≡ MEMORY) × (new ≡ old))
    ⊎ ((code ≡ OK) × (reply ≡ reply_number (after_ban (ban_of s now until) old).reply)
    × (new ≡ (after_ban (ban_of s now until) old).bans))

-- a subnet is unbanned; None is no subnet
abbrev pub UnbanCall : Option Subnet → List Ban → ℕ → ℕ → List Ban → Type 0
UnbanCall None old code known new = (code ≡ ARGUMENT) × (new ≡ old)
UnbanCall (Some s) old code known new =
    (code ≡ OK) × (known ≡ bit (is_some (listed s old))) × (new ≡ without_ban s old)

-- the struct has the fields of the ban
pub record IsBan (out : AddrmanBan) (ban : Ban) : Type 0 where
  pub base : address_in out.base ≡ Some ban.subnet.addr
  pub prefix : out.prefix ≡ ban.subnet.len
  pub created : out.created ≡ ban.created
  pub until : out.until ≡ ban.until

-- the first ban that covers an address and is not over; None is no address
abbrev pub CoverCall : Option Address → ℕ → List Ban → ℕ → AddrmanBan → Type 0
CoverCall None now bans code out = code ≡ ARGUMENT
CoverCall (Some addr) now bans code out = MatchOption (find (stops addr now) bans) (code ≡ NONE)
    (λ ban. (code ≡ OK) × IsBan out ban)
