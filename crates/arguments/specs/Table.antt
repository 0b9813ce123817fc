-- The table of the commands, and what arguments ask for.
use Rattle.std.specs.Prelude.{◌≡◌, ◌≢◌, ◌⊎◌, ◌<◌, ◌≤◌, ℕ, Bool, List, [], ◌∷◌, Option, Some, None, codes, decimal, bytes_eq, if◌then◌else◌, ⊤}
use Rattle.ban_list.specs.BanFile.{max_time}
use Rattle.ban_list.specs.Subnet.{IsProper}
use Rattle.ban_list.specs.SubnetText.{IsSubnetTextBy}
use Rattle.ban_list.specs.declared.ban.BanRule.{BanRule}
use Rattle.ban_list.specs.declared.subnet.Subnet.{Subnet}
use Rattle.gen_load.specs.declared.generated.TheConstants.{MAX_LINES}
use Rattle.grammar.specs.Fields.{AllMean, Kind, Number, OfPeer, Value, TheNumber, ThePeer, u64_field}
use Rattle.names.specs.Text.{IsTextOf}
use Rattle.net_addr.specs.Address.{Address as NetAddress}
use Rattle.net_addr.specs.declared.peer.Peer.{Peer}
use Rattle.peers_file.specs.declared.chain.Chain.{Chain}
use Rattle.arguments.specs.Options.{HasBanRule, IsAfterAnchors, IsAfterColouring, IsAfterDash, IsAfterGrouping, IsFileOptions, IsListingOptions, IsNet, IsOpenerOptions, IsOpeningOptions, IsPeersOption, IsTables}
use Rattle.arguments.specs.declared.colours.Colours.{Colours}
use Rattle.arguments.specs.declared.colours.Colours.TheVariants as colours
use Rattle.arguments.specs.declared.file_kind.FileKind.{FileKind}
use Rattle.arguments.specs.declared.grouping.Grouping.{Grouping}
use Rattle.arguments.specs.declared.name.CommandName.{CommandName}
use Rattle.arguments.specs.declared.name.CommandName.TheVariants as name
use Rattle.arguments.specs.declared.request.Request.{Request}
use Rattle.arguments.specs.declared.request.Request.TheVariants.{Replay, Opener, Compile, Check, Decompile, Diff, Limit, Lookup, LookupLines, Address, AddressLines, Show, Anchors, Picture, Raw, Info, Groups, Risk, RiskLines, FromRaw, Ban, Unban, Banned, Bans, Gen, Trial, Help, Version}
use Rattle.arguments.specs.declared.tables_from.TablesFrom.{TablesFrom}
use Rattle.peer_open.specs.declared.rules.OpenRules.{OpenRules}
use Rattle.risk_parts.specs.Sets.{IsProperSet}
use Rattle.risk_parts.specs.declared.addr_set.AddrSet.{AddrSet}

-- THE NAME

-- the name of a command
abbrev pub command_word : CommandName → List ℕ
command_word name.Replay = codes "replay"
command_word name.Opener = codes "opener"
command_word name.Limit = codes "limit"
command_word name.Show = codes "show"
command_word name.Picture = codes "picture"
command_word name.Raw = codes "raw"
command_word name.Info = codes "info"
command_word name.Groups = codes "groups"
command_word name.Risk = codes "risk"
command_word name.FromRaw = codes "from-raw"
command_word name.Compile = codes "compile"
command_word name.Decompile = codes "decompile"
command_word name.Diff = codes "diff"
command_word name.Check = codes "check"
command_word name.Lookup = codes "lookup"
command_word name.Address = codes "address"
command_word name.Ban = codes "ban"
command_word name.Unban = codes "unban"
command_word name.Banned = codes "banned"
command_word name.Bans = codes "bans"
command_word name.Gen = codes "gen"
command_word name.Trial = codes "trial"
command_word name.Help = codes "help"
command_word name.Version = codes "version"

-- the command that `--help`, `-h` and `--version` ask for as first argument; any other argument is
-- itself
unfoldable pub plain_word : List ℕ → List ℕ
plain_word word =
    if bytes_eq word (codes "--help") then codes "help"
    else if bytes_eq word (codes "-h") then codes "help"
    else if bytes_eq word (codes "--version") then codes "version"
    else word

-- THE ARGUMENTS AFTER A NAME

-- the texts are the name of a command, or there are none
abbrev pub NameCommand : List (List ℕ) → Option CommandName → Type 0
NameCommand texts None = texts ≡ []
NameCommand texts (Some name) = texts ≡ command_word name ∷ []

-- What comes after the name of a command: fields of these kinds; the options `--key` and `--net`;
-- `--exempt`, `--services` and `--skip-bad-ports`, each or none, before these; these, but never
-- without `--key`; only `--net`; the same, or `--raw -` before it; these with `--by` before
-- `--net`, or with `--mark` and sets at the end; `--net` and `--no-key`, or `--anchors` and
-- `--net`; `--peers` and `--net`, or nothing; what makes records one group, and `--net`, or
-- `--raw -` before these, or `-` and `--net`; a subnet; a subnet and two times, the earlier one
-- first; fields of these kinds for a list of bans; the name of a command or nothing; `-` or a peer;
-- or `-`, or else what people write for an address. `--magic` with digits may be in the place of
-- `--net`. `--core` may be before all options of a file, but not beside `--raw -` or `--anchors`,
-- and before what is for a list of bans.
pub data Form : Type 0 where
  Fields : List Kind → Form
  Opening : Form
  Outgoing : Form
  Keyed : Form
  Network : Form
  Tables : Form
  Coloured : Form
  Listing : Form
  Records : Form
  Grouped : Form
  OfSubnet : Form
  Period : Form
  ForBans : List Kind → Form
  OfCommand : Form
  PeerOrLines : Form
  AddressOrLines : Form

-- the values of the arguments after a name
pub data Values : Type 0 where
  TheFields : List Value → Values
  TheOpening : Option (List ℕ) → FileKind → Values
  TheOpener : OpenRules → Option (List ℕ) → FileKind → Values
  TheKey : List ℕ → FileKind → Values
  TheKind : FileKind → Values
  TheTables : TablesFrom → Values
  TheColours : Colours → TablesFrom → Values
  TheListing : Bool → FileKind → Values
  TheAnchors : Chain → Values
  TheRecords : Option FileKind → Values
  TheGroups : Grouping → TablesFrom → Values
  TheSubnet : BanRule → Subnet → Values
  ThePeriod : BanRule → Subnet → ℕ → ℕ → Values
  TheBanFields : BanRule → List Value → Values
  TheCommand : Option CommandName → Values
  TheAddress : NetAddress → Values

-- the only text is what people write for this address
abbrev pub IsAddressIn : List (List ℕ) → NetAddress → Type 0
IsAddressIn texts addr = (text : List ℕ) × (texts ≡ text ∷ []) × IsTextOf text addr

-- the only text is the subnet, by the rule of the list of bans
abbrev pub IsSubnetIn : BanRule → List (List ℕ) → Subnet → Type 0
IsSubnetIn rule texts subnet =
    (text : List ℕ) × (texts ≡ text ∷ []) × IsSubnetTextBy rule text subnet

-- the texts are the subnet, by the rule of the list of bans, and two times, the earlier one first
abbrev pub IsPeriod : BanRule → List (List ℕ) → Subnet → ℕ → ℕ → Type 0
IsPeriod rule texts subnet now until =
    (text : List ℕ) × (texts ≡ text ∷ decimal now ∷ decimal until ∷ [])
    × IsSubnetTextBy rule text subnet × (now < until) × (until ≤ max_time)

-- the arguments after a name are of the form and have these values
abbrev pub Reads : Form → List (List ℕ) → Values → Type 0
Reads (Fields kinds) texts v =
    (values : List Value) × (v ≡ TheFields values) × AllMean kinds texts values
Reads Opening texts v =
    (key : Option (List ℕ)) × (kind : FileKind) × (v ≡ TheOpening key kind)
    × IsFileOptions (IsOpeningOptions key) texts kind
Reads Outgoing texts v =
    (rules : OpenRules) × (key : Option (List ℕ)) × (kind : FileKind)
    × (v ≡ TheOpener rules key kind) × IsOpenerOptions rules key texts kind
Reads Keyed texts v =
    (key : List ℕ) × (kind : FileKind) × (v ≡ TheKey key kind)
    × IsFileOptions (IsOpeningOptions (Some key)) texts kind
Reads Network texts v = (kind : FileKind) × (v ≡ TheKind kind) × IsFileOptions IsNet texts kind
Reads Tables texts v = (from : TablesFrom) × (v ≡ TheTables from) × IsTables IsNet texts from
Reads Coloured texts v =
    (colours : Colours) × (from : TablesFrom) × (v ≡ TheColours colours from)
    × IsTables (IsAfterColouring colours) texts from
Reads Listing texts v =
    ((keyed : Bool) × (kind : FileKind) × (v ≡ TheListing keyed kind)
    × IsFileOptions (IsListingOptions keyed) texts kind)
    ⊎ ((chain : Chain) × (v ≡ TheAnchors chain) × IsAfterAnchors texts chain)
Reads Records texts v =
    (peers : Option FileKind) × (v ≡ TheRecords peers) × IsPeersOption texts peers
Reads Grouped texts v =
    ((by : Grouping) × (from : TablesFrom) × (v ≡ TheGroups by from)
    × IsTables (IsAfterGrouping by) texts from)
    ⊎ ((kind : FileKind) × (v ≡ TheKind kind) × IsFileOptions IsAfterDash texts kind)
Reads OfSubnet texts v =
    (rule : BanRule) × (rest : List (List ℕ)) × (subnet : Subnet) × (v ≡ TheSubnet rule subnet)
    × HasBanRule rule rest texts × IsSubnetIn rule rest subnet
Reads Period texts v =
    (rule : BanRule) × (rest : List (List ℕ)) × (subnet : Subnet) × (now : ℕ) × (until : ℕ)
    × (v ≡ ThePeriod rule subnet now until) × HasBanRule rule rest texts
    × IsPeriod rule rest subnet now until
Reads (ForBans kinds) texts v =
    (rule : BanRule) × (rest : List (List ℕ)) × (values : List Value)
    × (v ≡ TheBanFields rule values) × HasBanRule rule rest texts × AllMean kinds rest values
Reads PeerOrLines texts v =
    ((v ≡ TheFields []) × (texts ≡ codes "-" ∷ []))
    ⊎ ((peer : Peer) × (v ≡ TheFields (ThePeer peer ∷ []))
    × AllMean (OfPeer ∷ []) texts (ThePeer peer ∷ []))
Reads AddressOrLines texts v =
    ((texts ≡ codes "-" ∷ []) × (v ≡ TheFields []))
    ⊎ ((texts ≢ codes "-" ∷ []) × ((addr : NetAddress) × (v ≡ TheAddress addr)
    × IsAddressIn texts addr))
Reads OfCommand texts v =
    (command : Option CommandName) × (v ≡ TheCommand command) × NameCommand texts command

-- the arguments after a name are not of the form
unfoldable pub HasNoValues : Form → List (List ℕ) → Type 0
HasNoValues form texts = (values : Values) → ¬ Reads form texts values

-- THE TABLE

-- The form of the arguments after the name of each command.
abbrev pub form_of : CommandName → Form
form_of name.Replay = Opening
form_of name.Opener = Outgoing
form_of name.Lookup = PeerOrLines
form_of name.Address = AddressOrLines
form_of name.Show = Listing
form_of name.Picture = Coloured
form_of name.Raw = Network
form_of name.Info = Tables
form_of name.Groups = Tables
form_of name.Risk = Grouped
form_of name.FromRaw = Keyed
form_of name.Diff = Records
form_of name.Ban = Period
form_of name.Unban = OfSubnet
form_of name.Banned = ForBans (OfPeer ∷ Number 0 max_time ∷ [])
form_of name.Bans = ForBans (Number 0 max_time ∷ [])
form_of name.Gen = Fields (u64_field ∷ Number 1 MAX_LINES ∷ [])
form_of name.Trial = Fields (u64_field ∷ Number 1 MAX_LINES ∷ [])
form_of name.Help = OfCommand
form_of other = Fields []

-- the name of a request's command
abbrev pub name_of : Request → CommandName
name_of (Replay key kind) = name.Replay
name_of (Opener rules key kind) = name.Opener
name_of Compile = name.Compile
name_of Check = name.Check
name_of Decompile = name.Decompile
name_of (Diff peers) = name.Diff
name_of Limit = name.Limit
name_of (Lookup peer) = name.Lookup
name_of LookupLines = name.Lookup
name_of (Address addr) = name.Address
name_of AddressLines = name.Address
name_of (Show keyed kind) = name.Show
name_of (Anchors chain) = name.Show
name_of (Picture colours from) = name.Picture
name_of (Raw kind) = name.Raw
name_of (Info from) = name.Info
name_of (Groups from) = name.Groups
name_of (Risk by from) = name.Risk
name_of (RiskLines kind) = name.Risk
name_of (FromRaw key kind) = name.FromRaw
name_of (Ban rule subnet now until) = name.Ban
name_of (Unban rule subnet) = name.Unban
name_of (Banned rule peer now) = name.Banned
name_of (Bans rule now) = name.Bans
name_of (Gen start lines) = name.Gen
name_of (Trial start lines) = name.Trial
name_of (Help command) = name.Help
name_of Version = name.Version

-- the values of its arguments
abbrev pub request_values : Request → Values
request_values (Replay key kind) = TheOpening key kind
request_values (Opener rules key kind) = TheOpener rules key kind
request_values (Lookup peer) = TheFields (ThePeer peer ∷ [])
request_values (Address addr) = TheAddress addr
request_values (Show keyed kind) = TheListing keyed kind
request_values (Anchors chain) = TheAnchors chain
request_values (Picture colours from) = TheColours colours from
request_values (Raw kind) = TheKind kind
request_values (Info from) = TheTables from
request_values (Groups from) = TheTables from
request_values (Risk by from) = TheGroups by from
request_values (RiskLines kind) = TheKind kind
request_values (FromRaw key kind) = TheKey key kind
request_values (Diff peers) = TheRecords peers
request_values (Ban rule subnet now until) = ThePeriod rule subnet now until
request_values (Unban rule subnet) = TheSubnet rule subnet
request_values (Banned rule peer now) = TheBanFields rule (ThePeer peer ∷ TheNumber now ∷ [])
request_values (Bans rule now) = TheBanFields rule (TheNumber now ∷ [])
request_values (Gen start lines) = TheFields (TheNumber start ∷ TheNumber lines ∷ [])
request_values (Trial start lines) = TheFields (TheNumber start ∷ TheNumber lines ∷ [])
request_values (Help command) = TheCommand command
request_values other = TheFields []

-- the arguments ask for this
abbrev pub Asks : List (List ℕ) → Request → Type 0
Asks words request =
    (word : List ℕ) × (texts : List (List ℕ)) × (words ≡ word ∷ texts)
    × (plain_word word ≡ command_word (name_of request))
    × Reads (form_of (name_of request)) texts (request_values request)

-- WHAT A REQUEST PROMISES

-- each set is proper
abbrev pub AreProperSets : List (Option AddrSet) → Type 0
AreProperSets [] = ⊤
AreProperSets (None ∷ sets) = AreProperSets sets
AreProperSets (Some set ∷ sets) = IsProperSet set × AreProperSets sets

-- the subnet of a request, if it has one, is proper, and so are the sets of a picture; a generated
-- log is within its limit
abbrev pub IsProperRequest : Request → Type 0
IsProperRequest (Ban rule subnet now until) = IsProper subnet
IsProperRequest (Unban rule subnet) = IsProper subnet
IsProperRequest (Gen start lines) = lines ≤ MAX_LINES
IsProperRequest (Trial start lines) = lines ≤ MAX_LINES
IsProperRequest (Picture (colours.Marks marks) from) = AreProperSets marks.sets
IsProperRequest other = ⊤
