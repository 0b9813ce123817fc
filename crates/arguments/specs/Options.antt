-- The options that say how tables are opened, and what is listed.
use Rattle.std.specs.Prelude.{◌≡◌, ◌≢◌, ◌⊎◌, ⊤, ℕ, ◌<◌, ◌^◌, List, [], ◌∷◌, ◌++◌, length, Bool, true, false, Option, Some, None, Ok, codes}
use Rattle.std.specs.Int.{w32, to_be_bytes}
use Rattle.hex.specs.Hex.{decode_of}
use Rattle.peers_file.specs.declared.chain.Chain.{Chain}
use Rattle.ban_list.specs.declared.ban.BanRule.{BanRule}
use Rattle.ban_list.specs.declared.ban.BanRule.TheVariants.{Labels, Names}
use Rattle.placing.specs.declared.sum.SumRule.{SumRule}
use Rattle.placing.specs.declared.sum.SumRule.TheVariants.{Bytes, Bits}
use Rattle.peers_file.specs.declared.chain.Chain.TheVariants.{Main, Test, Testnet4, Signet, Regtest, Other}
use Rattle.grammar.specs.Fields.{Kind, Means, Nets, TheNets, TheNumber, Value, u64_field}
use Rattle.net_addr.specs.NetSet.{none}
use Rattle.peer_open.specs.declared.rules.OpenRules.{OpenRules}
use Rattle.arguments.specs.Inside.{Begins}
use Rattle.arguments.specs.declared.chain_option.ChainOption.{ChainOption}
use Rattle.arguments.specs.declared.chain_option.ChainOption.TheVariants.{Net, Magic}
use Rattle.arguments.specs.declared.colouring.Colouring.{Colouring}
use Rattle.arguments.specs.declared.colouring.Colouring.TheVariants as colouring
use Rattle.arguments.specs.declared.colours.Colours.{Colours}
use Rattle.arguments.specs.declared.colours.Colours.TheVariants as colours
use Rattle.arguments.specs.declared.file_kind.FileKind.{FileKind}
use Rattle.arguments.specs.declared.grouping.Grouping.{Grouping}
use Rattle.arguments.specs.declared.grouping.Grouping.TheVariants.{Source, Peer, Network}
use Rattle.arguments.specs.declared.marks.Marks.{Marks}
use Rattle.arguments.specs.declared.marks.TheConstants.{MAX_MARKS}
use Rattle.arguments.specs.declared.tables_from.TablesFrom.{TablesFrom}
use Rattle.arguments.specs.declared.tables_from.TablesFrom.TheVariants as from
use Rattle.risk_parts.specs.Sets.{IsSetText}
use Rattle.risk_parts.specs.declared.addr_set.AddrSet.{AddrSet}

-- a key of 32 bytes, as 64 hexadecimal digits in either case
abbrev pub IsKey : List ℕ → List ℕ → Type 0
IsKey digits key = (decode_of digits ≡ Ok key) × (length key ≡ 32)

-- an option with its value, as two arguments or as one with = between them
abbrev pub IsOption : List ℕ → List ℕ → List (List ℕ) → Type 0
IsOption name value words =
    (words ≡ name ∷ value ∷ []) ⊎ (words ≡ (name ++ codes "=" ++ value) ∷ [])

-- the name of a chain
abbrev pub IsName : List ℕ → Chain → Type 0
IsName name Main = name ≡ codes "main"
IsName name Test = name ≡ codes "test"
IsName name Testnet4 = name ≡ codes "testnet4"
IsName name Signet = name ≡ codes "signet"
IsName name Regtest = name ≡ codes "regtest"
IsName name (Other magic) = ⊥

-- the four bytes that begin the files of a chain, as 8 hexadecimal digits in either case
abbrev pub IsMagic : List ℕ → Chain → Type 0
IsMagic digits (Other magic) = (decode_of digits ≡ Ok (to_be_bytes w32 magic)) × (magic < 2 ^ 32)
IsMagic digits other = ⊥

-- the options that choose a chain: one by its name, the other by its first bytes
abbrev pub chain_option : ChainOption → List ℕ
chain_option Net = codes "--net"
chain_option Magic = codes "--magic"

-- The value of such an option names a chain.
abbrev pub IsChainValue : ChainOption → List ℕ → Chain → Type 0
IsChainValue Net value chain = IsName value chain
IsChainValue Magic value chain = IsMagic value chain

-- the arguments choose a chain: main if there are none
abbrev pub IsNet : List (List ℕ) → Chain → Type 0
IsNet options chain =
    ((options ≡ []) × (chain ≡ Main))
    ⊎ ((by : ChainOption) × (value : List ℕ) × IsChainValue by value chain
    × IsOption (chain_option by) value options)

-- these arguments, and `--no-key` before or after them
abbrev pub HasNoKey : List (List ℕ) → List (List ℕ) → Type 0
HasNoKey rest options =
    (options ≡ codes "--no-key" ∷ rest) ⊎ (options ≡ rest ++ codes "--no-key" ∷ [])

-- the arguments choose a chain, and whether the key is listed
abbrev pub IsListingOptions : Bool → List (List ℕ) → Chain → Type 0
IsListingOptions true options chain = IsNet options chain
IsListingOptions false options chain =
    (rest : List (List ℕ)) × HasNoKey rest options × IsNet rest chain

-- the arguments choose a key, or none
abbrev pub IsKeyOption : List (List ℕ) → Option (List ℕ) → Type 0
IsKeyOption options None = options ≡ []
IsKeyOption options (Some key) =
    (digits : List ℕ) × IsKey digits key × IsOption (codes "--key") digits options

-- the arguments choose a key, or none, and a chain, in either order
abbrev pub IsOpeningOptions : Option (List ℕ) → List (List ℕ) → Chain → Type 0
IsOpeningOptions key options chain =
    (first : List (List ℕ)) × (second : List (List ℕ)) × (options ≡ first ++ second) ×
    ((IsKeyOption first key × IsNet second chain) ⊎ (IsNet first chain × IsKeyOption second key))

-- the arguments begin with a word, and the others choose a chain
abbrev pub IsAfterWord : List ℕ → List (List ℕ) → Chain → Type 0
IsAfterWord word options chain =
    (rest : List (List ℕ)) × (options ≡ word ∷ rest) × IsNet rest chain

-- the arguments ask for the records of a file of this chain
abbrev pub IsAfterPeers : List (List ℕ) → Chain → Type 0
IsAfterPeers options chain = IsAfterWord (codes "--peers") options chain

-- the arguments ask for the anchors in a file of this chain
abbrev pub IsAfterAnchors : List (List ℕ) → Chain → Type 0
IsAfterAnchors options chain = IsAfterWord (codes "--anchors") options chain

-- what makes records one group, as people write it
abbrev pub grouping_word : Grouping → List ℕ
grouping_word Source = codes "source"
grouping_word Peer = codes "peer"
grouping_word Network = codes "network"

-- the arguments ask for groups of the records of a file of this chain
abbrev pub IsAfterGrouping : Grouping → List (List ℕ) → Chain → Type 0
IsAfterGrouping by options chain = IsAfterWord (grouping_word by) options chain

-- the arguments ask for the sets that the log names, of the records of a file of this chain
abbrev pub IsAfterDash : List (List ℕ) → Chain → Type 0
IsAfterDash options chain = IsAfterWord (codes "-") options chain

-- what the colours of a picture go by, as people write it
abbrev pub colouring_word : Colouring → List ℕ
colouring_word colouring.Network = codes "network"
colouring_word colouring.Source = codes "source"
colouring_word colouring.Group = codes "group"
colouring_word colouring.Age = codes "age"

-- the texts are those of the sets, in their order, and after these come no more
abbrev pub AreMarks : List (List ℕ) → List (Option AddrSet) → Type 0
AreMarks [] [] = ⊤
AreMarks [] (None ∷ sets) = AreMarks [] sets
AreMarks (text ∷ texts) (Some set ∷ sets) = IsSetText text set × AreMarks texts sets
AreMarks texts other = ⊥

-- the texts are those of the sets, of which there is one at least
abbrev pub IsMarks : List (List ℕ) → Marks → Type 0
IsMarks texts marks = (texts ≢ []) × (length marks.sets ≡ MAX_MARKS) × AreMarks texts marks.sets

-- the arguments begin with an option that chooses this chain; the others are the rest
abbrev pub HasChain : Chain → List (List ℕ) → List (List ℕ) → Type 0
HasChain chain rest options =
    (by : ChainOption) × (value : List ℕ) × IsChainValue by value chain
    × Begins (chain_option by) value rest options

-- the arguments choose a chain, and the last ones are `--mark` and the texts of sets
abbrev pub IsMarked : Marks → List (List ℕ) → Chain → Type 0
IsMarked marks options chain =
    (texts : List (List ℕ)) × IsMarks texts marks
    × (((options ≡ codes "--mark" ∷ texts) × (chain ≡ Main))
    ⊎ HasChain chain (codes "--mark" ∷ texts) options)

-- the arguments choose a chain, and what the colours of a picture show: if they begin with `--by`,
-- what the next word says; and if they end with `--mark` and texts, which of these sets have a peer
abbrev pub IsAfterColouring : Colours → List (List ℕ) → Chain → Type 0
IsAfterColouring colours.Plain options chain = IsNet options chain
IsAfterColouring (colours.By by) options chain =
    (rest : List (List ℕ)) × Begins (codes "--by") (colouring_word by) rest options
    × IsNet rest chain
IsAfterColouring (colours.Marks marks) options chain = IsMarked marks options chain

-- the arguments begin with `--core`, which chooses Bitcoin Core's checksum of an asmap, or do not;
-- the others are the rest
abbrev pub HasRule : SumRule → List (List ℕ) → List (List ℕ) → Type 0
HasRule Bytes rest options = options ≡ rest
HasRule Bits rest options = options ≡ codes "--core" ∷ rest

-- the arguments choose a rule, and the others a chain among other things
abbrev pub IsFileOptions : (List (List ℕ) → Chain → Type 0) → List (List ℕ) → FileKind → Type 0
IsFileOptions IsChosen options kind =
    (rest : List (List ℕ)) × HasRule kind.rule rest options × IsChosen rest kind.chain

-- the arguments begin with `--raw -`, which has a listing read in the place of a file; the others
-- are the rest
abbrev pub IsRaw : List (List ℕ) → List (List ℕ) → Type 0
IsRaw rest options = Begins (codes "--raw") (codes "-") rest options

-- the arguments say where the tables come from: a file, or a listing
abbrev pub IsTables : (List (List ℕ) → Chain → Type 0) → List (List ℕ) → TablesFrom → Type 0
IsTables IsChosen options (from.File kind) = IsFileOptions IsChosen options kind
IsTables IsChosen options (from.Listing chain) =
    (rest : List (List ℕ)) × IsRaw rest options × IsChosen rest chain

-- the arguments ask for the records of a file of this kind, or for none
abbrev pub IsPeersOption : List (List ℕ) → Option FileKind → Type 0
IsPeersOption options None = options ≡ []
IsPeersOption options (Some kind) = IsFileOptions IsAfterPeers options kind

-- the arguments begin with `--core`, which has a list of bans read and written as Bitcoin Core
-- does, or do not; the others are the rest
abbrev pub HasBanRule : BanRule → List (List ℕ) → List (List ℕ) → Type 0
HasBanRule Labels rest options = options ≡ rest
HasBanRule Names rest options = options ≡ codes "--core" ∷ rest

-- the arguments begin with an option whose value is of this kind; or they don't, and the value is
-- that without the option; the others are the rest
abbrev pub HasOption : List ℕ → Kind → Value → Value → List (List ℕ) → List (List ℕ) → Type 0
HasOption name kind without value rest options =
    ((options ≡ rest) × (value ≡ without))
    ⊎ ((text : List ℕ) × Means kind text value × Begins name text rest options)

-- the arguments begin with `--skip-bad-ports`, or do not; the others are the rest
abbrev pub HasPortRule : Bool → List (List ℕ) → List (List ℕ) → Type 0
HasPortRule true rest options = options ≡ codes "--skip-bad-ports" ∷ rest
HasPortRule false rest options = options ≡ rest

-- the arguments choose whether ports count, and then how tables are opened
abbrev pub IsPortOptions : Bool → Option (List ℕ) → List (List ℕ) → FileKind → Type 0
IsPortOptions skips key options kind =
    (rest : List (List ℕ)) × HasPortRule skips rest options
    × IsFileOptions (IsOpeningOptions key) rest kind

-- the services that are needed before these
abbrev pub IsServiceOptions : ℕ → Bool → Option (List ℕ) → List (List ℕ) → FileKind → Type 0
IsServiceOptions services skips key options kind =
    (rest : List (List ℕ))
    × HasOption (codes "--services") u64_field (TheNumber 0) (TheNumber services) rest options
    × IsPortOptions skips key rest kind

-- the networks that do not count for groups before these
abbrev pub IsOpenerOptions : OpenRules → Option (List ℕ) → List (List ℕ) → FileKind → Type 0
IsOpenerOptions rules key options kind =
    (rest : List (List ℕ))
    × HasOption (codes "--exempt") Nets (TheNets none) (TheNets rules.exempt) rest options
    × IsServiceOptions rules.services rules.skips_bad_ports key rest kind
