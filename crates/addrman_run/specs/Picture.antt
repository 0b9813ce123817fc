-- What a picture of the tables writes, and how it ends.
use Rattle.std.specs.Prelude.{◌≡◌, ℕ, ⊤, All, List, [], ◌∷◌, Option, Some, None, codes}
use Rattle.std.specs.List.{flat_map}
use Rattle.host_io.specs.Outside.{Outside}
use Rattle.arguments.specs.declared.colouring.Colouring.{Colouring}
use Rattle.arguments.specs.declared.colouring.Colouring.TheVariants as colouring
use Rattle.arguments.specs.declared.colours.Colours.{Colours}
use Rattle.arguments.specs.Table.{AreProperSets}
use Rattle.arguments.specs.declared.colours.Colours.TheVariants as colours
use Rattle.arguments.specs.declared.marks.Marks.{Marks}
use Rattle.arguments.specs.declared.tables_from.TablesFrom.{TablesFrom}
use Rattle.peers_file.specs.declared.chain.Chain.{Chain}
use Rattle.peers_file.specs.declared.chain.Chain.TheVariants.{Main, Test, Testnet4, Signet, Regtest, Other}
use Rattle.picture_text.specs.Markup.{IsTree}
use Rattle.picture_text.specs.declared.by.By.{By}
use Rattle.picture_text.specs.declared.by.By.TheVariants.{Network, Source, Group, Age}
use Rattle.table_groups.specs.View.{View}
use Rattle.risk_parts.specs.declared.addr_set.AddrSet.{AddrSet}
use Rattle.table_picture.specs.Picture.{picture_by, picture_of, picture_of_sets}
use Rattle.table_picture.specs.Sets.{HasAddress}
use Rattle.addrman_run.specs.Views.{ViewTextEnds, chain_of}
use Rattle.addrman_run.specs.declared.status.Status.{Status}

-- what the colours go by
abbrev pub by_of : Colouring → By
by_of colouring.Network = Network
by_of colouring.Source = Source
by_of colouring.Group = Group
by_of colouring.Age = Age

-- the name of a chain in a picture
abbrev pub chain_name : Chain → List ℕ
chain_name Main = codes "main"
chain_name Test = codes "test"
chain_name Testnet4 = codes "testnet4"
chain_name Signet = codes "signet"
chain_name Regtest = codes "regtest"
chain_name (Other magic) = codes "of other first bytes"

-- the sets of some marks
abbrev pub in_option : Option AddrSet → List AddrSet
in_option None = []
in_option (Some set) = set ∷ []

-- The sets of the marks that are given.
abbrev pub sets_of : Marks → List AddrSet
sets_of marks = flat_map in_option marks.sets

-- the sets that colours go by, if there are some, are proper
abbrev pub AreProper : Colours → Type 0
AreProper (colours.Marks marks) = AreProperSets marks.sets
AreProper other = ⊤

-- each has an address, if it is no number
abbrev pub HaveAddresses : Colours → Type 0
HaveAddresses (colours.Marks marks) = All HasAddress (sets_of marks)
HaveAddresses other = ⊤

-- the picture, in which colours go by the source groups, or by what is chosen
abbrev pub picture_for : Colours → Chain → View → List ℕ
picture_for colours.Plain chain view = picture_of view
picture_for (colours.By by) chain view = picture_by (by_of by) (chain_name chain) view
picture_for (colours.Marks marks) chain view =
    picture_of_sets (sets_of marks) (chain_name chain) view

-- the picture of a view, the text of one tree of elements
pub record IsPicture (colours : Colours) (chain : Chain) (view : View) (text : List ℕ)
    : Type 0 where
  pub is : text ≡ picture_for colours chain view
  pub tree : IsTree (codes "svg") text

-- How `picture` ends: it writes the picture of the tables of peers.dat or of a listing, or reports
-- why they are refused. Nothing in the folder changes.
abbrev pub PictureEnds : Colours → TablesFrom → Outside → Outside → Status → Type 0
PictureEnds colours from = ViewTextEnds (IsPicture colours (chain_of from)) from
