-- What commands look at that write a text of the records and their slots, and how they end.
use Rattle.std.specs.Prelude.{◌≡◌, ℕ, List, Option, None}
use Rattle.arguments.specs.declared.tables_from.TablesFrom.{TablesFrom}
use Rattle.arguments.specs.declared.tables_from.TablesFrom.TheVariants.{File, Listing}
use Rattle.host_io.specs.Outside.{Outside}
use Rattle.host_io.specs.Past.{Past}
use Rattle.peers_file.specs.declared.chain.Chain.{Chain}
use Rattle.table_groups.specs.View.{View, view_of}
use Rattle.table_machine.specs.State.{State}
use Rattle.addrman_run.specs.Listing.{IsListed, ReportsListing}
use Rattle.addrman_run.specs.Opening.{Opened, ReportsTables}
use Rattle.addrman_run.specs.TextOut.{TablesTextEnds}
use Rattle.addrman_run.specs.declared.status.Status.{Status}

-- the chain that the file or the listing is of
abbrev pub chain_of : TablesFrom → Chain
chain_of (File kind) = kind.chain
chain_of (Listing chain) = chain

-- the view is that of the tables that the folder's peers.dat and asmap.dat open, or that of the
-- listing in the place of peers.dat
abbrev pub IsView : TablesFrom → Option Past → View → Type 0
IsView (File kind) past view =
    (tables : State) × Opened None kind past tables × (view ≡ view_of tables)
IsView (Listing chain) past view = IsListed past view

-- a status that says why there is none
abbrev pub ReportsView : TablesFrom → Option Past → Status → Type 0
ReportsView (File kind) past answer = ReportsTables kind.chain past answer
ReportsView (Listing chain) past answer = ReportsListing past answer

-- a text of the view, by what a text of one is
abbrev pub IsViewText : (View → List ℕ → Type 0) → TablesFrom → Option Past → List ℕ → Type 0
IsViewText IsText from past text = (view : View) × IsView from past view × IsText view text

-- How a command ends that writes a text of the tables of peers.dat or of a listing.
abbrev pub ViewTextEnds : (View → List ℕ → Type 0) → TablesFrom → Outside → Outside → Status →
    Type 0
ViewTextEnds IsText from = TablesTextEnds (IsViewText IsText from) (ReportsView from)
