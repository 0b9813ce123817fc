-- What the commands write that print the tables as JSON, and how they end.
use Rattle.std.specs.Prelude.{ℕ, List, Option, None}
use Rattle.arguments.specs.declared.file_kind.FileKind.{FileKind}
use Rattle.arguments.specs.declared.tables_from.TablesFrom.{TablesFrom}
use Rattle.host_io.specs.Outside.{Outside}
use Rattle.host_io.specs.Past.{Past}
use Rattle.node_json.specs.Groups.{groups_json}
use Rattle.node_json.specs.Info.{info_json}
use Rattle.node_json.specs.Raw.{raw_json}
use Rattle.node_json.specs.Value.{IsJsonText}
use Rattle.table_groups.specs.View.{View}
use Rattle.table_machine.specs.State.{State}
use Rattle.addrman_run.specs.Opening.{Opened, ReportsTables}
use Rattle.addrman_run.specs.TextOut.{TablesTextEnds}
use Rattle.addrman_run.specs.Views.{ViewTextEnds}
use Rattle.addrman_run.specs.declared.status.Status.{Status}

-- a text of the slots of the tables that the folder's peers.dat and asmap.dat open
abbrev pub IsRawText : FileKind → Option Past → List ℕ → Type 0
IsRawText kind past text =
    (tables : State) × Opened None kind past tables × IsJsonText (raw_json tables) text

-- How `raw` ends: it writes the slots of the tables as JSON, or reports why the tables are refused.
-- Nothing in the folder changes.
abbrev pub RawEnds : FileKind → Outside → Outside → Status → Type 0
RawEnds kind = TablesTextEnds (IsRawText kind) (ReportsTables kind.chain)

-- how many records each network has in what is looked at
abbrev pub IsInfoText : View → List ℕ → Type 0
IsInfoText view = IsJsonText (info_json view)

-- How `info` ends: it writes the numbers of records as JSON, or reports why the tables are refused.
-- Nothing in the folder changes.
abbrev pub InfoEnds : TablesFrom → Outside → Outside → Status → Type 0
InfoEnds = ViewTextEnds IsInfoText

-- how many slots, buckets and records each group has
abbrev pub IsGroupsText : View → List ℕ → Type 0
IsGroupsText view = IsJsonText (groups_json view)

-- How `groups` ends: it writes the groups as JSON, or reports why the tables are refused. Nothing
-- in the folder changes.
abbrev pub GroupsEnds : TablesFrom → Outside → Outside → Status → Type 0
GroupsEnds = ViewTextEnds IsGroupsText
