-- What is written of the part of the picks that falls to each group, and how that ends.
use Rattle.std.specs.Prelude.{ℕ, List}
use Rattle.host_io.specs.Outside.{Outside}
use Rattle.arguments.specs.declared.grouping.Grouping.{Grouping}
use Rattle.arguments.specs.declared.grouping.Grouping.TheVariants as grouping
use Rattle.arguments.specs.declared.tables_from.TablesFrom.{TablesFrom}
use Rattle.table_groups.specs.View.{View}
use Rattle.table_risk.specs.Texts.{IsRiskText}
use Rattle.table_risk.specs.declared.by.By.{By}
use Rattle.table_risk.specs.declared.by.By.TheVariants.{Source, Peer, Network}
use Rattle.addrman_run.specs.Views.{ViewTextEnds}
use Rattle.addrman_run.specs.declared.risk.TheConstants.{AFTER_RESTART}
use Rattle.addrman_run.specs.declared.status.Status.{Status}

-- what makes records one group
abbrev pub by_of : Grouping → By
by_of grouping.Source = Source
by_of grouping.Peer = Peer
by_of grouping.Network = Network

-- the text of a view, at a time at which no try is of the last ten minutes
abbrev pub IsRisk : Grouping → View → List ℕ → Type 0
IsRisk by view = IsRiskText view (by_of by) AFTER_RESTART

-- How `risk source`, `risk peer` and `risk network` end: they write the share of the picks of each
-- group, or report why the tables are refused. Nothing in the folder changes.
abbrev pub RiskEnds : Grouping → TablesFrom → Outside → Outside → Status → Type 0
RiskEnds by from = ViewTextEnds (IsRisk by) from
