use Rattle.table_groups.specs.View.{view_of}
use Rattle.node_json.proofs.Sums.{lists-slots, rows_add_up}
use Rattle.node_json.proofs.law.groups_add_up.Goals as goal

pub returns-clause-views : goal.returns-clause-views
returns-clause-views c = λ view listed. rows_add_up view listed

pub returns-clause-tables : goal.returns-clause-tables
returns-clause-tables c = λ st. rows_add_up (view_of st) (lists-slots st)
