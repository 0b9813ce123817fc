use Rattle.std.proofs.Common.{ap, ◌∙◌}
use Rattle.node_json.proofs.info.counts_of.Goals as goal
use Rattle.net_addr.specs.NetSet.{with_net}
use Rattle.table_groups.specs.View.{wanted_new, wanted_tried}

pub returns-clause-new : goal.returns-clause-new
returns-clause-new g c = c.wanted_in.ensures.new ∙ ap (wanted_new (g.T.TableView.view c.args.tables.now)) (c.with.ensures ∙ ap (λ nets. with_net nets c.args.net) c.none.ensures)

pub returns-clause-tried : goal.returns-clause-tried
returns-clause-tried g c = c.wanted_in.ensures.tried ∙ ap (wanted_tried (g.T.TableView.view c.args.tables.now)) (c.with.ensures ∙ ap (λ nets. with_net nets c.args.net) c.none.ensures)
