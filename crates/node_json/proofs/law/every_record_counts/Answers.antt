use Rattle.peer_rec.specs.Rec.{is_tried}
use Rattle.node_json.proofs.Counts.{counts_all}
use Rattle.node_json.proofs.law.every_record_counts.Goals as goal

pub returns : goal.returns
returns c = λ view. counts_all is_tried view.records
