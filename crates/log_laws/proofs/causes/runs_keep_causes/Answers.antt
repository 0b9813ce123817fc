use Rattle.log_laws.proofs.Laws.{keeps_causes}
use Rattle.log_laws.proofs.causes.runs_keep_causes.Goals as goal

pub returns : goal.returns
returns c = λ file places st lines opening. keeps_causes file places st opening lines
