use Rattle.log_laws.proofs.RunsOf.{keeps_losses}
use Rattle.log_laws.proofs.causes.runs_lose_with_causes.Goals as goal

pub returns : goal.returns
returns c = λ file places st lines opening. keeps_losses file places st opening lines
