use Rattle.save_requests.proofs.Promise.{is_safe_save}
use Rattle.save_requests.proofs.requests.SaveRequests.begin.Goals as goal

pub returns-clause-promise : goal.returns-clause-promise
returns-clause-promise c = is_safe_save c.args.max c.args.bytes c.requires.some
