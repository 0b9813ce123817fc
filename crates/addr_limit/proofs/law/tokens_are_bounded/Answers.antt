use Rattle.addr_limit.proofs.Fits.{after-bounded}
use Rattle.addr_limit.proofs.law.tokens_are_bounded.Goals as goal

pub returns : goal.returns
returns c = λ st event h. after-bounded st event h
