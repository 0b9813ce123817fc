use Rattle.std.proofs.Common.{arith}
use Rattle.addr_limit.specs.LogState.{start}
use Rattle.addr_limit.proofs.LineLaws.{limits_apart_by_line}
use Rattle.addr_limit.proofs.law.connections_are_apart.Goals as goal

pub returns : goal.returns
returns c = λ number low. limits_apart_by_line number (omega (arith, low)) start
