use Rattle.std.proofs.Common.{sym, subst, arith}
use Rattle.json.specs.Print.{IsNumber}
use Rattle.json.proofs.Printed.Decimals.{IsNumber-decimal}
use Rattle.node_json.proofs.put.put_value.Goals as goal

pub token-requires : goal.token-requires
token-requires c = subst IsNumber (sym c.format.ensures.text) (IsNumber-decimal c.args.number (omega arith))
