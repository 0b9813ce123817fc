use Rattle.std.proofs.Common.{arith}
use Rattle.bit_code.proofs.RisingClasses.{class_of}
use Rattle.bit_code.proofs.ahead.class_ahead.Goals as goal

pub returns-clause-class : goal.returns-clause-class
returns-clause-class c = class_of c.args.window c.args.last (omega arith) c.requires

pub returns-clause-most : goal.returns-clause-most
returns-clause-most c = (class_of c.args.window c.args.last (omega arith) c.requires).within
