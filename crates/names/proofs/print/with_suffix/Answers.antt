use Rattle.std.proofs.lemmas.Str.{IsAscii-append}
use Rattle.names.specs.Name.{letters_of}
use Rattle.names.proofs.print.with_suffix.Goals as goal

pub returns-clause-ascii : goal.returns-clause-ascii
returns-clause-ascii c = IsAscii-append (letters_of c.args.addr.now.net c.args.addr.now.bytes) c.args.suffix.now c.letters_of.ensures.ascii c.requires.ascii
