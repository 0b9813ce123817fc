use Rattle.std.proofs.Common.{Some, map}
use Rattle.addr_codecs.specs.Layout.{message, addr_entry}
use Rattle.addr_codecs.proofs.TextLaws.{reads_back, addr_written}
use Rattle.addr_codecs.proofs.writing.write_addr.Goals as goal

pub returns-clause-read_back : goal.returns-clause-read_back
returns-clause-read_back c =
    reads_back (λ bytes. (message addr_entry).spells bytes (map Some c.args.entries.now)) c.write_message.result c.write_message.ensures.found c.write_message.ensures.entries (λ fit. addr_written c.args.entries.now c.requires.count fit c.requires.networks)
