use Rattle.wire_num.proofs.ReadingLaws.{one_meaning, AreBytes-all}
use Rattle.addr_codecs.specs.Layout.{message, addr_entry, addrv2_entry}
use Rattle.addr_codecs.specs.Inside.{message_at, addr_entry_at, addrv2_entry_at}
use Rattle.addr_codecs.specs.declared.fault.MsgFault.TheVariants.{Trailing}
use Rattle.addr_codecs.proofs.MessageLaws.{Reads-message, Reads-addr_entry, Reads-addrv2_entry}
use Rattle.addr_codecs.proofs.law.messages_have_one_meaning.Goals as goal

pub returns-clause-addr : goal.returns-clause-addr
returns-clause-addr c = λ bytes all. one_meaning (message addr_entry) Trailing (message_at addr_entry_at) bytes (Reads-message addr_entry addr_entry_at Reads-addr_entry) (AreBytes-all bytes all)

pub returns-clause-addrv2 : goal.returns-clause-addrv2
returns-clause-addrv2 c = λ bytes all. one_meaning (message addrv2_entry) Trailing (message_at addrv2_entry_at) bytes (Reads-message addrv2_entry addrv2_entry_at Reads-addrv2_entry) (AreBytes-all bytes all)
