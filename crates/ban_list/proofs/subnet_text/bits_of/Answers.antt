use Rattle.std.proofs.Common.{ap, ◌∙◌}
use Rattle.std.specs.Int.{w128, to_be_bytes}
use Rattle.net_addr.proofs.Words.{to_be_bytes-from_be_bytes_16}
use Rattle.ban_list.proofs.subnet_text.bits_of.Goals as goal

pub returns : goal.returns
returns c = ap (to_be_bytes w128) c.from_be_bytes.ensures ∙ to_be_bytes-from_be_bytes_16 c.args.bytes.now c.told-bytes c.fits-bytes
