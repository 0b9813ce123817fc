use Rattle.std.proofs.Common.{rules, append_assoc}
use Rattle.log_lines.specs.Replies.{reply_text}
use Rattle.addr_limit.proofs.print.reply_line.Goals as goal

pub returns : goal.returns
unfolding reply_text
returns c = search (rules, append_assoc)
