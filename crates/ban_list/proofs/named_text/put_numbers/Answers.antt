use Rattle.std.proofs.Common.{codes}
use Rattle.ban_list.specs.OldFile.{member_tokens, number_member}
use Rattle.ban_list.proofs.NamedLaws.{then_appended, on_appended}
use Rattle.ban_list.proofs.named_text.put_numbers.Goals as goal

pub returns : goal.returns
returns c =
    let start = c.args.writer.now in
    let one = c.put_number.new.writer in
    let two = c.put_number-2.new.writer in
    let end = c.put_number-3.new.writer in
    let created = member_tokens (number_member (codes "ban_created") c.args.created) in
    let until = member_tokens (number_member (codes "banned_until") c.args.until) in
    let version = member_tokens (number_member (codes "version") 1) in
    on_appended c.put_number-3.result start two end _ version (then_appended start one two created until c.in_ok-put_number.ensures c.in_ok-put_number-2.ensures) c.put_number-3.ensures
