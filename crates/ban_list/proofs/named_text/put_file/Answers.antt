use Rattle.std.proofs.Common.{drop, map, subst}
use Rattle.std.specs.Prelude.{flat_map}
use Rattle.json.specs.Value.{value_view}
use Rattle.ban_list.specs.NewFile.{list_tree}
use Rattle.ban_list.specs.OldFile.{IsAppended, besides_tokens, elements_with}
use Rattle.ban_list.specs.declared.named_text.Part.TheVariants as part
use Rattle.ban_list.proofs.NamedLaws.{file_same, rest_whole}
use Rattle.ban_list.proofs.named_text.put_file.Goals as goal

pub returns : goal.returns
returns c =
    let list = list_tree (elements_with (map value_view c.args.items.now) c.args.subnets.now) c.args.bans.now in
    let members = c.args.members.now in
    let count = c.in_ok-count.count in
    let begun = c.in_ok-begin_object.ensures in
    let named = c.in_ok-key.ensures in
    let ended = c.in_ok-end_object.ensures in
    let before = c.in_ok-count.ensures in
    let after = subst (λ ms. IsAppended c.put_list.new.writer c.put_besides.new.writer (flat_map (besides_tokens part.File) ms)) (rest_whole members count) c.in_ok-put_besides.ensures in
    file_same list members (drop count members) c.args.writer.now c.begin_object.new.self c.put_before.new.writer c.key.new.self c.put_list.new.writer c.put_besides.new.writer c.end_object.new.self
    (begun.ok, begun.room.0) (before.tokens list) before.before (named.ok, named.room.0) c.in_ok-put_list.ensures after (ended.ok, ended.room.0)
