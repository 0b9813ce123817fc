use Rattle.std.proofs.Common.{◌≡◌, [], ◌∷◌, length, map, ◌∙◌, subst}
use Rattle.std.specs.Prelude.{flat_map}
use Rattle.json.specs.Token.{begin_array, end_array}
use Rattle.json.specs.Value.{value_view}
use Rattle.ban_list.specs.OldFile.{IsAppended, ban_tokens, elements_with, other_tokens}
use Rattle.ban_list.proofs.NamedLaws.{four_appended, list_same, viewed_length}
use Rattle.ban_list.proofs.named_text.put_list.Goals as goal

pub returns : goal.returns
returns c =
    let js = map value_view c.args.items.now in
    let subnets = c.args.subnets.now in
    let stored = c.args.places.now.entries in
    let begun = c.in_ok-begin_array.ensures in
    let ended = c.in_ok-end_array.ensures in
    subst (IsAppended c.args.writer.now c.end_array.new.self) (list_same js subnets stored (viewed_length c.args.items.now ∙ c.requires.subnets) c.requires.places c.args.bans.now)
    (four_appended c.args.writer.now c.begin_array.new.self c.put_bans.new.writer c.put_others.new.writer c.end_array.new.self (begin_array ∷ []) (flat_map (ban_tokens js stored) c.args.bans.now)
    (flat_map other_tokens (elements_with js subnets)) (end_array ∷ []) (begun.ok, begun.room.0) c.in_ok-put_bans.ensures c.in_ok-put_others.ensures (ended.ok, ended.room.0))
