use Rattle.std.proofs.Common.{[], ◌∷◌, map, ap, ◌∙◌, subst}
use Rattle.std.specs.Prelude.{flat_map}
use Rattle.json.specs.Token.{begin_object, end_object}
use Rattle.json.specs.Value.{value_view}
use Rattle.ban_list.specs.NewFile.{own_members, own_members_with}
use Rattle.ban_list.specs.OldFile.{IsAppended, item_tokens, places_at, tokens_of}
use Rattle.ban_list.proofs.NamedLaws.{four_appended}
use Rattle.ban_list.proofs.named_text.put_ban.Goals as goal

pub returns : goal.returns
returns c =
    let ban = c.args.ban.now in
    let one = c.begin_object.new.self in
    let two = c.put_own.new.writer in
    let three = c.put_found.new.writer in
    let begun = c.in_ok-begin_object.ensures in
    let ended = c.in_ok-end_object.ensures in
    let own = subst (λ text. IsAppended one two (tokens_of (own_members_with text ban))) (c.as_str.ensures.value ∙ c.in_ok-name.ensures) c.in_ok-put_own.ensures in
    four_appended c.args.writer.now one two three c.end_object.new.self (begin_object ∷ []) (tokens_of (own_members ban))
    (flat_map (item_tokens (map value_view c.args.items.now)) (places_at c.args.places.now.entries ban.subnet)) (end_object ∷ [])
    (begun.ok, begun.room.0) own c.in_ok-put_found.ensures (ended.ok, ended.room.0)
