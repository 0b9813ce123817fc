use Rattle.std.proofs.Common.{[], ◌∷◌, codes, subst}
use Rattle.std.specs.Prelude.{OnOk}
use Rattle.json.specs.Token.{key, string}
use Rattle.ban_list.specs.OldFile.{IsAppended, number_members, tokens_of}
use Rattle.ban_list.proofs.NamedLaws.{then_appended, on_appended}
use Rattle.ban_list.proofs.named_text.put_own.Goals as goal

pub returns : goal.returns
returns c =
    let start = c.args.writer.now in
    let one = c.key.new.self in
    let two = c.string.new.self in
    let end = c.put_numbers.new.writer in
    let name = c.in_ok-key.ensures in
    let text = c.in_ok-string.ensures in
    let numbers = subst (λ ms. OnOk c.put_numbers.result (IsAppended two end (tokens_of ms))) (λ i. number_members (c.from-created.ensures i) (c.from-until.ensures i)) c.put_numbers.ensures in
    let ban = c.args.ban.now in
    on_appended c.put_numbers.result start two end (key (codes "address") ∷ string c.args.name.now ∷ []) (tokens_of (number_members ban.created ban.until))
    (then_appended start one two (key (codes "address") ∷ []) (string c.args.name.now ∷ []) (name.ok, name.room.0) (text.ok, text.room.0)) numbers
