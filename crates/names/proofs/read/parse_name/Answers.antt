use Rattle.std.proofs.Common.{◌≡◌, Some, map, sym, ap, ◌∙◌}
use Rattle.std.specs.Char.{to_ascii_lowercase}
use Rattle.std.specs.Int.{w32, to_be_bytes}
use Rattle.net_addr.specs.OldForm.{address}
use Rattle.net_addr.proofs.Forms.{if_some}
use Rattle.net_addr.specs.declared.net.Net.TheVariants.{Ipv4}
use Rattle.names.specs.Name.{HasLetters, IsColonText, IsName}
use Rattle.names.specs.Name.IsName.{colons, lettered}
use Rattle.names.proofs.Forms.{letters_only, dotted_only, colons_only}
use Rattle.names.proofs.read.parse_name.Goals as goal

pub returns-in-Some-clause-found : goal.returns-in-Some-clause-found
returns-in-Some-clause-found c =
    let cut = c.in-Some.ensures.cut in
    if_some (HasLetters c.in-Some.net (map to_ascii_lowercase c.in-Some.stem.now)) (IsName c.args.text.now) (λ a h. lettered c.in-Some.net c.in-Some.ensures.network (record {
      stem = c.in-Some.stem.now;
      end = cut.0;
      spelled = cut.1;
      suffix = cut.2;
      stem_letters = h;
    })) c.from_letters.result c.from_letters.ensures.found

pub returns-in-Some-clause-only : goal.returns-in-Some-clause-only
returns-in-Some-clause-only c = λ a h.
    let cut = c.in-Some.ensures.cut in
    c.from_letters.ensures.only a (letters_only c.in-Some.net c.args.text.now c.in-Some.stem.now cut.0 a c.in-Some.ensures.network cut.1 cut.2 h)

pub returns-in-Some-parse_ipv4-clause-only : goal.returns-in-Some-parse_ipv4-clause-only
returns-in-Some-parse_ipv4-clause-only c = λ a h.
    let text = dotted_only c.args.text.now c.in-Some-parse_ipv4.bits a c.in_default.ensures.none c.in-Some-parse_ipv4.ensures.found h in
    let found = c.in-Some-parse_ipv4.ensures.only text.bits text.bits_text in
    let same : c.in-Some-parse_ipv4.bits ≡ text.bits = cc in
    ap Some (c.ipv4.ensures.value ∙ ap (address Ipv4) (c.to_be_bytes.ensures ∙ ap (to_be_bytes w32) same) ∙ sym text.address)

pub returns-clause-found : goal.returns-clause-found
returns-clause-found c =
    if_some (IsColonText c.args.text.now) (IsName c.args.text.now) (λ a h. colons h) c.parse_colons.result c.parse_colons.ensures.found

pub returns-clause-only : goal.returns-clause-only
returns-clause-only c = λ a h.
    c.parse_colons.ensures.only a (colons_only c.args.text.now a c.in_default.ensures.none (λ n is. let no = c.in_default-parse_ipv4.ensures.only n is in cc) h)
