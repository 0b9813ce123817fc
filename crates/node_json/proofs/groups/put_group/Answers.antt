use Rattle.std.proofs.Common.{◌∷◌, ◌++◌, ◌∙◌, [], ap, codes, sym}
use Rattle.json.specs.Json.{string}
use Rattle.table_groups.specs.Names.{name_of}
use Rattle.placing.specs.Places.{asn}
use Rattle.node_json.specs.Groups.{group_members, number_members}
use Rattle.node_json.specs.Inside.{tokens_of}
use Rattle.node_json.specs.Value.{unless_zero}
use Rattle.node_json.proofs.Tokens.{object_value, three_parts, tokens_of-append}
use Rattle.node_json.proofs.groups.put_group.Goals as goal

pub returns : goal.returns
unfolding group_members
returns c =
    let first = c.token.new.self in
    let places = c.args.placer.now in
    let a = c.args.addr.now in
    let name = (codes "group", string (name_of places a)) ∷ [] in
    let number = unless_zero (codes "mapped_as") (asn places.map a) in
    let rest = number_members c.args.numbers in
    object_value (group_members places c.args.numbers a) c.args.json.now _ _ _ c.in_ok-token.ensures.ok
    (three_parts first (tokens_of name) (tokens_of number) (tokens_of rest) _ _ _ c.in_ok-put_name.ensures
    (c.in_ok-put_unless_zero.ensures ∙ ap (λ n. c.put_name.new.json ++ tokens_of (unless_zero (codes "mapped_as") n)) c.asn.ensures) c.in_ok-put_numbers.ensures
    ∙ ap (λ ts. first ++ ts) (sym (tokens_of-append (name ++ number) rest ∙ ap (λ ts. ts ++ tokens_of rest) (tokens_of-append name number))))
    c.in_ok-token-2.ensures.ok
