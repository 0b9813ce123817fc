use Rattle.std.proofs.Common.{ap, ◌∙◌, ◌∷◌, ◌++◌, []}
use Rattle.json.specs.Token.{Token}
use Rattle.node_json.specs.Raw.{name_of, table_members}
use Rattle.node_json.proofs.Tokens.{object_written}
use Rattle.node_json.proofs.raw.put_table.Goals as goal

pub returns : goal.returns
returns g c =
    object_written (name_of c.args.table) (table_members c.args.table c.args.tables.now) c.args.json.now _ _ _
    (c.in_ok-put_begin.ensures ∙ ap (λ n. c.args.json.now ++ Token.key n ∷ Token.begin_object ∷ []) c.name.ensures)
    c.in_ok-put_buckets.ensures c.in_ok-token.ensures.ok
