use Rattle.std.proofs.Common.{◌≡◌, ◌∷◌, ◌++◌, []}
use Rattle.node_json.specs.Inside.{tokens_of}
use Rattle.node_json.specs.Raw.{both_members, name_of, table_members}
use Rattle.node_json.specs.Value.{Member, object_of}
use Rattle.node_json.specs.declared.table.Table.TheVariants.{New, Tried}
use Rattle.node_json.proofs.Tokens.{member_more, on_ok}
use Rattle.node_json.proofs.raw.put_both.Goals as goal

pub returns : goal.returns
unfolding both_members
returns g c =
    let st = c.args.tables.now in
    let new : Member = (name_of New, object_of (table_members New st)) in
    let tried : Member = (name_of Tried, object_of (table_members Tried st)) in
    on_ok _ (c.put_table-2.new.json ≡ c.args.json.now ++ tokens_of (both_members st)) c.put_table-2.result
    (λ h. member_more (new ∷ []) tried c.args.json.now _ _ c.in_ok-put_table.ensures h) c.put_table-2.ensures
