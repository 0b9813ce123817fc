use Rattle.std.proofs.Common.{◌∙◌, subst, sym, rules}
use Rattle.table_groups.specs.Plain.{IsPlain}
use Rattle.node_json.proofs.groups.put_name.Goals as goal

pub text_of-requires : goal.text_of-requires
text_of-requires c =
    subst IsPlain (sym (c.as_slice.ensures.value ∙ c.in_ok-name.ensures)) (c.names_are_plain.ensures c.args.placer.now c.args.addr.now (search rules))
