use Rattle.std.proofs.Common.{ap, ◌∙◌, ◌++◌, codes}
use Rattle.node_json.specs.Inside.{source_tokens, tokens_of}
use Rattle.node_json.specs.Value.{unless_zero}
use Rattle.node_json.proofs.Tokens.{three_parts}
use Rattle.node_json.proofs.raw.put_source.Goals as goal

pub returns : goal.returns
unfolding source_tokens
returns c =
    three_parts c.args.json.now _ _ _ _ _ _ c.in_ok-put_name.ensures c.in_ok-put_class.ensures
    (c.in_ok-put_unless_zero.ensures ∙ ap (λ n. c.put_class.new.json ++ tokens_of (unless_zero (codes "source_mapped_as") n)) c.asn.ensures)
