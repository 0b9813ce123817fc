use Rattle.std.proofs.Common.{◌≡◌, ◌++◌}
use Rattle.node_json.specs.Inside.{span_tokens}
use Rattle.node_json.proofs.Tokens.{on_ok, three_parts, two_parts}
use Rattle.node_json.proofs.bans.put_span.Goals as goal

pub returns : goal.returns
unfolding span_tokens
returns c =
    on_ok _ (c.put_number-4.new.json ≡ c.args.json.now ++ span_tokens c.args.created c.args.until c.args.duration c.args.remaining) c.put_number-4.result
    (λ h. two_parts c.args.json.now _ _ _ _ (three_parts c.args.json.now _ _ _ _ _ _ c.in_ok-put_number.ensures c.in_ok-put_number-2.ensures c.in_ok-put_number-3.ensures) h)
    c.put_number-4.ensures
