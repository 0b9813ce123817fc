use Rattle.std.proofs.Common.{append_assoc, codes, decimal, sym, ap, ◌∙◌, ◌∷◌, ◌++◌, []}
use Rattle.json.specs.Token.{Token}
use Rattle.node_json.specs.Inside.{peer_tokens, source_tokens}
use Rattle.node_json.specs.Raw.{position_text, record_members}
use Rattle.node_json.proofs.Tokens.{object_written, two_parts}
use Rattle.node_json.proofs.Records.{record_tokens}
use Rattle.node_json.proofs.raw.put_record.Goals as goal

pub returns : goal.returns
returns c =
    let places = c.args.placer.now in
    let r = c.args.rec.now in
    object_written (position_text c.args.position.0 c.args.position.1) (record_members places r) c.args.json.now _ _ _
    (c.in_ok-put_begin.ensures ∙ ap (λ n. c.args.json.now ++ Token.key n ∷ Token.begin_object ∷ []) (c.as_str.ensures.value ∙ c.in_ok-name.ensures.ok ∙ sym (append_assoc (decimal c.args.position.0) (codes "/") (decimal c.args.position.1))))
    (two_parts _ (peer_tokens places r) (source_tokens places r) _ _ c.in_ok-put_peer.ensures c.in_ok-put_source.ensures
    ∙ ap (λ ts. c.put_begin.new.json ++ ts) (record_tokens places r))
    c.in_ok-token.ensures.ok
