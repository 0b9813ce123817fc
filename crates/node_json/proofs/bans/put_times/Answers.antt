use Rattle.std.proofs.Common.{◌-◌, ◌++◌, ◌∙◌}
use Rattle.node_json.specs.Inside.{span_tokens}
use Rattle.node_json.proofs.bans.put_times.Goals as goal

pub returns : goal.returns
returns c =
    c.in_ok-put_span.ensures
    ∙ (λ i. c.args.json.now ++ span_tokens (c.from-created.ensures i) (c.from-until.ensures i)
    ((c.saturating_sub-duration.ensures ∙ (λ j. c.from-until.ensures j - c.from-created.ensures j)) i)
    ((c.saturating_sub-remaining.ensures ∙ (λ j. c.from-until.ensures j - c.from-at.ensures j)) i))
