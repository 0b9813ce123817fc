use Rattle.std.proofs.Common.{rules, ap, ◌∙◌}
use Rattle.arrayvec.proofs.ArrayVecLemmas.{filter-from_retain}
use Rattle.peer_rec.specs.Buckets.{without_bucket}
use Rattle.peer_rec.proofs.buckets.Buckets.remove.Goals as goal

pub returns : goal.returns
returns c =
    c.of.ensures
    ∙ filter-from_retain _ _ _ (λ x b f' y called. search rules) _ _ c.retain.ensures.filtered
    ∙ ap (without_bucket c.args.bucket) (c.list_of-items.ensures ∙ c.items.ensures.items)
