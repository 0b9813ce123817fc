use Rattle.std.proofs.Common.{rules, ap, ◌∙◌, filter, nat_lt}
use Rattle.arrayvec.proofs.ArrayVecLemmas.{filter-from_retain}
use Rattle.peer_rec.proofs.buckets.above.Goals as goal

pub returns : goal.returns
returns c =
    filter-from_retain _ _ _ (λ x b f' y called. search rules) _ _ c.retain.ensures.filtered
    ∙ ap (filter (λ b. nat_lt c.args.bucket b)) c.list_of-items.ensures
