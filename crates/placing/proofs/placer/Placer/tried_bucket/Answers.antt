use Rattle.std.proofs.Common.{ap, ◌∙◌}
use Rattle.placing.specs.Places.{group, group_bucket}
use Rattle.placing.proofs.Buckets.{Contains-map}
use Rattle.placing.proofs.placer.Placer.tried_bucket.Goals as goal

pub returns-clause-reach : goal.returns-clause-reach
returns-clause-reach c =
    let bucket = c.group_bucket.ensures.value ∙ ap (λ g. group_bucket c.args.self.now g c.group_choice-choice.result) (c.as_slice.ensures.value ∙ c.group-group.ensures) in
    Contains-map (group_bucket c.args.self.now (group c.args.self.now c.args.peer.now.addr)) 8 c.group_choice-choice.result c.group_bucket.result c.group_choice-choice.ensures.below bucket
