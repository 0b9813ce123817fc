use Rattle.std.proofs.Common.{ap, ◌∙◌}
use Rattle.placing.specs.Places.{group, source_bucket}
use Rattle.placing.proofs.Buckets.{Contains-map}
use Rattle.placing.proofs.placer.Placer.new_bucket.Goals as goal

pub returns-clause-reach : goal.returns-clause-reach
returns-clause-reach c =
    let bucket = c.source_bucket.ensures.value ∙ ap (λ g. source_bucket c.args.self.now g c.source_choice-choice.result) (c.as_slice-3.ensures.value ∙ c.group-source_group.ensures) in
    Contains-map (source_bucket c.args.self.now (group c.args.self.now c.args.source.now)) 64 c.source_choice-choice.result c.source_bucket.result c.source_choice-choice.ensures.below bucket
