use Rattle.std.proofs.Common.{◌≡◌, ◌<◌, ◌∙◌, Some, None, sym, ap, subst, inl, inr}
use Rattle.std.specs.Prelude.{slice_index_or}
use Rattle.std.proofs.lemmas.Bool.{cases_eq}
use Rattle.placing.specs.Places.{source_bucket}
use Rattle.table_plan.specs.Reach.{IsKept}
use Rattle.table_plan.proofs.reach.Reach.bucket.Goals as goal

pub returns-in-Some-clause-below : goal.returns-in-Some-clause-below
returns-in-Some-clause-below c =
    (c.turn_to.ensures.reach c.args.placer.now c.requires.reach c.args.choice c.in-Some.bucket c.requires.choice (sym c.at.ensures ∙ c.in-Some.is)).below

pub returns-in-Some-clause-reach : goal.returns-in-Some-clause-reach
returns-in-Some-clause-reach c = c.turn_to.ensures.reach c.args.placer.now c.requires.reach

pub returns-in-None-clause-reach : goal.returns-in-None-clause-reach
returns-in-None-clause-reach c choice bucket less found = elim (cases_eq choice c.args.choice) [
  | inl same ↦
      let own : bucket ≡ c.source_bucket-bucket.result =
      ap (λ o. elim o [ None ↦ bucket | Some x ↦ x ]) (sym found ∙ ap (λ n. slice_index_or c.put.new.self.buckets n None) same ∙ c.put.ensures.put) in
      let group = ap (λ v. v.items) c.put.ensures.group ∙ c.turn_to.ensures.group in
      record {
        value = own ∙ c.source_bucket-bucket.ensures.value
            ∙ ap (λ n. source_bucket c.args.placer.now c.args.group.now n) (sym same)
            ∙ ap (λ xs. source_bucket c.args.placer.now xs choice) (sym group);
        below = subst (λ n. n < 1024) (sym own) c.source_bucket-bucket.ensures.below;
      }
  | inr differs ↦
      subst (λ xs. IsKept c.args.placer.now xs choice bucket) (ap (λ v. v.items) (sym c.put.ensures.group))
      (c.turn_to.ensures.reach c.args.placer.now c.requires.reach choice bucket less (sym (c.put.ensures.others choice less differs) ∙ found))
]
