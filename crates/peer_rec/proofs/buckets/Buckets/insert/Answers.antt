use Rattle.std.proofs.Common.{arith, ap, ◌≡◌, ◌∙◌, ◌++◌, ◌∷◌, [], ℕ, List, length, append_assoc, filter, nat_lt}
use Rattle.std.proofs.lemmas.Grind.{common_steps}
use Rattle.peer_rec.proofs.Lists.{length-below_above}
use Rattle.peer_rec.proofs.buckets.Buckets.insert.Goals as goal

pub push-requires : goal.push-requires
push-requires c =
    let b = c.args.bucket in
    let few = length-below_above b c.args.self.now in
    let less = c.below-items.ensures ∙ ap (filter (λ x. nat_lt x b)) c.items.ensures.items in
    let long : length c.below-items.result.items ≡ length (filter (λ x. nat_lt x b) c.args.self.now) = ap length less in
    grind (arith, common_steps, few, long)

pub append-requires : goal.append-requires
append-requires c =
    let b = c.args.bucket in
    let few = length-below_above b c.args.self.now in
    let less = c.below-items.ensures ∙ ap (filter (λ x. nat_lt x b)) c.items.ensures.items in
    let long : length c.below-items.result.items ≡ length (filter (λ x. nat_lt x b) c.args.self.now) = ap length less in
    let more = c.as_slice.ensures.value ∙ c.above-above.ensures ∙ ap (filter (λ x. nat_lt b x)) c.items-2.ensures.items in
    let long-2 : length c.as_slice.result.now ≡ length (filter (λ x. nat_lt b x) c.args.self.now) = ap length more in
    grind (arith, common_steps, few, long, long-2)

pub returns : goal.returns
returns c =
    let b = c.args.bucket in
    let less = λ (xs : List ℕ). filter (λ x. nat_lt x b) xs in
    let more = λ (xs : List ℕ). filter (λ x. nat_lt b x) xs in
    c.of.ensures
    ∙ c.append.ensures
    ∙ ap (λ xs. xs ++ c.as_slice.result.now) (c.push.ensures.items ∙ ap (λ xs. xs ++ b ∷ []) (c.below-items.ensures ∙ ap less c.items.ensures.items))
    ∙ append_assoc (less c.args.self.now) (b ∷ []) c.as_slice.result.now
    ∙ ap (λ ys. less c.args.self.now ++ b ∷ ys) (c.as_slice.ensures.value ∙ c.above-above.ensures ∙ ap more c.items-2.ensures.items)
