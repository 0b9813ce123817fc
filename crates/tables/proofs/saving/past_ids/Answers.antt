use Rattle.std.proofs.Common.{rules, ◌≤◌, ◌<◌, All, length, subst, arith}
use Rattle.std.proofs.lemmas.List.{take_all}
use Rattle.std.proofs.lemmas.List.Elements.{All-more}
use Rattle.tables.proofs.saving.past_ids.Goals as goal

pub loop-id-preserved : goal.loop-id-preserved
loop-id-preserved c =
    let l = c.loop-id in
    let last = c.larger-last.result in
    let within : l.id-index < length c.args.ids.now = search rules in
    All-more (λ n. n ≤ last) c.args.ids.now l.id-index 0 within
    (λ k d low. let old = l.invariant k d low in omega (arith, old, c.larger-last.ensures.first))
    c.larger-last.ensures.second

pub returns : goal.returns
returns c =
    let l = c.loop-id in
    let over : length c.args.ids.now ≤ l.id-index = search rules in
    let all : All (λ n. n ≤ l.last) c.args.ids.now = subst (All (λ n. n ≤ l.last)) (take_all l.id-index c.args.ids.now over) l.invariant in
    λ k d within. let most = all k d within in omega (arith, most)
