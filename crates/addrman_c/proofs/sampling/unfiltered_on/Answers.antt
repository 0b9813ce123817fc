use Rattle.std.proofs.Common.{◌≤◌, ◌<◌, ◌^◌, ◌∙◌, List, length, inr, arith, subst}
use Rattle.peer_rec.specs.declared.rec.Rec.{Rec}
use Rattle.c_values.specs.Records.{RecordsPut}
use Rattle.addrman_c.proofs.sampling.unfiltered_on.Goals as goal

pub returns-in-Ok-clause-call : goal.returns-in-Ok-clause-call
returns-in-Ok-clause-call c =
    let few : c.args.percent ≤ 100 = omega (arith, c.if-percent-gt100.false) in
    let short : length c.args.words.now < 2 ^ 32 = omega (arith, c.if-words-gt4294967295.false) in
    let new = c.put_records.new in
    let put =
    subst (λ (recs : List Rec). RecordsPut recs c.put_records.result c.args.out.now new.out new.length)
    (c.items.ensures ∙ c.in-Ok.ensures.recs) c.put_records.ensures.call in
    inr (few, short, inr (c.in-Ok.ensures.enough, inr put))
