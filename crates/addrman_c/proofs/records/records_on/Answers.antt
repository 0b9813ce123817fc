use Rattle.std.proofs.Common.{◌∙◌, List, inr, subst}
use Rattle.peer_rec.specs.declared.rec.Rec.{Rec}
use Rattle.c_values.specs.Records.{RecordsPut}
use Rattle.addrman_c.proofs.records.records_on.Goals as goal

pub returns-in-Ok-clause-call : goal.returns-in-Ok-clause-call
returns-in-Ok-clause-call c =
    let new = c.put_records.new in
    inr (subst (λ (recs : List Rec). RecordsPut recs c.put_records.result c.args.out.now new.out new.length)
    (c.items.ensures ∙ c.in-Ok.ensures.found) c.put_records.ensures.call)
