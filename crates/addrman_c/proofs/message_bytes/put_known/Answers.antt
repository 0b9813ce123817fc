use Rattle.std.proofs.Common.{◌∙◌, List, inr, subst}
use Rattle.net_addr.specs.declared.peer.Entry.{Entry}
use Rattle.c_values.specs.Entries.{EntriesPut}
use Rattle.addrman_c.proofs.message_bytes.put_known.Goals as goal

pub returns-in-Ok-clause-call : goal.returns-in-Ok-clause-call
returns-in-Ok-clause-call c =
    let new = c.put_entries.new in
    inr (subst (λ (es : List Entry). EntriesPut es c.put_entries.result c.args.out.now new.out new.length)
    (c.as_slice.ensures.value ∙ c.in-Ok.ensures.found) c.put_entries.ensures.call)
