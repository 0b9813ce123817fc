use Rattle.std.proofs.Common.{◌∙◌, ℕ, List, [], Option, Some, refl, ap, subst}
use Rattle.addr_codecs.specs.declared.form.Form.{Form}
use Rattle.ban_list.specs.declared.ban.Ban.{Ban}
use Rattle.net_addr.specs.Address.{Address}
use Rattle.c_values.specs.Values.{address_in}
use Rattle.addrman_c.specs.Calls.{ChosenCall, form_of}
use Rattle.addrman_c.proofs.OnHandles.{done}
use Rattle.addrman_c.proofs.adding_chosen.addrman_take_chosen.Goals as goal

pub returns-clause-call : goal.returns-clause-call
returns-clause-call c =
    let a = c.args in
    let kept = c.deref_mut.result.now in
    let code = c.chosen_on-code in
    let new = code.new in
    let formed =
    subst (λ (form : Form). ChosenCall form a.payload.now c.read_addr.result a.max a.services c.read_nets.result c.make-none.result a.words.now a.now kept.tables code.result new.added new.fault new.tables)
    c.form_of.ensures code.ensures.call in
    let free =
    subst (λ (bans : List Ban). ChosenCall (form_of a.is_v2) a.payload.now c.read_addr.result a.max a.services c.read_nets.result bans a.words.now a.now kept.tables code.result new.added new.fault new.tables)
    c.make-none.ensures formed in
    let sent =
    subst (λ (source : Option Address). ChosenCall (form_of a.is_v2) a.payload.now source a.max a.services c.read_nets.result [] a.words.now a.now kept.tables code.result new.added new.fault new.tables)
    c.read_addr.ensures free in
    done _ _ _ kept (record kept { tables = new.tables }) _ (ap Some c.deref_mut.ensures.value ∙ c.in-Some.ensures.taken) c.put.ensures refl
    (subst (λ (nets : List ℕ). ChosenCall (form_of a.is_v2) a.payload.now (address_in a.source.now) a.max a.services nets [] a.words.now a.now kept.tables code.result new.added new.fault new.tables)
    c.read_nets.ensures sent)
