use Rattle.std.proofs.Common.{Some, ap, sym, ◌∙◌, subst}
use Rattle.ban_list.specs.SubnetText.{IsSubnetTextBy}
use Rattle.ban_list.proofs.Forms.{same_some}
use Rattle.ban_list.proofs.FileLaws.{same_ban}
use Rattle.ban_list.proofs.read_file.element_of.Goals as goal

pub returns-in_err-parse_subnet_by-clause-only : goal.returns-in_err-parse_subnet_by-clause-only
returns-in_err-parse_subnet_by-clause-only c = λ ban h.
    let text = c.as_bytes.ensures.value ∙ same_some c.in_ok-text.text.now h.address (c.in_ok-text.ensures ∙ h.address_text) in
    let e = c.in_err-parse_subnet_by.ensures.only ban.subnet (subst (λ t. IsSubnetTextBy c.args.rule t ban.subnet) (sym text) h.subnet) in
    cc

pub returns-clause-only : goal.returns-clause-only
returns-clause-only c = λ ban h.
    let text = c.as_bytes.ensures.value ∙ same_some c.in_ok-text.text.now h.address (c.in_ok-text.ensures ∙ h.address_text) in
    let subnet = same_some _ _ (c.in_ok-parse_subnet_by.ensures.only ban.subnet (subst (λ t. IsSubnetTextBy c.args.rule t ban.subnet) (sym text) h.subnet)) in
    ap Some (same_ban _ ban subnet (same_some _ _ (c.in_ok-created_of.ensures ∙ h.created)) (same_some _ _ (c.in_ok-until_of.ensures ∙ h.until)))
