use Rattle.std.proofs.Common.{◌≡◌, ap, sym, ◌∙◌, arith}
use Rattle.net_addr.specs.Address.{Address}
use Rattle.net_addr.proofs.Forms.{if_some}
use Rattle.ban_list.specs.Subnet.{width}
use Rattle.ban_list.specs.SubnetText.{IsMaskedFrom, IsSubnetText}
use Rattle.ban_list.specs.SubnetText.IsSubnetText.{whole}
use Rattle.ban_list.proofs.Forms.{of_form, plain, cut, plain_made, masked_is, masked_not_whole, net_of_ip, same_some}
use Rattle.ban_list.proofs.subnet_text.parse_subnet.Goals as goal

pub returns-in-Some-clause-found : goal.returns-in-Some-clause-found
returns-in-Some-clause-found c = whole c.in-Some.ensures.found

pub returns-in-Some-clause-only : goal.returns-in-Some-clause-only
returns-in-Some-clause-only c = λ s h.
    of_form c.args.text.now s h (λ w. c.in-Some.ensures.only s w)
    (λ net m. absurd (masked_not_whole net c.args.text.now s c.in-Some.subnet m c.in-Some.ensures.found))

pub returns-in_err-addr-in-None-clause-only : goal.returns-in_err-addr-in-None-clause-only
returns-in_err-addr-in-None-clause-only c = λ s h.
    of_form c.args.text.now s h (λ w. let e = c.in_default.ensures.only s w in cc)
    (λ net m.
    let p = plain net c.args.text.now s c.in-None.ensures.none m in
    let e = c.in_err-addr-in-None.ensures.only net p.addr p.ip_text in
    cc)

pub returns-in_err-addr-in-Some-around_last-clause-only : goal.returns-in_err-addr-in-Some-around_last-clause-only
returns-in_err-addr-in-Some-around_last-clause-only c = λ s h.
    of_form c.args.text.now s h (λ w. let e = c.in_default.ensures.only s w in cc)
    (λ net m.
    let p = cut net c.args.text.now _ _ s c.in-Some-around_last.ensures.cut c.in-Some-around_last.ensures.last m in
    let e = c.in_err-addr-in-Some-around_last.ensures.only net p.addr p.ip_text in
    cc)

pub returns-in_err-len-in-Some-around_last-clause-only : goal.returns-in_err-len-in-Some-around_last-clause-only
returns-in_err-len-in-Some-around_last-clause-only c = λ s h.
    of_form c.args.text.now s h (λ w. let e = c.in_default.ensures.only s w in cc)
    (λ net m.
    let p = cut net c.args.text.now _ _ s c.in-Some-around_last.ensures.cut c.in-Some-around_last.ensures.last m in
    let addr : c.in_ok-addr-in-Some-around_last.addr ≡ p.addr = same_some _ _ (c.in_ok-addr-in-Some-around_last.ensures.only net p.addr p.ip_text) in
    let size : c.into.result ≡ width net =
    c.into.ensures ∙ c.width-in-Some-around_last.ensures ∙ ap width (c.net-in-Some-around_last.ensures ∙ ap (λ (a : Address). a.net) addr ∙ net_of_ip net _ p.addr p.ip_text) in
    let e = c.in_err-len-in-Some-around_last.ensures.only s.len (omega (arith, size, p.length)) p.digits_text in
    cc)

pub returns-in_ok-addr-in-None-clause-found : goal.returns-in_ok-addr-in-None-clause-found
returns-in_ok-addr-in-None-clause-found c =
    let addr = c.in_ok-addr-in-None.addr in
    if_some (IsMaskedFrom addr c.width.result) (IsSubnetText c.args.text.now) (λ s m. plain_made addr.net c.args.text.now addr c.width.result s c.in_ok-addr-in-None.ensures.found (c.width.ensures ∙ ap width c.net.ensures) m) c.masked.result c.masked.ensures.found

pub returns-in_ok-addr-in-None-clause-only : goal.returns-in_ok-addr-in-None-clause-only
returns-in_ok-addr-in-None-clause-only c = λ s h.
    of_form c.args.text.now s h (λ w. let e = c.in_default.ensures.only s w in cc)
    (λ net m.
    let p = plain net c.args.text.now s c.in-None.ensures.none m in
    let addr : c.in_ok-addr-in-None.addr ≡ p.addr = same_some _ _ (c.in_ok-addr-in-None.ensures.only net p.addr p.ip_text) in
    let size : c.width.result ≡ s.len =
    c.width.ensures ∙ ap width (c.net.ensures ∙ ap (λ (a : Address). a.net) addr ∙ net_of_ip net c.args.text.now p.addr p.ip_text) ∙ sym p.length in
    c.masked.ensures.only s (masked_is c.in_ok-addr-in-None.addr p.addr c.width.result s addr size p.masked))

pub returns-in_ok-len-in-Some-around_last-clause-only : goal.returns-in_ok-len-in-Some-around_last-clause-only
returns-in_ok-len-in-Some-around_last-clause-only c = λ s h.
    of_form c.args.text.now s h (λ w. let e = c.in_default.ensures.only s w in cc)
    (λ net m.
    let p = cut net c.args.text.now _ _ s c.in-Some-around_last.ensures.cut c.in-Some-around_last.ensures.last m in
    let addr : c.in_ok-addr-in-Some-around_last.addr ≡ p.addr = same_some _ _ (c.in_ok-addr-in-Some-around_last.ensures.only net p.addr p.ip_text) in
    let size : c.into.result ≡ width net =
    c.into.ensures ∙ c.width-in-Some-around_last.ensures ∙ ap width (c.net-in-Some-around_last.ensures ∙ ap (λ (a : Address). a.net) addr ∙ net_of_ip net _ p.addr p.ip_text) in
    let len : c.in_ok-len-in-Some-around_last.len ≡ s.len = same_some _ _ (c.in_ok-len-in-Some-around_last.ensures.only s.len (omega (arith, size, p.length)) p.digits_text) in
    c.masked-in-Some-around_last.ensures.only s (masked_is c.in_ok-addr-in-Some-around_last.addr p.addr c.in_ok-len-in-Some-around_last.len s addr len p.masked))
