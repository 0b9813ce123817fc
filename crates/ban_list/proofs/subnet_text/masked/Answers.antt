use Rattle.std.proofs.Common.{◌≡◌, ◌≤◌, ap, sym, ◌∙◌, subst}
use Rattle.net_addr.specs.Address.{Address}
use Rattle.ban_list.specs.Subnet.{IsMasked, clear, width}
use Rattle.ban_list.proofs.Masks.{clear-again, masked_or_whole}
use Rattle.ban_list.proofs.subnet_text.masked.Goals as goal

pub returns-clause-proper : goal.returns-clause-proper
returns-clause-proper c =
    let a = c.args.addr.now in
    let net : c.in_ok-addr.addr.net ≡ a.net = ap (λ (x : Address). x.net) c.in_ok-addr.ensures.found ∙ c.net.ensures in
    let bytes : c.in_ok-addr.addr.bytes ≡ clear c.args.len a.bytes =
    ap (λ (x : Address). x.bytes) c.in_ok-addr.ensures.found ∙ c.as_slice.ensures.value ∙ c.cleared-bytes.ensures ∙ ap (clear c.args.len) c.bytes.ensures.value in
    let masked : IsMasked c.in_ok-addr.addr.net = subst IsMasked (sym net) c.requires.network in
    record {
      network = λ e. subst IsMasked e masked;
      len = subst (λ n. c.args.len ≤ width n) (sym net) c.requires.len;
      whole = λ w. absurd (masked_or_whole c.in_ok-addr.addr.net masked w);
      clear = ap (clear c.args.len) bytes ∙ clear-again c.args.len a.bytes ∙ sym bytes;
    }
