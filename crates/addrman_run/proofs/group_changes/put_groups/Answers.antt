use Rattle.std.proofs.Common.{◌≡◌, ℕ, List, ◌++◌, codes, refl, ap, ◌∙◌, append_assoc}
use Rattle.hex.specs.Hex.{encode_lower}
use Rattle.net_addr.specs.Text.{peer_text}
use Rattle.addrman_run.proofs.group_changes.put_groups.Goals as goal

-- five appends are one of all their parts
five : (o a b c d e f g x1 x2 x3 x4 x5 : List ℕ) → x1 ≡ o ++ a → x2 ≡ x1 ++ b → x3 ≡ x2 ++ c ++ d → x4 ≡ x3 ++ e ++ f → x5 ≡ x4 ++ g
    → x5 ≡ o ++ (a ++ b ++ c ++ d ++ e ++ f ++ g)
five o a b c d e f g x1 x2 x3 x4 x5 h1 h2 h3 h4 h5 =
    h5 ∙ ap (λ x. x ++ g) (h4 ∙ ap (λ x. x ++ e ++ f) (h3 ∙ ap (λ x. x ++ c ++ d) (h2 ∙ ap (λ x. x ++ b) h1))) ∙ (simp append_assoc refl)

pub returns : goal.returns
returns c =
    five c.args.out.now.items (codes "# ") (peer_text c.args.peer.now) (codes " group ") (encode_lower c.args.group.now) (codes " was ") (encode_lower c.args.old_group.now) (codes "\n")
    c.put_text.new.out.items c.put_peer.new.out.items c.put_hex.new.out.items c.put_hex-2.new.out.items c.put_text-2.new.out.items
    c.in_ok-put_text.ensures.ok c.in_ok-put_peer.ensures.ok c.in_ok-put_hex.ensures.ok c.in_ok-put_hex-2.ensures.ok c.in_ok-put_text-2.ensures.ok
