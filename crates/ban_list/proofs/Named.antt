-- The texts of subnets by the rule of a list.
use Rattle.std.proofs.Common.{◌≡◌, ℕ, List, Option, Some, None, sym, ap, ◌∙◌, subst, arith, inl, inr}
use Rattle.std.specs.Prelude.{IfSome, IfNone}
use Rattle.net_addr.specs.Address.{Address, IsAddress}
use Rattle.net_addr.specs.Text.{IsAddrText}
use Rattle.names.specs.Name.{IsName}
use Rattle.ban_list.proofs.OneName.{one_name}
use Rattle.ban_list.specs.Subnet.{IsProper, IsWhole, width}
use Rattle.ban_list.specs.SubnetText.{IsNamedSubnet, IsNamedText, IsSubnetText, IsSubnetTextBy, IsWholeOf, IsWholeSubnet}
use Rattle.ban_list.specs.declared.ban.BanRule.{BanRule}
use Rattle.ban_list.specs.declared.ban.BanRule.TheVariants.{Labels, Names}
use Rattle.ban_list.specs.declared.subnet.Subnet.{Subnet}
use Rattle.ban_list.proofs.Forms.{one_subnet, same_some, same_subnet}
use Rattle.ban_list.proofs.Masks.{clear-whole}
use Rattle.ban_list.proofs.ProperTexts.{proper_text}

-- the whole of an address is a proper subnet
pub proper_whole_of : (s : Subnet) → IsWhole s.addr.net → IsAddress s.addr → s.len ≡ width s.addr.net → IsProper s
proper_whole_of s w own len = record {
  network = λ e. subst IsWhole e w;
  len = omega (arith, len);
  whole = λ _. len;
  clear = clear-whole s.len s.addr.bytes (omega (arith, len, own.length));
}

-- a text of which one reading is that of a whole address
pub whole_only : (Text : Address → Type 0) (a : Address) (r : Option Subnet) → IfSome r (IsWholeOf a) → IfNone r (IsWhole a.net → ⊥) →
    ((b : Address) → Text b → Some a ≡ Some b) → (s : Subnet) → Text s.addr → IsWhole s.addr.net → s.len ≡ width s.addr.net → r ≡ Some s
whole_only Text a None found none one s is w len = absurd (none (subst (λ (x : Address). IsWhole x.net) (sym (same_some a s.addr (one s.addr is))) w))
whole_only Text a (Some t) found none one s is w len =
    let same : t.addr ≡ s.addr = found.addr ∙ same_some a s.addr (one s.addr is) in
    ap Some (same_subnet t.addr s.addr t.len s.len same (found.length ∙ ap (λ (x : Address). width x.net) (same_some a s.addr (one s.addr is)) ∙ sym len))

pub one_named : (text : List ℕ) (s t : Subnet) → IsNamedSubnet text s → IsNamedSubnet text t → s ≡ t
one_named text s t h k =
    let addr = one_name text s.addr t.addr h.name k.name in
    same_subnet s.addr t.addr s.len t.len addr (h.length ∙ ap (λ (a : Address). width a.net) addr ∙ sym k.length)

one_named_text : (text : List ℕ) (s t : Subnet) → IsNamedText text s → IsNamedText text t → s ≡ t
one_named_text text s t (inl h) (inl k) = one_named text s t h k
one_named_text text s t (inl h) (inr k) = absurd (k.0 s h)
one_named_text text s t (inr h) (inl k) = absurd (h.0 t k)
one_named_text text s t (inr h) (inr k) = one_subnet text s t h.1 k.1

-- by each rule, a text is that of at most one subnet
pub one_subnet_by : (rule : BanRule) (text : List ℕ) (s t : Subnet) → IsSubnetTextBy rule text s → IsSubnetTextBy rule text t → s ≡ t
one_subnet_by Labels text s t h k = one_subnet text s t h k
one_subnet_by Names text s t h k = one_named_text text s t h k

pub proper_named : (text : List ℕ) (s : Subnet) → IsNamedSubnet text s → IsProper s
proper_named text s h = proper_whole_of s h.network h.own h.length

proper_named_text : (text : List ℕ) (s : Subnet) → IsNamedText text s → IsProper s
proper_named_text text s (inl h) = proper_named text s h
proper_named_text text s (inr h) = proper_text text s h.1

-- and that is a proper one
pub proper_text_by : (rule : BanRule) (text : List ℕ) (s : Subnet) → IsSubnetTextBy rule text s → IsProper s
proper_text_by Labels text s h = proper_text text s h
proper_text_by Names text s h = proper_named_text text s h

-- what is read of an address is its whole
pub whole_text : (text : List ℕ) (a : Address) (r : Option Subnet) → IsAddrText text a → IfSome r (IsWholeOf a) → IfSome r (IsWholeSubnet text)
whole_text text a None is found = tt
whole_text text a (Some s) is found = record {
  addr_text = subst (IsAddrText text) (sym found.addr) is;
  network = subst (λ (x : Address). IsWhole x.net) (sym found.addr) found.network;
  length = found.length ∙ ap (λ (x : Address). width x.net) (sym found.addr);
}

pub whole_name : (text : List ℕ) (a : Address) (r : Option Subnet) → IsName text a → IsAddress a → IfSome r (IsWholeOf a) → IfSome r (IsNamedSubnet text)
whole_name text a None is own found = tt
whole_name text a (Some s) is own found = record {
  name = subst (IsName text) (sym found.addr) is;
  own = subst IsAddress (sym found.addr) own;
  network = subst (λ (x : Address). IsWhole x.net) (sym found.addr) found.network;
  length = found.length ∙ ap (λ (x : Address). width x.net) (sym found.addr);
}

-- a text that is no name is read as before, but for the labels
pub named_only : (text : List ℕ) (r : Option Subnet) → ((s : Subnet) → IsNamedSubnet text s → ⊥) → ((s : Subnet) → IsSubnetText text s → r ≡ Some s) → (s : Subnet) → IsNamedText text s → r ≡ Some s
named_only text r none only s (inl h) = absurd (none s h)
named_only text r none only s (inr h) = only s h.1

-- and a label is refused
pub named_whole : (text : List ℕ) (t : Subnet) → ((s : Subnet) → IsNamedSubnet text s → ⊥) → ((s : Subnet) → IsSubnetText text s → Some t ≡ Some s) → IsWhole t.addr.net → (s : Subnet) → IsNamedText text s → ⊥
named_whole text t none only w s (inl h) = none s h
named_whole text t none only w s (inr h) = h.2 (subst (λ (x : Subnet). IsWhole x.addr.net) (same_some t s (only s h.1)) w)
