-- The entries that a message has a form for.
use Rattle.std.proofs.Common.{◌≡◌, ◌≢◌, ◌⊎◌, ◌≤◌, Bool, true, false, List, [], ◌∷◌, length, filter, All, inl, inr, refl, ap, ◌∙◌, sym, arith, if◌then◌else◌}
use Rattle.std.proofs.lemmas.List.Elements.{All-nil, All-cons}
use Rattle.net_addr.specs.declared.peer.Entry.{Entry}
use Rattle.net_addr.specs.declared.net.Net.{Net}
use Rattle.net_addr.specs.declared.net.Net.TheVariants.{Unroutable, Ipv4, Ipv6, Onion, I2p, Cjdns, Internal}
use Rattle.getaddr.specs.Messages.{is_old_net, is_known_net, is_old, is_known}

abbrev pub IsOld : Entry → Type 0
IsOld e = (e.peer.addr.net ≡ Ipv4) ⊎ (e.peer.addr.net ≡ Ipv6)

abbrev pub IsKnown : Entry → Type 0
IsKnown e = e.peer.addr.net ≢ Internal

true-false : true ≡ false → ⊥
true-false e = cc e

old_net : (n : Net) → is_old_net n ≡ true → (n ≡ Ipv4) ⊎ (n ≡ Ipv6)
old_net Ipv4 h = inl refl
old_net Ipv6 h = inr refl
old_net Unroutable h = absurd (true-false (sym h))
old_net Onion h = absurd (true-false (sym h))
old_net I2p h = absurd (true-false (sym h))
old_net Cjdns h = absurd (true-false (sym h))
old_net Internal h = absurd (true-false (sym h))

known_net : (n : Net) → is_known_net n ≡ true → n ≢ Internal
known_net n h e = true-false (sym h ∙ ap is_known_net e)

module _ (p : Entry → Bool) where
  pub few : (es : List Entry) → length (filter p es) ≤ length es
  few [] = omega arith
  few (e ∷ es) = by (p e) (few es)
    where
      by : (b : Bool) → length (filter p es) ≤ length es → length (if b then e ∷ filter p es else filter p es) ≤ length (e ∷ es)
      by true h = omega (arith, h)
      by false h = omega (arith, h)

  all : (Q : Entry → Type 0) → ((e : Entry) → p e ≡ true → Q e) → (es : List Entry) → All Q (filter p es)
  all Q each [] = All-nil Q
  all Q each (e ∷ es) = by (p e) refl (all Q each es)
    where
      by : (b : Bool) → p e ≡ b → All Q (filter p es) → All Q (if b then e ∷ filter p es else filter p es)
      by true is h = All-cons Q e (filter p es) (each e is) h
      by false is h = h

pub all_old : (es : List Entry) → All IsOld (filter is_old es)
all_old es = all is_old IsOld (λ e h. old_net e.peer.addr.net h) es

pub all_known : (es : List Entry) → All IsKnown (filter is_known es)
all_known es = all is_known IsKnown (λ e h. known_net e.peer.addr.net h) es
