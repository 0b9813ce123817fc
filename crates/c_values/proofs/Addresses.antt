-- When bytes are an address, decided by a test.
use Rattle.std.proofs.Common.{◌≡◌, ◌≢◌, ℕ, ◌<◌, Bool, true, false, cond, not, ◌&&◌, List, length, All, Option, Some, None, refl, sym, ap, subst, ◌∙◌}
use Rattle.std.specs.Prelude.{IfSome, IfNone, ◌==◌}
use Rattle.std.proofs.lemmas.Bool.{eqb-true, and_parts}
use Rattle.std.proofs.lemmas.Bool.Decides.{Decides-eqb}
use Rattle.net_addr.specs.Address.{Address, IsAddress, length_of, is_old_form}
use Rattle.net_addr.specs.OldForm.{address}
use Rattle.net_addr.specs.declared.net.Net.{Net}
use Rattle.net_addr.specs.declared.net.Net.TheVariants.{Unroutable, Ipv4, Ipv6, Onion, I2p, Cjdns, Internal}
use Rattle.c_values.specs.Values.{is_address, address_by}

not_false : (b : Bool) → not b ≡ true → b ≡ false
not_false true h = cc h
not_false false h = refl

not_true : (b : Bool) → b ≡ false → not b ≡ true
not_true true h = cc h
not_true false h = refl

plain : (net : Net) (bytes : List ℕ) → net ≢ Unroutable → net ≢ Ipv6 → All (λ b. b < 256) bytes → (length bytes == length_of net) ≡ true → IsAddress (address net bytes)
plain net bytes own other all long = record { network = own; length = eqb-true (length bytes) (length_of net) long; bytes = all; own_form = λ e. absurd (other e) }

-- what passes the test is an address
pub built : (net : Net) (bytes : List ℕ) → All (λ b. b < 256) bytes → is_address net bytes ≡ true → IsAddress (address net bytes)
built Unroutable bytes all h = cc h
built Ipv4 bytes all h = plain Ipv4 bytes (λ e. cc e) (λ e. cc e) all h
built Ipv6 bytes all h =
    let parts = and_parts (length bytes == 16) (not (is_old_form bytes)) h in
    record { network = λ e. cc e; length = eqb-true (length bytes) 16 parts.0; bytes = all; own_form = λ e. not_false (is_old_form bytes) parts.1 }
built Onion bytes all h = plain Onion bytes (λ e. cc e) (λ e. cc e) all h
built I2p bytes all h = plain I2p bytes (λ e. cc e) (λ e. cc e) all h
built Cjdns bytes all h = plain Cjdns bytes (λ e. cc e) (λ e. cc e) all h
built Internal bytes all h = plain Internal bytes (λ e. cc e) (λ e. cc e) all h

both_true : (a b : Bool) → a ≡ true → b ≡ true → (a && b) ≡ true
both_true true true h k = refl
both_true true false h k = cc k
both_true false b h k = cc h

long : (bytes : List ℕ) (n : ℕ) → length bytes ≡ n → (length bytes == n) ≡ true
long bytes n e = (Decides-eqb (length bytes) n).1 e

-- an address passes the test
pub passes : (net : Net) (bytes : List ℕ) → IsAddress (address net bytes) → is_address net bytes ≡ true
passes Unroutable bytes h = absurd (h.network refl)
passes Ipv4 bytes h = long bytes 4 h.length
passes Ipv6 bytes h = both_true (length bytes == 16) (not (is_old_form bytes)) (long bytes 16 h.length) (not_true (is_old_form bytes) (h.own_form refl))
passes Onion bytes h = long bytes 32 h.length
passes I2p bytes h = long bytes 32 h.length
passes Cjdns bytes h = long bytes 16 h.length
passes Internal bytes h = long bytes 10 h.length

by_test : (net : Net) (bytes : List ℕ) (b : Bool) → is_address net bytes ≡ b → address_by (Some net) bytes ≡ cond b (Some (address net bytes)) None
by_test net bytes b e = ap (λ (t : Bool). cond t (Some (address net bytes)) None) e

-- the answer of `NetAddr::of` is that of the test
pub told : (net : Net) (bytes : List ℕ) (result : Option Address) → All (λ b. b < 256) bytes
    → IfSome result (λ a. a ≡ address net bytes) → IfSome result IsAddress → IfNone result (¬ (IsAddress (address net bytes)))
    → result ≡ address_by (Some net) bytes
told net bytes (Some a) all found is none =
    let passed = passes net bytes (subst IsAddress found is) in
    ap Some found ∙ sym (by_test net bytes true passed)
told net bytes None all found is none = by (is_address net bytes) refl
  where
    by : (b : Bool) → is_address net bytes ≡ b → None ≡ address_by (Some net) bytes
    by true e = absurd (none (built net bytes all e))
    by false e = sym (by_test net bytes false e)
