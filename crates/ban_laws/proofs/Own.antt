-- Subnets that are parsed, and bans that are read, have names of their own.
use Rattle.std.proofs.Common.{◌≡◌, ℕ, ◌≤◌, List, [], ◌∷◌, All, Bool, true, false, cond, Option, Some, None, option_and_then, sym, subst, arith, inl, inr}
use Rattle.std.specs.Prelude.{fold, slice_index}
use Rattle.std.specs.Int.{w128, to_be_bytes}
use Rattle.std.proofs.lemmas.Bool.{eqb-true}
use Rattle.std.proofs.lemmas.List.Elements.{All-cons, All-head, All-nil, All-tail, All-weaker}
use Rattle.net_addr.specs.Address.{Address, IsAddress}
use Rattle.net_addr.specs.OldForm.{address, from_v1}
use Rattle.net_addr.specs.declared.net.Net.{Net}
use Rattle.net_addr.specs.declared.net.Net.TheVariants.{Unroutable, Ipv4, Ipv6, Onion, I2p, Cjdns, Internal}
use Rattle.names.specs.Name.{HasOwnName, IsLettered, IsName, is_cjdns, own_by}
use Rattle.names.specs.Name.IsName.{dotted, colons, lettered}
use Rattle.serde_json.specs.Data.{Data, Num, float, negative, unsigned}
use Rattle.ban_list.specs.BanFile.{AreElements, IsElement, IsListFile, clamped, max_time}
use Rattle.ban_list.specs.Bans.{put}
use Rattle.ban_list.specs.Subnet.{IsWhole}
use Rattle.ban_list.specs.SubnetText.{IsNamedText, IsSubnetText}
use Rattle.ban_list.specs.declared.ban.Ban.{Ban}
use Rattle.ban_list.specs.declared.ban.BanRule.TheVariants.{Names}
use Rattle.ban_list.specs.declared.subnet.Subnet.{Subnet}
use Rattle.ban_list.proofs.BanLaws.{All-put}
use Rattle.ban_list.proofs.Forms.{bracket_whole, of_form, same_some}
use Rattle.ban_laws.specs.Known.{HasName, HasTimes}

-- ---- subnets

cjdns_first : (net : Net) (bytes : List ℕ) → is_cjdns net bytes ≡ true → slice_index bytes 0 ≡ 0xfc
cjdns_first Ipv6 bytes e = eqb-true (slice_index bytes 0) 0xfc e
cjdns_first Unroutable bytes e = absurd (cc)
cjdns_first Ipv4 bytes e = absurd (cc)
cjdns_first Onion bytes e = absurd (cc)
cjdns_first I2p bytes e = absurd (cc)
cjdns_first Cjdns bytes e = absurd (cc)
cjdns_first Internal bytes e = absurd (cc)

flipped_own : (a : Address) (b : Bool) → is_cjdns a.net a.bytes ≡ b → (IsWhole a.net → ⊥) → IsWhole (cond b (address Cjdns a.bytes) a).net → HasOwnName (cond b (address Cjdns a.bytes) a)
flipped_own a true is none w = cjdns_first a.net a.bytes is
flipped_own a false is none w = absurd (none w)

letters_own : (net : Net) (bytes : List ℕ) → IsLettered net → own_by net bytes
letters_own Onion bytes l = tt
letters_own I2p bytes l = tt
letters_own Internal bytes l = tt
letters_own Unroutable bytes l = absurd l
letters_own Ipv4 bytes l = absurd l
letters_own Ipv6 bytes l = absurd l
letters_own Cjdns bytes l = absurd l

own_name : (text : List ℕ) (a : Address) → IsName text a → IsWhole a.net → HasOwnName a
own_name text a (dotted h) w = absurd (subst (λ (x : Address). IsWhole x.net) h.address w)
own_name text a (colons h) w =
    let first = from_v1 (to_be_bytes w128 h.bits) in
    subst HasOwnName (sym h.address) (flipped_own first (is_cjdns first.net first.bytes) (λ i. is_cjdns first.net first.bytes) (bracket_whole (to_be_bytes w128 h.bits)) (subst (λ (x : Address). IsWhole x.net) h.address w))
own_name text a (lettered net l h) w = subst (λ (n : Net). own_by n a.bytes) (sym h.stem_letters.network) (letters_own net a.bytes l)

masked_address : (text : List ℕ) (s : Subnet) → IsSubnetText text s → (IsWhole s.addr.net → ⊥) → IsAddress s.addr
masked_address text s h none = of_form text s h (λ w. absurd (none w.network)) (λ net m. m.masked.is_address)

pub parsed_name : (text : List ℕ) (s : Subnet) → IsNamedText text s → HasName s
parsed_name text s (inl h) = record { address = h.own; own = own_name text s.addr h.name }
parsed_name text s (inr h) = record { address = masked_address text s h.1 h.2; own = λ w. absurd (h.2 w) }

-- ---- bans

abbrev Has : Ban → Type 0
Has ban = HasTimes ban × HasName ban.subnet

time_small : (o : Option Num) (n : ℕ) → option_and_then clamped o ≡ Some n → n ≤ max_time
time_small None n e = absurd (cc)
time_small (Some (unsigned k)) n e = let same = same_some _ n e in omega (arith, same)
time_small (Some (negative z)) n e = let same = same_some 0 n e in omega (arith, same)
time_small (Some (float x)) n e = absurd (cc)

element_has : (d : Data) (ban : Ban) → IsElement Names d ban → Has ban
element_has d ban h = ((time_small _ ban.created h.created, time_small _ ban.until h.until), parsed_name h.address ban.subnet h.subnet)

counted_have : (ds : List Data) (bans : List Ban) → AreElements Names ds bans → All Has bans
unfolding AreElements
counted_have [] bans h = subst (All Has) (sym h) (All-nil Has)
counted_have (d ∷ ds) [] h = All-nil Has
counted_have (d ∷ ds) (ban ∷ bans) (inl h) = counted_have ds (ban ∷ bans) h.1
counted_have (d ∷ ds) (ban ∷ bans) (inr h) = All-cons Has ban bans (element_has d ban h.0) (counted_have ds bans h.1)

merged_have : (done bans : List Ban) → All Has done → All Has bans → All Has (fold (λ list ban. put ban list) done bans)
merged_have done [] h k = h
merged_have done (ban ∷ bans) h k = merged_have (put ban done) bans (All-put Has ban done (All-head Has ban bans k) h) (All-tail Has ban bans k)

read_have : (bytes : List ℕ) (bans : List Ban) → IsListFile Names bytes bans → All Has bans
read_have bytes bans h = subst (All Has) (sym h.made) (merged_have [] h.counted (All-nil Has) (counted_have h.elements h.counted h.are_counted))

pub read_names : (bytes : List ℕ) (bans : List Ban) → IsListFile Names bytes bans → All (λ ban. HasName ban.subnet) bans
read_names bytes bans h = All-weaker Has (λ ban. HasName ban.subnet) (λ ban has. has.1) bans (read_have bytes bans h)

pub read_times : (bytes : List ℕ) (bans : List Ban) → IsListFile Names bytes bans → All HasTimes bans
read_times bytes bans h = All-weaker Has HasTimes (λ ban has. has.0) bans (read_have bytes bans h)
