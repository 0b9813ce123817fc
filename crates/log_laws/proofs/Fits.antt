-- What a line spells fits its fields: times have 32 bits, services 64, and a message is of at most
-- 1000 entries that fit theirs.
use Rattle.std.proofs.Common.{◌≡◌, ℕ, ◌<◌, ◌≤◌, ◌^◌, List, [], ◌∷◌, length, Contains, Option, Some, refl, sym, ap, subst, arith}
use Rattle.std.specs.Bool.{⊤}
use Rattle.std.specs.Int.{w32, w128, to_be_bytes}
use Rattle.net_addr.specs.Address.{Address, IsAddress}
use Rattle.net_addr.specs.Text.{IsAddrText}
use Rattle.net_addr.specs.Text.IsAddrText.{bracketed, cjdns, dotted, i2p, internal, onion}
use Rattle.net_addr.specs.declared.peer.Entry.{Entry}
use Rattle.net_addr.specs.declared.net.Net.TheVariants.{Unroutable, Ipv4, Cjdns, I2p, Internal, Onion}
use Rattle.net_addr.proofs.Bytes.{All_bytes, IsAddress-from_v1, IsAddress-plain}
use Rattle.net_addr.proofs.Digits.{IsAddress-hex}
use Rattle.net_addr.proofs.Words.{AllBytes-high_first}
use Rattle.wire_num.proofs.ReadingLaws.{AreBytes}
use Rattle.addr_codecs.specs.Entries.{IsEntry}
use Rattle.addr_codecs.specs.Layout.{IsAddrMessage, IsAddrv2Message}
use Rattle.grammar.specs.Contents.{bytes_in, number_in}
use Rattle.grammar.specs.Fields.{AllMean, Hex, Kind, Means, OfAddr, OfPeer, Random, TheAddr, TheBytes, TheNumber, Value, ThePeer, TheWords, u32_field, u64_field}
use Rattle.log_lines.specs.Spelling.{SpellsCommand}
use Rattle.log_lines.proofs.OneMeaning.{AreFieldsOf, fields_of_line}
use Rattle.log_lines.specs.declared.command.Command.{Command}
use Rattle.log_lines.specs.declared.command.Command.TheVariants as command
use Rattle.session.proofs.OneHistory.{hex_bytes}
use Rattle.log_laws.proofs.Bytes.{addr_message-fits, addrv2_message-fits}

-- the source is an address, and a message of the payload has few entries, which fit
abbrev pub IsFitMessage : (List (Option Entry) → Type 0) → Address → Type 0
IsFitMessage IsMessage source =
    IsAddress source × ((entries : List (Option Entry)) → IsMessage entries → (length entries ≤ 1000) × ((e : Entry) → Contains entries (Some e) → IsEntry e))

abbrev pub IsFit : Command → Type 0
IsFit (command.Now time) = time < 2 ^ 32
IsFit (command.Addr source payload words) = IsFitMessage (IsAddrMessage payload) source
IsFit (command.Addr2 source payload words) = IsFitMessage (IsAddrv2Message payload) source
IsFit (command.Services peer services) = services < 2 ^ 64
IsFit other = ⊤

-- a text that parses as an address is that of one
addressed : (text : List ℕ) (a : Address) → IsAddrText text a → IsAddress a
addressed text a (dotted h) = subst IsAddress (sym h.address) (IsAddress-plain Ipv4 (to_be_bytes w32 h.bits) (λ e. cc) (λ e. cc) refl (All_bytes (to_be_bytes w32 h.bits) (AllBytes-high_first 4 h.bits)))
addressed text a (bracketed h) = subst IsAddress (sym h.address) (IsAddress-from_v1 (to_be_bytes w128 h.bits) refl (All_bytes (to_be_bytes w128 h.bits) (AllBytes-high_first 16 h.bits)))
addressed text a (onion h) = IsAddress-hex Onion h.digits a (λ e. cc) (λ e. cc) h.hex
addressed text a (i2p h) = IsAddress-hex I2p h.digits a (λ e. cc) (λ e. cc) h.hex
addressed text a (cjdns h) = IsAddress-hex Cjdns h.digits a (λ e. cc) (λ e. cc) h.hex
addressed text a (internal h) = IsAddress-hex Internal h.digits a (λ e. cc) (λ e. cc) h.hex

-- the address of a value
abbrev address_in : Value → Address
address_in (TheAddr a) = a
address_in other = record { net = Unroutable; bytes = [] }

-- the first text of several, and the others
cut : (kind : Kind) (kinds : List Kind) (texts : List (List ℕ)) (v : Value) (vs : List Value) → AllMean (kind ∷ kinds) texts (v ∷ vs)
    → (text : List ℕ) × (rest : List (List ℕ)) × Means kind text v × AllMean kinds rest vs
cut kind kinds [] v vs h = absurd h
cut kind kinds (text ∷ rest) v vs h = (text, rest, h.0, h.1)

module _ (IsMessage : List ℕ → List (Option Entry) → Type 0)
    (fits : (bytes : List ℕ) (entries : List (Option Entry)) → AreBytes bytes → IsMessage bytes entries → (length entries ≤ 1000) × ((e : Entry) → Contains entries (Some e) → IsEntry e))
    (source : Address) (payload : List ℕ) (words : List ℕ) (texts : List (List ℕ)) where
  fit_message : AreFieldsOf (command.Addr source payload words) texts → IsFitMessage (IsMessage payload) source
  fit_message h =
      let one = cut OfAddr (Hex ∷ Random ∷ []) texts (TheAddr source) (TheBytes payload ∷ TheWords words ∷ []) h in
      let two = cut Hex (Random ∷ []) one.1 (TheBytes payload) (TheWords words ∷ []) one.3 in
      let from : source ≡ one.2.0 = ap address_in one.2.1 in
      let own : payload ≡ two.2.0 = ap bytes_in two.2.1 in
      let bytes = subst AreBytes (sym own) (hex_bytes two.0 two.2.0 two.2.2) in
      (subst IsAddress (sym from) (addressed one.0 one.2.0 one.2.2), λ entries is. fits payload entries bytes is)

means-fit : (asked : Command) (texts : List (List ℕ)) → AreFieldsOf asked texts → IsFit asked
means-fit (command.Now time) texts h =
    let one = cut u32_field [] texts (TheNumber time) [] h in
    let same : time ≡ one.2.0 = ap number_in one.2.1 in
    let most = one.2.3 in
    omega (arith, same, most)
means-fit (command.Addr source payload words) texts h = fit_message IsAddrMessage addr_message-fits source payload words texts h
means-fit (command.Addr2 source payload words) texts h = fit_message IsAddrv2Message addrv2_message-fits source payload words texts h
means-fit (command.Services peer services) texts h =
    let one = cut OfPeer (u64_field ∷ []) texts (ThePeer peer) (TheNumber services ∷ []) h in
    let two = cut u64_field [] one.1 (TheNumber services) [] one.3 in
    let same : services ≡ two.2.0 = ap number_in two.2.1 in
    let most = two.2.3 in
    omega (arith, same, most)
means-fit other texts h = tt

pub spelled-fits : (line : List ℕ) (asked : Command) → SpellsCommand line asked → IsFit asked
spelled-fits line asked h = means-fit asked h.1 (fields_of_line line asked h)
