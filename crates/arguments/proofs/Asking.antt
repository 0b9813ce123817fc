-- Arguments ask for one request at most.
use Rattle.std.proofs.Common.{◌≡◌, ◌≢◌, ◌≤◌, ℕ, Bool, true, List, [], ◌∷◌, ◌++◌, codes, length, drop, get_or, decimal, find, Option, Some, None, refl, sym, ap, subst, inl, inr, ◌∙◌, arith}
use Rattle.std.specs.Prelude.{◌↔◌, IfSome, IfNone, IsTrue, false, bytes_eq, unwrap_or}
use Rattle.std.proofs.lemmas.Bool.{iff_false}
use Rattle.std.proofs.lemmas.Option.{none-some}
use Rattle.ban_list.specs.Subnet.{IsProper}
use Rattle.ban_list.specs.SubnetText.{IsSubnetTextBy}
use Rattle.ban_list.specs.declared.ban.BanRule.{BanRule}
use Rattle.ban_list.specs.declared.subnet.Subnet.{Subnet}
use Rattle.gen_load.specs.declared.generated.TheConstants.{MAX_LINES}
use Rattle.grammar.specs.Fields.{AllMean, AreAtFault, Kind, Number, OfPeer, TheNumber, ThePeer, Value, u64_field}
use Rattle.grammar.specs.Table.{all_definite}
use Rattle.grammar.specs.declared.fault.LineFault.{LineFault}
use Rattle.grammar.specs.declared.fault.LineFault.TheVariants as fault
use Rattle.grammar.proofs.TableLemmas.{no_fault_after, one_list}
use Rattle.names.specs.Text.{IsTextOf}
use Rattle.names.proofs.Readings.{one_text}
use Rattle.net_addr.specs.Address.{Address as NetAddress}
use Rattle.net_addr.specs.Text.{IsPeerText}
use Rattle.net_addr.specs.declared.peer.Peer.{Peer}
use Rattle.peers_file.specs.declared.chain.Chain.{Chain}
use Rattle.placing.specs.declared.sum.SumRule.{SumRule}
use Rattle.placing.specs.declared.sum.SumRule.TheVariants.{Bytes}
use Rattle.arguments.specs.Options.{HasRule, IsAfterColouring, IsAfterDash, IsAfterGrouping, IsAfterPeers, IsFileOptions, IsListingOptions, IsNet, IsOpeningOptions, IsTables}
use Rattle.arguments.specs.Table.{AddressOrLines, AreProperSets, Asks, Coloured, Fields, ForBans, Form, Grouped, HasNoValues, IsAddressIn, IsProperRequest, Keyed, Listing, Network, OfCommand, OfSubnet, Opening, Outgoing, PeerOrLines, Period, Reads, Records, Tables, TheAddress, TheAnchors, TheBanFields, TheColours, TheCommand, TheFields, TheGroups, TheKey, TheKind, TheListing, TheOpener, TheOpening, ThePeriod, TheRecords, TheSubnet, TheTables, Values, command_word, form_of, name_of, plain_word, request_values}
use Rattle.arguments.specs.declared.colours.Colours.{Colours}
use Rattle.arguments.specs.declared.colours.Colours.TheVariants as colours
use Rattle.arguments.specs.declared.file_kind.FileKind.{FileKind}
use Rattle.arguments.specs.declared.grouping.Grouping.{Grouping}
use Rattle.arguments.specs.declared.marks.Marks.{Marks}
use Rattle.arguments.specs.declared.name.CommandName.{CommandName}
use Rattle.arguments.specs.declared.name.CommandName.TheVariants as name
use Rattle.arguments.specs.declared.name.TheConstants.{NAMES}
use Rattle.arguments.specs.declared.request.Request.{Request}
use Rattle.arguments.specs.declared.request.Request.TheVariants.{Replay, Opener, Compile, Check, Decompile, Diff, Limit, Lookup, LookupLines, Address, AddressLines, Show, Anchors, Picture, Raw, Info, Groups, Risk, RiskLines, FromRaw, Ban, Unban, Banned, Bans, Gen, Trial, Help, Version}
use Rattle.arguments.specs.declared.tables_from.TablesFrom.{TablesFrom}
use Rattle.arguments.specs.declared.tables_from.TablesFrom.TheVariants as from
use Rattle.risk_parts.specs.declared.addr_set.AddrSet.{AddrSet}
use Rattle.arguments.proofs.BesideAnchors.{one_show}
use Rattle.arguments.proofs.BanForms.{one_ban_fields, one_period, one_subnet_in}
use Rattle.arguments.proofs.OpenerOptions.{one_opener}
use Rattle.arguments.proofs.WithCore.{no_file_kind, no_listing_kind, no_opening_kind, no_peers, one_file_kind, one_opening_kind, one_peers}
use Rattle.arguments.proofs.Colourings.{no_colours_kind}
use Rattle.arguments.proofs.Groupings.{no_grouping_kind, no_sets_kind}
use Rattle.arguments.proofs.Marking.{proper_sets}
use Rattle.arguments.proofs.Names.{name_found, one_command}
use Rattle.arguments.proofs.WithRaw.{one_colours_tables, one_net_tables, one_risk}

-- THE VALUES

-- `-` is no peer
no_dash : (text : List ℕ) (p : Peer) → text ≡ codes "-" → IsPeerText text p → ⊥
no_dash text p is spells = by spells.addr (sym is ∙ spells.spelled)
  where
    by : (front : List ℕ) → codes "-" ≡ front ++ codes ":" ++ decimal p.port → ⊥
    by [] same = omega (arith, ap (λ t. get_or t 0 0) same)
    by (b ∷ []) same = omega (arith, ap (λ t. get_or t 1 0) same)
    by (b ∷ c ∷ front) same = omega (arith, ap length same)

dash_or_peer : (texts : List (List ℕ)) (p : Peer) → texts ≡ codes "-" ∷ [] → AllMean (OfPeer ∷ []) texts (ThePeer p ∷ []) → ⊥
dash_or_peer texts p is all =
    let means = subst (λ ts. AllMean (OfPeer ∷ []) ts (ThePeer p ∷ [])) is all in
    no_dash (codes "-") means.0.0 refl means.0.2

one_lookup : (texts : List (List ℕ)) (v w : Values) → Reads PeerOrLines texts v → Reads PeerOrLines texts w → v ≡ w
one_lookup texts v w (inl h) (inl k) = h.0 ∙ sym k.0
one_lookup texts v w (inl h) (inr k) = absurd (dash_or_peer texts k.0 h.1 k.2)
one_lookup texts v w (inr h) (inl k) = absurd (dash_or_peer texts h.0 k.1 h.2)
one_lookup texts v w (inr h) (inr k) = h.1 ∙ ap TheFields (one_list (OfPeer ∷ []) texts (ThePeer h.0 ∷ []) (ThePeer k.0 ∷ []) refl h.2 k.2) ∙ sym k.1

one_address : (texts : List (List ℕ)) (a b : NetAddress) → IsAddressIn texts a → IsAddressIn texts b → a ≡ b
one_address texts a b h k = one_text k.0 a b (subst (λ t. IsTextOf t a) (ap (λ ts. get_or ts 0 []) (sym h.1 ∙ k.1)) h.2) k.2

one_addresses : (texts : List (List ℕ)) (v w : Values) → Reads AddressOrLines texts v → Reads AddressOrLines texts w → v ≡ w
one_addresses texts v w (inl h) (inl k) = h.1 ∙ sym k.1
one_addresses texts v w (inl h) (inr k) = absurd (k.0 h.0)
one_addresses texts v w (inr h) (inl k) = absurd (h.0 k.0)
one_addresses texts v w (inr (h, (a, is, in_texts))) (inr (k, (b, same, other))) = is ∙ ap TheAddress (one_address texts a b in_texts other) ∙ sym same

-- the fields of the form are definite, as a test
abbrev definite_form : Form → Bool
definite_form (Fields kinds) = all_definite kinds
definite_form (ForBans kinds) = all_definite kinds
definite_form other = true

one_values : (form : Form) (texts : List (List ℕ)) (v w : Values) → definite_form form ≡ true → Reads form texts v → Reads form texts w → v ≡ w
one_values (Fields kinds) texts v w is h k = h.1 ∙ ap TheFields (one_list kinds texts h.0 k.0 is h.2 k.2) ∙ sym k.1
one_values Opening texts v w is h k =
    let same = one_opening_kind texts h.0 k.0 h.1 k.1 h.3 k.3 in
    h.2 ∙ (λ i. TheOpening (same.0 i) (same.1 i)) ∙ sym k.2
one_values Outgoing texts v w is h k =
    let same = one_opener texts h.0 k.0 h.1 k.1 h.2 k.2 h.4 k.4 in
    h.3 ∙ (λ i. TheOpener (same.0 i) (same.1 i) (same.2 i)) ∙ sym k.3
one_values Network texts v w is h k = h.1 ∙ ap TheKind (one_file_kind texts h.0 k.0 h.2 k.2) ∙ sym k.1
one_values Keyed texts v w is h k =
    let same = one_opening_kind texts (Some h.0) (Some k.0) h.1 k.1 h.3 k.3 in
    h.2 ∙ (λ i. TheKey (unwrap_or (same.0 i) h.0) (same.1 i)) ∙ sym k.2
one_values Tables texts v w is h k = h.1 ∙ ap TheTables (one_net_tables texts h.0 k.0 h.2 k.2) ∙ sym k.1
one_values Coloured texts v w is h k =
    let same = one_colours_tables texts h.0 k.0 h.1 k.1 h.3 k.3 in
    h.2 ∙ (λ i. TheColours (same.0 i) (same.1 i)) ∙ sym k.2
one_values Listing texts v w is h k = one_show texts v w h k
one_values Records texts v w is h k = h.1 ∙ ap TheRecords (one_peers texts h.0 k.0 h.2 k.2) ∙ sym k.1
one_values Grouped texts v w is h k = one_risk texts v w h k
one_values OfSubnet texts v w is h k = one_subnet_in texts v w h k
one_values Period texts v w is h k = one_period texts v w h k
one_values (ForBans kinds) texts v w is h k = one_ban_fields kinds texts v w is h k
one_values PeerOrLines texts v w is h k = one_lookup texts v w h k
one_values AddressOrLines texts v w is h k = one_addresses texts v w h k
one_values OfCommand texts v w is h k = h.1 ∙ ap TheCommand (one_command texts h.0 k.0 h.2 k.2) ∙ sym k.1

definite_name : (n : CommandName) → definite_form (form_of n) ≡ true
definite_name name.Replay = refl
definite_name other = refl

-- THE REQUEST

request_by : CommandName → Values → Request
request_by name.Replay (TheOpening key kind) = Replay key kind
request_by name.Opener (TheOpener rules key kind) = Opener rules key kind
request_by name.Check values = Check
request_by name.Decompile values = Decompile
request_by name.Diff (TheRecords peers) = Diff peers
request_by name.Limit values = Limit
request_by name.Lookup (TheFields (ThePeer peer ∷ [])) = Lookup peer
request_by name.Lookup (TheFields []) = LookupLines
request_by name.Address (TheAddress addr) = Address addr
request_by name.Address (TheFields []) = AddressLines
request_by name.Show (TheListing keyed kind) = Show keyed kind
request_by name.Show (TheAnchors chain) = Anchors chain
request_by name.Picture (TheColours colours from) = Picture colours from
request_by name.Raw (TheKind kind) = Raw kind
request_by name.Info (TheTables from) = Info from
request_by name.Groups (TheTables from) = Groups from
request_by name.Risk (TheGroups by from) = Risk by from
request_by name.Risk (TheKind kind) = RiskLines kind
request_by name.FromRaw (TheKey key kind) = FromRaw key kind
request_by name.Ban (ThePeriod rule subnet now until) = Ban rule subnet now until
request_by name.Unban (TheSubnet rule subnet) = Unban rule subnet
request_by name.Banned (TheBanFields rule (ThePeer peer ∷ TheNumber now ∷ [])) = Banned rule peer now
request_by name.Bans (TheBanFields rule (TheNumber now ∷ [])) = Bans rule now
request_by name.Gen (TheFields (TheNumber start ∷ TheNumber lines ∷ [])) = Gen start lines
request_by name.Trial (TheFields (TheNumber start ∷ TheNumber lines ∷ [])) = Trial start lines
request_by name.Help (TheCommand command) = Help command
request_by name.Version values = Version
request_by other values = Compile

request_back : (r : Request) → request_by (name_of r) (request_values r) ≡ r
unfolding request_by
request_back Compile = refl
request_back other = refl

one_request : (a b : Request) (texts : List (List ℕ)) → name_of a ≡ name_of b → Reads (form_of (name_of a)) texts (request_values a) → Reads (form_of (name_of b)) texts (request_values b) → a ≡ b
one_request a b texts names h k =
    let values = one_values (form_of (name_of a)) texts (request_values a) (request_values b) (definite_name (name_of a)) h (subst (λ n. Reads (form_of n) texts (request_values b)) (sym names) k) in
    sym (request_back a) ∙ (λ i. request_by (names i) (values i)) ∙ request_back b

-- WHAT IS READ

pub if_none : {A : Type 0} (r : Option A) (P : Type 0) → P → IfNone r P
if_none None P holds = holds
if_none (Some x) P holds = tt

-- the request that was read has this name, and the texts after it have its values
abbrev pub IsAfter : CommandName → List (List ℕ) → Request → Type 0
IsAfter n texts request = (name_of request ≡ n) × Reads (form_of n) texts (request_values request)

pub found_asks : (words texts : List (List ℕ)) (word plain : List ℕ) (n : CommandName) (r : Option Request) → words ≡ word ∷ texts → plain ≡ plain_word word → plain ≡ command_word n → IfSome r (IsAfter n texts) → IfSome r (Asks words)
found_asks words texts word plain n None is of_word named found = tt
found_asks words texts word plain n (Some request) is of_word named found = (
  word,
  texts,
  is,
  sym of_word ∙ named ∙ ap command_word (sym found.0),
  subst (λ m. Reads (form_of m) texts (request_values request)) (sym found.0) found.1,
)

head_of : (words texts : List (List ℕ)) (word : List ℕ) (request : Request) → words ≡ word ∷ texts → (asks : Asks words request) → plain_word word ≡ command_word (name_of request)
head_of words texts word request is asks = ap plain_word (ap (λ ws. get_or ws 0 []) (sym is ∙ asks.2)) ∙ asks.3

only_after : (n : CommandName) (texts : List (List ℕ)) (r : Option Request) → IfSome r (IsAfter n texts) → IfNone r (HasNoValues (form_of n) texts) →
    (request : Request) → n ≡ name_of request → Reads (form_of (name_of request)) texts (request_values request) → r ≡ Some request
unfolding HasNoValues
only_after n texts None found none request is reads = absurd (none (request_values request) (subst (λ m. Reads (form_of m) texts (request_values request)) (sym is) reads))
only_after n texts (Some read) found none request is reads =
    ap Some (one_request read request texts (found.0 ∙ is) (subst (λ m. Reads (form_of m) texts (request_values read)) (sym found.0) found.1) reads)

pub only_asked : (words texts : List (List ℕ)) (word plain : List ℕ) (found : Option CommandName) (n : CommandName) (r : Option Request) → words ≡ word ∷ texts → plain ≡ plain_word word →
    found ≡ find (λ k. bytes_eq (command_word k) plain) NAMES → found ≡ Some n → IfSome r (IsAfter n texts) → IfNone r (HasNoValues (form_of n) texts) →
    (request : Request) → Asks words request → r ≡ Some request
only_asked words texts word plain found n r is of_word searched some reads none request asks =
    let same : Some n ≡ Some (name_of request) = sym some ∙ searched ∙ name_found plain (name_of request) (of_word ∙ head_of words texts word request is asks) in
    let names = ap (λ o. unwrap_or o n) same in
    let rest = ap (drop 1) (sym asks.2 ∙ is) in
    only_after n texts r reads none request names (subst (λ ts. Reads (form_of (name_of request)) ts (request_values request)) rest asks.4)

-- a word that is no name asks for nothing
pub none_asked : (words texts : List (List ℕ)) (word plain : List ℕ) (found : Option CommandName) → words ≡ word ∷ texts → plain ≡ plain_word word →
    found ≡ find (λ k. bytes_eq (command_word k) plain) NAMES → found ≡ None → (request : Request) → Asks words request → ⊥
none_asked words texts word plain found is of_word searched none request asks =
    none-some (name_of request) (sym none ∙ searched ∙ name_found plain (name_of request) (of_word ∙ head_of words texts word request is asks))

-- WHAT A REQUEST PROMISES

subnet_in : Values → Subnet → Subnet
subnet_in (TheSubnet rule subnet) other = subnet
subnet_in (ThePeriod rule subnet now until) other = subnet
subnet_in values other = other

numbers_in : List Value → ℕ
numbers_in (first ∷ TheNumber n ∷ []) = n
numbers_in other = 0

fields_in : Values → List Value
fields_in (TheFields values) = values
fields_in other = []

sets_in : Values → List (Option AddrSet)
sets_in (TheColours (colours.Marks marks) tables) = marks.sets
sets_in other = []

few_lines : (texts : List (List ℕ)) (start lines : ℕ) → Reads (form_of name.Gen) texts (TheFields (TheNumber start ∷ TheNumber lines ∷ [])) → lines ≤ MAX_LINES
unfolding numbers_in fields_in
few_lines texts start lines reads = by texts reads.0 (ap fields_in reads.1) reads.2
  where
    by : (texts : List (List ℕ)) (values : List Value) → TheNumber start ∷ TheNumber lines ∷ [] ≡ values → AllMean (u64_field ∷ Number 1 MAX_LINES ∷ []) texts values → lines ≤ MAX_LINES
    by (a ∷ b ∷ []) (v ∷ w ∷ []) is all = omega (arith, ap numbers_in is, ap numbers_in (λ i. v ∷ all.1.0.1 i ∷ []), all.1.0.3)
    by [] values is all = absurd all
    by (a ∷ []) [] is all = absurd all
    by (a ∷ []) (v ∷ values) is all = absurd all.1
    by (a ∷ b ∷ texts) [] is all = absurd all
    by (a ∷ b ∷ texts) (v ∷ []) is all = absurd all.1
    by (a ∷ b ∷ c ∷ texts) (v ∷ w ∷ values) is all = absurd all.1.1
    by (a ∷ b ∷ []) (v ∷ w ∷ x ∷ values) is all = absurd all.1.1

module _ (law : (rule : BanRule) (text : List ℕ) (s : Subnet) → IsSubnetTextBy rule text s → IsProper s) where
  proper_period : (texts : List (List ℕ)) (rule : BanRule) (s : Subnet) (now until : ℕ) → Reads Period texts (ThePeriod rule s now until) → IsProper s
  unfolding subnet_in
  proper_period texts rule s now until (r, rest, found, n, u, is, has, (text, all, means, less, most)) = subst IsProper (sym (ap (λ v. subnet_in v s) is)) (law r text found means)

  proper_subnet : (texts : List (List ℕ)) (rule : BanRule) (s : Subnet) → Reads OfSubnet texts (TheSubnet rule s) → IsProper s
  unfolding subnet_in
  proper_subnet texts rule s (r, rest, found, is, has, (text, alone, means)) = subst IsProper (sym (ap (λ v. subnet_in v s) is)) (law r text found means)

  sets_chosen : (texts : List (List ℕ)) (x : Colours) (tables : TablesFrom) → IsTables (IsAfterColouring x) texts tables → AreProperSets (sets_in (TheColours x tables))
  unfolding sets_in
  sets_chosen texts colours.Plain tables chosen = tt
  sets_chosen texts (colours.By by) tables chosen = tt
  sets_chosen texts (colours.Marks marks) (from.File kind) (rest, has, (words, means, after)) = proper_sets law words marks.sets means.2
  sets_chosen texts (colours.Marks marks) (from.Listing chain) (rest, raw, (words, means, after)) = proper_sets law words marks.sets means.2

  proper_marks : (texts : List (List ℕ)) (marks : Marks) (tables : TablesFrom) → Reads Coloured texts (TheColours (colours.Marks marks) tables) → AreProperSets marks.sets
  unfolding sets_in
  proper_marks texts marks tables (x, other, is, chosen) = subst AreProperSets (sym (ap sets_in is)) (sets_chosen texts x other chosen)

  proper : (request : Request) (texts : List (List ℕ)) → Reads (form_of (name_of request)) texts (request_values request) → IsProperRequest request
  proper (Ban rule subnet now until) texts reads = proper_period texts rule subnet now until reads
  proper (Unban rule subnet) texts reads = proper_subnet texts rule subnet reads
  proper (Gen start lines) texts reads = few_lines texts start lines reads
  proper (Trial start lines) texts reads = few_lines texts start lines reads
  proper (Picture (colours.Marks marks) tables) texts reads = proper_marks texts marks tables reads
  proper other texts reads = tt

  pub proper_asked : (words : List (List ℕ)) (r : Option Request) → IfSome r (Asks words) → IfSome r IsProperRequest
  proper_asked words None asks = tt
  proper_asked words (Some request) asks = proper request asks.1 asks.4

-- FIELDS

-- texts that were not read, since memory cannot run out, are not of the kinds
pub no_fields : (kinds : List Kind) (texts : List (List ℕ)) (f : LineFault) → (f ≡ fault.Memory → ⊥) → (f ≢ fault.Memory → AreAtFault kinds texts f) → HasNoValues (Fields kinds) texts
unfolding HasNoValues
no_fields kinds texts f never why v reads = no_fault_after (Some kinds) texts reads.0 f reads.2 (why never)

-- OTHER FORMS

pub no_lookup : (texts : List (List ℕ)) (is_dash : Bool) → (IsTrue is_dash ↔ (texts ≡ codes "-" ∷ [])) → is_dash ≡ false → HasNoValues (Fields (OfPeer ∷ [])) texts → HasNoValues PeerOrLines texts
unfolding HasNoValues
no_lookup texts is_dash iff not_it none v (inl dash) = iff_false iff not_it dash.1
no_lookup texts is_dash iff not_it none v (inr peer) = none v (ThePeer peer.0 ∷ [], peer.1, peer.2)

pub found_address : (texts : List (List ℕ)) (word : List ℕ) (r : Option NetAddress) → texts ≡ word ∷ [] → IfSome r (IsTextOf word) → IfSome r (IsAddressIn texts)
found_address texts word None is found = tt
found_address texts word (Some a) is found = (word, is, found)

pub only_address : (texts : List (List ℕ)) (word : List ℕ) (r : Option NetAddress) → texts ≡ word ∷ [] → ((a : NetAddress) → IsTextOf word a → r ≡ Some a) →
    (a : NetAddress) → IsAddressIn texts a → r ≡ Some a
only_address texts word r is only a (text, one, means) = only a (subst (λ t. IsTextOf t a) (ap (λ ts. get_or ts 0 []) (sym one ∙ is)) means)

pub found_addresses : (texts : List (List ℕ)) (is_dash : Bool) (a : NetAddress) → (IsTrue is_dash ↔ (texts ≡ codes "-" ∷ [])) → is_dash ≡ false → IsAddressIn texts a →
    Reads AddressOrLines texts (TheAddress a)
found_addresses texts is_dash a iff not_it is = inr (iff_false iff not_it, (a, refl, is))

pub no_addresses : (texts : List (List ℕ)) (is_dash : Bool) (r : Option NetAddress) → (IsTrue is_dash ↔ (texts ≡ codes "-" ∷ [])) → is_dash ≡ false →
    ((a : NetAddress) → IsAddressIn texts a → r ≡ Some a) → r ≡ None → HasNoValues AddressOrLines texts
unfolding HasNoValues
no_addresses texts is_dash r iff not_it only none v (inl dash) = iff_false iff not_it dash.0
no_addresses texts is_dash r iff not_it only none v (inr (other, (a, is, in_texts))) = none-some a (sym none ∙ only a in_texts)

-- what opens tables with a key
pub no_key_at_all : (texts : List (List ℕ)) → HasNoValues Opening texts → HasNoValues Keyed texts
unfolding HasNoValues
no_key_at_all texts none v (key, kind, is, chosen) = none (TheOpening (Some key) kind) (Some key, kind, refl, chosen)

-- and what opens them without one
pub no_key_there : (texts : List (List ℕ)) (none : Option (List ℕ)) (kind : FileKind) → none ≡ None → IsFileOptions (IsOpeningOptions none) texts kind → HasNoValues Keyed texts
unfolding HasNoValues
no_key_there texts none kind is chosen v (key, other, same, also) = none-some key (sym is ∙ (one_opening_kind texts none (Some key) kind other chosen also).0)

-- what `--core` leaves to be read
module _ (texts rest : List (List ℕ)) (rule : SumRule) (has : HasRule rule rest texts) (none : rule ≡ Bytes → (tail : List (List ℕ)) → texts ≡ codes "--core" ∷ tail → ⊥) where
  pub no_opening : (r : Option (Option (List ℕ) × Chain)) → r ≡ None → ((key : Option (List ℕ)) (chain : Chain) → IsOpeningOptions key rest chain → r ≡ Some (key, chain)) → HasNoValues Opening texts
  unfolding HasNoValues
  no_opening r is only v reads = no_opening_kind texts rest rule has none (λ key chain chosen. none-some (key, chain) (sym is ∙ only key chain chosen)) reads.0 reads.1 reads.3

  pub no_net : (r : Option Chain) → r ≡ None → ((chain : Chain) → IsNet rest chain → r ≡ Some chain) → HasNoValues Network texts
  unfolding HasNoValues
  no_net r is only v reads = no_file_kind texts rest rule has none (λ chain chosen. none-some chain (sym is ∙ only chain chosen)) reads.0 reads.2

  pub no_listing : (r : Option (Bool × Chain)) → r ≡ None → ((keyed : Bool) (chain : Chain) → IsListingOptions keyed rest chain → r ≡ Some (keyed, chain)) →
      (keyed : Bool) (kind : FileKind) → IsFileOptions (IsListingOptions keyed) texts kind → ⊥
  no_listing r is only keyed kind chosen = no_listing_kind texts rest rule has none (λ keyed chain chosen. none-some (keyed, chain) (sym is ∙ only keyed chain chosen)) keyed kind chosen

  pub no_grouping : (r : Option (Grouping × Chain)) → r ≡ None → ((by : Grouping) (chain : Chain) → IsAfterGrouping by rest chain → r ≡ Some (by, chain)) →
      (by : Grouping) (kind : FileKind) → IsFileOptions (IsAfterGrouping by) texts kind → ⊥
  no_grouping r is only by kind chosen = no_grouping_kind texts rest rule has none (λ other chain asks. none-some (other, chain) (sym is ∙ only other chain asks)) by kind chosen

  pub no_sets : (r : Option Chain) → r ≡ None → ((chain : Chain) → IsAfterDash rest chain → r ≡ Some chain) → (kind : FileKind) → IsFileOptions IsAfterDash texts kind → ⊥
  no_sets r is only kind chosen = no_sets_kind texts rest rule has none (λ chain asks. none-some chain (sym is ∙ only chain asks)) kind chosen

  pub no_colours : (r : Option (Colours × Chain)) → r ≡ None → ((x : Colours) (chain : Chain) → IsAfterColouring x rest chain → r ≡ Some (x, chain)) →
      (x : Colours) (kind : FileKind) → IsFileOptions (IsAfterColouring x) texts kind → ⊥
  no_colours r is only x kind chosen = no_colours_kind texts rest rule has none (λ other chain asks. none-some (other, chain) (sym is ∙ only other chain asks)) x kind chosen

  pub no_records : (r : Option Chain) → (texts ≡ [] → ⊥) → r ≡ None → ((chain : Chain) → IsAfterPeers rest chain → r ≡ Some chain) → HasNoValues Records texts
  unfolding HasNoValues
  no_records r some is only v reads = no_peers texts rest rule some has none (λ chain chosen. none-some chain (sym is ∙ only chain chosen)) reads.0 reads.2
