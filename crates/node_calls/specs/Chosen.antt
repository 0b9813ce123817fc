-- What a node takes of a message that has a use for some entries only, as Bitcoin Core does
-- (`PeerManagerImpl::ProcessMessage` in net_processing.cpp): the entries are shuffled, the first of
-- them are let through, and of these the useful ones are added whose addresses are not banned.
use Rattle.std.specs.Prelude.{◌≡◌, ◌≢◌, ◌⊎◌, ℕ, ◌+◌, ◌-◌, ◌%◌, ◌<◌, List, [], ◌∷◌, length, min, take, drop, map, swap, Bool, ◌&&◌, ◌==◌, not, nat_lt, bit_and, find, is_none, Option, Some, None, if◌then◌else◌}
use Rattle.addr_codecs.specs.Layout.{IsMessage, HasMessageFault}
use Rattle.addr_codecs.specs.declared.fault.MsgFault.TheVariants as msg
use Rattle.addr_codecs.specs.declared.form.Form.{Form}
use Rattle.ban_list.specs.Bans.{stops}
use Rattle.ban_list.specs.declared.ban.Ban.{Ban}
use Rattle.net_addr.specs.Address.{Address}
use Rattle.net_addr.specs.NetSet.{has}
use Rattle.net_addr.specs.Ranges.{is_routable}
use Rattle.net_addr.specs.declared.peer.Entry.{Entry}
use Rattle.net_addr.specs.declared.net.Net.{Net}
use Rattle.net_addr.specs.declared.net.Net.TheVariants.{Unroutable}
use Rattle.table_machine.specs.State.{State}
use Rattle.taking.specs.Taking.{AreAdded, HasFirst}
use Rattle.taking.specs.declared.messages.Added.{Added}
use Rattle.taking.specs.declared.messages.MessageFault.{MessageFault}
use Rattle.taking.specs.declared.messages.MessageFault.TheVariants.{Memory, Refused, ShortWords}

-- a list whose element at each position from i on is exchanged, in turn, with one from there on
-- that a random word selects
abbrev pub shuffled : {A : Type 0} → List A → ℕ → List ℕ → List A
shuffled xs i [] = xs
shuffled xs i (word ∷ words) =
    if nat_lt i (length xs)
    then shuffled (swap xs i (i + word % (length xs - i))) (i + 1) words
    else xs

-- the network of an address; `Unroutable` if it is not routable (`CNetAddr::GetNetwork`)
abbrev pub network_of : Address → Net
network_of addr = if is_routable addr then addr.net else Unroutable

-- a node has a use for a peer that has one of these services, in a network that it reaches
abbrev pub is_useful : ℕ → List ℕ → Entry → Bool
is_useful services nets e =
    not (bit_and e.services services == 0) && has nets (network_of e.peer.addr)

-- no ban covers its address now
abbrev pub is_free : List Ban → ℕ → Entry → Bool
is_free bans now e = is_none (find (stops e.peer.addr now) bans)

-- other entries are skipped
abbrev pub useful : ℕ → List ℕ → List Ban → ℕ → Option Entry → Option Entry
useful services nets bans now None = None
useful services nets bans now (Some e) =
    if is_free bans now e && is_useful services nets e then Some e else None

-- what is taken of the entries of a message, as many as are let through
abbrev pub chosen : ℕ → ℕ → List ℕ → List Ban → ℕ → List ℕ → List (Option Entry)
    → List (Option Entry)
chosen most services nets bans now words entries =
    map (useful services nets bans now) (take most (shuffled entries 0 words))

-- how many random words they need: one for each entry, and one more for each that is let through
abbrev pub words_for : ℕ → List (Option Entry) → ℕ
words_for most entries = length entries + min most (length entries)

-- the chosen entries of a message are added, with the words that are left after the shuffle
abbrev pub AreChosen : ℕ → ℕ → List ℕ → List Ban → List (Option Entry) → State → ℕ → Address
    → List ℕ → Added → State → Type 0
AreChosen most services nets bans entries old now source words added new =
    AreAdded (chosen most services nets bans now words entries) old now source
    (drop (length entries) words) added new

-- why they are not, and what is left: too few random words, and then the tables are as before; or
-- no memory, and then some of them may be added
abbrev pub AreNotChosen : ℕ → ℕ → List ℕ → List Ban → List (Option Entry) → State → ℕ → Address
    → List ℕ → MessageFault → State → Type 0
AreNotChosen most services nets bans entries old now source words Memory new =
    (new ≡ old) ⊎ HasFirst (chosen most services nets bans now words entries) old now source
    (drop (length entries) words) new
AreNotChosen most services nets bans entries old now source words (Refused fault) new = ⊥
AreNotChosen most services nets bans entries old now source words (ShortWords need have) new =
    (need ≡ words_for most entries) × (have ≡ length words) × (have < need) × (new ≡ old)

-- the payload is a message, and its chosen entries are added
abbrev pub IsChosenAdded : Form → List ℕ → ℕ → ℕ → List ℕ → List Ban → State → ℕ → Address
    → List ℕ → Added → State → Type 0
IsChosenAdded form payload most services nets bans old now source words added new =
    (entries : List (Option Entry)) × IsMessage form payload entries
    × AreChosen most services nets bans entries old now source words added new

-- why not: the payload's first fault, no memory to read it, or what keeps the entries out
abbrev pub IsChosenFault : Form → List ℕ → ℕ → ℕ → List ℕ → List Ban → State → ℕ → Address
    → List ℕ → MessageFault → State → Type 0
IsChosenFault form payload most services nets bans old now source words (Refused fault) new =
    HasMessageFault form payload fault × (fault ≢ msg.Memory) × (new ≡ old)
IsChosenFault form payload most services nets bans old now source words Memory new =
    (new ≡ old) ⊎ ((entries : List (Option Entry)) × IsMessage form payload entries
    × AreNotChosen most services nets bans entries old now source words Memory new)
IsChosenFault form payload most services nets bans old now source words (ShortWords need have) new =
    (entries : List (Option Entry)) × IsMessage form payload entries
    × AreNotChosen most services nets bans entries old now source words (ShortWords need have) new
