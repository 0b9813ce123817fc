-- Which line says what, and what is wrong in a line that says nothing.
use Rattle.std.specs.Prelude.{◌≡◌, ◌<◌, ◌≤◌, ℕ, List, [], ◌∷◌, ◌++◌, Bool, true, false, Result, Ok, Err, Option, Some, None, codes, decimal, bytes_eq, find, length, slice_index}
use Rattle.net_addr.specs.Address.{Address}
use Rattle.net_addr.specs.declared.peer.Entry.{Entry}
use Rattle.addr_codecs.specs.Layout.{IsMessage, HasMessageFault}
use Rattle.addr_codecs.specs.declared.form.Form.{Form}
use Rattle.addr_codecs.specs.declared.form.Form.TheVariants.{Addr, Addrv2}
use Rattle.addr_codecs.specs.declared.fault.MsgFault.{MsgFault}
use Rattle.grammar.specs.Fields.{Kind, OfAddr, Hex, Random, Either, Value, TheNumber, TheAddr, TheBytes, TheWords, TheChoice, u32_field, AllMean, AreAtFault}
use Rattle.grammar.specs.Reading as reading
use Rattle.grammar.specs.Words.{fields_of}
use Rattle.grammar.specs.declared.fault.LineFault.{LineFault}
use Rattle.addr_limit.specs.LogState.{LimitState}
use Rattle.addr_limit.specs.Steps.{after_event, output}
use Rattle.addr_limit.specs.declared.command.Event.{Event}
use Rattle.addr_limit.specs.declared.command.Event.TheVariants.{Now, Of, Nothing}
use Rattle.addr_limit.specs.declared.command.LimitCommand.{LimitCommand}
use Rattle.addr_limit.specs.declared.command.LimitCommand.TheVariants.{Open, Close, GetAddr, Message, Stat}
use Rattle.addr_limit.specs.declared.command.LimitWord.{LimitWord}
use Rattle.addr_limit.specs.declared.command.LimitWord.TheVariants as v

-- the first word of a line
abbrev pub limit_word : LimitWord → List ℕ
limit_word v.Now = codes "now"
limit_word v.Open = codes "open"
limit_word v.Close = codes "close"
limit_word v.GetAddr = codes "getaddr"
limit_word v.From = codes "from"
limit_word v.From2 = codes "from2"
limit_word v.Stat = codes "stat"

-- The fields of a line with a message: the number of its connection, its payload, and random words.
abbrev pub message_kinds : List Kind
message_kinds = u32_field ∷ Hex ∷ Random ∷ []

-- the kinds of the fields after it
abbrev pub limit_kinds : LimitWord → List Kind
limit_kinds v.Now = u32_field ∷ []
limit_kinds v.Open = u32_field ∷ OfAddr ∷ Either (codes "unlimited") (codes "limited") ∷ []
limit_kinds v.Close = u32_field ∷ []
limit_kinds v.GetAddr = u32_field ∷ []
limit_kinds v.From = message_kinds
limit_kinds v.From2 = message_kinds
limit_kinds v.Stat = u32_field ∷ []

-- the keyword of a first word, if it is a keyword
abbrev pub verb_at : List ℕ → Option LimitWord
verb_at word =
    find (λ verb. bytes_eq (limit_word verb) word)
    (v.Now ∷ v.Open ∷ v.Close ∷ v.GetAddr ∷ v.From ∷ v.From2 ∷ v.Stat ∷ [])

-- the payload of a message reads as entries, at most 1000, or has a fault
abbrev pub IsRead : Form → List ℕ → Result (List (Option Entry)) MsgFault → Type 0
IsRead form payload (Ok entries) = IsMessage form payload entries × (length entries ≤ 1000)
IsRead form payload (Err fault) = HasMessageFault form payload fault

-- the number of a connection, a payload of bytes and random words say a message of the form
abbrev pub SaysMessage : Form → List Value → Event → Type 0
SaysMessage form values event =
    (number : ℕ) × (payload : List ℕ) × (words : List ℕ)
    × (read : Result (List (Option Entry)) MsgFault)
    × (values ≡ TheNumber number ∷ TheBytes payload ∷ TheWords words ∷ [])
    × ((i : ℕ) → slice_index payload i < 256) × IsRead form payload read
    × (event ≡ Of number (Message read words))

-- the number of a connection says a request about it
abbrev pub SaysRequest : LimitCommand → List Value → Event → Type 0
SaysRequest request values event =
    (number : ℕ) × (values ≡ TheNumber number ∷ []) × (event ≡ Of number request)

-- the values of the fields after a keyword say the event
abbrev pub SaysOf : LimitWord → List Value → Event → Type 0
SaysOf v.Now values event = (time : ℕ) × (values ≡ TheNumber time ∷ []) × (event ≡ Now time)
SaysOf v.Open values event =
    (number : ℕ) × (addr : Address) × (unlimited : Bool)
    × (values ≡ TheNumber number ∷ TheAddr addr ∷ TheChoice unlimited ∷ [])
    × (event ≡ Of number (Open addr unlimited))
SaysOf v.Close values event = SaysRequest Close values event
SaysOf v.GetAddr values event = SaysRequest GetAddr values event
SaysOf v.From values event = SaysMessage Addr values event
SaysOf v.From2 values event = SaysMessage Addrv2 values event
SaysOf v.Stat values event = SaysRequest Stat values event

-- the texts after a keyword say the event; without a keyword they say nothing
abbrev pub SaysBy : Option LimitWord → List (List ℕ) → Event → Type 0
SaysBy None texts event = event ≡ Nothing
SaysBy (Some verb) texts event =
    (values : List Value) × AllMean (limit_kinds verb) texts values × SaysOf verb values event

-- the same by the first word
abbrev pub SaysAfter : List ℕ → List (List ℕ) → Event → Type 0
SaysAfter word texts event = SaysBy (verb_at word) texts event

-- what is wrong in the texts after a keyword: their number, or the first that is not of its kind
abbrev pub FaultBy : Option LimitWord → List (List ℕ) → LineFault → Type 0
FaultBy None texts f = ⊥
FaultBy (Some verb) texts f = AreAtFault (limit_kinds verb) texts f

-- What is wrong in the texts after a first word.
abbrev pub FaultAfter : List ℕ → List (List ℕ) → LineFault → Type 0
FaultAfter word texts f = FaultBy (verb_at word) texts f

-- the line says the event
abbrev pub SaysEvent : List ℕ → Event → Type 0
SaysEvent line event = reading.Says SaysAfter (fields_of line) event

-- what is wrong in a line
abbrev pub HasEventFault : List ℕ → LineFault → Type 0
HasEventFault line f = reading.Says FaultAfter (fields_of line) f

-- the step of a line: its text is its output line and a line feed
abbrev pub LimitStep : LimitState → List ℕ → List ℕ → LimitState → Type 0
LimitStep old line text new =
    (event : Event) × SaysEvent line event × (text ≡ output old line event ++ 10 ∷ [])
    × (new ≡ after_event old event)

-- a `now` line, or one with a number that is this one
abbrev pub is_about_by : ℕ → Option LimitWord → List (List ℕ) → Bool
is_about_by number None texts = false
is_about_by number (Some v.Now) texts = true
is_about_by number (Some verb) [] = false
is_about_by number (Some verb) (text ∷ texts) = bytes_eq text (decimal number)

-- The fields of a line are about a connection: they are a `now` line, or name its number.
abbrev pub are_about : ℕ → List (List ℕ) → Bool
are_about number [] = false
are_about number (word ∷ texts) = is_about_by number (verb_at word) texts

-- The line is about a connection.
abbrev pub is_about : ℕ → List ℕ → Bool
is_about number line = are_about number (fields_of line)
