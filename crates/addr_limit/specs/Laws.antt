-- Why a line has one meaning.
use Rattle.std.proofs.Common.{◌≡◌, ℕ, ◌<◌, Bool, true, false, List, [], Option, Some, None, Result, Ok, Err, codes, get_or, refl, sym, ap, subst, ◌∙◌, ◌==◌}
use Rattle.net_addr.specs.Address.{Address}
use Rattle.net_addr.specs.declared.peer.Entry.{Entry}
use Rattle.wire_num.proofs.ReadingLaws.{one_meaning}
use Rattle.addr_codecs.specs.Inside.{message_at, addr_entry_at, addrv2_entry_at}
use Rattle.addr_codecs.specs.Layout.{message, addr_entry, addrv2_entry, IsMessage, HasMessageFault}
use Rattle.addr_codecs.specs.declared.form.Form.{Form}
use Rattle.addr_codecs.specs.declared.form.Form.TheVariants.{Addr, Addrv2}
use Rattle.addr_codecs.specs.declared.fault.MsgFault.{MsgFault}
use Rattle.addr_codecs.specs.declared.fault.MsgFault.TheVariants.{Trailing}
use Rattle.addr_codecs.proofs.MessageLaws.{Reads-message, Reads-addr_entry, Reads-addrv2_entry}
use Rattle.grammar.specs.Contents.{at, number_in}
use Rattle.grammar.specs.Fields.{Value, TheAddr, TheBytes, TheWords, TheChoice}
use Rattle.grammar.specs.Table.{all_definite}
use Rattle.grammar.specs.declared.fault.LineFault.{LineFault}
use Rattle.grammar.proofs.TableLemmas.{one_list, one_fault_after, no_fault_after}
use Rattle.addr_limit.specs.Lines.{limit_kinds, verb_at, IsRead, SaysMessage, SaysRequest, SaysOf, SaysBy, SaysAfter, FaultBy, FaultAfter}
use Rattle.addr_limit.specs.declared.command.Event.{Event}
use Rattle.addr_limit.specs.declared.command.Event.TheVariants.{Now, Of}
use Rattle.addr_limit.specs.declared.command.LimitCommand.{LimitCommand}
use Rattle.addr_limit.specs.declared.command.LimitCommand.TheVariants.{Open, Close, GetAddr, Message, Stat}
use Rattle.addr_limit.specs.declared.command.LimitWord.{LimitWord}
use Rattle.addr_limit.specs.declared.command.LimitWord.TheVariants as v

-- A truth value as a type.
abbrev Holds : Bool → Type 0
Holds true = Unit {0}
Holds false = ⊥

-- the two keywords of `open` differ
pub apart : codes "unlimited" ≡ codes "limited" → ⊥
apart e = subst (λ (word : List ℕ). Holds (get_or word 0 0 == 117)) e tt

-- ---- values

-- The address that a value is, or another one.
abbrev addr_in : Address → Value → Address
addr_in a (TheAddr b) = b
addr_in a other = a

-- The bytes that a value is.
abbrev bytes_in : Value → List ℕ
bytes_in (TheBytes bytes) = bytes
bytes_in other = []

-- The random words that a value is.
abbrev words_in : Value → List ℕ
words_in (TheWords words) = words
words_in other = []

-- The choice that a value is.
abbrev choice_in : Value → Bool
choice_in (TheChoice b) = b
choice_in other = false

-- A text is at most one value of each kind of field that a keyword has.
definite : (verb : LimitWord) → all_definite (limit_kinds verb) ≡ true
definite v.Now = refl
definite v.Open = refl
definite v.Close = refl
definite v.GetAddr = refl
definite v.From = refl
definite v.From2 = refl
definite v.Stat = refl

-- ---- messages

-- Two readings of a payload are equal if its form has one meaning.
one_by : (form : Form) (payload : List ℕ)
    → ((x y : List (Option Entry)) → IsMessage form payload x → IsMessage form payload y → x ≡ y)
    → ((f g : MsgFault) → HasMessageFault form payload f → HasMessageFault form payload g → f ≡ g)
    → ((x : List (Option Entry)) (f : MsgFault)
    → IsMessage form payload x → HasMessageFault form payload f → ⊥)
    → (a b : Result (List (Option Entry)) MsgFault)
    → IsRead form payload a → IsRead form payload b → a ≡ b
one_by form payload value fault both (Ok x) (Ok y) h k = ap Ok (value x y h.0 k.0)
one_by form payload value fault both (Ok x) (Err g) h k = absurd (both x g h.0 k)
one_by form payload value fault both (Err f) (Ok y) h k = absurd (both y f k.0 h)
one_by form payload value fault both (Err f) (Err g) h k = ap Err (fault f g h k)

-- Two readings of a payload are equal.
one_reading : (form : Form) (payload : List ℕ) → ((i : ℕ) → get_or payload i 0 < 256)
    → (a b : Result (List (Option Entry)) MsgFault)
    → IsRead form payload a → IsRead form payload b → a ≡ b
one_reading Addr payload bytes =
    let meaning = one_meaning (message addr_entry) Trailing (message_at addr_entry_at) payload
    (Reads-message addr_entry addr_entry_at Reads-addr_entry) bytes in
    one_by Addr payload meaning.one_value meaning.one_fault meaning.never_both
one_reading Addrv2 payload bytes =
    let meaning = one_meaning (message addrv2_entry) Trailing (message_at addrv2_entry_at) payload
    (Reads-message addrv2_entry addrv2_entry_at Reads-addrv2_entry) bytes in
    one_by Addrv2 payload meaning.one_value meaning.one_fault meaning.never_both

-- A line with a message says one event.
one_message : (form : Form) (values : List Value) (a b : Event)
    → SaysMessage form values a → SaysMessage form values b → a ≡ b
one_message form values a b (m, p, ps, x, h, bytes, reads, is)
    (n, q, qs, y, k, others, again, is') =
    let same = sym h ∙ k in
    let payloads = ap (λ vs. bytes_in (at vs 1)) same in
    let read = one_reading form p bytes x y reads
    (subst (λ r. IsRead form r y) (sym payloads) again) in
    is
    ∙ (λ i. Of (number_in (at (same i) 0)) (Message (read i) (words_in (at (same i) 2))))
    ∙ sym is'

-- ---- events

-- A line with a request says one event.
one_request : (request : LimitCommand) (values : List Value) (a b : Event)
    → SaysRequest request values a → SaysRequest request values b → a ≡ b
one_request request values a b (m, h, is) (n, k, is') =
    is ∙ ap (λ vs. Of (number_in (at vs 0)) request) (sym h ∙ k) ∙ sym is'

-- The values after a keyword say one event.
one_of : (verb : LimitWord) (values : List Value) (a b : Event)
    → SaysOf verb values a → SaysOf verb values b → a ≡ b
one_of v.Now values a b (t, h, is) (u, k, is') =
    is ∙ ap (λ vs. Now (number_in (at vs 0))) (sym h ∙ k) ∙ sym is'
one_of v.Open values a b (m, x, s, h, is) (n, y, t, k, is') =
    is
    ∙ ap (λ vs. Of (number_in (at vs 0)) (Open (addr_in x (at vs 1)) (choice_in (at vs 2))))
    (sym h ∙ k)
    ∙ sym is'
one_of v.Close values a b h k = one_request Close values a b h k
one_of v.GetAddr values a b h k = one_request GetAddr values a b h k
one_of v.From values a b h k = one_message Addr values a b h k
one_of v.From2 values a b h k = one_message Addrv2 values a b h k
one_of v.Stat values a b h k = one_request Stat values a b h k

-- The words of a line say one event.
pub one_event : (word : List ℕ) (texts : List (List ℕ)) (a b : Event)
    → SaysAfter word texts a → SaysAfter word texts b → a ≡ b
one_event word texts a b = by (verb_at word)
  where
    by : (o : Option LimitWord) → SaysBy o texts a → SaysBy o texts b → a ≡ b
    by None h k = h ∙ sym k
    by (Some verb) h k =
        one_of verb h.0 a b h.2
        (subst (λ vs. SaysOf verb vs b)
        (sym (one_list (limit_kinds verb) texts h.0 k.0 (definite verb) h.1 k.1)) k.2)

-- ---- faults

-- The words of a line have one fault.
pub one_fault : (word : List ℕ) (texts : List (List ℕ)) (f g : LineFault)
    → FaultAfter word texts f → FaultAfter word texts g → f ≡ g
one_fault word texts f g = by (verb_at word)
  where
    by : (o : Option LimitWord) → FaultBy o texts f → FaultBy o texts g → f ≡ g
    by None h k = absurd h
    by (Some verb) h k = one_fault_after (Some (limit_kinds verb)) texts f g h k

-- Words that say an event have no fault.
pub no_fault : (word : List ℕ) (texts : List (List ℕ)) (a : Event) (f : LineFault)
    → SaysAfter word texts a → FaultAfter word texts f → ⊥
no_fault word texts a f = by (verb_at word)
  where
    by : (o : Option LimitWord) → SaysBy o texts a → FaultBy o texts f → ⊥
    by None h k = k
    by (Some verb) h k = no_fault_after (Some (limit_kinds verb)) texts h.0 f h.1 k
