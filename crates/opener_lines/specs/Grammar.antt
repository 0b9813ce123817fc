-- Which line of an opener's log asks for what, and what is wrong in a line that asks for nothing.
use Rattle.std.specs.Prelude.{◌≡◌, ℕ, List, [], ◌∷◌, Option, Some, None, bytes_eq, codes, find}
use Rattle.host_io.specs.Lines.{IsPassedOver}
use Rattle.net_addr.specs.declared.peer.Peer.{Peer}
use Rattle.grammar.specs.Fields.{OfPeer, TheNumber, ThePeer, u32_field, u64_field, AllMean, AreAtFault}
use Rattle.grammar.specs.Reading.{Says}
use Rattle.grammar.specs.Words.{fields_of}
use Rattle.grammar.specs.declared.fault.LineFault.{LineFault}
use Rattle.grammar.specs.declared.fault.LineFault.TheVariants as fault
use Rattle.log_lines.specs.Spelling as log
use Rattle.log_lines.specs.declared.command.Command.{Command}
use Rattle.log_lines.specs.declared.word.CommandWord.TheVariants as v
use Rattle.opener_lines.specs.declared.command.OpenerCommand.{OpenerCommand}
use Rattle.opener_lines.specs.declared.command.OpenerCommand.TheVariants as request
use Rattle.opener_lines.specs.declared.command.OpenerWord.{OpenerWord}
use Rattle.opener_lines.specs.declared.command.OpenerWord.TheVariants.{Outbound, Feeler, Close, Log}

-- the first word of a line
abbrev pub opener_word : OpenerWord → List ℕ
opener_word Outbound = codes "outbound"
opener_word Feeler = codes "feeler"
opener_word Close = codes "close"
opener_word (Log verb) = log.word_of verb

-- the opener's own verbs, and those of the address manager's log that do not save
abbrev pub verbs : List OpenerWord
verbs =
    Outbound ∷ Feeler ∷ Close ∷ Log v.Now ∷ Log v.Addr ∷ Log v.Addr2 ∷ Log v.Good ∷ Log v.Attempt
    ∷ Log v.Connected ∷ Log v.Services ∷ Log v.Find ∷ Log v.Size ∷ Log v.Select ∷ Log v.Sample
    ∷ Log v.Resolve ∷ Log v.Clash ∷ Log v.Dump ∷ []

-- the keyword of a first word, if it is a keyword
abbrev pub verb_at : List ℕ → Option OpenerWord
verb_at word = find (λ verb. bytes_eq (opener_word verb) word) verbs

-- the texts after a keyword ask for the request
abbrev pub AsksBy : Option OpenerWord → List (List ℕ) → OpenerCommand → Type 0
AsksBy None texts asked = ⊥
AsksBy (Some Outbound) texts asked =
    (seed : ℕ) × AllMean (u32_field ∷ []) texts (TheNumber seed ∷ [])
    × (asked ≡ request.Outbound seed)
AsksBy (Some Feeler) texts asked =
    (seed : ℕ) × (word : ℕ)
    × AllMean (u32_field ∷ u64_field ∷ []) texts (TheNumber seed ∷ TheNumber word ∷ [])
    × (asked ≡ request.Feeler seed word)
AsksBy (Some Close) texts asked =
    (peer : Peer) × AllMean (OfPeer ∷ []) texts (ThePeer peer ∷ []) × (asked ≡ request.Close peer)
AsksBy (Some (Log verb)) texts asked =
    (command : Command) × log.SpellsBy verb texts command × (asked ≡ request.Machine command)

-- the same by the first word
abbrev pub AsksAfter : List ℕ → List (List ℕ) → OpenerCommand → Type 0
AsksAfter word texts asked = AsksBy (verb_at word) texts asked

-- what is wrong: the first word is no keyword, or else in the texts after it
abbrev pub FaultBy : Option OpenerWord → List (List ℕ) → LineFault → Type 0
FaultBy None texts f = f ≡ fault.Word
FaultBy (Some Outbound) texts f = AreAtFault (u32_field ∷ []) texts f
FaultBy (Some Feeler) texts f = AreAtFault (u32_field ∷ u64_field ∷ []) texts f
FaultBy (Some Close) texts f = AreAtFault (OfPeer ∷ []) texts f
FaultBy (Some (Log verb)) texts f = AreAtFault (log.kinds_of verb) texts f

-- What is wrong in a first word and the texts after it.
abbrev pub FaultAfter : List ℕ → List (List ℕ) → LineFault → Type 0
FaultAfter word texts f = FaultBy (verb_at word) texts f

-- the line asks for the request
abbrev pub LineAsks : List ℕ → OpenerCommand → Type 0
LineAsks line asked = Says AsksAfter (fields_of line) asked

-- what is wrong in a line that is not passed over
abbrev pub HasRequestFault : List ℕ → LineFault → Type 0
HasRequestFault line f = ¬ IsPassedOver line × Says FaultAfter (fields_of line) f
