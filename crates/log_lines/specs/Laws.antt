-- Why a line has one meaning.
use Rattle.std.proofs.Common.{◌≡◌, ◌<◌, ℕ, List, [], ◌∷◌, get_or, Option, Some, true, find, lit<, refl, sym, ap, ◌∙◌}
use Rattle.std.specs.Prelude.{bytes_eq}
use Rattle.grammar.specs.Fields.{Value, TheNumber, TheAddr, ThePeer, TheBytes, TheWords, TheChoice, TheNets}
use Rattle.grammar.specs.Table.{all_definite, kinds_after}
use Rattle.grammar.specs.declared.fault.LineFault.{LineFault}
use Rattle.grammar.proofs.TableLemmas.{one_list, one_values_after, one_fault_after, no_fault_after, letter_of_values}
use Rattle.log_lines.specs.Spelling.{word_of, kinds_of, verb_of, command_values, verbs, table, SpellsBy, SpellsAfter, HasFaultAfter}
use Rattle.log_lines.specs.declared.command.Command.{Command}
use Rattle.log_lines.specs.declared.command.Command.TheVariants as c
use Rattle.log_lines.specs.declared.word.CommandWord.{CommandWord}
use Rattle.log_lines.specs.declared.word.CommandWord.TheVariants as v

-- the command of a keyword and its values
command_by : Option CommandWord → List Value → Command
command_by (Some v.Now) (TheNumber time ∷ []) = c.Now time
command_by (Some v.Addr) (TheAddr source ∷ TheBytes payload ∷ TheWords words ∷ []) =
    c.Addr source payload words
command_by (Some v.Addr2) (TheAddr source ∷ TheBytes payload ∷ TheWords words ∷ []) =
    c.Addr2 source payload words
command_by (Some v.Good) (ThePeer peer ∷ TheChoice testing ∷ []) = c.Good peer testing
command_by (Some v.Attempt) (ThePeer peer ∷ TheChoice count ∷ []) = c.Attempt peer count
command_by (Some v.Connected) (ThePeer peer ∷ []) = c.Connected peer
command_by (Some v.Services) (ThePeer peer ∷ TheNumber services ∷ []) = c.Services peer services
command_by (Some v.Find) (ThePeer peer ∷ []) = c.Find peer
command_by (Some v.Select) (TheChoice new_only ∷ TheNets nets ∷ TheWords words ∷ []) =
    c.Select new_only nets words
command_by (Some v.Sample) (TheNumber max ∷ TheNumber pct ∷ TheNets classes ∷ TheWords words ∷ []) =
    c.Sample max pct classes words
command_by (Some v.Resolve) values = c.Resolve
command_by (Some v.Clash) (TheNumber word ∷ []) = c.Clash word
command_by (Some v.Dump) values = c.Dump
command_by (Some v.Save) values = c.Save
command_by (Some v.SaveBegin) values = c.SaveBegin
command_by (Some v.SaveStep) (TheNumber count ∷ []) = c.SaveStep count
command_by (Some v.SaveEnd) values = c.SaveEnd
command_by other values = c.Size

-- The keyword that a word is, if it is one.
verb_with : List ℕ → Option CommandWord
verb_with word = find (λ verb. bytes_eq (word_of verb) word) verbs

-- The word of a keyword is this keyword.
verb_back : (verb : CommandWord) → verb_with (word_of verb) ≡ Some verb
unfolding verb_with
verb_back v.Now = refl
verb_back other = refl

-- A command follows from its keyword and its values.
command_back : (command : Command) →
    command_by (Some (verb_of command)) (command_values command) ≡ command
unfolding command_by
command_back (c.Now time) = refl
command_back other = refl

-- Two commands with one keyword and the same values are equal.
same_command : (a b : Command) →
    Some (verb_of a) ≡ Some (verb_of b) → command_values a ≡ command_values b → a ≡ b
same_command a b same values =
    sym (command_back a) ∙ (λ i. command_by (same i) (values i)) ∙ command_back b

-- A text is at most one value of each kind of field that a keyword has.
definite : (verb : CommandWord) → all_definite (kinds_of verb) ≡ true
definite v.Now = refl
definite other = refl

-- the fields after a keyword parse as one command
pub one_by : (verb : CommandWord) (texts : List (List ℕ)) (a b : Command) →
    SpellsBy verb texts a → SpellsBy verb texts b → a ≡ b
one_by verb texts a b h k =
    same_command a b (ap Some (h.0 ∙ sym k.0))
    (one_list (kinds_of verb) texts (command_values a) (command_values b) (definite verb) h.1 k.1)

-- a first word and the fields after it parse as one command
pub one_after : (word : List ℕ) (texts : List (List ℕ)) (a b : Command) →
    SpellsAfter word texts a → SpellsAfter word texts b → a ≡ b
one_after word texts a b h k =
    let values = one_values_after table word texts
    (command_values a) (command_values b) refl h.1 k.1 in
    let words = sym (verb_back (verb_of a))
    ∙ ap verb_with (sym h.0 ∙ k.0)
    ∙ verb_back (verb_of b) in
    same_command a b words values

-- or have one fault
pub one_fault : (word : List ℕ) (texts : List (List ℕ)) (f g : LineFault) →
    HasFaultAfter word texts f → HasFaultAfter word texts g → f ≡ g
one_fault word texts f g h k = one_fault_after (kinds_after table word) texts f g h k

-- and never both
pub no_fault : (word : List ℕ) (texts : List (List ℕ)) (a : Command) (f : LineFault) →
    SpellsAfter word texts a → HasFaultAfter word texts f → ⊥
no_fault word texts a f h k =
    no_fault_after (kinds_after table word) texts (command_values a) f h.1 k

-- a line that parses as a command begins with a letter
pub letters : (word : List ℕ) (texts : List (List ℕ)) (a : Command) →
    SpellsAfter word texts a → 96 < get_or word 0 0
letters word texts a h = letter_of_values table word texts (command_values a) refl h.1

-- the word of a verb begins with a letter
pub letter : (verb : CommandWord) → 96 < get_or (word_of verb) 0 0
letter v.Now = lit< tt
letter other = lit< tt
