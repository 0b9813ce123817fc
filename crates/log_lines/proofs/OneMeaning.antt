-- A line has one meaning.
use Rattle.std.proofs.Common.{◌≡◌, ℕ, List, subst}
use Rattle.host_io.specs.Lines.{IsPassedOver}
use Rattle.grammar.specs.Table.{kinds_after, ValuesAfter}
use Rattle.grammar.specs.Words.{fields_of}
use Rattle.grammar.specs.declared.fault.LineFault.{LineFault}
use Rattle.grammar.proofs.ReadingLemmas.{passed_says_none}
use Rattle.grammar.proofs.TableLemmas.{of_same}
use Rattle.log_lines.specs.Laws as after
use Rattle.log_lines.specs.Spelling.{word_of, verb_of, command_values, table, SpellsAfter, HasFaultAfter, SpellsCommand, HasCommandFault}
use Rattle.log_lines.specs.declared.command.Command.{Command}

-- the texts are those after the keyword in a line that parses as the command
abbrev pub AreFieldsOf : Command → List (List ℕ) → Type 0
AreFieldsOf command texts = ValuesAfter (kinds_after table (word_of (verb_of command))) texts (command_values command)

pub fields_of_line : (line : List ℕ) (command : Command) (h : SpellsCommand line command) → AreFieldsOf command h.1
fields_of_line line command h = subst (λ word. ValuesAfter (kinds_after table word) h.1 (command_values command)) h.3.0 h.3.1

pub one_command : (line : List ℕ) (a b : Command) → SpellsCommand line a → SpellsCommand line b → a ≡ b
one_command line a b h k = of_same SpellsAfter SpellsAfter after.one_after (fields_of line) a b h k

pub one_fault : (line : List ℕ) (f g : LineFault) → HasCommandFault line f → HasCommandFault line g → f ≡ g
one_fault line f g h k = of_same HasFaultAfter HasFaultAfter after.one_fault (fields_of line) f g h.1 k.1

pub spelled_no_fault : (line : List ℕ) (a : Command) (f : LineFault) → SpellsCommand line a → HasCommandFault line f → ⊥
spelled_no_fault line a f h k = of_same SpellsAfter HasFaultAfter after.no_fault (fields_of line) a f h k.1

pub passed_spells_none : (line : List ℕ) (a : Command) → IsPassedOver line → SpellsCommand line a → ⊥
passed_spells_none line a passed h = passed_says_none SpellsAfter after.letters line a passed h
