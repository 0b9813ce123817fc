use Rattle.std.proofs.Common.{◌≡◌, ℕ, List, Result, Ok, Err, Option, Some, None, IfOk, find, sym, ap, subst, ◌∙◌}
use Rattle.std.specs.Option.{option_map}
use Rattle.std.specs.Prelude.{bytes_eq}
use Rattle.grammar.specs.Fields.{AreAtFault}
use Rattle.grammar.specs.Table.{ValuesAfter, FaultAfter, kinds_after}
use Rattle.grammar.specs.declared.fault.LineFault.{LineFault}
use Rattle.grammar.specs.declared.fault.LineFault.TheVariants as fault
use Rattle.grammar.proofs.TableLemmas.{kinds_of_found, found_word}
use Rattle.log_lines.specs.Spelling.{word_of, kinds_of, command_values, table, SpellsBy, SpellsAfter, HasFaultAfter}
use Rattle.log_lines.specs.declared.command.Command.{Command}
use Rattle.log_lines.specs.declared.word.TheConstants.{KEYWORDS}
use Rattle.log_lines.specs.declared.word.CommandWord.{CommandWord}
use Rattle.log_lines.proofs.read.LogLinesGrammar.read_after.Goals as goal

-- the kinds after a word are those of the keyword that is found, if one is
kinds_found : (word : List ℕ) (found : Option CommandWord) → found ≡ find (λ verb. bytes_eq (word_of verb) word) KEYWORDS → kinds_after table word ≡ option_map kinds_of found
kinds_found word found is = kinds_of_found word_of kinds_of KEYWORDS word ∙ ap (option_map kinds_of) (sym is)

spelled : (word : List ℕ) (texts : List (List ℕ)) (verb : CommandWord) (read : Result Command LineFault) → Some verb ≡ find (λ v. bytes_eq (word_of v) word) KEYWORDS →
    IfOk read (λ c. SpellsBy verb texts c) → IfOk read (λ c. SpellsAfter word texts c)
spelled word texts verb (Ok c) is h = (
  found_word word_of KEYWORDS word verb (sym is) ∙ ap word_of (sym h.0),
  subst (λ o. ValuesAfter o texts (command_values c)) (sym (kinds_found word (Some verb) is)) h.1,
)
spelled word texts verb (Err f) is h = h

faulty : (word : List ℕ) (texts : List (List ℕ)) (verb : CommandWord) (f : LineFault) → Some verb ≡ find (λ v. bytes_eq (word_of v) word) KEYWORDS → AreAtFault (kinds_of verb) texts f → HasFaultAfter word texts f
faulty word texts verb f is h = subst (λ o. FaultAfter o texts f) (sym (kinds_found word (Some verb) is)) h

no_keyword : (word : List ℕ) (texts : List (List ℕ)) (f : LineFault) → None ≡ find (λ v. bytes_eq (word_of v) word) KEYWORDS → fault.Word ≡ f → HasFaultAfter word texts f
no_keyword word texts f is e = subst (λ o. FaultAfter o texts f) (sym (kinds_found word None is)) (sym e)

pub returns-in-Some-clause-found : goal.returns-in-Some-clause-found
returns-in-Some-clause-found g c = spelled c.args.word.now (g.T.Texts.texts c.args.rest) c.in-Some.verb c.read_command.result (sym c.in-Some.is ∙ c.find_keyword.ensures) c.read_command.ensures.found

pub returns-in-Some-clause-fault : goal.returns-in-Some-clause-fault
returns-in-Some-clause-fault g c = λ f is other. faulty c.args.word.now (g.T.Texts.texts c.args.rest) c.in-Some.verb f (sym c.in-Some.is ∙ c.find_keyword.ensures) (c.read_command.ensures.fault f is other)

pub returns-in-None-clause-fault : goal.returns-in-None-clause-fault
returns-in-None-clause-fault g c = λ f is other. no_keyword c.args.word.now (g.T.Texts.texts c.args.rest) f (sym c.in-None.is ∙ c.find_keyword.ensures) (cc is)
