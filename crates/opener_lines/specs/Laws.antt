-- Why a line has one meaning.
use Rattle.std.proofs.Common.{◌≡◌, ◌<◌, ℕ, List, [], ◌∷◌, Option, Some, None, get_or, lit<, refl, sym, ap, subst, ◌∙◌}
use Rattle.net_addr.specs.declared.peer.Peer.{Peer}
use Rattle.grammar.specs.Contents.{at, number_in}
use Rattle.grammar.specs.Fields.{Kind, OfPeer, Value, TheNumber, ThePeer, u32_field, u64_field}
use Rattle.grammar.specs.declared.fault.LineFault.{LineFault}
use Rattle.grammar.proofs.TableLemmas.{found_word, no_fault_after, one_fault_after, one_list}
use Rattle.log_lines.specs.Laws as log
use Rattle.log_lines.specs.Spelling.{command_values, kinds_of}
use Rattle.opener_lines.specs.Grammar.{AsksAfter, AsksBy, FaultAfter, FaultBy, verb_at, verbs, opener_word}
use Rattle.opener_lines.specs.declared.command.OpenerCommand.{OpenerCommand}
use Rattle.opener_lines.specs.declared.command.OpenerCommand.TheVariants as request
use Rattle.opener_lines.specs.declared.command.OpenerWord.{OpenerWord}
use Rattle.opener_lines.specs.declared.command.OpenerWord.TheVariants.{Outbound, Feeler, Close, Log}

-- The peer that a value is, or another one.
abbrev peer_in : Peer → Value → Peer
peer_in p (ThePeer q) = q
peer_in p other = p

-- The field of `outbound`: a seed.
abbrev seeds : List Kind
seeds = u32_field ∷ []

-- The fields of `feeler`: a seed, and the random word that selects a collision.
abbrev pairs : List Kind
pairs = u32_field ∷ u64_field ∷ []

-- The field of `close`: a peer.
abbrev one_peer : List Kind
one_peer = OfPeer ∷ []

-- The words of a line ask for one thing.
pub one_asked : (word : List ℕ) (texts : List (List ℕ)) (a b : OpenerCommand) →
    AsksAfter word texts a → AsksAfter word texts b → a ≡ b
one_asked word texts a b = by (verb_at word)
  where
    by : (o : Option OpenerWord) → AsksBy o texts a → AsksBy o texts b → a ≡ b
    by None h k = absurd h
    by (Some Outbound) (s, h, is) (t, k, is') =
        is
        ∙ ap (λ vs. request.Outbound (number_in (at vs 0)))
        (one_list seeds texts (TheNumber s ∷ []) (TheNumber t ∷ []) refl h k)
        ∙ sym is'
    by (Some Feeler) (s, m, h, is) (t, n, k, is') =
        is
        ∙ ap (λ vs. request.Feeler (number_in (at vs 0)) (number_in (at vs 1)))
        (one_list pairs texts (TheNumber s ∷ TheNumber m ∷ []) (TheNumber t ∷ TheNumber n ∷ [])
        refl h k)
        ∙ sym is'
    by (Some Close) (p, h, is) (q, k, is') =
        is
        ∙ ap (λ vs. request.Close (peer_in p (at vs 0)))
        (one_list one_peer texts (ThePeer p ∷ []) (ThePeer q ∷ []) refl h k)
        ∙ sym is'
    by (Some (Log verb)) (c, h, is) (d, k, is') =
        is ∙ ap request.Machine (log.one_by verb texts c d h k) ∙ sym is'

-- The words of a line have one fault.
pub one_fault : (word : List ℕ) (texts : List (List ℕ)) (f g : LineFault) →
    FaultAfter word texts f → FaultAfter word texts g → f ≡ g
one_fault word texts f g = by (verb_at word)
  where
    by : (o : Option OpenerWord) → FaultBy o texts f → FaultBy o texts g → f ≡ g
    by None h k = h ∙ sym k
    by (Some Outbound) h k = one_fault_after (Some seeds) texts f g h k
    by (Some Feeler) h k = one_fault_after (Some pairs) texts f g h k
    by (Some Close) h k = one_fault_after (Some one_peer) texts f g h k
    by (Some (Log verb)) h k = one_fault_after (Some (kinds_of verb)) texts f g h k

-- Words that ask for something have no fault.
pub no_fault : (word : List ℕ) (texts : List (List ℕ)) (a : OpenerCommand) (f : LineFault) →
    AsksAfter word texts a → FaultAfter word texts f → ⊥
no_fault word texts a f = by (verb_at word)
  where
    by : (o : Option OpenerWord) → AsksBy o texts a → FaultBy o texts f → ⊥
    by None h k = h
    by (Some Outbound) (s, h, is) k = no_fault_after (Some seeds) texts (TheNumber s ∷ []) f h k
    by (Some Feeler) (s, m, h, is) k =
        no_fault_after (Some pairs) texts (TheNumber s ∷ TheNumber m ∷ []) f h k
    by (Some Close) (p, h, is) k = no_fault_after (Some one_peer) texts (ThePeer p ∷ []) f h k
    by (Some (Log verb)) (c, h, is) k =
        no_fault_after (Some (kinds_of verb)) texts (command_values c) f h.1 k

-- the word of a verb begins with a letter
letter : (verb : OpenerWord) → 96 < get_or (opener_word verb) 0 0
letter Outbound = lit< tt
letter Feeler = lit< tt
letter Close = lit< tt
letter (Log verb) = log.letter verb

-- a line that asks for something begins with a letter
pub letters : (word : List ℕ) (texts : List (List ℕ)) (a : OpenerCommand) →
    AsksAfter word texts a → 96 < get_or word 0 0
letters word texts a = by (verb_at word) refl
  where
    by : (o : Option OpenerWord) → verb_at word ≡ o → AsksBy o texts a → 96 < get_or word 0 0
    by None is h = absurd h
    by (Some verb) is h =
        subst (λ w. 96 < get_or w 0 0) (sym (found_word opener_word verbs word verb is))
        (letter verb)
