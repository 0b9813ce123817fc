-- Worked examples, computed over the definitions.
use Rattle.std.proofs.Common.{◌≡◌, false, [], ◌∷◌, Some, None, refl, inl, arith}
use Rattle.std.specs.Prelude.{codes}
use Rattle.std.specs.Fmt.{digits}
use Rattle.rand_core.specs.Steps.{u32_at, stream_of, word_bytes}
use Rattle.rand_core.specs.Stream.{fill_bytes}
use Rattle.net_addr.specs.declared.net.Net.TheVariants.{Ipv4, Onion}
use Rattle.grammar.specs.Fields.{Number, OfPeer, Either, TheNumber, TheChoice, Means, AreAtFault, AreSeeded, set_of, u32_field, fault_of}
use Rattle.random_words.specs.Seeded.{seeded_words}
use Rattle.grammar.specs.Table.{Table, kinds_after, begin_with_letters, is_definite, FaultAfter}
use Rattle.grammar.specs.Words.{fields_of}
use Rattle.grammar.specs.declared.fault.LineFault.TheVariants as fault

-- ---- lines and tables

two_spaces_enclose_a_field : fields_of (codes "good  force") ≡ codes "good" ∷ [] ∷ codes "force" ∷ []
two_spaces_enclose_a_field = refl

a_field_after_the_last_space : fields_of (codes "size ") ≡ codes "size" ∷ [] ∷ []
a_field_after_the_last_space = refl

an_empty_line_is_a_field : fields_of [] ≡ [] ∷ []
an_empty_line_is_a_field = refl

abbrev two_lines : Table
two_lines = (codes "now", u32_field ∷ []) ∷ (codes "size", []) ∷ []

kinds_by_keyword : kinds_after two_lines (codes "now") ≡ Some (u32_field ∷ [])
kinds_by_keyword = refl

a_keyword_is_in_small_letters : kinds_after two_lines (codes "Now") ≡ None
a_keyword_is_in_small_letters = refl

another_word_is_the_fault : FaultAfter (kinds_after two_lines (codes "noww")) [] fault.Word
another_word_is_the_fault = refl

no_keyword_is_a_comment : begin_with_letters ((codes "#now", []) ∷ two_lines) ≡ false
no_keyword_is_a_comment = refl

-- ---- fields

seven : Means u32_field (codes "7") (TheNumber 7)
unfolding digits
seven = (7, refl, omega arith, omega arith, refl)

the_second_choice : Means (Either (codes "count") (codes "nocount")) (codes "nocount") (TheChoice false)
the_second_choice = (false, refl, refl)

one_choice_twice : is_definite (Either (codes "count") (codes "count")) ≡ false
one_choice_twice = refl

a_number_past_64_bits : is_definite (Number 0 18446744073709551616) ≡ false
a_number_past_64_bits = refl

nets_rise_in_any_order : set_of (Onion ∷ Ipv4 ∷ []) ≡ 1 ∷ 3 ∷ []
nets_rise_in_any_order = refl

-- the number of fields comes before what is in them
a_field_too_many : AreAtFault (u32_field ∷ []) (codes "x" ∷ codes "7" ∷ []) fault.Fields
a_field_too_many = inl (λ e. omega (arith, e), refl)

fault_of_a_peer : fault_of OfPeer ≡ fault.Peer
fault_of_a_peer = refl

-- ---- random words

words_of_a_seed : AreSeeded (codes "@5:2") (5386871174976764958 ∷ 11279066388131595750 ∷ [])
unfolding seeded_words digits u32_at fill_bytes stream_of word_bytes
words_of_a_seed = (5, 2, omega arith, omega arith, refl, refl)
