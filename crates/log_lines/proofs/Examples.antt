-- Worked examples, computed over the definitions.
use Rattle.std.proofs.Common.{◌≡◌, [], ◌∷◌, Some, None, refl, inl, arith}
use Rattle.std.specs.Prelude.{codes}
use Rattle.std.specs.Fmt.{digits}
use Rattle.net_addr.specs.OldForm.{address}
use Rattle.net_addr.specs.declared.net.Net.TheVariants.{Ipv4}
use Rattle.peer_rec.specs.Blank.{blank_record}
use Rattle.peer_rec.specs.declared.rec.Rec.{Rec}
use Rattle.peer_rec.specs.declared.place.Place.TheVariants.{New, Tried}
use Rattle.grammar.specs.Fields.{AreAtFault, AreSeeded}
use Rattle.random_words.specs.Seeded.{seeded_words}
use Rattle.log_lines.specs.Spelling.{kinds_of, SpellsAfter}
use Rattle.log_lines.specs.declared.command.Command.TheVariants as c
use Rattle.grammar.specs.declared.fault.LineFault.TheVariants as fault
use Rattle.log_lines.specs.declared.word.CommandWord.TheVariants as v
use Rattle.log_lines.specs.Replies.{reply_text, place_text, numbers_text}
use Rattle.log_lines.specs.declared.reply.Reply.TheVariants.{Now, Added, Found, Dump, Sample}

reply_to_now : reply_text (Now 1700000000) ≡ codes "now 1700000000\n"
unfolding reply_text digits
reply_to_now = refl

reply_to_addr : reply_text (Added 1 1) ≡ codes "added 1 of 1\n"
unfolding reply_text digits
reply_to_addr = refl

reply_to_find : reply_text (Found None) ≡ codes "unknown\n"
unfolding reply_text digits
reply_to_find = refl

abbrev dns : Rec
dns = record (blank_record (record { addr = address Ipv4 (8 ∷ 8 ∷ 8 ∷ 8 ∷ []); port = 8333 })) {
  source = address Ipv4 (1 ∷ 2 ∷ 3 ∷ 4 ∷ []);
  time = 1699992800;
  services = 1;
  place = New (87 ∷ []);
}

reply_with_a_record : reply_text (Found (Some dns)) ≡ codes "peer 8.8.8.8:8333 source 1.2.3.4 time 1699992800 services 1 success 0 try 0 attempts 0 new 87\n"
unfolding reply_text digits
reply_with_a_record = refl

two_buckets : place_text (New (3 ∷ 87 ∷ [])) ≡ codes " new 3,87"
unfolding digits
two_buckets = refl

-- a field gives its value
clash_is_spelled : SpellsAfter (codes "clash") (codes "7" ∷ []) (c.Clash 7)
unfolding digits
clash_is_spelled = (refl, ((7, refl, omega arith, omega arith, refl), tt))

a_field_is_missing : AreAtFault (kinds_of v.Clash) [] fault.Fields
a_field_is_missing = inl (λ e. omega (arith, e), refl)

no_words_by_a_seed : AreSeeded (codes "@5:0") []
unfolding seeded_words digits
no_words_by_a_seed = (5, 0, omega arith, omega arith, refl, refl)

two_words : numbers_text (1 ∷ 18446744073709551615 ∷ []) ≡ codes "1,18446744073709551615"
unfolding digits
two_words = refl

reply_with_a_dump : reply_text (Dump (record dns { place = Tried } ∷ [])) ≡ codes "peer 8.8.8.8:8333 source 1.2.3.4 time 1699992800 services 1 success 0 try 0 attempts 0 tried\nend 1\n"
unfolding reply_text digits
reply_with_a_dump = refl

reply_with_a_sample : reply_text (Sample (dns.peer ∷ dns.peer ∷ [])) ≡ codes "sample 2 8.8.8.8:8333 8.8.8.8:8333\n"
unfolding reply_text digits
reply_with_a_sample = refl
