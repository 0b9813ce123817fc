-- Worked examples, computed over the definitions: when a record leaves the tried table, and why.
use Rattle.std.proofs.Common.{◌≡◌, ℕ, Bool, true, false, List, [], ◌∷◌, map, codes, lit<, refl, arith}
use Rattle.std.specs.Fmt.{digits}
use Rattle.sha2.specs.Sha256.{sha256, digest_bytes, hash_after, compress, rounds, schedule, first_words}
use Rattle.wire_num.specs.CompactSize.{compact_size}
use Rattle.net_addr.specs.Ranges.{in_range}
use Rattle.net_addr.specs.Same.{same_address}
use Rattle.net_addr.specs.Text.{IsPeerText}
use Rattle.net_addr.specs.Text.IsAddrText.{dotted}
use Rattle.placing.specs.Places.{cheap_hash, double_sha256, new_bucket, new_slot, tried_bucket, tried_slot}
use Rattle.peer_rec.specs.Blank.{blank_record}
use Rattle.peer_rec.specs.Rec.{is_tried}
use Rattle.peer_rec.specs.declared.rec.Rec.{Rec}
use Rattle.peer_rec.specs.declared.place.Place.{Place}
use Rattle.peer_rec.specs.declared.place.Place.TheVariants.{New, Tried}
use Rattle.log_lines.specs.Spelling.{SpellsCommand}
use Rattle.log_lines.specs.declared.command.Command.TheVariants as command
use Rattle.manager.specs.Machine.{Machine}
use Rattle.table_machine.specs.State.{State, empty_state}
use Rattle.table_machine.specs.Clashes.{resolve}
use Rattle.table_machine.specs.Tried.{good}
use Rattle.log_laws.specs.Tried.{IsDisplaced, MayDisplace}
use Rattle.log_laws.proofs.Examples.{peer, teller, zeros}

-- a record of a port of 8.8.8.8, with a number
abbrev rec : ℕ → ℕ → Place → Rec
rec number port place = record (blank_record (peer port)) { number = number; source = teller; place = place }

-- The record of 8.8.8.8:8333, which was reached at the time 1000, is in the tried table. That of
-- 8.8.8.8:873, whose slot there is the same, waits for it.
abbrev before : State
before = record (empty_state zeros) {
  records = record (rec 0 8333 Tried) { last_success = 1000 } ∷ rec 1 873 (New (3 ∷ [])) ∷ [];
  order = 0 ∷ 1 ∷ [];
  collisions = 1 ∷ [];
  next_number = 2;
}

-- the numbers of the records, and which of them are in the tried table
abbrev in_tried : State → List (ℕ × Bool)
in_tried st = map (λ r. (r.number, is_tried r)) st.records

-- a success of 8.8.8.8:873, without a test of the occupant and with one
forced : in_tried (good before 5000 (peer 873) false).state ≡ (0, false) ∷ (1, true) ∷ []
unfolding same_address tried_bucket tried_slot new_bucket new_slot compact_size in_range cheap_hash double_sha256 sha256 digest_bytes hash_after compress rounds schedule first_words
forced = refl

tested : in_tried (good before 5000 (peer 873) true).state ≡ (0, true) ∷ (1, false) ∷ []
unfolding same_address tried_bucket tried_slot new_bucket new_slot compact_size in_range cheap_hash double_sha256 sha256 digest_bytes hash_after compress rounds schedule first_words
tested = refl

-- the decision on the collision, four hours after the occupant was reached and a second before that
after_four_hours : in_tried (resolve before 15400).state ≡ (0, false) ∷ (1, true) ∷ []
unfolding same_address tried_bucket tried_slot new_bucket new_slot compact_size in_range cheap_hash double_sha256 sha256 digest_bytes hash_after compress rounds schedule first_words
after_four_hours = refl

within_four_hours : in_tried (resolve before 15399).state ≡ (0, true) ∷ (1, false) ∷ []
unfolding same_address tried_bucket tried_slot new_bucket new_slot compact_size in_range cheap_hash double_sha256 sha256 digest_bytes hash_after compress rounds schedule first_words
within_four_hours = refl

-- the line of the first of these, and why the record leaves in it
abbrev at : ℕ → State → Machine
at clock tables = record { tables = tables; clock = clock }

abbrev line : List ℕ
line = codes "good 8.8.8.8:873 force"

is_peer : IsPeerText (codes "8.8.8.8:873") (peer 873)
unfolding digits
is_peer = record {
  addr = codes "8.8.8.8";
  addr_text = dotted (record { bits = 0x08080808; bits_text = (omega arith, refl); address = refl });
  port = omega arith;
  spelled = refl;
}

spelled : SpellsCommand line (command.Good (peer 873) false)
spelled = (codes "good", codes "8.8.8.8:873" ∷ codes "force" ∷ [], refl, (refl, ((peer 873, refl, is_peer), ((false, refl, refl), tt))))

abbrev newcomer : Rec
newcomer = record (rec 1 873 Tried) { last_success = 5000; last_try = 5000 }

displaced : IsDisplaced (at 5000 before) line (at 5000 (good before 5000 (peer 873) false).state) (record (rec 0 8333 Tried) { last_success = 1000 })
unfolding same_address tried_bucket tried_slot new_bucket new_slot compact_size in_range cheap_hash double_sha256 sha256 digest_bytes hash_after compress rounds schedule first_words
displaced = (
  command.Good (peer 873) false,
  spelled,
  (newcomer, record { has = (1, lit< tt, refl); tried = refl; bucket = refl; slot = refl; other = λ e. omega (arith, e) }, (refl, refl)),
)

-- a message displaces nothing, whoever sends it
no_message : (r q : Rec) (payload words : List ℕ) → MayDisplace (at 5000 before) (command.Addr teller payload words) r q → ⊥
no_message r q payload words h = h
