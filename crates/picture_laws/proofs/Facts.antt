-- What is said of the tables, and the texts of sets, need no escapes.
use Rattle.std.proofs.Common.{◌≡◌, ℕ, zero, suc, ◌+◌, ◌<◌, ◌/◌, ◌%◌, ◌==◌, Bool, true, false, cond, List, [], ◌∷◌, ◌++◌, get_or, length, take, refl, ap, arith, Option, Some, None}
use Rattle.std.specs.Prelude.{bytes_eq, codes, decimal, replicate, slice_index}
use Rattle.std.specs.Int.{bytes_high_first}
use Rattle.hex.specs.Hex.{encode_lower, encode_with, lower_digits}
use Rattle.sha2.specs.Sha256.{digest_bytes, final_hash, initial_hash_256, sha256}
use Rattle.asmap_vm.specs.Asmap.{Asmap}
use Rattle.net_addr.proofs.Words.{AllBytes-high_first}
use Rattle.net_addr.specs.NetBits.{each_below}
use Rattle.peer_rec.specs.declared.rec.Rec.{Rec}
use Rattle.placing.specs.Places.{Places, double_sha256, sum_by, sum_input, sum_of}
use Rattle.placing.specs.declared.sum.SumRule.{SumRule}
use Rattle.picture_text.specs.Markup.{IsPlain, is_plain}
use Rattle.table_picture.specs.Date.{date_of, date_text, two_digits}
use Rattle.table_picture.specs.Facts.{asmap_text, facts_text, newest_date, newest_day, newest_text}
use Rattle.picture_laws.proofs.Plain.{plain-append, plain-cons, plain-decimal}

plain-digit : (d : ℕ) → d < 16 → is_plain (slice_index lower_digits d) ≡ true
plain-digit d small = each_below (λ d. is_plain (slice_index lower_digits d)) 16 refl d small

pub plain-hex : (n : ℕ) (bytes : List ℕ) → ((i : ℕ) → get_or bytes i 0 < 256) → IsPlain (encode_lower (take n bytes))
unfolding encode_with
plain-hex zero bytes each = refl
plain-hex (suc n) [] each = refl
plain-hex (suc n) (b ∷ bs) each =
    let small : b < 256 = each 0 in
    plain-cons (slice_index lower_digits (b / 16)) (slice_index lower_digits (b % 16) ∷ encode_lower (take n bs)) (plain-digit (b / 16) (omega (arith, small)))
    (plain-cons (slice_index lower_digits (b % 16)) (encode_lower (take n bs)) (plain-digit (b % 16) (omega arith)) (plain-hex n bs (λ i. each (suc i))))

plain-digest : (message : List ℕ) → IsPlain (encode_lower (take 4 (double_sha256 message)))
unfolding double_sha256 sha256 digest_bytes
plain-digest message =
    let first : ℕ = slice_index (final_hash initial_hash_256 (sha256 message)) 0 in
    plain-hex 4 (bytes_high_first 4 first) (AllBytes-high_first 4 first)

plain-zeros : IsPlain (encode_lower (0 ∷ 0 ∷ 0 ∷ 0 ∷ []))
unfolding encode_with
plain-zeros = refl

plain-sum : (rule : SumRule) (map : Option Asmap) → IsPlain (encode_lower (take 4 (sum_by rule map)))
plain-sum rule None = plain-zeros
plain-sum rule (Some m) = plain-digest (sum_input rule m.file)

plain-asmap : (places : Places) → IsPlain (asmap_text (sum_of places))
plain-asmap places = by (bytes_eq (sum_of places) (replicate 32 0))
  where
    by : (b : Bool) → IsPlain (cond b (codes ", no asmap") (codes ", asmap " ++ encode_lower (take 4 (sum_of places))))
    by true = refl
    by false = plain-append (codes ", asmap ") (encode_lower (take 4 (sum_of places))) refl (plain-sum places.rule places.map)

plain-two : (n : ℕ) → IsPlain (two_digits n)
plain-two n =
    plain-cons (48 + n / 10 % 10) ((48 + n % 10) ∷ []) (each_below (λ d. is_plain (48 + d)) 10 refl (n / 10 % 10) (omega arith))
    (plain-cons (48 + n % 10) [] (each_below (λ d. is_plain (48 + d)) 10 refl (n % 10) (omega arith)) refl)

plain-newest : (recs : List Rec) → IsPlain (newest_text recs)
unfolding date_text
plain-newest recs = by (length recs == 0)
  where
    by : (b : Bool) → IsPlain (cond b (codes ", no records") (newest_date recs))
    by true = refl
    by false =
        let date = date_of (newest_day recs) in
        plain-append (codes ", newest time ") (date_text date) refl
        (plain-append (decimal date.year) (codes "-" ++ (two_digits date.month ++ (codes "-" ++ two_digits date.day))) (plain-decimal date.year)
        (plain-append (codes "-") (two_digits date.month ++ (codes "-" ++ two_digits date.day)) refl
        (plain-append (two_digits date.month) (codes "-" ++ two_digits date.day) (plain-two date.month)
        (plain-append (codes "-") (two_digits date.day) refl (plain-two date.day)))))

pub plain-facts : (chain : List ℕ) (recs : List Rec) (places : Places) → IsPlain chain → IsPlain (facts_text chain recs places)
unfolding facts_text
plain-facts chain recs places plain =
    plain-append (codes "chain ") (chain ++ (newest_text recs ++ asmap_text (sum_of places))) refl
    (plain-append chain (newest_text recs ++ asmap_text (sum_of places)) plain
    (plain-append (newest_text recs) (asmap_text (sum_of places)) (plain-newest recs) (plain-asmap places)))
