-- Lists of bans.
use Rattle.std.proofs.Common.{◌≡◌, ℕ, suc, ◌+◌, ◌<◌, ◌≤◌, Bool, true, false, cond, not, List, [], ◌∷◌, ◌++◌, All, length, get_or, filter, Option, Some, None, Bor, refl, sym, ap, ◌∙◌, subst, arith}
use Rattle.std.specs.Prelude.{AllPairs, IfSome, option_map, find, nat_lt, nat_le, is_some, ◌==◌}
use Rattle.std.specs.Prelude.{slice_set}
use Rattle.std.specs.List.{position_or_len}
use Rattle.std.specs.Bool.{Decides}
use Rattle.std.proofs.lemmas.Bool.{cond_both}
use Rattle.std.proofs.lemmas.Bool.Decides.{nat_tests, Decides-and, Decides-eqb}
use Rattle.std.proofs.lemmas.List.Elements.{All-nil, All-cons, All-head, All-tail, All-filter}
use Rattle.std.proofs.lemmas.List.Kept.{AllPairs-cons, AllPairs-filter}
use Rattle.net_addr.specs.Same.{same_address, same_address-Decides}
use Rattle.ban_list.specs.Subnet.{IsProper}
use Rattle.ban_list.specs.Bans.{same_subnet, is_of, AreBans, listed, put, Outcome, reply_outcome, outcome_by}
use Rattle.ban_list.specs.declared.bans.BanReply.{BanReply}
use Rattle.ban_list.specs.declared.bans.BanReply.TheVariants.{Added, Kept, Full}
use Rattle.ban_list.specs.declared.subnet.Subnet.{Subnet}
use Rattle.ban_list.specs.declared.ban.Ban.{Ban}
use Rattle.ban_list.specs.declared.bans.TheConstants.{MAX_BANS}

same_parts : (s t : Subnet) → s.addr ≡ t.addr → s.len ≡ t.len → s ≡ t
same_parts s t e f = λ i. record { addr = e i; len = f i }

-- `==` of two subnets is true exactly when they are equal
pub same_subnet-Decides : (s t : Subnet) → Decides (same_subnet s t) (s ≡ t)
same_subnet-Decides s t =
    let d = Decides-and (same_address s.addr t.addr) (s.len == t.len) (same_address-Decides s.addr t.addr) (Decides-eqb s.len t.len) in
    (λ h. same_parts s t (d.0 h).0 (d.0 h).1, λ e. d.1 (ap (λ r. r.addr) e, ap (λ r. r.len) e))

plus_one : (n : ℕ) → 1 + n ≡ suc n
plus_one n = omega arith

zero_lt : (n : ℕ) → nat_lt 0 (suc n) ≡ true
zero_lt n = grind (arith, nat_tests)

lt_suc : (a b : ℕ) → nat_lt (suc a) (suc b) ≡ nat_lt a b
lt_suc a b = grind (arith, nat_tests)

-- the first element that passes, by its index
module _ {X : Type 0} (p : X → Bool) where
  abbrev index : List X → ℕ
  index xs = position_or_len p xs

  found_by : (b : Bool) (x : X) (xs : List X) (d : X) → (index xs < length xs → find p xs ≡ Some (get_or xs (index xs) d)) → cond (not b) (1 + index xs) 0 < suc (length xs) → cond b (Some x) (find p xs) ≡ Some (get_or (x ∷ xs) (cond (not b) (1 + index xs) 0) d)
  found_by true x xs d h l = refl
  found_by false x xs d h l = h (omega arith) ∙ ap (λ n. Some (get_or (x ∷ xs) n d)) (sym (plus_one (index xs)))

  pub found_at : (xs : List X) (d : X) → position_or_len p xs < length xs → find p xs ≡ Some (get_or xs (position_or_len p xs) d)
  found_at [] d lt = absurd (omega arith)
  found_at (x ∷ xs) d lt = found_by (p x) x xs d (found_at xs d) lt

  none_by : (b : Bool) (x : X) (xs : List X) → (length xs ≤ index xs → find p xs ≡ None) → suc (length xs) ≤ cond (not b) (1 + index xs) 0 → cond b (Some x) (find p xs) ≡ None
  none_by true x xs h l = absurd (omega arith)
  none_by false x xs h l = h (omega arith)

  pub found_none : (xs : List X) → length xs ≤ position_or_len p xs → find p xs ≡ None
  found_none [] le = refl
  found_none (x ∷ xs) le = none_by (p x) x xs (found_none xs) le

  is_found_by : (b : Bool) (x : X) (xs : List X) → nat_lt (index xs) (length xs) ≡ is_some (find p xs) → nat_lt (cond (not b) (1 + index xs) 0) (suc (length xs)) ≡ is_some (cond b (Some x) (find p xs))
  is_found_by true x xs h = zero_lt (length xs)
  is_found_by false x xs h = ap (λ n. nat_lt n (suc (length xs))) (plus_one (index xs)) ∙ lt_suc (index xs) (length xs) ∙ h

  pub is_found : (xs : List X) → nat_lt (position_or_len p xs) (length xs) ≡ is_some (find p xs)
  is_found [] = refl
  is_found (x ∷ xs) = is_found_by (p x) x xs (is_found xs)

  length-filter_le : (xs : List X) → length (filter p xs) ≤ length xs
  length-filter_le [] = omega arith
  length-filter_le (x ∷ xs) =
      let rest = length-filter_le xs in
      cond_both (p x) (x ∷ filter p xs) (filter p xs) (λ ys. length ys ≤ suc (length xs)) (λ _. omega (arith, rest)) (λ _. omega (arith, rest))

pub pairs_head : (R : Ban → Ban → Type 0) (x : Ban) (xs : List Ban) → AllPairs R (x ∷ xs) → All (R x) xs
pairs_head R x xs h = λ j d l. h 0 (suc j) d (omega arith) (omega arith)

pub pairs_tail : (R : Ban → Ban → Type 0) (x : Ban) (xs : List Ban) → AllPairs R (x ∷ xs) → AllPairs R xs
pairs_tail R x xs h = λ i j d l w. h (suc i) (suc j) d (omega arith) (omega arith)

-- a ban in its place
pub All-put : (P : Ban → Type 0) (new : Ban) (bans : List Ban) → P new → All P bans → All P (put new bans)
unfolding put
All-put P new [] h k = All-cons P new [] h (All-nil P)
All-put P new (ban ∷ bans) h k =
    cond_both (is_of new.subnet ban) (new ∷ bans) (ban ∷ put new bans) (All P) (λ _. All-cons P new bans h (All-tail P ban bans k))
    (λ _. All-cons P ban (put new bans) (All-head P ban bans k) (All-put P new bans h (All-tail P ban bans k)))

abbrev pub Apart : Ban → Ban → Type 0
Apart a b = is_of b.subnet a ≡ false

pub distinct-put : (new : Ban) (bans : List Ban) → AllPairs Apart bans → AllPairs Apart (put new bans)
unfolding put
distinct-put new [] h = AllPairs-cons Apart new [] (All-nil (Apart new)) h
distinct-put new (ban ∷ bans) h =
    let head = pairs_head Apart ban bans h in
    let tail = pairs_tail Apart ban bans h in
    cond_both (is_of new.subnet ban) (new ∷ bans) (ban ∷ put new bans) (AllPairs Apart)
    (λ e. AllPairs-cons Apart new bans (subst (λ s. All (λ b. same_subnet s b.subnet ≡ false) bans) ((same_subnet-Decides ban.subnet new.subnet).0 e) head) tail)
    (λ e. AllPairs-cons Apart ban (put new bans) (All-put (Apart ban) new bans e head) (distinct-put new bans tail))

abbrev place : Ban → List Ban → ℕ
place new bans = position_or_len (is_of new.subnet) bans

put_found_by : (b : Bool) (new ban : Ban) (bans : List Ban) → (place new bans < length bans → put new bans ≡ slice_set bans (place new bans) new) → cond (not b) (1 + place new bans) 0 < suc (length bans) → cond b (new ∷ bans) (ban ∷ put new bans) ≡ slice_set (ban ∷ bans) (cond (not b) (1 + place new bans) 0) new
put_found_by true new ban bans h l = refl
put_found_by false new ban bans h l = ap (λ bs. ban ∷ bs) (h (omega arith)) ∙ ap (λ n. slice_set (ban ∷ bans) n new) (sym (plus_one (place new bans)))

pub put-found : (new : Ban) (bans : List Ban) → position_or_len (is_of new.subnet) bans < length bans → put new bans ≡ slice_set bans (position_or_len (is_of new.subnet) bans) new
unfolding put
put-found new [] lt = absurd (omega arith)
put-found new (ban ∷ bans) lt = put_found_by (is_of new.subnet ban) new ban bans (put-found new bans) lt

put_last_by : (b : Bool) (new ban : Ban) (bans : List Ban) → (length bans ≤ place new bans → put new bans ≡ bans ++ new ∷ []) → suc (length bans) ≤ cond (not b) (1 + place new bans) 0 → cond b (new ∷ bans) (ban ∷ put new bans) ≡ ban ∷ (bans ++ new ∷ [])
put_last_by true new ban bans h l = absurd (omega arith)
put_last_by false new ban bans h l = ap (λ bs. ban ∷ bs) (h (omega arith))

pub put-last : (new : Ban) (bans : List Ban) → length bans ≤ position_or_len (is_of new.subnet) bans → put new bans ≡ bans ++ new ∷ []
unfolding put
put-last new [] le = refl
put-last new (ban ∷ bans) le = put_last_by (is_of new.subnet ban) new ban bans (put-last new bans) le

-- the bans that pass a test
pub AreBans-filter : (p : Ban → Bool) (bans : List Ban) → AreBans bans → AreBans (filter p bans)
AreBans-filter p bans h =
    let shorter = length-filter_le p bans in
    record {
      proper = All-filter p (λ ban. IsProper ban.subnet) bans h.proper;
      distinct = AllPairs-filter Apart p bans h.distinct;
      few = omega (arith, shorter, h.few);
    }

pub length-put : (new : Ban) (bans : List Ban) → length (put new bans) ≤ suc (length bans)
unfolding put
length-put new [] = omega arith
length-put new (ban ∷ bans) =
    let rest = length-put new bans in
    cond_both (is_of new.subnet ban) (new ∷ bans) (ban ∷ put new bans) (λ bs. length bs ≤ suc (suc (length bans))) (λ _. omega arith) (λ _. omega (arith, rest))

length_by : (b : Bool) (new old ban : Ban) (bans : List Ban) → (listed new.subnet bans ≡ Some old → length (put new bans) ≡ length bans) → cond b (Some ban) (listed new.subnet bans) ≡ Some old → length (cond b (new ∷ bans) (ban ∷ put new bans)) ≡ suc (length bans)
length_by true new old ban bans h e = refl
length_by false new old ban bans h e = ap suc (h e)

pub length-put_listed : (new old : Ban) (bans : List Ban) → listed new.subnet bans ≡ Some old → length (put new bans) ≡ length bans
unfolding put
length-put_listed new old [] e = cc
length-put_listed new old (ban ∷ bans) e = length_by (is_of new.subnet ban) new old ban bans (length-put_listed new old bans) e

pub AreBans-put : (new : Ban) (bans : List Ban) → IsProper new.subnet → AreBans bans → length (put new bans) ≤ MAX_BANS → AreBans (put new bans)
AreBans-put new bans p h few = record {
  proper = All-put (λ ban. IsProper ban.subnet) new bans p h.proper;
  distinct = distinct-put new bans h.distinct;
  few = few;
}

abbrev result : BanReply → List Ban → Outcome
result reply bans = record { reply = reply; bans = bans }

below_of : (m n : ℕ) → nat_le m n ≡ false → n < m
below_of m n e = grind (arith, nat_tests)

kept_or : (b : Bool) (bans more : List Ban) (r q : BanReply) → AreBans bans → (b ≡ false → AreBans more) → AreBans (cond b (result r bans) (result q more)).bans
kept_or true bans more r q h k = h
kept_or false bans more r q h k = k refl

outcome_sound : (o : Option Ban) (new : Ban) (bans : List Ban) → listed new.subnet bans ≡ o → IsProper new.subnet → AreBans bans → AreBans (outcome_by o new bans).bans
outcome_sound (Some old) new bans e p h = kept_or (nat_le new.until old.until) bans (put new bans) Kept Added h (λ _. AreBans-put new bans p h (omega (arith, length-put_listed new old bans e, h.few)))
outcome_sound None new bans e p h = kept_or (nat_le MAX_BANS (length bans)) bans (put new bans) Full Added h (λ f. AreBans-put new bans p h (omega (arith, length-put new bans, below_of MAX_BANS (length bans) f)))

pub AreBans-reply_outcome : (new : Ban) (bans : List Ban) → IsProper new.subnet → AreBans bans → AreBans (reply_outcome new bans).bans
AreBans-reply_outcome new bans p h = outcome_sound (listed new.subnet bans) new bans refl p h

-- a ban that is listed for less long, and one that is not listed
pub reply_outcome-longer : (new old : Ban) (bans : List Ban) → listed new.subnet bans ≡ Some old → nat_le new.until old.until ≡ false → (reply_outcome new bans).bans ≡ put new bans
reply_outcome-longer new old bans e f = rw (e, f) refl

pub reply_outcome-new : (new : Ban) (bans : List Ban) → listed new.subnet bans ≡ None → length bans < MAX_BANS → (reply_outcome new bans).bans ≡ put new bans
reply_outcome-new new bans e lt =
    let f : nat_le MAX_BANS (length bans) ≡ false = grind (arith, nat_tests) in
    rw (e, f) refl

-- THE BAN THAT IS FOUND

found_has : (P : Ban → Type 0) (p : Ban → Bool) (bans : List Ban) → All P bans → IfSome (find p bans) P
found_has P p [] all = tt
found_has P p (ban ∷ bans) all = cond_both (p ban) (Some ban) (find p bans) (λ o. IfSome o P) (λ _. All-head P ban bans all) (λ _. found_has P p bans (All-tail P ban bans all))

lent_has : (P : Ban → Type 0) (r : Option (Bor Ban)) (o : Option Ban) → option_map (λ ban. ban.now) r ≡ o → IfSome o P → IfSome r (λ ban. P ban.now)
lent_has P None o is has = tt
lent_has P (Some ban) o is has = subst (λ x. IfSome x P) (sym is) has

-- a ban of the list is of a proper subnet
pub found_proper : (r : Option (Bor Ban)) (p : Ban → Bool) (bans : List Ban) → option_map (λ ban. ban.now) r ≡ find p bans → AreBans bans → IfSome r (λ ban. IsProper ban.now.subnet)
found_proper r p bans is sound = lent_has (λ ban. IsProper ban.subnet) r (find p bans) is (found_has (λ ban. IsProper ban.subnet) p bans sound.proper)
