-- Appending the parts of a file one after another.
use Rattle.std.proofs.Common.{◌≡◌, ℕ, zero, suc, ◌+◌, ◌≤◌, ◌<◌, ◌^◌, ◌==◌, Bool, true, false, cond, List, [], ◌∷◌, ◌++◌, length, get_or, take, drop, map, All, AllPairs, refl, sym, ap, subst, ◌∙◌, append_assoc, arith}
use Rattle.std.specs.List.{flat_map, take_while, range_with_len}
use Rattle.std.specs.Int.{w16, w32, w64, to_le_bytes, to_be_bytes}
use Rattle.std.specs.Int.Bits.{bit_xor}
use Rattle.std.proofs.lemmas.Bool.{ne_eqb, eqb-false, eqb-true}
use Rattle.std.proofs.lemmas.List.{take_more, take_all, flat_map_more, length-map}
use Rattle.std.proofs.lemmas.List.Sums.{take_while-cons}
use Rattle.std.proofs.lemmas.List.Elements.{All-nil, All-cons, All-more, All-head, All-tail}
use Rattle.wire_num.specs.CompactSize.{compact_size}
use Rattle.addr_codecs.specs.Texts.{address_text}
use Rattle.peer_rec.specs.declared.file_rec.FileRec.{FileRec}
use Rattle.peer_rec.specs.Snapshot.{Snapshot}
use Rattle.peers_file.specs.Inside.{front_text, who_text, marks_text, pairs_text, counts_text}
use Rattle.peers_file.specs.Texts.{record_text, indexes_of, bucket_text, head_text}
use Rattle.peers_file.proofs.TextLaws.{pairs_of}

pub three_parts : (old a b c x y new : List ℕ) → x ≡ old ++ a → y ≡ x ++ b → new ≡ y ++ c → new ≡ old ++ (a ++ (b ++ c))
three_parts old a b c x y new p q r = r ∙ ap (λ (t : List ℕ). t ++ c) (q ∙ ap (λ (t : List ℕ). t ++ b) p) ∙ simp append_assoc

pub five_parts : (old a b c d e w x y z new : List ℕ) → w ≡ old ++ a → x ≡ w ++ b → y ≡ x ++ c → z ≡ y ++ d → new ≡ z ++ e → new ≡ old ++ (a ++ (b ++ (c ++ (d ++ e))))
five_parts old a b c d e w x y z new p q r s t =
    t ∙ ap (λ (l : List ℕ). l ++ e) (s ∙ ap (λ (l : List ℕ). l ++ d) (r ∙ ap (λ (l : List ℕ). l ++ c) (q ∙ ap (λ (l : List ℕ). l ++ b) p))) ∙ simp append_assoc

eight : (a b c d e f g h : List ℕ) → a ++ (b ++ (c ++ (d ++ (e ++ (f ++ (g ++ h)))))) ≡ (a ++ b ++ c) ++ ((d ++ e ++ f) ++ (g ++ h))
eight a b c d e f g h = simp append_assoc

pub record_parts : (r : FileRec) → record_text r ≡ front_text r ++ (who_text r ++ marks_text r)
unfolding record_text front_text who_text marks_text
record_parts r = eight (to_le_bytes w32 0x20035b60) (to_le_bytes w32 r.time) (compact_size r.services) (address_text r.peer.addr) (to_be_bytes w16 r.peer.port) (address_text r.source) (to_le_bytes w64 r.last_success) (to_le_bytes w32 r.attempts)

five : (a b c d e : List ℕ) → a ++ (b ++ (c ++ (d ++ e))) ≡ a ++ (b ++ (c ++ d ++ e))
five a b c d e = simp append_assoc

pub head_parts : (snap : Snapshot) → head_text snap ≡ (4 ∷ 36 ∷ []) ++ (snap.key ++ counts_text snap)
unfolding head_text counts_text
head_parts snap = five (4 ∷ 36 ∷ []) snap.key (to_le_bytes w32 (length snap.new_recs)) (to_le_bytes w32 (length snap.tried_recs)) (to_le_bytes w32 (bit_xor snap.bucket_count (2 ^ 30)))

-- ---- one more of a list is written

pub one_more : {X : Type 0} (text : X → List ℕ) (head : List ℕ) (es : List X) (i : ℕ) (e : X) (old new : List ℕ) → i < length es → e ≡ get_or es i e → old ≡ head ++ flat_map text (take i es) → new ≡ old ++ text e
    → new ≡ head ++ flat_map text (take (i + 1) es)
one_more {X = X} text head es i e old new lt is so_far more =
    let taken : take (i + 1) es ≡ take i es ++ e ∷ [] = take_more es i e lt ∙ ap (λ (x : X). take i es ++ x ∷ []) (sym is) in
    more ∙ ap (λ (t : List ℕ). t ++ text e) so_far ∙ flat_map_more text head (take i es) e ∙ ap (λ (xs : List X). head ++ flat_map text xs) (sym taken)

pub one_more_fits : {X : Type 0} (P : X → Type 0) (es : List X) (i : ℕ) (e : X) → i < length es → e ≡ get_or es i e → All P (take i es) → P e → All P (take (i + 1) es)
one_more_fits P es i e lt is so_far h = All-more P es i e lt so_far (subst P is h)

pub all_written : {X : Type 0} (text : X → List ℕ) (head : List ℕ) (es : List X) (i : ℕ) (out : List ℕ) → length es ≤ i → out ≡ head ++ flat_map text (take i es) → out ≡ head ++ flat_map text es
all_written {X = X} text head es i out le so_far = so_far ∙ ap (λ (xs : List X). head ++ flat_map text xs) (take_all i es le)

pub all_fit : {X : Type 0} (P : X → Type 0) (es : List X) (i : ℕ) → length es ≤ i → All P (take i es) → All P es
all_fit {X = X} P es i le h = subst (λ (xs : List X). All P xs) (take_all i es le) h

-- ---- buckets

texts : (pairs : List (ℕ × ℕ)) → flat_map (λ p. to_le_bytes w32 p.1) pairs ≡ flat_map (to_le_bytes w32) (map (λ p. p.1) pairs)
texts [] = refl
texts (p ∷ ps) = ap (λ (t : List ℕ). to_le_bytes w32 p.1 ++ t) (texts ps)

-- the text of a bucket is that of its pairs
pub bucket_is : (listed : List (ℕ × ℕ)) (bucket : ℕ) → pairs_text (pairs_of listed bucket) ≡ bucket_text listed bucket
unfolding pairs_text bucket_text
bucket_is listed bucket =
    let own = pairs_of listed bucket in
    ap (λ (n : ℕ). to_le_bytes w32 n ++ flat_map (λ p. to_le_bytes w32 p.1) own) (sym (length-map own (λ (p : ℕ × ℕ). p.1)))
    ∙ ap (λ (t : List ℕ). to_le_bytes w32 (length (indexes_of listed bucket)) ++ t) (texts own)

none_of : (a : ℕ) (xs : List (ℕ × ℕ)) → All (λ p. a < p.0) xs → pairs_of xs a ≡ []
none_of a [] above = refl
none_of a (x ∷ xs) above =
    let one = All-head (λ (p : ℕ × ℕ). a < p.0) x xs above in
    ap (λ b. cond b (x ∷ pairs_of xs a) (pairs_of xs a)) (ne_eqb x.0 a (λ same. omega (arith, one, same))) ∙ none_of a xs (All-tail (λ (p : ℕ × ℕ). a < p.0) x xs above)

-- what of a rising list is of its first bucket, and the list after that
pub record Cut (a : ℕ) (xs own after : List (ℕ × ℕ)) : Type 0 where
  pub own_is : own ≡ pairs_of xs a
  pub same : (b : ℕ) → a + 1 ≤ b → pairs_of after b ≡ pairs_of xs b
  pub low : All (λ p. a + 1 ≤ p.0) after
  pub rising : AllPairs (λ p later. p.0 ≤ later.0) after

cut_more : (a : ℕ) (x : ℕ × ℕ) (xs : List (ℕ × ℕ)) (c : Bool) → (x.0 == a) ≡ c → a ≤ x.0 → All (λ p. x.0 ≤ p.0) xs → AllPairs (λ p later. p.0 ≤ later.0) (x ∷ xs)
    → (let n = length (take_while (λ p. p.0 == a) xs) in Cut a xs (take n xs) (drop n xs))
    → let m = length (take_while (λ p. p.0 == a) (x ∷ xs)) in Cut a (x ∷ xs) (take m (x ∷ xs)) (drop m (x ∷ xs))
cut_more a x xs true is first later rising rest =
    let n = length (take_while (λ (p : ℕ × ℕ). p.0 == a) xs) in
    let counted : length (take_while (λ (p : ℕ × ℕ). p.0 == a) (x ∷ xs)) ≡ suc n = ap length (take_while-cons (λ (p : ℕ × ℕ). p.0 == a) x xs) ∙ ap (λ b. length (cond b (x ∷ take_while (λ (p : ℕ × ℕ). p.0 == a) xs) [])) is in
    let at : x.0 ≡ a = eqb-true x.0 a is in
    subst (λ k. Cut a (x ∷ xs) (take k (x ∷ xs)) (drop k (x ∷ xs))) (sym counted) (record {
      own_is = ap (λ (l : List (ℕ × ℕ)). x ∷ l) rest.own_is ∙ sym (ap (λ b. cond b (x ∷ pairs_of xs a) (pairs_of xs a)) is);
      same = λ b above. rest.same b above ∙ sym (ap (λ c. cond c (x ∷ pairs_of xs b) (pairs_of xs b)) (ne_eqb x.0 b (λ same. omega (arith, above, same, at))));
      low = rest.low;
      rising = rest.rising;
    })
cut_more a x xs false is first later rising rest =
    let apart = eqb-false x.0 a is in
    let above : a + 1 ≤ x.0 = omega (arith, first, apart) in
    let counted : length (take_while (λ (p : ℕ × ℕ). p.0 == a) (x ∷ xs)) ≡ 0 = ap length (take_while-cons (λ (p : ℕ × ℕ). p.0 == a) x xs) ∙ ap (λ b. length (cond b (x ∷ take_while (λ (p : ℕ × ℕ). p.0 == a) xs) [])) is in
    let all_above : All (λ (p : ℕ × ℕ). a + 1 ≤ p.0) (x ∷ xs) = All-cons (λ (p : ℕ × ℕ). a + 1 ≤ p.0) x xs above (λ k d within. let h = later k d within in omega (arith, h, above)) in
    subst (λ k. Cut a (x ∷ xs) (take k (x ∷ xs)) (drop k (x ∷ xs))) (sym counted) (record {
      own_is = sym (none_of a (x ∷ xs) (λ k d within. let h = all_above k d within in omega (arith, h)));
      same = λ b _. refl;
      low = all_above;
      rising = rising;
    })

cut : (a : ℕ) (xs : List (ℕ × ℕ)) → All (λ p. a ≤ p.0) xs → AllPairs (λ p later. p.0 ≤ later.0) xs → let n = length (take_while (λ p. p.0 == a) xs) in Cut a xs (take n xs) (drop n xs)
cut a [] low rising = record { own_is = refl; same = λ b _. refl; low = All-nil (λ (p : ℕ × ℕ). a + 1 ≤ p.0); rising = rising }
cut a (x ∷ xs) low rising =
    cut_more a x xs (x.0 == a) refl (All-head (λ (p : ℕ × ℕ). a ≤ p.0) x xs low) (λ k d within. rising 0 (suc k) d (omega arith) (omega arith)) rising
    (cut a xs (All-tail (λ (p : ℕ × ℕ). a ≤ p.0) x xs low) (λ i j d below within. rising (suc i) (suc j) d (omega arith) (omega arith)))

pub cut_at : (a : ℕ) (xs : List (ℕ × ℕ)) (count : ℕ) (own after : List (ℕ × ℕ)) → All (λ p. a ≤ p.0) xs → AllPairs (λ p later. p.0 ≤ later.0) xs → count ≡ length (take_while (λ p. p.0 == a) xs) → own ≡ take count xs → after ≡ drop count xs
    → Cut a xs own after
cut_at a xs count own after low rising is front back =
    let n = length (take_while (λ (p : ℕ × ℕ). p.0 == a) xs) in
    subst (λ o. Cut a xs o after) (sym (front ∙ ap (λ (k : ℕ). take k xs) is)) (subst (λ r. Cut a xs (take n xs) r) (sym (back ∙ ap (λ (k : ℕ). drop k xs) is)) (cut a xs low rising))

range_more : (a n : ℕ) → range_with_len a (suc n) ≡ range_with_len a n ++ (a + n) ∷ []
range_more a zero = let same : a ≡ a + 0 = omega arith in ap (λ (k : ℕ). k ∷ []) same
range_more a (suc n) =
    let same : a + 1 + n ≡ a + suc n = omega arith in
    ap (λ (l : List ℕ). a ∷ l) (range_more (a + 1) n) ∙ ap (λ (k : ℕ). a ∷ (range_with_len (a + 1) n ++ k ∷ [])) same

range_up : (i : ℕ) → range_with_len 0 (i + 1) ≡ range_with_len 0 i ++ i ∷ []
range_up i =
    let more : i + 1 ≡ suc i = omega arith in
    let same : 0 + i ≡ i = omega arith in
    ap (λ (k : ℕ). range_with_len 0 k) more ∙ range_more 0 i ∙ ap (λ (k : ℕ). range_with_len 0 i ++ k ∷ []) same

-- one bucket more is written
pub bucket_more : (listed : List (ℕ × ℕ)) (head : List ℕ) (i : ℕ) (own : List (ℕ × ℕ)) (old new : List ℕ) → own ≡ pairs_of listed i → old ≡ head ++ flat_map (bucket_text listed) (range_with_len 0 i) → new ≡ old ++ pairs_text own
    → new ≡ head ++ flat_map (bucket_text listed) (range_with_len 0 (i + 1))
bucket_more listed head i own old new is so_far more =
    let text : pairs_text own ≡ bucket_text listed i = ap pairs_text is ∙ bucket_is listed i in
    more ∙ ap (λ (t : List ℕ). old ++ t) text ∙ ap (λ (t : List ℕ). t ++ bucket_text listed i) so_far ∙ flat_map_more (bucket_text listed) head (range_with_len 0 i) i
    ∙ ap (λ (ks : List ℕ). head ++ flat_map (bucket_text listed) ks) (sym (range_up i))
