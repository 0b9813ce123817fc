-- Reading the pairs of buckets one after another, as a loop does.
use Rattle.std.proofs.Common.{◌≡◌, ℕ, suc, ◌-◌, ◌+◌, ◌≤◌, ◌<◌, List, [], ◌∷◌, ◌++◌, length, All, AllPairs, Result, Ok, Err, refl, sym, ap, subst, ◌∙◌, cond, map, arith, ltb, filter}
use Rattle.std.specs.List.{flat_map}
use Rattle.std.specs.Int.{w32}
use Rattle.std.proofs.lemmas.Bool.{ltb-true, lt-ltb, le-ltb}
use Rattle.std.proofs.lemmas.List.{append-nil, append_assoc, map-append}
use Rattle.std.proofs.lemmas.List.Elements.{All-append, All-nil, All-map, All-head, All-tail, All-from_recursion, filter-append, filter_passes}
use Rattle.std.proofs.lemmas.List.Kept.{AllPairs-cons}
use Rattle.wire_num.specs.Readings.{◌>>=◌, then_at, value_at, times_at, le_at}
use Rattle.wire_num.proofs.ReadingLaws.{bind_ok, ok_is}
use Rattle.peer_rec.specs.declared.file_rec.FileRec.{FileRec}
use Rattle.peer_rec.specs.declared.file_rec.TheConstants.{MAX_ATTEMPTS}
use Rattle.peers_file.specs.Layout.{entries_of, pairs_with}
use Rattle.peers_file.specs.Readings.{field_at, bucket_at}
use Rattle.peers_file.specs.declared.fault.FileFault.{FileFault}

abbrev pub Pairs : Type 0
Pairs = List (ℕ × ℕ)

-- the pairs of the buckets before, and what the other buckets give
abbrev pub with_pairs : Pairs → Result (List Pairs × List ℕ) FileFault → Result (Pairs × List ℕ) FileFault
with_pairs front read = read >>= λ x. Ok (front ++ flat_map (λ ps. ps) x.0, x.1)

regroup : (front ps : Pairs) (read : Result (List Pairs × List ℕ) FileFault) → with_pairs front (read >>= λ x. Ok (ps ∷ x.0, x.1)) ≡ with_pairs (front ++ ps) read
regroup front ps (Ok x) = let kept : Pairs → Result (Pairs × List ℕ) FileFault = λ all. Ok (all, x.1) in ap kept (simp append_assoc)
regroup front ps (Err f) = refl

pub starts : (read : Result (List Pairs × List ℕ) FileFault) → with_pairs [] read ≡ (read >>= λ x. Ok (flat_map (λ ps. ps) x.0, x.1))
starts (Ok x) = refl
starts (Err f) = refl

pub goes_on : (r : ℕ → List ℕ → Result (Pairs × List ℕ) FileFault) (front : Pairs) (end i : ℕ) (bytes : List ℕ) (ps : Pairs) (after : List ℕ) (total : Result (Pairs × List ℕ) FileFault) → i < end → r i bytes ≡ Ok (ps, after)
    → with_pairs front (times_at i (end - i) r bytes) ≡ total → with_pairs (front ++ ps) (times_at (i + 1) (end - (i + 1)) r after) ≡ total
unfolding times_at
goes_on r front end i bytes ps after total lt h so_far =
    let k : end - i ≡ suc (end - (i + 1)) = omega arith in
    let one : with_pairs front (times_at i (end - i) r bytes) ≡ with_pairs (front ++ ps) (times_at (i + 1) (end - (i + 1)) r after) = rw (k, h) (regroup front ps (times_at (i + 1) (end - (i + 1)) r after)) in
    sym one ∙ so_far

pub stops : (r : ℕ → List ℕ → Result (Pairs × List ℕ) FileFault) (front : Pairs) (end i : ℕ) (bytes : List ℕ) (f : FileFault) (total : Result (Pairs × List ℕ) FileFault) → i < end → r i bytes ≡ Err f
    → with_pairs front (times_at i (end - i) r bytes) ≡ total → total ≡ Err f
unfolding times_at
stops r front end i bytes f total lt h so_far =
    let k : end - i ≡ suc (end - (i + 1)) = omega arith in
    let one : with_pairs front (times_at i (end - i) r bytes) ≡ Err f = rw (k, h) refl in
    sym so_far ∙ one

pub is_done : (r : ℕ → List ℕ → Result (Pairs × List ℕ) FileFault) (front : Pairs) (end i : ℕ) (bytes : List ℕ) (total : Result (Pairs × List ℕ) FileFault) → end ≤ i
    → with_pairs front (times_at i (end - i) r bytes) ≡ total → total ≡ Ok (front, bytes)
unfolding times_at
is_done r front end i bytes total le so_far =
    let k : end - i ≡ 0 = omega arith in
    let kept : Pairs → Result (Pairs × List ℕ) FileFault = λ all. Ok (all, bytes) in
    let one : with_pairs front (times_at i (end - i) r bytes) ≡ Ok (front, bytes) = rw k (ap kept (append-nil front)) in
    sym so_far ∙ one

pub begins : (r : ℕ → List ℕ → Result (Pairs × List ℕ) FileFault) (front : Pairs) (n : ℕ) (bytes : List ℕ) → front ≡ [] → with_pairs front (times_at 0 (n - 0) r bytes) ≡ (times_at 0 n r bytes >>= λ x. Ok (flat_map (λ ps. ps) x.0, x.1))
begins r front n bytes is =
    let all : n - 0 ≡ n = omega arith in
    ap (λ k. with_pairs front (times_at 0 k r bytes)) all ∙ ap (λ f. with_pairs f (times_at 0 n r bytes)) is ∙ starts (times_at 0 n r bytes)

pub nothing : {X : Type 0} (P : X → Type 0) (xs : List X) → xs ≡ [] → All P xs
nothing P xs is = subst (λ ys. All P ys) (sym is) (All-nil P)

pub nothing_rises : {X : Type 0} (R : X → X → Type 0) (xs : List X) → xs ≡ [] → AllPairs R xs
nothing_rises R xs is = λ i j d below within. let none = ap length is in absurd (omega arith)

-- one record more with few attempts
pub few_more : (rs : List FileRec) (r : FileRec) (all : List FileRec) → all ≡ rs ++ r ∷ [] → All (λ x. x.attempts ≤ MAX_ATTEMPTS) rs → r.attempts ≤ MAX_ATTEMPTS → All (λ x. x.attempts ≤ MAX_ATTEMPTS) all
few_more rs r all is few one =
    let P : FileRec → Type 0 = λ x. x.attempts ≤ MAX_ATTEMPTS in
    subst (λ xs. All P xs) (sym is) (All-append P rs (r ∷ []) few (All-from_recursion P (r ∷ []) (one, tt)))

-- the pairs of a bucket are of that bucket, and have the indexes of new records
bucket_pairs : (n b : ℕ) (indexes : List ℕ) → All (λ p. (p.0 ≡ b) × (p.1 < n)) (pairs_with n b indexes)
bucket_pairs n b indexes =
    All-map (λ (p : ℕ × ℕ). (p.0 ≡ b) × (p.1 < n)) (λ i. (b, i)) (filter (λ i. ltb i n) indexes) (λ k d within. (refl, ltb-true _ _ (filter_passes (λ i. ltb i n) indexes k d within)))

bucket_read : (n b : ℕ) (bytes : List ℕ) (ps : Pairs) (rest : List ℕ) → bucket_at n b bytes ≡ Ok (ps, rest) → All (λ p. (p.0 ≡ b) × (p.1 < n)) ps
unfolding bucket_at
bucket_read n b bytes ps rest e =
    let entries = bind_ok (field_at (le_at w32) bytes) (λ x. then_at (times_at 0 (entries_of x.0) (λ _. field_at (le_at w32))) (λ indexes. value_at (pairs_with n b indexes)) x.1) (ps, rest) e in
    let indexes = bind_ok (times_at 0 (entries_of entries.0.0) (λ _. field_at (le_at w32)) entries.0.1) (λ x. value_at (pairs_with n b x.0) x.1) (ps, rest) entries.2 in
    let same = ok_is {F = FileFault} (pairs_with n b indexes.0.0, indexes.0.1) (ps, rest) indexes.2 in
    subst (λ (x : Pairs). All (λ p. (p.0 ≡ b) × (p.1 < n)) x) (ap (λ (x : Pairs × List ℕ). x.0) same) (bucket_pairs n b indexes.0.0)

rises : (b : ℕ) (xs ys : Pairs) → All (λ p. p.0 < b) xs → All (λ p. p.0 ≡ b) ys → AllPairs (λ p later. p.0 ≤ later.0) xs → AllPairs (λ p later. p.0 ≤ later.0) (xs ++ ys)
rises b [] ys low own rising = λ i j d below within. let one = own i d (omega arith) in let two = own j d within in omega (arith, one, two)
rises b (x ∷ xs) ys low own rising =
    let first = All-head (λ (p : ℕ × ℕ). p.0 < b) x xs low in
    AllPairs-cons (λ (p : ℕ × ℕ) (later : ℕ × ℕ). p.0 ≤ later.0) x (xs ++ ys)
    (All-append (λ (q : ℕ × ℕ). x.0 ≤ q.0) xs ys (λ k d within. rising 0 (suc k) d (omega arith) (omega arith)) (λ k d within. let one = own k d within in omega (arith, one, first)))
    (rises b xs ys (All-tail (λ (p : ℕ × ℕ). p.0 < b) x xs low) own (λ i j d below within. rising (suc i) (suc j) d (omega arith) (omega arith)))

pub record More (n b : ℕ) (all : Pairs) : Type 0 where
  pub buckets : All (λ p. p.0 < b + 1) all
  pub indexes : All (λ p. p.1 < n) all
  pub rising : AllPairs (λ p later. p.0 ≤ later.0) all

pub pairs_more : (n b : ℕ) (bytes : List ℕ) (ps : Pairs) (rest : List ℕ) (front all : Pairs) → all ≡ front ++ ps → bucket_at n b bytes ≡ Ok (ps, rest)
    → All (λ p. p.0 < b) front → All (λ p. p.1 < n) front → AllPairs (λ p later. p.0 ≤ later.0) front → More n b all
pairs_more n b bytes ps rest front all is e low inside rising =
    let own = bucket_read n b bytes ps rest e in
    subst (λ (xs : Pairs). More n b xs) (sym is) (record {
      buckets = All-append (λ (p : ℕ × ℕ). p.0 < b + 1) front ps (λ k d within. let h = low k d within in omega arith) (λ k d within. let h = (own k d within).0 in omega (arith, h));
      indexes = All-append (λ (p : ℕ × ℕ). p.1 < n) front ps inside (λ k d within. (own k d within).1);
      rising = rises b front ps low (λ k d within. (own k d within).0) rising;
    })

-- the pairs of the indexes before, and of one more
one_more : (n b i : ℕ) (front : List ℕ) → pairs_with n b (front ++ i ∷ []) ≡ pairs_with n b front ++ pairs_with n b (i ∷ [])
one_more n b i front =
    ap (map (λ k. (b, k))) (filter-append (λ k. ltb k n) front (i ∷ [])) ∙ map-append (λ k. (b, k)) (filter (λ k. ltb k n) front) (filter (λ k. ltb k n) (i ∷ []))

-- an index of a new record adds its pair to a list
pub pair_added : (n b i : ℕ) (front : List ℕ) (start now new : Pairs) → now ≡ start ++ pairs_with n b front → i < n → new ≡ now ++ (b, i) ∷ []
    → new ≡ start ++ pairs_with n b (front ++ i ∷ [])
pair_added n b i front start now new so_far lt is =
    let one : pairs_with n b (i ∷ []) ≡ (b, i) ∷ [] = ap (λ t. map (λ (k : ℕ). (b, k)) (cond t (i ∷ []) [])) (lt-ltb i n lt) in
    is ∙ ap (λ xs. xs ++ (b, i) ∷ []) so_far ∙ append_assoc start (pairs_with n b front) ((b, i) ∷ [])
    ∙ ap (λ xs. start ++ xs) (ap (λ xs. pairs_with n b front ++ xs) (sym one) ∙ sym (one_more n b i front))

-- any other index adds nothing
pub pair_passed : (n b i : ℕ) (front : List ℕ) (start now new : Pairs) → now ≡ start ++ pairs_with n b front → n ≤ i → new ≡ now
    → new ≡ start ++ pairs_with n b (front ++ i ∷ [])
pair_passed n b i front start now new so_far le is =
    let none : pairs_with n b (i ∷ []) ≡ [] = ap (λ t. map (λ (k : ℕ). (b, k)) (cond t (i ∷ []) [])) (le-ltb i n le) in
    is ∙ so_far ∙ ap (λ xs. start ++ xs) (sym (append-nil (pairs_with n b front)) ∙ ap (λ xs. pairs_with n b front ++ xs) (sym none) ∙ sym (one_more n b i front))

abbrev pub ReadIndexes : Type 0
ReadIndexes = Result (List ℕ × List ℕ) FileFault

-- the pairs of the indexes that a reading gives
abbrev pub paired : ℕ → ℕ → ReadIndexes → Result (Pairs × List ℕ) FileFault
paired n b read = read >>= λ x. Ok (pairs_with n b x.0, x.1)

pub all_paired : (n b : ℕ) (read : ReadIndexes) (front rest : List ℕ) → read ≡ Ok (front, rest) → paired n b read ≡ Ok (pairs_with n b front, rest)
all_paired n b read front rest is = ap (paired n b) is

pub none_paired : (n b : ℕ) (read : ReadIndexes) (f : FileFault) → read ≡ Err f → paired n b read ≡ Err f
none_paired n b read f is = ap (paired n b) is
