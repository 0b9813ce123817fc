-- The parts of a reader.
use Rattle.std.proofs.Common.{◌≡◌, ◌≢◌, ℕ, zero, suc, ◌+◌, ◌-◌, ◌≤◌, ◌<◌, List, [], ◌∷◌, ◌++◌, length, take, drop, refl, sym, ap, ◌∙◌, subst, append_assoc, arith}
use Rattle.std.specs.Prelude.{All, Bool, true, false, IsTrue, IfNone, Option, Some, None, ◌==◌}
use Rattle.std.proofs.lemmas.Bool.{eqb-true}
use Rattle.std.proofs.lemmas.List.{append-nil, length-append, length-drop, length-take, get_or-take, take-append-drop, take_all}
use Rattle.std.proofs.lemmas.List.Elements.{All-append}
use Rattle.std.proofs.Math.Seq.{take-add, take-append_seam}
use Rattle.log_run.specs.Inside.{IsReader}
use Rattle.host_io.specs.Reading.{MovesBytes}
use Rattle.log_run.specs.Log.{HasNoFeed, IsAtEnd}
use Rattle.log_run.specs.Reading.{HasMore, HasRead, IsLine, IsLong, IsRecent, Reading}
use Rattle.log_run.specs.Reading.IsNext.{fed, last}
use Rattle.log_run.specs.declared.sizes.TheConstants.{MAX_LINE, MAX_LOG, MAX_READ}

-- more bytes without a line feed
pub no_feed_on : (xs : List ℕ) (s n : ℕ) → HasNoFeed (take s xs) → HasNoFeed (take n (drop s xs)) → HasNoFeed (take (s + n) xs)
no_feed_on xs s n first next =
    subst (All (λ b. b ≢ 10)) (sym (take-add s n xs)) (All-append (λ b. b ≢ 10) (take s xs) (take n (drop s xs)) first next)

pub no_feed_all : (xs : List ℕ) (s : ℕ) → HasNoFeed (take s xs) → HasNoFeed (drop s xs) → HasNoFeed xs
no_feed_all xs s first next =
    subst (All (λ b. b ≢ 10)) (take-append-drop s xs) (All-append (λ b. b ≢ 10) (take s xs) (drop s xs) first next)

untrue : IsTrue false → ⊥
untrue is = cc is

-- at the start
pub fresh : (waiting : List ℕ) → waiting ≡ [] → IsReader waiting 0 0 false
fresh waiting none = record {
  within = omega arith;
  bound = omega arith;
  no_feed = λ k d below. omega (arith, below, length-take 0 waiting);
  recent = λ line after is. omega (arith, ap length (sym none ∙ is), length-append line (10 ∷ after));
  few = omega (arith, ap length none);
  ended = λ is. absurd (untrue is);
}

-- the bytes after a feed of what waits come after a feed of the whole
later : (before bytes line after : List ℕ) → bytes ≡ line ++ 10 ∷ after → before ++ bytes ≡ (before ++ line) ++ 10 ∷ after
later before bytes line after is = ap (λ xs. before ++ xs) is ∙ sym (append_assoc before line (10 ∷ after))

none_dropped : (n : ℕ) (xs : List ℕ) → HasNoFeed xs → HasNoFeed (drop n xs)
none_dropped zero xs none = none
none_dropped (suc n) [] none = none
none_dropped (suc n) (x ∷ xs) none = none_dropped n xs (λ k d below. none (suc k) d (omega (arith, below)))

-- fewer bytes wait
pub advanced : (waiting : List ℕ) (searched taken : ℕ) (is_ended : Bool) (n : ℕ) → IsReader waiting searched taken is_ended
    → IsReader (drop n waiting) 0 taken is_ended
advanced waiting searched taken is_ended n r = record {
  within = omega arith;
  bound = r.bound;
  no_feed = λ k d below. omega (arith, below, length-take 0 (drop n waiting));
  recent = λ line after is. r.recent (take n waiting ++ line) after (sym (take-append-drop n waiting) ∙ later (take n waiting) (drop n waiting) line after is);
  few = omega (arith, r.few, length-drop n waiting);
  ended = λ is. none_dropped n waiting (r.ended is);
}

-- A feed in some bytes and a piece, if the bytes have none, is in the piece.
in_piece : (bytes piece line after : List ℕ) → HasNoFeed bytes → bytes ++ piece ≡ line ++ 10 ∷ after → length after < length piece
in_piece [] piece line after none is = omega (arith, ap length is, length-append line (10 ∷ after))
in_piece (b ∷ bytes) piece [] after none is = absurd (none 0 0 (omega arith) (ap (λ xs. head_of xs) is))
  where
    head_of : List ℕ → ℕ
    head_of [] = 0
    head_of (x ∷ xs) = x
in_piece (b ∷ bytes) piece (l ∷ line) after none is =
    in_piece bytes piece line after (λ k d below. none (suc k) d (omega (arith, below))) (ap (drop 1) is)

-- a piece was read
pub grown : (old new : List ℕ) (searched taken n max : ℕ) (is_ended : Bool) → IsReader old searched taken is_ended → HasNoFeed old → length old ≤ MAX_LINE
    → (piece : List ℕ) × (new ≡ old ++ piece) × (length piece ≡ n) → n ≤ max → max ≤ MAX_READ → taken + max ≤ MAX_LOG
    → IsReader new (length old) (taken + n) (n == 0)
grown old new searched taken n max is_ended r none short (piece, is, long) le one bound = record {
  within = omega (arith, ap length is, length-append old piece);
  bound = omega (arith, le, bound);
  no_feed = subst HasNoFeed (sym (ap (take (length old)) is ∙ take-append_seam old piece)) none;
  recent = λ line after cut. omega (arith, in_piece old piece line after none (sym is ∙ cut), long, le, one);
  few = omega (arith, ap length is, length-append old piece, short, long, le, one);
  ended = λ none_read. subst HasNoFeed (sym (is ∙ ap (λ xs. old ++ xs) (no_length piece (long ∙ eqb-true n 0 none_read)) ∙ append-nil old)) none;
}
  where
    no_length : (xs : List ℕ) → length xs ≡ 0 → xs ≡ []
    no_length [] none = refl
    no_length (x ∷ xs) none = absurd (omega (arith, none))

-- a shorter part has no line feed either
pub shorter : (xs : List ℕ) (m n : ℕ) → m ≤ n → HasNoFeed (take n xs) → HasNoFeed (take m xs)
shorter xs m n le none = λ k d below is. none k d (omega (arith, below, le, length-take m xs, length-take n xs))
    (get_or-take n xs k d (omega (arith, below, le, length-take m xs)) ∙ sym (get_or-take m xs k d (omega (arith, below, length-take m xs))) ∙ is)

-- a line that a line feed ends
pub fed_line : (now : Reading) (bytes buffer : List ℕ) (n : ℕ) → bytes ≡ buffer → buffer ≡ now.waiting → n ≤ MAX_LINE → IsRecent buffer
    → HasNoFeed (take n bytes) → bytes ≡ take n bytes ++ 10 ∷ drop (n + 1) bytes → now.is_ended ≡ false → IsLine now n
fed_line now bytes buffer n same is short recent none cut going =
    let e = same ∙ is in
    let cut_now = subst (λ w. w ≡ take n w ++ 10 ∷ drop (n + 1) w) e cut in (
      short,
      subst (λ w. HasNoFeed (take n w)) e none,
      fed (drop (n + 1) now.waiting) cut_now (subst IsRecent is recent (take n now.waiting) (drop (n + 1) now.waiting) cut_now) going,
    )

-- more bytes than a line may have
pub long_line : (now : Reading) (bytes : List ℕ) (n : ℕ) → bytes ≡ now.waiting → MAX_LINE < n → n ≤ length bytes
    → HasNoFeed (take n bytes) → length bytes ≤ MAX_LINE + MAX_READ → IsLong now
long_line now bytes n is over within none few =
    subst (λ w. HasNoFeed (take (MAX_LINE + 1) w) × (MAX_LINE < length w) × (length w ≤ MAX_LINE + MAX_READ)) is
    (shorter bytes (MAX_LINE + 1) n (omega (arith, over)) none, omega (arith, over, within), few)

pub long_rest : (now : Reading) (bytes : List ℕ) → bytes ≡ now.waiting → MAX_LINE < length bytes → HasNoFeed bytes
    → length bytes ≤ MAX_LINE + MAX_READ → IsLong now
long_rest now bytes is over none few =
    long_line now bytes (length bytes) is over (omega arith)
    (subst HasNoFeed (sym (take_all (length bytes) bytes (omega arith))) none) few

-- the last line
pub last_line : (now : Reading) (n : ℕ) → length now.waiting ≡ n → 0 < n → n ≤ MAX_LINE → IsTrue now.is_ended → HasNoFeed now.waiting → IsLine now n
last_line now n is some short ended none =
    (short, subst HasNoFeed (sym (take_all n now.waiting (omega (arith, is)))) none, last is some ended)

abbrev pub one_unless : Bool → ℕ
one_unless true = 0
one_unless false = 1

-- how much there may still be to read
abbrev pub left_to_read : Reading → ℕ
left_to_read now = MAX_LOG - now.taken + one_unless now.is_ended

-- what a reader has read since, and how far the log is
pub record SoFar (old now : Reading) (before after : Option (List ℕ)) : Type 0 where
  pub read : (piece : List ℕ) × HasRead piece old now
  pub moved : MovesBytes before after old.waiting now.waiting
  pub end : (IsTrue old.is_ended → IsAtEnd before) → IsTrue now.is_ended → IsAtEnd after
  pub within : old.taken ≤ MAX_LOG → now.taken ≤ MAX_LOG
  pub unknown : IfNone before (after ≡ None)
  pub still : IsTrue old.is_ended → now ≡ old

moved_none : (left : Option (List ℕ)) (waiting : List ℕ) → MovesBytes left left waiting waiting
moved_none left waiting = λ bytes is. (bytes, is, refl)

none_known : (left : Option (List ℕ)) → IfNone left (left ≡ None)
none_known None = refl
none_known (Some bytes) = tt

-- nothing was read
pub none_read : (now : Reading) (left : Option (List ℕ)) → SoFar now now left left
none_read now left = record {
  read = ([], (sym (append-nil now.waiting), omega arith));
  moved = moved_none left now.waiting;
  end = λ known. known;
  within = λ bound. bound;
  unknown = none_known left;
  still = λ _. refl;
}

still_none : (before mid after : Option (List ℕ)) → IfNone before (mid ≡ None) → IfNone mid (after ≡ None) → IfNone before (after ≡ None)
still_none (Some bytes) mid after first next = tt
still_none None mid after first next = subst (λ m. IfNone m (after ≡ None)) first next

-- one more read
pub one_read : (old mid now : Reading) (before between after : Option (List ℕ)) → SoFar old mid before between → mid.is_ended ≡ false
    → (piece : List ℕ) × HasRead piece mid now → MovesBytes between after mid.waiting now.waiting
    → (IsTrue now.is_ended → IsAtEnd after) → now.taken ≤ MAX_LOG → IfNone between (after ≡ None) → SoFar old now before after
one_read old mid now before between after so_far going (piece, (waits, taken)) moved end bound unknown =
    let done = so_far.read in
    record {
      read = (
        done.0 ++ piece,
        (
          waits ∙ ap (λ w. w ++ piece) done.1.0 ∙ append_assoc old.waiting done.0 piece,
          omega (arith, taken, done.1.1, length-append done.0 piece),
        ),
      );
      moved = λ bytes is.
          let first = so_far.moved bytes is in
          let next = moved first.0 first.1 in
          (next.0, next.1, first.2 ∙ next.2);
      end = λ known ended. end ended;
      within = λ _. bound;
      unknown = still_none before between after so_far.unknown unknown;
      still = λ is. absurd (untrue (subst IsTrue (ap (λ r. r.is_ended) (sym (so_far.still is)) ∙ going) is));
    }

-- the log goes on past its limit
pub more_after : (old mid now : Reading) (before between after : Option (List ℕ)) → SoFar old mid before between → now ≡ mid
    → HasMore mid now between after → HasMore old now before after
more_after old mid now before between after so_far same more = λ bytes is.
    let first = so_far.moved bytes is in
    let next = more first.0 first.1 in
    (next.0, next.1, first.2 ∙ next.2, next.3)

-- a read leaves less to read
pub less_to_read : (old now : Reading) → old.is_ended ≡ false
    → (read : (piece : List ℕ) × HasRead piece old now × (now.is_ended ≡ false → 0 < length piece))
    → now.taken ≤ MAX_LOG → left_to_read now < left_to_read old
less_to_read old now going read bound = by now.is_ended refl
  where
    open_is : one_unless old.is_ended ≡ 1
    open_is = ap one_unless going

    by : (e : Bool) → now.is_ended ≡ e → left_to_read now < left_to_read old
    by true is = omega (arith, read.1.1, bound, open_is, ap one_unless is)
    by false is = omega (arith, read.1.1, bound, open_is, ap one_unless is, read.2 is)
