-- A run over the lines that a reader gives.
use Rattle.std.proofs.Common.{◌≡◌, ℕ, zero, suc, ◌+◌, ◌≤◌, ◌<◌, List, [], ◌∷◌, ◌++◌, length, take, drop, refl, sym, ap, ◌∙◌, subst, append_assoc, arith}
use Rattle.std.specs.Prelude.{All, false, IsTrue, IfSome, Option, Some, None}
use Rattle.std.proofs.lemmas.List.{append-nil, drop_all, length-append, length-drop, length-take, take-append-drop, take_all}
use Rattle.std.proofs.lemmas.List.Elements.{All-append}
use Rattle.std.proofs.Math.Seq.{drop-append-add, drop-append_seam, take-append-add}
use Rattle.std.proofs.lemmas.Bool.{ne_eqb}
use Rattle.host_io.specs.Lines.{lines_of, onto_first}
use Rattle.host_io.specs.Reading.{MovesBytes}
use Rattle.log_run.specs.Log.{BeginsWith, HasNoFeed, IsAtEnd, IsNear}
use Rattle.log_run.specs.Reading.{HasRead, IsLine, IsLong, IsNext, Reading}
use Rattle.log_run.specs.Reading.IsNext.{fed, last}
use Rattle.log_run.specs.Run.{NextLine, NoLine}
use Rattle.log_run.specs.declared.sizes.TheConstants.{MAX_LINE, MAX_LOG, MAX_READ}

-- a byte that ends no line is added to the first line
lines-cons : (b : ℕ) (bytes : List ℕ) → (b ≡ 10 → ⊥) → lines_of (b ∷ bytes) ≡ onto_first b (lines_of bytes)
unfolding lines_of
lines-cons b bytes h = rw (ne_eqb b 10 h) refl

fewer : (b : ℕ) (line : List ℕ) → HasNoFeed (b ∷ line) → HasNoFeed line
fewer b line none = λ k d below. none (suc k) d (omega (arith, below))

-- a line that a line feed ends, and the lines after it
fed_lines : (line after : List ℕ) → HasNoFeed line → lines_of (line ++ 10 ∷ after) ≡ line ∷ lines_of after
unfolding lines_of
fed_lines [] after none = refl
fed_lines (b ∷ line) after none =
    lines-cons b (line ++ 10 ∷ after) (none 0 0 (omega arith)) ∙ ap (onto_first b) (fed_lines line after (fewer b line none))

-- a last line, which no line feed ends
last_lines : (line : List ℕ) → 0 < length line → HasNoFeed line → lines_of line ≡ line ∷ lines_of []
unfolding lines_of
last_lines [] some none = absurd (omega (arith, some))
last_lines (b ∷ []) some none = lines-cons b [] (none 0 0 (omega arith))
last_lines (b ∷ c ∷ line) some none =
    lines-cons b (c ∷ line) (none 0 0 (omega arith)) ∙ ap (onto_first b) (last_lines (c ∷ line) (omega arith) (fewer b (c ∷ line) none))

-- the bytes that are left, none if they are not known
abbrev pub rest_of : Option (List ℕ) → List ℕ
rest_of None = []
rest_of (Some bytes) = bytes

-- The lines that are carried out end in the bytes `given`. The others that were taken wait.
pub record Kept (before now : Option (List ℕ)) (reader : Reading) (answered : List (List ℕ)) (given : List ℕ) : Type 0 where
  pub taken : reader.taken ≡ length given + length reader.waiting
  pub within : reader.taken ≤ MAX_LOG
  pub split : (more : List ℕ) → (IsTrue reader.is_ended → more ≡ []) → lines_of (given ++ more) ≡ answered ++ lines_of more
  pub short : All (λ line. length line ≤ MAX_LINE) answered
  pub moved : MovesBytes before now [] (given ++ reader.waiting)
  pub end : IsTrue reader.is_ended → IsAtEnd now
  pub none_waits : IsTrue reader.is_ended → reader.waiting ≡ []

untrue : IsTrue false → ⊥
untrue is = cc is

pub kept_start : (left : Option (List ℕ)) → Kept left left (record { waiting = []; taken = 0; is_ended = false }) [] []
kept_start left = record {
  taken = omega arith;
  within = omega arith;
  split = λ more _. refl;
  short = λ k d below. omega (arith, below);
  moved = λ bytes is. (bytes, is, refl);
  end = λ is. absurd (untrue is);
  none_waits = λ _. refl;
}

-- What the reader has read for the next line. `rest` comes after what it took.
pub record Read (reader next : Reading) (before after : Option (List ℕ)) (rest : List ℕ) : Type 0 where
  pub read : (piece : List ℕ) × HasRead piece reader next
  pub known : (bytes : List ℕ) → before ≡ Some bytes → reader.waiting ++ bytes ≡ next.waiting ++ rest
  pub still : IsTrue reader.is_ended → next ≡ reader
  pub end : IsTrue next.is_ended → rest ≡ []
  pub within : next.taken ≤ MAX_LOG

-- what moved, and what is left now
pub moved_read : (reader next : Reading) (before after : Option (List ℕ)) → (piece : List ℕ) × HasRead piece reader next
    → MovesBytes before after reader.waiting next.waiting → (IsTrue reader.is_ended → next ≡ reader) → (IsTrue next.is_ended → IsAtEnd after)
    → next.taken ≤ MAX_LOG → Read reader next before after (rest_of after)
moved_read reader next before after read moved still end within = record {
  read = read;
  known = λ bytes is. let m = moved bytes is in m.2 ∙ ap (λ o. next.waiting ++ rest_of o) (sym m.1);
  still = still;
  end = λ is. at_end after (end is);
  within = within;
}
  where
    at_end : (left : Option (List ℕ)) → IsAtEnd left → rest_of left ≡ []
    at_end None is = refl
    at_end (Some bytes) is = is

-- the log, as far as it is known
abbrev pub log_of : List ℕ → Reading → List ℕ → List ℕ
log_of given next rest = (given ++ next.waiting) ++ rest

pub log_known : (start before after : Option (List ℕ)) (reader next : Reading) (answered : List (List ℕ)) (given rest : List ℕ)
    → Kept start before reader answered given → Read reader next before after rest → IfSome start (λ bytes. log_of given next rest ≡ bytes)
log_known None before after reader next answered given rest k r = tt
log_known (Some all) before after reader next answered given rest k r =
    let m = k.moved all refl in
    append_assoc given next.waiting rest ∙ ap (λ xs. given ++ xs) (sym (r.known m.0 m.1)) ∙ sym (append_assoc given reader.waiting m.0) ∙ sym m.2

-- the bytes that are not answered, if the log has ended before
none_after : (start before after : Option (List ℕ)) (reader next : Reading) (answered : List (List ℕ)) (given rest : List ℕ)
    → Kept start before reader answered given → Read reader next before after rest → IsTrue reader.is_ended → next.waiting ++ rest ≡ []
none_after start before after reader next answered given rest k r ended =
    let same = r.still ended in
    ap (λ w. w ++ rest) (ap (λ s. s.waiting) same ∙ k.none_waits ended) ∙ r.end (subst (λ s. IsTrue s.is_ended) (sym same) ended)

pub begins : (start before after : Option (List ℕ)) (reader next : Reading) (answered : List (List ℕ)) (given rest : List ℕ)
    → Kept start before reader answered given → Read reader next before after rest → BeginsWith (log_of given next rest) answered (next.waiting ++ rest)
begins start before after reader next answered given rest k r = record {
  bytes = given;
  whole = append_assoc given next.waiting rest;
  split = ap lines_of (append_assoc given next.waiting rest)
      ∙ k.split (next.waiting ++ rest) (λ ended. none_after start before after reader next answered given rest k r ended);
  within = omega (arith, k.taken, k.within);
  short = k.short;
}

-- how many bytes were taken
pub taken_all : (start before after : Option (List ℕ)) (reader next : Reading) (answered : List (List ℕ)) (given rest : List ℕ)
    → Kept start before reader answered given → Read reader next before after rest → next.taken ≡ length given + length next.waiting
taken_all start before after reader next answered given rest k r =
    omega (arith, k.taken, r.read.1.1, ap length r.read.1.0, length-append reader.waiting r.read.0)

pub log_length : (given : List ℕ) (next : Reading) (rest : List ℕ) → length (log_of given next rest) ≡ length given + length next.waiting + length rest
log_length given next rest = omega (arith, length-append (given ++ next.waiting) rest, length-append given next.waiting)

-- no line waits
pub no_line : (start before after : Option (List ℕ)) (reader next : Reading) (answered : List (List ℕ)) (given rest : List ℕ)
    → Kept start before reader answered given → Read reader next before after rest → HasNoFeed next.waiting
    → NoLine (log_of given next rest) (next.waiting ++ rest) next.waiting rest
no_line start before after reader next answered given rest k r none = record {
  whole = refl;
  no_feed = none;
  within = omega (arith, log_length given next rest, taken_all start before after reader next answered given rest k r, r.within);
}

-- some bytes were taken of those after a line, fewer than one read may take
near_by : (start after : Option (List ℕ)) (bytes rest : List ℕ) → length bytes < MAX_READ → IfSome start (λ _. after ≡ Some rest)
    → IsNear (bytes ++ rest) start after
near_by None after bytes rest few left = tt
near_by (Some all) after bytes rest few left = (length bytes, few, left ∙ ap Some (sym (drop-append_seam bytes rest)))

-- the next line is too long
pub long_line : (start before after : Option (List ℕ)) (reader next : Reading) (answered : List (List ℕ)) (given rest : List ℕ)
    → Kept start before reader answered given → Read reader next before after rest → IsLong next → IfSome start (λ _. after ≡ Some rest)
    → (first : List ℕ) × (more : List ℕ) × NoLine (log_of given next rest) (next.waiting ++ rest) first more × (length first ≡ MAX_LINE + 1)
    × IsNear more start after
long_line start before after reader next answered given rest k r (none, long, few) left =
    let first = take (MAX_LINE + 1) next.waiting in
    let more = drop (MAX_LINE + 1) next.waiting in (
      first,
      more ++ rest,
      record {
        whole = ap (λ w. w ++ rest) (sym (take-append-drop (MAX_LINE + 1) next.waiting)) ∙ append_assoc first more rest;
        no_feed = none;
        within = omega (
          arith,
          log_length given next rest,
          taken_all start before after reader next answered given rest k r,
          r.within,
          length-append more rest,
          length-drop (MAX_LINE + 1) next.waiting,
          long,
        );
      },
      omega (arith, long, length-take (MAX_LINE + 1) next.waiting),
      near_by start after more rest (omega (arith, few, length-drop (MAX_LINE + 1) next.waiting)) left,
    )

-- the bytes up to the end of the next line
abbrev pub given_with : List ℕ → Reading → ℕ → List ℕ
given_with given next n = given ++ take (n + 1) next.waiting

-- The next line: its bytes, those after it that wait, and how they are cut.
pub record Cut (given : List ℕ) (next : Reading) (rest : List ℕ) (answered : List (List ℕ)) (line : List ℕ) (n : ℕ) : Type 0 where
  pub next_line : lines_of (next.waiting ++ rest) ≡ line ∷ lines_of (drop (n + 1) next.waiting ++ rest)
  pub split : (more : List ℕ) → (IsTrue next.is_ended → more ≡ []) → lines_of (given_with given next n ++ more) ≡ (answered ++ line ∷ []) ++ lines_of more
  pub recent : length (drop (n + 1) next.waiting) < MAX_READ
  pub ended : IsTrue next.is_ended → drop (n + 1) next.waiting ≡ []

not_ended : (start before after : Option (List ℕ)) (reader next : Reading) (answered : List (List ℕ)) (given rest : List ℕ) (n : ℕ)
    → Kept start before reader answered given → Read reader next before after rest → IsNext next n → IsTrue reader.is_ended → ⊥
not_ended start before after reader next answered given rest n k r (fed tail cut recent open_still) ended =
    omega (
      arith,
      ap length (none_after start before after reader next answered given rest k r ended),
      length-append next.waiting rest,
      ap length cut,
      length-append (take n next.waiting) (10 ∷ tail),
    )
not_ended start before after reader next answered given rest n k r (last is some done) ended =
    omega (arith, ap length (none_after start before after reader next answered given rest k r ended), length-append next.waiting rest, is, some)

lines_none : lines_of [] ≡ []
unfolding lines_of
lines_none = refl

take_line : (xs tail : List ℕ) (n : ℕ) → xs ≡ take n xs ++ 10 ∷ tail → (take (n + 1) xs ≡ take n xs ++ 10 ∷ []) × (drop (n + 1) xs ≡ tail)
take_line xs tail n cut =
    let long : n < length xs = omega (arith, ap length cut, length-append (take n xs) (10 ∷ tail), length-take n xs) in
    let short : length (take n xs) ≡ n = omega (arith, long, length-take n xs) in
    let at : n + 1 ≡ length (take n xs) + 1 = omega (arith, short) in (
      ap (take (n + 1)) cut ∙ ap (λ k. take k (take n xs ++ 10 ∷ tail)) at ∙ take-append-add (take n xs) (10 ∷ tail) 1,
      ap (drop (n + 1)) cut ∙ ap (λ k. drop k (take n xs ++ 10 ∷ tail)) at ∙ drop-append-add (take n xs) (10 ∷ tail) 1,
    )

-- the next line of those that wait
pub cut_line : (start before after : Option (List ℕ)) (reader next : Reading) (answered : List (List ℕ)) (given rest : List ℕ) (n : ℕ)
    → Kept start before reader answered given → Read reader next before after rest → IsLine next n → Cut given next rest answered (take n next.waiting) n
cut_line start before after reader next answered given rest n k r (short, none, fed tail cut recent open_still) =
    let line = take n next.waiting in
    let parts = take_line next.waiting tail n cut in
    let going = not_ended start before after reader next answered given rest n k r (fed tail cut recent open_still) in
    record {
      next_line = ap (λ w. lines_of (w ++ rest)) cut ∙ ap lines_of (append_assoc line (10 ∷ tail) rest) ∙ fed_lines line (tail ++ rest) none
          ∙ ap (λ d. line ∷ lines_of (d ++ rest)) (sym parts.1);
      split = λ more _.
          ap lines_of (append_assoc given (take (n + 1) next.waiting) more ∙ ap (λ x. given ++ (x ++ more)) parts.0 ∙ ap (λ x. given ++ x) (append_assoc line (10 ∷ []) more))
          ∙ k.split (line ++ 10 ∷ more) (λ ended. absurd (going ended)) ∙ ap (λ ls. answered ++ ls) (fed_lines line more none)
          ∙ sym (append_assoc answered (line ∷ []) (lines_of more));
      recent = subst (λ d. length d < MAX_READ) (sym parts.1) recent;
      ended = λ is. absurd (untrue (subst IsTrue open_still is));
    }
cut_line start before after reader next answered given rest n k r (short, none, last is some done) =
    let line = take n next.waiting in
    let all : take n next.waiting ≡ next.waiting = take_all n next.waiting (omega (arith, is)) in
    let gone : drop (n + 1) next.waiting ≡ [] = drop_all (n + 1) next.waiting (omega (arith, is)) in
    let no_rest = r.end done in
    let long : 0 < length line = omega (arith, is, some, length-take n next.waiting) in
    record {
      next_line = ap lines_of (ap (λ x. next.waiting ++ x) no_rest ∙ append-nil next.waiting ∙ sym all) ∙ last_lines line long none
          ∙ ap (λ x. line ∷ lines_of x) (sym (ap (λ d. d ++ rest) gone ∙ no_rest));
      split = λ more none_more.
          let nothing = none_more done in
          ap lines_of (ap (λ m. given_with given next n ++ m) nothing ∙ append-nil (given_with given next n)
          ∙ ap (λ x. given ++ x) (take_all (n + 1) next.waiting (omega (arith, is)) ∙ sym all))
          ∙ k.split line (λ ended. absurd (not_ended start before after reader next answered given rest n k r (last is some done) ended))
          ∙ ap (λ ls. answered ++ ls) (last_lines line long none) ∙ sym (append_assoc answered (line ∷ []) (lines_of []))
          ∙ ap (λ m. (answered ++ line ∷ []) ++ lines_of m) (sym nothing);
      recent = omega (arith, ap length gone);
      ended = λ _. gone;
    }

-- after the next line
pub next_line : (start before after : Option (List ℕ)) (reader next : Reading) (answered : List (List ℕ)) (given rest : List ℕ) (n : ℕ)
    → Kept start before reader answered given → Read reader next before after rest → IsLine next n
    → NextLine (log_of given next rest) answered (next.waiting ++ rest) (take n next.waiting) (drop (n + 1) next.waiting ++ rest)
next_line start before after reader next answered given rest n k r line =
    let cut = cut_line start before after reader next answered given rest n k r line in
    record {
      begins = record {
        bytes = given_with given next n;
        whole = append_assoc given next.waiting rest
            ∙ ap (λ w. given ++ (w ++ rest)) (sym (take-append-drop (n + 1) next.waiting))
            ∙ ap (λ x. given ++ x) (append_assoc (take (n + 1) next.waiting) (drop (n + 1) next.waiting) rest)
            ∙ sym (append_assoc given (take (n + 1) next.waiting) (drop (n + 1) next.waiting ++ rest));
        split = (begins start before after reader next answered given rest k r).split ∙ ap (λ ls. answered ++ ls) cut.next_line
            ∙ sym (append_assoc answered (take n next.waiting ∷ []) (lines_of (drop (n + 1) next.waiting ++ rest)));
        within = omega (
          arith,
          length-append given (take (n + 1) next.waiting),
          length-take (n + 1) next.waiting,
          taken_all start before after reader next answered given rest k r,
          r.within,
        );
        short = All-append (λ l. length l ≤ MAX_LINE) answered (take n next.waiting ∷ []) k.short (one_short (take n next.waiting) (omega (arith, line.0, length-take n next.waiting)));
      };
      split = cut.next_line;
    }
  where
    one_short : (l : List ℕ) → length l ≤ MAX_LINE → All (λ x. length x ≤ MAX_LINE) (l ∷ [])
    one_short l le zero d below = le
    one_short l le (suc k) d below = absurd (omega (arith, below))

-- fewer bytes were taken after the line than one read may take
pub is_near : (start before after : Option (List ℕ)) (reader next : Reading) (answered : List (List ℕ)) (given rest : List ℕ) (n : ℕ)
    → Kept start before reader answered given → Read reader next before after rest → IsLine next n → IfSome start (λ _. after ≡ Some rest)
    → IsNear (drop (n + 1) next.waiting ++ rest) start after
is_near start before after reader next answered given rest n k r line left =
    near_by start after (drop (n + 1) next.waiting) rest (cut_line start before after reader next answered given rest n k r line).recent left

-- what is left now is what comes after
pub left_is : (start before after : Option (List ℕ)) (reader next : Reading) (answered : List (List ℕ)) (given : List ℕ)
    → Kept start before reader answered given → MovesBytes before after reader.waiting next.waiting → IfSome start (λ _. after ≡ Some (rest_of after))
left_is None before after reader next answered given k moved = tt
left_is (Some all) before after reader next answered given k moved =
    let m = moved (k.moved all refl).0 (k.moved all refl).1 in m.1 ∙ ap (λ o. Some (rest_of o)) (sym m.1)

-- a line was carried out
pub kept_line : (start before after : Option (List ℕ)) (reader next : Reading) (answered : List (List ℕ)) (given : List ℕ) (n : ℕ)
    → Kept start before reader answered given → Read reader next before after (rest_of after) → IsLine next n → MovesBytes before after reader.waiting next.waiting
    → (IsTrue next.is_ended → IsAtEnd after)
    → Kept start after (record next { waiting = drop (n + 1) next.waiting }) (answered ++ take n next.waiting ∷ []) (given_with given next n)
kept_line start before after reader next answered given n k r line moved end =
    let cut = cut_line start before after reader next answered given (rest_of after) n k r line in
    let line_next = next_line start before after reader next answered given (rest_of after) n k r line in
    record {
      taken = omega (
        arith,
        taken_all start before after reader next answered given (rest_of after) k r,
        length-append given (take (n + 1) next.waiting),
        length-take (n + 1) next.waiting,
        length-drop (n + 1) next.waiting,
      );
      within = r.within;
      split = cut.split;
      short = line_next.begins.short;
      moved = λ bytes is.
          let first = k.moved bytes is in
          let then = moved first.0 first.1 in (
            then.0,
            then.1,
            first.2 ∙ append_assoc given reader.waiting first.0 ∙ ap (λ x. given ++ x) then.2
                ∙ ap (λ w. given ++ (w ++ then.0)) (sym (take-append-drop (n + 1) next.waiting))
                ∙ ap (λ x. given ++ x) (append_assoc (take (n + 1) next.waiting) (drop (n + 1) next.waiting) then.0)
                ∙ sym (append_assoc given (take (n + 1) next.waiting) (drop (n + 1) next.waiting ++ then.0))
                ∙ sym (append_assoc (given_with given next n) (drop (n + 1) next.waiting) then.0),
          );
      end = end;
      none_waits = cut.ended;
    }
