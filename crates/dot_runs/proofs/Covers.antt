-- Each place of a row is covered by one run, which has the mark that stands there; no other place is.
use Rattle.std.proofs.Common.{◌≡◌, ℕ, zero, suc, ◌+◌, ◌<◌, ◌≤◌, Bool, true, false, cond, ◌==◌, List, [], ◌∷◌, map, length, get_or, filter, refl, sym, ap, ◌∙◌, arith, inl, inr, ◌⊎◌}
use Rattle.std.proofs.lemmas.Bool.{eqb-true, cases_lt, le-leb, lt-leb, lt-ltb, le-ltb, and_from, and_left, and_right}
use Rattle.dot_runs.specs.Runs.{Run, run, in_front, runs_from, covers, marks_over}

-- the first run, if there is one, begins at x
abbrev StartsAt : ℕ → List Run → Type 0
StartsAt x [] = Unit {0}
StartsAt x (r ∷ rs) = r.start ≡ x

start_of : (x : ℕ) (r : Run) (rs : List Run) → StartsAt x (r ∷ rs) → r.start ≡ x
start_of x r rs starts = starts

next : (x place : ℕ) → x ≤ place → (place ≡ x → ⊥) → x + 1 ≤ place
next x place low other = at (cases_lt x place)
  where
    at : (x < place) ⊎ (place ≤ x) → x + 1 ≤ place
    at (inl lt) = omega arith
    at (inr ge) = absurd (other (omega arith))

in_front-starts : (m x : ℕ) (rs : List Run) → StartsAt x (in_front m x rs)
in_front-starts m x [] = refl
in_front-starts m x (r ∷ rs) = by (r.mark == m)
  where
    by : (b : Bool) → StartsAt x (cond b (run m x (r.wide + 1) ∷ rs) (run m x 1 ∷ r ∷ rs))
    by true = refl
    by false = refl

runs_from-starts : (x : ℕ) (ms : List ℕ) → StartsAt x (runs_from x ms)
runs_from-starts x [] = tt
runs_from-starts x (m ∷ ms) = in_front-starts m x (runs_from (x + 1) ms)

-- a run covers the places from its start on, as many as it is wide
covered : (place : ℕ) (r : Run) → r.start ≤ place → place < r.start + r.wide → covers place r ≡ true
covered place r low high = and_from _ _ (le-leb r.start place low) (lt-ltb place (r.start + r.wide) high)

below : (place : ℕ) (r : Run) → place < r.start → covers place r ≡ false
below place r low = and_left _ _ (lt-leb r.start place low)

above : (place : ℕ) (r : Run) → r.start + r.wide ≤ place → covers place r ≡ false
above place r high = and_right _ _ (le-ltb place (r.start + r.wide) high)

pub marks-yes : (place : ℕ) (r : Run) (rs : List Run) → covers place r ≡ true → marks_over place (r ∷ rs) ≡ r.mark ∷ marks_over place rs
marks-yes place r rs e = ap (λ (b : Bool). map (λ (q : Run). q.mark) (cond b (r ∷ filter (covers place) rs) (filter (covers place) rs))) e

pub marks-no : (place : ℕ) (r : Run) (rs : List Run) → covers place r ≡ false → marks_over place (r ∷ rs) ≡ marks_over place rs
marks-no place r rs e = ap (λ (b : Bool). map (λ (q : Run). q.mark) (cond b (r ∷ filter (covers place) rs) (filter (covers place) rs))) e

-- two first runs of one mark that cover the place alike
marks-alike : (place : ℕ) (r q : Run) (rs : List Run) → covers place r ≡ covers place q → r.mark ≡ q.mark → marks_over place (r ∷ rs) ≡ marks_over place (q ∷ rs)
marks-alike place r q rs e same = by (covers place q) refl
  where
    by : (b : Bool) → covers place q ≡ b → marks_over place (r ∷ rs) ≡ marks_over place (q ∷ rs)
    by true h = marks-yes place r rs (e ∙ h) ∙ ap (λ (m : ℕ). m ∷ marks_over place rs) same ∙ sym (marks-yes place q rs h)
    by false h = marks-no place r rs (e ∙ h) ∙ sym (marks-no place q rs h)

-- one dot more at the front of a run changes what it covers there alone
wider : (place m x : ℕ) (r : Run) → r.start ≡ x + 1 → (place ≡ x → ⊥) → covers place (run m x (r.wide + 1)) ≡ covers place r
wider place m x r at other = by (cases_lt place x) (cases_lt place (x + 1 + r.wide))
  where
    by : (place < x) ⊎ (x ≤ place) → (place < x + 1 + r.wide) ⊎ (x + 1 + r.wide ≤ place) → covers place (run m x (r.wide + 1)) ≡ covers place r
    by (inl low) high = below place (run m x (r.wide + 1)) low ∙ sym (below place r (omega (arith, at)))
    by (inr low) (inl high) = covered place (run m x (r.wide + 1)) low (omega arith) ∙ sym (covered place r (omega (arith, at, next x place low other)) (omega (arith, at)))
    by (inr low) (inr high) = above place (run m x (r.wide + 1)) (omega arith) ∙ sym (above place r (omega (arith, at)))

single-no : (place m x : ℕ) → (place ≡ x → ⊥) → covers place (run m x 1) ≡ false
single-no place m x other = by (cases_lt place x)
  where
    by : (place < x) ⊎ (x ≤ place) → covers place (run m x 1) ≡ false
    by (inl low) = below place (run m x 1) low
    by (inr low) = above place (run m x 1) (omega (arith, next x place low other))

-- a mark in front changes nothing at other places
front-other : (place m x : ℕ) (rs : List Run) → StartsAt (x + 1) rs → (place ≡ x → ⊥) → marks_over place (in_front m x rs) ≡ marks_over place rs
front-other place m x [] starts other = marks-no place (run m x 1) [] (single-no place m x other)
front-other place m x (r ∷ rs) starts other = by (r.mark == m) refl
  where
    by : (b : Bool) → (r.mark == m) ≡ b
        → marks_over place (cond b (run m x (r.wide + 1) ∷ rs) (run m x 1 ∷ r ∷ rs)) ≡ marks_over place (r ∷ rs)
    by true e = marks-alike place (run m x (r.wide + 1)) r rs (wider place m x r (start_of (x + 1) r rs starts) other) (sym (eqb-true r.mark m e))
    by false e = marks-no place (run m x 1) (r ∷ rs) (single-no place m x other)

-- and covers its own
front-own : (m x : ℕ) (rs : List Run) → StartsAt (x + 1) rs → marks_over x rs ≡ [] → marks_over x (in_front m x rs) ≡ m ∷ []
front-own m x [] starts none = marks-yes x (run m x 1) [] (covered x (run m x 1) (omega arith) (omega arith))
front-own m x (r ∷ rs) starts none = by (r.mark == m)
  where
    rest : marks_over x rs ≡ []
    rest = sym (marks-no x r rs (below x r (omega (arith, start_of (x + 1) r rs starts)))) ∙ none

    by : (b : Bool) → marks_over x (cond b (run m x (r.wide + 1) ∷ rs) (run m x 1 ∷ r ∷ rs)) ≡ m ∷ []
    by true = marks-yes x (run m x (r.wide + 1)) rs (covered x (run m x (r.wide + 1)) (omega arith) (omega arith)) ∙ ap (λ (ks : List ℕ). m ∷ ks) rest
    by false = marks-yes x (run m x 1) (r ∷ rs) (covered x (run m x 1) (omega arith) (omega arith)) ∙ ap (λ (ks : List ℕ). m ∷ ks) none

-- no run covers a place before the row
pub none_before : (place x : ℕ) (ms : List ℕ) → place < x → marks_over place (runs_from x ms) ≡ []
none_before place x [] low = refl
none_before place x (m ∷ ms) low =
    front-other place m x (runs_from (x + 1) ms) (runs_from-starts (x + 1) ms) (λ e. omega (arith, e)) ∙ none_before place (x + 1) ms (omega arith)

-- nor one behind it
pub none_behind : (place x : ℕ) (ms : List ℕ) → x + length ms ≤ place → marks_over place (runs_from x ms) ≡ []
none_behind place x [] high = refl
none_behind place x (m ∷ ms) high =
    front-other place m x (runs_from (x + 1) ms) (runs_from-starts (x + 1) ms) (λ e. omega (arith, e)) ∙ none_behind place (x + 1) ms (omega arith)

-- each place of the row is covered by one run, of the mark that stands there
pub one_over : (x i : ℕ) (ms : List ℕ) → i < length ms → marks_over (x + i) (runs_from x ms) ≡ get_or ms i 0 ∷ []
one_over x i [] lt = absurd (omega arith)
one_over x zero (m ∷ ms) lt =
    ap (λ (p : ℕ). marks_over p (in_front m x (runs_from (x + 1) ms))) (omega arith)
    ∙ front-own m x (runs_from (x + 1) ms) (runs_from-starts (x + 1) ms) (none_before x (x + 1) ms (omega arith))
one_over x (suc i) (m ∷ ms) lt =
    front-other (x + suc i) m x (runs_from (x + 1) ms) (runs_from-starts (x + 1) ms) (λ e. omega (arith, e))
    ∙ ap (λ (p : ℕ). marks_over p (runs_from (x + 1) ms)) (omega arith)
    ∙ one_over (x + 1) i ms (omega arith)
