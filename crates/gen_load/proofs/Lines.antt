-- What lines are to come, and how far the clock goes on with each.
use Rattle.std.proofs.Common.{◌≡◌, ◌≢◌, ◌≤◌, ◌<◌, ℕ, zero, suc, ◌+◌, ◌-◌, [], Bool, true, false, refl, ap, ◌∙◌, arith}
use Rattle.gen_load.specs.declared.kind.Kind.{Kind}
use Rattle.gen_load.specs.declared.kind.Kind.TheVariants as kind
use Rattle.gen_load.specs.declared.position.Position.{Position}
use Rattle.gen_load.specs.Inside.{lines_left, line_with, position_with, IsInTime}
use Rattle.gen_load.specs.Log.{draw, past, past_entries, line_of, kind_of, drawn_line, drawn_lines, next_line, lines_after}

pub past-time : (at : Position) → (past at).time ≡ at.time
unfolding past
past-time at = refl

past_entries-time : (n : ℕ) (at : Position) → (past_entries n at).time ≡ at.time
past_entries-time zero at = refl
past_entries-time (suc n) at = past_entries-time n (past (past at)) ∙ past-time (past at) ∙ past-time at

growth-small : (at : Position) → draw 600 at < 600
unfolding draw
growth-small at = omega arith

-- the clock never goes back, and goes on by at most ten minutes
pub record GoesOn (before after : ℕ) : Type 0 where
  pub least : before ≤ after
  pub most : after ≤ before + 600

stays : (before after : ℕ) → after ≡ before → GoesOn before after
stays before after same = record { least = omega (arith, same); most = omega (arith, same) }

line_of-time : (k : Kind) (at : Position) → GoesOn at.time (line_of k at).after.time
line_of-time kind.Now at = record { least = omega arith; most = omega (arith, growth-small at) }
line_of-time kind.Addr at =
    let first = past (past at) in
    stays _ _ (past-time (past_entries (1 + draw 4 (past at)) first) ∙ past_entries-time (1 + draw 4 (past at)) first ∙ past-time (past at) ∙ past-time at)
line_of-time kind.Good at = stays _ _ (past-time at)
line_of-time kind.Attempt at = stays _ _ (past-time at)
line_of-time kind.Connected at = stays _ _ (past-time at)
line_of-time kind.Select at = stays _ _ (past-time at)
line_of-time kind.Clash at = stays _ _ (past-time at)
line_of-time kind.Resolve at = stays _ _ refl

pub drawn_line-time : (at : Position) → GoesOn at.time (drawn_line at).after.time
unfolding drawn_line
drawn_line-time at =
    let on = line_of-time (kind_of (draw 16 at)) (past at) in
    record { least = omega (arith, past-time at, on.least); most = omega (arith, past-time at, on.most) }

with-time : (begun : Bool) (at : Position) → GoesOn at.time (position_with begun at).time
with-time true at = drawn_line-time at
with-time false at = stays _ _ refl

-- there is time for the lines that are to come after the next one
pub still_in_time : (begun : Bool) (left : ℕ) (at next : Position) → left ≢ 0 → IsInTime at.time left → next ≡ position_with begun at → IsInTime next.time (left - 1)
still_in_time begun left at next some in_time is =
    let on = with-time begun at in
    let time : next.time ≡ (position_with begun at).time = ap (λ p. p.time) is in
    record { late = omega (arith, in_time.late, on.least, time); early = omega (arith, in_time.early, on.most, time, some) }

pub next_text : (begun : Bool) (left : ℕ) (at : Position) → left ≢ 0 → next_line (lines_left begun left at) ≡ line_with begun at
next_text begun zero at some = absurd (some refl)
next_text true (suc left) at some = refl
next_text false (suc left) at some = refl

pub later_lines : (begun : Bool) (left : ℕ) (at : Position) → left ≢ 0 → lines_after (lines_left begun left at) ≡ drawn_lines (left - 1) (position_with begun at)
later_lines begun zero at some = absurd (some refl)
later_lines true (suc left) at some = ap (λ n. drawn_lines n (drawn_line at).after) (omega arith)
later_lines false (suc left) at some = ap (λ n. drawn_lines n at) (omega arith)

pub is_some : (begun : Bool) (left : ℕ) (at : Position) → left ≢ 0 → lines_left begun left at ≢ []
is_some begun zero at some = absurd (some refl)
is_some true (suc left) at some = λ none. absurd (cc)
is_some false (suc left) at some = λ none. absurd (cc)
