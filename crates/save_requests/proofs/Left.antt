-- The requests that are left at a stage.
use Rattle.std.proofs.Common.{◌≡◌, ℕ, Bool, true, false, ◌+◌, ◌-◌, ◌<◌, ◌≤◌, List, [], ◌∷◌, ◌++◌, map, zero, suc, length, take, drop, refl, sym, ap, ◌∙◌, subst, arith}
use Rattle.std.specs.Prelude.{◌==◌, if◌then◌else◌}
use Rattle.std.proofs.lemmas.Bool.{eqb-true}
use Rattle.std.proofs.lemmas.List.{length-drop, drop-drop}
use Rattle.save_requests.specs.Requests.{Request, ask_append, ending, next_of, piece_of, pieces}
use Rattle.save_requests.specs.Inside.{asked_at, left_at, piece_at, stage_after}
use Rattle.save_requests.specs.declared.requests.Stage.{Stage}
use Rattle.save_requests.specs.declared.requests.Stage.TheVariants.{Create, Append, Sync, Rename, SyncDir, Saved}
use Rattle.save_requests.proofs.Pieces.{one_more}

-- what is appended, and what comes after it
appending : ℕ → List ℕ → List Request
appending max bytes = map ask_append (pieces max bytes) ++ ending

first_piece : (max : ℕ) (bytes : List ℕ) → 0 < max → 0 < length bytes
    → left_at Append max bytes ≡ ask_append (take max bytes) ∷ left_at Append max (drop max bytes)
first_piece max bytes some there = ap (λ ps. map ask_append ps ++ ending) (one_more max bytes some there)

pub asks : (stage : Stage) (max : ℕ) (bytes : List ℕ) → 0 < max → (stage ≡ Append → 0 < length bytes)
    → asked_at stage ≡ next_of (left_at stage max bytes)
asks Create max bytes some there = refl
asks Append max bytes some there = ap next_of (sym (first_piece max bytes some (there refl)))
asks Sync max bytes some there = refl
asks Rename max bytes some there = refl
asks SyncDir max bytes some there = refl
asks Saved max bytes some there = refl

pub appends : (stage : Stage) (max : ℕ) (bytes : List ℕ) → 0 < max → (stage ≡ Append → 0 < length bytes)
    → piece_at stage max bytes ≡ piece_of (left_at stage max bytes)
appends Create max bytes some there = refl
appends Append max bytes some there = ap piece_of (sym (first_piece max bytes some (there refl)))
appends Sync max bytes some there = refl
appends Rename max bytes some there = refl
appends SyncDir max bytes some there = refl
appends Saved max bytes some there = refl

-- the stage at which bytes are left, or none
opened : (max : ℕ) (bytes : List ℕ) (left : ℕ) → left ≡ length bytes
    → left_at (if left == 0 then Sync else Append) max bytes ≡ left_at Append max bytes
opened max [] left is = subst (λ n. left_at (if n == 0 then Sync else Append) max [] ≡ ending) (sym is) refl
opened max (b ∷ bytes) left is = by (left == 0) refl
  where
    by : (t : Bool) → (left == 0) ≡ t → left_at (if left == 0 then Sync else Append) max (b ∷ bytes) ≡ left_at Append max (b ∷ bytes)
    by true e = let none : left ≡ 0 = eqb-true left 0 e in absurd (omega (arith, is, none))
    by false e = ap (λ (t : Bool). left_at (if t then Sync else Append) max (b ∷ bytes)) e

drop_taken : (max : ℕ) (bytes : List ℕ) → drop (length (take max bytes)) bytes ≡ drop max bytes
drop_taken zero bytes = refl
drop_taken (suc n) [] = refl
drop_taken (suc n) (b ∷ bytes) = drop_taken n bytes

-- one request less
pub goes_on : (stage : Stage) (max : ℕ) (bytes : List ℕ) (done next : ℕ) → 0 < max → (stage ≡ Append → 0 < length (drop done bytes))
    → next ≡ done + length (piece_at stage max (drop done bytes)) → next ≤ length bytes
    → left_at (stage_after stage (length bytes - next)) max (drop next bytes) ≡ drop 1 (left_at stage max (drop done bytes))
goes_on Create max bytes done next some there is within =
    let same : next ≡ done = omega (arith, is) in
    opened max (drop next bytes) (length bytes - next) (sym (length-drop next bytes))
    ∙ ap (λ n. left_at Append max (drop n bytes)) same
goes_on Append max bytes done next some there is within =
    let xs = drop done bytes in
    let cut : drop next bytes ≡ drop max xs =
    ap (λ n. drop n bytes) is ∙ sym (drop-drop (length (take max xs)) done bytes) ∙ drop_taken max xs in
    opened max (drop next bytes) (length bytes - next) (sym (length-drop next bytes))
    ∙ ap (left_at Append max) cut
    ∙ ap (drop 1) (sym (first_piece max xs some (there refl)))
goes_on Sync max bytes done next some there is within = refl
goes_on Rename max bytes done next some there is within = refl
goes_on SyncDir max bytes done next some there is within = refl
goes_on Saved max bytes done next some there is within = refl
