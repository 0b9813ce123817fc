-- Texts that are appended one after another.
use Rattle.std.proofs.Common.{◌≡◌, ℕ, ◌+◌, ◌<◌, List, [], ◌∷◌, ◌++◌, length, get_or, take, Result, Ok, Err, ap, ◌∙◌, sym, arith, append_assoc, append-nil, length-append}
use Rattle.std.specs.Prelude.{flat_map, OnErr}
use Rattle.std.proofs.Math.Seq.{take-append_seam}
use Rattle.std.proofs.lemmas.List.{take-take}
use Rattle.std.proofs.lemmas.Grind.{take_at_read, flat_map-append}
use Rattle.map_diff.specs.Text.{change_text}
use Rattle.map_diff.specs.declared.changed.ChangedPrefix.{ChangedPrefix}

pub on_err : {X E : Type 0} (r : Result X E) (P : Type 0) → P → OnErr r P
on_err (Ok x) P p = tt
on_err (Err e) P p = p

-- what was there before stays at the start
pub kept : (before mid new tail : List ℕ) → mid ≡ before ++ tail → take (length mid) new ≡ mid → take (length before) new ≡ before
kept before mid new tail e start =
    sym (take-take (length before) (length mid) new (omega (arith, ap (λ (xs : List ℕ). length xs) e, length-append before tail)))
    ∙ ap (λ (xs : List ℕ). take (length before) xs) (start ∙ e) ∙ take-append_seam before tail

abbrev pub blank : ChangedPrefix
blank = record { bits = 0; len = 0; old = 0; new = 0 }

-- one more line
pub one_more : (before : List ℕ) (rows : List ChangedPrefix) (i : ℕ) → i < length rows → (before ++ flat_map change_text (take i rows)) ++ change_text (get_or rows i blank) ≡ before ++ flat_map change_text (take (i + 1) rows)
one_more before rows i within =
    let next = (take_at_read rows i blank within).1 in
    append_assoc before (flat_map change_text (take i rows)) (change_text (get_or rows i blank))
    ∙ ap (λ (xs : List ℕ). before ++ (flat_map change_text (take i rows) ++ xs)) (sym (append-nil (change_text (get_or rows i blank))))
    ∙ ap (λ (xs : List ℕ). before ++ xs) (sym (flat_map-append change_text (take i rows) (get_or rows i blank ∷ [])))
    ∙ ap (λ (rs : List ChangedPrefix). before ++ flat_map change_text rs) (sym next)
