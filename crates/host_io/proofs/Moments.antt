-- What holds at each moment, over the calls of a folder.
use Rattle.std.proofs.Common.{◌≡◌, List, [], ◌∷◌, ◌++◌, refl, sym, ap, ◌∙◌, subst, append_assoc, get_or, inl, inr}
use Rattle.std.specs.Prelude.{Option, Some, None, IfSome}
use Rattle.host_io.specs.Disk.{Disk}
use Rattle.host_io.specs.Past.{Past, moments, later, after, AfterFault, AllOf, HoldsSince, Always}

pub AllOf-append : (P : Disk → Type 0) (a b : List Disk) → AllOf P a → AllOf P b → AllOf P (a ++ b)
AllOf-append P [] b x y = y
AllOf-append P (d ∷ a) b x y = (x.0, AllOf-append P a b x.1 y)

pub AllOf-prefix : (P : Disk → Type 0) (a b : List Disk) → AllOf P (a ++ b) → AllOf P a
AllOf-prefix P [] b x = tt
AllOf-prefix P (d ∷ a) b x = (x.0, AllOf-prefix P a b x.1)

pub AllOf-weaker : (P Q : Disk → Type 0) (a : List Disk) → ((d : Disk) → P d → Q d) → AllOf P a → AllOf Q a
AllOf-weaker P Q [] f x = tt
AllOf-weaker P Q (d ∷ a) f x = (f d x.0, AllOf-weaker P Q a f x.1)

-- the disk now has it too
pub now_has : (P : Disk → Type 0) (old new : Past) → HoldsSince old new P → P new.now
now_has P old new all = from all.since all.goes_on all.each
  where
    from : (since : List Disk) → moments new ≡ since ++ moments old → AllOf P (since ++ old.now ∷ []) → P new.now
    from [] goes_on each = subst P (sym (ap (λ ds. get_or ds 0 old.now) goes_on)) each.0
    from (d ∷ since) goes_on each = subst P (sym (ap (λ ds. get_or ds 0 old.now) goes_on)) each.0

-- before the first call
pub begun : (P : Disk → Disk → Type 0) (old : Option Past) → ((d : Disk) → P d d) → Always old old P
begun P None here = refl
begun P (Some old) here = (old, refl, record { since = []; goes_on = refl; each = (here old.now, tt) })

one_more : (P : Disk → Type 0) (old mid : Past) (disk : Disk) → HoldsSince old mid P → P disk
    → HoldsSince old (later disk mid) P
one_more P old mid disk all has = record {
  since = disk ∷ all.since;
  goes_on = ap (λ ds. disk ∷ ds) all.goes_on;
  each = (has, all.each);
}

-- a call that succeeds
pub went : (P : Disk → Disk → Type 0) (call : Disk → Disk) (old mid new : Option Past)
    → Always old mid P → new ≡ after call mid → ((start d : Disk) → P start d → P start (call d))
    → Always old new P
went P call None mid new so_far goes on = subst (λ m. new ≡ after call m) so_far goes
went P call (Some old) mid new so_far goes on =
    let disk = call so_far.0.now in (
      later disk so_far.0,
      subst (λ m. new ≡ after call m) so_far.1 goes,
      one_more (P old.now) old so_far.0 disk so_far.2
          (on old.now so_far.0.now (now_has (P old.now) old so_far.0 so_far.2)),
    )

-- a call that fails
pub broke : (P partly : Disk → Disk → Type 0) (old mid new : Option Past)
    → Always old mid P → AfterFault partly mid new
    → ((start d e : Disk) → P start d → partly d e → P start e)
    → Always old new P
broke P partly None mid new so_far fault on = subst (λ m. AfterFault partly m new) so_far fault
broke P partly (Some old) mid new so_far fault on =
    elim (subst (λ m. AfterFault partly m new) so_far.1 fault) [
      | inl same ↦ (so_far.0, same, so_far.2)
      | inr one ↦ (
        later one.0 so_far.0,
        one.2,
        one_more (P old.now) old so_far.0 one.0 so_far.2
            (on old.now so_far.0.now one.0 (now_has (P old.now) old so_far.0 so_far.2) one.1),
      )
    ]

-- the first call, of which A is known, if it succeeds
pub went_first : (A : Disk → Type 0) (P : Disk → Disk → Type 0) (call : Disk → Disk) (old new : Option Past)
    → IfSome old (λ p. A p.now) → new ≡ after call old
    → ((d : Disk) → P d d) → ((d : Disk) → A d → P d (call d)) → Always old new P
went_first A P call None new a goes here on = goes
went_first A P call (Some old) new a goes here on = (
  later (call old.now) old,
  goes,
  record { since = call old.now ∷ []; goes_on = refl; each = (on old.now a, (here old.now, tt)) },
)

-- the first call, of which A is known, if it fails
pub broke_first : (A : Disk → Type 0) (P partly : Disk → Disk → Type 0) (old new : Option Past)
    → IfSome old (λ p. A p.now) → AfterFault partly old new
    → ((d : Disk) → P d d) → ((d e : Disk) → A d → partly d e → P d e) → Always old new P
broke_first A P partly None new a fault here on = fault
broke_first A P partly (Some old) new a fault here on = elim fault [
  | inl same ↦ (old, same, record { since = []; goes_on = refl; each = (here old.now, tt) })
  | inr one ↦ (
    later one.0 old,
    one.2,
    record {
      since = one.0 ∷ [];
      goes_on = refl;
      each = (on old.now one.0 a one.1, (here old.now, tt));
    },
  )
]

-- two runs, one after the other
pub joined : (P Q R : Disk → Disk → Type 0) (old mid new : Option Past) → Always old mid P → Always mid new Q
    → ((start d : Disk) → P start d → R start d) → ((start d e : Disk) → P start d → Q d e → R start e)
    → Always old new R
joined P Q R None mid new first second weaker on = subst (λ m. Always m new Q) first second
joined P Q R (Some old) mid new first second weaker on =
    let last = subst (λ m. Always m new Q) first.1 second in
    let p = now_has (P old.now) old first.0 first.2 in (
      last.0,
      last.1,
      record {
        since = last.2.since ++ first.2.since;
        goes_on = last.2.goes_on ∙ ap (λ ds. last.2.since ++ ds) first.2.goes_on
            ∙ sym (append_assoc last.2.since first.2.since (moments old));
        each = subst (AllOf (R old.now)) (sym (append_assoc last.2.since first.2.since (old.now ∷ [])))
            (AllOf-append (R old.now) last.2.since (first.2.since ++ old.now ∷ [])
            (AllOf-weaker (Q first.0.now) (R old.now) last.2.since (λ e q. on old.now first.0.now e p q)
            (AllOf-prefix (Q first.0.now) last.2.since (first.0.now ∷ []) last.2.each))
            (AllOf-weaker (P old.now) (R old.now) (first.2.since ++ old.now ∷ []) (weaker old.now) first.2.each));
      },
    )
