-- What follows of a result.
use Rattle.std.proofs.Common.{◌≡◌, Result, Ok, Err, OnOk, IfOk, IfErr, ap, sym, ◌∙◌, subst}

pub on_ok : {X E : Type 0} (r : Result X E) (A B : Type 0) → (A → B) → OnOk r A → OnOk r B
on_ok (Ok x) A B f a = f a
on_ok (Err e) A B f a = tt

pub if_ok : {X E : Type 0} (r : Result X E) (P Q : X → Type 0) → ((x : X) → P x → Q x) → IfOk r P → IfOk r Q
if_ok (Ok x) P Q f p = f x p
if_ok (Err e) P Q f p = tt

pub if_err : {X E : Type 0} (r : Result X E) (P Q : E → Type 0) → ((e : E) → P e → Q e) → IfErr r P → IfErr r Q
if_err (Ok x) P Q f p = tt
if_err (Err e) P Q f p = f e p

-- a fault that was handed on
pub by_fault : {X E : Type 0} (r : Result X E) (fault : E) (P : E → Type 0) → (x : E) × (r ≡ Err x) × (x ≡ fault) → P fault → IfErr r P
by_fault r fault P left p = subst (λ x. IfErr x P) (sym (left.1 ∙ ap Err left.2)) p
