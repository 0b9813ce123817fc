-- Which calls of a folder were made.
use Rattle.std.proofs.Common.{◌≡◌, ◌⊎◌, List, [], ◌∷◌, ◌++◌, refl, sym, ap, ◌∙◌, subst, inl, inr, ℕ}
use Rattle.std.proofs.lemmas.List.{append-nil, append_assoc, map-append}
use Rattle.std.specs.Prelude.{Option, Some, None, map, Result, Ok, Err, OnOk, OnErr}
use Rattle.host_io.specs.Calls.{EachCall, IsReadOf, MayAddCall, OnlyCalls, with_call}
use Rattle.host_io.specs.MemFolder.{FailsToChange, FailsWithoutChange, FolderState, calls_of, folder_after_call, folder_after_change}
use Rattle.host_io.specs.declared.call.Action.{Action}
use Rattle.host_io.specs.declared.call.Call.{Call}
use Rattle.host_io.specs.declared.call.Change.{Change}
use Rattle.host_io.specs.declared.call.Action.TheVariants.{Size, Read, Create, Append, Sync, Rename, SyncDir}
use Rattle.host_io.specs.declared.name.Name.{Name}

-- none
pub none : (P : Action → Type 0) (calls : Option (List Action)) → OnlyCalls P calls calls
none P None = refl
none P (Some old) = ([], tt, ap Some (sym (append-nil old)))

both : (P : Action → Type 0) (xs ys : List Action) → EachCall P xs → EachCall P ys → EachCall P (xs ++ ys)
both P [] ys p q = q
both P (x ∷ xs) ys p q = (p.0, both P xs ys p.1 q)

-- those of one part and those of the next
pub joined : (P : Action → Type 0) (a b c : Option (List Action)) → OnlyCalls P a b → OnlyCalls P b c → OnlyCalls P a c
joined P None b c first second = subst (λ o. OnlyCalls P o c) first second
joined P (Some old) b c first second =
    let next = subst (λ o. OnlyCalls P o c) first.2 second in (
      first.0 ++ next.0,
      both P first.0 next.0 first.1 next.1,
      next.2 ∙ ap Some (append_assoc old first.0 next.0),
    )

weaker_each : (P Q : Action → Type 0) → ((action : Action) → P action → Q action) → (xs : List Action)
    → EachCall P xs → EachCall Q xs
weaker_each P Q more [] each = tt
weaker_each P Q more (x ∷ xs) each = (more x each.0, weaker_each P Q more xs each.1)

-- those of which P holds, where Q holds of these
pub weaker : (P Q : Action → Type 0) (a b : Option (List Action)) → ((action : Action) → P action → Q action)
    → OnlyCalls P a b → OnlyCalls Q a b
weaker P Q None b more only = only
weaker P Q (Some old) b more only = (only.0, weaker_each P Q more only.0 only.1, only.2)

-- one, whether it failed or not
pub one : (P : Action → Type 0) (action : Action) (a b : Option (List Action)) → P action
    → MayAddCall action a b → OnlyCalls P a b
one P action None b is (inl goes) = goes
one P action None b is (inr goes) = goes
one P action (Some old) b is (inl goes) = (action ∷ [], (is, tt), goes)
one P action (Some old) b is (inr goes) = ([], tt, goes ∙ ap Some (sym (append-nil old)))

pub size_ok : (name : Name) (a b : Option (List Action)) → b ≡ with_call (Size name) a → OnlyCalls (IsReadOf name) a b
size_ok name a b is = one (IsReadOf name) (Size name) a b refl (inl is)

pub size_err : (name : Name) (a b : Option (List Action)) → MayAddCall (Size name) a b → OnlyCalls (IsReadOf name) a b
size_err name a b is = one (IsReadOf name) (Size name) a b refl is

pub read_ok : (name : Name) (at : ℕ) (a b : Option (List Action)) → b ≡ with_call (Read name at) a
    → OnlyCalls (IsReadOf name) a b
read_ok name at a b is = one (IsReadOf name) (Read name at) a b refl (inl is)

pub read_err : (name : Name) (at : ℕ) (a b : Option (List Action)) → MayAddCall (Read name at) a b
    → OnlyCalls (IsReadOf name) a b
read_err name at a b is = one (IsReadOf name) (Read name at) a b refl is

pub size_then : (name : Name) (a b c : Option (List Action)) → b ≡ with_call (Size name) a
    → OnlyCalls (IsReadOf name) b c → OnlyCalls (IsReadOf name) a c
size_then name a b c first more = joined (IsReadOf name) a b c (size_ok name a b first) more

pub reads_then : (name : Name) (a b c : Option (List Action)) → OnlyCalls (IsReadOf name) a b
    → OnlyCalls (IsReadOf name) b c → OnlyCalls (IsReadOf name) a c
reads_then name = joined (IsReadOf name)

-- one that failed or not, by its answer
pub whichever : {T E : Type 0} (r : Result T E) (action : Action) (a b : Option (List Action))
    → OnOk r (b ≡ with_call action a) → OnErr r (MayAddCall action a b) → MayAddCall action a b
whichever (Ok x) action a b ok err = inl ok
whichever (Err e) action a b ok err = err

-- A FOLDER IN MEMORY

recorded : (old new : FolderState) (action : Action)
    → new.history ≡ old.history ++ record { number = old.calls; action = action } ∷ []
    → calls_of new ≡ with_call action (calls_of old)
recorded old new action is =
    ap (λ calls. Some (map (λ (call : Call). call.action) calls)) is
    ∙ ap Some (map-append (λ (call : Call). call.action) old.history (record { number = old.calls; action = action } ∷ []))

forgotten : (old new : FolderState) → new.history ≡ old.history → calls_of new ≡ calls_of old
forgotten old new is = ap (λ calls. Some (map (λ (call : Call). call.action) calls)) is

pub called : (old new : FolderState) (action : Action) → new ≡ folder_after_call old action
    → calls_of new ≡ with_call action (calls_of old)
called old new action is = recorded old new action (ap (λ (f : FolderState). f.history) is)

pub changed : (old new : FolderState) (action : Action) (change : Change)
    → new ≡ folder_after_change old action change → calls_of new ≡ with_call action (calls_of old)
changed old new action change is = recorded old new action (ap (λ (f : FolderState). f.history) is)

pub not_called : (old new : FolderState) (action : Action) → FailsWithoutChange old action new
    → MayAddCall action (calls_of old) (calls_of new)
not_called old new action (inl is) = inl (recorded old new action (ap (λ (f : FolderState). f.history) is.1))
not_called old new action (inr is) = inr (forgotten old new (ap (λ (f : FolderState). f.history) is))

pub not_changed : (old new : FolderState) (action : Action) (change : Change) → FailsToChange old action change new
    → MayAddCall action (calls_of old) (calls_of new)
not_changed old new action change (inl is) =
    inl (recorded old new action (ap (λ (f : FolderState). f.history) is.1))
not_changed old new action change (inr (inl is)) =
    inl (recorded old new action (ap (λ (f : FolderState). f.history) is.1))
not_changed old new action change (inr (inr is)) = inr (forgotten old new (ap (λ (f : FolderState). f.history) is))
