-- The calls of a folder, the first one first, as far as contracts know them.
use Rattle.std.specs.Prelude.{◌≡◌, ◌⊎◌, ℕ, List, [], ◌∷◌, ◌++◌, Option, Some, None, ⊤}
use Rattle.std.specs.Option.{option_map}
use Rattle.host_io.specs.declared.call.Action.{Action}
use Rattle.host_io.specs.declared.call.Action.TheVariants.{Size, Read, Create, Append, Sync, Rename, SyncDir}
use Rattle.host_io.specs.declared.name.Name.{Name}

-- The calls after one more.
abbrev pub with_call : Action → Option (List Action) → Option (List Action)
with_call action calls = option_map (λ all. all ++ action ∷ []) calls

-- The calls after one that failed. A folder may forget such a call.
abbrev pub MayAddCall : Action → Option (List Action) → Option (List Action) → Type 0
MayAddCall action old new = (new ≡ with_call action old) ⊎ (new ≡ old)

-- P holds of each of the calls.
abbrev pub EachCall : (Action → Type 0) → List Action → Type 0
EachCall P [] = ⊤
EachCall P (action ∷ more) = P action × EachCall P more

-- Only calls of which P holds were made.
abbrev pub OnlyCalls : (Action → Type 0) → Option (List Action) → Option (List Action) → Type 0
OnlyCalls P None new = new ≡ None
OnlyCalls P (Some old) new =
    (since : List Action) × EachCall P since × (new ≡ Some (old ++ since))

-- The call asks for the size or the bytes of this file.
abbrev pub IsReadOf : Name → Action → Type 0
IsReadOf name (Size other) = other ≡ name
IsReadOf name (Read other at) = other ≡ name
IsReadOf name action = ⊥

-- The call is one of a save of this file under this temporary name.
abbrev pub IsSaveOf : Name → Name → Action → Type 0
IsSaveOf temp name (Create other) = other ≡ temp
IsSaveOf temp name (Append other count) = other ≡ temp
IsSaveOf temp name (Sync other) = other ≡ temp
IsSaveOf temp name (Rename from to) = (from ≡ temp) × (to ≡ name)
IsSaveOf temp name SyncDir = ⊤
IsSaveOf temp name action = ⊥

-- The calls after a file of so many bytes was written and synced.
abbrev pub calls_to_write : Name → ℕ → Option (List Action) → Option (List Action)
calls_to_write temp count calls =
    with_call (Sync temp) (with_call (Append temp count) (with_call (Create temp) calls))

-- The calls after a file was put in the place of another.
abbrev pub calls_to_publish : Name → Name → Option (List Action) → Option (List Action)
calls_to_publish temp name calls = with_call SyncDir (with_call (Rename temp name) calls)
