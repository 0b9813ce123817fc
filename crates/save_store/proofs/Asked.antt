-- Which calls of a folder a save makes.
use Rattle.std.proofs.Common.{◌≡◌, List, refl, inl, ℕ}
use Rattle.std.specs.Prelude.{Option, Result, OnOk, OnErr}
use Rattle.host_io.specs.Calls.{IsSaveOf, MayAddCall, OnlyCalls, with_call}
use Rattle.host_io.specs.declared.call.Action.{Action}
use Rattle.host_io.specs.declared.call.Action.TheVariants.{Append, Create, Rename, Sync, SyncDir}
use Rattle.host_io.specs.declared.name.Name.{Name}
use Rattle.host_io.proofs.Asking.{joined, one, whichever}

module _ (temp name : Name) where
  pub create_err : (a b : Option (List Action)) → MayAddCall (Create temp) a b
      → OnlyCalls (IsSaveOf temp name) a b
  create_err a b is = one (IsSaveOf temp name) (Create temp) a b refl is

  pub create_ok : (a b : Option (List Action)) → b ≡ with_call (Create temp) a
      → OnlyCalls (IsSaveOf temp name) a b
  create_ok a b is = create_err a b (inl is)

  pub append_err : (n : ℕ) (a b : Option (List Action)) → MayAddCall (Append temp n) a b
      → OnlyCalls (IsSaveOf temp name) a b
  append_err n a b is = one (IsSaveOf temp name) (Append temp n) a b refl is

  pub append_ok : (n : ℕ) (a b : Option (List Action)) → b ≡ with_call (Append temp n) a
      → OnlyCalls (IsSaveOf temp name) a b
  append_ok n a b is = append_err n a b (inl is)

  pub sync_by : {T E : Type 0} (r : Result T E) (a b : Option (List Action))
      → OnOk r (b ≡ with_call (Sync temp) a) → OnErr r (MayAddCall (Sync temp) a b)
      → OnlyCalls (IsSaveOf temp name) a b
  sync_by r a b ok err =
      one (IsSaveOf temp name) (Sync temp) a b refl (whichever r (Sync temp) a b ok err)

  pub rename_err : (a b : Option (List Action)) → MayAddCall (Rename temp name) a b
      → OnlyCalls (IsSaveOf temp name) a b
  rename_err a b is = one (IsSaveOf temp name) (Rename temp name) a b (refl, refl) is

  pub rename_ok : (a b : Option (List Action)) → b ≡ with_call (Rename temp name) a
      → OnlyCalls (IsSaveOf temp name) a b
  rename_ok a b is = rename_err a b (inl is)

  pub sync_dir_by : {T E : Type 0} (r : Result T E) (a b : Option (List Action))
      → OnOk r (b ≡ with_call SyncDir a) → OnErr r (MayAddCall SyncDir a b)
      → OnlyCalls (IsSaveOf temp name) a b
  sync_dir_by r a b ok err =
      one (IsSaveOf temp name) SyncDir a b tt (whichever r SyncDir a b ok err)

  pub then : (a b c : Option (List Action)) → OnlyCalls (IsSaveOf temp name) a b
      → OnlyCalls (IsSaveOf temp name) b c → OnlyCalls (IsSaveOf temp name) a c
  then = joined (IsSaveOf temp name)
