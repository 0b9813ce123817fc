-- The value of a name after another value was put under a name.
use Rattle.std.proofs.Common.{◌≡◌, refl}
use Rattle.std.specs.Prelude.{◌≢◌}
use Rattle.host_io.specs.PerName.{each, under, with}
use Rattle.host_io.specs.declared.name.Name.{Name}
use Rattle.host_io.specs.declared.name.Name.TheVariants.{Peers, PeersTemp, Asmap, AsmapTemp, AsmapOld, Prefixes, Bans, BansTemp}
use Rattle.host_io.specs.declared.name.PerName.{PerName}

pub under_same : {T : Type 0} (all : PerName T) (name : Name) (value : T)
    → under (with all name value) name ≡ value
under_same all Peers value = refl
under_same all other value = refl

pub under_each : {S T : Type 0} (f : S → T) (all : PerName S) (name : Name)
    → under (each f all) name ≡ f (under all name)
under_each f all Peers = refl
under_each f all other = refl

pub under_other : {T : Type 0} (all : PerName T) (name other : Name) (value : T) → other ≢ name
    → under (with all name value) other ≡ under all other
under_other all Peers Peers value apart = absurd (apart refl)
under_other all Peers other value apart = refl
under_other all PeersTemp PeersTemp value apart = absurd (apart refl)
under_other all PeersTemp other value apart = refl
under_other all Asmap Asmap value apart = absurd (apart refl)
under_other all Asmap other value apart = refl
under_other all AsmapTemp AsmapTemp value apart = absurd (apart refl)
under_other all AsmapTemp other value apart = refl
under_other all AsmapOld AsmapOld value apart = absurd (apart refl)
under_other all AsmapOld other value apart = refl
under_other all Prefixes Prefixes value apart = absurd (apart refl)
under_other all Prefixes other value apart = refl
under_other all Bans Bans value apart = absurd (apart refl)
under_other all Bans other value apart = refl
under_other all BansTemp BansTemp value apart = absurd (apart refl)
under_other all BansTemp other value apart = refl
