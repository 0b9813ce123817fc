-- What a run leaves as it was, by what the arguments ask for. That no call was made is an equation
-- of an object that counts its calls.
use Rattle.std.specs.Prelude.{◌≡◌, ℕ, List, ⊤}
use Rattle.arguments.specs.Table.{Asks}
use Rattle.arguments.specs.declared.request.Request.{Request}
use Rattle.arguments.specs.declared.request.Request.TheVariants.{Replay, Opener, Limit, LookupLines, AddressLines, RiskLines, FromRaw, Gen, Trial, Help, Version}
use Rattle.addrman_run.specs.declared.status.Status.{Status}
use Rattle.addrman_run.specs.declared.status.Status.TheVariants.{Usage}

-- the commands that read no log
abbrev pub ReadsNoLog : Request → Type 0
ReadsNoLog (Replay key kind) = ⊥
ReadsNoLog (Opener rules key kind) = ⊥
ReadsNoLog Limit = ⊥
ReadsNoLog LookupLines = ⊥
ReadsNoLog AddressLines = ⊥
ReadsNoLog (RiskLines kind) = ⊥
ReadsNoLog (FromRaw key kind) = ⊥
ReadsNoLog other = ⊤

-- the commands that ask the folder for nothing
abbrev pub AsksNoFolder : Request → Type 0
AsksNoFolder Limit = ⊤
AsksNoFolder (Gen start lines) = ⊤
AsksNoFolder (Trial start lines) = ⊤
AsksNoFolder (Help command) = ⊤
AsksNoFolder Version = ⊤
AsksNoFolder other = ⊥

-- Log, folder and output are as they were if the arguments ask for nothing; so are the log of a
-- command that reads none, and the folder of one that asks it for nothing.
pub record LeavesRest {L F K : Type 0} (words : List (List ℕ)) (answer : Status)
    (old_log new_log : L) (old_folder new_folder : F) (old_out new_out : K) : Type 0 where
  pub usage : answer ≡ Usage → (new_log ≡ old_log) × (new_folder ≡ old_folder) × (new_out ≡ old_out)
  pub log : (request : Request) → Asks words request → ReadsNoLog request → new_log ≡ old_log
  pub folder : (request : Request) → Asks words request → AsksNoFolder request →
      new_folder ≡ old_folder

-- the status is `Usage` exactly when the arguments ask for nothing
abbrev pub TellsUsage : List (List ℕ) → Status → Type 0
TellsUsage words Usage = (request : Request) → ¬ Asks words request
TellsUsage words other = (request : Request) × Asks words request
