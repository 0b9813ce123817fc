-- What the calls on a save return, write and leave.
use Rattle.std.specs.Prelude.{◌≡◌, ◌⊎◌, ◌<◌, ℕ, List, [], ◌∷◌, drop, Bool, true, false, Option, Some, None}
use Rattle.table_machine.specs.State.{State}
use Rattle.table_machine.specs.Snapshot.{snapshot_of}
use Rattle.peers_file.specs.Texts.{file_text}
use Rattle.peers_file.specs.declared.chain.Chain.{Chain}
use Rattle.save_requests.specs.Requests.{Request, IsSafeSave, save_requests}
use Rattle.save_requests.specs.declared.requests.SaveRequest.{SaveRequest}
use Rattle.save_requests.specs.declared.requests.SaveRequest.TheVariants.{Create, Append, Sync, Rename, SyncDir}
use Rattle.c_values.specs.declared.code.TheConstants.{OK, CLOSED, MEMORY, ARGUMENT, NONE}
use Rattle.c_handles.specs.declared.save_handle.KeptSave.{KeptSave}
use Rattle.c_values.specs.Values.{IsPut}

-- A closed handle stays closed. An open one is closed if nothing is left to do: a save that is over
-- keeps no memory. Else its requests stay as they were, and are as the call says.
abbrev pub OnSave : Option KeptSave → ℕ → Option KeptSave → (List Request → Type 0) → Type 0
OnSave None code new Call = (code ≡ CLOSED) × (new ≡ None)
OnSave (Some kept) code None Call = (code ≡ NONE) × (kept.requests ≡ [])
OnSave (Some kept) code (Some after) Call =
    (after.requests ≡ kept.requests) × Call kept.requests

-- The requests of a save of these bytes. A folder on which they are carried out keeps what a save
-- promises.
abbrev pub IsBegun : ℕ → List ℕ → List Request → Type 0
IsBegun most bytes requests =
    (requests ≡ save_requests most bytes) × IsSafeSave bytes requests

-- a save of the tables is begun, or the handle of the save is closed; None is no chain
abbrev pub BeginCall : Option Chain → ℕ → State → ℕ → Option KeptSave → Type 0
BeginCall None most st code new = (code ≡ ARGUMENT) × (new ≡ None)
BeginCall (Some chain) most st code None =
    ((code ≡ ARGUMENT) × (most ≡ 0)) ⊎ ((code ≡ MEMORY) × (0 < most))
BeginCall (Some chain) most st code (Some kept) =
    (code ≡ OK) × IsBegun most (file_text chain (snapshot_of st)) kept.requests

-- the number of a request in the header
abbrev pub request_number : SaveRequest → ℕ
request_number Create = 0
request_number Append = 1
request_number Sync = 2
request_number Rename = 3
request_number SyncDir = 4

-- the code and the outputs for the first of the requests, of which there is one
abbrev pub NextCall : ℕ → ℕ → List ℕ → List ℕ → ℕ → List Request → Type 0
NextCall code request old new count [] = ⊥
NextCall code request old new count (first ∷ rest) =
    (request ≡ request_number first.what) × IsPut first.bytes old code count new

-- it was carried out, or failed, which closes the handle
abbrev pub DoneCall : Bool → Option KeptSave → ℕ → Option KeptSave → Type 0
DoneCall succeeded None code new = (code ≡ CLOSED) × (new ≡ None)
DoneCall false (Some kept) code new = (code ≡ OK) × (new ≡ None)
DoneCall true (Some kept) code None = ⊥
DoneCall true (Some kept) code (Some after) =
    (code ≡ OK) × (after.requests ≡ drop 1 kept.requests)
