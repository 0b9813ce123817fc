-- Definitions for private contracts.
use Rattle.std.specs.Prelude.{ℕ, List, [], ◌∷◌, ◌++◌, map, take, Option, Some, None, ◌==◌, if◌then◌else◌}
use Rattle.save_requests.specs.Requests.{Request, ask, ask_append, ending, pieces, save_requests}
use Rattle.save_requests.specs.declared.requests.SaveRequest.{SaveRequest}
use Rattle.save_requests.specs.declared.requests.SaveRequest.TheVariants as request
use Rattle.save_requests.specs.declared.requests.Stage.{Stage}
use Rattle.save_requests.specs.declared.requests.Stage.TheVariants.{Create, Append, Sync, Rename, SyncDir, Saved}

-- what is asked for from a stage on, with the bytes that are not yet appended
abbrev pub left_at : Stage → ℕ → List ℕ → List Request
left_at Create max bytes = save_requests max bytes
left_at Append max bytes = map ask_append (pieces max bytes) ++ ending
left_at Sync max bytes = ending
left_at Rename max bytes = ask request.Rename ∷ ask request.SyncDir ∷ []
left_at SyncDir max bytes = ask request.SyncDir ∷ []
left_at Saved max bytes = []

-- What is asked for at a stage; nothing once it is saved.
abbrev pub asked_at : Stage → Option SaveRequest
asked_at Create = Some request.Create
asked_at Append = Some request.Append
asked_at Sync = Some request.Sync
asked_at Rename = Some request.Rename
asked_at SyncDir = Some request.SyncDir
asked_at Saved = None

-- the stage after one, with this many bytes that are not yet appended
abbrev pub stage_after : Stage → ℕ → Stage
stage_after Create left = if left == 0 then Sync else Append
stage_after Append left = if left == 0 then Sync else Append
stage_after Sync left = Rename
stage_after Rename left = SyncDir
stage_after SyncDir left = Saved
stage_after Saved left = Saved

-- what is appended at a stage, of the bytes that are not yet appended
abbrev pub piece_at : Stage → ℕ → List ℕ → List ℕ
piece_at Append max bytes = take max bytes
piece_at stage max bytes = []
