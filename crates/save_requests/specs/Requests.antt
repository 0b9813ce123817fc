-- What a save asks of a folder, in order, and what a folder is on which that was carried out.
use Rattle.std.specs.Prelude.{◌≡◌, ◌≢◌, ◌⊎◌, ℕ, zero, suc, List, [], ◌∷◌, ◌++◌, map, take, drop, length, Option, Some, None, IfSome}
use Rattle.host_io.specs.Disk.{Disk, Partly, PartlyAppended, after_create, after_append, after_sync, after_rename, after_sync_dir}
use Rattle.host_io.specs.Past.{Past, AfterFault, Always, after}
use Rattle.host_io.specs.declared.name.Name.{Name}
use Rattle.save_store.specs.Saves.{PublishesOrNot, IsStored}
use Rattle.save_requests.specs.declared.requests.SaveRequest.{SaveRequest}
use Rattle.save_requests.specs.declared.requests.SaveRequest.TheVariants.{Create, Append, Sync, Rename, SyncDir}

-- what to do, and the bytes to append, if it is that
pub record Request : Type 0 where
  pub what : SaveRequest
  pub bytes : List ℕ

-- The request to do this, without bytes.
abbrev pub ask : SaveRequest → Request
ask what = record { what = what; bytes = [] }

-- The request to append these bytes.
abbrev pub ask_append : List ℕ → Request
ask_append bytes = record { what = Append; bytes = bytes }

-- The bytes in pieces of this many, of which the last may be shorter. There are not more pieces
-- than the first number.
abbrev pub pieces_up_to : ℕ → ℕ → List ℕ → List (List ℕ)
pieces_up_to zero max bytes = []
pieces_up_to (suc n) max [] = []
pieces_up_to (suc n) max (b ∷ bytes) =
    take max (b ∷ bytes) ∷ pieces_up_to n max (drop max (b ∷ bytes))

-- The bytes in pieces of at most this many.
abbrev pub pieces : ℕ → List ℕ → List (List ℕ)
pieces max bytes = pieces_up_to (length bytes) max bytes

-- what comes after the last piece
abbrev pub ending : List Request
ending = ask Sync ∷ ask Rename ∷ ask SyncDir ∷ []

-- the requests of a save
abbrev pub save_requests : ℕ → List ℕ → List Request
save_requests max bytes = ask Create ∷ (map ask_append (pieces max bytes) ++ ending)

-- the first of the requests
abbrev pub next_of : List Request → Option SaveRequest
next_of [] = None
next_of (request ∷ requests) = Some request.what

-- the bytes that the first one appends
abbrev pub piece_of : List Request → List ℕ
piece_of [] = []
piece_of (request ∷ requests) = request.bytes

-- WHAT A FOLDER IS AFTERWARDS

-- a request that was carried out
abbrev pub effect : Name → Name → SaveRequest → List ℕ → Disk → Disk
effect temp name Create bytes = after_create temp
effect temp name Append bytes = after_append temp bytes
effect temp name Sync bytes = after_sync temp
effect temp name Rename bytes = after_rename temp name
effect temp name SyncDir bytes = after_sync_dir

-- one that failed
abbrev pub Failure : Name → Name → SaveRequest → List ℕ → Disk → Disk → Type 0
Failure temp name Append bytes = PartlyAppended temp bytes
Failure temp name what bytes = Partly (effect temp name what bytes)

-- the folder after a request that was carried out, with the temporary name and the file's
abbrev pub after_request : Name → Name → Request → Option Past → Option Past
after_request temp name request past = after (effect temp name request.what request.bytes) past

-- the folder after all of them
abbrev pub after_all : Name → Name → List Request → Option Past → Option Past
after_all temp name [] past = past
after_all temp name (request ∷ requests) past =
    after_all temp name requests (after_request temp name request past)

-- The requests were carried out in order, until one failed or the caller stopped.
abbrev pub AreCarriedOut : Name → Name → List Request → Option Past → Option Past → Type 0
AreCarriedOut temp name [] old new = new ≡ old
AreCarriedOut temp name (request ∷ requests) old new =
    (new ≡ old)
    ⊎ (AfterFault (Failure temp name request.what request.bytes) old new
    ⊎ AreCarriedOut temp name requests (after_request temp name request old) new)

-- Until all of them are carried out, a crash leaves the file as it was or with these bytes; after
-- that, always with these bytes. Other files are as they were.
pub record KeepsPromise (temp name : Name) (bytes : List ℕ) (requests : List Request) : Type 0 where
  pub any_moment : (old new : Option Past) → AreCarriedOut temp name requests old new
      → Always old new (PublishesOrNot temp name bytes)
  pub stored : (old : Option Past)
      → IfSome (after_all temp name requests old) (λ p. IsStored name bytes p.now)

-- the same of any two names
abbrev pub IsSafeSave : List ℕ → List Request → Type 0
IsSafeSave bytes requests =
    (temp name : Name) → temp ≢ name → KeepsPromise temp name bytes requests
