-- A folder on which the requests of a save were carried out.
use Rattle.std.proofs.Common.{◌≡◌, ◌≢◌, ◌⊎◌, ℕ, ◌<◌, List, [], ◌∷◌, ◌++◌, map, refl, sym, subst, append_assoc, inl, inr}
use Rattle.std.specs.Prelude.{Option, Some, None, IfSome}
use Rattle.std.specs.List.{concat}
use Rattle.std.proofs.lemmas.List.{append-nil}
use Rattle.host_io.specs.Disk.{Disk, after_append, after_create, after_rename, after_sync, after_sync_dir, appended, created, synced}
use Rattle.host_io.specs.Past.{Past, AfterFault, Always, after}
use Rattle.host_io.specs.PerName.{under}
use Rattle.host_io.specs.declared.name.Name.{Name}
use Rattle.save_store.specs.Job.{ReadsAs}
use Rattle.save_store.specs.Saves.{IsStored, KeepsOthers, PublishesOrNot}
use Rattle.save_store.proofs.Published.{moved_and_synced, moved_only, not_renamed, not_written, stored, written_first}
use Rattle.save_store.proofs.Temp.{appended_reads, changed, created_reads, failed, failed_append, is_synced, unchanged}
use Rattle.save_requests.specs.Requests.{AreCarriedOut, IsSafeSave, after_all, ask_append, ending, pieces, save_requests}
use Rattle.save_requests.proofs.Pieces.{whole}

-- to stop is to fail without a change
no_change : (partly : Disk → Disk → Type 0) (old new : Option Past) → new ≡ old → AfterFault partly old new
no_change partly None new is = is
no_change partly (Some past) new is = inl is

stops : (partly : Disk → Disk → Type 0) (old new : Option Past) → (new ≡ old) ⊎ AfterFault partly old new → AfterFault partly old new
stops partly old new how = elim how [
  | inl is ↦ no_change partly old new is
  | inr fault ↦ fault
]

module _ (temp name : Name) (apart : temp ≢ name) where
  -- after the last piece
  ended : (bytes : List ℕ) (old mid new : Option Past) → Always old mid (KeepsOthers temp) → ReadsAs temp bytes mid
      → AreCarriedOut temp name ending mid new → Always old new (PublishesOrNot temp name bytes)
  ended bytes old mid new so_far reads carried =
      let two = after (after_sync temp) mid in
      let safe = is_synced temp bytes mid two reads refl in
      let kept = changed temp (λ d. synced (under d temp)) old mid two so_far refl in
      let three = after (after_rename temp name) two in
      elim carried [
        | inl is ↦ not_written temp name bytes old new apart
            (failed temp (λ d. synced (under d temp)) old mid new so_far (no_change _ mid new is))
        | inr (inl fault) ↦ not_written temp name bytes old new apart
            (failed temp (λ d. synced (under d temp)) old mid new so_far fault)
        | inr (inr (inl is)) ↦ written_first temp name bytes old two new apart kept
            (not_renamed temp name bytes two new apart safe (no_change _ two new is))
        | inr (inr (inr (inl fault))) ↦ written_first temp name bytes old two new apart kept
            (not_renamed temp name bytes two new apart safe fault)
        | inr (inr (inr (inr (inl is)))) ↦ written_first temp name bytes old two new apart kept
            (moved_only temp name bytes two three new apart safe refl (no_change _ three new is))
        | inr (inr (inr (inr (inr (inl fault))))) ↦ written_first temp name bytes old two new apart kept
            (moved_only temp name bytes two three new apart safe refl fault)
        | inr (inr (inr (inr (inr (inr is))))) ↦ written_first temp name bytes old two new apart kept
            (moved_and_synced temp name bytes two three new apart safe refl is)
      ]

  -- from a piece on
  appending : (ps : List (List ℕ)) (written : List ℕ) (old mid new : Option Past) → Always old mid (KeepsOthers temp)
      → ReadsAs temp written mid → AreCarriedOut temp name (map ask_append ps ++ ending) mid new
      → Always old new (PublishesOrNot temp name (written ++ concat ps))
  appending [] written old mid new so_far reads carried =
      subst (λ bytes. Always old new (PublishesOrNot temp name bytes)) (sym (append-nil written))
      (ended written old mid new so_far reads carried)
  appending (p ∷ ps) written old mid new so_far reads carried = elim carried [
    | inl is ↦ not_written temp name (written ++ concat (p ∷ ps)) old new apart
        (failed_append temp p old mid new so_far (no_change _ mid new is))
    | inr (inl fault) ↦ not_written temp name (written ++ concat (p ∷ ps)) old new apart
        (failed_append temp p old mid new so_far fault)
    | inr (inr more) ↦
        let next = after (after_append temp p) mid in
        subst (λ bytes. Always old new (PublishesOrNot temp name bytes)) (append_assoc written p (concat ps))
        (appending ps (written ++ p) old next new
        (changed temp (λ d. appended p (under d temp)) old mid next so_far refl)
        (appended_reads temp written p mid next reads refl) more)
  ]

  begun : (max : ℕ) (bytes : List ℕ) → 0 < max → (old new : Option Past)
      → AreCarriedOut temp name (save_requests max bytes) old new → Always old new (PublishesOrNot temp name bytes)
  begun max bytes some old new carried = elim carried [
    | inl is ↦ not_written temp name bytes old new apart
        (failed temp (λ _. created) old old new (unchanged temp old) (no_change _ old new is))
    | inr (inl fault) ↦ not_written temp name bytes old new apart
        (failed temp (λ _. created) old old new (unchanged temp old) fault)
    | inr (inr more) ↦
        let next = after (after_create temp) old in
        subst (λ all. Always old new (PublishesOrNot temp name all)) (whole max bytes some)
        (appending (pieces max bytes) [] old next new
        (changed temp (λ _. created) old old next (unchanged temp old) refl)
        (created_reads temp old next refl) more)
  ]

  -- ALL OF THEM

  last : (bytes : List ℕ) (mid : Option Past) → ReadsAs temp bytes mid
      → IfSome (after_all temp name ending mid) (λ p. IsStored name bytes p.now)
  last bytes mid reads =
      let two = after (after_sync temp) mid in let three = after (after_rename temp name) two in
      stored temp name bytes two three (after after_sync_dir three) apart (is_synced temp bytes mid two reads refl) refl refl

  pieces_done : (ps : List (List ℕ)) (written : List ℕ) (mid : Option Past) → ReadsAs temp written mid
      → IfSome (after_all temp name (map ask_append ps ++ ending) mid) (λ p. IsStored name (written ++ concat ps) p.now)
  pieces_done [] written mid reads =
      subst (λ bytes. IfSome (after_all temp name ending mid) (λ p. IsStored name bytes p.now)) (sym (append-nil written))
      (last written mid reads)
  pieces_done (p ∷ ps) written mid reads =
      let next = after (after_append temp p) mid in
      subst (λ bytes. IfSome (after_all temp name (map ask_append ps ++ ending) next) (λ q. IsStored name bytes q.now))
      (append_assoc written p (concat ps))
      (pieces_done ps (written ++ p) next (appended_reads temp written p mid next reads refl))

  all_done : (max : ℕ) (bytes : List ℕ) → 0 < max → (old : Option Past)
      → IfSome (after_all temp name (save_requests max bytes) old) (λ p. IsStored name bytes p.now)
  all_done max bytes some old =
      let next = after (after_create temp) old in
      subst (λ all. IfSome (after_all temp name (map ask_append (pieces max bytes) ++ ending) next) (λ p. IsStored name all p.now))
      (whole max bytes some)
      (pieces_done (pieces max bytes) [] next (created_reads temp old next refl))

pub is_safe_save : (max : ℕ) (bytes : List ℕ) → 0 < max → IsSafeSave bytes (save_requests max bytes)
is_safe_save max bytes some temp name apart = record {
  any_moment = begun temp name apart max bytes some;
  stored = all_done temp name apart max bytes some;
}
