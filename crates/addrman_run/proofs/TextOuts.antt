-- How a command ends that writes a text about files of the folder.
use Rattle.std.proofs.Common.{ℕ, List, refl, sym, subst, inl, inr}
use Rattle.std.specs.Prelude.{Option}
use Rattle.host_io.specs.Past.{Past}
use Rattle.peers_file.specs.declared.chain.Chain.{Chain}
use Rattle.addrman_run.specs.Asmaps.{IsNoMap, ReportsAsmap}
use Rattle.addrman_run.specs.Inside.{IsNoListing, IsNoTables, LineEnds}
use Rattle.addrman_run.specs.Listing.{ReportsListing}
use Rattle.addrman_run.specs.Opening.{ReportsTables}
use Rattle.addrman_run.specs.TextOut.{TextOut}
use Rattle.addrman_run.specs.declared.status.Status.{Status}
use Rattle.addrman_run.specs.declared.status.Status.TheVariants.{Done, WriteFault, DiskFault, Memory}

-- no tables were opened
pub unopened_out : (IsText : Option Past → List ℕ → Type 0) (chain : Chain) (past : Option Past) (written : Option (List ℕ)) (status : Status)
    → IsNoTables chain past status → TextOut IsText (ReportsTables chain) past written written status
unopened_out IsText chain past written Done why = absurd why
unopened_out IsText chain past written WriteFault why = absurd why
unopened_out IsText chain past written DiskFault why = refl
unopened_out IsText chain past written Memory why = refl
unopened_out IsText chain past written other why = (why, refl)

-- no listing was opened
pub unlisted_out : (IsText : Option Past → List ℕ → Type 0) (past : Option Past) (written : Option (List ℕ)) (status : Status)
    → IsNoListing past status → TextOut IsText ReportsListing past written written status
unlisted_out IsText past written Done why = absurd why
unlisted_out IsText past written WriteFault why = absurd why
unlisted_out IsText past written DiskFault why = refl
unlisted_out IsText past written Memory why = refl
unlisted_out IsText past written other why = (why, refl)

-- the folder's asmap was not loaded
pub unmapped_out : (IsText : Option Past → List ℕ → Type 0) (past : Option Past) (written : Option (List ℕ)) (status : Status)
    → IsNoMap past status → TextOut IsText ReportsAsmap past written written status
unmapped_out IsText past written Done why = absurd why
unmapped_out IsText past written WriteFault why = absurd why
unmapped_out IsText past written DiskFault why = refl
unmapped_out IsText past written Memory why = refl
unmapped_out IsText past written other why = (why, refl)

-- the text was written, or a part of it
pub text_out : (IsText : Option Past → List ℕ → Type 0) (Refuses : Option Past → Status → Type 0) (past : Option Past) (text : List ℕ) (old new : Option (List ℕ)) (status : Status)
    → IsText past text → LineEnds text old new status → TextOut IsText Refuses past old new status
text_out IsText Refuses past text old new status is (inl whole) = subst (TextOut IsText Refuses past old new) (sym whole.0) (text, is, whole.1)
text_out IsText Refuses past text old new status is (inr part) = subst (TextOut IsText Refuses past old new) (sym part.0) (text, is, part.1)

-- what is so of each text is so of the one that was written
pub text_so : (IsText IsSo : Option Past → List ℕ → Type 0) (Refuses : Option Past → Status → Type 0) (past : Option Past) (old new : Option (List ℕ)) (status : Status)
    → ((text : List ℕ) → IsText past text → IsSo past text) → TextOut IsText Refuses past old new status → TextOut IsSo Refuses past old new status
text_so IsText IsSo Refuses past old new Done so out = (out.0, so out.0 out.1, out.2)
text_so IsText IsSo Refuses past old new WriteFault so out = (out.0, so out.0 out.1, out.2)
text_so IsText IsSo Refuses past old new DiskFault so out = out
text_so IsText IsSo Refuses past old new Memory so out = out
text_so IsText IsSo Refuses past old new other so out = out
