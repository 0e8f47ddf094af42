-- What a journal is given of its tenant's history.
use Rattle.std.specs.Prelude.{ℕ, zero, suc, ◌≡◌, ◌+◌, List, [], length}
use Rattle.job_language.specs.declared.steps.Entry.{Entry}
use Rattle.tenant_book.specs.Fronts.{FrontData}
use Rattle.tenant_lock.specs.Under.{AreCopied, WasThere}
use Rattle.term_life.specs.Spans.{capped}
use Rattle.host_records.specs.declared.journals.TheConstants.{SLICE}
use Rattle.host_records.specs.declared.journals.Written.{Written}

-- To entries, those were added that follow in the tenant's history at some moment from that place on, as many as a slice has.
pub record IsSlice (tenant from : ℕ) (old new : List Entry) : Type 0 where
  pub seen : FrontData
  pub now : FrontData
  pub was : WasThere tenant seen now (AreCopied from SLICE old new)

-- so many slices, one behind the other, the first of them behind that many entries
abbrev pub AreSlices : (slices tenant count : ℕ) → List Entry → Type 0
AreSlices zero tenant count es = es ≡ []
AreSlices (suc n) tenant count es = (before : List Entry) × (AreSlices n tenant count before × IsSlice tenant (capped (count + length before)) before es)

-- Slices were copied that follow those that the file has, which is as it was.
abbrev pub AreNext : {F : Type 0} → (tenant : ℕ) → Written F → Written F → Type 0
AreNext tenant old new = ((slices : ℕ) × AreSlices slices tenant old.count new.next.items) × (new.count ≡ old.count) × (new.part ≡ old.part)

-- The slices that follow those that the file had are at hand for it, and are counted as there.
abbrev pub AreWritten : {F : Type 0} → (tenant : ℕ) → Written F → Written F → Type 0
AreWritten tenant old new = ((slices : ℕ) × AreSlices slices tenant old.count new.next.items) × (new.count ≡ capped (old.count + length new.next.items))
