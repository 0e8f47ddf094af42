-- One more slice of a history behind those that a journal was given.
use Rattle.std.specs.Prelude.{ℕ, suc, ◌≡◌, ◌+◌, List, length}
use Rattle.std.proofs.Common.{subst}
use Rattle.job_language.specs.declared.steps.Entry.{Entry}
use Rattle.tenant_book.specs.Fronts.{FrontData}
use Rattle.tenant_lock.specs.Under.{AreCopied, WasThere}
use Rattle.host_records.specs.declared.journals.TheConstants.{SLICE}
use Rattle.host_records.specs.Journals.{AreSlices}
use Rattle.term_life.specs.Spans.{capped}

pub one_more : (n tenant count from all : ℕ) (before es : List Entry) (seen now : FrontData)
    → AreSlices n tenant count before → from ≡ capped (count + length before)
    → WasThere tenant seen now (λ c. AreCopied from SLICE before es c × (all ≡ length c.history))
    → AreSlices (suc n) tenant count es
one_more n tenant count from all before es seen now are place was = (
  before,
  (
    are,
    record {
      seen = seen;
      now = now;
      was = record { cell = was.cell; own = was.own; front = was.front; right = was.right; is = subst (λ p. AreCopied p SLICE before es was.cell) place was.is.0 };
    },
  ),
)
