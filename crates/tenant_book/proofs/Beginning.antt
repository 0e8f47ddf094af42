-- What was seen of a history begins it.
use Rattle.std.proofs.Common.{◌≡◌, ℕ, zero, suc, ◌≤◌, ◌<◌, ◌+◌, ◌-◌, List, [], ◌∷◌, ◌++◌, length, ap, sym, subst, ◌∙◌, arith, length-append, refl}
use Rattle.std.specs.Prelude.{Contains, slice_index_or}
use Rattle.std.proofs.lemmas.List.{get_or_push}
use mathlib.Core.List.{IsPrefix}
use Rattle.job_language.specs.declared.tenants.Tenant.{Tenant}
use Rattle.tenant_record.specs.Cell.{CellData}
use Rattle.tenant_book.specs.Fronts.{AreMoments, BeginsIn, Finds, FrontData, GoesOn, IsLast}
use Rattle.tenant_book.proofs.Fronts.{prefix_at, prefix_length}
use Rattle.tenant_book.proofs.Moments.{goes_far}

-- Each moment goes on to the last one.
reaches_last : (config : Tenant) (log : List CellData) (c : CellData) → AreMoments config log → IsLast log c → (k : ℕ) (z : CellData) → k < length log → GoesOn (slice_index_or log k z) c
reaches_last config log c are last k z low =
    let long : length log ≡ length last.0 + 1 = ap length last.1 ∙ length-append last.0 (c ∷ []) in
    let more : ℕ = length last.0 - k in
    let there : k + more ≡ length last.0 = omega (arith, long, low) in
    let here : slice_index_or log (k + more) z ≡ c = rw (there, last.1) (get_or_push last.0 c z (length last.0) refl) in
    subst (λ (d : CellData). GoesOn (slice_index_or log k z) d) here (goes_far config log are k more z (omega (arith, long, low, there)))

-- What is shown of a cell was begun by what had been seen.
pub begins_there : (seen now : FrontData) (c : CellData) → Finds seen now c → AreMoments now.config now.log → BeginsIn seen c.history
begins_there seen now c finds are d is =
    let all : now.log ≡ finds.logged ++ c ∷ [] = ap (λ (f : FrontData). f.log) finds.ends in
    let pre : IsPrefix seen.log now.log = subst (λ (log : List CellData). IsPrefix seen.log log) (sym all) finds.goes_on in
    let k = is.0 in
    let same : slice_index_or seen.log k d ≡ slice_index_or now.log k d = prefix_at seen.log now.log k d pre is.1 in
    let goes = reaches_last now.config now.log c are (finds.logged, all) k d (omega (arith, is.1, prefix_length seen.log now.log pre)) in
    subst (λ (x : CellData). IsPrefix x.history c.history) (sym same ∙ is.2) goes.history
