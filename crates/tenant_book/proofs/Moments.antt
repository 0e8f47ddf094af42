-- The moments of a life, and one more.
use Rattle.std.proofs.Common.{◌≡◌, ℕ, zero, suc, ◌≤◌, ◌<◌, ◌+◌, List, [], ◌∷◌, ◌++◌, length, refl, ap, sym, subst, arith, inl, inr, length-append}
use Rattle.std.specs.Prelude.{All, slice_index_or}
use Rattle.std.proofs.lemmas.List.{get_or_append_left, get_or_push}
use Rattle.std.proofs.lemmas.List.Elements.{All-nil, All-append}
use Rattle.std.proofs.lemmas.Bool.{cases_eq}
use mathlib.Core.List.{IsPrefix}
use Rattle.job_language.specs.declared.tenants.Tenant.{Tenant}
use Rattle.tenant_record.specs.Cell.{CellData}
use Rattle.tenant_book.specs.Fronts.{AreMoments, GoesOn, IsLast, IsMoment}
use Rattle.tenant_book.proofs.Fronts.{prefix_self, prefix_trans}

pub no_moments : (config : Tenant) → AreMoments config []
no_moments config = record { each = All-nil (IsMoment config); go_on = λ k z low. absurd (omega (arith, low)) }

-- what stands at the end of a list is its last
last_at : (log : List CellData) (k : ℕ) (z : CellData) → k + 1 ≡ length log → IsLast log (slice_index_or log k z)
last_at [] k z at = absurd (omega (arith, at))
last_at (c ∷ []) zero z at = ([], refl)
last_at (c ∷ d ∷ log) zero z at = absurd (omega (arith, at))
last_at (c ∷ log) (suc k) z at = (let rest = last_at log k z (omega (arith, at)) in c ∷ rest.0, ap (λ ds. c ∷ ds) (last_at log k z (omega (arith, at))).1)

one_moment : (config : Tenant) (c : CellData) → IsMoment config c → All (IsMoment config) (c ∷ [])
one_moment config c is zero z low = is
one_moment config c is (suc k) z low = absurd (omega (arith, low))

-- A moment more, which goes on from the last one.
pub moments_more : (config : Tenant) (log : List CellData) (c : CellData) → AreMoments config log → IsMoment config c → ((d : CellData) → IsLast log d → GoesOn d c) → AreMoments config (log ++ c ∷ [])
moments_more config log c are is goes = record {
  each = All-append (IsMoment config) log (c ∷ []) are.each (one_moment config c is);
  go_on = λ k z low.
      let long = length-append log (c ∷ []) in
      let here : slice_index_or log k z ≡ slice_index_or (log ++ c ∷ []) k z = sym (get_or_append_left log (c ∷ []) z k (omega (arith, low, long))) in
      elim (cases_eq (k + 1) (length log)) [
        | inl last ↦
            let next : c ≡ slice_index_or (log ++ c ∷ []) (k + 1) z = sym (get_or_push log c z (k + 1) (sym last)) in
            subst (λ x. GoesOn x (slice_index_or (log ++ c ∷ []) (k + 1) z)) here (subst (λ x. GoesOn (slice_index_or log k z) x) next (goes _ (last_at log k z last)))
        | inr other ↦
            let within : k + 1 < length log = omega (arith, low, long, other) in
            let next : slice_index_or log (k + 1) z ≡ slice_index_or (log ++ c ∷ []) (k + 1) z = sym (get_or_append_left log (c ∷ []) z (k + 1) within) in
            subst (λ x. GoesOn x (slice_index_or (log ++ c ∷ []) (k + 1) z)) here (subst (λ x. GoesOn (slice_index_or log k z) x) next (are.go_on k z within))
      ];
}

pub goes_self : (c : CellData) → GoesOn c c
goes_self c = record { history = prefix_self c.history; tenant = refl; config = refl }

pub goes_far : (config : Tenant) (log : List CellData) → AreMoments config log → (i more : ℕ) (z : CellData) → i + more < length log → GoesOn (slice_index_or log i z) (slice_index_or log (i + more) z)
goes_far config log are i zero z low = subst (λ j. GoesOn (slice_index_or log i z) (slice_index_or log j z)) (omega arith) (goes_self (slice_index_or log i z))
goes_far config log are i (suc more) z low =
    let before = goes_far config log are i more z (omega (arith, low)) in
    let next = are.go_on (i + more) z (omega (arith, low)) in
    subst (λ j. GoesOn (slice_index_or log i z) (slice_index_or log j z)) (omega arith)
    (record {
      history = prefix_trans (slice_index_or log i z).history (slice_index_or log (i + more) z).history (slice_index_or log (i + more + 1) z).history before.history next.history;
      tenant = cc (before.tenant, next.tenant);
      config = cc (before.config, next.config);
    })
