-- Settling by dropping rows one at a time, in any order.
use Rattle.std.proofs.Common.{◌≡◌, ℕ, ◌≤◌, length, true, false, ◌⊎◌, refl, sym, ap, ◌∙◌, arith, inl, inr}
use Rattle.std.proofs.lemmas.Bool.{cases_eq}
use Rattle.tenant_model.specs.declared.rows.Phase.TheVariants.{Dropped}
use Rattle.tenant_model.specs.declared.rows.Row.{Row}
use Rattle.tenant_model.specs.State.{State, row, with_at_number}
use Rattle.tenant_model.specs.Walks.{is_unstarted, is_context_cancelled, settle}
use Rattle.tenant_model.specs.Changes.{on_row}
use Rattle.tenant_model.proofs.Changed.{row-with_same, row-with_other, row-past, length-with}
use Rattle.tenant_model.proofs.Within.{either_way}
use Rattle.tenant_model.proofs.Settling.{settled_at, settle-from}

-- t is s with some of its rows settled
pub record Drops (s t : State) : Type 0 where
  pub rest : t ≡ record s { rows = t.rows }
  pub long : length t.rows ≡ length s.rows
  pub each : (n : ℕ) → (row t.rows n ≡ row s.rows n) ⊎ (row t.rows n ≡ settled_at s n)

pub Drops-none : (s : State) → Drops s s
Drops-none s = record { rest = refl; long = refl; each = λ n. inl refl }

abbrev pub dropped : State → ℕ → State
dropped t n = on_row t n (λ r. record r { phase = Dropped })

-- One more row that waits is dropped, whose context was cancelled in s.
pub Drops-more : (s t : State) (n : ℕ) → 1 ≤ n → n ≤ length s.rows → is_unstarted (row t.rows n).phase ≡ true → row t.rows n ≡ row s.rows n → is_context_cancelled s n ≡ true → Drops s t →
    Drops s (dropped t n)
Drops-more s t n from to waits same cancelled drops =
    let r : Row = record (row t.rows n) { phase = Dropped } in
    record {
      rest = ap (λ (u : State). record u { rows = with_at_number t.rows n r }) drops.rest;
      long = length-with t.rows n r ∙ drops.long;
      each = λ m. elim (cases_eq m n) [
        | inl here ↦
            let waits_s : is_unstarted (row s.rows n).phase ≡ true = rw same at waits in
            inr (rw here (row-with_same t.rows n r from (omega (arith, drops.long)) ∙ rw (same, cancelled, waits_s) refl))
        | inr other ↦ elim (drops.each m) [
          | inl stays ↦ inl (row-with_other t.rows n m r from other ∙ stays)
          | inr went ↦ inr (row-with_other t.rows n m r from other ∙ went)
        ]
      ];
    }

-- Where no row waits any more whose context was cancelled, the state has settled.
pub Drops-all : (s t : State) → Drops s t → ((n : ℕ) → is_unstarted (row t.rows n).phase ≡ true → is_context_cancelled s n ≡ false) → t ≡ settle s
Drops-all s t drops none =
    let here : (n : ℕ) → row t.rows n ≡ settled_at s n = λ n. elim (drops.each n) [
      | inr went ↦ went
      | inl stays ↦ elim (either_way (is_unstarted (row s.rows n).phase)) [
        | inl waits ↦ let fine : is_context_cancelled s n ≡ false = none n (rw stays waits) in stays ∙ rw (fine, waits) refl
        | inr does_not ↦ stays ∙ rw does_not refl
      ]
    ] in
    settle-from s t (record {
      rest = drops.rest;
      long = drops.long;
      before = λ n below. here n;
      after = λ n above. row-past t.rows n (omega (arith, above, drops.long)) ∙ sym (row-past s.rows n above);
    })
