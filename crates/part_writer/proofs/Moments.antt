-- What one call of a file leaves at any moment.
use Rattle.std.proofs.Common.{ℕ, List, inl, inr, ⊎_elim, arith}
use Rattle.part_writer.specs.Moments.{Elapses, LeavesOnly}

module _ {F : Type 0} (moment : F → ℕ) (left_since : F → ℕ → List ℕ → Type 0) (old new : F) (P : List ℕ → Type 0) (first : (file : List ℕ) → left_since old (moment old) file → P file) where
  -- without a call
  pub no_call : LeavesOnly moment left_since old old P
  no_call = record { later = omega arith; each = first; before = λ t file le left. inl left }

  -- after one
  pub one_call : (may_leave : List ℕ → Type 0) → Elapses (moment old) (moment new) (left_since old) (left_since new) may_leave → ((file : List ℕ) → may_leave file → P file) →
      LeavesOnly moment left_since old new P
  one_call may_leave time then = record {
    later = time.later;
    each = λ file left. ⊎_elim (first file) (then file) (time.nothing_else (moment old) file (omega arith) left);
    before = λ t file le left. ⊎_elim (λ past. inl past) (λ now. inr (then file now)) (time.nothing_else t file le left);
  }
