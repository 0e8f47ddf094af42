-- Settling, a row at a time.
use Rattle.std.proofs.Common.{◌≡◌, ℕ, ◌+◌, ◌<◌, ◌≤◌, length, refl, sym, ap, ◌∙◌, arith, inl, inr, get_or}
use Rattle.std.specs.List.{enumerate_from}
use Rattle.std.proofs.lemmas.Bool.{cases_eq, cases_lt}
use Rattle.std.proofs.lemmas.List.{length-map, get_or-map, same_lists}
use Rattle.std.proofs.lemmas.List.FromFn.{length-enumerate_from, get_or-enumerate_from}
use Rattle.tenant_model.specs.declared.rows.Row.{Row}
use Rattle.tenant_model.specs.State.{State, row, with_at_number}
use Rattle.tenant_model.specs.Walks.{NumberedRow, is_context_cancelled, settled_row, settle}
use Rattle.tenant_model.proofs.Changed.{row-get_or, row-with_same, row-with_other, length-with}
use Rattle.tenant_model.proofs.Contexts.{SameContexts, is_context_cancelled-same}

-- the row of a number as it settles
abbrev pub settled_at : State → ℕ → Row
settled_at s n = settled_row (row s.rows n) (is_context_cancelled s n)

-- t is s with the first k rows settled
pub record SettledUpTo (s t : State) (k : ℕ) : Type 0 where
  pub rest : t ≡ record s { rows = t.rows }
  pub long : length t.rows ≡ length s.rows
  pub before : (n : ℕ) → n ≤ k → row t.rows n ≡ settled_at s n
  pub after : (n : ℕ) → k < n → row t.rows n ≡ row s.rows n

pub SettledUpTo-none : (s : State) → SettledUpTo s s 0
SettledUpTo-none s = record {
  rest = refl;
  long = refl;
  before = λ n none. let e : n ≡ 0 = omega arith in rw e refl;
  after = λ n above. refl;
}

-- Only phases have changed.
pub SettledUpTo-contexts : (s t : State) (k : ℕ) → SettledUpTo s t k → SameContexts s.rows t.rows
SettledUpTo-contexts s t k so_far = record {
  sources = record {
    long = so_far.long;
    kinds = λ n. elim (cases_lt k n) [
      | inl above ↦ ap (λ (r : Row). r.kind) (so_far.after n above)
      | inr below ↦ ap (λ (r : Row). r.kind) (so_far.before n below)
    ];
    jobs = λ n. elim (cases_lt k n) [
      | inl above ↦ ap (λ (r : Row). r.job) (so_far.after n above)
      | inr below ↦ ap (λ (r : Row). r.job) (so_far.before n below)
    ];
  };
  marks = λ n. elim (cases_lt k n) [
    | inl above ↦ ap (λ (r : Row). r.marks) (so_far.after n above)
    | inr below ↦ ap (λ (r : Row). r.marks) (so_far.before n below)
  ];
}

-- The next row settles as it would at first.
settled-next : (s t : State) (k : ℕ) → SettledUpTo s t k → settled_at t (k + 1) ≡ settled_at s (k + 1)
settled-next s t k so_far =
    let jobs : t.jobs ≡ s.jobs = ap (λ (u : State). u.jobs) so_far.rest in
    let same = is_context_cancelled-same s t (SettledUpTo-contexts s t k so_far) jobs (k + 1) in
    ap (λ is_cancelled. settled_row (row t.rows (k + 1)) is_cancelled) same ∙ ap (λ r. settled_row r (is_context_cancelled s (k + 1))) (so_far.after (k + 1) (omega arith))

pub SettledUpTo-more : (s t : State) (k : ℕ) → SettledUpTo s t k → k < length s.rows → SettledUpTo s (record t { rows = with_at_number t.rows (k + 1) (settled_at t (k + 1)) }) (k + 1)
SettledUpTo-more s t k so_far within = record {
  rest = ap (λ (u : State). record u { rows = with_at_number t.rows (k + 1) (settled_at t (k + 1)) }) so_far.rest;
  long = length-with t.rows (k + 1) (settled_at t (k + 1)) ∙ so_far.long;
  before = λ n below. elim (cases_eq n (k + 1)) [
    | inl same ↦ rw same (row-with_same t.rows (k + 1) (settled_at t (k + 1)) (omega arith) (omega (arith, so_far.long)) ∙ settled-next s t k so_far)
    | inr other ↦ row-with_other t.rows (k + 1) n (settled_at t (k + 1)) (omega arith) other ∙ so_far.before n (omega arith)
  ];
  after = λ n above. row-with_other t.rows (k + 1) n (settled_at t (k + 1)) (omega arith) (omega arith) ∙ so_far.after n (omega arith);
}

-- the rows that settled, by place
pub settle-get_or : (s : State) (k : ℕ) (d : Row) → k < length s.rows → get_or (settle s).rows k d ≡ settled_at s (k + 1)
settle-get_or s k d within =
    let f : NumberedRow → Row = λ p. settled_row p.1 (is_context_cancelled s p.0) in
    let number : 1 + k ≡ k + 1 = omega arith in
    let long : k < length (enumerate_from 1 s.rows) = omega (arith, length-enumerate_from 1 s.rows) in
    get_or-map f (enumerate_from 1 s.rows) k (0, d) d long ∙ ap f (get_or-enumerate_from 1 s.rows k (0, d) within) ∙
    ap (λ n. settled_row (get_or s.rows k d) (is_context_cancelled s n)) number ∙ ap (λ r. settled_row r (is_context_cancelled s (k + 1))) (row-get_or s.rows k d within)

-- All rows have settled.
pub settle-from : (s t : State) → SettledUpTo s t (length s.rows) → t ≡ settle s
settle-from s t so_far =
    let long : length t.rows ≡ length (settle s).rows = so_far.long ∙ sym (length-map (enumerate_from 1 s.rows) _ ∙ length-enumerate_from 1 s.rows) in
    let rows : t.rows ≡ (settle s).rows = same_lists t.rows (settle s).rows long (λ k d within.
    let there : k < length s.rows = omega (arith, so_far.long) in
    row-get_or t.rows k d within ∙ so_far.before (k + 1) (omega arith) ∙ sym (settle-get_or s k d there)) in
    so_far.rest ∙ ap (λ rows. record s { rows = rows }) rows
