-- Changes that leave a state linked.
use Rattle.std.proofs.Common.{◌≡◌, ℕ, ◌+◌, ◌≤◌, List, [], ◌∷◌, ◌++◌, length, refl, sym, ap, ◌∙◌, arith, inl, inr, map}
use Rattle.std.specs.Prelude.{IfSome}
use Rattle.std.proofs.lemmas.Bool.{cases_eq, cases_lt}
use Rattle.std.proofs.lemmas.Option.{IfSome_then}
use Rattle.std.proofs.lemmas.List.{length_push, length-map}
use Rattle.tenant_model.specs.declared.rows.Kind.TheVariants.{Root}
use Rattle.tenant_model.specs.declared.works.Work.{Work}
use Rattle.tenant_model.specs.declared.rows.Row.{Row}
use Rattle.tenant_model.specs.State.{State, row, with_at_number}
use Rattle.tenant_model.specs.Walks.{maker_of}
use Rattle.tenant_model.specs.Linked.{IsLinked}
use Rattle.tenant_model.proofs.Changed.{row-with_same, row-with_other, row-push_old, row-push_new, row-past, row-map, length-with}

-- the rows of two lists have the same makers and jobs
pub record SameSources (a b : List Row) : Type 0 where
  pub long : length b ≡ length a
  pub kinds : (n : ℕ) → (row b n).kind ≡ (row a n).kind
  pub jobs : (n : ℕ) → (row b n).job ≡ (row a n).job

pub IsLinked-same : (s t : State) → SameSources s.rows t.rows → length t.jobs ≡ length s.jobs → t.epoch ≤ t.entries → IsLinked s → IsLinked t
IsLinked-same s t same jobs epoch linked = record {
  makers = λ n from to. rw same.kinds (linked.makers n from (omega (arith, same.long)));
  jobs = λ n from to. rw (same.jobs, jobs) (linked.jobs n from (omega (arith, same.long)));
  epoch = epoch;
}

-- a row changed, with the same maker and job
pub SameSources-set : (rows : List Row) (n : ℕ) (r : Row) → 1 ≤ n → n ≤ length rows → r.kind ≡ (row rows n).kind → r.job ≡ (row rows n).job → SameSources rows (with_at_number rows n r)
SameSources-set rows n r from to kind job = record {
  long = length-with rows n r;
  kinds = λ m. elim (cases_eq m n) [
    | inl same ↦ rw same (ap (λ (q : Row). q.kind) (row-with_same rows n r from to) ∙ kind)
    | inr other ↦ ap (λ (q : Row). q.kind) (row-with_other rows n m r from other)
  ];
  jobs = λ m. elim (cases_eq m n) [
    | inl same ↦ rw same (ap (λ (q : Row). q.job) (row-with_same rows n r from to) ∙ job)
    | inr other ↦ ap (λ (q : Row). q.job) (row-with_other rows n m r from other)
  ];
}

-- a new row, whose maker and job are there
pub IsLinked-push : (s : State) (r : Row) → IsLinked s → IfSome (maker_of r.kind) (λ m. (1 ≤ m) × (m ≤ length s.rows)) → (1 ≤ r.job) × (r.job ≤ length s.jobs) →
    IsLinked (record s { rows = s.rows ++ r ∷ [] })
IsLinked-push s r linked maker job =
    let long = length_push s.rows r in
    record {
      makers = λ n from to. elim (cases_lt (length s.rows) n) [
        | inl after ↦
            let new : row (s.rows ++ r ∷ []) n ≡ r = row-push_new s.rows n r (omega arith) in
            rw new (IfSome_then (maker_of r.kind) maker (λ m there. (there.0, omega arith)))
        | inr before ↦ rw (row-push_old s.rows n r before) (linked.makers n from before)
      ];
      jobs = λ n from to. elim (cases_lt (length s.rows) n) [
        | inl after ↦
            let new : row (s.rows ++ r ∷ []) n ≡ r = row-push_new s.rows n r (omega arith) in
            rw new job
        | inr before ↦ rw (row-push_old s.rows n r before) (linked.jobs n from before)
      ];
      epoch = linked.epoch;
    }

-- a row changed, with the same maker and job
pub IsLinked-set : (s : State) (n : ℕ) (r : Row) → 1 ≤ n → n ≤ length s.rows → r.kind ≡ (row s.rows n).kind → r.job ≡ (row s.rows n).job → IsLinked s →
    IsLinked (record s { rows = with_at_number s.rows n r })
IsLinked-set s n r from to kind job linked = IsLinked-same s _ (SameSources-set s.rows n r from to kind job) refl linked.epoch linked

-- all rows changed, with the same makers and jobs
pub SameSources-map : (f : Row → Row) (rows : List Row) → ((r : Row) → (f r).kind ≡ r.kind) → ((r : Row) → (f r).job ≡ r.job) → SameSources rows (map f rows)
SameSources-map f rows kind job = record {
  long = length-map rows f;
  kinds = λ n. elim (cases_lt 0 n) [
    | inl from ↦ elim (cases_lt (length rows) n) [
      | inl past ↦ ap (λ (r : Row). r.kind) (row-past (map f rows) n (rw length-map past) ∙ sym (row-past rows n past))
      | inr to ↦ ap (λ (r : Row). r.kind) (row-map f rows n (omega arith) to) ∙ kind (row rows n)
    ]
    | inr none ↦ let e : n ≡ 0 = omega arith in rw e refl
  ];
  jobs = λ n. elim (cases_lt 0 n) [
    | inl from ↦ elim (cases_lt (length rows) n) [
      | inl past ↦ ap (λ (r : Row). r.job) (row-past (map f rows) n (rw length-map past) ∙ sym (row-past rows n past))
      | inr to ↦ ap (λ (r : Row). r.job) (row-map f rows n (omega arith) to) ∙ job (row rows n)
    ]
    | inr none ↦ let e : n ≡ 0 = omega arith in rw e refl
  ];
}

-- more jobs
pub IsLinked-more_jobs : (s : State) (jobs : List Work) → length s.jobs ≤ length jobs → IsLinked s → IsLinked (record s { jobs = jobs })
IsLinked-more_jobs s jobs more linked = record {
  makers = linked.makers;
  jobs = λ n from to. ((linked.jobs n from to).0, omega (arith, (linked.jobs n from to).1));
  epoch = linked.epoch;
}

-- a new job with its root
pub IsLinked-job : (s : State) (w : Work) (r : Row) → IsLinked s → r.kind ≡ Root → r.job ≡ length s.jobs + 1 → IsLinked (record s { rows = s.rows ++ r ∷ []; jobs = s.jobs ++ w ∷ [] })
IsLinked-job s w r linked root job =
    let long = length_push s.jobs w in
    IsLinked-push (record s { jobs = s.jobs ++ w ∷ [] }) r (IsLinked-more_jobs s (s.jobs ++ w ∷ []) (omega arith) linked) (rw root tt) (omega (arith, job), omega (arith, job, long))
