-- Changes that undo nothing.
use Rattle.std.proofs.Common.{◌≡◌, ◌≢◌, ℕ, zero, suc, ◌+◌, ◌≤◌, List, [], ◌∷◌, ◌++◌, length, Option, Some, None, true, refl, sym, ap, ◌∙◌, arith, inl, inr, map}
use Rattle.std.specs.Prelude.{slice_get, unwrap_or}
use Rattle.std.specs.Option.{option_map}
use Rattle.std.proofs.lemmas.Bool.{cases_eq, cases_lt}
use Rattle.std.proofs.lemmas.List.{length_push, length-map}
use Rattle.std.proofs.lemmas.Option.{slice_get-map}
use Rattle.tenant_model.specs.declared.rows.Row.{Row}
use Rattle.tenant_model.specs.declared.works.Work.{Work}
use Rattle.tenant_model.specs.State.{State, row, job, with_at_number}
use Rattle.thread_cells.specs.Cells.{Table}
use Rattle.tenant_model.specs.Walks.{is_open}
use Rattle.tenant_model.specs.Asks.{retired_work}
use Rattle.tenant_model.specs.Later.{IsRowLater, IsWorkLater, HasEnded, IsLater}
use Rattle.tenant_model.proofs.Changed.{row-with_same, row-with_other, row-push_old, row-push_new, row-past, at_number-with_same, at_number-with_other, at_number-push_old, length-with}

pub row_later-same : (r : Row) → IsRowLater r r
row_later-same r = record { kind = refl; job = refl; made_on = refl; closed = λ closed. refl }

pub work_later-same : (w : Work) → IsWorkLater w w
work_later-same w = record { program = refl; root = refl; cancelled = λ is. is; fault = λ f is. is; retired = λ is. is }

pub later-same : (s : State) → IsLater s s
later-same s = record {
  config = refl;
  more_rows = omega arith;
  more_jobs = omega arith;
  rows = λ n to. row_later-same (row s.rows n);
  jobs = λ j to. work_later-same (job s.jobs j);
  ended = λ j to ended. record { ended = ended; cancelled = refl; fault = refl };
}

row_later-then : (r q p : Row) → IsRowLater r q → IsRowLater q p → IsRowLater r p
row_later-then r q p first second = record {
  kind = second.kind ∙ first.kind;
  job = second.job ∙ first.job;
  made_on = second.made_on ∙ first.made_on;
  closed = λ closed. let same = first.closed closed in second.closed (ap (λ (x : Row). is_open x.phase) same ∙ closed) ∙ same;
}

work_later-then : (w v u : Work) → IsWorkLater w v → IsWorkLater v u → IsWorkLater w u
work_later-then w v u first second = record {
  program = second.program ∙ first.program;
  root = second.root ∙ first.root;
  cancelled = λ is. second.cancelled (first.cancelled is);
  fault = λ f is. second.fault f (first.fault f is);
  retired = λ is. second.retired (first.retired is);
}

pub later-then : (s t u : State) → IsLater s t → IsLater t u → IsLater s u
later-then s t u first second = record {
  config = second.config ∙ first.config;
  more_rows = omega (arith, first.more_rows, second.more_rows);
  more_jobs = omega (arith, first.more_jobs, second.more_jobs);
  rows = λ n to. row_later-then _ _ _ (first.rows n to) (second.rows n (omega (arith, to, first.more_rows)));
  jobs = λ j to. work_later-then _ _ _ (first.jobs j to) (second.jobs j (omega (arith, to, first.more_jobs)));
  ended = λ j to ended.
      let stays = first.ended j to ended in
      let still = second.ended j (omega (arith, to, first.more_jobs)) stays.ended in
      record { ended = still.ended; cancelled = still.cancelled ∙ stays.cancelled; fault = still.fault ∙ stays.fault };
}

-- the rows change in place
pub later-rows : (s : State) (rows : List Row) → length rows ≡ length s.rows → ((n : ℕ) → IsRowLater (row s.rows n) (row rows n)) → IsLater s (record s { rows = rows })
later-rows s rows long each = record {
  config = refl;
  more_rows = omega (arith, long);
  more_jobs = omega arith;
  rows = λ n to. each n;
  jobs = λ j to. work_later-same (job s.jobs j);
  ended = λ j to ended. record {
    ended = λ n of.
        let closed = ended n (sym (each n).job ∙ of) in
        ap (λ (r : Row). is_open r.phase) ((each n).closed closed) ∙ closed;
    cancelled = refl;
    fault = refl;
  };
}

-- a row that was open changes
pub later-set : (s : State) (n : ℕ) (r : Row) → 1 ≤ n → n ≤ length s.rows → is_open (row s.rows n).phase ≡ true → r.kind ≡ (row s.rows n).kind → r.job ≡ (row s.rows n).job →
    r.made_on ≡ (row s.rows n).made_on → IsLater s (record s { rows = with_at_number s.rows n r })
later-set s n r from to opened kind job_same made_on =
    later-rows s (with_at_number s.rows n r) (length-with s.rows n r) (λ m. elim (cases_eq m n) [
      | inl same ↦
          let is : row (with_at_number s.rows n r) m ≡ r = ap (row (with_at_number s.rows n r)) same ∙ row-with_same s.rows n r from to in
          rw (is, same) (record { kind = kind; job = job_same; made_on = made_on; closed = λ closed. absurd (grind (arith, closed, opened)) })
      | inr other ↦ rw (row-with_other s.rows n m r from other) (row_later-same (row s.rows m))
    ])

-- a new row, of no job that has ended
pub later-push : (s : State) (r : Row) → ((j : ℕ) → j ≤ length s.jobs → HasEnded s j → r.job ≢ j) → IsLater s (record s { rows = s.rows ++ r ∷ [] })
later-push s r other = record {
  config = refl;
  more_rows = omega (arith, length_push s.rows r);
  more_jobs = omega arith;
  rows = λ n to. rw (row-push_old s.rows n r to) (row_later-same (row s.rows n));
  jobs = λ j to. work_later-same (job s.jobs j);
  ended = λ j known ended. record {
    ended = λ n of. elim (cases_lt (length s.rows) n) [
      | inl after ↦ elim (cases_eq n (length s.rows + 1)) [
        | inl new ↦ absurd (other j known ended (ap (λ (q : Row). q.job) (sym (row-push_new s.rows n r new)) ∙ of))
        | inr past ↦
            let beyond : row (s.rows ++ r ∷ []) n ≡ row s.rows n = row-past (s.rows ++ r ∷ []) n (omega (arith, after, past, length_push s.rows r)) ∙ sym (row-past s.rows n after) in
            ap (λ (q : Row). is_open q.phase) beyond ∙ ended n (ap (λ (q : Row). q.job) (sym beyond) ∙ of)
      ]
      | inr before ↦
          let old = row-push_old s.rows n r before in
          ap (λ (q : Row). is_open q.phase) old ∙ ended n (ap (λ (q : Row). q.job) (sym old) ∙ of)
    ];
    cancelled = refl;
    fault = refl;
  };
}

-- jobs change in place; one that has ended is neither cancelled nor faulted
pub later-jobs : (s : State) (jobs : List Work) → length jobs ≡ length s.jobs → ((j : ℕ) → IsWorkLater (job s.jobs j) (job jobs j)) →
    ((j : ℕ) → HasEnded s j → ((job jobs j).cancelled ≡ (job s.jobs j).cancelled) × ((job jobs j).fault ≡ (job s.jobs j).fault)) → IsLater s (record s { jobs = jobs })
later-jobs s jobs long each over = record {
  config = refl;
  more_rows = omega arith;
  more_jobs = omega (arith, long);
  rows = λ n to. row_later-same (row s.rows n);
  jobs = λ j to. each j;
  ended = λ j to ended. let same = over j ended in record { ended = ended; cancelled = same.0; fault = same.1 };
}

pub later-set_job : (s : State) (j : ℕ) (w : Work) → 1 ≤ j → j ≤ length s.jobs → IsWorkLater (job s.jobs j) w →
    (HasEnded s j → (w.cancelled ≡ (job s.jobs j).cancelled) × (w.fault ≡ (job s.jobs j).fault)) → IsLater s (record s { jobs = with_at_number s.jobs j w })
later-set_job s j w from to later over =
    let jobs = with_at_number s.jobs j w in
    let own : (k : ℕ) → k ≡ j → job jobs k ≡ w = λ k same. ap (job jobs) same ∙ at_number-with_same s.jobs _ j w from to in
    later-jobs s jobs (length-with s.jobs j w) (λ k. elim (cases_eq k j) [
      | inl same ↦ rw (own k same, same) later
      | inr other ↦ rw (at_number-with_other s.jobs (job [] 0) j k w from other) (work_later-same (job s.jobs k))
    ]) (λ k ended. elim (cases_eq k j) [
      | inl same ↦ let its = over (λ n of. ended n (of ∙ sym same)) in rw (own k same, same) its
      | inr other ↦ rw (at_number-with_other s.jobs (job [] 0) j k w from other) (refl, refl)
    ])

pub later-push_job : (s : State) (w : Work) → IsLater s (record s { jobs = s.jobs ++ w ∷ [] })
later-push_job s w = record {
  config = refl;
  more_rows = omega arith;
  more_jobs = omega (arith, length_push s.jobs w);
  rows = λ n to. row_later-same (row s.rows n);
  jobs = λ j to. rw (at_number-push_old s.jobs (job [] 0) j w to) (work_later-same (job s.jobs j));
  ended = λ j to ended. let same = at_number-push_old s.jobs (job [] 0) j w to in record { ended = ended; cancelled = ap (λ (v : Work). v.cancelled) same; fault = ap (λ (v : Work). v.fault) same };
}

retired_later : (o : Option Work) → IsWorkLater (unwrap_or o (job [] 0)) (unwrap_or (option_map retired_work o) (job [] 0))
retired_later None = work_later-same (job [] 0)
retired_later (Some w) = record { program = refl; root = refl; cancelled = λ is. is; fault = λ f is. is; retired = λ is. refl }

retired_over : (o : Option Work) →
    ((unwrap_or (option_map retired_work o) (job [] 0)).cancelled ≡ (unwrap_or o (job [] 0)).cancelled) × ((unwrap_or (option_map retired_work o) (job [] 0)).fault ≡ (unwrap_or o (job [] 0)).fault)
retired_over None = (refl, refl)
retired_over (Some w) = (refl, refl)

pub later-retired : (s : State) → IsLater s (record s { jobs = map retired_work s.jobs })
later-retired s = later-jobs s (map retired_work s.jobs) (length-map s.jobs retired_work) (each s.jobs) (λ j ended. over s.jobs j)
  where
    each : (jobs : List Work) (j : ℕ) → IsWorkLater (job jobs j) (job (map retired_work jobs) j)
    each jobs zero = work_later-same (job [] 0)
    each jobs (suc j) = rw (slice_get-map retired_work jobs j) (retired_later (slice_get jobs j))

    over : (jobs : List Work) (j : ℕ) → ((job (map retired_work jobs) j).cancelled ≡ (job jobs j).cancelled) × ((job (map retired_work jobs) j).fault ≡ (job jobs j).fault)
    over jobs zero = (refl, refl)
    over jobs (suc j) = rw (slice_get-map retired_work jobs j) (retired_over (slice_get jobs j))

-- what no row or job has to do with
pub later-beside : (s : State) (entries epoch : ℕ) (cells : Table) → IsLater s (record s { cells = cells; entries = entries; epoch = epoch })
later-beside s entries epoch cells = record {
  config = refl;
  more_rows = omega arith;
  more_jobs = omega arith;
  rows = λ n to. row_later-same (row s.rows n);
  jobs = λ j to. work_later-same (job s.jobs j);
  ended = λ j to ended. record { ended = ended; cancelled = refl; fault = refl };
}
