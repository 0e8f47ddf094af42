-- A row that is spawned where its context is cancelled settles at once.
use Rattle.std.proofs.Common.{◌≡◌, ℕ, zero, suc, ◌+◌, ◌-◌, ◌≤◌, List, [], ◌∷◌, ◌++◌, length, Option, Some, None, Bool, true, false, ◌||◌, refl, sym, ap, ◌∙◌, arith, inl, inr, subst}
use Rattle.std.specs.Prelude.{slice_index_or, is_some}
use Rattle.job_language.specs.declared.errors.JobFault.{JobFault}
use Rattle.std.specs.List.{list_any}
use Rattle.std.proofs.lemmas.Bool.{cases_eq, cases_lt}
use Rattle.std.proofs.lemmas.List.{length_push, set_at}
use Rattle.job_step.specs.declared.frames.Frame.{Frame}
use Rattle.tenant_model.specs.declared.rows.Kind.{Kind}
use Rattle.tenant_model.specs.declared.rows.Kind.TheVariants.{Root, Posted, Spawned, Region}
use Rattle.tenant_model.specs.declared.rows.Phase.{Phase}
use Rattle.tenant_model.specs.declared.rows.Phase.TheVariants.{Unstarted, Dropped}
use Rattle.tenant_model.specs.declared.rows.Mark.{Mark}
use Rattle.tenant_model.specs.declared.rows.Row.{Row}
use Rattle.tenant_model.specs.State.{State, row, job, with_at_number}
use Rattle.tenant_model.specs.Walks.{maker_of, is_unstarted, mark, chain, is_job_cancelled, is_group_cancelled, is_context_cancelled, settled_row, settle}
use Rattle.tenant_model.specs.Changes.{new_row, add_row, on_row}
use Rattle.tenant_model.specs.Linked.{MakersPrecede}
use Rattle.tenant_model.specs.Sound.{IsSteady, IsSettled}
use Rattle.tenant_model.proofs.Chains.{chain_goes_on, chain_ends}
use Rattle.tenant_model.proofs.Changed.{row-push_old, row-push_new, row-past, with_at_number-from}
use Rattle.tenant_model.proofs.Settling.{settled_at, settle-from}
use Rattle.tenant_model.proofs.Steady.{steady_dropped}
use Rattle.tenant_model.proofs.Within.{either_way, maker_cases, maker_before}

-- no row is past the last
nothing_waits : (x : ℕ) → is_unstarted (row [] x).phase ≡ false
nothing_waits zero = refl
nothing_waits (suc x) = refl

there_if_waits : (rows : List Row) (x : ℕ) → is_unstarted (row rows x).phase ≡ true → (1 ≤ x) × (x ≤ length rows)
there_if_waits rows zero waits = absurd (let no : is_unstarted (row rows 0).phase ≡ false = refl in grind (arith, no, waits))
there_if_waits rows (suc x) waits = elim (cases_lt (length rows) (suc x)) [
  | inl past ↦ absurd (let no : is_unstarted (row rows (suc x)).phase ≡ false = ap (λ (q : Row). is_unstarted q.phase) (row-past rows (suc x) past) ∙ nothing_waits (suc x) in grind (arith, no, waits))
  | inr low ↦ (omega arith, omega (arith, low))
]

-- Was the row spawned into a cancelled group?
abbrev asks : State → ℕ → Bool
asks t x = is_group_cancelled t.rows (row t.rows x).kind

module _ (s : State) (r : Row) (precede : MakersPrecede s.rows) (precede' : MakersPrecede (s.rows ++ r ∷ [])) where
  abbrev more : State
  more = add_row s r

  pub mark_push : (m g : ℕ) → m ≤ length s.rows → mark more.rows m g ≡ mark s.rows m g
  mark_push m g low = ap (λ (q : Row). slice_index_or {A = Mark} q.marks g (record { rows = 0; cancelled = false })) (row-push_old s.rows m r low)

  group_push : (x : ℕ) (k : Kind) → 1 ≤ x → x ≤ length s.rows → (row s.rows x).kind ≡ k → is_group_cancelled more.rows k ≡ is_group_cancelled s.rows k
  group_push x Root from to kind = refl
  group_push x Posted from to kind = refl
  group_push x (Region m) from to kind = refl
  group_push x (Spawned m g) from to kind =
      let before = maker_before s.rows precede x m from to (ap maker_of kind) in
      ap (λ (k : Mark). k.cancelled) (mark_push m g (omega (arith, before, to)))

  asks_push : (x : ℕ) → 1 ≤ x → x ≤ length s.rows → asks more x ≡ asks s x
  asks_push x from to = ap (λ (q : Row). is_group_cancelled more.rows q.kind) (row-push_old s.rows x r to) ∙ group_push x (row s.rows x).kind from to refl

  go : (k x : ℕ) → x ≤ k → 1 ≤ x → x ≤ length s.rows → list_any (asks more) (chain more.rows x) ≡ list_any (asks s) (chain s.rows x)
  go zero x enough from to = absurd (omega (arith, enough, from))
  go (suc k) x enough from to =
      let old : row more.rows x ≡ row s.rows x = row-push_old s.rows x r to in
      let longer : x ≤ length more.rows = omega (arith, to, length_push s.rows r) in
      let first = asks_push x from to in
      elim (maker_cases (maker_of (row s.rows x).kind)) [
        | inl none ↦
            let none_too : maker_of (row more.rows x).kind ≡ None = ap (λ (q : Row). maker_of q.kind) old ∙ none in
            ap (list_any (asks more)) (chain_ends more.rows x from none_too) ∙ ap (λ b. b || false) first ∙ ap (list_any (asks s)) (sym (chain_ends s.rows x from none))
        | inr made ↦
            let m = made.0 in
            let made_too : maker_of (row more.rows x).kind ≡ Some m = ap (λ (q : Row). maker_of q.kind) old ∙ made.1 in
            let before = maker_before s.rows precede x m from to made.1 in
            let rest = go k m (omega (arith, before, enough)) before.0 (omega (arith, before, to)) in
            ap (list_any (asks more)) (chain_goes_on more.rows precede' x m from longer made_too) ∙ ap (λ b. b || list_any (asks more) (chain more.rows m)) first ∙ ap (λ b. asks s x || b) rest ∙
            ap (list_any (asks s)) (sym (chain_goes_on s.rows precede x m from to made.1))
      ]

  -- A new row changes no context of those before it.
  pub context_push : (x : ℕ) → 1 ≤ x → x ≤ length s.rows → is_context_cancelled more x ≡ is_context_cancelled s x
  context_push x from to =
      ap (λ (q : Row). is_job_cancelled (job s.jobs q.job) || list_any (asks more) (chain more.rows x)) (row-push_old s.rows x r to) ∙
      ap (λ b. is_job_cancelled (job s.jobs (row s.rows x).job) || b) (go x x (omega arith) from to)

  -- Where it does not wait itself, nothing more waits.
  pub settled_push : is_unstarted r.phase ≡ false → IsSettled s → IsSettled more
  settled_push started settled x waits =
      let there = there_if_waits more.rows x waits in
      elim (cases_eq x (length s.rows + 1)) [
        | inl same ↦
            let its : is_unstarted (row more.rows x).phase ≡ false = ap (λ (q : Row). is_unstarted q.phase) (row-push_new s.rows x r same) ∙ started in
            absurd (grind (arith, its, waits))
        | inr other ↦
            let low : x ≤ length s.rows = omega (arith, there, other, length_push s.rows r) in
            context_push x there.0 low ∙ settled x (ap (λ (q : Row). is_unstarted q.phase) (sym (row-push_old s.rows x r low)) ∙ waits)
      ]

  here : row more.rows (length s.rows + 1) ≡ r
  here = row-push_new s.rows (length s.rows + 1) r refl

  its_job : is_job_cancelled (job s.jobs (row more.rows (length s.rows + 1)).job) ≡ is_job_cancelled (job s.jobs r.job)
  its_job = ap (λ (q : Row). is_job_cancelled (job s.jobs q.job)) here

  -- The context of one that was spawned is cancelled where the group is, directly or from above.
  pub spawned_context : (n g : ℕ) → 1 ≤ n → n ≤ length s.rows → r.kind ≡ Spawned n g → r.job ≡ (row s.rows n).job →
      is_context_cancelled more (length s.rows + 1) ≡ ((mark s.rows n g).cancelled || is_context_cancelled s n)
  spawned_context n g from to kind same_job =
      let N = length s.rows + 1 in
      let made : maker_of (row more.rows N).kind ≡ Some n = ap (λ (q : Row). maker_of q.kind) here ∙ ap maker_of kind in
      let its : is_group_cancelled more.rows (row more.rows N).kind ≡ (mark s.rows n g).cancelled =
      ap (λ (q : Row). is_group_cancelled more.rows q.kind) here ∙ ap (is_group_cancelled more.rows) kind ∙ ap (λ (k : Mark). k.cancelled) (mark_push n g to) in
      let above = go n n (omega arith) from to in
      let of_maker : is_job_cancelled (job s.jobs (row more.rows N).job) ≡ is_job_cancelled (job s.jobs (row s.rows n).job) = its_job ∙ ap (λ j. is_job_cancelled (job s.jobs j)) same_job in
      rw (chain_goes_on more.rows precede' N n (omega arith) (omega (arith, length_push s.rows r)) made) (grind (arith, its, above, of_maker))

  -- That of one that was posted is cancelled where the job is.
  pub posted_context : r.kind ≡ Posted → is_context_cancelled more (length s.rows + 1) ≡ is_job_cancelled (job s.jobs r.job)
  posted_context kind =
      let N = length s.rows + 1 in
      let none : maker_of (row more.rows N).kind ≡ None = ap (λ (q : Row). maker_of q.kind) here ∙ ap maker_of kind in
      let its : is_group_cancelled more.rows (row more.rows N).kind ≡ false = ap (λ (q : Row). is_group_cancelled more.rows q.kind) here ∙ ap (is_group_cancelled more.rows) kind in
      rw (chain_ends more.rows N (omega arith) none) (grind (arith, its, its_job))

-- A row more.
module _ (s : State) (k : Kind) (j : ℕ) (made_on : Option ℕ) (f : Frame) where
  abbrev born : Phase → Row
  born p = new_row k j made_on f p

  abbrev with_born : Phase → State
  with_born p = add_row s (born p)

  abbrev N : ℕ
  N = length s.rows + 1

  new_is : (p : Phase) → row (with_born p).rows N ≡ born p
  new_is p = row-push_new s.rows N (born p) refl

  last : (p : Phase) → N ≤ length (with_born p).rows
  last p = omega (arith, length_push s.rows (born p))

  module _ (steady : IsSteady s) (kept : IsSteady (with_born Unstarted)) where
    precede : MakersPrecede s.rows
    precede = steady.formed.linked.makers

    precede' : MakersPrecede (with_born Unstarted).rows
    precede' = kept.formed.linked.makers

    -- Where its context is cancelled, it is dropped as the state settles, and no other row is.
    pub born_dropped : IsSettled s → is_context_cancelled (with_born Unstarted) N ≡ true → settle (with_born Unstarted) ≡ with_born Dropped
    born_dropped settled cancelled =
        let t = with_born Unstarted in
        sym (settle-from t (with_born Dropped) (record {
          rest = refl;
          long = length_push s.rows (born Dropped) ∙ sym (length_push s.rows (born Unstarted));
          before = λ x low. elim (cases_eq x N) [
            | inl same ↦ rw same (new_is Dropped ∙ sym (ap (λ b. settled_row (row t.rows N) b) cancelled ∙ ap (λ (q : Row). settled_row q true) (new_is Unstarted)))
            | inr other ↦
                let old : x ≤ length s.rows = omega (arith, low, other, length_push s.rows (born Unstarted)) in
                row-push_old s.rows x (born Dropped) old ∙ sym (settled_old x old)
          ];
          after = λ x above. row-past (with_born Dropped).rows x (omega (arith, above, length_push s.rows (born Dropped), length_push s.rows (born Unstarted))) ∙ sym (row-past t.rows x above);
        }))
      where
        settled_old : (x : ℕ) → x ≤ length s.rows → settled_at (with_born Unstarted) x ≡ row s.rows x
        settled_old x old =
            let t = with_born Unstarted in
            ap (λ (q : Row). settled_row q (is_context_cancelled t x)) (row-push_old s.rows x (born Unstarted) old) ∙ elim (either_way (is_unstarted (row s.rows x).phase)) [
              | inl waits ↦
                  let there = there_if_waits s.rows x waits in
                  let fine : is_context_cancelled t x ≡ false = context_push s (born Unstarted) precede precede' x there.0 old ∙ settled x waits in
                  rw (fine, waits) refl
              | inr started ↦ rw started refl
            ]

    -- Where its context is not cancelled, it waits, and the state has settled.
    pub born_waits : IsSettled s → is_context_cancelled (with_born Unstarted) N ≡ false → IsSettled (with_born Unstarted)
    born_waits settled fine x waits =
        let t = with_born Unstarted in
        let there = there_if_waits t.rows x waits in
        elim (cases_eq x N) [
          | inl same ↦ ap (is_context_cancelled t) same ∙ fine
          | inr other ↦
              let low : x ≤ length s.rows = omega (arith, there, other, length_push s.rows (born Unstarted)) in
              context_push s (born Unstarted) precede precede' x there.0 low ∙ settled x (ap (λ (q : Row). is_unstarted q.phase) (sym (row-push_old s.rows x (born Unstarted) low)) ∙ waits)
        ]

    -- The state with it is steady too.
    pub dropped_steady : IsSteady (with_born Dropped)
    dropped_steady =
        let t = with_born Unstarted in
        let waits : is_unstarted (row t.rows N).phase ≡ true = ap (λ (q : Row). is_unstarted q.phase) (new_is Unstarted) in
        let at : ℕ → Row → State = λ i q. record s { rows = with_at_number t.rows i q } in
        let place : N - 1 ≡ length s.rows = omega arith in
        let same : on_row t N (λ r. record r { phase = Dropped }) ≡ with_born Dropped =
        ap (λ (q : Row). at N (record q { phase = Dropped })) (new_is Unstarted) ∙
        ap (λ rows. let u : State = record s { rows = rows } in u)
        (with_at_number-from t.rows N (born Dropped) (omega arith) ∙ set_at s.rows (born Unstarted) [] (born Dropped) (N - 1) (sym place)) in
        subst IsSteady same (steady_dropped t kept N (omega arith) (last Unstarted) waits)

-- a row whose context is not cancelled is of a job without a fault
no_fault : (o : Option JobFault) → is_some o ≡ false → o ≡ None
no_fault None none = refl
no_fault (Some f) none = absurd (grind (arith, none))

pub fine_job : (s : State) (n : ℕ) (b : Bool) → (b || is_context_cancelled s n) ≡ false → (job s.jobs (row s.rows n).job).fault ≡ None
fine_job s n b fine =
    let none : is_job_cancelled (job s.jobs (row s.rows n).job) ≡ false = grind (arith, fine) in
    no_fault (job s.jobs (row s.rows n).job).fault (grind (arith, none))
