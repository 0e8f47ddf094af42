-- A fault reaches rows of one job alone.
use Rattle.std.proofs.Common.{◌≡◌, ◌≢◌, ℕ, ◌-◌, ◌==◌, ◌≤◌, List, length, Option, Some, None, true, false, ◌&&◌, refl, sym, ap, ◌∙◌, arith, inl, inr, map}
use Rattle.std.specs.Prelude.{nat_le, is_some, ◌||◌}
use Rattle.std.proofs.lemmas.Bool.{cases_eq}
use Rattle.job_language.specs.declared.errors.JobFault.{JobFault}
use Rattle.tenant_model.specs.declared.rows.Phase.{Phase}
use Rattle.tenant_model.specs.declared.rows.Phase.TheVariants.{Unstarted, Live, Done, Dropped, Faulted}
use Rattle.tenant_model.specs.declared.rows.Row.{Row}
use Rattle.tenant_model.specs.declared.works.Work.{Work}
use Rattle.tenant_model.specs.State.{State, row, job, with_at_number}
use Rattle.tenant_model.specs.Walks.{is_open, is_job_cancelled, value_in, height}
use Rattle.tenant_model.specs.Changes.{on_job, task_height, faulted_phase, faulted_row, first_fault, faults}
use Rattle.tenant_model.specs.Sound.{ShareJobs}
use Rattle.tenant_model.specs.WellFormed.{AreStacked, StandOnMakers}
use Rattle.tenant_model.proofs.Within.{either_way}
use Rattle.tenant_model.proofs.Changed.{at_number-with_same, at_number-with_other, row-map, length-with}
use Rattle.tenant_model.proofs.Linked.{SameSources-map, IsLinked-same, IsLinked-more_jobs}
use Rattle.tenant_model.proofs.Insides.{live_low}
use Rattle.tenant_model.proofs.Together.{same_job}
use Rattle.serial_law.proofs.SerialMoves.{SameJob}
use Rattle.serial_law.proofs.SerialFollows.{Origin, shared_of, Good, OneJob-same, SameWork, Follows-same, entry_good}

module _ (rows : List Row) (stacked : AreStacked rows) (on_makers : StandOnMakers rows) (shared : ShareJobs rows) (slot n : ℕ) (top : (row rows n).phase ≡ Live slot (height rows slot)) where
  other_stays : (k : ℕ) (p : Phase) → (row rows k).phase ≡ p → (row rows k).job ≢ (row rows n).job → faulted_phase slot (task_height rows slot) p ≡ p
  other_stays k Unstarted is other = refl
  other_stays k (Live t h) is other = elim (either_way ((t == slot) && nat_le (task_height rows slot) h)) [
    | inl gone ↦
        let here : t ≡ slot = grind (arith, gone) in
        let above : task_height rows slot ≤ h = grind (arith, gone) in
        let live : (row rows k).phase ≡ Live slot h = rw here at is in
        let low = live_low rows stacked k slot h live in
        absurd (other (same_job rows stacked on_makers shared slot n top (height rows slot - h) k h live above (omega (arith, low))))
    | inr kept ↦ rw kept refl
  ]
  other_stays k (Done v) is other = refl
  other_stays k Dropped is other = refl
  other_stays k Faulted is other = refl

  pub other_job : (j : ℕ) → (row rows n).job ≢ j → SameJob j rows (map (faulted_row slot (task_height rows slot)) rows)
  other_job j other =
      let f = faulted_row slot (task_height rows slot) in
      let same = SameSources-map f rows (λ r. refl) (λ r. refl) in
      let phases : (k : ℕ) → 1 ≤ k → k ≤ length rows → (row rows k).job ≡ j → (row (map f rows) k).phase ≡ (row rows k).phase = λ k from to own.
      ap (λ (r : Row). r.phase) (row-map f rows k from to) ∙ other_stays k (row rows k).phase refl (λ e. other (sym e ∙ own)) in
      record {
        long = omega (arith, same.long);
        kinds = λ k from to. same.kinds k;
        jobs = λ k from to. same.jobs k;
        frames = λ k from to own. ap (λ (r : Row). r.frame) (row-map f rows k from to);
        marks = λ k from to own. ap (λ (r : Row). r.marks) (row-map f rows k from to);
        opens = λ k from to own. ap is_open (phases k from to own);
        values = λ k from to own. ap value_in (phases k from to own);
        news = λ k after to. absurd (omega (arith, after, to, same.long));
      }

pub has_fault : (w : Work) (f : JobFault) → is_job_cancelled (record w { fault = first_fault w.fault f }) ≡ true
has_fault w f = go w.fault
  where
    go : (o : Option JobFault) → (w.cancelled || is_some (first_fault o f)) ≡ true
    go None = grind arith
    go (Some g) = grind arith

-- less is owed
pub Good-less : (o : Origin) (s : State) (debt less : ℕ) → less ≤ debt → Good o s debt → Good o s less
Good-less o s debt less le is = record {
  linked = is.linked;
  one = is.one;
  follows = record {
    to = is.follows.to;
    program = is.follows.program;
    root = is.follows.root;
    follows = λ some clear.
        let its = is.follows.follows some clear in
        record { from = its.from; to = its.to; own = its.own; marks = its.marks; groups = its.groups; spent = its.spent; fuel = omega (arith, its.fuel, le); leads = its.leads };
  };
}

-- what a change of one job leaves of another
pub other_work : (jobs : List Work) (i j : ℕ) (w : Work) → 1 ≤ i → j ≢ i → SameWork (job jobs j) (job (with_at_number jobs i w) j)
other_work jobs i j w from other =
    let same : job (with_at_number jobs i w) j ≡ job jobs j = at_number-with_other jobs _ i j w from other in
    record {
      program = ap (λ (v : Work). v.program) same;
      root = ap (λ (v : Work). v.root) same;
      goes_on = λ clear. ap is_job_cancelled (sym same) ∙ clear;
      fuel =
          λ clear. ap (λ (v : Work). v.fuel) same;
    }

pub faults_good : (o : Origin) (s : State) (slot n debt : ℕ) (f : JobFault) → 1 ≤ n → n ≤ length s.rows → (row s.rows n).phase ≡ Live slot (height s.rows slot) → AreStacked s.rows →
    StandOnMakers s.rows →
    Good o s debt → Good o (faults slot (row s.rows n).job f s).1 0
faults_good o s slot n debt f from to top stacked on_makers is =
    let fault = faulted_row slot (task_height s.rows slot) in
    let rows = map fault s.rows in
    let i = (row s.rows n).job in
    let there = is.linked.jobs n from to in
    let same = SameSources-map fault s.rows (λ r. refl) (λ r. refl) in
    let change : Work → Work = λ w. record w { fault = first_fault w.fault f } in
    let w = change (job s.jobs i) in
    let jobs = with_at_number s.jobs i w in
    let long = length-with s.jobs i w in
    let t = record s { rows = rows } in
    let linked = IsLinked-more_jobs t jobs (omega (arith, long)) (IsLinked-same s t same refl is.linked.epoch is.linked) in
    let one = OneJob-same s.rows rows same is.linked.makers is.one in
    entry_good o (on_job t i change) 0 (record {
      linked = linked;
      one = one;
      follows = elim (cases_eq o.number i) [
        | inl own ↦
            let here : job jobs o.number ≡ w = ap (job jobs) own ∙ at_number-with_same s.jobs _ i w there.0 there.1 in
            record {
              to = omega (arith, is.follows.to, long);
              program = ap (λ (v : Work). v.program) here ∙ ap (λ k. (job s.jobs k).program) (sym own) ∙ is.follows.program;
              root = ap (λ (v : Work). v.root) here ∙ ap (λ k. (job s.jobs k).root) (sym own) ∙ is.follows.root;
              follows = λ some clear.
                  let no : is_job_cancelled w ≡ false = ap is_job_cancelled (sym here) ∙ clear in
                  absurd (grind (arith, no, has_fault (job s.jobs i) f));
            }
        | inr other ↦
            Follows-same o s.rows rows s.jobs jobs 0 (omega (arith, long)) (other_work s.jobs i o.number w there.0 other)
            (λ clear before. other_job s.rows stacked on_makers (shared_of s is.linked is.one) slot n top o.number (λ e. other (sym e))) (Good-less o s debt 0 (omega arith) is).follows
      ];
    })
