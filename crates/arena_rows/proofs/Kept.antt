-- What stays where rows change alike.
use Rattle.std.proofs.Common.{◌≡◌, ℕ, ◌+◌, ◌<◌, List, Option, Some, None, true, refl, sym, ◌∙◌, get_or, not, ap}
use Rattle.std.specs.Prelude.{slice_index_or, sum_by, count_by}
use Rattle.cancel_context.specs.Forest.{Forest}
use Rattle.tenant_model.specs.declared.rows.Kind.{Kind}
use Rattle.tenant_model.specs.declared.rows.Kind.TheVariants.{Root, Posted, Spawned, Region}
use Rattle.tenant_model.specs.State.{State, row}
use Rattle.tenant_model.specs.Walks.{is_open, is_unstarted}
use Rattle.tenant_model.proofs.Contexts.{is_context_cancelled-same}
use Rattle.arena_rows.specs.declared.rows.OpenRow.{OpenRow}
use Rattle.arena_rows.specs.declared.rows.CurrentJob.{CurrentJob}
use Rattle.arena_rows.specs.Represents.{at_place, Assigned, Owner, Nobody, OfJob, OfRow, OfGroup, IsRowContext, IsGroupContext, IsOwned, AreContexts, held_by, IsJob, AreJobs}
use Rattle.job_language.specs.declared.instructions.TheConstants.{GROUPS}
use Rattle.tenant_model.specs.Sound.{IsSettled}
use Rattle.arena_rows.proofs.Alike.{Alike, mark-same, used-same, open_of-alike}
use Rattle.tenant_model.specs.declared.works.Work.{Work}

module _ (s t : State) (alike : Alike s.rows t.rows) (same_jobs : t.jobs ≡ s.jobs) where
  -- contexts stay
  opened : (n : ℕ) → is_open (row t.rows n).phase ≡ true → is_open (row s.rows n).phase ≡ true
  opened n is = sym (alike.opens n) ∙ is

  row_context : (forest : Forest) (at : Assigned) (n : ℕ) (k : Kind) → IsRowContext s forest at n k → IsRowContext t forest at n k
  row_context forest at n Root is = rw (alike.contexts.sources.jobs n) is
  row_context forest at n Posted is = rw (alike.contexts.sources.jobs n) is
  row_context forest at n (Region m) is = is
  row_context forest at n (Spawned m g) is = rw (alike.opens m) is

  group_context : (forest : Forest) (at : Assigned) (n g : ℕ) (o : Option ℕ) → IsGroupContext s forest at n g o → IsGroupContext t forest at n g o
  group_context forest at n g None is = rw (used-same s.rows t.rows alike n g, mark-same s.rows t.rows alike n g) is
  group_context forest at n g (Some c) is = rw (mark-same s.rows t.rows alike n g) is

  owned_still : (at : Assigned) (c : ℕ) (o : Owner) → IsOwned s at c o → IsOwned t at c o
  owned_still at c Nobody is = is
  owned_still at c (OfJob j) is = rw same_jobs is
  owned_still at c (OfRow n) is = (is.0, alike.opens n ∙ is.1, (is.2.0, is.2.1, alike.contexts.sources.kinds n ∙ is.2.2))
  owned_still at c (OfGroup n g) is = (is.0, alike.opens n ∙ is.1, is.2)

  pub AreContexts-alike : ((n : ℕ) → is_unstarted (row t.rows n).phase ≡ true → is_unstarted (row s.rows n).phase ≡ true) →
      (current : ℕ) (table table' : List (Option OpenRow)) (forest : Forest) (at : Assigned) →
      ((p : ℕ) (e : OpenRow) → at_place table' p ≡ Some e → (e.context ≡ at.of_row e.number) × ((g : ℕ) → g < GROUPS → slice_index_or e.group_contexts g None ≡ at.of_group e.number g)) →
      sum_by held_by table' ≡ sum_by held_by table → AreContexts s current table forest at → AreContexts t current table' forest at
  AreContexts-alike waits current table table' forest at in_table held are = record {
    of_jobs = λ j kept to. rw same_jobs (are.of_jobs j (rw same_jobs at kept) (rw same_jobs at to));
    of_rows = λ n is. rw (alike.contexts.sources.kinds n) (row_context forest at n (row s.rows n).kind (are.of_rows n (opened n is)));
    of_groups = λ n g is few. group_context forest at n g (at.of_group n g) (are.of_groups n g (opened n is) few);
    bare = λ n g waits_n. are.bare n g (waits n waits_n);
    owned = λ c held_c. owned_still at c (at.owner c) (are.owned c held_c);
    in_table = in_table;
    count = are.count ∙ rw held refl;
  }

  IsJob-alike : (at : Assigned) (j : ℕ) (it : CurrentJob) → IsJob s.rows at j it → IsJob t.rows at j it
  IsJob-alike at j it is = record {
    current = is.current;
    value = is.value ∙ sym (alike.values it.work.root);
    opened = is.opened ∙ sym (open_of-alike s.rows t.rows alike j);
    context = is.context;
  }

  pub AreJobs-alike : (at : Assigned) (jobs : List CurrentJob) → AreJobs s at jobs → AreJobs t at jobs
  AreJobs-alike at jobs are = record {
    order = are.order;
    there = λ i d below. rw same_jobs (are.there i d below);
    works = λ i d below. rw same_jobs (are.works i d below);
    each = λ i d below. IsJob-alike at (get_or jobs i d).number (get_or jobs i d) (are.each i d below);
    all = λ j kept to. are.all j (rw same_jobs at kept) (rw same_jobs at to);
    later = λ n is. rw (same_jobs, alike.contexts.sources.jobs n) (are.later n (opened n is));
    many = ap (count_by (λ (w : Work). not w.retired)) same_jobs ∙ are.many;
    few = are.few;
  }

  pub IsSettled-alike : ((n : ℕ) → is_unstarted (row t.rows n).phase ≡ true → is_unstarted (row s.rows n).phase ≡ true) → IsSettled s → IsSettled t
  IsSettled-alike waits is n waits_n = is_context_cancelled-same s t alike.contexts same_jobs n ∙ is n (waits n waits_n)
