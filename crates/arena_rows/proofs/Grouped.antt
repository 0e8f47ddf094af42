-- What is held stands for the same state where a group has a context from now on.
use Rattle.std.proofs.Common.{◌≡◌, ℕ, ◌+◌, ◌<◌, List, length, Some, None, true, false, refl, sym, ap, ◌∙◌, length-set, subst, get_or}
use Rattle.std.specs.Prelude.{slice_index_or, slice_set}
use Rattle.job_language.specs.declared.instructions.TheConstants.{GROUPS}
use Rattle.cancel_context.specs.Forest.{Forest, binding, held_count, with_bound}
use Rattle.tenant_model.specs.declared.rows.Row.{Row}
use Rattle.tenant_model.specs.State.{State, row}
use Rattle.tenant_model.specs.Walks.{is_open, is_unstarted}
use Rattle.arena_rows.specs.declared.rows.OpenRow.{OpenRow}
use Rattle.arena_rows.specs.Held.{Held}
use Rattle.arena_rows.specs.Represents.{Assigned, at_place, IsRow, AreContexts, Holds}
use Rattle.arena_rows.specs.HeldChanges.{with_entry, bound_to, with_group}
use Rattle.arena_rows.proofs.Alike.{Alike}
use Rattle.arena_rows.proofs.Started.{some_is, AreRows-set, AreFree-set, AreTagged-set}
use Rattle.arena_rows.proofs.Bound.{with_group_at, group_here, AreContexts-bound}

pub alike_same : (rows : List Row) → Alike rows rows
alike_same rows = record {
  contexts = record { sources = record { long = refl; kinds = λ n. refl; jobs = λ n. refl }; marks = λ n. refl };
  made_on = λ n. refl;
  opens = λ n. refl;
  values = λ n. refl;
}

-- the entry of an open row
pub record IsEntry (a : Held) (s : State) (is : Holds a s) (n : ℕ) (e : OpenRow) : Type 0 where
  pub opened : is_open (row s.rows n).phase ≡ true
  pub there : at_place a.table (is.places n) ≡ Some e
  pub within : is.places n < length a.table
  pub its : IsRow s.rows is.places n e

module _ (a : Held) (s : State) (is : Holds a s) (n : ℕ) where
  pub entry_of : (opened : is_open (row s.rows n).phase ≡ true) → (e : OpenRow) × IsEntry a s is n e
  entry_of opened = let stands = is.table.each n opened in (stands.entry, record { opened = opened; there = stands.there; within = stands.within; its = stands.is })

  pub is_entry : (e : OpenRow) → is_open (row s.rows n).phase ≡ true → at_place a.table (is.places n) ≡ Some e → IsEntry a s is n e
  is_entry e opened there =
      let stands = is.table.each n opened in
      let P : OpenRow → Type 0 = λ x. IsRow s.rows is.places n x in
      record { opened = opened; there = there; within = stands.within; its = subst P (some_is stands.entry e (sym stands.there ∙ there)) stands.is }

  -- no other entry is that row's
  pub only_place : (e : OpenRow) → IsEntry a s is n e → (q : ℕ) (x : OpenRow) → at_place a.table q ≡ Some x → x.number ≡ n → q ≡ is.places n
  only_place e entry q x here same = sym (is.table.only q x here).1 ∙ ap is.places same

  -- An entry changed that is still the row's, with the contexts.
  pub holds_entry : (e e' : OpenRow) (forest : Forest) (at : Assigned) → IsEntry a s is n e → IsRow s.rows is.places n e' → length forest ≡ length a.contexts →
      ((j : ℕ) → at.of_job j ≡ is.assigned.of_job j) → AreContexts s (length a.jobs) (slice_set a.table (is.places n) (Some e')) forest at →
      Holds (record (with_entry a (is.places n) e') { contexts = forest }) s
  holds_entry e e' forest at entry its long of_jobs contexts =
      let same = alike_same s.rows in
      record {
        config = is.config;
        places = is.places;
        assigned = at;
        made = is.made;
        made_jobs = is.made_jobs;
        table = AreRows-set s.rows s.rows is.places a.table n e e' same entry.opened is.table entry.there its.number its (λ m other. refl);
        free = AreFree-set s.rows s.rows is.places a.table n e e' same entry.opened is.table entry.there its.number its (λ m other. refl) a.config.rows is.free;
        nests = is.nests;
        tags = AreTagged-set s.rows s.rows is.places a.table n e e' same entry.opened is.table entry.there its.number its (λ m other. refl) a.regions is.tags;
        waiting = is.waiting;
        contexts = contexts;
        room = long ∙ is.room;
        jobs = record {
          order = is.jobs.order;
          there = is.jobs.there;
          works = is.jobs.works;
          each = λ i d below. let its_job = is.jobs.each i d below in
              record { current = its_job.current; value = its_job.value; opened = its_job.opened; context = its_job.context ∙ sym (of_jobs (get_or a.jobs i d).number) };
          all = is.jobs.all;
          many = is.jobs.many;
          later = is.jobs.later;
          few = is.jobs.few;
        };
        cells = is.cells;
        entries = is.entries;
        epoch = is.epoch;
        steady = is.steady;
      }

-- what a group's context changes
pub record IsGrouped (a : Held) (s : State) (is : Holds a s) (b : Held) (n g c : ℕ) : Type 0 where
  pub holds : Holds b s
  pub places : holds.places ≡ is.places
  pub given : holds.assigned.of_group n g ≡ Some c

-- a group that has none yet
pub group_bound : (a : Held) (s : State) (is : Holds a s) (n g c : ℕ) (e : OpenRow) → IsEntry a s is n e → is_unstarted (row s.rows n).phase ≡ false → g < GROUPS →
    slice_index_or e.group_contexts g None ≡ None → binding a.contexts c ≡ None → c < length a.contexts →
    held_count (with_bound a.contexts c (Some e.context)) ≡ held_count a.contexts + 1 → IsGrouped a s is (with_entry (bound_to a c (Some e.context)) (is.places n) (with_group g c e)) n g c
unfolding holds_entry
group_bound a s is n g c e entry started few none free room count =
    let its = is.contexts.in_table (is.places n) e entry.there in
    let context : e.context ≡ is.assigned.of_row n = its.0 ∙ ap is.assigned.of_row entry.its.number in
    let no_context : is.assigned.of_group n g ≡ None = ap (λ k. is.assigned.of_group k g) (sym entry.its.number) ∙ sym (its.1 g few) ∙ none in
    let at = with_group_at s (length a.jobs) a.table a.contexts is.assigned is.contexts n g c (is.places n) e few entry.opened started entry.within entry.there entry.its.number
    (only_place a s is n e entry) no_context entry.its.all_contexts free room e.context context in
    let are = AreContexts-bound s (length a.jobs) a.table a.contexts is.assigned is.contexts n g c (is.places n) e few entry.opened started entry.within entry.there entry.its.number
    (only_place a s is n e entry) no_context entry.its.all_contexts free room e.context context count in
    let new_row : IsRow s.rows is.places n (with_group g c e) = record {
      number = entry.its.number;
      source = entry.its.source;
      job = entry.its.job;
      made_on = entry.its.made_on;
      stage = entry.its.stage;
      groups = entry.its.groups;
      all_groups = entry.its.all_groups;
      all_contexts = length-set e.group_contexts g (Some c) ∙ entry.its.all_contexts;
    } in
    record {
      holds = holds_entry a s is n e (with_group g c e) (with_bound a.contexts c (Some e.context)) at entry new_row (length-set a.contexts c _) (λ j. refl) are;
      places = refl;
      given = group_here s (length a.jobs) a.table a.contexts is.assigned is.contexts n g c (is.places n) e few entry.opened started entry.within entry.there entry.its.number
          (only_place a s is n e entry) no_context entry.its.all_contexts free room e.context context;
    }
