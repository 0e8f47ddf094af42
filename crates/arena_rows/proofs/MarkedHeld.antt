-- What is held stands for the state with another mark of a group.
use Rattle.std.proofs.Common.{◌≡◌, ◌≢◌, ℕ, ◌<◌, ◌≤◌, List, length, length-set, Option, Some, None, false, refl, sym, ap, ◌∙◌, arith, inl, inr, subst}
use Rattle.std.specs.Prelude.{slice_index_or, slice_set}
use Rattle.std.specs.Option.{option_map}
use Rattle.std.proofs.lemmas.Bool.{cases_eq}
use Rattle.std.proofs.lemmas.List.Sums.{sum_by-set}
use Rattle.job_language.specs.declared.instructions.TheConstants.{GROUPS}
use Rattle.cancel_context.specs.Forest.{Forest}
use Rattle.ready_pool.specs.Ready.{Ready}
use Rattle.region_tag.specs.declared.regions.Tagged.{Tagged}
use Rattle.task_group.specs.Groups.{group, unused}
use Rattle.tenant_model.specs.declared.rows.Mark.{Mark}
use Rattle.tenant_model.specs.declared.rows.Row.{Row}
use Rattle.tenant_model.specs.State.{State, row}
use Rattle.tenant_model.specs.Walks.{is_unstarted, is_used}
use Rattle.tenant_model.specs.Sound.{IsSteady}
use Rattle.tenant_model.proofs.AttendedSteps.{open_there}
use Rattle.arena_rows.specs.declared.rows.OpenRow.{OpenRow}
use Rattle.arena_rows.specs.Held.{Held}
use Rattle.arena_rows.specs.MarkedGroups.{marked}
use Rattle.arena_rows.specs.Represents.{at_place, tag_of, around_of, tagged_of, IsGroup, IsRow, AreRows, AreFree, AreNests, AreTagged, held_by, Holds}
use Rattle.arena_rows.proofs.FreePlaces.{same_taken}
use Rattle.arena_rows.proofs.Grouped.{IsEntry}
use Rattle.arena_rows.proofs.MarkedContexts.{IsRequested, AreContexts-marked, AreJobs-marked}
use Rattle.arena_rows.proofs.MarkedRows.{part, opens, sources, open_rows-marked, tagged_of-marked, nested_of-marked, waiting-marked, IsRow-marked, IsRow-other}
use Rattle.arena_rows.proofs.Started.{at_same, at_other, some_is, option-same}

-- an entry that differs in its groups alone
pub record IsRegrouped (e e' : OpenRow) : Type 0 where
  pub same : e' ≡ record e { groups = e'.groups }
  pub long : length e'.groups ≡ length e.groups

module _ (a : Held) (s : State) (is : Holds a s) (n g : ℕ) (m : Mark) (e e' : OpenRow) (entry : IsEntry a s is n e) (started : is_unstarted (row s.rows n).phase ≡ false) (low : g < GROUPS)
    (regrouped : IsRegrouped e e') (kept : IsSteady (marked s n g m)) where
  from : 1 ≤ n
  from = (open_there s.rows n entry.opened).0

  to : n ≤ length s.rows
  to = (open_there s.rows n entry.opened).1

  few : g < length (row s.rows n).marks
  few = omega (arith, low, (is.steady.tended.shapes n).marks)

  abbrev t : State
  t = marked s n g m

  abbrev p : ℕ
  p = is.places n

  abbrev table' : List (Option OpenRow)
  table' = slice_set a.table p (Some e')

  number : e'.number ≡ n
  number = ap (λ (x : OpenRow). x.number) regrouped.same ∙ entry.its.number

  module _ (groups : (h : ℕ) → h < GROUPS → IsGroup t.rows n h (group e'.groups h)) where
    its_row : IsRow t.rows is.places n e'
    its_row = IsRow-marked s.rows n g m from to few is.places n e e' regrouped.same (regrouped.long ∙ entry.its.all_groups) groups entry.its

    rows : AreRows t.rows is.places table'
    rows = record {
      each = λ x opened.
          let its = is.table.each x (sym (opens s.rows n g m from to few x) ∙ opened) in
          let within : is.places x < length table' = omega (arith, its.within, length-set a.table p (Some e')) in
          elim (cases_eq x n) [
            | inl same ↦ record { within = within; entry = e'; there = ap (λ k. at_place table' (is.places k)) same ∙ at_same a.table p (Some e') entry.within; is = rw same its_row }
            | inr other ↦
                let apart : is.places x ≢ p = λ both. other
                (sym its.is.number ∙ ap (λ (y : OpenRow). y.number) (some_is its.entry e (sym its.there ∙ ap (at_place a.table) both ∙ entry.there)) ∙ entry.its.number) in
                record {
                  within = within;
                  entry = its.entry;
                  there = at_other a.table p (Some e') entry.within (is.places x) apart ∙ its.there;
                  is =
                      IsRow-other s.rows n g m from to few is.places x its.entry other its.is;
                }
          ];
      only = λ q x here. elim (cases_eq q p) [
        | inl same ↦
            let x_is : e' ≡ x = some_is e' x (sym (at_same a.table p (Some e') entry.within) ∙ ap (at_place table') (sym same) ∙ here) in
            let number_is : x.number ≡ n = sym (ap (λ (y : OpenRow). y.number) x_is) ∙ number in
            (rw number_is (opens s.rows n g m from to few n ∙ entry.opened), ap is.places number_is ∙ sym same)
        | inr other ↦
            let its = is.table.only q x (sym (at_other a.table p (Some e') entry.within q other) ∙ here) in
            (opens s.rows n g m from to few x.number ∙ its.0, its.1)
      ];
    }

    free : AreFree t.rows a.config.rows table'
    free = record {
      long = length-set a.table p (Some e') ∙ is.free.long;
      count = open_rows-marked s.rows n g m from to few ∙ is.free.count ∙ sym (same_taken a.table p e e' entry.within entry.there);
    }

    nests : AreNests t.rows is.places a.config.slots a.nests
    nests = record {
      long = is.nests.long;
      each = λ x slot h live.
          let its = is.nests.each x slot h (sym (part s.rows n g m from to few (λ (q : Row). q.phase) refl x) ∙ live) in
          (its.0, its.1, its.2 ∙ ap Some (sym (nested_of-marked s.rows n g m from to few is.places x)));
      only = λ slot h least most.
          let found = is.nests.only slot h least most in
          (found.0, part s.rows n g m from to few (λ (q : Row). q.phase) refl found.0 ∙ found.1);
    }

    tags : AreTagged t.rows is.places table' a.regions
    tags = record {
      long = is.tags.long ∙ sym (length-set a.table p (Some e'));
      each = λ q. is.tags.each q ∙ sym (option-same (tagged_of t.rows is.places) (tagged_of s.rows is.places) (at_place a.table q) (λ x. tagged_of-marked s.rows n g m from to few is.places x)) ∙
          elim (cases_eq q p) [
            | inl same ↦
                let of_number : ℕ → Tagged = λ k. record { number = k; tag = tag_of t.rows is.places k; around = around_of t.rows is.places (row t.rows k).kind } in
                let tagged : tagged_of t.rows is.places e ≡ tagged_of t.rows is.places e' = ap of_number (entry.its.number ∙ sym number) in
                ap (λ k. option_map (tagged_of t.rows is.places) (at_place a.table k)) same ∙ ap (option_map (tagged_of t.rows is.places)) entry.there ∙ ap Some tagged ∙
                sym (ap (λ k. option_map (tagged_of t.rows is.places) (at_place table' k)) same ∙ ap (option_map (tagged_of t.rows is.places)) (at_same a.table p (Some e') entry.within))
            | inr other ↦ sym (ap (option_map (tagged_of t.rows is.places)) (at_other a.table p (Some e') entry.within q other))
          ];
    }

    entry_contexts : (q : ℕ) (x : OpenRow) → at_place table' q ≡ Some x →
        (x.context ≡ is.assigned.of_row x.number) × ((h : ℕ) → h < GROUPS → slice_index_or x.group_contexts h None ≡ is.assigned.of_group x.number h)
    entry_contexts q x here = elim (cases_eq q p) [
      | inl same ↦
          let x_is : e' ≡ x = some_is e' x (sym (at_same a.table p (Some e') entry.within) ∙ ap (at_place table') (sym same) ∙ here) in
          let P : OpenRow → Type 0 = λ y. (y.context ≡ is.assigned.of_row y.number) × ((h : ℕ) → h < GROUPS → slice_index_or y.group_contexts h None ≡ is.assigned.of_group y.number h) in
          subst P x_is (subst P (sym regrouped.same) (is.contexts.in_table p e entry.there))
      | inr other ↦ is.contexts.in_table q x (sym (at_other a.table p (Some e') entry.within q other) ∙ here)
    ]

    pub marked_holds : (forest : Forest) → length forest ≡ length a.contexts → IsRequested a.contexts forest is.assigned n g m → (is.assigned.of_group n g ≡ None → is_used t.rows n g ≡ false) →
        Holds (record a { table = table'; contexts = forest }) t
    marked_holds forest long asked unused =
        let held : held_by (Some e') ≡ held_by (Some e) = ap (λ (x : OpenRow). held_by (Some x)) regrouped.same in
        record {
          config = is.config;
          places = is.places;
          assigned = is.assigned;
          made = is.made ∙ sym (sources s.rows n g m from to few).long;
          made_jobs = is.made_jobs;
          table = rows;
          free = free;
          nests = nests;
          tags = tags;
          waiting = is.waiting ∙ ap (λ ws. let r : Ready = record { isolation = a.config.isolation; limit = a.config.rows; slots = a.config.slots; rows = ws } in r)
              (waiting-marked s.rows n g m from to few is.places started);
          contexts = AreContexts-marked s n g m from to few (length a.jobs) a.table a.contexts forest is.assigned is.contexts asked table' entry_contexts
              (omega (arith, sum_by-set held_by a.table p (Some e') None entry.within, ap held_by entry.there, held)) unused;
          room = long ∙ is.room;
          jobs = AreJobs-marked s n g m from to few is.assigned a.jobs is.jobs;
          cells = is.cells;
          entries = is.entries;
          epoch = is.epoch;
          steady = kept;
        }
