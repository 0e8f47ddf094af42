-- A group cancelled, and a wait that passed.
use Rattle.std.proofs.Common.{◌≡◌, ℕ, ◌<◌, ◌≤◌, List, length, length-set, Some, None, Bool, true, false, refl, sym, ap, ◌∙◌, arith, inl, inr, subst}
use Rattle.std.specs.Prelude.{slice_set}
use Rattle.std.proofs.lemmas.Bool.{cases_eq}
use Rattle.std.proofs.lemmas.List.{set-get_or, get_or-set_same, get_or-set_other}
use Rattle.job_language.specs.declared.instructions.TheConstants.{GROUPS}
use Rattle.job_step.specs.declared.frames.Frame.{Frame}
use Rattle.cancel_context.specs.Forest.{Forest, binding, held_count, with_request, asking}
use Rattle.cancel_context.proofs.Chains.{IsHeld-within}
use Rattle.task_group.specs.Groups.{group, unused}
use Rattle.tenant_model.specs.declared.rows.Mark.{Mark}
use Rattle.tenant_model.specs.declared.rows.Row.{Row}
use Rattle.tenant_model.specs.State.{State, row, with_at_number}
use Rattle.tenant_model.specs.Walks.{is_open, is_unstarted, is_pending, mark, top}
use Rattle.tenant_model.specs.Changes.{with_frame, on_row}
use Rattle.tenant_model.specs.Sound.{IsSteady, IsSettled}
use Rattle.tenant_model.proofs.Changed.{row-with_same, with_at_number-twice}
use Rattle.tenant_model.proofs.Steady.{steady_cancelled, steady_waited}
use Rattle.arena_rows.specs.declared.rows.OpenRow.{OpenRow}
use Rattle.arena_rows.specs.Held.{Held}
use Rattle.arena_rows.specs.HeldChanges.{framed, with_entry}
use Rattle.arena_rows.specs.MarkedGroups.{marked, cancelled_mark, passed_mark, requested, with_group_emptied}
use Rattle.arena_rows.specs.Represents.{bound, IsGroupContext, Holds, Rests}
use Rattle.arena_rows.proofs.Grouped.{IsEntry}
use Rattle.arena_rows.proofs.MarkedContexts.{IsRequested, IsSettled-marked}
use Rattle.arena_rows.proofs.MarkedHeld.{marked_holds}
use Rattle.arena_rows.proofs.MarkedRows.{mark_here, mark_cases, IsGroup-marked, IsGroup-passed, unused-marked}
use Rattle.arena_rows.proofs.Moves.{framed_holds, framed_settled}
use Rattle.arena_rows.proofs.SameTop.{same_top}
use Rattle.arena_rows.proofs.Started.{some_is, some_none}
use Rattle.arena_rows.proofs.TopRows.{top_there, top_at, on_slot}

module _ (a : Held) (s : State) (is : Holds a s) (n g : ℕ) (m : Mark) (opened : is_open (row s.rows n).phase ≡ true) (low : g < GROUPS) where
  -- The request of the group's context as the mark says.
  pub with_context : (c : ℕ) (asked : Bool) → is.assigned.of_group n g ≡ Some c → m.cancelled ≡ asked → held_count (with_request a.contexts c asked) ≡ held_count a.contexts →
      IsRequested a.contexts (with_request a.contexts c asked) is.assigned n g m
  with_context c asked given says count =
      let its : IsGroupContext s a.contexts is.assigned n g (Some c) = rw given at (is.contexts.of_groups n g opened low) in
      let inside : c < length a.contexts = IsHeld-within a.contexts c (rw its.1 refl) in
      let new : binding (with_request a.contexts c asked) c ≡ Some (bound (is.assigned.of_row n) asked) =
      get_or-set_same a.contexts c (asking asked (binding a.contexts c)) None inside ∙ ap (asking asked) its.1 in
      record {
        others = λ d other. get_or-set_other a.contexts c d (asking asked (binding a.contexts c)) None (λ same. other (ap is.assigned.owner same ∙ its.0));
        here = λ d its_d. let same : c ≡ d = some_is c d (sym given ∙ its_d) in
            ap (binding (with_request a.contexts c asked)) (sym same) ∙ new ∙ ap (λ b. Some (bound (is.assigned.of_row n) b)) (sym says);
        none = λ none. absurd (some_none c (sym given ∙ none));
        held = λ d held_d. elim (cases_eq d c) [
          | inl same ↦ rw (same, its.1) refl
          | inr other ↦ let rest = get_or-set_other a.contexts c d (asking asked (binding a.contexts c)) None other in rw rest at held_d
        ];
        count = count;
      }

  -- A group without a context is not cancelled.
  pub without_context : is.assigned.of_group n g ≡ None → m.cancelled ≡ false → IsRequested a.contexts a.contexts is.assigned n g m
  without_context none fine = record {
    others = λ d other. refl;
    here = λ c given. absurd (some_none c (sym given ∙ none));
    none = λ _. fine;
    held = λ d held_d. held_d;
    count = refl;
  }

module _ (a : Held) (s : State) (is : Holds a s) (slot n : ℕ) (on_top : top s.rows slot ≡ Some n) (g : ℕ) (low : g < GROUPS) where
  started : is_unstarted (row s.rows n).phase ≡ false
  started = let live = (top_at a s is slot n on_top).live in rw live refl

  from : 1 ≤ n
  from = (top_there a s is slot n on_top).0

  to : n ≤ length s.rows
  to = (top_there a s is slot n on_top).1

  marks : g < length (row s.rows n).marks
  marks = omega (arith, low, (is.steady.tended.shapes n).marks)

  -- The frame moved on after a mark.
  module _ (m : Mark) (f : Frame) where
    abbrev after : State
    after = on_row s n (λ r. record r { frame = f; marks = slice_set r.marks g m })

    after_is : with_frame (marked s n g m) n f ≡ after
    after_is =
        let r : Row = record (row s.rows n) { marks = slice_set (row s.rows n).marks g m } in
        let at : List Row → Row → State = λ rows q. record s { rows = with_at_number rows n (record q { frame = f }) } in
        ap (at (with_at_number s.rows n r)) (row-with_same s.rows n r from to) ∙ ap (λ rows. let t : State = record s { rows = rows } in t) (with_at_number-twice s.rows n r (record r { frame = f }))

    pub moved_on : (b : Held) → b.nests ≡ a.nests → Holds b (marked s n g m) → IsSteady after → Holds (framed b slot f) after
    moved_on b nests now kept =
        let t = marked s n g m in
        let top_now : top t.rows slot ≡ Some n = same_top a b s t is now slot n nests on_top in
        let steady : IsSteady (with_frame t n f) = subst IsSteady (sym after_is) kept in
        subst (Holds (framed b slot f)) after_is (framed_holds b t now slot n f (on_slot b t now slot n top_now) top_now steady)

    pub rests_on : (b : Held) → b.nests ≡ a.nests → Rests b (marked s n g m) → IsSteady after → Rests (framed b slot f) after
    rests_on b nests now kept =
        let t = marked s n g m in
        let top_now : top t.rows slot ≡ Some n = same_top a b s t is now.holds slot n nests on_top in
        let within = on_slot b t now.holds slot n top_now in
        let steady : IsSteady (with_frame t n f) = subst IsSteady (sym after_is) kept in
        subst (Rests (framed b slot f)) after_is
        (record { holds = framed_holds b t now.holds slot n f within top_now steady; settled = framed_settled b t now.holds slot n f within top_now steady now.settled })

  module _ (e : OpenRow) (entry : IsEntry a s is n e) where
    -- A group whose context is there, cancelled.
    cancelled_steady : IsSteady (marked s n g (cancelled_mark s n g))
    cancelled_steady = steady_cancelled s slot n (top_at a s is slot n on_top) is.steady (row s.rows n).frame g refl

    pub cancelled_holds : (c : ℕ) → is.assigned.of_group n g ≡ Some c → held_count (with_request a.contexts c true) ≡ held_count a.contexts →
        Holds (requested a c true) (marked s n g (cancelled_mark s n g))
    cancelled_holds c given count =
        let m = cancelled_mark s n g in
        let p = is.places n in
        let same_table : slice_set a.table p (Some e) ≡ a.table = ap (slice_set a.table p) (sym entry.there) ∙ set-get_or a.table p None in
        let since : (h : ℕ) → (mark (marked s n g m).rows n h).rows ≡ (mark s.rows n h).rows = λ h. elim (mark_cases s.rows n g m from to marks n h) [
          | inl both ↦ ap (λ k. (mark (marked s n g m).rows n k).rows) both.1 ∙ ap (λ (k : Mark). k.rows) (mark_here s.rows n g m from to marks) ∙ ap (λ k. (mark s.rows n k).rows) (sym both.1)
          | inr apart ↦ ap (λ (k : Mark). k.rows) apart.1
        ] in
        let holds = marked_holds a s is n g m e e entry started low (record { same = refl; long = refl }) cancelled_steady
        (λ h within. IsGroup-marked s.rows n g m from to marks n h (group e.groups h) (since h) (entry.its.groups h within))
        (with_request a.contexts c true) (length-set a.contexts c (asking true (binding a.contexts c))) (with_context a s is n g m entry.opened low c true given refl count)
        (λ none. absurd (some_none c (sym given ∙ none))) in
        subst (λ x. let b : Held = record a { table = x; contexts = with_request a.contexts c true } in Holds b (marked s n g m)) same_table holds

    -- A wait that passed.
    passed_steady : is_pending s.rows n g ≡ false → IsSteady (marked s n g (passed_mark s))
    passed_steady ended = steady_waited s slot n (top_at a s is slot n on_top) is.steady (row s.rows n).frame g refl ended

    pub passed_holds : is_pending s.rows n g ≡ false → (forest : Forest) → length forest ≡ length a.contexts → IsRequested a.contexts forest is.assigned n g (passed_mark s) →
        Holds (record (with_entry a (is.places n) (with_group_emptied g e)) { contexts = forest }) (marked s n g (passed_mark s))
    passed_holds ended forest long asked =
        let m = passed_mark s in
        let within : g < length e.groups = omega (arith, low, entry.its.all_groups) in
        marked_holds a s is n g m e (with_group_emptied g e) entry started low (record { same = refl; long = length-set e.groups g unused }) (passed_steady ended)
        (λ h few_h. elim (cases_eq h g) [
          | inl same ↦
              let new : group (slice_set e.groups g unused) g ≡ unused = get_or-set_same e.groups g unused unused within in
              rw (same, new) (IsGroup-passed s.rows n g m from to marks refl)
          | inr other ↦
              let old : group (slice_set e.groups g unused) h ≡ group e.groups h = get_or-set_other e.groups g h unused unused other in
              let since : (mark (marked s n g m).rows n h).rows ≡ (mark s.rows n h).rows = elim (mark_cases s.rows n g m from to marks n h) [
                | inl both ↦ absurd (other both.1)
                | inr apart ↦ ap (λ (k : Mark). k.rows) apart.1
              ] in
              rw old (IsGroup-marked s.rows n g m from to marks n h (group e.groups h) since (entry.its.groups h few_h))
        ]) forest long asked (λ none. unused-marked s.rows n g m from to marks refl)

    pub passed_settled : IsSettled s → IsSettled (marked s n g (passed_mark s))
    passed_settled settled = IsSettled-marked s n g (passed_mark s) from to marks refl settled
