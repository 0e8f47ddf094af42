-- What is held stands for the state with one row more that is born dropped, in a group whose context is there.
use Rattle.std.proofs.Common.{◌≡◌, ◌≢◌, ℕ, ◌+◌, ◌-◌, ◌==◌, ◌<◌, ◌≤◌, List, length, length-set, Option, Some, None, true, false, refl, sym, ap, ◌∙◌, arith, inl, inr, subst}
use Rattle.std.specs.Prelude.{slice_set}
use Rattle.std.specs.Option.{option_map}
use Rattle.std.proofs.lemmas.Bool.{cases_eq}
use Rattle.std.proofs.lemmas.List.{set-set, get_or-set_same, get_or-set_other}
use Rattle.std.proofs.lemmas.List.Sums.{sum_by-set}
use Rattle.job_language.specs.declared.instructions.TheConstants.{GROUPS}
use Rattle.job_step.specs.declared.frames.Frame.{Frame}
use Rattle.task_group.specs.Groups.{Group, group, unused}
use Rattle.tenant_model.specs.declared.rows.Kind.TheVariants.{Spawned}
use Rattle.tenant_model.specs.declared.rows.Phase.TheVariants.{Dropped}
use Rattle.tenant_model.specs.declared.rows.Row.{Row}
use Rattle.tenant_model.specs.State.{State, row}
use Rattle.tenant_model.specs.Walks.{is_spawned_by, top}
use Rattle.tenant_model.specs.Changes.{new_row, add_row}
use Rattle.tenant_model.specs.Linked.{MakersPrecede}
use Rattle.tenant_model.specs.Sound.{IsSteady, IsSettled}
use Rattle.tenant_model.proofs.Changed.{row-push_old}
use Rattle.arena_rows.specs.declared.rows.OpenRow.{OpenRow}
use Rattle.arena_rows.specs.Held.{Held}
use Rattle.arena_rows.specs.MarkedGroups.{with_ended_member}
use Rattle.arena_rows.specs.HeldChanges.{with_entry}
use Rattle.arena_rows.specs.Represents.{at_place, source_of, stage_of, tagged_of, IsGroup, IsRow, AreRows, held_by, Holds}
use Rattle.arena_rows.proofs.FreePlaces.{same_taken}
use Rattle.arena_rows.proofs.ClosedRow.{IsTableAfter, was, still, closed_holds, closed_settled}
use Rattle.arena_rows.proofs.Grouped.{IsEntry}
use Rattle.arena_rows.proofs.Pushing.{IsRow-pushed}
use Rattle.arena_rows.proofs.PushedRows.{IsGroup-same, IsGroup-joined}
use Rattle.arena_rows.proofs.Started.{at_same, at_other, some_is, some_none}
use Rattle.arena_rows.proofs.TopRows.{top_there}

no_more : (k : ℕ) → k + 0 ≡ k
no_more k = omega arith

-- a member added that has ended already
pub added_ended : (gs joined left : List Group) (g : ℕ) → g < length gs → joined ≡ slice_set gs g (record (group gs g) { pending = (group gs g).pending + 1; is_used = true }) →
    left ≡ slice_set joined g (record (group joined g) { pending = (group joined g).pending - 1 }) → left ≡ slice_set gs g (record (group gs g) { is_used = true })
added_ended gs joined left g within adds drops =
    let x : Group = record (group gs g) { pending = (group gs g).pending + 1; is_used = true } in
    let at : ℕ → Group = λ k. record (group gs g) { pending = k; is_used = true } in
    let less : Group → Group = λ y. record y { pending = y.pending - 1 } in
    let here : group joined g ≡ x = ap (λ js. group js g) adds ∙ get_or-set_same gs g x unused within in
    let back : (group gs g).pending + 1 - 1 ≡ (group gs g).pending = omega arith in
    drops ∙ ap (λ y. slice_set joined g (less y)) here ∙ ap (λ js. slice_set js g (less x)) adds ∙ set-set gs g x (less x) ∙ ap (λ k. slice_set gs g (at k)) back

pub one_pending : (gs joined : List Group) (g : ℕ) → g < length gs → joined ≡ slice_set gs g (record (group gs g) { pending = (group gs g).pending + 1; is_used = true }) → 0 < (group joined g).pending
one_pending gs joined g within adds =
    let x : Group = record (group gs g) { pending = (group gs g).pending + 1; is_used = true } in
    let here : group joined g ≡ x = ap (λ js. group js g) adds ∙ get_or-set_same gs g x unused within in
    rw here (omega arith)

module _ (a : Held) (s : State) (is : Holds a s) (slot n g c : ℕ) (f : Frame) (me : OpenRow) (on_top : top s.rows slot ≡ Some n) (entry : IsEntry a s is n me) (low : g < GROUPS)
    (given : is.assigned.of_group n g ≡ Some c)
    (kept : IsSteady (add_row s (new_row (Spawned n g) (row s.rows n).job (Some slot) f Dropped))) where
  abbrev r : Row
  r = new_row (Spawned n g) (row s.rows n).job (Some slot) f Dropped

  abbrev t : State
  t = add_row s r

  abbrev N : ℕ
  N = length s.rows + 1

  abbrev p : ℕ
  p = is.places n

  abbrev me' : OpenRow
  me' = with_ended_member g me

  abbrev table' : List (Option OpenRow)
  table' = slice_set a.table p (Some me')

  precede : MakersPrecede s.rows
  precede = is.steady.formed.linked.makers

  precede' : MakersPrecede t.rows
  precede' = kept.formed.linked.makers

  to : n ≤ length s.rows
  to = (top_there a s is slot n on_top).1

  joins : is_spawned_by n g r.kind ≡ true
  joins = let same : (n == n) ≡ true = grind arith in let its : (g == g) ≡ true = grind arith in rw (same, its) refl

  other_group : (h : ℕ) → h ≢ g → is_spawned_by n h r.kind ≡ false
  other_group h other = let apart : (g == h) ≡ false = grind (arith, other) in let same : (n == n) ≡ true = grind arith in rw (same, apart) refl

  other_row : (m h : ℕ) → m ≢ n → is_spawned_by m h r.kind ≡ false
  other_row m h other = let apart : (n == m) ≡ false = grind (arith, other) in rw apart refl

  -- the maker's groups
  groups : (h : ℕ) → h < GROUPS → IsGroup t.rows n h (group me'.groups h)
  groups h few = elim (cases_eq h g) [
    | inl same ↦
        let new : group me'.groups g ≡ record (group me.groups g) { is_used = true } = get_or-set_same me.groups g _ unused (omega (arith, low, entry.its.all_groups)) in
        let joined : IsGroup t.rows n g (record (group me.groups g) { pending = (group me.groups g).pending + 0; is_used = true }) =
        IsGroup-joined s.rows r precede precede' n g (group me.groups g) to (is.steady.formed.marked n g) joins refl (entry.its.groups g low) in
        let its : IsGroup t.rows n g (record (group me.groups g) { is_used = true }) =
        subst (λ k. let it : Group = record (group me.groups g) { pending = k; is_used = true } in IsGroup t.rows n g it) (no_more (group me.groups g).pending) joined in
        rw (same, new) its
    | inr other ↦
        let old : group me'.groups h ≡ group me.groups h = get_or-set_other me.groups g h _ unused other in
        rw old (IsGroup-same s.rows r precede precede' n h (group me.groups h) to (other_group h other) (entry.its.groups h few))
  ]

  maker_now : IsRow t.rows is.places n me'
  maker_now =
      let old : row t.rows n ≡ row s.rows n = row-push_old s.rows n r to in
      record {
        number = entry.its.number;
        source = entry.its.source ∙ sym (ap (λ (q : Row). source_of is.places q.kind) old);
        job = entry.its.job ∙ sym (ap (λ (q : Row). q.job) old);
        made_on = entry.its.made_on ∙ sym (ap (λ (q : Row). q.made_on) old);
        stage = entry.its.stage ∙ sym (ap (λ (q : Row). stage_of q.frame q.phase) old);
        groups = groups;
        all_groups = length-set me.groups g _ ∙ entry.its.all_groups;
        all_contexts = entry.its.all_contexts;
      }

  rows : AreRows t.rows is.places table'
  rows = record {
    each = λ x opened.
        let old = was s r refl x opened in
        let its = is.table.each x old.2 in
        let within : is.places x < length table' = omega (arith, its.within, length-set a.table p (Some me')) in
        elim (cases_eq x n) [
          | inl same ↦ record { within = within; entry = me'; there = ap (λ k. at_place table' (is.places k)) same ∙ at_same a.table p (Some me') entry.within; is = rw same maker_now }
          | inr other ↦
              let apart : is.places x ≢ p = λ both. other
              (sym its.is.number ∙ ap (λ (y : OpenRow). y.number) (some_is its.entry me (sym its.there ∙ ap (at_place a.table) both ∙ entry.there)) ∙ entry.its.number) in
              record {
                within = within;
                entry = its.entry;
                there = at_other a.table p (Some me') entry.within (is.places x) apart ∙ its.there;
                is =
                    IsRow-pushed s.rows r precede precede' is.places x its.entry old.1 (λ h few. other_row x h other) its.is;
              }
        ];
    only = λ q x here. elim (cases_eq q p) [
      | inl same ↦
          let x_is : me' ≡ x = some_is me' x (sym (at_same a.table p (Some me') entry.within) ∙ ap (at_place table') (sym same) ∙ here) in
          let number : x.number ≡ n = sym (ap (λ (y : OpenRow). y.number) x_is) ∙ entry.its.number in
          (rw number (still s r n entry.opened), ap is.places number ∙ sym same)
      | inr other ↦
          let its = is.table.only q x (sym (at_other a.table p (Some me') entry.within q other) ∙ here) in
          (still s r x.number its.0, its.1)
    ];
  }

  after : IsTableAfter a s is r table'
  after = record {
    long = length-set a.table p (Some me');
    rows = rows;
    taken = same_taken a.table p me me' entry.within entry.there;
    tags = λ q. elim (cases_eq q p) [
      | inl same ↦
          ap (λ k. option_map (tagged_of s.rows is.places) (at_place table' k)) same ∙ ap (option_map (tagged_of s.rows is.places)) (at_same a.table p (Some me') entry.within) ∙
          sym (ap (λ k. option_map (tagged_of s.rows is.places) (at_place a.table k)) same ∙ ap (option_map (tagged_of s.rows is.places)) entry.there)
      | inr other ↦ ap (option_map (tagged_of s.rows is.places)) (at_other a.table p (Some me') entry.within q other)
    ];
    contexts = λ q x here. elim (cases_eq q p) [
      | inl same ↦ let x_is : me' ≡ x = some_is me' x (sym (at_same a.table p (Some me') entry.within) ∙ ap (at_place table') (sym same) ∙ here) in rw (← x_is) (is.contexts.in_table p me entry.there)
      | inr other ↦ is.contexts.in_table q x (sym (at_other a.table p (Some me') entry.within q other) ∙ here)
    ];
    held = omega (arith, sum_by-set held_by a.table p (Some me') None entry.within, ap held_by entry.there);
    joins = λ x h is_none. elim (cases_eq x n) [
      | inl same ↦ elim (cases_eq h g) [
        | inl both ↦ absurd (some_none c (sym given ∙ ap (λ k. is.assigned.of_group k g) (sym same) ∙ ap (is.assigned.of_group x) (sym both) ∙ is_none))
        | inr other ↦ ap (λ k. is_spawned_by k h r.kind) same ∙ other_group h other
      ]
      | inr other ↦ other_row x h other
    ];
  }

  -- A row born dropped.
  pub born_holds : Holds (record (with_entry a p me') { made = a.made + 1 }) t
  born_holds = closed_holds a s is r refl refl table' after kept

  pub born_settled : IsSettled s → IsSettled t
  born_settled settled = closed_settled a s is r refl refl table' after kept settled
