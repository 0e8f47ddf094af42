-- The table after a member of a group has ended.
use Rattle.std.proofs.Common.{◌≡◌, ◌≢◌, ℕ, ◌-◌, ◌==◌, ◌<◌, ◌≤◌, ℤ, List, length, Option, Some, None, true, false, refl, sym, ap, ◌∙◌, arith, inl, inr, length-set, subst}
use Rattle.std.specs.Prelude.{IfSome, slice_index_or, slice_set, sum_by, if◌then◌else◌}
use Rattle.std.specs.Option.{option_map}
use Rattle.std.specs.Int.{int_wrapping_add, w64}
use Rattle.std.proofs.lemmas.Bool.{cases_eq, cases_lt}
use Rattle.std.proofs.lemmas.List.{get_or-set_same, get_or-set_other, set_past}
use Rattle.std.proofs.lemmas.List.Sums.{sum_by-set}
use Rattle.job_language.specs.declared.instructions.TheConstants.{GROUPS}
use Rattle.task_group.specs.Groups.{Group, group, unused}
use Rattle.tenant_model.specs.declared.rows.Kind.{Kind}
use Rattle.tenant_model.specs.declared.rows.Kind.TheVariants.{Root, Posted, Spawned, Region}
use Rattle.tenant_model.specs.declared.rows.Row.{Row}
use Rattle.tenant_model.specs.State.{State, row, with_at_number}
use Rattle.tenant_model.specs.Walks.{maker_of, is_open, is_spawned_by, mark, value_in}
use Rattle.tenant_model.proofs.AttendedSteps.{open_there}
use Rattle.arena_rows.specs.declared.rows.OpenRow.{OpenRow}
use Rattle.arena_rows.specs.declared.rows.Source.{Source}
use Rattle.arena_rows.specs.Held.{Held}
use Rattle.arena_rows.specs.Represents.{at_place, source_of, stage_of, tagged_of, IsGroup, IsRow, held_by, Holds}
use Rattle.arena_rows.specs.Endings.{member_left, is_of_row, open_maker, parted_by, parted, number_at}
use Rattle.arena_rows.proofs.Closed.{row_old, IsGroup-other, IsGroup-left}
use Rattle.arena_rows.proofs.FreePlaces.{same_taken}
use Rattle.arena_rows.proofs.Grouped.{IsEntry, is_entry}
use Rattle.arena_rows.proofs.Started.{at_same, at_other, some_is, some_none}
use Rattle.arena_rows.proofs.TableClosed.{IsParted}

-- what is asked of the table before the entry of the row is taken out
pub record PartedAs (a : Held) (s : State) (is : Holds a s) (n : ℕ) (e : OpenRow) (r : Row) (table1 : List (Option OpenRow)) : Type 0 where
  pub parted : IsParted s.rows (with_at_number s.rows n r) is.places n e a.table table1
  pub in_table : (q : ℕ) (x : OpenRow) → at_place table1 q ≡ Some x →
      (x.context ≡ is.assigned.of_row x.number) × ((g : ℕ) → g < GROUPS → slice_index_or x.group_contexts g None ≡ is.assigned.of_group x.number g)
  pub sum : sum_by held_by table1 ≡ sum_by held_by a.table

module _ (a : Held) (s : State) (is : Holds a s) (n : ℕ) (e : OpenRow) (entry : IsEntry a s is n e) (r : Row) (kind : r.kind ≡ (row s.rows n).kind) (same_job : r.job ≡ (row s.rows n).job)
    (marks : r.marks ≡ (row s.rows n).marks) (closed : is_open r.phase ≡ false) (v : ℤ) (value : value_in r.phase ≡ v) where
  there_n : (1 ≤ n) × (n ≤ length s.rows)
  there_n = open_there s.rows n entry.opened

  abbrev rows' : List Row
  rows' = with_at_number s.rows n r

  old : (m : ℕ) → m ≢ n → row rows' m ≡ row s.rows m
  old m other = row_old s.rows n r there_n.0 there_n.1 kind same_job marks m other

  is_row : (m : ℕ) (x : OpenRow) → m ≢ n → IsRow s.rows is.places m x → ((g : ℕ) → g < GROUPS → IsGroup rows' m g (group x.groups g)) → IsRow rows' is.places m x
  is_row m x other its groups = record {
    number = its.number;
    source = its.source ∙ sym (ap (λ (q : Row). source_of is.places q.kind) (old m other));
    job = its.job ∙ sym (ap (λ (q : Row). q.job) (old m other));
    made_on = its.made_on ∙ sym (ap (λ (q : Row). q.made_on) (old m other));
    stage = its.stage ∙ sym (ap (λ (q : Row). stage_of q.frame q.phase) (old m other));
    groups = groups;
    all_groups = its.all_groups;
    all_contexts = its.all_contexts;
  }

  group_other : (m g : ℕ) (it : Group) → is_spawned_by m g (row s.rows n).kind ≡ false → IsGroup s.rows m g it → IsGroup rows' m g it
  group_other m g it apart its = IsGroup-other s.rows n r there_n.0 there_n.1 kind same_job marks m g it apart its

  -- No row that is open made it into one of its groups.
  pub parted_alone : ((m g : ℕ) → is_open (row s.rows m).phase ≡ true → is_spawned_by m g (row s.rows n).kind ≡ false) → PartedAs a s is n e r a.table
  parted_alone alone = record {
    parted = record {
      long = refl;
      each = λ m other opened_m.
          let its = is.table.each m opened_m in
          record {
            within = its.within;
            entry = its.entry;
            there = its.there;
            is =
                is_row m its.entry other its.is (λ g few. group_other m g (group its.entry.groups g) (alone m g opened_m) (its.is.groups g few));
          };
      only = is.table.only;
      tags = λ q. refl;
      taken = refl;
      there = entry.there;
      number = entry.its.number;
    };
    in_table = is.contexts.in_table;
    sum = refl;
  }

  -- Its maker is open.
  module _ (f g : ℕ) (made : (row s.rows n).kind ≡ Spawned f g) (em : OpenRow) (at_maker : at_place a.table (is.places f) ≡ Some em) (number : em.number ≡ f) where
    abbrev pub em' : OpenRow
    em' = member_left g v em

    abbrev p : ℕ
    p = is.places f

    abbrev table1 : List (Option OpenRow)
    table1 = slice_set a.table p (Some em')

    maker_open : is_open (row s.rows f).phase ≡ true
    maker_open = ap (λ k. is_open (row s.rows k).phase) (sym number) ∙ (is.table.only p em at_maker).0

    maker : IsEntry a s is f em
    maker = is_entry a s is f em maker_open at_maker

    before : f ≢ n
    before same = let earlier : IfSome (Some f) (λ m. (1 ≤ m) × (m < n)) = rw (ap maker_of made) at (is.steady.formed.linked.makers n there_n.0 there_n.1) in omega (arith, earlier, same)

    few_g : g < GROUPS
    few_g = is.steady.stay.groups n f g made

    since : (mark s.rows f g).rows < n
    since = elim (cases_lt (mark s.rows f g).rows n) [
      | inl fine ↦ fine
      | inr late ↦ absurd (let over : is_open (row s.rows n).phase ≡ false = is.steady.tended.past n f g made late in grind (arith, over, entry.opened))
    ]

    own_group : is_spawned_by f g (row s.rows n).kind ≡ true
    own_group = let same_f : (f == f) ≡ true = grind arith in let same_g : (g == g) ≡ true = grind arith in rw (made, same_f, same_g) refl

    other_group : (h : ℕ) → h ≢ g → is_spawned_by f h (row s.rows n).kind ≡ false
    other_group h other = let same_f : (f == f) ≡ true = grind arith in let apart : (g == h) ≡ false = grind (arith, other) in rw (made, same_f, apart) refl

    other_maker : (m h : ℕ) → m ≢ f → is_spawned_by m h (row s.rows n).kind ≡ false
    other_maker m h other = let apart : (f == m) ≡ false = grind (arith, other) in rw (made, apart) refl

    groups_left : (h : ℕ) → h < GROUPS → IsGroup rows' f h (group em'.groups h)
    groups_left h low = elim (cases_eq h g) [
      | inl same ↦
          let it : Group = group em.groups g in
          let new : group em'.groups g ≡ record it { pending = it.pending - 1; total = int_wrapping_add w64 it.total v } =
          get_or-set_same em.groups g _ unused (omega (arith, few_g, maker.its.all_groups)) in
          let fewer : IsGroup rows' f g (record it { pending = it.pending - 1; total = int_wrapping_add w64 it.total (value_in r.phase) }) =
          IsGroup-left s.rows n r there_n.0 there_n.1 kind same_job marks entry.opened closed f g it made since (maker.its.groups g few_g) in
          let fewer_v : IsGroup rows' f g (record it { pending = it.pending - 1; total = int_wrapping_add w64 it.total v }) = rw value at fewer in
          rw (same, new) fewer_v
      | inr other ↦
          let stays : group em'.groups h ≡ group em.groups h = get_or-set_other em.groups g h _ unused other in
          rw stays (group_other f h (group em.groups h) (other_group h other) (maker.its.groups h low))
    ]

    maker_now : IsRow rows' is.places f em'
    maker_now = record {
      number = maker.its.number;
      source = maker.its.source ∙ sym (ap (λ (q : Row). source_of is.places q.kind) (old f before));
      job = maker.its.job ∙ sym (ap (λ (q : Row). q.job) (old f before));
      made_on = maker.its.made_on ∙ sym (ap (λ (q : Row). q.made_on) (old f before));
      stage = maker.its.stage ∙ sym (ap (λ (q : Row). stage_of q.frame q.phase) (old f before));
      groups = groups_left;
      all_groups = length-set em.groups g _ ∙ maker.its.all_groups;
      all_contexts = maker.its.all_contexts;
    }

    same_tag : tagged_of s.rows is.places em' ≡ tagged_of s.rows is.places em
    same_tag = refl

    places_apart : is.places n ≢ p
    places_apart same =
        let one : e ≡ em = some_is e em (sym entry.there ∙ ap (at_place a.table) same ∙ at_maker) in
        before (sym number ∙ ap (λ (x : OpenRow). x.number) (sym one) ∙ entry.its.number)

    pub parted_maker : PartedAs a s is n e r table1
    parted_maker = record {
      parted = record {
        long = length-set a.table p (Some em');
        each = λ m other opened_m.
            let its = is.table.each m opened_m in
            let within : is.places m < length table1 = omega (arith, its.within, length-set a.table p (Some em')) in
            elim (cases_eq m f) [
              | inl same ↦ record { within = within; entry = em'; there = ap (λ k. at_place table1 (is.places k)) same ∙ at_same a.table p (Some em') maker.within; is = rw same maker_now }
              | inr apart ↦
                  let elsewhere : is.places m ≢ p = λ both.
                  let one : its.entry ≡ em = some_is its.entry em (sym its.there ∙ ap (at_place a.table) both ∙ at_maker) in
                  apart (sym its.is.number ∙ ap (λ (x : OpenRow). x.number) one ∙ number) in
                  record {
                    within = within;
                    entry = its.entry;
                    there = at_other a.table p (Some em') maker.within (is.places m) elsewhere ∙ its.there;
                    is = is_row m its.entry other its.is (λ h few. group_other m h (group its.entry.groups h) (other_maker m h apart) (its.is.groups h few));
                  }
            ];
        only = λ q x here. elim (cases_eq q p) [
          | inl same ↦
              let x_is : em' ≡ x = some_is em' x (sym (at_same a.table p (Some em') maker.within) ∙ ap (at_place table1) (sym same) ∙ here) in
              let number_x : x.number ≡ f = sym (ap (λ (y : OpenRow). y.number) x_is) ∙ number in
              (rw number_x maker_open, ap is.places number_x ∙ sym same)
          | inr other ↦ is.table.only q x (sym (at_other a.table p (Some em') maker.within q other) ∙ here)
        ];
        tags = λ q. elim (cases_eq q p) [
          | inl same ↦ ap (λ k. option_map (tagged_of s.rows is.places) (at_place table1 k)) same ∙ ap (option_map (tagged_of s.rows is.places)) (at_same a.table p (Some em') maker.within) ∙
              sym (ap (λ k. option_map (tagged_of s.rows is.places) (at_place a.table k)) same ∙ ap (option_map (tagged_of s.rows is.places)) at_maker)
          | inr other ↦ ap (option_map (tagged_of s.rows is.places)) (at_other a.table p (Some em') maker.within q other)
        ];
        taken = same_taken a.table p em em' maker.within at_maker;
        there = at_other a.table p (Some em') maker.within (is.places n) places_apart ∙ entry.there;
        number = entry.its.number;
      };
      in_table = λ q x here. elim (cases_eq q p) [
        | inl same ↦ let x_is : em' ≡ x = some_is em' x (sym (at_same a.table p (Some em') maker.within) ∙ ap (at_place table1) (sym same) ∙ here) in rw (← x_is) (is.contexts.in_table p em at_maker)
        | inr other ↦ is.contexts.in_table q x (sym (at_other a.table p (Some em') maker.within q other) ∙ here)
      ];
      sum = omega (arith, sum_by-set held_by a.table p (Some em') None maker.within, ap held_by at_maker);
    }

  spawned_as : (f g : ℕ) → (row s.rows n).kind ≡ Spawned f g → (o : Option OpenRow) → at_place a.table (is.places f) ≡ o →
      PartedAs a s is n e r (parted_by a.table v (if is_of_row o f then Some (is.places f, g) else None))
  spawned_as f g made None at_maker = parted_alone (λ m h opened_m. elim (cases_eq m f) [
    | inl same ↦ absurd (let its = is.table.each m opened_m in some_none its.entry (sym its.there ∙ ap (λ k. at_place a.table (is.places k)) same ∙ at_maker))
    | inr other ↦ let apart : (f == m) ≡ false = grind (arith, other) in rw (made, apart) refl
  ])
  spawned_as f g made (Some em) at_maker = elim (cases_eq em.number f) [
    | inl same ↦
        let its : (em.number == f) ≡ true = grind (arith, same) in
        rw (its, at_maker) (parted_maker f g made em at_maker same)
    | inr different ↦
        let its : (em.number == f) ≡ false = grind (arith, different) in
        let gone : PartedAs a s is n e r a.table = parted_alone (λ m h opened_m. elim (cases_eq m f) [
          | inl same ↦
              let stands = is.table.each m opened_m in
              let one : stands.entry ≡ em = some_is stands.entry em (sym stands.there ∙ ap (λ k. at_place a.table (is.places k)) same ∙ at_maker) in
              absurd (different (ap (λ (x : OpenRow). x.number) (sym one) ∙ stands.is.number ∙ same))
          | inr other ↦ let apart : (f == m) ≡ false = grind (arith, other) in rw (made, apart) refl
        ]) in
        rw its gone
  ]

  by_kind : (k : Kind) → (row s.rows n).kind ≡ k → PartedAs a s is n e r (parted a.table (source_of is.places k) v)
  by_kind Root made = parted_alone (λ m g opened_m. rw made refl)
  by_kind Posted made = parted_alone (λ m g opened_m. rw made refl)
  by_kind (Region m) made = parted_alone (λ k g opened_k. rw made refl)
  by_kind (Spawned f g) made = spawned_as f g made (at_place a.table (is.places f)) refl

  -- The table with its maker's group as it is now.
  pub parted_as : PartedAs a s is n e r (parted a.table e.source v)
  parted_as = subst (λ source. PartedAs a s is n e r (parted a.table source v)) (sym entry.its.source) (by_kind (row s.rows n).kind refl)

numbers_by : (table : List (Option OpenRow)) (v : ℤ) (o : Option (ℕ × ℕ)) (q : ℕ) → number_at (parted_by table v o) q ≡ number_at table q
numbers_by table v None q = refl
numbers_by table v (Some p) q = elim (cases_lt p.0 (length table)) [
  | inl within ↦ elim (cases_eq q p.0) [
    | inl same ↦
        ap (λ k. number_at (slice_set table p.0 (option_map (member_left p.1 v) (at_place table p.0))) k) same ∙
        ap (option_map (λ (e : OpenRow). e.number)) (at_same table p.0 (option_map (member_left p.1 v) (at_place table p.0)) within) ∙
        by_entry p.1 (at_place table p.0) ∙ ap (number_at table) (sym same)
    | inr other ↦ ap (option_map (λ (e : OpenRow). e.number)) (at_other table p.0 (option_map (member_left p.1 v) (at_place table p.0)) within q other)
  ]
  | inr past ↦ ap (λ t. number_at t q) (set_past table p.0 (option_map (member_left p.1 v) (at_place table p.0)) past)
]
  where
    by_entry : (g : ℕ) (o : Option OpenRow) → option_map (λ (e : OpenRow). e.number) (option_map (member_left g v) o) ≡ option_map (λ (e : OpenRow). e.number) o
    by_entry g None = refl
    by_entry g (Some e) = refl

-- The rows stand where they stood.
pub parted_numbers : (table : List (Option OpenRow)) (source : Source) (v : ℤ) (q : ℕ) → number_at (parted table source v) q ≡ number_at table q
parted_numbers table source v q = numbers_by table v (open_maker table source) q

pub ended_numbers : (table : List (Option OpenRow)) (p : ℕ) (q : ℕ) (e : OpenRow) → p < length table → at_place (slice_set table p None) q ≡ Some e → number_at table q ≡ Some e.number
ended_numbers table p q e within here = elim (cases_eq q p) [
  | inl same ↦ absurd (some_none e (sym here ∙ ap (at_place (slice_set table p None)) same ∙ at_same table p None within))
  | inr other ↦ ap (option_map (λ (x : OpenRow). x.number)) (sym (at_other table p None within q other) ∙ here)
]
