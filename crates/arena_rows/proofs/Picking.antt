-- The row that a slot takes next is the definition's.
use Rattle.std.proofs.Common.{◌≡◌, ℕ, zero, suc, ◌<◌, ◌≤◌, [], length, Option, Some, None, true, false, refl, ap, ◌∙◌, arith, inl, inr, get_or}
use Rattle.std.specs.Prelude.{All, IfSome, is_some, option_and_then}
use Rattle.std.specs.Option.{option_map}
use Rattle.std.proofs.lemmas.Bool.{cases_eq, cases_lt}
use Rattle.std.proofs.lemmas.List.Elements.{All-filter, filter_passes, All-from_get_or}
use Rattle.job_language.specs.declared.errors.JobFault.{JobFault}
use Rattle.region_tag.specs.Region as tags
use Rattle.region_tag.specs.Region.{IsAroundEarlier, IsNested}
use Rattle.nest_stack.specs.declared.stack.Nested.{Nested}
use Rattle.tenant_model.specs.declared.rows.Kind.{Kind}
use Rattle.tenant_model.specs.declared.rows.Kind.TheVariants.{Root, Posted, Spawned, Region}
use Rattle.tenant_model.specs.declared.rows.Phase.{Phase}
use Rattle.tenant_model.specs.declared.rows.Phase.TheVariants.{Unstarted, Live, Done, Dropped, Faulted}
use Rattle.tenant_model.specs.State.{State, row, job}
use Rattle.tenant_model.specs.Walks.{NumberedRow, numbered_rows, is_open, is_unstarted, is_region, region_of, region_on, chain, top, pick, pick_of}
use Rattle.tenant_model.specs.Linked.{MakersPrecede}
use Rattle.job_language.specs.declared.tenants.Tenant.{Tenant}
use Rattle.tenant_model.proofs.Changed.{row-past}
use Rattle.tenant_model.proofs.Within.{region_within, within_above}
use Rattle.tenant_model.proofs.Picks.{IsNumbered, numbered_all, found_holds, top_is}
use Rattle.arena_rows.specs.declared.rows.OpenRow.{OpenRow}
use Rattle.arena_rows.specs.Held.{Held}
use Rattle.arena_rows.specs.Represents.{id_of, at_place, around_of, tagged_of, nested_of, waiting, Rests}
use Rattle.arena_rows.specs.HeldChanges.{picked}
use Rattle.arena_rows.proofs.Tops.{top_of_stack, region_there}
use Rattle.arena_rows.proofs.Picked.{pick-same}
use Rattle.arena_rows.proofs.Regions.{HasNoFault, within_there}

pub unstarted_open : (p : Phase) → is_unstarted p ≡ true → is_open p ≡ true
unstarted_open Unstarted is = refl
unstarted_open (Live t h) is = absurd (grind (arith, is))
unstarted_open (Done v) is = absurd (grind (arith, is))
unstarted_open Dropped is = absurd (grind (arith, is))
unstarted_open Faulted is = absurd (grind (arith, is))

no_fault : (o : Option JobFault) → is_some o ≡ false → o ≡ None
no_fault None none = refl
no_fault (Some f) none = absurd (grind (arith, none))

none_there : (n : ℕ) → is_open (row [] n).phase ≡ false
none_there zero = refl
none_there (suc n) = refl

module _ (a : Held) (s : State) (rests : Rests a s) where
  precede : MakersPrecede s.rows
  precede = rests.holds.steady.formed.linked.makers

  -- a row that is open is there
  there : (n : ℕ) → is_open (row s.rows n).phase ≡ true → (1 ≤ n) × (n ≤ length s.rows)
  there n opened = elim (cases_eq n 0) [
    | inl none ↦
        let no_row : is_open (row s.rows n).phase ≡ false = rw none refl in
        absurd (grind (arith, no_row, opened))
    | inr some ↦ elim (cases_lt (length s.rows) n) [
      | inl past ↦
          let no_row : is_open (row s.rows n).phase ≡ false = rw (row-past s.rows n past) (none_there n) in
          absurd (grind (arith, no_row, opened))
      | inr within ↦ (omega (arith, some), omega (arith, within))
    ]
  ]

  earlier : (m n : ℕ) (o : Option ℕ) → region_of s.rows m ≡ o → 1 ≤ m → m ≤ length s.rows → m < n → IfSome (option_map (id_of rests.holds.places) o) (λ r. r.number < n)
  earlier m n None found from to before = tt
  earlier m n (Some r) found from to before =
      let above = within_above s.rows precede m m r (omega arith) from to (region_within s.rows precede m m r (omega arith) from to found) in
      omega (arith, above)

  earlier_around : (n : ℕ) (k : Kind) → (row s.rows n).kind ≡ k → 1 ≤ n → n ≤ length s.rows → IfSome (around_of s.rows rests.holds.places k) (λ r. r.number < n)
  earlier_around n Root kind from to = tt
  earlier_around n Posted kind from to = tt
  earlier_around n (Spawned m g) kind from to = tt
  earlier_around n (Region m) kind from to =
      let before : (1 ≤ m) × (m < n) = let all : IfSome (Some m) (λ x. (1 ≤ x) × (x < n)) = rw kind at (precede n from to) in all in
      earlier m n (region_of s.rows m) refl before.0 (omega (arith, before)) before.1

  tag_earlier : (p : ℕ) (o : Option OpenRow) → at_place a.table p ≡ o → IsAroundEarlier (option_map (tagged_of s.rows rests.holds.places) o)
  tag_earlier p None here = tt
  tag_earlier p (Some e) here =
      let its = rests.holds.table.only p e here in
      let there_e = there e.number its.0 in
      earlier_around e.number (row s.rows e.number).kind refl there_e.0 there_e.1

  pub tags_nested : IsNested a.regions
  tags_nested = All-from_get_or IsAroundEarlier a.regions None (λ p below. rw (rests.holds.tags.each p) (tag_earlier p (at_place a.table p) refl))

  -- What a waiter's region rests.holds.
  region_is : (n q : ℕ) → region_of s.rows n ≡ Some q → is_region (row s.rows q).kind ≡ true
  region_is n q found = (found_holds (λ (m : ℕ). Unit {0}) (λ m. is_region (row s.rows m).kind) (chain s.rows n) q (λ k d below. tt) found).1

  region_on_is : (o : Option ℕ) (q : ℕ) → region_on s.rows o ≡ Some q → is_region (row s.rows q).kind ≡ true
  region_on_is None q found = absurd (grind (arith, ap is_some found))
  region_on_is (Some n) q found = region_is n q found

  -- the region of a slot's topmost row, as the arena finds it
  tag_on_top : (slot : ℕ) (o : Option ℕ) → top s.rows slot ≡ o →
      option_and_then (λ (n : Nested). tags.region_of a.regions n.row) (option_map (nested_of s.rows rests.holds.places) o) ≡ option_map (id_of rests.holds.places) (region_on s.rows o)
  tag_on_top slot None on = refl
  tag_on_top slot (Some n) on = region_there s.rows rests.holds.places a.table a.regions rests.holds.table rests.holds.tags n (rw (top_is s.rows slot n on).2 refl)

  -- a row that waits
  pub waits_fine : (n : ℕ) → is_unstarted (row s.rows n).phase ≡ true → HasNoFault s n
  waits_fine n waits = let fine = rests.settled n waits in no_fault (job s.jobs (row s.rows n).job).fault (grind (arith, fine))

  pub all_waiting : All (λ (p : NumberedRow). IsNumbered s.rows p × (is_unstarted p.1.phase ≡ true)) (waiting s.rows)
  all_waiting =
      let at_number : All (IsNumbered s.rows) (waiting s.rows) = All-filter _ (IsNumbered s.rows) (numbered_rows s.rows) (numbered_all s.rows) in
      let waits : All (λ (p : NumberedRow). is_unstarted p.1.phase ≡ true) (waiting s.rows) = filter_passes (λ (p : NumberedRow). is_unstarted p.1.phase) (numbered_rows s.rows) in
      λ k d below. (at_number k d below, waits k d below)

  -- The arena picks what the definition picks.
  pub picked_is : (slot : ℕ) → picked a slot ≡ option_map (id_of rests.holds.places) (pick s slot)
  picked_is slot =
      let region = region_on s.rows (top s.rows slot) in
      let tag = ap (option_and_then (λ (n : Nested). tags.region_of a.regions n.row))
      (top_of_stack s.rows rests.holds.places a.config.slots a.nests rests.holds.steady.formed.stacked rests.holds.nests slot) ∙ tag_on_top slot (top s.rows slot) refl in
      rw (rests.holds.waiting, tag) (pick-same s.rows rests.holds.places a.config.isolation a.config.rows a.config.slots slot a.regions region refl
      (λ k d below q on_q.
      let p = get_or (waiting s.rows) k d in
      let its = all_waiting k d below in
      let waits : is_unstarted (row s.rows p.0).phase ≡ true = rw its.0.2 its.1 in
      within_there s rests.holds.places a.table a.regions precede rests.holds.steady rests.holds.table rests.holds.tags tags_nested p.0 p.0 q (omega arith) its.0.0 its.0.1
      (unstarted_open (row s.rows p.0).phase waits) (waits_fine p.0 waits) (region_on_is (top s.rows slot) q on_q))
      ∙ ap (λ (c : Tenant). option_map (id_of rests.holds.places) (pick_of c.isolation s.rows slot)) rests.holds.config)
