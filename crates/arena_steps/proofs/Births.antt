-- Steps by which a slot's topmost row moves on and makes a row.
use Rattle.std.proofs.Common.{◌≡◌, ◌≢◌, ℕ, ◌+◌, ◌==◌, ◌&&◌, ◌<◌, ◌≤◌, nat_le, nat_lt, length, Option, Some, true, false, refl, sym, ap, ◌∙◌, arith, inl, inr, subst}
use Rattle.std.specs.Prelude.{if◌then◌else◌}
use Rattle.std.proofs.lemmas.Bool.{cases_eq, cases_lt}
use Rattle.job_language.specs.declared.answers.Moved.{Moved}
use Rattle.job_language.specs.declared.answers.Moved.TheVariants.{Ran, Freed}
use Rattle.job_language.specs.declared.tenants.Tenant.{Tenant}
use Rattle.job_step.specs.declared.frames.Frame.{Frame}
use Rattle.nest_stack.specs.Nest.{stack}
use Rattle.tenant_model.specs.declared.rows.Kind.{Kind}
use Rattle.tenant_model.specs.declared.rows.Kind.TheVariants.{Region}
use Rattle.tenant_model.specs.declared.rows.Phase.TheVariants.{Unstarted, Live}
use Rattle.tenant_model.specs.declared.rows.Row.{Row}
use Rattle.tenant_model.specs.declared.rows.TheConstants.{MAX_HEIGHT}
use Rattle.tenant_model.specs.State.{State, row}
use Rattle.tenant_model.specs.Walks.{height, top, settle}
use Rattle.tenant_model.specs.Changes.{new_row, add_row, with_frame, finish_step, open_rows, is_row_limit_met}
use Rattle.tenant_model.specs.Shared.{next_place}
use Rattle.tenant_model.specs.Sound.{IsSteady}
use Rattle.tenant_model.proofs.Changed.{row-with_same, length-with}
use Rattle.tenant_model.proofs.Faulting.{AreSame-settle}
use Rattle.tenant_model.proofs.Parts.{open-set}
use Rattle.tenant_model.proofs.Picks.{top_is}
use Rattle.tenant_model.proofs.Stacked.{AreSame-set}
use Rattle.arena_rows.specs.Held.{Held, HasFreePlace}
use Rattle.arena_rows.specs.Represents.{Holds, Rests, Gives}
use Rattle.arena_rows.specs.MarkedGroups.{RestsWithTop}
use Rattle.arena_rows.proofs.BornDropped.{settled_push}
use Rattle.arena_rows.proofs.FaultedRows.{top_there}
use Rattle.arena_rows.proofs.Starts.{settled_entry}
use Rattle.arena_rows.proofs.Tops.{height_is}
use Rattle.arena_steps.specs.Frames.{FrameFits}

-- a place for a row is free
pub has_room : (s : State) → is_row_limit_met s ≡ false → open_rows s.rows < s.config.rows
has_room s limit = elim (cases_lt (open_rows s.rows) s.config.rows) [
  | inl low ↦ low
  | inr high ↦ absurd (let met : nat_le s.config.rows (open_rows s.rows) ≡ true = grind (arith, high) in grind (arith, met, limit))
]

pub below_is_other : (x y : ℕ) → x < y → (x == y) ≡ false
below_is_other x y low = let other : x ≢ y = λ same. omega (arith, same, low) in grind (arith, other)

-- Where a slot does not have as many rows as it may, another one has a height.
pub low_height : (a : Held) (s : State) → Holds a s → (slot : ℕ) → (length (stack a.nests slot) ≡ MAX_HEIGHT → ⊥) → height s.rows slot < MAX_HEIGHT
low_height a s is slot below =
    let same = height_is s.rows is.places a.config.slots a.nests is.steady.formed.stacked is.nests slot in
    elim (cases_eq (height s.rows slot) MAX_HEIGHT) [
      | inl most ↦ absurd (below (same ∙ most))
      | inr other ↦ omega (arith, is.steady.formed.stacked.low slot, other)
    ]

-- the frame at the next place, as it was given
pub next_rests : (a b : Held) (s : State) (slot n : ℕ) (f x : Frame) → x ≡ next_place f → FrameFits a s slot n f →
    (length x.registers ≡ length (row s.rows n).frame.registers → Rests b (with_frame s n x)) → Rests b (with_frame s n (next_place f))
next_rests a b s slot n f x next fits moves = subst (λ g. Rests b (with_frame s n g)) next (moves (ap (λ (g : Frame). length g.registers) next ∙ fits.same))

module _ (a b : Held) (s : State) (slot n : ℕ) (f : Frame) (is : Holds a s) (on_top : top s.rows slot ≡ Some n) (now : Rests b (with_frame s n f)) where
  abbrev t : State
  t = with_frame s n f

  abbrev r : Row
  r = record (row s.rows n) { frame = f }

  its : (1 ≤ n) × (n ≤ length s.rows) × ((row s.rows n).phase ≡ Live slot (height s.rows slot))
  its = top_is s.rows slot n on_top

  here : row t.rows n ≡ r
  here = row-with_same s.rows n r its.0 its.1

  pub same_job : (row t.rows n).job ≡ (row s.rows n).job
  same_job = ap (λ (q : Row). q.job) here

  pub same_height : height t.rows slot ≡ height s.rows slot
  same_height = (AreSame-set s.rows n r its.0 its.1 refl).on slot

  pub still_top : top t.rows slot ≡ Some n
  still_top = top_there t.rows slot n now.holds.steady.formed.stacked (ap (λ (q : Row). q.phase) here ∙ its.2 ∙ ap (Live slot) (sym same_height))

  pub still_rests : RestsWithTop b slot
  still_rests = (t, n, now, still_top)

  pub same_made : b.made ≡ a.made
  same_made = now.holds.made ∙ length-with s.rows n r ∙ sym is.made

  pub same_stack : length (stack b.nests slot) ≡ length (stack a.nests slot)
  same_stack =
      height_is t.rows now.holds.places b.config.slots b.nests now.holds.steady.formed.stacked now.holds.nests slot ∙ same_height ∙
      sym (height_is s.rows is.places a.config.slots a.nests is.steady.formed.stacked is.nests slot)

  pub still_free : is_row_limit_met s ≡ false → HasFreePlace b
  still_free limit =
      let rows : b.config.rows ≡ s.config.rows = ap (λ (c : Tenant). c.rows) now.holds.config in
      omega (arith, rows, now.holds.free.count, now.holds.free.long, open-set s.rows n r its.0 its.1 refl (omega arith), has_room s limit)

  -- A row that waits, of the same job.
  pub born_rests : (c : Held) (k : Kind) (on : Option ℕ) (x y : Frame) → x ≡ y → IsSteady (add_row t (new_row k (row s.rows n).job on y Unstarted)) →
      (IsSteady (add_row t (new_row k (row t.rows n).job on x Unstarted)) → Rests c (settle (add_row t (new_row k (row t.rows n).job on x Unstarted)))) →
      Rests c (settle (add_row t (new_row k (row s.rows n).job on y Unstarted)))
  born_rests c k on x y same steady makes =
      let P : ℕ → Frame → Type 0 = λ j z. IsSteady (add_row t (new_row k j on z Unstarted)) in
      let Q : ℕ → Frame → Type 0 = λ j z. Rests c (settle (add_row t (new_row k j on z Unstarted))) in
      let j = (row s.rows n).job in
      let before : P (row t.rows n).job x = subst (λ i. P i x) (sym same_job) (subst (P j) (sym same) steady) in
      subst (Q j) same (subst (λ i. Q i x) same_job (makes before))

  -- A region of it, on top of the slot.
  abbrev with_region : ℕ → Frame → ℕ → State
  with_region j z h = add_row t (new_row (Region n) j (Some slot) z (Live slot (h + 1)))

  pub region_rests : (c : Held) (x y : Frame) → x ≡ y → IsSteady (with_region (row s.rows n).job y (height s.rows slot)) →
      (IsSteady (with_region (row t.rows n).job x (height t.rows slot)) → Holds c (with_region (row t.rows n).job x (height t.rows slot))) →
      Rests c (with_region (row s.rows n).job y (height s.rows slot))
  region_rests c x y same steady makes =
      let j = (row s.rows n).job in
      let k = (row t.rows n).job in
      let h = height s.rows slot in
      let framed : IsSteady (with_region j x h) = subst (λ z. IsSteady (with_region j z h)) (sym same) steady in
      let of_job : IsSteady (with_region k x h) = subst (λ i. IsSteady (with_region i x h)) (sym same_job) framed in
      let before : IsSteady (with_region k x (height t.rows slot)) = subst (λ i. IsSteady (with_region k x i)) (sym same_height) of_job in
      let made : Holds c (with_region k x h) = subst (λ i. Holds c (with_region k x i)) same_height (makes before) in
      let its_job : Holds c (with_region j x h) = subst (λ i. Holds c (with_region i x h)) same_job made in
      record {
        holds = subst (λ z. Holds c (with_region j z h)) same its_job;
        settled = settled_push t (new_row (Region n) j (Some slot) y (Live slot (h + 1))) now.holds.steady.formed.linked.makers steady.formed.linked.makers refl now.settled;
      }

-- How a step ends whose state has settled already.
module _ (slot : ℕ) (u : State) where
  abbrev moved_at : ℕ → Moved
  moved_at h = if nat_lt slot u.config.reserved && (h == 0) then Freed else Ran

  pub settled_moves : (c d : Held) (moved : Moved) → Rests c (settle u) → Gives d moved (finish_step slot (settle u)) → Gives d moved (finish_step slot u)
  settled_moves c d moved rests moves = (moves.0 ∙ ap moved_at ((AreSame-settle u).on slot), subst (Rests d) (settled_entry (settle u) rests.settled) moves.1)
