-- A slot's topmost row is done, and the maker of a region follows it.
use Rattle.std.proofs.Common.{◌≡◌, ◌≢◌, ℕ, ℤ, ◌+◌, ◌-◌, ◌==◌, ◌<◌, ◌≤◌, length, Some, true, false, refl, sym, ap, ◌∙◌, arith, subst}
use Rattle.std.specs.Prelude.{IfSome}
use Rattle.job_language.specs.declared.answers.Moved.{Moved}
use Rattle.job_step.specs.declared.frames.Frame.{Frame}
use Rattle.tenant_model.specs.declared.rows.Kind.{Kind}
use Rattle.tenant_model.specs.declared.rows.Kind.TheVariants.{Root, Posted, Spawned, Region}
use Rattle.tenant_model.specs.declared.rows.Phase.TheVariants.{Live, Done}
use Rattle.tenant_model.specs.declared.rows.Row.{Row}
use Rattle.tenant_model.specs.State.{State, row}
use Rattle.tenant_model.specs.Walks.{maker_of, is_live_on, is_region, height, top}
use Rattle.tenant_model.specs.Changes.{on_row, finish_step}
use Rattle.tenant_model.specs.Shared.{hand_to, hand_back}
use Rattle.tenant_model.proofs.Changed.{row-with_other}
use Rattle.tenant_model.proofs.Picks.{top_is}
use Rattle.tenant_model.proofs.Stacking.{one_if, count-with}
use Rattle.arena_rows.specs.Held.{Held}
use Rattle.arena_rows.specs.Represents.{Holds, Rests, Gives}
use Rattle.arena_rows.proofs.FaultedRows.{top_there}
use Rattle.arena_steps.specs.Frames.{}

region_maker : (k : Kind) → is_region k ≡ true → (m : ℕ) × (k ≡ Region m)
region_maker Root is = absurd (grind (arith, is))
region_maker Posted is = absurd (grind (arith, is))
region_maker (Spawned m g) is = absurd (grind (arith, is))
region_maker (Region m) is = (m, refl)

-- the state after a topmost row is done
abbrev pub over : State → (n : ℕ) → Frame → ℤ → State
over s n f v = on_row s n (λ r. record r { frame = f; phase = Done v })

-- What is no region hands nothing back.
pub none_handed : (t : State) (k : Kind) (v : ℤ) → is_region k ≡ false → hand_back t k v ≡ t
none_handed t Root v none = refl
none_handed t Posted v none = refl
none_handed t (Spawned m g) v none = refl
none_handed t (Region m) v none = absurd (grind (arith, none))

module _ (a b : Held) (s : State) (is : Holds a s) (slot n : ℕ) (f : Frame) (v : ℤ) (on_top : top s.rows slot ≡ Some n) (now : Rests b (over s n f v))
    (region : is_region (row s.rows n).kind ≡ true) where
  abbrev t : State
  t = over s n f v

  abbrev r : Row
  r = record (row s.rows n) { frame = f; phase = Done v }

  its : (1 ≤ n) × (n ≤ length s.rows) × ((row s.rows n).phase ≡ Live slot (height s.rows slot))
  its = top_is s.rows slot n on_top

  pub found : (m : ℕ) × ((row s.rows n).kind ≡ Region m)
  found = region_maker (row s.rows n).kind region

  abbrev m : ℕ
  m = found.0

  made : maker_of (row s.rows n).kind ≡ Some m
  made = ap maker_of found.1

  apart : m ≢ n
  apart same = let before : IfSome (Some m) (λ x. (1 ≤ x) × (x < n)) = rw made at (is.steady.formed.linked.makers n its.0 its.1) in omega (arith, before, same)

  old : row t.rows m ≡ row s.rows m
  old = row-with_other s.rows n m r its.0 apart

  below : (row s.rows m).phase ≡ Live slot (height s.rows slot - 1)
  below = is.steady.formed.on_makers.below n m slot (height s.rows slot) found.1 its.2

  lower : height t.rows slot + 1 ≡ height s.rows slot
  lower =
      let own : (slot == slot) ≡ true = grind arith in
      let was : one_if (is_live_on slot (row s.rows n).phase) ≡ 1 = rw (its.2, own) refl in
      omega (arith, count-with (λ (q : Row). is_live_on slot q.phase) s.rows n r its.0 its.1, was)

  -- Its maker is on top now,
  pub maker_on_top : top t.rows slot ≡ Some m
  maker_on_top =
      let high : height t.rows slot ≡ height s.rows slot - 1 = omega (arith, lower) in
      top_there t.rows slot m now.holds.steady.formed.stacked (ap (λ (q : Row). q.phase) old ∙ below ∙ ap (Live slot) (sym high))

  -- and the value is handed to it.
  pub handed : (c : Held) (moved : Moved) → Gives c moved (finish_step slot (hand_to t m v)) → Gives c moved (finish_step slot (hand_back t (row s.rows n).kind v))
  handed c moved moves = subst (λ k. Gives c moved (finish_step slot (hand_back t k v))) (sym found.1) moves
