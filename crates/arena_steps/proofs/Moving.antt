-- What stays where a row's frame moves on.
use Rattle.std.proofs.Common.{◌≡◌, ℕ, ◌+◌, ◌<◌, ℤ, length-set, Some, sym, ap, ◌∙◌, arith}
use Rattle.job_language.specs.declared.tenants.Tenant.{Tenant}
use Rattle.job_step.specs.declared.frames.Frame.{Frame}
use Rattle.job_step.specs.Frame.{at_place, write_and_step}
use Rattle.thread_cells.specs.Cells.{Table}
use Rattle.tenant_model.specs.Changes.{with_cells}
use Rattle.tenant_model.specs.State.{State}
use Rattle.tenant_model.specs.Walks.{top}
use Rattle.arena_rows.specs.Held.{Held}
use Rattle.arena_rows.specs.Represents.{Holds, Rests, HasTop}
use Rattle.arena_rows.proofs.TopRows.{on_slot}
use Rattle.arena_steps.specs.Frames.{FrameFits, CanMove}

-- what is held for a tenant with the same limits, after as many entries
module _ (a b : Held) (s t : State) (is : Holds a s) (now : Holds b t) (config : t.config ≡ s.config) where
  pub same_slots : (slot n : ℕ) → top s.rows slot ≡ Some n → slot < b.config.slots
  same_slots slot n on_top = let same = now.config ∙ config ∙ sym is.config in rw same (on_slot a s is slot n on_top)

  pub same_room : t.entries ≡ s.entries → a.entries < a.config.steps → b.entries < b.config.steps
  same_room entries room =
      let same = now.config ∙ config ∙ sym is.config in
      let counted = now.entries ∙ entries ∙ sym is.entries in
      rw (same, counted) room

pub has_top : (a : Held) (slot : ℕ) (frame : Frame) → CanMove a slot frame → HasTop a slot
has_top a slot frame h = (h.0, h.1, h.2.rests.holds, h.2.on_top)

pub fits_written : (a : Held) (s : State) (slot n : ℕ) (f : Frame) (d : ℕ) (v : ℤ) → FrameFits a s slot n f → FrameFits a s slot n (write_and_step f d v)
fits_written a s slot n f d v fits = record { rests = fits.rests; on_top = fits.on_top; same = length-set f.registers d v ∙ fits.same }

pub fits_next : (a : Held) (s : State) (slot n : ℕ) (f : Frame) → FrameFits a s slot n f → FrameFits a s slot n (at_place f (f.place + 1))
fits_next a s slot n f fits = record { rests = fits.rests; on_top = fits.on_top; same = fits.same }

-- and where cells have changed
pub fits_cells : (a b : Held) (s : State) (cells : Table) (slot n : ℕ) (f : Frame) → FrameFits a s slot n f → Rests b (with_cells s cells) → FrameFits b (with_cells s cells) slot n f
fits_cells a b s cells slot n f fits rests = record { rests = rests; on_top = fits.on_top; same = fits.same }

pub low_slot : (a : Held) (slot : ℕ) (frame : Frame) → CanMove a slot frame → slot < 16
low_slot a slot frame h =
    let is = h.2.rests.holds in
    let within = on_slot a h.0 is slot h.1 h.2.on_top in
    let same = ap (λ (c : Tenant). c.slots) is.config in
    omega (arith, within, same, is.steady.formed.slots)
