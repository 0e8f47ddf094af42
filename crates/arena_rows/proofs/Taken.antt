-- The row that a slot takes next goes live on top of it.
use Rattle.std.proofs.Common.{◌≡◌, ℕ, ◌<◌, ◌≤◌, length, Option, Some, None, true, refl, sym, ap, ◌∙◌, subst}
use Rattle.std.specs.Option.{option_map}
use Rattle.job_step.specs.declared.frames.Frame.{Frame}
use Rattle.region_tag.specs.declared.row_id.RowId.{RowId}
use Rattle.nest_stack.specs.Nest.{stack}
use Rattle.tenant_model.specs.declared.rows.Phase.{Phase}
use Rattle.tenant_model.specs.State.{State, row}
use Rattle.tenant_model.specs.Walks.{is_unstarted, height, pick}
use Rattle.tenant_model.specs.Changes.{nest}
use Rattle.tenant_model.proofs.Picks.{pick_is}
use Rattle.tenant_model.specs.Sound.{IsSteady}
use Rattle.tenant_model.proofs.Steady.{steady_nested}
use Rattle.arena_rows.specs.declared.rows.OpenRow.{OpenRow}
use Rattle.arena_rows.specs.declared.rows.Stage.TheVariants as stage
use Rattle.arena_rows.specs.Held.{Held}
use Rattle.arena_rows.specs.Represents.{Places, id_of, at_place, stage_of, Stands, Holds, Rests}
use Rattle.arena_rows.specs.HeldChanges.{picked, started}
use Rattle.arena_rows.proofs.Started.{some_is, some_none}
use Rattle.arena_rows.proofs.Starts.{unstarted_is, started_kept, started_settled}
use Rattle.arena_rows.proofs.Tops.{height_is}
use Rattle.arena_rows.proofs.Picking.{unstarted_open, picked_is}

waiting_stage : (f : Frame) (p : Phase) → is_unstarted p ≡ true → stage_of f p ≡ stage.Waiting f
waiting_stage f p waits = let none = unstarted_is p waits in rw none refl

module _ (a : Held) (s : State) (rests : Rests a s) (slot : ℕ) (id : RowId) (taken : picked a slot ≡ Some id) where
  abbrev places : Places
  places = rests.holds.places

  by_pick : (o : Option ℕ) → pick s slot ≡ o → Some id ≡ option_map (id_of places) o → (pick s slot ≡ Some id.number) × (id_of places id.number ≡ id)
  by_pick None none same = absurd (some_none id same)
  by_pick (Some n) found same =
      let it : id ≡ id_of places n = some_is id (id_of places n) same in
      let number : id.number ≡ n = ap (λ (r : RowId). r.number) it in
      (found ∙ ap Some (sym number), ap (id_of places) number ∙ sym it)

  both : (pick s slot ≡ Some id.number) × (id_of places id.number ≡ id)
  both = by_pick (pick s slot) refl (sym taken ∙ picked_is a s rests slot)

  pub pick_taken : pick s slot ≡ Some id.number
  pick_taken = both.0

  its : (1 ≤ id.number) × (id.number ≤ length s.rows) × (is_unstarted (row s.rows id.number).phase ≡ true)
  its = let is = pick_is s.config.isolation s.rows slot id.number pick_taken in (is.0, is.1, is.2)

  pub stands : Stands s.rows places a.table id.number
  stands = rests.holds.table.each id.number (unstarted_open (row s.rows id.number).phase its.2)

  place_is : places id.number ≡ id.place
  place_is = ap (λ (r : RowId). r.place) both.1

  pub taken_within : id.place < length a.table
  taken_within = rw (← place_is) stands.within

  abbrev pub taken_entry : OpenRow
  taken_entry = stands.entry

  pub taken_there : at_place a.table id.place ≡ Some taken_entry
  taken_there = ap (at_place a.table) (sym place_is) ∙ stands.there

  pub taken_waits : taken_entry.stage ≡ stage.Waiting (row s.rows id.number).frame
  taken_waits = stands.is.stage ∙ waiting_stage (row s.rows id.number).frame (row s.rows id.number).phase its.2

  module _ (within : slot < a.config.slots) (room : length (stack a.nests slot) < 128) where
    high : length (stack a.nests slot) ≡ height s.rows slot
    high = height_is s.rows places a.config.slots a.nests rests.holds.steady.formed.stacked rests.holds.nests slot

    below : slot < s.config.slots
    below = rw rests.holds.config at within

    steady : IsSteady (nest s slot id.number)
    steady = steady_nested s rests.holds.steady slot id.number below pick_taken (rw high at room)

    pub taken_rests : Rests (started a slot id taken_entry (row s.rows id.number).frame) (nest s slot id.number)
    taken_rests =
        let kept = started_kept a s rests.holds slot id.number taken_entry (row s.rows id.number).frame its.0 its.1 its.2 within stands.there taken_waits steady in
        let settled = started_settled a s rests.holds slot id.number taken_entry (row s.rows id.number).frame its.0 its.1 its.2 within stands.there taken_waits steady rests.settled in
        record {
          holds = subst (λ r. Holds (started a slot r taken_entry (row s.rows id.number).frame) (nest s slot id.number)) both.1 kept;
          settled = settled;
        }
