-- Changes of a step keep a state steady, one at a time.
use Rattle.std.proofs.Common.{◌≡◌, ◌≢◌, ℕ, ◌+◌, ◌<◌, ◌≤◌, length, Option, Some, None, IsSome, true, false, refl, sym, ap, ◌∙◌, arith, inl, inr, map, ℤ}
use Rattle.std.specs.Prelude.{slice_set}
use Rattle.std.proofs.lemmas.Bool.{cases_eq}
use Rattle.job_language.specs.declared.instructions.Instr.TheVariants.{Isolate}
use Rattle.job_language.specs.declared.instructions.TheConstants.{GROUPS}
use Rattle.job_language.specs.declared.jobs.Job.{Job}
use Rattle.job_language.specs.declared.tenants.Tenant.{Tenant}
use Rattle.job_language.specs.declared.tenants.TheConstants.{MAX_SLOTS}
use Rattle.job_step.specs.declared.frames.Frame.{Frame}
use Rattle.job_step.specs.Frame.{instr_at}
use Rattle.tenant_model.specs.declared.rows.Kind.TheVariants.{Posted, Spawned, Region}
use Rattle.tenant_model.specs.declared.rows.Phase.{Phase}
use Rattle.tenant_model.specs.declared.rows.Phase.TheVariants.{Unstarted, Live, Done, Dropped, Faulted}
use Rattle.tenant_model.specs.declared.rows.Row.{Row}
use Rattle.tenant_model.specs.declared.rows.TheConstants.{MAX_HEIGHT}
use Rattle.tenant_model.specs.declared.works.Work.{Work}
use Rattle.tenant_model.specs.State.{State, empty, row, job, with_at_number}
use Rattle.thread_cells.specs.Cells.{Table, no_cells}
use Rattle.tenant_model.specs.Walks.{is_open, is_unstarted, is_live_on, is_live_at, maker_of, is_pending, mark, height, top, pick}
use Rattle.tenant_model.specs.Changes.{on_row, on_job, new_row, add_row, open_rows, with_frame, with_cells, nest}
use Rattle.tenant_model.specs.Shared.{called_frame, hand_back, has_used_group}
use Rattle.tenant_model.specs.Asks.{add_job, retired_work}
use Rattle.tenant_model.specs.WellFormed.{IsTable, IsWellFormed}
use Rattle.tenant_model.specs.Sound.{IsSteady}
use Rattle.tenant_model.proofs.Changed.{row-with_same, row-with_other}
use Rattle.tenant_model.proofs.Stacking.{one_if, count-with, AreSame, AreStacked-same}
use Rattle.tenant_model.proofs.Stacked.{IsOff}
use Rattle.tenant_model.proofs.Linked.{IsLinked-set, IsLinked-more_jobs}
use Rattle.tenant_model.proofs.Marked.{mark_fits, AreMarked-set}
use Rattle.tenant_model.proofs.Insides.{live_low}
use Rattle.tenant_model.proofs.OnMakers.{StartFewer, StandOnMakers-fewer}
use Rattle.tenant_model.proofs.Parts.{AreInside-set, open-set}
use Rattle.tenant_model.proofs.Picks.{top_none}
use Rattle.tenant_model.proofs.Keeping.{on_job_kept, done_kept}
use Rattle.tenant_model.proofs.KeptSteps.{add_job_kept, place_job_kept, no_cells_kept}
use Rattle.tenant_model.proofs.KeptAdvances.{IsTop, moved_kept, set_kept, spawned_kept, region_kept, ended_kept, handed_kept, empty_kept}
use Rattle.tenant_model.proofs.Nesting.{nest_first_kept, nest_top_kept}
use Rattle.tenant_model.proofs.Running.{SameRegisters}
use Rattle.tenant_model.proofs.Invariance.{IsAt, program_of, waited_at, cancelled_at}
use Rattle.tenant_model.proofs.Tending.{IsTended-set, IsTended-jobs}
use Rattle.tenant_model.proofs.Tended.{SameJobs-set, IsTended-beside, top_is_bare, retired_same, tended_advances, tended_asks, empty_tended, made_tended, new_shaped, same_number, no_number, not_on}
use Rattle.tenant_model.proofs.Tended.{over_tended, ended_tended}
use Rattle.tenant_model.proofs.Attended.{Both, MakersStay-jobs, MakersStay-beside, MakersStay-set, framed_kept, kept_at, made_kept, over_kept, done_kept_by}
use Rattle.tenant_model.proofs.AttendedSteps.{KeepFaults-set, KeepFaults-retired, nested_stays, added_stay, spawned_group, no_region, empty_attended}

at_top : (s : State) (slot n : ℕ) → IsAt s slot n → IsTop s slot n
at_top s slot n at = record { from = at.from; to = at.to; live = at.live }

module _ (s : State) (slot n : ℕ) (at : IsAt s slot n) (is : IsSteady s) where
  both : Both s
  both = (is.tended, is.stay)

  pub steady_framed : (f : Frame) → SameRegisters (row s.rows n).frame f → IsSteady (with_frame s n f)
  steady_framed f same = record {
    formed = moved_kept s slot n is.formed (at_top s slot n at) f;
    tended = (tended_advances slot).frame s n f at tt same is.tended;
    stay = framed_kept s slot n at both f;
  }

  -- a row that waits, with its maker's frame moved on
  pub steady_spawned : (f : Frame) (g p a b : ℕ) → SameRegisters (row s.rows n).frame f → g < GROUPS → open_rows s.rows < s.config.rows →
      IsSteady (add_row (with_frame s n f) (new_row (Spawned n g) (row s.rows n).job (Some slot) (called_frame f p a b) Unstarted))
  steady_spawned f g p a b same low room =
      let formed = spawned_kept s slot n is.formed (at_top s slot n at) f (called_frame f p a b) (Spawned n g) (Some slot) refl refl room in
      record {
        formed = formed;
        tended = made_tended s slot n at is.tended f (called_frame f p a b) (Spawned n g) (Some slot) Unstarted same (new_shaped (Spawned n g) (row s.rows n).job (Some slot) f p a b Unstarted)
            (same_number n) (λ t h live. not_on t h slot live)
            (λ m t h kind live. absurd (let no : Unstarted ≡ Live t h = live in grind (arith, ap (is_live_at t h) no)));
        stay = made_kept s slot n at both f (new_row (Spawned n g) (row s.rows n).job (Some slot) (called_frame f p a b) Unstarted) (moved_kept s slot n is.formed (at_top s slot n at) f)
            (λ m made. same_number n m made) (spawned_group n g low);
      }

  pub steady_posted : (f : Frame) (p a b : ℕ) → SameRegisters (row s.rows n).frame f → open_rows s.rows < s.config.rows →
      IsSteady (add_row (with_frame s n f) (new_row Posted (row s.rows n).job None (called_frame f p a b) Unstarted))
  steady_posted f p a b same room = record {
    formed = spawned_kept s slot n is.formed (at_top s slot n at) f (called_frame f p a b) Posted None refl tt room;
    tended = made_tended s slot n at is.tended f (called_frame f p a b) Posted None Unstarted same (new_shaped Posted (row s.rows n).job None f p a b Unstarted) (no_number n)
        (λ t h live. not_on t h slot live)
        (λ m t h kind live. absurd (let no : Unstarted ≡ Live t h = live in grind (arith, ap (is_live_at t h) no)));
    stay = made_kept s slot n at both f (new_row Posted (row s.rows n).job None (called_frame f p a b) Unstarted) (moved_kept s slot n is.formed (at_top s slot n at) f)
        (λ m made. absurd (let no : None ≡ Some m = made in cc)) (λ m g kind. absurd (let no : None ≡ Some m = ap maker_of kind in cc));
  }

  -- a region on top of its maker, whose frame stands at the isolate
  pub steady_isolated : (f : Frame) (d p a b : ℕ) → SameRegisters (row s.rows n).frame f → instr_at (program_of s n) f ≡ Some (Isolate d p a b) → open_rows s.rows < s.config.rows →
      height s.rows slot < MAX_HEIGHT →
      IsSteady (add_row (with_frame s n f) (new_row (Region n) (row s.rows n).job (Some slot) (called_frame f p a b) (Live slot (height s.rows slot + 1))))
  steady_isolated f d p a b same here room low = record {
    formed = region_kept s slot n is.formed (at_top s slot n at) f (called_frame f p a b) low room;
    tended = (tended_advances slot).isolate s n f d p a b at tt same here room low is.tended;
    stay = made_kept s slot n at both f (new_row (Region n) (row s.rows n).job (Some slot) (called_frame f p a b) (Live slot (height s.rows slot + 1)))
        (moved_kept s slot n is.formed (at_top s slot n at) f) (λ m made. same_number n m made) (λ m g kind. absurd (no_region n m g kind));
  }

  -- a wait that passed
  pub steady_waited : (f : Frame) (g : ℕ) → SameRegisters (row s.rows n).frame f → is_pending s.rows n g ≡ false → IsSteady (waited_at s n f g)
  steady_waited f g same none = record {
    formed = set_kept s slot n is.formed (at_top s slot n at) (λ r. record r { frame = f; marks = slice_set r.marks g (record { rows = length s.rows; cancelled = false }) }) refl refl refl
        (mark_fits (row s.rows n).marks g (record { rows = length s.rows; cancelled = false }) (length s.rows) (omega arith) (is.formed.marked n));
    tended = (tended_advances slot).wait s n f g at tt same none is.tended;
    stay = kept_at s slot n at both (record (row s.rows n) { frame = f; marks = slice_set (row s.rows n).marks g (record { rows = length s.rows; cancelled = false }) }) refl refl refl;
  }

  -- a cancelled group
  pub steady_cancelled : (f : Frame) (g : ℕ) → SameRegisters (row s.rows n).frame f → IsSteady (cancelled_at s n f g)
  steady_cancelled f g same = record {
    formed = set_kept s slot n is.formed (at_top s slot n at) (λ r. record r { frame = f; marks = slice_set r.marks g (record (mark s.rows n g) { cancelled = true }) }) refl refl refl
        (mark_fits (row s.rows n).marks g (record (mark s.rows n g) { cancelled = true }) (length s.rows) (is.formed.marked n g) (is.formed.marked n));
    tended = (tended_advances slot).cancel s n f g at tt same is.tended;
    stay = kept_at s slot n at both (record (row s.rows n) { frame = f; marks = slice_set (row s.rows n).marks g (record (mark s.rows n g) { cancelled = true }) }) refl refl refl;
  }

  -- the topmost row done
  pub steady_over : (f : Frame) (v : ℤ) → SameRegisters (row s.rows n).frame f → has_used_group s n ≡ false → IsSteady (on_row s n (λ r. record r { frame = f; phase = Done v }))
  steady_over f v same unused = record {
    formed = ended_kept s slot n is.formed (at_top s slot n at) f v;
    tended = over_tended s slot n at is.tended f v same;
    stay = over_kept s slot n at both f v unused;
  }

  -- and its region's value handed to the maker
  pub steady_done : (f : Frame) (v : ℤ) → SameRegisters (row s.rows n).frame f → has_used_group s n ≡ false →
      IsSteady (hand_back (on_row s n (λ r. record r { frame = f; phase = Done v })) (row s.rows n).kind v)
  steady_done f v same unused = record {
    formed = handed_kept s slot n is.formed (at_top s slot n at) f v (row s.rows n).kind refl;
    tended = ended_tended s slot n at is.tended f v same (row s.rows n).kind refl;
    stay = done_kept_by s slot n at f v (row s.rows n).kind refl (over_kept s slot n at both f v unused);
  }

  -- the topmost row faulted, whose job has a fault
  pub steady_faulted : IsSome (job s.jobs (row s.rows n).job).fault → IsSteady (on_row s n (λ r. record r { phase = Faulted }))
  steady_faulted fault =
      let r = record (row s.rows n) { phase = Faulted } in
      let low = live_low s.rows is.formed.stacked n slot (height s.rows slot) at.live in
      record {
        formed = done_kept s n (λ r. record r { phase = Faulted }) at.from at.to refl refl (is.formed.marked n) slot at.live (record { on = λ t. refl; at = λ t h. refl }) refl low.0 is.formed;
        tended = IsTended-set s n r (record {
          from = at.from;
          to = at.to;
          kind = refl;
          job = refl;
          waits = λ waits. absurd (let no : false ≡ true = waits in grind (arith, no));
          opens = λ opens. absurd (let no : false ≡ true = opens in grind (arith, no));
          past = λ k g kind old. is.tended.past k n g kind old;
          shape = record { registers = (is.tended.shapes n).registers; marks = (is.tended.shapes n).marks };
          slots = λ t h live. absurd (let no : Faulted ≡ Live t h = live in grind (arith, ap (is_live_at t h) no));
          lives = λ m t h kind live. absurd (let no : Faulted ≡ Live t h = live in grind (arith, ap (is_live_at t h) no));
          bare = top_is_bare s slot n is.formed at.live;
        }) is.formed.linked is.tended;
        stay = MakersStay-set s n r at.from at.to refl refl (λ opened. absurd (let no : false ≡ true = opened in grind (arith, no))) (λ closed x opened made. rw (is.tended.shared x n made) fault)
            is.stay;
      }

module _ (s : State) (is : IsSteady s) where
  -- a job changed, but for its program and root; a fault stays
  pub steady_job : (j : ℕ) (f : Work → Work) → 1 ≤ j → j ≤ length s.jobs → (f (job s.jobs j)).program ≡ (job s.jobs j).program → (f (job s.jobs j)).root ≡ (job s.jobs j).root →
      (IsSome (job s.jobs j).fault → IsSome (f (job s.jobs j)).fault) → IsSteady (on_job s j f)
  steady_job j f from to program root fault = record {
    formed = on_job_kept s j f is.formed;
    tended = IsTended-jobs s (with_at_number s.jobs j (f (job s.jobs j))) (SameJobs-set s.jobs j (f (job s.jobs j)) from to program root) is.tended;
    stay = MakersStay-jobs s (with_at_number s.jobs j (f (job s.jobs j))) (KeepFaults-set s.jobs j (f (job s.jobs j)) from to fault) is.stay;
  }

  pub steady_cells : (t : Table) → IsTable t → IsSteady (with_cells s t)
  steady_cells t table = record {
    formed = record {
      linked = record { makers = is.formed.linked.makers; jobs = is.formed.linked.jobs; epoch = is.formed.linked.epoch };
      stacked = is.formed.stacked;
      inside = is.formed.inside;
      on_makers = is.formed.on_makers;
      marked = is.formed.marked;
      limit = is.formed.limit;
      table = table;
      slots = is.formed.slots;
    };
    tended = IsTended-beside s s.entries s.epoch t is.tended;
    stay = MakersStay-beside s s.entries s.epoch t is.stay;
  }

  -- an entry more
  pub steady_entries : IsSteady (record s { entries = s.entries + 1 })
  steady_entries = record {
    formed = record {
      linked = record { makers = is.formed.linked.makers; jobs = is.formed.linked.jobs; epoch = omega (arith, is.formed.linked.epoch) };
      stacked = is.formed.stacked;
      inside =
          is.formed.inside;
      on_makers = is.formed.on_makers;
      marked = is.formed.marked;
      limit = is.formed.limit;
      table = is.formed.table;
      slots = is.formed.slots;
    };
    tended = IsTended-beside s (s.entries + 1) s.epoch s.cells is.tended;
    stay = MakersStay-beside s (s.entries + 1) s.epoch s.cells is.stay;
  }

  picked_formed : (slot m : ℕ) (o : Option ℕ) → top s.rows slot ≡ o → pick s slot ≡ Some m → height s.rows slot < MAX_HEIGHT → IsWellFormed (nest s slot m)
  picked_formed slot m None on_top picked room = nest_first_kept s slot m is.formed picked (top_none s.rows slot is.formed.stacked on_top)
  picked_formed slot m (Some n) on_top picked room = nest_top_kept s slot m is.formed picked n on_top room

  -- the pick of a slot on top of it
  pub steady_nested : (slot m : ℕ) → slot < s.config.slots → pick s slot ≡ Some m → height s.rows slot < MAX_HEIGHT → IsSteady (nest s slot m)
  steady_nested slot m low picked room = record {
    formed = picked_formed slot m (top s.rows slot) refl picked room;
    tended = (tended_advances slot).nest s m is.formed low tt picked room is.tended;
    stay = nested_stays s slot m is.formed picked (is.tended, is.stay);
  }

  -- a new job, whose root waits
  pub steady_added : (j : Job) → open_rows s.rows < s.config.rows → IsSteady (add_job s j Unstarted)
  steady_added j room = record {
    formed = add_job_kept s j room is.formed;
    tended = tended_asks.add s j is.formed tt room is.tended;
    stay = added_stay s j Unstarted is.formed (is.tended, is.stay);
  }

  -- or is on a slot that is reserved and empty
  pub steady_placed : (j : Job) (slot : ℕ) → open_rows s.rows < s.config.rows → slot < s.config.reserved → height s.rows slot ≡ 0 → IsSteady (add_job s j (Live slot 1))
  steady_placed j slot room low empty = record {
    formed = place_job_kept s j room slot empty is.formed;
    tended = tended_asks.place s j slot is.formed tt room low empty is.tended;
    stay = added_stay s j (Live slot 1) is.formed (is.tended, is.stay);
  }

  pub steady_retired : IsSteady (record s { jobs = map retired_work s.jobs; cells = no_cells; entries = s.entries + 1; epoch = s.epoch + 1 })
  steady_retired =
      let jobs = map retired_work s.jobs in
      let linked = IsLinked-more_jobs s jobs (omega (arith, (retired_same s.jobs).long)) is.formed.linked in
      record {
        formed = record {
          linked = record { makers = linked.makers; jobs = linked.jobs; epoch = omega (arith, is.formed.linked.epoch) };
          stacked = is.formed.stacked;
          inside = is.formed.inside;
          on_makers = is.formed.on_makers;
          marked = is.formed.marked;
          limit = is.formed.limit;
          table = no_cells_kept;
          slots = is.formed.slots;
        };
        tended = IsTended-beside (record s { jobs = jobs }) (s.entries + 1) (s.epoch + 1) no_cells (IsTended-jobs s jobs (retired_same s.jobs) is.tended);
        stay = MakersStay-beside (record s { jobs = jobs }) (s.entries + 1) (s.epoch + 1) no_cells (MakersStay-jobs s jobs (KeepFaults-retired s.jobs) is.stay);
      }

  -- a row that waits dropped
  module _ (n : ℕ) (from : 1 ≤ n) (to : n ≤ length s.rows) (waits : is_unstarted (row s.rows n).phase ≡ true) where
    abbrev dropped_row : Row
    dropped_row = record (row s.rows n) { phase = Dropped }

    waiting_off : (p : Phase) → is_unstarted p ≡ true → IsOff p
    waiting_off Unstarted is_one = record { on = λ slot. refl; at = λ slot h. refl }
    waiting_off (Live t h) is_one = absurd (grind (arith, is_one))
    waiting_off (Done v) is_one = absurd (grind (arith, is_one))
    waiting_off Dropped is_one = absurd (grind (arith, is_one))
    waiting_off Faulted is_one = absurd (grind (arith, is_one))

    off_before : IsOff (row s.rows n).phase
    off_before = waiting_off (row s.rows n).phase waits

    same_stacks : AreSame s.rows (with_at_number s.rows n dropped_row)
    same_stacks = record {
      on = λ slot. let change = count-with (λ (x : Row). is_live_on slot x.phase) s.rows n dropped_row from to in let none : one_if (is_live_on slot (row s.rows n).phase) ≡ 0 =
          rw off_before.on refl in omega (arith, change, none);
      at = λ slot h. let change = count-with (λ (x : Row). is_live_at slot h x.phase) s.rows n dropped_row from to in let none : one_if (is_live_at slot h (row s.rows n).phase) ≡ 0 =
          rw off_before.at refl in omega (arith, change, none);
    }

    same_phase_else : (m : ℕ) → m ≢ n → (row (with_at_number s.rows n dropped_row) m).phase ≡ (row s.rows m).phase
    same_phase_else m other = ap (λ (q : Row). q.phase) (row-with_other s.rows n m dropped_row from other)

    is_dropped : (m : ℕ) → m ≡ n → (row (with_at_number s.rows n dropped_row) m).phase ≡ Dropped
    is_dropped m same = ap (λ (q : Row). q.phase) (ap (row (with_at_number s.rows n dropped_row)) same ∙ row-with_same s.rows n dropped_row from to)

    fewer_start : StartFewer s.rows (with_at_number s.rows n dropped_row)
    fewer_start = record {
      kinds = λ m. elim (cases_eq m n) [
        | inl same ↦ ap (λ (q : Row). q.kind) (ap (row (with_at_number s.rows n dropped_row)) same ∙ row-with_same s.rows n dropped_row from to) ∙ ap (λ k. (row s.rows k).kind) (sym same)
        | inr other ↦ ap (λ (q : Row). q.kind) (row-with_other s.rows n m dropped_row from other)
      ];
      waits = λ m waits_now. elim (cases_eq m n) [
        | inl same ↦ absurd (let no : is_unstarted Dropped ≡ true = ap is_unstarted (sym (is_dropped m same)) ∙ waits_now in grind (arith, no))
        | inr other ↦ ap is_unstarted (sym (same_phase_else m other)) ∙ waits_now
      ];
      lives = λ m slot h live. elim (cases_eq m n) [
        | inl same ↦ absurd (let no : Dropped ≡ Live slot h = sym (is_dropped m same) ∙ live in grind (arith, ap (is_live_at slot h) no))
        | inr other ↦ sym (same_phase_else m other) ∙ live
      ];
      stays = λ m k slot h live below. elim (cases_eq k n) [
        | inl same ↦ absurd (let no : is_unstarted (row s.rows n).phase ≡ false = ap (λ i. is_unstarted (row s.rows i).phase) (sym same) ∙ ap is_unstarted below in grind (arith, no, waits))
        | inr other ↦ same_phase_else k other ∙ below
      ];
    }

    pub steady_dropped : IsSteady (on_row s n (λ r. record r { phase = Dropped }))
    steady_dropped = record {
      formed = record {
        linked = IsLinked-set s n dropped_row from to refl refl is.formed.linked;
        stacked = AreStacked-same s.rows _ same_stacks is.formed.stacked;
        inside = AreInside-set s.rows n dropped_row from to refl (λ t h live. absurd (let no : Dropped ≡ Live t h = live in grind (arith, ap (is_live_at t h) no))) is.formed.inside;
        on_makers = StandOnMakers-fewer s.rows _ fewer_start is.formed.on_makers;
        marked = AreMarked-set s.rows n dropped_row from to (is.formed.marked n) is.formed.marked;
        limit = let none : one_if (is_open Dropped) ≡ 0 = refl in omega (arith, open-set s.rows n dropped_row from to refl (omega (arith, none)), is.formed.limit);
        table = is.formed.table;
        slots = is.formed.slots;
      };
      tended = IsTended-set s n dropped_row (record {
        from = from;
        to = to;
        kind = refl;
        job = refl;
        waits = λ waits_now. absurd (let no : false ≡ true = waits_now in grind (arith, no));
        opens = λ opens. absurd (let no : false ≡ true = opens in grind (arith, no));
        past = λ k g kind old. is.tended.past k n g kind old;
        shape = record { registers = (is.tended.shapes n).registers; marks = (is.tended.shapes n).marks };
        slots = λ t h live. absurd (let no : Dropped ≡ Live t h = live in grind (arith, ap (is_live_at t h) no));
        lives = λ m t h kind live. absurd (let no : Dropped ≡ Live t h = live in grind (arith, ap (is_live_at t h) no));
        bare = λ q t h kind live.
            let started = is.tended.started q n (ap maker_of kind) in
            grind (arith, started, waits);
      }) is.formed.linked is.tended;
      stay = MakersStay-set s n dropped_row from to refl refl (λ opened. absurd (let no : false ≡ true = opened in grind (arith, no)))
          (λ closed x opened made. absurd (let started = is.tended.started x n made in grind (arith, started, waits))) is.stay;
    }

-- a tenant that has done nothing yet
pub steady_empty : (c : Tenant) → c.slots ≤ MAX_SLOTS → c.reserved ≤ c.slots → IsSteady (empty c)
steady_empty c slots reserved = record { formed = empty_kept c slots; tended = empty_tended c reserved; stay = empty_attended c }
