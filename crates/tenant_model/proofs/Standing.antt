-- Private runs of valid programs end at instructions.
use Rattle.std.proofs.Common.{◌≡◌, ℕ, zero, suc, ◌+◌, ◌<◌, List, [], length, Some, Bool, true, false, refl, sym, ap, ◌∙◌, arith, get_or}
use Rattle.std.specs.Prelude.{if◌then◌else◌, slice_index_or, unwrap_or, ℤ}
use Rattle.std.proofs.lemmas.List.{get_or_default}
use Rattle.std.proofs.lemmas.Option.{slice_get-get_or}
use Rattle.job_language.specs.declared.instructions.Instr.{Instr}
use Rattle.job_language.specs.declared.instructions.Instr.TheVariants.{Set, Add, Sub, Mul, Div, Lt, Rem, And, Or, Xor, Shl, Shr, Eq, Le, Jz, Jmp, Slot, Width, Spawn, Post, Wait, Cancel, Ask, Isolate}
use Rattle.job_language.specs.declared.instructions.Instr.TheVariants.{Load, Store, Sum, Count, Ret}
use Rattle.job_language.specs.Program.{IsValidProc, IsInRange, IsValidProgram, Calls, is_last}
use Rattle.job_step.specs.declared.frames.Frame.{Frame}
use Rattle.job_step.specs.declared.runs.Run.{Run}
use Rattle.job_step.specs.declared.runs.Stop.{Stop}
use Rattle.job_step.specs.declared.runs.Stop.TheVariants.{Shared, Yield, Fault}
use Rattle.job_step.specs.declared.effects.Effect.{Effect}
use Rattle.job_step.specs.declared.effects.Effect.TheVariants.{Moves, DividesByZero, IsShared}
use Rattle.job_step.specs.Frame.{instr_at, at_place, write_and_step, register, new_frame, is_zero, effect}
use Rattle.job_step.specs.Run.{stop_at, run_on, run_for, run_of}
use Rattle.job_step.proofs.RunSteps.{follows, IsInRange-found}
use Rattle.tenant_model.specs.Naming.{Stands}

abbrev stopped : Stop → Instr → Instr
stopped (Shared i) d = i
stopped stop d = d

abbrev is_shared_stop : Stop → Bool
is_shared_stop (Shared i) = true
is_shared_stop stop = false

no_fault : (j : Instr) → Fault ≡ Shared j → ⊥
no_fault j same = grind (arith, ap is_shared_stop same)

no_yield : (j : Instr) → Yield ≡ Shared j → ⊥
no_yield j same = grind (arith, ap is_shared_stop same)

module _ (procs : List (List Instr)) (valid : IsValidProgram procs) where
  -- the instruction at which a frame stands
  pub standing : (f : Frame) → Stands procs f →
      (i : Instr) × (instr_at procs f ≡ Some i) × (IsInRange (length (slice_index_or procs f.procedure [])) i) × (Calls (length procs) i) ×
      (is_last i ≡ false → f.place + 1 < length (slice_index_or procs f.procedure []))
  standing f stands =
      let proc = slice_index_or procs f.procedure [] in
      let its : IsValidProc proc = valid.each f.procedure [] stands.procedure in
      let i = get_or proc f.place (Ret 0) in
      let found : i ≡ get_or proc f.place i = get_or_default proc f.place (Ret 0) i stands.place in (
        i,
        slice_get-get_or proc f.place (Ret 0) stands.place,
        IsInRange-found proc f.place i its stands.place found,
        valid.calls f.procedure [] stands.procedure f.place (Ret 0) stands.place,
        follows proc f.place i its stands.place found,
      )

  -- at another place of the procedure
  pub stands_at : (f : Frame) (k : ℕ) → Stands procs f → k < length (slice_index_or procs f.procedure []) → Stands procs (at_place f k)
  stands_at f k stands within = record { procedure = stands.procedure; place = within }

  pub stands_next : (f : Frame) (i : Instr) (d : ℕ) (v : ℤ) → Stands procs f → instr_at procs f ≡ Some i → is_last i ≡ false → Stands procs (write_and_step f d v)
  stands_next f i d v stands at goes_on =
      let its = standing f stands in
      let same : its.0 ≡ i = ap (λ o. unwrap_or o i) (sym its.1 ∙ at) in
      record { procedure = stands.procedure; place = its.4 (rw same goes_on) }

  -- an instruction at which a frame stands is in range
  pub in_range : (f : Frame) (i : Instr) → Stands procs f → instr_at procs f ≡ Some i →
      IsInRange (length (slice_index_or procs f.procedure [])) i × Calls (length procs) i × (is_last i ≡ false → f.place + 1 < length (slice_index_or procs f.procedure []))
  in_range f i stands at =
      let its = standing f stands in
      let same : its.0 ≡ i = ap (λ o. unwrap_or o i) (sym its.1 ∙ at) in
      rw (sym same) (its.2, its.3, its.4)

  -- what an effect leaves a frame at
  abbrev Keeps : Effect → Type 0
  Keeps (Moves g) = Stands procs g
  Keeps DividesByZero = Unit
  Keeps IsShared = Unit

  zero_or_not : (b : Bool) (g : Frame) → Stands procs g → Keeps (if b then DividesByZero else Moves g)
  zero_or_not true g stands = tt
  zero_or_not false g stands = stands

  jumped : (f : Frame) (b : Bool) (t : ℕ) → Stands procs f → t < length (slice_index_or procs f.procedure []) → f.place + 1 < length (slice_index_or procs f.procedure []) →
      Stands procs (at_place f (if b then t else f.place + 1))
  jumped f true t stands target next = stands_at f t stands target
  jumped f false t stands target next = stands_at f (f.place + 1) stands next

  effect_stands : (f : Frame) (i : Instr) (slot width : ℕ) → Stands procs f → instr_at procs f ≡ Some i → Keeps (effect i slot width f)
  effect_stands f (Set d n) slot width stands at = stands_next f (Set d n) d _ stands at refl
  effect_stands f (Add d a b) slot width stands at = stands_next f (Add d a b) d _ stands at refl
  effect_stands f (Sub d a b) slot width stands at = stands_next f (Sub d a b) d _ stands at refl
  effect_stands f (Mul d a b) slot width stands at = stands_next f (Mul d a b) d _ stands at refl
  effect_stands f (Div d a b) slot width stands at = zero_or_not (is_zero (register f b)) _ (stands_next f (Div d a b) d _ stands at refl)
  effect_stands f (Lt d a b) slot width stands at = stands_next f (Lt d a b) d _ stands at refl
  effect_stands f (Rem d a b) slot width stands at = zero_or_not (is_zero (register f b)) _ (stands_next f (Rem d a b) d _ stands at refl)
  effect_stands f (And d a b) slot width stands at = stands_next f (And d a b) d _ stands at refl
  effect_stands f (Or d a b) slot width stands at = stands_next f (Or d a b) d _ stands at refl
  effect_stands f (Xor d a b) slot width stands at = stands_next f (Xor d a b) d _ stands at refl
  effect_stands f (Shl d a b) slot width stands at = stands_next f (Shl d a b) d _ stands at refl
  effect_stands f (Shr d a b) slot width stands at = stands_next f (Shr d a b) d _ stands at refl
  effect_stands f (Eq d a b) slot width stands at = stands_next f (Eq d a b) d _ stands at refl
  effect_stands f (Le d a b) slot width stands at = stands_next f (Le d a b) d _ stands at refl
  effect_stands f (Jz a t) slot width stands at =
      let its = in_range f (Jz a t) stands at in
      jumped f (is_zero (register f a)) t stands its.0.1 (its.2 refl)
  effect_stands f (Jmp t) slot width stands at = stands_at f t stands (in_range f (Jmp t) stands at).0
  effect_stands f (Slot d) slot width stands at = stands_next f (Slot d) d _ stands at refl
  effect_stands f (Width d) slot width stands at = stands_next f (Width d) d _ stands at refl
  effect_stands f (Spawn g p a b) slot width stands at = tt
  effect_stands f (Post p a b) slot width stands at = tt
  effect_stands f (Wait d e g) slot width stands at = tt
  effect_stands f (Cancel g) slot width stands at = tt
  effect_stands f (Ask d) slot width stands at = tt
  effect_stands f (Isolate d p a b) slot width stands at = tt
  effect_stands f (Load d k) slot width stands at = tt
  effect_stands f (Store k a) slot width stands at = tt
  effect_stands f (Sum d k) slot width stands at = tt
  effect_stands f (Count d k) slot width stands at = tt
  effect_stands f (Ret a) slot width stands at = tt

  -- A run ends at an instruction, and stops at the one that it names.
  pub record EndsWell (r : Run) : Type 0 where
    pub end : Stands procs r.end
    pub stop : (i : Instr) → r.stop ≡ Shared i → instr_at procs r.end ≡ Some i

  stop_is : (i j : Instr) → stop_at (Some i) ≡ Shared j → i ≡ j
  stop_is i j same = ap (λ stop. stopped stop i) same

  run_step : (start f : Frame) (c : ℕ) (i : Instr) (e : Effect) (next : Frame → Run) → Stands procs f → instr_at procs f ≡ Some i → Keeps e → ((g : Frame) → Stands procs g → EndsWell (next g)) →
      EndsWell (run_on start f c e (Some i) next)
  run_step start f c i (Moves g) next stands at kept goes_on = goes_on g kept
  run_step start f c i DividesByZero next stands at kept goes_on = record { end = stands; stop = λ j same. absurd (no_fault j same) }
  run_step start f c i IsShared next stands at kept goes_on = record { end = stands; stop = λ j same. at ∙ ap Some (stop_is i j same) }

  run_for_ends : (left slot width : ℕ) (start : Frame) (c : ℕ) (f : Frame) → Stands procs f → EndsWell (run_for left procs slot width start c f)
  unfolding run_for
  run_for_ends zero slot width start c f stands = record { end = stands; stop = λ j same. absurd (no_yield j same) }
  run_for_ends (suc left) slot width start c f stands =
      let its = standing f stands in
      rw its.1 (run_step start f c its.0 (effect its.0 slot width f) (run_for left procs slot width start (c + 1)) stands its.1 (effect_stands f its.0 slot width stands its.1)
      (λ g there. run_for_ends left slot width start (c + 1) g there))

  pub run_ends : (slot width : ℕ) (f : Frame) → Stands procs f → EndsWell (run_of procs slot width f)
  run_ends slot width f stands = run_for_ends 1000 slot width f 0 f stands

  -- a new frame of a procedure that is there
  pub stands_new : (p : ℕ) (x y : ℤ) → p < length procs → Stands procs (new_frame p x y)
  stands_new p x y there = record { procedure = there; place = (valid.each p [] there).some }
