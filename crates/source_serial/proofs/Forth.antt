-- What a source gives, its compiled program gives, with enough instructions.
use Rattle.std.proofs.Common.{◌≡◌, ℕ, zero, suc, ◌+◌, ℤ, pos, Bool, true, false, if◌then◌else◌, List, [], ◌∷◌, set, Option, Some, None, option_map, option_and_then, MatchOption, refl, sym, ap, subst}
use Rattle.std.proofs.Common.{◌∙◌, arith, FitsSigned}
use Rattle.std.specs.Prelude.{slice_get, slice_index_or}
use Rattle.std.specs.Int.{w64}
use Rattle.std.proofs.lemmas.Option.{none-some, same_Some}
use Rattle.job_language.specs.declared.instructions.Instr.{Instr}
use Rattle.job_language.specs.declared.instructions.Instr.TheVariants.{Set, Add, Sub, Mul, Div, Lt, Rem, And, Or, Xor, Shl, Shr, Eq, Le, Jz, Jmp, Slot, Width, Spawn, Post, Wait, Cancel, Ask, Isolate}
use Rattle.job_language.specs.declared.instructions.Instr.TheVariants.{Load, Store, Sum, Count, Ret}
use Rattle.job_step.specs.declared.frames.Frame.{Frame}
use Rattle.job_step.specs.declared.effects.Effect.{Effect}
use Rattle.job_step.specs.declared.effects.Effect.TheVariants.{Moves, DividesByZero, IsShared}
use Rattle.job_step.specs.Frame.{new_frame, register, instr_at, effect}
use Rattle.job_step.specs.Run.{effect_at}
use Rattle.job_step.specs.Least.{moved_to, next_of, frame_after}
use Rattle.tenant_model.specs.declared.serials.SerialTask.{SerialTask}
use Rattle.tenant_model.specs.declared.serials.SerialTurn.TheVariants.{Gives, Fails}
use Rattle.tenant_model.specs.Serial.{Given, given_by, given_then, given_of, new_task, turn_of, turn_at, after_wait, root_task, serial_value}
use Rattle.tenant_model.proofs.SerialRule.{given_of-suc}
use Rattle.source_language.specs.declared.syntax.Function.{Function}
use Rattle.source_language.specs.Meaning.{Operation, Spawns, Posts, Isolates, Waits, Cancels, Asks, Loads, Sums, Counts, Stores, Returns, Point, Act, Divides, Does, act, answered, start}
use Rattle.source_language.specs.Meaning as source
use Rattle.job_compiler.specs.Operations.{operation_of, resumed}
use Rattle.job_compiler.specs.Traces.{Event, Did, Divided, Lost, is_return, source_by, source_events, frame_by, frame_stops, frame_events, DoesTheSame}
use Rattle.job_compiler.specs.Compiled.{IsCompiled}
use Rattle.job_compiler.proofs.Events.{before_last}
use Rattle.job_compiler.proofs.RunsFollow.{on, heads, did_same, did_divided, did_lost}
use Rattle.source_serial.specs.SourceSerial.{SourceTask, sum_at, added, owes, task_of, given_to, then_with, does_serially, serially, source_given, source_value}
use Rattle.job_compiler.specs.Programs.{IsCompiledProgram}
use Rattle.source_serial.proofs.Turns.{numbers_fit, RegsFit, SumsFit, wrapped_fits, nought_fits, one_fits, regs_set, sums_set, new_sums, turn_alone, shared_moves, one_then, effect_fits, FitsAfter}
use Rattle.source_serial.proofs.Back.{Related, new_regs}

-- where a frame reaches an operation
record Reached (procs : List (List Instr)) (f : Frame) (o : Operation) : Type 0 where
  steps : ℕ
  frame : Frame
  instr : Instr
  by : frame_after procs 0 0 f steps ≡ Some frame
  there : instr_at procs frame ≡ Some instr
  shared : effect instr 0 0 frame ≡ IsShared
  asks : operation_of instr frame ≡ Some o
  fit : RegsFit frame.registers

then_some : (x : Option ℤ) (K : ℤ → Option ℤ) (v : ℤ) → then_with x K ≡ Some v → (w : ℤ) × (x ≡ Some w) × (K w ≡ Some v)
then_some None K v e = absurd (none-some v e)
then_some (Some w) K v e = (w, refl, e)

given_some : (F : SourceTask → Option ℤ) (o : Option SourceTask) (w : ℤ) → given_to F o ≡ Some w → (t : SourceTask) × (o ≡ Some t) × (F t ≡ Some w)
given_some F None w e = absurd (none-some w e)
given_some F (Some t) w e = (t, refl, e)

module _ (fs : List Function) (procs : List (List Instr)) (compiled : IsCompiledProgram fs procs) where
  -- a private instruction takes one of those that are left
  one_turn : (h g : Frame) (sums : List (Option ℤ)) (left : ℕ) → next_of procs 0 0 h ≡ Some g
      → given_of procs (suc left) (record { frame = h; sums = sums }) ≡ given_of procs left (record { frame = g; sums = sums })
  one_turn h g sums left e = given_of-suc procs left (record { frame = h; sums = sums }) ∙ by_instr (instr_at procs h) e
    where
      by_effect : (i : Instr) (x : Effect) → effect i 0 0 h ≡ x → moved_to x ≡ Some g
          → given_by (given_of procs) left (turn_of i (record { frame = h; sums = sums })) ≡ given_of procs left (record { frame = g; sums = sums })
      by_effect i (Moves z) is e = ap (given_by (given_of procs) left) (turn_alone i (record { frame = h; sums = sums }) (Moves z) is (shared_moves z))
          ∙ ap (λ (y : Frame). given_of procs left (record { frame = y; sums = sums })) (same_Some z g e)
      by_effect i DividesByZero is e = absurd (none-some g e)
      by_effect i IsShared is e = absurd (none-some g e)

      by_instr : (o : Option Instr) → option_and_then (λ i. moved_to (effect i 0 0 h)) o ≡ Some g
          → given_by (given_of procs) left (turn_at o (record { frame = h; sums = sums })) ≡ given_of procs left (record { frame = g; sums = sums })
      by_instr None e = absurd (none-some g e)
      by_instr (Some i) e = by_effect i (effect i 0 0 h) refl e

  given_moves : (k : ℕ) (f g : Frame) (sums : List (Option ℤ)) (left : ℕ) → frame_after procs 0 0 f k ≡ Some g
      → given_of procs (k + left) (record { frame = f; sums = sums }) ≡ given_of procs left (record { frame = g; sums = sums })
  given_moves zero f g sums left e = let z : 0 + left ≡ left = omega arith in ap (λ m. given_of procs m (record { frame = f; sums = sums })) z
      ∙ ap (λ (x : Frame). given_of procs left (record { frame = x; sums = sums })) (same_Some f g e)
  given_moves (suc k) f g sums left e =
      let b = before_last procs 0 0 f g k e in
      let z : suc k + left ≡ k + suc left = omega arith in
      ap (λ m. given_of procs m (record { frame = f; sums = sums })) z ∙ given_moves k f b.0 sums (suc left) b.1 ∙ one_turn b.0 g sums left b.2

  reached : (m : ℕ) (f : Frame) (o : Operation) → RegsFit f.registers → frame_events procs 0 0 m f [] ≡ Some (Did o ∷ []) → Reached procs f o
  reached zero f o fit e = absurd (none-some _ e)
  reached (suc m) f o fit e = by_instr (λ g fit' e'. reached m g o fit' e') (instr_at procs f) refl e
    where
      by_operation : (i : Instr) → instr_at procs f ≡ Some i → effect i 0 0 f ≡ IsShared → (x : Option Operation) → operation_of i f ≡ x
          → frame_stops (frame_events procs 0 0 m) f x (λ g y z. resumed i y z g) [] ≡ Some (Did o ∷ []) → Reached procs f o
      by_operation i here shared None is e = absurd (did_lost o (sym (heads Lost (Did o) [] [] (same_Some _ _ e))))
      by_operation i here shared (Some u) is e =
          let same : u ≡ o = did_same u o (heads (Did u) (Did o) [] [] (same_Some _ _ e)) in
          record { steps = 0; frame = f; instr = i; by = refl; there = here; shared = shared; asks = is ∙ ap Some same; fit = fit }

      by_effect : ((g : Frame) → RegsFit g.registers → frame_events procs 0 0 m g [] ≡ Some (Did o ∷ []) → Reached procs g o) → (i : Instr) → instr_at procs f ≡ Some i → (x : Effect)
          → effect i 0 0 f ≡ x → frame_by (frame_events procs 0 0 m) f x (Some i) [] ≡ Some (Did o ∷ []) → Reached procs f o
      by_effect ih i here (Moves g) is e =
          let fit' : RegsFit g.registers = subst FitsAfter is (effect_fits i f (λ d z eq. numbers_fit procs compiled.valid f d z (here ∙ ap Some eq)) fit) in
          let r = ih g fit' e in
          let goes : next_of procs 0 0 f ≡ Some g = rw (here, is) refl in
          record {
            steps = suc r.steps;
            frame = r.frame;
            instr = r.instr;
            by = one_then procs
                (numbers_fit procs compiled.valid) f g r.frame r.steps goes r.by;
            there = r.there;
            shared = r.shared;
            asks = r.asks;
            fit = r.fit;
          }
      by_effect ih i here DividesByZero is e = absurd (did_divided o (sym (heads Divided (Did o) [] [] (same_Some _ _ e))))
      by_effect ih i here IsShared is e = by_operation i here is (operation_of i f) refl e

      by_instr : ((g : Frame) → RegsFit g.registers → frame_events procs 0 0 m g [] ≡ Some (Did o ∷ []) → Reached procs g o) → (x : Option Instr) → instr_at procs f ≡ x
          → frame_by (frame_events procs 0 0 m) f (effect_at x 0 0 f) x [] ≡ Some (Did o ∷ []) → Reached procs f o
      by_instr ih None here e = absurd (did_lost o (sym (heads Lost (Did o) [] [] (same_Some _ _ e))))
      by_instr ih (Some i) here e = by_effect ih i here (effect i 0 0 f) refl e

  -- a step of the source changes nothing
  moved_on : (p q : Point) (f : Frame) → act 0 0 p ≡ source.Goes q → DoesTheSame procs 0 0 p f → DoesTheSame procs 0 0 q f
  moved_on p q f is same = record {
    forth = λ answers ok n events e. same.forth answers ok (suc n) events (ap (λ a. source_by (source_events 0 0 n) p a answers) is ∙ e);
    back = λ answers ok m events e. let n = same.back answers ok m events e in lower n.0 answers events n.1;
  }
    where
      lower : (n : ℕ) (answers : List (ℤ × ℤ)) (events : List Event) → source_events 0 0 n p answers ≡ Some events → (k : ℕ) × (source_events 0 0 k q answers ≡ Some events)
      lower zero answers events e = absurd (none-some events e)
      lower (suc n) answers events e = (n, sym (ap (λ a. source_by (source_events 0 0 n) p a answers) is) ∙ e)

  record GivesIt (u : SerialTask) (v : ℤ) : Type 0 where
    count : ℕ
    gives : (left : ℕ) → given_of procs (count + left) u ≡ Some (v, left)
    fits : FitsSigned w64 v

  -- the same from a turn on
  record TurnGives (i : Instr) (t : SerialTask) (v : ℤ) : Type 0 where
    count : ℕ
    gives : (left : ℕ) → given_by (given_of procs) (count + left) (turn_of i t) ≡ Some (v, left)
    fits : FitsSigned w64 v

  child_of : (p : ℕ) (x y : ℤ) (t : SourceTask) → FitsSigned w64 x → FitsSigned w64 y → task_of (slice_get fs p) x y ≡ Some t → Related fs procs compiled t (new_task (new_frame p x y))
  child_of p x y t fx fy e = by_function (slice_get fs p) (compiled.each p) e
    where
      by_function : (o : Option Function) → MatchOption o (slice_index_or procs p [] ≡ []) (λ f. IsCompiled f (slice_index_or procs p [])) → task_of o x y ≡ Some t
          → Related fs procs compiled t (new_task (new_frame p x y))
      by_function None none e = absurd (none-some t e)
      by_function (Some f) good e = subst (λ (z : SourceTask). Related fs procs compiled z (new_task (new_frame p x y))) (same_Some _ t e)
          (record { same = good procs p 0 0 x y refl (omega arith) (omega arith) fx fy; sums = refl; regs = new_regs fs procs compiled p x y fx fy; fit = new_sums 4 })

  module _ (n : ℕ) (ih : (t : SourceTask) (u : SerialTask) → Related fs procs compiled t u → (v : ℤ) → source_given n fs t ≡ Some v → GivesIt u v) (g : Frame) (q : Point) (sums : List (Option ℤ))
      (regs : RegsFit g.registers) (fit : SumsFit sums) (v : ℤ) where
    abbrev Finding : Instr → Operation → Type 0
    Finding i o = (is_return o ≡ false → (x y : ℤ) → FitsSigned w64 x → FitsSigned w64 y → DoesTheSame procs 0 0 (answered q x y) (resumed i x y g))
        → does_serially (source_given n fs) fs (record { point = q; sums = sums }) o ≡ Some v → TurnGives i (record { frame = g; sums = sums }) v

    -- a task was made, and then its maker goes on
    made : (u1 u2 : SerialTask) (next : ℤ → ℕ → Given) (w : ℤ) (c1 : GivesIt u1 w) (c2 : GivesIt u2 v) → ((mid : ℕ) → next w mid ≡ given_of procs mid u2) → (left : ℕ)
        → given_then (given_of procs (c1.count + c2.count + left) u1) next ≡ Some (v, left)
    made u1 u2 next w c1 c2 is left =
        let z : c1.count + c2.count + left ≡ c1.count + (c2.count + left) = omega arith in
        ap (λ k. given_then (given_of procs k u1) next) z ∙ ap (λ (x : Given). given_then x next) (c1.gives (c2.count + left)) ∙ is (c2.count + left) ∙ c2.gives left

    spawned : (gr p a b : ℕ) → Finding (Spawn gr p a b) (Spawns gr p (register g a) (register g b))
    spawned gr p a b goes e =
        let x = then_some (given_to (source_given n fs) (task_of (slice_get fs p) (register g a) (register g b))) _ v e in
        let y = given_some (source_given n fs) (task_of (slice_get fs p) (register g a) (register g b)) x.0 x.1 in
        let c1 = ih y.0 _ (child_of p (register g a) (register g b) y.0 (regs a) (regs b) y.1) x.0 y.2 in
        let t2 : SourceTask = record { point = answered q (pos 0) (pos 0); sums = added sums gr x.0 } in
        let u2 : SerialTask = record { frame = record g { place = g.place + 1 }; sums = added sums gr x.0 } in
        let c2 = ih t2 u2 (record { same = goes refl (pos 0) (pos 0) nought_fits nought_fits; sums = refl; regs = regs; fit = sums_set sums gr _ (wrapped_fits _) fit }) v x.2 in
        record {
          count = c1.count + c2.count;
          gives = λ left. made _ u2 (λ w mid. given_of procs mid (record { frame = record g { place = g.place + 1 }; sums = added sums gr w })) x.0 c1 c2
              (λ mid. refl) left;
          fits = c2.fits;
        }

    isolated : (d p a b : ℕ) → Finding (Isolate d p a b) (Isolates p (register g a) (register g b))
    isolated d p a b goes e =
        let x = then_some (given_to (source_given n fs) (task_of (slice_get fs p) (register g a) (register g b))) _ v e in
        let y = given_some (source_given n fs) (task_of (slice_get fs p) (register g a) (register g b)) x.0 x.1 in
        let c1 = ih y.0 _ (child_of p (register g a) (register g b) y.0 (regs a) (regs b) y.1) x.0 y.2 in
        let t2 : SourceTask = record { point = answered q x.0 (pos 0); sums = sums } in
        let u2 : SerialTask = record { frame = record g { place = g.place + 1; registers = set g.registers d x.0 }; sums = sums } in
        let c2 = ih t2 u2 (record { same = goes refl x.0 (pos 0) c1.fits nought_fits; sums = refl; regs = regs_set g.registers d x.0 c1.fits regs; fit = fit }) v x.2 in
        record {
          count = c1.count + c2.count;
          gives = λ left. made _ u2
              (λ w mid. given_of procs mid (record { frame = record g { place = g.place + 1; registers = set g.registers d w }; sums = sums })) x.0 c1 c2 (λ mid. refl) left;
          fits = c2.fits;
        }

    waited : (d e' gr : ℕ) → Finding (Wait d e' gr) (Waits gr)
    waited d e' gr goes e =
        let s = sum_at sums gr in
        let t2 : SourceTask = record { point = answered q s (pos 1); sums = set sums gr None } in
        let u2 : SerialTask = after_wait (record { frame = g; sums = sums }) d e' gr in
        let c = ih t2 u2 (record {
          same = goes refl s (pos 1) (fit gr) one_fits;
          sums = refl;
          regs = regs_set (set g.registers d s) e' (pos 1) one_fits
              (regs_set g.registers d s (fit gr) regs);
          fit = sums_set sums gr None nought_fits fit;
        }) v e in
        record { count = c.count; gives = c.gives; fits = c.fits }

    owing_gives : (b : Bool) (x : ℤ) → FitsSigned w64 x → (if b then None else Some x) ≡ Some v
        → ((left : ℕ) → given_by (given_of procs) (0 + left) (if b then Fails else Gives x) ≡ Some (v, left)) × FitsSigned w64 v
    owing_gives true x fx e = absurd (none-some v e)
    owing_gives false x fx e =
        let same : x ≡ v = same_Some x v e in
        (λ left. let z : 0 + left ≡ left = omega arith in ap (λ (y : ℤ). Some (y, 0 + left)) same ∙ ap (λ k. Some (v, k)) z, subst (FitsSigned w64) same fx)

    returned : (a : ℕ) → Finding (Ret a) (Returns (register g a))
    returned a goes e = let r = owing_gives (owes sums) (register g a) (regs a) e in record { count = 0; gives = r.0; fits = r.1 }

    by_instr : (i : Instr) (o : Operation) → operation_of i g ≡ Some o → Finding i o
    by_instr (Spawn gr p a b) o is = subst (Finding (Spawn gr p a b)) (same_Some (Spawns gr p (register g a) (register g b)) o is) (spawned gr p a b)
    by_instr (Isolate d p a b) o is = subst (Finding (Isolate d p a b)) (same_Some (Isolates p (register g a) (register g b)) o is) (isolated d p a b)
    by_instr (Wait d e' gr) o is = subst (Finding (Wait d e' gr)) (same_Some (Waits gr) o is) (waited d e' gr)
    by_instr (Ret a) o is = subst (Finding (Ret a)) (same_Some (Returns (register g a)) o is) (returned a)
    by_instr (Post p a b) o is = subst (Finding (Post p a b)) (same_Some (Posts p (register g a) (register g b)) o is) (λ goes e. absurd (none-some v e))
    by_instr (Cancel gr) o is = subst (Finding (Cancel gr)) (same_Some (Cancels gr) o is) (λ goes e. absurd (none-some v e))
    by_instr (Ask d) o is = subst (Finding (Ask d)) (same_Some Asks o is) (λ goes e. absurd (none-some v e))
    by_instr (Load d k) o is = subst (Finding (Load d k)) (same_Some (Loads k) o is) (λ goes e. absurd (none-some v e))
    by_instr (Store k a) o is = subst (Finding (Store k a)) (same_Some (Stores k (register g a)) o is) (λ goes e. absurd (none-some v e))
    by_instr (Sum d k) o is = subst (Finding (Sum d k)) (same_Some (Sums k) o is) (λ goes e. absurd (none-some v e))
    by_instr (Count d k) o is = subst (Finding (Count d k)) (same_Some (Counts k) o is) (λ goes e. absurd (none-some v e))
    by_instr (Set d z) o is = absurd (none-some o is)
    by_instr (Add d a b) o is = absurd (none-some o is)
    by_instr (Sub d a b) o is = absurd (none-some o is)
    by_instr (Mul d a b) o is = absurd (none-some o is)
    by_instr (Div d a b) o is = absurd (none-some o is)
    by_instr (Lt d a b) o is = absurd (none-some o is)
    by_instr (Rem d a b) o is = absurd (none-some o is)
    by_instr (And d a b) o is = absurd (none-some o is)
    by_instr (Or d a b) o is = absurd (none-some o is)
    by_instr (Xor d a b) o is = absurd (none-some o is)
    by_instr (Shl d a b) o is = absurd (none-some o is)
    by_instr (Shr d a b) o is = absurd (none-some o is)
    by_instr (Eq d a b) o is = absurd (none-some o is)
    by_instr (Le d a b) o is = absurd (none-some o is)
    by_instr (Jz a t) o is = absurd (none-some o is)
    by_instr (Jmp t) o is = absurd (none-some o is)
    by_instr (Slot d) o is = absurd (none-some o is)
    by_instr (Width d) o is = absurd (none-some o is)

  forth : (n : ℕ) (t : SourceTask) (u : SerialTask) → Related fs procs compiled t u → (v : ℤ) → source_given n fs t ≡ Some v → GivesIt u v
  forth zero t u r v e = absurd (none-some v e)
  forth (suc n) t u r v e = by_act (λ t' u' r' v' e'. forth n t' u' r' v' e') (act 0 0 t.point) refl e
    where
      by_act : ((t' : SourceTask) (u' : SerialTask) → Related fs procs compiled t' u' → (v' : ℤ) → source_given n fs t' ≡ Some v' → GivesIt u' v') → (a : Act) → act 0 0 t.point ≡ a
          → serially (source_given n fs) fs t a ≡ Some v → GivesIt u v
      by_act ih (source.Goes q) is e = ih (record { point = q; sums = t.sums }) u (record { same = moved_on t.point q u.frame is r.same; sums = r.sums; regs = r.regs; fit = r.fit }) v e
      by_act ih Divides is e = absurd (none-some v e)
      by_act ih (Does o) is e =
          let said = r.same.forth [] tt 1 (Did o ∷ []) (ap (λ a. source_by (source_events 0 0 0) t.point a []) is) in
          let s = reached said.0 u.frame o r.regs said.1 in
          let goes = λ (not_last : is_return o ≡ false) (x y : ℤ) (fx : FitsSigned w64 x)
          (fy : FitsSigned w64 y). on procs 0 0 t.point t.point u.frame s.frame s.steps 0 s.instr o s.by refl s.there s.shared s.asks is not_last r.same x y fx fy in
          let e2 : does_serially (source_given n fs) fs (record { point = t.point; sums = u.sums }) o
          ≡ Some v = subst (λ (z : List (Option ℤ)). does_serially (source_given n fs) fs (record { point = t.point; sums = z }) o ≡ Some v) r.sums e in
          let c = by_instr n ih s.frame t.point u.sums s.fit r.fit v s.instr o s.asks goes e2 in
          record {
            count = s.steps + suc c.count;
            gives = λ left.
                let z : s.steps + suc c.count + left ≡ s.steps + suc (c.count + left) = omega arith in
                ap (λ k. given_of procs k u) z ∙ given_moves s.steps u.frame s.frame u.sums (suc (c.count + left)) s.by
                ∙ given_of-suc procs (c.count + left) (record { frame = s.frame; sums = u.sums })
                ∙ ap (λ o. given_by (given_of procs) (c.count + left) (turn_at o (record { frame = s.frame; sums = u.sums }))) s.there ∙ c.gives left;
            fits = c.fits;
          }

pub source_is_enough : (fs : List Function) (procs : List (List Instr)) (args : List ℤ) → IsCompiledProgram fs procs → ((k : ℕ) → FitsSigned w64 (slice_index_or args k (pos 0))) → (n : ℕ) (v : ℤ)
    → source_value fs args n ≡ Some v → (left : ℕ) × (serial_value procs args left ≡ Some v)
source_is_enough fs procs args compiled fit n v e =
    let x = slice_index_or args 0 (pos 0) in
    let y = slice_index_or args 1 (pos 0) in
    let t = given_some (source_given n fs) (task_of (slice_get fs 0) x y) v e in
    let c = forth fs procs compiled n t.0 (root_task args) (child_of fs procs compiled 0 x y t.0 (fit 0) (fit 1) t.1) v t.2 in
    (c.count + 0, ap (option_map (λ (p : ℤ × ℕ). p.0)) (c.gives 0))
