-- What a task gives, and by how many instructions.
use Rattle.std.proofs.Common.{◌≡◌, ℕ, zero, suc, ◌+◌, List, [], ◌∷◌, Option, Some, None, Bool, true, false, refl, sym, ap, ◌∙◌, arith, ℤ, unwrap_or}
use Rattle.std.specs.Prelude.{slice_get, slice_index_or, is_some}
use Rattle.std.specs.List.{list_all}
use Rattle.job_language.specs.declared.instructions.Instr.{Instr}
use Rattle.job_language.specs.declared.instructions.Instr.TheVariants.{Set, Add, Sub, Mul, Div, Lt, Rem, And, Or, Xor, Shl, Shr, Eq, Le, Jz, Jmp, Slot, Width, Spawn, Post, Wait, Cancel, Ask, Isolate}
use Rattle.job_language.specs.declared.instructions.Instr.TheVariants.{Load, Store, Sum, Count, Ret}
use Rattle.job_language.specs.Serial.{is_serial_instr, is_serial}
use Rattle.job_step.specs.declared.frames.Frame.{Frame}
use Rattle.job_step.specs.declared.runs.Run.{Run}
use Rattle.job_step.specs.declared.runs.Stop.{Stop}
use Rattle.job_step.specs.declared.runs.Stop.TheVariants.{Shared, Fault}
use Rattle.job_step.specs.declared.effects.Effect.{Effect}
use Rattle.job_step.specs.declared.effects.Effect.TheVariants.{Moves, DividesByZero, IsShared}
use Rattle.job_step.specs.Frame.{instr_at, effect}
use Rattle.job_step.specs.Run.{run_on, run_for, run_of}
use Rattle.tenant_model.specs.declared.serials.SerialTask.{SerialTask}
use Rattle.tenant_model.specs.declared.serials.SerialMaker.{SerialMaker}
use Rattle.tenant_model.specs.declared.serials.SerialTurn.TheVariants as turn
use Rattle.tenant_model.specs.Serial.{Given, given_then, given_by, given_of, turn_by, turn_of, turn_at, with_value}
use Rattle.tenant_model.proofs.Running.{run_ends_at}
use Rattle.tenant_model.proofs.SerialRule.{given_of-suc}

-- A task returns v after these instructions, however many more are left.
pub record Gives (procs : List (List Instr)) (t : SerialTask) (v : ℤ) (count : ℕ) : Type 0 where
  pub gives : (more : ℕ) → given_of procs (count + more) t ≡ Some (v, more)

module _ (procs : List (List Instr)) (t : SerialTask) where
  -- a task that continues in another state
  pub gives_goes : (u : SerialTask) (v : ℤ) (c : ℕ) → turn_at (instr_at procs t.frame) t ≡ turn.Goes u → Gives procs u v c → Gives procs t v (c + 1)
  gives_goes u v c goes after = record {
    gives = λ more.
        let e : c + 1 + more ≡ suc (c + more) = omega arith in
        ap (λ k. given_of procs k t) e ∙ given_of-suc procs (c + more) t ∙ ap (given_by (given_of procs) (c + more)) goes ∙ after.gives more;
  }

  -- a task that makes another one, and continues with its value
  pub gives_makes : (u : SerialTask) (m : SerialMaker) (w v : ℤ) (c d : ℕ) → turn_at (instr_at procs t.frame) t ≡ turn.Makes u m → Gives procs u w c → Gives procs (with_value m w) v d →
      Gives procs t v (c + d + 1)
  gives_makes u m w v c d makes first second = record {
    gives = λ more.
        let e : c + d + 1 + more ≡ suc (c + (d + more)) = omega arith in
        ap (λ k. given_of procs k t) e ∙ given_of-suc procs (c + (d + more)) t ∙ ap (given_by (given_of procs) (c + (d + more))) makes ∙
        ap (λ (g : Given). given_then g (λ x rest. given_of procs rest (with_value m x))) (first.gives (d + more)) ∙ second.gives more;
  }

  -- a task that ends
  pub gives_ends : (v : ℤ) → turn_at (instr_at procs t.frame) t ≡ turn.Gives v → Gives procs t v 1
  gives_ends v ends = record {
    gives = λ more.
        let e : 1 + more ≡ suc more = omega arith in
        ap (λ k. given_of procs k t) e ∙ given_of-suc procs more t ∙ ap (given_by (given_of procs) more) ends;
  }

-- each instruction of a serial program is serial
all_get : {A : Type 0} (p : A → Bool) (xs : List A) (k : ℕ) (x : A) → list_all p xs ≡ true → slice_get xs k ≡ Some x → p x ≡ true
all_get p [] k x all is = absurd (grind (arith, ap is_some is))
all_get p (y ∷ ys) zero x all is =
    let e : y ≡ x = ap (λ o. unwrap_or o y) is in
    let first : p y ≡ true = grind (arith, all) in
    rw (sym e) first
all_get p (y ∷ ys) (suc k) x all is = all_get p ys k x (grind (arith, all)) is

all_index : {A : Type 0} (p : A → Bool) (xs : List A) (k : ℕ) (d : A) → list_all p xs ≡ true → p d ≡ true → p (slice_index_or xs k d) ≡ true
all_index p [] k d all rest = rest
all_index p (y ∷ ys) zero d all rest = grind (arith, all)
all_index p (y ∷ ys) (suc k) d all rest = all_index p ys k d (grind (arith, all)) rest

pub serial_at : (procs : List (List Instr)) → is_serial procs ≡ true → (f : Frame) (i : Instr) → instr_at procs f ≡ Some i → is_serial_instr i ≡ true
serial_at procs serial f i at = all_get is_serial_instr (slice_index_or procs f.procedure []) f.place i (all_index (list_all is_serial_instr) procs f.procedure [] serial refl) at

abbrev is_move : Effect → Bool
is_move (Moves f) = true
is_move e = false

not_shared : (g : Frame) → IsShared ≡ Moves g → ⊥
not_shared g same = grind (arith, ap is_move same)

-- A private instruction of a serial program does the same as a turn.
effect_turn : (i : Instr) (t : SerialTask) (slot width : ℕ) (g : Frame) → is_serial_instr i ≡ true → effect i slot width t.frame ≡ Moves g → turn_of i t ≡ turn.Goes (record t { frame = g })
effect_turn (Set d n) t slot width g serial moves = ap (turn_by t) moves
effect_turn (Add d a b) t slot width g serial moves = ap (turn_by t) moves
effect_turn (Sub d a b) t slot width g serial moves = ap (turn_by t) moves
effect_turn (Mul d a b) t slot width g serial moves = ap (turn_by t) moves
effect_turn (Div d a b) t slot width g serial moves = ap (turn_by t) moves
effect_turn (Lt d a b) t slot width g serial moves = ap (turn_by t) moves
effect_turn (Rem d a b) t slot width g serial moves = ap (turn_by t) moves
effect_turn (And d a b) t slot width g serial moves = ap (turn_by t) moves
effect_turn (Or d a b) t slot width g serial moves = ap (turn_by t) moves
effect_turn (Xor d a b) t slot width g serial moves = ap (turn_by t) moves
effect_turn (Shl d a b) t slot width g serial moves = ap (turn_by t) moves
effect_turn (Shr d a b) t slot width g serial moves = ap (turn_by t) moves
effect_turn (Eq d a b) t slot width g serial moves = ap (turn_by t) moves
effect_turn (Le d a b) t slot width g serial moves = ap (turn_by t) moves
effect_turn (Jz a k) t slot width g serial moves = ap (turn_by t) moves
effect_turn (Jmp k) t slot width g serial moves = ap (turn_by t) moves
effect_turn (Slot d) t slot width g serial moves = absurd (grind (arith, serial))
effect_turn (Width d) t slot width g serial moves = absurd (grind (arith, serial))
effect_turn (Spawn h p a b) t slot width g serial moves = absurd (not_shared g moves)
effect_turn (Post p a b) t slot width g serial moves = absurd (not_shared g moves)
effect_turn (Wait d e h) t slot width g serial moves = absurd (not_shared g moves)
effect_turn (Cancel h) t slot width g serial moves = absurd (not_shared g moves)
effect_turn (Ask d) t slot width g serial moves = absurd (not_shared g moves)
effect_turn (Isolate d p a b) t slot width g serial moves = absurd (not_shared g moves)
effect_turn (Load d k) t slot width g serial moves = absurd (not_shared g moves)
effect_turn (Store k a) t slot width g serial moves = absurd (not_shared g moves)
effect_turn (Sum d k) t slot width g serial moves = absurd (not_shared g moves)
effect_turn (Count d k) t slot width g serial moves = absurd (not_shared g moves)
effect_turn (Ret a) t slot width g serial moves = absurd (not_shared g moves)

abbrev pub is_fault : Stop → Bool
is_fault Fault = true
is_fault stop = false

-- the task with a frame and sums
abbrev pub task : Frame → List (Option ℤ) → SerialTask
task f sums = record { frame = f; sums = sums }

-- A frame from which a run leads to g returns v, if g does.
abbrev pub GoesBack : List (List Instr) → (f g : Frame) (n : ℕ) → Type 0
GoesBack procs f g n = (sums : List (Option ℤ)) (v : ℤ) (d : ℕ) → Gives procs (task g sums) v d → Gives procs (task f sums) v (d + n)

abbrev RunsBack : List (List Instr) → Frame → ℕ → Run → Type 0
RunsBack procs f c r = is_fault r.stop ≡ false → (n : ℕ) × (r.count ≡ c + n) × GoesBack procs f r.end n

none_back : (procs : List (List Instr)) (f : Frame) (c : ℕ) → (n : ℕ) × (c ≡ c + n) × GoesBack procs f f n
none_back procs f c = (0, omega arith, λ sums v d gives. let e : d + 0 ≡ d = omega arith in rw e gives)

module _ (procs : List (List Instr)) (serial : is_serial procs ≡ true) where
  one_back : (f : Frame) (c : ℕ) (i : Instr) (slot width : ℕ) (start : Frame) (e : Effect) (next : Frame → Run) → effect i slot width f ≡ e → instr_at procs f ≡ Some i →
      ((g : Frame) → RunsBack procs g (c + 1) (next g)) → RunsBack procs f c (run_on start f c e (Some i) next)
  one_back f c i slot width start (Moves g) next is at goes_on = λ no_fault.
      let rest = goes_on g no_fault in (
        rest.0 + 1,
        omega (arith, rest.1),
        λ sums v d gives.
            let e : d + (rest.0 + 1) ≡ d + rest.0 + 1 = omega arith in
            rw e (gives_goes procs (task f sums) (task g sums) v (d + rest.0) (ap (λ o. turn_at o (task f sums)) at ∙ effect_turn i (task f sums) slot width g (serial_at procs serial f i at) is)
            (rest.2 sums v d gives)),
      )
  one_back f c i slot width start DividesByZero next is at goes_on = λ no_fault. absurd (grind (arith, no_fault))
  one_back f c i slot width start IsShared next is at goes_on = λ no_fault. none_back procs f c

  run_for_back : (left slot width : ℕ) (start : Frame) (c : ℕ) (f : Frame) (o : Option Instr) → instr_at procs f ≡ o → RunsBack procs f c (run_for left procs slot width start c f)
  unfolding run_for
  run_for_back zero slot width start c f o at = λ no_fault. none_back procs f c
  run_for_back (suc left) slot width start c f None at = rw at (λ no_fault. none_back procs f c)
  run_for_back (suc left) slot width start c f (Some i) at =
      rw at (one_back f c i slot width start (effect i slot width f) (run_for left procs slot width start (c + 1)) refl at (λ g. run_for_back left slot width start (c + 1) g (instr_at procs g) refl))

  -- a private run, taken back
  pub run_back : (slot width : ℕ) (f : Frame) → let r = run_of procs slot width f in is_fault r.stop ≡ false → GoesBack procs f r.end r.count
  run_back slot width f = λ no_fault.
      let back = run_for_back 1000 slot width f 0 f (instr_at procs f) refl no_fault in
      let e : (run_of procs slot width f).count ≡ back.0 = omega (arith, back.1) in
      rw e back.2

-- A run that stops at an instruction ends there.
abbrev Stops : List (List Instr) → Run → Type 0
Stops procs r = (i : Instr) → r.stop ≡ Shared i → instr_at procs r.end ≡ Some i

pub run_stops : (procs : List (List Instr)) (slot width : ℕ) (f : Frame) → Stops procs (run_of procs slot width f)
run_stops procs slot width f = (run_ends_at procs slot width f).stop
