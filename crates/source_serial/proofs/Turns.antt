-- Turns of tasks, and numbers that fit 64 bits.
use Rattle.std.proofs.Common.{◌≡◌, ℕ, zero, suc, ◌+◌, ◌<◌, ◌≤◌, ◌^◌, ℤ, pos, Bool, true, false, if◌then◌else◌, List, [], ◌∷◌, get_or, set, replicate, Option, Some, None, refl, sym, ap, subst, ◌∙◌}
use Rattle.std.proofs.Common.{arith, FitsSigned}
use Rattle.std.specs.Prelude.{int_lt, int_le, int_rem, unwrap_or, slice_index_or}
use Rattle.std.specs.Int.{cast_signed, int_shr, w64}
use Rattle.std.specs.Ordering.{int_eq}
use lib.Signed.{mag_rem, mag_shr}
use mir.ValLaws.{sfits_le}
use borrow.Author.Differences.{fits_in, read_fits}
use Rattle.std.proofs.Common.{⊎_elim, length}
use Rattle.std.specs.Prelude.{slice_get}
use Rattle.std.proofs.lemmas.Bool.{cases_lt}
use Rattle.std.proofs.lemmas.List.{get_or_past}
use Rattle.std.proofs.lemmas.List.Elements.{All-get_or}
use Rattle.job_language.specs.Program.{IsValidProgram, IsValidProc, IsInRange}
use Rattle.std.proofs.lemmas.Option.{none-some, slice_get_within, get_or_from_slice_get}
use Rattle.job_language.specs.declared.instructions.Instr.{Instr}
use Rattle.job_language.specs.declared.instructions.Instr.TheVariants.{Set, Add, Sub, Mul, Div, Lt, Rem, And, Or, Xor, Shl, Shr, Eq, Le, Jz, Jmp, Slot, Width, Spawn, Post, Wait, Cancel, Ask, Isolate}
use Rattle.job_language.specs.declared.instructions.Instr.TheVariants.{Load, Store, Sum, Count, Ret}
use Rattle.job_step.specs.declared.frames.Frame.{Frame}
use Rattle.job_step.specs.declared.effects.Effect.{Effect}
use Rattle.job_step.specs.declared.effects.Effect.TheVariants.{Moves, DividesByZero, IsShared}
use Rattle.job_step.specs.Frame.{instr_at, effect, register, is_zero, shift_count}
use Rattle.job_step.specs.Least.{next_of, frame_after}
use Rattle.tenant_model.specs.declared.serials.SerialTask.{SerialTask}
use Rattle.tenant_model.specs.declared.serials.SerialTurn.TheVariants.{Goes}
use Rattle.tenant_model.specs.Serial.{given_by, given_of, turn_by, turn_of, turn_at}
use Rattle.tenant_model.proofs.SerialRule.{given_of-zero, given_of-suc}
use Rattle.job_compiler.proofs.Numbers.{small_fits}
use Rattle.job_compiler.proofs.Steps.{after_more}
use Rattle.source_serial.specs.SourceSerial.{sum_at}

-- what all items of a list have, it keeps where an item that has it is set
pub kept_set : {X : Type 0} (P : X → Type 0) (d : X) (xs : List X) (k : ℕ) (v : X) → P v → ((r : ℕ) → P (get_or xs r d)) → (r : ℕ) → P (get_or (set xs k v) r d)
kept_set P d [] k v pv all r = all r
kept_set P d (x ∷ xs) zero v pv all zero = pv
kept_set P d (x ∷ xs) zero v pv all (suc r) = all (suc r)
kept_set P d (x ∷ xs) (suc k) v pv all zero = all zero
kept_set P d (x ∷ xs) (suc k) v pv all (suc r) = kept_set P d xs k v pv (λ j. all (suc j)) r

abbrev pub RegsFit : List ℤ → Type 0
RegsFit regs = (r : ℕ) → FitsSigned w64 (get_or regs r (pos 0))

abbrev pub SumsFit : List (Option ℤ) → Type 0
SumsFit sums = (g : ℕ) → FitsSigned w64 (sum_at sums g)

pub wrapped_fits : (n : ℕ) → FitsSigned w64 (cast_signed w64 n)
wrapped_fits n = omega (arith, fits_in, read_fits w64 n)

pub nought_fits : FitsSigned w64 (pos 0)
nought_fits = small_fits 0 (omega arith)

pub one_fits : FitsSigned w64 (pos 1)
one_fits = small_fits 1 (omega arith)

pub regs_set : (regs : List ℤ) (d : ℕ) (v : ℤ) → FitsSigned w64 v → RegsFit regs → RegsFit (set regs d v)
regs_set regs d v fv all = kept_set (FitsSigned w64) (pos 0) regs d v fv all

pub sums_set : (sums : List (Option ℤ)) (g : ℕ) (o : Option ℤ) → FitsSigned w64 (unwrap_or o (pos 0)) → SumsFit sums → SumsFit (set sums g o)
sums_set sums g o fo all = kept_set (λ (x : Option ℤ). FitsSigned w64 (unwrap_or x (pos 0))) None sums g o fo all

pub new_sums : (n : ℕ) → SumsFit (replicate n None)
new_sums zero g = nought_fits
new_sums (suc n) zero = nought_fits
new_sums (suc n) (suc g) = new_sums n g

bit_fits : (b : Bool) → FitsSigned w64 (if b then pos 1 else pos 0)
bit_fits true = one_fits
bit_fits false = nought_fits

-- the numbers of a valid program's instructions
pub numbers_fit : (procs : List (List Instr)) → IsValidProgram procs → (f : Frame) (d : ℕ) (z : ℤ) → instr_at procs f ≡ Some (Set d z) → FitsSigned w64 z
numbers_fit procs valid f d z e = ⊎_elim within past (cases_lt f.procedure (length procs))
  where
    within : f.procedure < length procs → FitsSigned w64 z
    within low =
        let instrs = slice_index_or procs f.procedure [] in
        let good : IsValidProc instrs = All-get_or IsValidProc procs f.procedure [] low valid.each in
        let found : IsInRange (length instrs) (get_or instrs f.place (Set d z)) = All-get_or (IsInRange (length instrs)) instrs f.place (Set d z)
        (slice_get_within instrs f.place (Set d z) e) good.each in
        let same : IsInRange (length instrs) (Set d z) = subst (IsInRange (length instrs)) (get_or_from_slice_get instrs f.place (Set d z) (Set d z) e) found in
        same.1

    past : length procs ≤ f.procedure → FitsSigned w64 z
    past high = absurd (none-some (Set d z) (sym (ap (λ (l : List Instr). slice_get l f.place) (get_or_past procs f.procedure [] high)) ∙ e))

abbrev pub FitsAfter : Effect → Type 0
FitsAfter (Moves g) = RegsFit g.registers
FitsAfter DividesByZero = Unit {0}
FitsAfter IsShared = Unit {0}

div_fits : (b : Bool) (g : Frame) → RegsFit g.registers → FitsAfter (if b then DividesByZero else Moves g)
div_fits true g fit = tt
div_fits false g fit = fit

-- what a division leaves, and a number that is shifted to the right, are no larger than the number
rem_fits : (x y : ℤ) → FitsSigned w64 x → FitsSigned w64 (int_rem x y)
rem_fits x y f = sfits_le (mag_rem x y) f

shr_fits : (x : ℤ) (k : ℕ) → FitsSigned w64 x → FitsSigned w64 (int_shr x k)
shr_fits x k f = sfits_le (mag_shr x (2 ^ k)) f

pub effect_fits : (i : Instr) (f : Frame) → ((d : ℕ) (z : ℤ) → i ≡ Set d z → FitsSigned w64 z) → RegsFit f.registers → FitsAfter (effect i 0 0 f)
effect_fits (Set d z) f number fit = regs_set f.registers d z (number d z refl) fit
effect_fits (Add d a b) f number fit = regs_set f.registers d _ (wrapped_fits _) fit
effect_fits (Sub d a b) f number fit = regs_set f.registers d _ (wrapped_fits _) fit
effect_fits (Mul d a b) f number fit = regs_set f.registers d _ (wrapped_fits _) fit
effect_fits (Div d a b) f number fit = div_fits (is_zero (register f b)) _ (regs_set f.registers d _ (wrapped_fits _) fit)
effect_fits (Lt d a b) f number fit = regs_set f.registers d _ (bit_fits (int_lt (register f a) (register f b))) fit
effect_fits (Rem d a b) f number fit = div_fits (is_zero (register f b)) _ (regs_set f.registers d _ (rem_fits (register f a) (register f b) (fit a)) fit)
effect_fits (And d a b) f number fit = regs_set f.registers d _ (wrapped_fits _) fit
effect_fits (Or d a b) f number fit = regs_set f.registers d _ (wrapped_fits _) fit
effect_fits (Xor d a b) f number fit = regs_set f.registers d _ (wrapped_fits _) fit
effect_fits (Shl d a b) f number fit = regs_set f.registers d _ (wrapped_fits _) fit
effect_fits (Shr d a b) f number fit = regs_set f.registers d _ (shr_fits (register f a) (shift_count (register f b)) (fit a)) fit
effect_fits (Eq d a b) f number fit = regs_set f.registers d _ (bit_fits (int_eq (register f a) (register f b))) fit
effect_fits (Le d a b) f number fit = regs_set f.registers d _ (bit_fits (int_le (register f a) (register f b))) fit
effect_fits (Jz a t) f number fit = fit
effect_fits (Jmp t) f number fit = fit
effect_fits (Slot d) f number fit = regs_set f.registers d _ nought_fits fit
effect_fits (Width d) f number fit = regs_set f.registers d _ nought_fits fit
effect_fits (Spawn g p a b) f number fit = tt
effect_fits (Post p a b) f number fit = tt
effect_fits (Wait d e g) f number fit = tt
effect_fits (Cancel g) f number fit = tt
effect_fits (Ask d) f number fit = tt
effect_fits (Isolate d p a b) f number fit = tt
effect_fits (Load d k) f number fit = tt
effect_fits (Store k a) f number fit = tt
effect_fits (Sum d k) f number fit = tt
effect_fits (Count d k) f number fit = tt
effect_fits (Ret a) f number fit = tt

-- the turn at a private instruction
pub turn_alone : (i : Instr) (t : SerialTask) (e : Effect) → effect i 0 0 t.frame ≡ e → (IsShared ≡ e → ⊥) → turn_of i t ≡ turn_by t e
turn_alone (Set d z) t e is other = ap (turn_by t) is
turn_alone (Add d a b) t e is other = ap (turn_by t) is
turn_alone (Sub d a b) t e is other = ap (turn_by t) is
turn_alone (Mul d a b) t e is other = ap (turn_by t) is
turn_alone (Div d a b) t e is other = ap (turn_by t) is
turn_alone (Lt d a b) t e is other = ap (turn_by t) is
turn_alone (Rem d a b) t e is other = ap (turn_by t) is
turn_alone (And d a b) t e is other = ap (turn_by t) is
turn_alone (Or d a b) t e is other = ap (turn_by t) is
turn_alone (Xor d a b) t e is other = ap (turn_by t) is
turn_alone (Shl d a b) t e is other = ap (turn_by t) is
turn_alone (Shr d a b) t e is other = ap (turn_by t) is
turn_alone (Eq d a b) t e is other = ap (turn_by t) is
turn_alone (Le d a b) t e is other = ap (turn_by t) is
turn_alone (Jz a q) t e is other = ap (turn_by t) is
turn_alone (Jmp q) t e is other = ap (turn_by t) is
turn_alone (Slot d) t e is other = ap (turn_by t) is
turn_alone (Width d) t e is other = ap (turn_by t) is
turn_alone (Spawn g p a b) t e is other = absurd (other is)
turn_alone (Post p a b) t e is other = absurd (other is)
turn_alone (Wait d f g) t e is other = absurd (other is)
turn_alone (Cancel g) t e is other = absurd (other is)
turn_alone (Ask d) t e is other = absurd (other is)
turn_alone (Isolate d p a b) t e is other = absurd (other is)
turn_alone (Load d k) t e is other = absurd (other is)
turn_alone (Store k a) t e is other = absurd (other is)
turn_alone (Sum d k) t e is other = absurd (other is)
turn_alone (Count d k) t e is other = absurd (other is)
turn_alone (Ret a) t e is other = absurd (other is)

pub shared_moves : (g : Frame) → IsShared ≡ Moves g → ⊥
shared_moves g e = grind arith

shared_divides : IsShared ≡ DividesByZero → ⊥
shared_divides e = grind arith

-- where a task that gives a value reaches a shared instruction
pub record Comes (procs : List (List Instr)) (t : SerialTask) (left : ℕ) (given : ℤ × ℕ) : Type 0 where
  pub steps : ℕ
  pub more : ℕ
  pub frame : Frame
  pub instr : Instr
  pub by : frame_after procs 0 0 t.frame steps ≡ Some frame
  pub there : instr_at procs frame ≡ Some instr
  pub shared : effect instr 0 0 frame ≡ IsShared
  pub all : left ≡ steps + suc more
  pub gives : given_by (given_of procs) more (turn_of instr (record { frame = frame; sums = t.sums })) ≡ Some given
  pub fit : RegsFit frame.registers

module _ (procs : List (List Instr)) (numbers : (f : Frame) (d : ℕ) (z : ℤ) → instr_at procs f ≡ Some (Set d z) → FitsSigned w64 z) where
  pub one_then : (f g h : Frame) (k : ℕ) → next_of procs 0 0 f ≡ Some g → frame_after procs 0 0 g k ≡ Some h → frame_after procs 0 0 f (suc k) ≡ Some h
  one_then f g h k e is = let z : suc k ≡ 1 + k = omega arith in ap (frame_after procs 0 0 f) z ∙ after_more procs 0 0 0 0 f g 1 k e ∙ is

  pub comes : (left : ℕ) (t : SerialTask) (given : ℤ × ℕ) → RegsFit t.frame.registers → given_of procs left t ≡ Some given → Comes procs t left given
  comes zero t given fit e = absurd (none-some given (sym (given_of-zero procs t) ∙ e))
  comes (suc left) t given fit e = by_instr (λ u fit' e'. comes left u given fit' e') (instr_at procs t.frame) refl (sym (given_of-suc procs left t) ∙ e)
    where
      by_effect : ((u : SerialTask) → RegsFit u.frame.registers → given_of procs left u ≡ Some given → Comes procs u left given) → (i : Instr) → instr_at procs t.frame ≡ Some i → (x : Effect)
          → effect i 0 0 t.frame ≡ x → given_by (given_of procs) left (turn_of i t) ≡ Some given → Comes procs t (suc left) given
      by_effect ih i here (Moves g) is e =
          let u : SerialTask = record { frame = g; sums = t.sums } in
          let fit' : RegsFit g.registers = subst FitsAfter is (effect_fits i t.frame (λ d z eq. numbers t.frame d z (here ∙ ap Some eq)) fit) in
          let turn : turn_of i t ≡ Goes u = turn_alone i t (Moves g) is (shared_moves g) in
          let r = ih u fit' (ap (given_by (given_of procs) left) (sym turn) ∙ e) in
          let goes : next_of procs 0 0 t.frame ≡ Some g = rw (here, is) refl in
          record {
            steps = suc r.steps;
            more = r.more;
            frame = r.frame;
            instr = r.instr;
            by = one_then t.frame g r.frame r.steps goes r.by;
            there = r.there;
            shared = r.shared;
            all = omega
                (arith, r.all);
            gives = r.gives;
            fit = r.fit;
          }
      by_effect ih i here DividesByZero is e = absurd (none-some given (ap (given_by (given_of procs) left) (sym (turn_alone i t DividesByZero is shared_divides)) ∙ e))
      by_effect ih i here IsShared is e = record { steps = 0; more = left; frame = t.frame; instr = i; by = refl; there = here; shared = is; all = omega arith; gives = e; fit = fit }

      by_instr : ((u : SerialTask) → RegsFit u.frame.registers → given_of procs left u ≡ Some given → Comes procs u left given) → (o : Option Instr) → instr_at procs t.frame ≡ o
          → given_by (given_of procs) left (turn_at o t) ≡ Some given → Comes procs t (suc left) given
      by_instr ih None here e = absurd (none-some given e)
      by_instr ih (Some i) here e = by_effect ih i here (effect i 0 0 t.frame) refl e
