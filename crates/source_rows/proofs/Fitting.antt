-- Numbers of 64 bits, in the frames and cells of a run.
use Rattle.std.proofs.Common.{◌≡◌, ℕ, zero, suc, ◌<◌, ◌≤◌, ◌^◌, ℤ, pos, Bool, true, false, if◌then◌else◌, List, [], ◌∷◌, get_or, set, length, replicate, Option, Some, None, refl, ap, subst}
use Rattle.std.proofs.Common.{◌∙◌, arith, FitsSigned, inl, inr}
use Rattle.std.specs.Prelude.{fold, is_some, unwrap_or, option_and_then}
use Rattle.std.specs.Int.{int_wrapping_add, w64}
use Rattle.std.proofs.lemmas.Bool.{cases_lt}
use Rattle.std.proofs.lemmas.List.{get_or_past}
use Rattle.std.proofs.lemmas.List.Sums.{count_by-le-length}
use Rattle.std.proofs.lemmas.Option.{none-some, same_Some}
use Rattle.job_language.specs.Program.{IsValidProgram}
use Rattle.job_language.specs.declared.instructions.Instr.{Instr}
use Rattle.job_language.specs.declared.instructions.Instr.TheVariants.{Set, Add, Sub, Mul, Div, Lt, Rem, And, Or, Xor, Shl, Shr, Eq, Le, Jz, Jmp, Slot, Width}
use Rattle.job_step.specs.declared.effects.Effect.{Effect}
use Rattle.job_step.specs.declared.effects.Effect.TheVariants.{Moves, DividesByZero, IsShared}
use Rattle.job_step.specs.declared.frames.Frame.{Frame}
use Rattle.job_step.specs.Frame.{instr_at, effect, register, is_zero}
use Rattle.job_step.specs.Least.{moved_to, next_of, frame_after}
use Rattle.thread_cells.specs.Cells.{Table, no_cells, cell, with_cell, cell_sum, cell_count}
use Rattle.thread_cells.specs.declared.tables.TheConstants.{KEYS, SLOTS}
use Rattle.tenant_model.specs.WellFormed.{IsTable}
use Rattle.job_compiler.proofs.Events.{before_last}
use Rattle.job_compiler.proofs.Numbers.{small_fits}
use Rattle.source_serial.proofs.Turns.{RegsFit, FitsAfter, kept_set, numbers_fit, effect_fits, regs_set, wrapped_fits, nought_fits}

-- An effect leaves numbers that fit, in the same procedure.
abbrev MovesWell : Frame → Effect → Type 0
MovesWell f (Moves g) = RegsFit g.registers × (g.procedure ≡ f.procedure)
MovesWell f DividesByZero = Unit {0}
MovesWell f IsShared = Unit {0}

divides_well : (b : Bool) (f g : Frame) → g.procedure ≡ f.procedure → FitsAfter (if b then DividesByZero else Moves g) → MovesWell f (if b then DividesByZero else Moves g)
divides_well true f g same fit = tt
divides_well false f g same fit = (fit, same)

module _ (slot width : ℕ) (low_slot : slot < 2 ^ 8) (low_width : width < 2 ^ 8) where
  moves_well : (i : Instr) (f : Frame) → ((d : ℕ) (z : ℤ) → i ≡ Set d z → FitsSigned w64 z) → RegsFit f.registers → MovesWell f (effect i slot width f)
  moves_well (Set d z) f number fit = (effect_fits (Set d z) f number fit, refl)
  moves_well (Add d a b) f number fit = (effect_fits (Add d a b) f number fit, refl)
  moves_well (Sub d a b) f number fit = (effect_fits (Sub d a b) f number fit, refl)
  moves_well (Mul d a b) f number fit = (effect_fits (Mul d a b) f number fit, refl)
  moves_well (Div d a b) f number fit = divides_well (is_zero (register f b)) f _ refl (effect_fits (Div d a b) f number fit)
  moves_well (Lt d a b) f number fit = (effect_fits (Lt d a b) f number fit, refl)
  moves_well (Rem d a b) f number fit = divides_well (is_zero (register f b)) f _ refl (effect_fits (Rem d a b) f number fit)
  moves_well (And d a b) f number fit = (effect_fits (And d a b) f number fit, refl)
  moves_well (Or d a b) f number fit = (effect_fits (Or d a b) f number fit, refl)
  moves_well (Xor d a b) f number fit = (effect_fits (Xor d a b) f number fit, refl)
  moves_well (Shl d a b) f number fit = (effect_fits (Shl d a b) f number fit, refl)
  moves_well (Shr d a b) f number fit = (effect_fits (Shr d a b) f number fit, refl)
  moves_well (Eq d a b) f number fit = (effect_fits (Eq d a b) f number fit, refl)
  moves_well (Le d a b) f number fit = (effect_fits (Le d a b) f number fit, refl)
  moves_well (Jz a t) f number fit = (fit, refl)
  moves_well (Jmp t) f number fit = (fit, refl)
  moves_well (Slot d) f number fit = (regs_set f.registers d (pos slot) (small_fits slot (omega (arith, low_slot))) fit, refl)
  moves_well (Width d) f number fit = (regs_set f.registers d (pos width) (small_fits width (omega (arith, low_width))) fit, refl)
  moves_well i f number fit = tt

  module _ (procs : List (List Instr)) (valid : IsValidProgram procs) where
    one_later : (f g : Frame) → next_of procs slot width f ≡ Some g → RegsFit f.registers → RegsFit g.registers × (g.procedure ≡ f.procedure)
    one_later f g e fit = by_instr (instr_at procs f) refl e
      where
        by_effect : (x : Effect) → MovesWell f x → moved_to x ≡ Some g → RegsFit g.registers × (g.procedure ≡ f.procedure)
        by_effect (Moves h) well e = subst (λ (q : Frame). RegsFit q.registers × (q.procedure ≡ f.procedure)) (same_Some h g e) well
        by_effect DividesByZero well e = absurd (none-some g e)
        by_effect IsShared well e = absurd (none-some g e)

        by_instr : (o : Option Instr) → instr_at procs f ≡ o → option_and_then (λ i. moved_to (effect i slot width f)) o ≡ Some g → RegsFit g.registers × (g.procedure ≡ f.procedure)
        by_instr None is e = absurd (none-some g e)
        by_instr (Some i) is e = by_effect (effect i slot width f) (moves_well i f (λ d z eq. numbers_fit procs valid f d z (is ∙ ap Some eq)) fit) e

    -- a frame later in the same run
    pub later_fits : (f g : Frame) (k : ℕ) → frame_after procs slot width f k ≡ Some g → RegsFit f.registers → RegsFit g.registers × (g.procedure ≡ f.procedure)
    later_fits f g zero e fit = subst (λ (q : Frame). RegsFit q.registers × (q.procedure ≡ f.procedure)) (same_Some f g e) (fit, refl)
    later_fits f g (suc k) e fit =
        let b = before_last procs slot width f g k e in
        let earlier = later_fits f b.0 k b.1 fit in
        let now = one_later b.0 g b.2 earlier.0 in
        (now.0, now.1 ∙ earlier.1)

-- what a list of equal items has, each of its items has, and so has what stands behind it
replicated : {X : Type 0} (P : X → Type 0) (d x : X) (n : ℕ) → P x → P d → (k : ℕ) → P (get_or (replicate n x) k d)
replicated P d x zero px pd k = pd
replicated P d x (suc n) px pd zero = px
replicated P d x (suc n) px pd (suc k) = replicated P d x n px pd k

-- the registers of a new frame
pub new_fits : (x y : ℤ) → FitsSigned w64 x → FitsSigned w64 y → RegsFit (x ∷ y ∷ replicate 6 (pos 0))
new_fits x y fx fy zero = fx
new_fits x y fx fy (suc zero) = fy
new_fits x y fx fy (suc (suc k)) = replicated (FitsSigned w64) (pos 0) (pos 0) 6 nought_fits nought_fits k

-- a sum that wraps
pub fold_fits : {X : Type 0} (value : X → ℤ) (z : ℤ) → FitsSigned w64 z → (xs : List X) → FitsSigned w64 (fold (λ sum x. int_wrapping_add w64 sum (value x)) z xs)
fold_fits value z fz [] = fz
fold_fits value z fz (x ∷ xs) = fold_fits value (int_wrapping_add w64 z (value x)) (wrapped_fits _) xs

abbrev pub CellsFit : Table → Type 0
CellsFit t = (k slot : ℕ) → FitsSigned w64 (unwrap_or (cell t k slot) (pos 0))

abbrev SlotsFit : List (Option ℤ) → Type 0
SlotsFit cells = (slot : ℕ) → FitsSigned w64 (unwrap_or (get_or cells slot None) (pos 0))

pub with_cell_fits : (t : Table) (k slot : ℕ) (v : ℤ) → FitsSigned w64 v → CellsFit t → CellsFit (with_cell t k slot v)
with_cell_fits t k slot v fv all =
    let cells : SlotsFit (set (get_or t k []) slot (Some v)) = kept_set (λ (o : Option ℤ). FitsSigned w64 (unwrap_or o (pos 0))) None (get_or t k []) slot (Some v) fv (all k) in
    kept_set SlotsFit [] t k (set (get_or t k []) slot (Some v)) cells all

pub no_cells_fit : CellsFit no_cells
no_cells_fit = replicated SlotsFit [] (replicate SLOTS None) KEYS (replicated (λ (o : Option ℤ). FitsSigned w64 (unwrap_or o (pos 0))) None None SLOTS nought_fits nought_fits) (λ slot. nought_fits)

pub sum_fits : (t : Table) (k : ℕ) → FitsSigned w64 (cell_sum t k)
sum_fits t k = fold_fits (λ (o : Option ℤ). unwrap_or o (pos 0)) (pos 0) nought_fits (get_or t k [])

pub count_fits : (t : Table) (k : ℕ) → IsTable t → FitsSigned w64 (pos (cell_count t k))
count_fits t k table = small_fits (cell_count t k) (omega (arith, few, count_by-le-length (λ (c : Option ℤ). is_some c) (get_or t k [])))
  where
    few : length (get_or t k []) ≤ 16
    few = elim (cases_lt k (length t)) [
      | inl within ↦ let long = table.slots k [] within in omega (arith, long)
      | inr past ↦ rw (get_or_past t k [] past) (omega arith)
    ]
