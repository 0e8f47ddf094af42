-- A turn that makes a task is at an instruction that does.
use Rattle.std.proofs.Common.{◌≡◌, Option, Some, None, arith}
use Rattle.std.proofs.lemmas.Bool.{cond_both}
use Rattle.job_language.specs.declared.instructions.Instr.{Instr}
use Rattle.job_language.specs.declared.instructions.Instr.TheVariants.{Set, Add, Sub, Mul, Div, Lt, Rem, And, Or, Xor, Shl, Shr, Eq, Le, Jz, Jmp, Slot, Width, Spawn, Post, Wait, Cancel, Ask, Isolate}
use Rattle.job_language.specs.declared.instructions.Instr.TheVariants.{Load, Store, Sum, Count, Ret}
use Rattle.job_step.specs.declared.effects.Effect.{Effect}
use Rattle.job_step.specs.declared.effects.Effect.TheVariants.{Moves, DividesByZero, IsShared}
use Rattle.job_step.specs.Frame.{register, effect}
use Rattle.tenant_model.specs.declared.serials.SerialTask.{SerialTask}
use Rattle.tenant_model.specs.declared.serials.SerialMaker.{SerialMaker}
use Rattle.tenant_model.specs.declared.serials.SerialTurn.{SerialTurn}
use Rattle.tenant_model.specs.declared.serials.SerialTurn.TheVariants.{Goes, Makes, Gives, Fails}
use Rattle.tenant_model.specs.Serial.{is_owing, turn_by, turn_of, turn_at}
use Rattle.serial_eval.specs.Makes.{MakesTask}

module _ (t u : SerialTask) (m : SerialMaker) where
  alone : (e : Effect) → Makes u m ≡ turn_by t e → ⊥
  alone (Moves f) is = absurd (grind (arith, is))
  alone DividesByZero is = absurd (grind (arith, is))
  alone IsShared is = absurd (grind (arith, is))

  by_instr : (i : Instr) → Makes u m ≡ turn_of i t → MakesTask (Some i)
  by_instr (Spawn g p a b) is = tt
  by_instr (Isolate d p a b) is = tt
  by_instr (Wait d e g) is = absurd (grind (arith, is))
  by_instr (Ret a) is = cond_both (is_owing t) Fails (Gives (register t.frame a)) (λ (s : SerialTurn). Makes u m ≡ s → ⊥) (λ _ no. absurd (grind (arith, no))) (λ _ no. absurd (grind (arith, no))) is
  by_instr (Set d v) is = alone (effect (Set d v) 0 0 t.frame) is
  by_instr (Add d a b) is = alone (effect (Add d a b) 0 0 t.frame) is
  by_instr (Sub d a b) is = alone (effect (Sub d a b) 0 0 t.frame) is
  by_instr (Mul d a b) is = alone (effect (Mul d a b) 0 0 t.frame) is
  by_instr (Div d a b) is = alone (effect (Div d a b) 0 0 t.frame) is
  by_instr (Lt d a b) is = alone (effect (Lt d a b) 0 0 t.frame) is
  by_instr (Rem d a b) is = alone (effect (Rem d a b) 0 0 t.frame) is
  by_instr (And d a b) is = alone (effect (And d a b) 0 0 t.frame) is
  by_instr (Or d a b) is = alone (effect (Or d a b) 0 0 t.frame) is
  by_instr (Xor d a b) is = alone (effect (Xor d a b) 0 0 t.frame) is
  by_instr (Shl d a b) is = alone (effect (Shl d a b) 0 0 t.frame) is
  by_instr (Shr d a b) is = alone (effect (Shr d a b) 0 0 t.frame) is
  by_instr (Eq d a b) is = alone (effect (Eq d a b) 0 0 t.frame) is
  by_instr (Le d a b) is = alone (effect (Le d a b) 0 0 t.frame) is
  by_instr (Jz a q) is = alone (effect (Jz a q) 0 0 t.frame) is
  by_instr (Jmp q) is = alone (effect (Jmp q) 0 0 t.frame) is
  by_instr (Slot d) is = alone (effect (Slot d) 0 0 t.frame) is
  by_instr (Width d) is = alone (effect (Width d) 0 0 t.frame) is
  by_instr (Post p a b) is = alone (effect (Post p a b) 0 0 t.frame) is
  by_instr (Cancel g) is = alone (effect (Cancel g) 0 0 t.frame) is
  by_instr (Ask d) is = alone (effect (Ask d) 0 0 t.frame) is
  by_instr (Load d k) is = alone (effect (Load d k) 0 0 t.frame) is
  by_instr (Store k a) is = alone (effect (Store k a) 0 0 t.frame) is
  by_instr (Sum d k) is = alone (effect (Sum d k) 0 0 t.frame) is
  by_instr (Count d k) is = alone (effect (Count d k) 0 0 t.frame) is

  pub makes_task : (o : Option Instr) → Makes u m ≡ turn_at o t → MakesTask o
  makes_task (Some i) is = by_instr i is
  makes_task None is = absurd (grind (arith, is))
