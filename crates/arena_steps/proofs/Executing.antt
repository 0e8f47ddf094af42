-- Executing an instruction that is not shared.
use Rattle.std.proofs.Common.{◌≡◌, ℕ, refl}
use Rattle.job_language.specs.declared.instructions.Instr.{Instr}
use Rattle.job_language.specs.declared.instructions.Instr.TheVariants.{Set, Add, Sub, Mul, Div, Lt, Rem, And, Or, Xor, Shl, Shr, Eq, Le, Jz, Jmp, Slot, Width, Spawn, Post, Wait, Cancel, Ask, Isolate}
use Rattle.job_language.specs.declared.instructions.Instr.TheVariants.{Load, Store, Sum, Count, Ret}
use Rattle.job_step.specs.declared.frames.Frame.{Frame}
use Rattle.tenant_model.specs.State.{State}
use Rattle.tenant_model.specs.Changes.{finish_step, with_frame}
use Rattle.tenant_model.specs.Shared.{execute}

-- It is the step that gives the row on to the frame.
pub private_runs : (s : State) (slot n : ℕ) (f : Frame) (i : Instr) → ((g p a b : ℕ) → i ≡ Spawn g p a b → ⊥) → ((p a b : ℕ) → i ≡ Post p a b → ⊥) → ((d p a b : ℕ) → i ≡ Isolate d p a b → ⊥) →
    ((d e g : ℕ) → i ≡ Wait d e g → ⊥) → ((g : ℕ) → i ≡ Cancel g → ⊥) → ((d : ℕ) → i ≡ Ask d → ⊥) → ((d k : ℕ) → i ≡ Load d k → ⊥) → ((k a : ℕ) → i ≡ Store k a → ⊥) → ((d k : ℕ) → i ≡ Sum d k → ⊥) →
    ((d k : ℕ) → i ≡ Count d k → ⊥) → ((a : ℕ) → i ≡ Ret a → ⊥) → execute s slot n f i ≡ finish_step slot (with_frame s n f)
private_runs s slot n f (Set d v) no_spawn no_post no_isolate no_wait no_cancel no_ask no_load no_store no_sum no_count no_ret = refl
private_runs s slot n f (Add d a b) no_spawn no_post no_isolate no_wait no_cancel no_ask no_load no_store no_sum no_count no_ret = refl
private_runs s slot n f (Sub d a b) no_spawn no_post no_isolate no_wait no_cancel no_ask no_load no_store no_sum no_count no_ret = refl
private_runs s slot n f (Mul d a b) no_spawn no_post no_isolate no_wait no_cancel no_ask no_load no_store no_sum no_count no_ret = refl
private_runs s slot n f (Div d a b) no_spawn no_post no_isolate no_wait no_cancel no_ask no_load no_store no_sum no_count no_ret = refl
private_runs s slot n f (Lt d a b) no_spawn no_post no_isolate no_wait no_cancel no_ask no_load no_store no_sum no_count no_ret = refl
private_runs s slot n f (Rem d a b) no_spawn no_post no_isolate no_wait no_cancel no_ask no_load no_store no_sum no_count no_ret = refl
private_runs s slot n f (And d a b) no_spawn no_post no_isolate no_wait no_cancel no_ask no_load no_store no_sum no_count no_ret = refl
private_runs s slot n f (Or d a b) no_spawn no_post no_isolate no_wait no_cancel no_ask no_load no_store no_sum no_count no_ret = refl
private_runs s slot n f (Xor d a b) no_spawn no_post no_isolate no_wait no_cancel no_ask no_load no_store no_sum no_count no_ret = refl
private_runs s slot n f (Shl d a b) no_spawn no_post no_isolate no_wait no_cancel no_ask no_load no_store no_sum no_count no_ret = refl
private_runs s slot n f (Shr d a b) no_spawn no_post no_isolate no_wait no_cancel no_ask no_load no_store no_sum no_count no_ret = refl
private_runs s slot n f (Eq d a b) no_spawn no_post no_isolate no_wait no_cancel no_ask no_load no_store no_sum no_count no_ret = refl
private_runs s slot n f (Le d a b) no_spawn no_post no_isolate no_wait no_cancel no_ask no_load no_store no_sum no_count no_ret = refl
private_runs s slot n f (Jz a t) no_spawn no_post no_isolate no_wait no_cancel no_ask no_load no_store no_sum no_count no_ret = refl
private_runs s slot n f (Jmp t) no_spawn no_post no_isolate no_wait no_cancel no_ask no_load no_store no_sum no_count no_ret = refl
private_runs s slot n f (Slot d) no_spawn no_post no_isolate no_wait no_cancel no_ask no_load no_store no_sum no_count no_ret = refl
private_runs s slot n f (Width d) no_spawn no_post no_isolate no_wait no_cancel no_ask no_load no_store no_sum no_count no_ret = refl
private_runs s slot n f (Spawn g p a b) no_spawn no_post no_isolate no_wait no_cancel no_ask no_load no_store no_sum no_count no_ret = absurd (no_spawn g p a b refl)
private_runs s slot n f (Post p a b) no_spawn no_post no_isolate no_wait no_cancel no_ask no_load no_store no_sum no_count no_ret = absurd (no_post p a b refl)
private_runs s slot n f (Isolate d p a b) no_spawn no_post no_isolate no_wait no_cancel no_ask no_load no_store no_sum no_count no_ret = absurd (no_isolate d p a b refl)
private_runs s slot n f (Wait d e g) no_spawn no_post no_isolate no_wait no_cancel no_ask no_load no_store no_sum no_count no_ret = absurd (no_wait d e g refl)
private_runs s slot n f (Cancel g) no_spawn no_post no_isolate no_wait no_cancel no_ask no_load no_store no_sum no_count no_ret = absurd (no_cancel g refl)
private_runs s slot n f (Ask d) no_spawn no_post no_isolate no_wait no_cancel no_ask no_load no_store no_sum no_count no_ret = absurd (no_ask d refl)
private_runs s slot n f (Load d k) no_spawn no_post no_isolate no_wait no_cancel no_ask no_load no_store no_sum no_count no_ret = absurd (no_load d k refl)
private_runs s slot n f (Store k a) no_spawn no_post no_isolate no_wait no_cancel no_ask no_load no_store no_sum no_count no_ret = absurd (no_store k a refl)
private_runs s slot n f (Sum d k) no_spawn no_post no_isolate no_wait no_cancel no_ask no_load no_store no_sum no_count no_ret = absurd (no_sum d k refl)
private_runs s slot n f (Count d k) no_spawn no_post no_isolate no_wait no_cancel no_ask no_load no_store no_sum no_count no_ret = absurd (no_count d k refl)
private_runs s slot n f (Ret a) no_spawn no_post no_isolate no_wait no_cancel no_ask no_load no_store no_sum no_count no_ret = absurd (no_ret a refl)
