-- What rows of other jobs do keeps what is known of a serial job.
use Rattle.std.proofs.Common.{◌≡◌, ◌≢◌, ℕ, ◌+◌, ◌==◌, ◌<◌, ◌≤◌, List, length, Option, Some, None, Bool, true, false, refl, sym, ap, ◌∙◌, arith, ℤ}
use Rattle.std.specs.Prelude.{if◌then◌else◌, slice_set, IfSome}
use Rattle.std.proofs.lemmas.Bool.{cond_both}
use Rattle.std.proofs.lemmas.Option.{IfSome_then}
use Rattle.job_language.specs.declared.errors.JobFault.{JobFault}
use Rattle.job_language.specs.declared.errors.JobFault.TheVariants as fault
use Rattle.job_language.specs.declared.instructions.Instr.{Instr}
use Rattle.job_language.specs.declared.instructions.Instr.TheVariants.{Set, Add, Sub, Mul, Div, Lt, Rem, And, Or, Xor, Shl, Shr, Eq, Le, Jz, Jmp, Slot, Width, Spawn, Post, Wait, Cancel, Ask, Isolate}
use Rattle.job_language.specs.declared.instructions.Instr.TheVariants.{Load, Store, Sum, Count, Ret}
use Rattle.job_language.specs.declared.answers.Moved.{Moved}
use Rattle.job_step.specs.declared.frames.Frame.{Frame}
use Rattle.job_step.specs.Frame.{register, write_and_step, instr_at}
use Rattle.tenant_model.specs.declared.rows.Kind.{Kind}
use Rattle.tenant_model.specs.declared.rows.Kind.TheVariants.{Root, Posted, Spawned, Region}
use Rattle.tenant_model.specs.declared.rows.Phase.{Phase}
use Rattle.tenant_model.specs.declared.rows.Phase.TheVariants.{Unstarted, Live, Done}
use Rattle.tenant_model.specs.declared.rows.Row.{Row}
use Rattle.tenant_model.specs.declared.rows.TheConstants.{MAX_HEIGHT}
use Rattle.tenant_model.specs.State.{State, row, job}
use Rattle.tenant_model.specs.Walks.{maker_of, mark, total, height}
use Rattle.tenant_model.specs.Changes.{on_row, new_row, add_row, is_row_limit_met, with_frame, with_cells, faults}
use Rattle.thread_cells.specs.Cells.{Table}
use Rattle.tenant_model.specs.Shared.{next_place, called_frame, group_status, execute, has_used_group, handed_frame, hand_back}
use Rattle.tenant_model.specs.WellFormed.{AreStacked, StandOnMakers, AreMarked}
use Rattle.tenant_model.proofs.Changed.{row-with_same, length-with}
use Rattle.tenant_model.proofs.Linked.{SameSources-set, IsLinked-set, IsLinked-push}
use Rattle.serial_law.proofs.SerialFollows.{Origin, Good, OneJob-same, OneJob-push, Follows-same, same_work, entry_good, other_row, other_push}
use Rattle.serial_law.proofs.SerialFaults.{faults_good}

-- row n is on top of the slot
pub record OnTop (rows : List Row) (slot n : ℕ) : Type 0 where
  pub from : 1 ≤ n
  pub to : n ≤ length rows
  pub live : (row rows n).phase ≡ Live slot (height rows slot)
  pub stacked : AreStacked rows
  pub on_makers : StandOnMakers rows
  pub marked : AreMarked rows

pub cells_good : (o : Origin) (s : State) (cells : Table) (debt : ℕ) → Good o s debt → Good o (with_cells s cells) debt
cells_good o s cells debt is = record { linked = record { makers = is.linked.makers; jobs = is.linked.jobs; epoch = is.linked.epoch }; one = is.one; follows = is.follows }

-- a row of another job changed
pub set_other : (o : Origin) (s : State) (n debt : ℕ) (f : Row → Row) → 1 ≤ n → n ≤ length s.rows → (f (row s.rows n)).kind ≡ (row s.rows n).kind → (f (row s.rows n)).job ≡ (row s.rows n).job →
    (row s.rows n).job ≢ o.number →
    Good o s debt → Good o (on_row s n f) debt
set_other o s n debt f from to kind job_same other is =
    let r = f (row s.rows n) in
    record {
      linked = IsLinked-set s n r from to kind job_same is.linked;
      one = OneJob-same s.rows _ (SameSources-set s.rows n r from to kind job_same) is.linked.makers is.one;
      follows = Follows-same o s.rows _ s.jobs s.jobs debt (omega arith) (same_work (job s.jobs o.number)) (λ clear before. other_row o.number s.rows n r from to kind job_same other) is.follows;
    }

-- a row of another job made
pub push_other : (o : Origin) (s : State) (r : Row) (debt : ℕ) → IfSome (maker_of r.kind) (λ m. (1 ≤ m) × (m ≤ length s.rows) × ((row s.rows m).job ≡ r.job)) → (1 ≤ r.job) × (r.job ≤ length s.jobs) →
    r.job ≢ o.number →
    Good o s debt → Good o (add_row s r) debt
push_other o s r debt maker there other is = record {
  linked = IsLinked-push s r is.linked (IfSome_then (maker_of r.kind) maker (λ m its. (its.0, its.1))) there;
  one = OneJob-push s.rows r is.linked.makers is.one (IfSome_then (maker_of r.kind) maker (λ m its. (its.1, its.2)));
  follows = Follows-same o s.rows _ s.jobs s.jobs debt (omega arith) (same_work (job s.jobs o.number)) (λ clear before. other_push o.number s.rows r other) is.follows;
}

module _ (o : Origin) (s : State) (slot n : ℕ) (top : OnTop s.rows slot n) (is : Good o s 0) where
  abbrev Keeps : Moved × State → Type 0
  Keeps r = Good o r.1 0

  either : (b : Bool) (r q : Moved × State) → (b ≡ true → Keeps r) → (b ≡ false → Keeps q) → Keeps (if b then r else q)
  either b r q if_true if_false = cond_both b r q Keeps if_true if_false

  faulted_good : (f : JobFault) → Keeps (faults slot (row s.rows n).job f s)
  faulted_good f = faults_good o s slot n 0 f top.from top.to top.live top.stacked top.on_makers is

  limited_good : (r : Moved × State) → Keeps r → Keeps (if is_row_limit_met s then faults slot (row s.rows n).job fault.TaskLimit s else r)
  limited_good r made = either (is_row_limit_met s) _ r (λ _. faulted_good fault.TaskLimit) (λ _. made)

  module _ (other : (row s.rows n).job ≢ o.number) where
    moved_other : (f : Frame) → Good o (with_frame s n f) 0
    moved_other f = set_other o s n 0 (λ r. record r { frame = f }) top.from top.to refl refl other is

    made_other : (f g : Frame) (k : Kind) (made_on : Option ℕ) (p : Phase) → IfSome (maker_of k) (λ m. m ≡ n) → Good o (add_row (with_frame s n f) (new_row k (row s.rows n).job made_on g p)) 0
    made_other f g k made_on p maker =
        let r = record (row s.rows n) { frame = f } in
        let here : row (with_frame s n f).rows n ≡ r = row-with_same s.rows n r top.from top.to in
        push_other o (with_frame s n f) (new_row k (row s.rows n).job made_on g p) 0
        (IfSome_then (maker_of k) maker
        (λ m same. (omega (arith, same, top.from), omega (arith, same, top.to, length-with s.rows n r), ap (λ i. (row (with_frame s n f).rows i).job) same ∙ ap (λ (q : Row). q.job) here)))
        (is.linked.jobs n top.from top.to) other (moved_other f)

    done_other : (f : Frame) (v : ℤ) (k : Kind) → (row s.rows n).kind ≡ k → Good o (hand_back (on_row s n (λ r. record r { frame = f; phase = Done v })) k v) 0
    done_other f v Root kind = set_other o s n 0 (λ r. record r { frame = f; phase = Done v }) top.from top.to refl refl other is
    done_other f v Posted kind = set_other o s n 0 (λ r. record r { frame = f; phase = Done v }) top.from top.to refl refl other is
    done_other f v (Spawned m g) kind = set_other o s n 0 (λ r. record r { frame = f; phase = Done v }) top.from top.to refl refl other is
    done_other f v (Region m) kind =
        let ended = set_other o s n 0 (λ r. record r { frame = f; phase = Done v }) top.from top.to refl refl other is in
        let t = on_row s n (λ r. record r { frame = f; phase = Done v }) in
        let r = record (row s.rows n) { frame = f; phase = Done v } in
        let here : row t.rows n ≡ r = row-with_same s.rows n r top.from top.to in
        let long = length-with s.rows n r in
        let its : (row t.rows n).kind ≡ Region m = ap (λ (q : Row). q.kind) here ∙ kind in
        let maker : (1 ≤ m) × (m < n) = rw kind at (is.linked.makers n top.from top.to) in
        let same : (row t.rows m).job ≡ (row t.rows n).job = rw its at (ended.one n top.from (omega (arith, top.to, long))) in
        set_other o t m 0 (λ q. record q { frame = handed_frame (instr_at (job t.jobs q.job).program q.frame) v q.frame }) maker.0 (omega (arith, maker, top.to, long)) refl refl
        (λ e. other (ap (λ (q : Row). q.job) (sym here) ∙ sym same ∙ e)) ended

    pub execute_other : (f : Frame) (i : Instr) → Keeps (execute s slot n f i)
    execute_other f (Spawn g p a b) = limited_good _ (entry_good o _ 0 (made_other (next_place f) (called_frame f p a b) (Spawned n g) (Some slot) Unstarted refl))
    execute_other f (Post p a b) = limited_good _ (entry_good o _ 0 (made_other (next_place f) (called_frame f p a b) Posted None Unstarted tt))
    execute_other f (Isolate d p a b) =
        either (height s.rows slot == MAX_HEIGHT) _ _ (λ _. faulted_good fault.TooDeep)
        (λ _. limited_good _ (entry_good o _ 0 (made_other f (called_frame f p a b) (Region n) (Some slot) (Live slot (height s.rows slot + 1)) refl)))
    execute_other f (Wait d e g) = entry_good o _ 0 (set_other o s n 0 (λ r. record r {
      frame = write_and_step (record f { registers = slice_set f.registers d (total s.rows n g) }) e (group_status s n g);
      marks = slice_set r.marks g (record { rows = length s.rows; cancelled = false });
    }) top.from top.to refl refl other is)
    execute_other f (Cancel g) = entry_good o _ 0 (set_other o s n 0 (λ r. record r {
      frame = next_place f;
      marks = slice_set r.marks g (record (mark s.rows n g) { cancelled = true });
    }) top.from top.to refl refl other is)
    execute_other f (Ask d) = entry_good o _ 0 (moved_other _)
    execute_other f (Load d k) = entry_good o _ 0 (cells_good o _ _ 0 (moved_other _))
    execute_other f (Store k a) = entry_good o _ 0 (cells_good o _ _ 0 (moved_other _))
    execute_other f (Sum d k) = entry_good o _ 0 (moved_other _)
    execute_other f (Count d k) = entry_good o _ 0 (moved_other _)
    execute_other f (Ret a) = either (has_used_group s n) _ _ (λ _. faulted_good fault.MissingWait) (λ _. entry_good o _ 0 (done_other f (register f a) (row s.rows n).kind refl))
    execute_other f (Set d v) = entry_good o _ 0 (moved_other f)
    execute_other f (Add d a b) = entry_good o _ 0 (moved_other f)
    execute_other f (Sub d a b) = entry_good o _ 0 (moved_other f)
    execute_other f (Mul d a b) = entry_good o _ 0 (moved_other f)
    execute_other f (Div d a b) = entry_good o _ 0 (moved_other f)
    execute_other f (Lt d a b) = entry_good o _ 0 (moved_other f)
    execute_other f (Rem d a b) = entry_good o _ 0 (moved_other f)
    execute_other f (And d a b) = entry_good o _ 0 (moved_other f)
    execute_other f (Or d a b) = entry_good o _ 0 (moved_other f)
    execute_other f (Xor d a b) = entry_good o _ 0 (moved_other f)
    execute_other f (Shl d a b) = entry_good o _ 0 (moved_other f)
    execute_other f (Shr d a b) = entry_good o _ 0 (moved_other f)
    execute_other f (Eq d a b) = entry_good o _ 0 (moved_other f)
    execute_other f (Le d a b) = entry_good o _ 0 (moved_other f)
    execute_other f (Jz a t) = entry_good o _ 0 (moved_other f)
    execute_other f (Jmp t) = entry_good o _ 0 (moved_other f)
    execute_other f (Slot d) = entry_good o _ 0 (moved_other f)
    execute_other f (Width d) = entry_good o _ 0 (moved_other f)
