-- What an advance does to the cells.
use Rattle.std.proofs.Common.{◌≡◌, ℕ, ◌+◌, ◌==◌, [], Option, Some, None, Bool, true, false, ◌&&◌, nat_lt, refl, sym, ap, ◌∙◌, arith, inl, inr, ◌⊎◌, ℤ, pos}
use Rattle.std.specs.Prelude.{if◌then◌else◌, slice_set, slice_index_or, unwrap_or, is_some}
use Rattle.std.specs.Option.{option_map}
use Rattle.std.proofs.lemmas.Bool.{cond_both}
use Rattle.std.proofs.lemmas.List.{set-get_or}
use Rattle.job_language.specs.declared.errors.JobFault.TheVariants as fault
use Rattle.job_language.specs.declared.instructions.Instr.{Instr}
use Rattle.job_language.specs.declared.instructions.Instr.TheVariants.{Set, Add, Sub, Mul, Div, Lt, Rem, And, Or, Xor, Shl, Shr, Eq, Le, Jz, Jmp, Slot, Width, Spawn, Post, Wait, Cancel, Ask, Isolate}
use Rattle.job_language.specs.declared.instructions.Instr.TheVariants.{Load, Store, Sum, Count, Ret}
use Rattle.job_language.specs.declared.answers.Moved.{Moved}
use Rattle.job_step.specs.declared.frames.Frame.{Frame}
use Rattle.job_step.specs.Frame.{register}
use Rattle.job_step.specs.declared.runs.Run.{Run}
use Rattle.job_step.specs.declared.runs.Stop.{Stop}
use Rattle.job_step.specs.declared.runs.Stop.TheVariants.{Shared, Yield, Fault}
use Rattle.tenant_model.specs.declared.rows.Kind.{Kind}
use Rattle.tenant_model.specs.declared.rows.Kind.TheVariants.{Root, Posted, Spawned, Region}
use Rattle.tenant_model.specs.declared.rows.TheConstants.{MAX_HEIGHT}
use Rattle.tenant_model.specs.State.{State, row}
use Rattle.tenant_model.specs.Walks.{height, top, pick}
use Rattle.tenant_model.specs.Changes.{is_full, is_row_limit_met, faults}
use Rattle.thread_cells.specs.Cells.{Table, cell, with_cell}
use Rattle.tenant_model.specs.Shared.{execute, has_used_group, hand_back}
use Rattle.tenant_model.specs.Advance.{begin, nest_pick, is_poor, with_fuel_paid, move_on, is_blocked, after_run, is_idle_wait, run_on, advance_run, advance_top, would_be_recorded, unless_full}
use Rattle.tenant_model.specs.Advance.{advance}
use Rattle.tenant_model.specs.Regions.{Change, Touch, change_of, change_after, touch_by, touch}
use Rattle.tenant_model.proofs.Within.{either_way}
use Rattle.tenant_model.proofs.Entries.{unless_full-room, unless_full-full, after_run_recorded}

-- the change of a touch
abbrev pub change_in : Option Touch → Option Change
change_in o = option_map (λ (t : Touch). t.1) o

-- a table after a change
abbrev pub with_change : Table → ℕ → Option Change → Table
with_change t slot None = t
with_change t slot (Some x) = with_cell t x.0 slot x.1

-- a cell set to what it is
with_cell-same : (t : Table) (k slot : ℕ) (v : ℤ) → cell t k slot ≡ Some v → with_cell t k slot v ≡ t
with_cell-same t k slot v is =
    let row : slice_set (slice_index_or t k []) slot (Some v) ≡ slice_index_or t k [] = ap (slice_set (slice_index_or t k []) slot) (sym is) ∙ set-get_or (slice_index_or t k []) slot None in
    ap (slice_set t k) row ∙ set-get_or t k []

loaded : (t : Table) (k slot : ℕ) (o : Option ℤ) → cell t k slot ≡ o →
    with_cell t k slot (unwrap_or (cell t k slot) (pos 0)) ≡ with_change t slot (if is_some (cell t k slot) then None else Some (k, pos 0))
loaded t k slot None is = rw is refl
loaded t k slot (Some v) is = rw is (with_cell-same t k slot v is)

-- what an advance leaves in the cells
abbrev Leaves : Table → Moved × State → Type 0
Leaves t r = r.1.cells ≡ t

either : (t : Table) (b : Bool) (r q : Moved × State) → (b ≡ true → Leaves t r) → (b ≡ false → Leaves t q) → Leaves t (if b then r else q)
either t b r q if_true if_false = cond_both b r q (Leaves t) if_true if_false

limited : (s : State) (slot j : ℕ) (r : Moved × State) → Leaves s.cells r → Leaves s.cells (if is_row_limit_met s then faults slot j fault.TaskLimit s else r)
limited s slot j r leaves = either s.cells (is_row_limit_met s) _ r (λ _. refl) (λ _. leaves)

handed_back : (s : State) (k : Kind) (v : ℤ) → (hand_back s k v).cells ≡ s.cells
handed_back s Root v = refl
handed_back s Posted v = refl
handed_back s (Spawned m g) v = refl
handed_back s (Region m) v = refl

execute_cells : (s : State) (slot n : ℕ) (f : Frame) (i : Instr) → (execute s slot n f i).1.cells ≡ with_change s.cells slot (change_of s.cells slot f i)
execute_cells s slot n f (Spawn g p a b) = limited s slot _ _ refl
execute_cells s slot n f (Post p a b) = limited s slot _ _ refl
execute_cells s slot n f (Isolate d p a b) = either s.cells (height s.rows slot == MAX_HEIGHT) _ _ (λ _. refl) (λ _. limited s slot _ _ refl)
execute_cells s slot n f (Wait d e g) = refl
execute_cells s slot n f (Cancel g) = refl
execute_cells s slot n f (Ask d) = refl
execute_cells s slot n f (Load d k) = loaded s.cells k slot (cell s.cells k slot) refl
execute_cells s slot n f (Store k a) = refl
execute_cells s slot n f (Sum d k) = refl
execute_cells s slot n f (Count d k) = refl
execute_cells s slot n f (Ret a) = either s.cells (has_used_group s n) _ _ (λ _. refl) (λ _. handed_back _ (row s.rows n).kind (register f a))
execute_cells s slot n f (Set d v) = refl
execute_cells s slot n f (Add d a b) = refl
execute_cells s slot n f (Sub d a b) = refl
execute_cells s slot n f (Mul d a b) = refl
execute_cells s slot n f (Div d a b) = refl
execute_cells s slot n f (Lt d a b) = refl
execute_cells s slot n f (Rem d a b) = refl
execute_cells s slot n f (And d a b) = refl
execute_cells s slot n f (Or d a b) = refl
execute_cells s slot n f (Xor d a b) = refl
execute_cells s slot n f (Shl d a b) = refl
execute_cells s slot n f (Shr d a b) = refl
execute_cells s slot n f (Eq d a b) = refl
execute_cells s slot n f (Le d a b) = refl
execute_cells s slot n f (Jz a t) = refl
execute_cells s slot n f (Jmp t) = refl
execute_cells s slot n f (Slot d) = refl
execute_cells s slot n f (Width d) = refl

move_on_cells : (s : State) (slot n count : ℕ) (f : Frame) → Leaves s.cells (move_on s slot n count f)
move_on_cells s slot n count f = either s.cells (is_poor s n count) _ _ (λ _. refl) (λ _. refl)

after_run_cells : (s : State) (slot n count : ℕ) (f : Frame) (stop : Stop) → Leaves (with_change s.cells slot (change_after s slot n count f stop)) (after_run s slot n count f stop)
after_run_cells s slot n count f Yield = move_on_cells s slot n count f
after_run_cells s slot n count f Fault = either s.cells (is_poor s n count) _ _ (λ _. refl) (λ _. refl)
after_run_cells s slot n count f (Shared i) = elim (either_way (is_blocked s n i)) [
  | inl waits ↦ rw waits (move_on_cells s slot n count f)
  | inr goes ↦ elim (either_way (is_poor s n (count + 1))) [
    | inl poor ↦ rw (goes, poor) refl
    | inr rich ↦ rw (goes, rich) (execute_cells (with_fuel_paid s n (count + 1)) slot n f i)
  ]
]

begin_cells : (s : State) (slot : ℕ) (o : Option ℕ) → Leaves s.cells (begin s slot o)
begin_cells s slot None = refl
begin_cells s slot (Some m) = either s.cells (nat_lt slot s.config.reserved) _ _ (λ _. refl) (λ _. refl)

blocked_cells : (s : State) (slot n : ℕ) (o : Option ℕ) → Leaves s.cells (nest_pick s slot n o)
blocked_cells s slot n None = refl
blocked_cells s slot n (Some m) = either s.cells (height s.rows slot == MAX_HEIGHT) _ _ (λ _. refl) (λ _. refl)

-- A row that is stuck changes nothing.
stuck_change : (s : State) (slot n count : ℕ) (f : Frame) (stop : Stop) → is_idle_wait s n count stop ≡ true → change_after s slot n count f stop ≡ None
stuck_change s slot n count f Yield stuck = refl
stuck_change s slot n count f Fault stuck = refl
stuck_change s slot n count f (Shared i) stuck =
    let waits : is_blocked s n i ≡ true = grind (arith, stuck) in
    rw waits refl

run_cells : (s : State) (slot n : ℕ) (r : Run) → Leaves (with_change s.cells slot (change_after s slot n r.count r.end r.stop)) (advance_run s slot n r)
run_cells s slot n r = elim (either_way (is_idle_wait s n r.count r.stop)) [
  | inl stuck ↦ rw (stuck, stuck_change s slot n r.count r.end r.stop stuck) (blocked_cells s slot n (pick s slot))
  | inr goes ↦ rw goes (after_run_cells s slot n r.count r.end r.stop)
]

tagged_change : (n : ℕ) (o : Option Change) → change_in (option_map (λ (c : Change). (n, c)) o) ≡ o
tagged_change n None = refl
tagged_change n (Some c) = refl

top_cells : (s : State) (slot : ℕ) (o : Option ℕ) → Leaves (with_change s.cells slot (change_in (touch_by s slot o))) (advance_top s slot o)
top_cells s slot None = begin_cells s slot (pick s slot)
top_cells s slot (Some n) =
    let r = run_on s slot n in
    run_cells s slot n r ∙ sym (ap (with_change s.cells slot) (tagged_change n (change_after s slot n r.count r.end r.stop)))

-- At a full history what is no entry has left the cells as they were.
run_full : (s : State) (slot n : ℕ) (r : Run) → Leaves s.cells (unless_full s (advance_run s slot n r)) ⊎ (is_full s ≡ false)
run_full s slot n r = elim (either_way (is_full s)) [
  | inr room ↦ inr room
  | inl full ↦ inl (elim (either_way (is_idle_wait s n r.count r.stop)) [
    | inl stuck ↦ rw stuck (either s.cells (would_be_recorded (nest_pick s slot n (pick s slot)).0 && is_full s) _ _ (λ _. refl) (λ _. blocked_cells s slot n (pick s slot)))
    | inr goes ↦ rw goes (ap (λ (q : Moved × State). q.1.cells) (unless_full-full s (after_run s slot n r.count r.end r.stop) (after_run_recorded s slot n r.count r.end r.stop) full))
  ])
]

top_full : (s : State) (slot : ℕ) (o : Option ℕ) → is_full s ≡ true → Leaves s.cells (unless_full s (advance_top s slot o))
top_full s slot None full = either s.cells (would_be_recorded (begin s slot (pick s slot)).0 && is_full s) _ _ (λ _. refl) (λ _. begin_cells s slot (pick s slot))
top_full s slot (Some n) full = elim (run_full s slot n (run_on s slot n)) [
  | inl leaves ↦ leaves
  | inr room ↦ absurd (grind (arith, full, room))
]

-- An advance changes the cells by its touch alone.
pub advance_cells : (s : State) (slot : ℕ) → (advance s slot).1.cells ≡ with_change s.cells slot (change_in (touch s slot))
advance_cells s slot = elim (either_way (nat_lt slot s.config.slots)) [
  | inr past ↦ rw past refl
  | inl there ↦ elim (either_way (is_full s)) [
    | inl full ↦
        let moved : advance s slot ≡ unless_full s (advance_top s slot (top s.rows slot)) = rw there refl in
        let none : touch s slot ≡ None = rw (there, full) refl in
        ap (λ (q : Moved × State). q.1.cells) moved ∙ top_full s slot (top s.rows slot) full ∙ sym (ap (λ o. with_change s.cells slot (change_in o)) none)
    | inr room ↦
        let moved : advance s slot ≡ unless_full s (advance_top s slot (top s.rows slot)) = rw there refl in
        let some : touch s slot ≡ touch_by s slot (top s.rows slot) = rw (there, room) refl in
        ap (λ (q : Moved × State). q.1.cells) (moved ∙ unless_full-room s (advance_top s slot (top s.rows slot)) room) ∙ top_cells s slot (top s.rows slot) ∙
        sym (ap (λ o. with_change s.cells slot (change_in o)) some)
  ]
]
