-- Every step keeps a state tended.
use Rattle.std.proofs.Common.{◌≡◌, ◌≢◌, ℕ, zero, suc, ◌+◌, ◌-◌, ◌==◌, ◌<◌, ◌≤◌, List, [], ◌∷◌, ◌++◌, length, get_or, Option, Some, None, Bool, true, false, ◌&&◌, refl, sym, ap, ◌∙◌, arith, inl, inr}
use Rattle.std.proofs.Common.{◌⊎◌, length-set, map, nat_lt, ℤ, pos}
use Rattle.std.specs.Prelude.{nat_le, slice_set, slice_index_or, slice_get, unwrap_or, filter}
use Rattle.std.specs.List.{list_any, enumerate_from}
use Rattle.std.specs.Option.{option_map}
use Rattle.std.proofs.lemmas.Bool.{cases_eq, cases_lt}
use Rattle.std.proofs.lemmas.List.{length_push, length-map}
use Rattle.std.proofs.lemmas.Option.{slice_get-map}
use Rattle.job_language.specs.declared.instructions.Instr.{Instr}
use Rattle.job_language.specs.declared.instructions.Instr.TheVariants.{Set, Add, Sub, Mul, Div, Lt, Rem, And, Or, Xor, Shl, Shr, Eq, Le, Jz, Jmp, Slot, Width, Spawn, Post, Wait, Cancel, Ask, Isolate}
use Rattle.job_language.specs.declared.instructions.Instr.TheVariants.{Load, Store, Sum, Count, Ret}
use Rattle.job_language.specs.declared.jobs.Job.{Job}
use Rattle.job_language.specs.declared.tenants.Tenant.{Tenant}
use Rattle.job_step.specs.declared.frames.Frame.{Frame}
use Rattle.job_step.specs.Frame.{new_frame, register, instr_at}
use Rattle.tenant_model.specs.declared.rows.Kind.{Kind}
use Rattle.tenant_model.specs.declared.rows.Kind.TheVariants.{Root, Posted, Spawned, Region}
use Rattle.tenant_model.specs.declared.rows.Mark.{Mark}
use Rattle.tenant_model.specs.declared.rows.Phase.{Phase}
use Rattle.tenant_model.specs.declared.rows.Phase.TheVariants.{Unstarted, Live, Done, Dropped, Faulted}
use Rattle.tenant_model.specs.declared.rows.Row.{Row}
use Rattle.tenant_model.specs.declared.works.Work.{Work}
use Rattle.tenant_model.specs.State.{State, empty, row, job, with_at_number, at_number}
use Rattle.thread_cells.specs.Cells.{Table, no_cells}
use Rattle.tenant_model.specs.Walks.{NumberedRow, pick, maker_of, is_unstarted, is_open, is_live_at, is_spawned_by, is_pending, is_context_cancelled, mark, height, settled_row, settle}
use Rattle.tenant_model.specs.Changes.{on_row, on_job, new_row, add_row, entry, with_frame, nest, task_height, faulted_row, faulted_phase, first_fault}
use Rattle.tenant_model.specs.Shared.{called_frame, handed_frame, hand_back, next_place}
use Rattle.tenant_model.specs.Advance.{advance, arrive}
use Rattle.tenant_model.specs.Asks.{add_job, new_job, retired_work, ask}
use Rattle.job_language.specs.declared.requests.Request.{Request}
use Rattle.tenant_model.specs.WellFormed.{IsWellFormed}
use Rattle.tenant_model.specs.Sound.{IsTended, IsShaped, IsIsolate}
use Rattle.tenant_model.proofs.Within.{either_way}
use Rattle.tenant_model.proofs.Changed.{row-with_same, row-map, row-past, row-get_or, row-with_other, row-push_old, row-push_new, at_number-with_same, at_number-with_other, at_number-push_old}
use Rattle.tenant_model.proofs.Changed.{at_number-push_new, length-with}
use Rattle.tenant_model.proofs.Stacked.{IsOff, IsCut-set}
use Rattle.tenant_model.proofs.Parts.{same_place, row-settle, SameSources-settle, settle-lives}
use Rattle.tenant_model.proofs.Linked.{SameSources-map}
use Rattle.tenant_model.proofs.Marked.{mark_in}
use Rattle.tenant_model.proofs.OnMakers.{StartFewer-settle}
use Rattle.tenant_model.proofs.Insides.{live_low, live_there}
use Rattle.tenant_model.proofs.Picks.{pick_is}
use Rattle.tenant_model.proofs.Keeping.{on_row_kept, done_kept}
use Rattle.tenant_model.proofs.UnstuckSteps.{known_there}
use Rattle.tenant_model.proofs.Running.{SameRegisters, written_same}
use Rattle.tenant_model.proofs.Invariance.{IsAt, KeepsAdvances, KeepsAsks, advance_keeps, arrive_keeps, ask_keeps, program_of, waited_at, cancelled_at}
use Rattle.tenant_model.proofs.Tending.{every_row, made_there, EndsSome, SameJobs, IsTended-ends, IsTended-jobs, IsChangeOf, IsTended-set, IsTended-push}

-- a job changed, of the same program and root
pub SameJobs-set : (jobs : List Work) (j : ℕ) (w : Work) → 1 ≤ j → j ≤ length jobs → w.program ≡ (job jobs j).program → w.root ≡ (job jobs j).root → SameJobs jobs (with_at_number jobs j w)
SameJobs-set jobs j w from to program root =
    let same : (k : ℕ) → k ≡ j → job (with_at_number jobs j w) k ≡ w = λ k is. ap (job (with_at_number jobs j w)) is ∙ at_number-with_same jobs _ j w from to in
    record {
      long = length-with jobs j w;
      programs = λ k. elim (cases_eq k j) [
        | inl is ↦ ap (λ (v : Work). v.program) (same k is) ∙ program ∙ ap (λ i. (job jobs i).program) (sym is)
        | inr other ↦ ap (λ (v : Work). v.program) (at_number-with_other jobs _ j k w from other)
      ];
      roots = λ k. elim (cases_eq k j) [
        | inl is ↦ ap (λ (v : Work). v.root) (same k is) ∙ root ∙ ap (λ i. (job jobs i).root) (sym is)
        | inr other ↦ ap (λ (v : Work). v.root) (at_number-with_other jobs _ j k w from other)
      ];
    }

-- what no row has to do with
pub IsTended-beside : (s : State) (entries epoch : ℕ) (cells : Table) → IsTended s → IsTended (record s { cells = cells; entries = entries; epoch = epoch })
IsTended-beside s entries epoch cells is = record {
  shared = is.shared;
  started = is.started;
  past = is.past;
  shapes = is.shapes;
  slots = is.slots;
  isolates = is.isolates;
  roots = λ j from to. let root = is.roots j from to in record { from = root.from; to = root.to; kind = root.kind; job = root.job };
  reserved = is.reserved;
}

settled_opens : (r : Row) (b : Bool) (p : Phase) → r.phase ≡ p → is_open (settled_row r b).phase ≡ true → is_open p ≡ true
settled_opens r b Unstarted is opens = refl
settled_opens r b (Live t h) is opens = refl
settled_opens r b (Done v) is opens = rw is at opens
settled_opens r b Dropped is opens = rw is at opens
settled_opens r b Faulted is opens = rw is at opens

-- What holds of the two rows of each number in the lists holds for every number.
pub by_place : (a b : List Row) → length b ≡ length a → (P : Row → Row → Type 0) → ((r : Row) → P r r) → ((n : ℕ) → 1 ≤ n → n ≤ length a → P (row a n) (row b n)) → (n : ℕ) → P (row a n) (row b n)
by_place a b long P same there zero = same (row a 0)
by_place a b long P same there (suc n) = elim (cases_lt (length a) (suc n)) [
  | inl past ↦ rw (row-past a (suc n) past, row-past b (suc n) (omega (arith, past, long))) (same (row [] (suc n)))
  | inr within ↦ there (suc n) (omega arith) within
]

pub EndsSome-settle : (s : State) → EndsSome s.rows (settle s).rows
EndsSome-settle s =
    let same = SameSources-settle s in
    let fewer = StartFewer-settle s in
    record {
      long = same.long;
      kinds = same.kinds;
      jobs = same.jobs;
      frames = by_place s.rows (settle s).rows same.long (λ q r. r.frame ≡ q.frame) (λ q. refl) (λ n from to. ap (λ (r : Row). r.frame) (row-settle s n from to));
      marks = by_place s.rows (settle s).rows same.long (λ q r. r.marks ≡ q.marks) (λ q. refl) (λ n from to. ap (λ (r : Row). r.marks) (row-settle s n from to));
      waits = fewer.waits;
      opens = by_place s.rows (settle s).rows same.long (λ q r. is_open r.phase ≡ true → is_open q.phase ≡ true) (λ q opens. opens)
          (λ n from to opens. settled_opens (row s.rows n) (is_context_cancelled s n) (row s.rows n).phase refl (ap (λ (r : Row). is_open r.phase) (sym (row-settle s n from to)) ∙ opens));
      lives = settle-lives s;
    }

pub faulted_cases : (slot from : ℕ) (p : Phase) → (faulted_phase slot from p ≡ p) ⊎ (faulted_phase slot from p ≡ Faulted)
faulted_cases slot from Unstarted = inl refl
faulted_cases slot from (Live t h) = elim (either_way ((t == slot) && nat_le from h)) [
  | inl gone ↦ inr (rw gone refl)
  | inr stays ↦ inl (rw stays refl)
]
faulted_cases slot from (Done v) = inl refl
faulted_cases slot from Dropped = inl refl
faulted_cases slot from Faulted = inl refl

faulted_opens : (slot from : ℕ) (p : Phase) → is_open (faulted_phase slot from p) ≡ true → is_open p ≡ true
faulted_opens slot from p opens = elim (faulted_cases slot from p) [
  | inl same ↦ ap is_open (sym same) ∙ opens
  | inr gone ↦ absurd (let closed : is_open (faulted_phase slot from p) ≡ false = rw gone refl in grind (arith, closed, opens))
]

faulted_waits : (slot from : ℕ) (p : Phase) → is_unstarted (faulted_phase slot from p) ≡ true → is_unstarted p ≡ true
faulted_waits slot from p waits = elim (faulted_cases slot from p) [
  | inl same ↦ ap is_unstarted (sym same) ∙ waits
  | inr gone ↦ absurd (let started : is_unstarted (faulted_phase slot from p) ≡ false = rw gone refl in grind (arith, started, waits))
]

faulted_lives : (slot from : ℕ) (p : Phase) (t h : ℕ) → faulted_phase slot from p ≡ Live t h → p ≡ Live t h
faulted_lives slot from p t h live = elim (faulted_cases slot from p) [
  | inl same ↦ sym same ∙ live
  | inr gone ↦ absurd (let no : Faulted ≡ Live t h = sym gone ∙ live in grind (arith, ap (is_live_at t h) no))
]

pub EndsSome-faulted : (rows : List Row) (slot from : ℕ) → EndsSome rows (map (faulted_row slot from) rows)
EndsSome-faulted rows slot from =
    let all = map (faulted_row slot from) rows in
    let same = SameSources-map (faulted_row slot from) rows (λ r. refl) (λ r. refl) in
    let phase : (n : ℕ) → 1 ≤ n → n ≤ length rows → (row all n).phase ≡ faulted_phase slot from (row rows n).phase =
    λ n low high. ap (λ (r : Row). r.phase) (row-map (faulted_row slot from) rows n low high) in
    record {
      long = same.long;
      kinds = same.kinds;
      jobs = same.jobs;
      frames = by_place rows all same.long (λ q r. r.frame ≡ q.frame) (λ q. refl) (λ n low high. ap (λ (r : Row). r.frame) (row-map (faulted_row slot from) rows n low high));
      marks = by_place rows all same.long (λ q r. r.marks ≡ q.marks) (λ q. refl) (λ n low high. ap (λ (r : Row). r.marks) (row-map (faulted_row slot from) rows n low high));
      waits = by_place rows all same.long (λ q r. is_unstarted r.phase ≡ true → is_unstarted q.phase ≡ true) (λ q waits. waits)
          (λ n low high waits. faulted_waits slot from (row rows n).phase (ap is_unstarted (sym (phase n low high)) ∙ waits));
      opens = by_place rows all same.long (λ q r. is_open r.phase ≡ true → is_open q.phase ≡ true) (λ q opens. opens)
          (λ n low high opens. faulted_opens slot from (row rows n).phase (ap is_open (sym (phase n low high)) ∙ opens));
      lives = by_place rows all same.long (λ q r. (t h : ℕ) → r.phase ≡ Live t h → q.phase ≡ Live t h) (λ q t h live. live)
          (λ n low high t h live. faulted_lives slot from (row rows n).phase t h (sym (phase n low high) ∙ live));
    }

-- No region stands above the topmost row of a slot.
pub top_is_bare : (s : State) (slot n : ℕ) → IsWellFormed s → (row s.rows n).phase ≡ Live slot (height s.rows slot) → (q t h : ℕ) → (row s.rows q).kind ≡ Region n → (row s.rows q).phase ≡ Live t h → ⊥
top_is_bare s slot n well top q t h kind live =
    let below : (row s.rows n).phase ≡ Live t (h - 1) = well.on_makers.below q n t h kind live in
    let same = same_place slot (height s.rows slot) t (h - 1) (sym top ∙ below) in
    let low = live_low s.rows well.stacked q t h live in
    omega (arith, same.1, low, ap (height s.rows) same.0)

-- Of members none of which is pending, none is open.
none_open : (f g most k : ℕ) (rows : List Row) →
    list_any (λ (p : NumberedRow). is_open p.1.phase) (filter (λ (p : NumberedRow). is_spawned_by f g p.1.kind && nat_lt most p.0) (enumerate_from k rows)) ≡ false →
    (i : ℕ) (d : Row) → i < length rows → is_spawned_by f g (get_or rows i d).kind ≡ true → most < k + i → is_open (get_or rows i d).phase ≡ false
none_open f g most k [] none i d within spawned later = absurd (omega (arith, within))
none_open f g most k (x ∷ xs) none zero d within spawned later =
    let late : nat_lt most k ≡ true = grind (arith, later) in
    let all = rw (spawned, late) at none in
    grind (arith, all)
none_open f g most k (x ∷ xs) none (suc i) d within spawned later =
    let rest : list_any (λ (p : NumberedRow). is_open p.1.phase) (filter (λ (p : NumberedRow). is_spawned_by f g p.1.kind && nat_lt most p.0) (enumerate_from (k + 1) xs)) ≡ false =
    elim (either_way (is_spawned_by f g x.kind && nat_lt most k)) [
      | inl member ↦ let all = rw member at none in grind (arith, all)
      | inr stranger ↦ rw stranger at none
    ] in
    none_open f g most (k + 1) xs rest i d (omega (arith, within)) spawned (omega (arith, later))

pub not_pending : (rows : List Row) (f g : ℕ) → is_pending rows f g ≡ false → (n : ℕ) → 1 ≤ n → n ≤ length rows → (row rows n).kind ≡ Spawned f g → (mark rows f g).rows < n →
    is_open (row rows n).phase ≡ false
not_pending rows f g none n from to kind later =
    let place : n - 1 + 1 ≡ n = omega (arith, from) in
    let is : get_or rows (n - 1) (row [] 0) ≡ row rows n = row-get_or rows (n - 1) (row [] 0) (omega (arith, from, to)) ∙ ap (row rows) place in
    let spawned : is_spawned_by f g (row rows n).kind ≡ true = rw kind (grind arith) in
    ap (λ (r : Row). is_open r.phase) (sym is) ∙
    none_open f g (mark rows f g).rows 1 rows none (n - 1) (row [] 0) (omega (arith, from, to)) (ap (λ (r : Row). is_spawned_by f g r.kind) is ∙ spawned) (omega (arith, later, from))

handed_registers : (o : Option Instr) (v : ℤ) (f : Frame) → SameRegisters f (handed_frame o v f)
handed_registers None v f = refl
handed_registers (Some (Isolate d p a b)) v f = written_same f d v
handed_registers (Some (Set d n)) v f = refl
handed_registers (Some (Add d a b)) v f = refl
handed_registers (Some (Sub d a b)) v f = refl
handed_registers (Some (Mul d a b)) v f = refl
handed_registers (Some (Div d a b)) v f = refl
handed_registers (Some (Lt d a b)) v f = refl
handed_registers (Some (Rem d a b)) v f = refl
handed_registers (Some (And d a b)) v f = refl
handed_registers (Some (Or d a b)) v f = refl
handed_registers (Some (Xor d a b)) v f = refl
handed_registers (Some (Shl d a b)) v f = refl
handed_registers (Some (Shr d a b)) v f = refl
handed_registers (Some (Eq d a b)) v f = refl
handed_registers (Some (Le d a b)) v f = refl
handed_registers (Some (Jz a t)) v f = refl
handed_registers (Some (Jmp t)) v f = refl
handed_registers (Some (Slot d)) v f = refl
handed_registers (Some (Width d)) v f = refl
handed_registers (Some (Spawn g p a b)) v f = refl
handed_registers (Some (Post p a b)) v f = refl
handed_registers (Some (Wait d e g)) v f = refl
handed_registers (Some (Cancel g)) v f = refl
handed_registers (Some (Ask d)) v f = refl
handed_registers (Some (Load d k)) v f = refl
handed_registers (Some (Store k a)) v f = refl
handed_registers (Some (Sum d k)) v f = refl
handed_registers (Some (Count d k)) v f = refl
handed_registers (Some (Ret a)) v f = refl

pub unstarted_open : (p : Phase) → is_unstarted p ≡ true → is_open p ≡ true
unstarted_open Unstarted waits = refl
unstarted_open (Live t h) waits = refl
unstarted_open (Done v) waits = waits
unstarted_open Dropped waits = waits
unstarted_open Faulted waits = waits

-- The frame of the topmost row changes, and its marks, before which all has ended.
module _ (s : State) (slot n : ℕ) (at : IsAt s slot n) (is : IsTended s) where
  same_slot : (t h : ℕ) → (row s.rows n).phase ≡ Live t h → t < s.config.slots
  same_slot t h live = is.slots n t h live

  framed : (f : Frame) (marks : List Mark) → SameRegisters (row s.rows n).frame f → length marks ≡ length (row s.rows n).marks →
      ((k g : ℕ) → (row s.rows k).kind ≡ Spawned n g → k ≤ (mark_in marks g).rows → is_open (row s.rows k).phase ≡ false) → IsChangeOf s n (record (row s.rows n) { frame = f; marks = marks })
  framed f marks registers long past = record {
    from = at.from;
    to = at.to;
    kind = refl;
    job = refl;
    waits = λ waits. waits;
    opens = λ opens. opens;
    past = past;
    shape = record { registers = registers ∙ (is.shapes n).registers; marks = long ∙ (is.shapes n).marks };
    slots = is.slots n;
    lives = λ m t h kind live. live;
    bare = top_is_bare s slot n at.well at.live;
  }

  pub with_frame_tended : (f : Frame) → SameRegisters (row s.rows n).frame f → IsTended (with_frame s n f)
  with_frame_tended f same = IsTended-set s n (record (row s.rows n) { frame = f }) (framed f (row s.rows n).marks same refl (λ k g kind old. is.past k n g kind old)) at.well.linked is

  with_frame_kept : (f : Frame) → IsWellFormed (with_frame s n f)
  with_frame_kept f = on_row_kept s n (λ r. record r { frame = f }) at.from at.to refl refl (at.well.marked n) refl at.well

  here_framed : (f : Frame) → row (with_frame s n f).rows n ≡ record (row s.rows n) { frame = f }
  here_framed f = row-with_same s.rows n (record (row s.rows n) { frame = f }) at.from at.to

  top_started : (f : Frame) → is_unstarted (row (with_frame s n f).rows n).phase ≡ false
  top_started f = rw (here_framed f) (rw at.live refl)

  -- a row that the topmost row makes
  pub made_tended : (f g : Frame) (k : Kind) (made_on : Option ℕ) (phase : Phase) → SameRegisters (row s.rows n).frame f → IsShaped (new_row k (row s.rows n).job made_on g phase) →
      ((m : ℕ) → maker_of k ≡ Some m → m ≡ n) → ((t h : ℕ) → phase ≡ Live t h → t ≡ slot) → ((m t h : ℕ) → k ≡ Region m → phase ≡ Live t h → IsIsolate (instr_at (program_of s n) f)) →
      IsTended (add_row (with_frame s n f) (new_row k (row s.rows n).job made_on g phase))
  made_tended f g k made_on phase same shape maker on isolate =
      let t = with_frame s n f in
      let well = with_frame_kept f in
      IsTended-push t (new_row k (row s.rows n).job made_on g phase) (record {
        shared = λ m made.
            let e = maker m made in
            (omega (arith, e, at.to, length-with s.rows n (record (row s.rows n) { frame = f })), rw e (ap (λ (r : Row). r.job) (sym (here_framed f))), rw e (top_started f));
        shape = shape;
        marks = refl;
        slots = λ u h live. let e = on u h live in omega (arith, e, at.slots);
        isolate = λ m u h kind live. let e = maker m (ap maker_of kind) in rw (e, here_framed f) (isolate m u h kind live);
      }) well.linked well.marked (with_frame_tended f same)

pub new_shaped : (k : Kind) (j : ℕ) (made_on : Option ℕ) (f : Frame) (p a b : ℕ) (phase : Phase) → IsShaped (new_row k j made_on (called_frame f p a b) phase)
new_shaped k j made_on f p a b phase = record { registers = refl; marks = refl }

pub same_number : (n m : ℕ) → Some n ≡ Some m → m ≡ n
same_number n m same = grind (arith, same)

pub no_number : (n m : ℕ) → None ≡ Some m → m ≡ n
no_number n m none = let no : None ≡ Some m = none in absurd (cc)

pub not_on : (t h slot : ℕ) → Unstarted ≡ Live t h → t ≡ slot
not_on t h slot live = let no : Unstarted ≡ Live t h = live in absurd (grind (arith, ap (is_live_at t h) no))

-- a mark that was set
mark_set : (marks : List Mark) (g : ℕ) (m : Mark) (k : ℕ) → (mark_in (slice_set marks g m) k ≡ mark_in marks k) ⊎ ((k ≡ g) × (mark_in (slice_set marks g m) k ≡ m))
mark_set [] g m k = inl refl
mark_set (x ∷ xs) zero m zero = inr (refl, refl)
mark_set (x ∷ xs) zero m (suc k) = inl refl
mark_set (x ∷ xs) (suc g) m zero = inl refl
mark_set (x ∷ xs) (suc g) m (suc k) = elim (mark_set xs g m k) [
  | inl same ↦ inl same
  | inr new ↦ inr (ap suc new.0, new.1)
]

module _ (s : State) (slot n : ℕ) (at : IsAt s slot n) (is : IsTended s) where
  pub waited_tended : (f : Frame) (g : ℕ) → SameRegisters (row s.rows n).frame f → is_pending s.rows n g ≡ false → IsTended (waited_at s n f g)
  waited_tended f g same none =
      let m : Mark = record { rows = length s.rows; cancelled = false } in
      let marks = slice_set (row s.rows n).marks g m in
      IsTended-set s n (record (row s.rows n) { frame = f; marks = marks })
      (framed s slot n at is f marks same (length-set (row s.rows n).marks g m) (λ k i kind old. elim (mark_set (row s.rows n).marks g m i) [
        | inl as_before ↦ is.past k n i kind (omega (arith, old, ap (λ (x : Mark). x.rows) as_before))
        | inr new ↦
            let there = made_there s at.well.linked k n (ap maker_of kind) in
            let of_group : (row s.rows k).kind ≡ Spawned n g = kind ∙ ap (λ j. Spawned n j) new.0 in
            elim (cases_lt (mark s.rows n g).rows k) [
              | inl later ↦ not_pending s.rows n g none k there.0 there.1 of_group later
              | inr before ↦ is.past k n g of_group before
            ]
      ])) at.well.linked is

  pub cancelled_tended : (f : Frame) (g : ℕ) → SameRegisters (row s.rows n).frame f → IsTended (cancelled_at s n f g)
  cancelled_tended f g same =
      let m = record (mark s.rows n g) { cancelled = true } in
      let marks = slice_set (row s.rows n).marks g m in
      IsTended-set s n (record (row s.rows n) { frame = f; marks = marks })
      (framed s slot n at is f marks same (length-set (row s.rows n).marks g m) (λ k i kind old. elim (mark_set (row s.rows n).marks g m i) [
        | inl as_before ↦ is.past k n i kind (omega (arith, old, ap (λ (x : Mark). x.rows) as_before))
        | inr new ↦
            let same_rows : (mark_in marks i).rows ≡ (mark s.rows n i).rows = ap (λ (x : Mark). x.rows) new.1 ∙ ap (λ j. (mark s.rows n j).rows) (sym new.0) in
            is.past k n i kind (omega (arith, old, same_rows))
      ])) at.well.linked is

  module _ (f : Frame) (v : ℤ) (same : SameRegisters (row s.rows n).frame f) where
    abbrev pub over : State
    over = on_row s n (λ r. record r { frame = f; phase = Done v })

    pub over_tended : IsTended over
    over_tended = IsTended-set s n (record (row s.rows n) { frame = f; phase = Done v }) (record {
      from = at.from;
      to = at.to;
      kind = refl;
      job = refl;
      waits = λ waits. absurd (let no : false ≡ true = waits in grind (arith, no));
      opens = λ opens. absurd (let no : false ≡ true = opens in grind (arith, no));
      past = λ k g kind old. is.past k n g kind old;
      shape = record { registers = same ∙ (is.shapes n).registers; marks = (is.shapes n).marks };
      slots = λ t h live. absurd (let no : Done v ≡ Live t h = live in grind (arith, ap (is_live_at t h) no));
      lives = λ m t h kind live. absurd (let no : Done v ≡ Live t h = live in grind (arith, ap (is_live_at t h) no));
      bare = top_is_bare s slot n at.well at.live;
    }) at.well.linked is

    over_kept : IsWellFormed over
    over_kept =
        let low = live_low s.rows at.well.stacked n slot (height s.rows slot) at.live in
        done_kept s n (λ r. record r { frame = f; phase = Done v }) at.from at.to refl refl (at.well.marked n) slot at.live (record { on = λ t. refl; at = λ t h. refl }) refl low.0 at.well

    -- the maker of a region that ended is on top, and has its value
    pub handed_tended : (m : ℕ) → (row s.rows n).kind ≡ Region m → IsTended (hand_back over (Region m) v)
    handed_tended m kind =
        let low = live_low s.rows at.well.stacked n slot (height s.rows slot) at.live in
        let there = made_there s at.well.linked n m (ap maker_of kind) in
        let off : IsOff (Done v) = record { on = λ t. refl; at = λ t h. refl } in
        let cut = IsCut-set s.rows n (record (row s.rows n) { frame = f; phase = Done v }) at.from at.to slot at.live off low.0 at.well.stacked in
        let below : (row s.rows m).phase ≡ Live slot (height s.rows slot - 1) = at.well.on_makers.below n m slot (height s.rows slot) kind at.live in
        let apart : m ≢ n = omega (arith, there) in
        let maker : row over.rows m ≡ row s.rows m = row-with_other s.rows n m (record (row s.rows n) { frame = f; phase = Done v }) at.from apart in
        let top : (row over.rows m).phase ≡ Live slot (height over.rows slot) = ap (λ (r : Row). r.phase) maker ∙ below ∙ ap (λ h. Live slot h) (sym cut.on) in
        let before = (row over.rows m).frame in
        let frame = handed_frame (instr_at (job over.jobs (row over.rows m).job).program before) v before in
        let to : m ≤ length over.rows = omega (arith, there, length-with s.rows n (record (row s.rows n) { frame = f; phase = Done v })) in
        let shape = over_tended.shapes m in
        IsTended-set over m (record (row over.rows m) { frame = frame }) (record {
          from = there.2;
          to = to;
          kind = refl;
          job = refl;
          waits = λ waits. waits;
          opens = λ opens. opens;
          past = λ k g spawned old. over_tended.past k m g spawned old;
          shape = record { registers = handed_registers (instr_at (job over.jobs (row over.rows m).job).program before) v before ∙ shape.registers; marks = shape.marks };
          slots = over_tended.slots m;
          lives = λ q t h region live. live;
          bare = top_is_bare over slot m over_kept top;
        }) over_kept.linked over_tended

    pub ended_tended : (k : Kind) → (row s.rows n).kind ≡ k → IsTended (hand_back over k v)
    ended_tended Root kind = over_tended
    ended_tended Posted kind = over_tended
    ended_tended (Spawned m g) kind = over_tended
    ended_tended (Region m) kind = handed_tended m kind

pub nested_tended : (s : State) (slot m : ℕ) → IsWellFormed s → slot < s.config.slots → pick s slot ≡ Some m → IsTended s → IsTended (nest s slot m)
nested_tended s slot m well low picked is =
    let its = pick_is s.config.isolation s.rows slot m picked in
    let live = Live slot (height s.rows slot + 1) in
    IsTended-set s m (record (row s.rows m) { phase = live }) (record {
      from = its.0;
      to = its.1;
      kind = refl;
      job = refl;
      waits = λ waits. absurd (let no : false ≡ true = waits in grind (arith, no));
      opens = λ opens. unstarted_open (row s.rows m).phase its.2;
      past = λ k g kind old. is.past k m g kind old;
      shape = record { registers = (is.shapes m).registers; marks = (is.shapes m).marks };
      slots = λ t h is_live. let same = same_place slot (height s.rows slot + 1) t h is_live in omega (arith, same.0, low);
      lives = λ q t h kind is_live. absurd (let started = well.on_makers.started m q kind in grind (arith, started, its.2));
      bare = λ q t h kind is_live.
          let below : (row s.rows m).phase ≡ Live t (h - 1) = well.on_makers.below q m t h kind is_live in
          let no : is_unstarted (row s.rows m).phase ≡ false = rw below refl in
          grind (arith, no, its.2);
    }) well.linked is

-- a new job with its root
pub added_tended : (s : State) (j : Job) (phase : Phase) → IsWellFormed s → ((t h : ℕ) → phase ≡ Live t h → t < s.config.slots) → IsTended s → IsTended (add_job s j phase)
added_tended s j phase well low is =
    let w = new_job s j in
    let r = new_row Root (length s.jobs + 1) None (new_frame 0 (slice_index_or j.args 0 (pos 0)) (slice_index_or j.args 1 (pos 0))) phase in
    let jobs = s.jobs ++ w ∷ [] in
    let rows = s.rows ++ r ∷ [] in
    let pushed = IsTended-push s r (record {
      shared = λ m made. absurd (let no : None ≡ Some m = made in cc);
      shape = record { registers = refl; marks = refl };
      marks = refl;
      slots = low;
      isolate = λ m t h kind live. absurd (let no : None ≡ Some m = ap maker_of kind in cc);
    }) well.linked well.marked is in
    record {
      shared = pushed.shared;
      started = pushed.started;
      past = pushed.past;
      shapes = pushed.shapes;
      slots = pushed.slots;
      isolates = λ n m t h kind live.
          let there = live_there rows n t h live in
          elim (cases_lt (length s.rows) n) [
            | inl after ↦
                let new : row rows n ≡ r = row-push_new s.rows n r (omega (arith, after, there, length_push s.rows r)) in
                let no : Root ≡ Region m = ap (λ (q : Row). q.kind) (sym new) ∙ kind in
                absurd (let none : None ≡ Some m = ap maker_of no in cc)
            | inr before ↦
                let made : maker_of (row s.rows n).kind ≡ Some m = ap (λ (q : Row). maker_of q.kind) (sym (row-push_old s.rows n r before)) ∙ ap maker_of kind in
                let its = made_there s well.linked n m made in
                let old : row rows m ≡ row s.rows m = row-push_old s.rows m r (omega (arith, its)) in
                let known = well.linked.jobs m its.2 (omega (arith, its)) in
                let same : job jobs (row rows m).job ≡ job s.jobs (row rows m).job = at_number-push_old s.jobs _ (row rows m).job w (omega (arith, known, ap (λ (q : Row). q.job) old)) in
                rw same (pushed.isolates n m t h kind live)
          ];
      roots = λ k from to. elim (cases_eq k (length s.jobs + 1)) [
        | inl new ↦
            let its : job jobs k ≡ w = at_number-push_new s.jobs _ k w new in
            let root : (job jobs k).root ≡ length s.rows + 1 = ap (λ (v : Work). v.root) its in
            let at : row rows (job jobs k).root ≡ r = row-push_new s.rows (job jobs k).root r root in
            record { from = omega (arith, root); to = omega (arith, root, length_push s.rows r); kind = ap (λ (q : Row). q.kind) at; job = ap (λ (q : Row). q.job) at ∙ sym new }
        | inr other ↦
            let before : k ≤ length s.jobs = omega (arith, to, other, length_push s.jobs w) in
            let e : (job jobs k).root ≡ (job s.jobs k).root = ap (λ (v : Work). v.root) (at_number-push_old s.jobs _ k w before) in
            let root = pushed.roots k from before in
            record { from = omega (arith, root.from, e); to = omega (arith, root.to, e); kind = ap (λ i. (row rows i).kind) e ∙ root.kind; job = ap (λ i. (row rows i).job) e ∙ root.job }
      ];
      reserved = is.reserved;
    }

pub on_job_tended : (s : State) (j : ℕ) (f : Work → Work) → 1 ≤ j → j ≤ length s.jobs → (f (job s.jobs j)).program ≡ (job s.jobs j).program → (f (job s.jobs j)).root ≡ (job s.jobs j).root →
    IsTended s → IsTended (on_job s j f)
on_job_tended s j f from to program root is = IsTended-jobs s (with_at_number s.jobs j (f (job s.jobs j))) (SameJobs-set s.jobs j (f (job s.jobs j)) from to program root) is

retired_or : (o : Option Work) →
    ((unwrap_or (option_map retired_work o) (job [] 0)).program ≡ (unwrap_or o (job [] 0)).program) × ((unwrap_or (option_map retired_work o) (job [] 0)).root ≡ (unwrap_or o (job [] 0)).root)
retired_or None = (refl, refl)
retired_or (Some w) = (refl, refl)

pub retired_same : (jobs : List Work) → SameJobs jobs (map retired_work jobs)
retired_same jobs = record {
  long = length-map jobs retired_work;
  programs = retired_programs jobs;
  roots = retired_roots jobs;
}
  where
    retired_programs : (jobs : List Work) (k : ℕ) → (job (map retired_work jobs) k).program ≡ (job jobs k).program
    retired_programs jobs zero = refl
    retired_programs jobs (suc k) = ap (λ o. (unwrap_or o (job [] 0)).program) (slice_get-map retired_work jobs k) ∙ (retired_or (slice_get jobs k)).0

    retired_roots : (jobs : List Work) (k : ℕ) → (job (map retired_work jobs) k).root ≡ (job jobs k).root
    retired_roots jobs zero = refl
    retired_roots jobs (suc k) = ap (λ o. (unwrap_or o (job [] 0)).root) (slice_get-map retired_work jobs k) ∙ (retired_or (slice_get jobs k)).1

pub entry_tended : (s : State) → IsTended s → IsTended (entry s)
entry_tended s is =
    let t = record s { entries = s.entries + 1 } in
    IsTended-ends t (settle t).rows (EndsSome-settle t) (IsTended-beside s (s.entries + 1) s.epoch s.cells is)

abbrev pub Nothing : State → Type 0
Nothing s = Unit {0}

pub tended_advances : (slot : ℕ) → KeepsAdvances Nothing IsTended IsTended slot
tended_advances slot = record {
  fueled = λ s n f at p. tt;
  fuel = λ s n f at p is. let there = at.well.linked.jobs n at.from at.to in on_job_tended s (row s.rows n).job (λ w. record w { fuel = f }) there.0 there.1 refl refl is;
  fault = λ s n e at p is.
      let there = at.well.linked.jobs n at.from at.to in
      let rows = map (faulted_row slot (task_height s.rows slot)) s.rows in
      on_job_tended (record s { rows = rows }) (row s.rows n).job (λ w. record w { fault = first_fault w.fault e }) there.0 there.1 refl refl
      (IsTended-ends s rows (EndsSome-faulted s.rows slot (task_height s.rows slot)) is);
  frame = λ s n f at p same is. with_frame_tended s slot n at is f same;
  cells = λ s t table is. IsTended-beside s s.entries s.epoch t is;
  spawn = λ s n f g p a b at q same here room is. made_tended s slot n at is (next_place f) (called_frame f p a b) (Spawned n g) (Some slot) Unstarted same
      (new_shaped (Spawned n g) (row s.rows n).job (Some slot) f p a b Unstarted) (same_number n) (λ t h live. not_on t h slot live)
      (λ m t h kind live. absurd (let no : Unstarted ≡ Live t h = live in grind (arith, ap (is_live_at t h) no)));
  post = λ s n f p a b at q same room is. made_tended s slot n at is (next_place f) (called_frame f p a b) Posted None Unstarted same (new_shaped Posted (row s.rows n).job None f p a b Unstarted)
      (no_number n) (λ t h live. not_on t h slot live)
      (λ m t h kind live. absurd (let no : Unstarted ≡ Live t h = live in grind (arith, ap (is_live_at t h) no)));
  isolate = λ s n f d p a b at q same here room low is. made_tended s slot n at is f (called_frame f p a b) (Region n) (Some slot) (Live slot (height s.rows slot + 1)) same
      (new_shaped (Region n) (row s.rows n).job (Some slot) f p a b (Live slot (height s.rows slot + 1))) (same_number n)
      (λ t h live. sym (same_place slot (height s.rows slot + 1) t h live).0) (λ m t h kind live. rw here tt);
  wait = λ s n f g at p same none is. waited_tended s slot n at is f g same none;
  cancel = λ s n f g at p same is. cancelled_tended s slot n at is f g same;
  done = λ s n f a at p same unused is. ended_tended s slot n at is f (register f a) same (row s.rows n).kind refl;
  nest = λ s m well low p picked high is. nested_tended s slot m well low picked is;
  enter = entry_tended;
}

pub tended_asks : KeepsAsks Nothing IsTended IsTended
tended_asks = record {
  none = λ s is. is;
  add = λ s j well p room is. added_tended s j Unstarted well (λ t h live. absurd (let no : Unstarted ≡ Live t h = live in grind (arith, ap (is_live_at t h) no))) is;
  place = λ s j slot well p room low empty is. added_tended s j (Live slot 1) well (λ t h live. let same = same_place slot 1 t h live in omega (arith, same.0, low, is.reserved)) is;
  cancel = λ s j w well p known first is. let there = known_there s.jobs j (at_number s.jobs j) w refl known in on_job_tended s j (λ v. record v { cancelled = true }) there.0 there.1 refl refl is;
  release = λ s j w well p known over is. let there = known_there s.jobs j (at_number s.jobs j) w refl known in on_job_tended s j retired_work there.0 there.1 refl refl is;
  retire = λ s well p closed is. IsTended-beside (record s { jobs = map retired_work s.jobs }) s.entries (s.epoch + 1) no_cells (IsTended-jobs s (map retired_work s.jobs) (retired_same s.jobs) is);
  enter = entry_tended;
}

pub advance_tended : (s : State) (slot : ℕ) → IsWellFormed s → IsTended s → IsTended (advance s slot).1
advance_tended s slot well is = advance_keeps Nothing IsTended IsTended slot (tended_advances slot) s well tt is

pub arrive_tended : (s : State) (slot : ℕ) → IsWellFormed s → IsTended s → IsTended (arrive s slot).1
arrive_tended s slot well is = arrive_keeps Nothing IsTended IsTended slot (tended_advances slot) s well tt is

pub ask_tended : (s : State) (r : Request) → IsWellFormed s → IsTended s → IsTended (ask s r).1
ask_tended s r well is = ask_keeps Nothing IsTended IsTended tended_asks s well tt is r

pub no_row_made : (n m : ℕ) → maker_of (row [] n).kind ≡ Some m → ⊥
no_row_made zero m made = let none : None ≡ Some m = made in cc
no_row_made (suc n) m made = let none : None ≡ Some m = made in cc

-- a tenant that has done nothing yet
pub empty_tended : (c : Tenant) → c.reserved ≤ c.slots → IsTended (empty c)
empty_tended c reserved = record {
  shared = λ n m made. let there = no_row_made n m made in absurd there;
  started = λ n m made. let there = no_row_made n m made in absurd there;
  past = λ n m g kind old. absurd (no_row_made n m (ap maker_of kind));
  shapes = every_row IsShaped (record { registers = refl; marks = refl }) [] (λ n from to. absurd (omega (arith, from, to)));
  slots = λ n slot h live. let there = live_there [] n slot h live in absurd (omega (arith, there));
  isolates = λ n m slot h kind live. let there = live_there [] n slot h live in absurd (omega (arith, there));
  roots = λ j from to. absurd (omega (arith, from, to));
  reserved = reserved;
}
