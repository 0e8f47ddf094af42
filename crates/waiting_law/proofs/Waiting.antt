-- Where no slot with a row on it can move, no row is live: of rows that wait for each other none started last.
use Rattle.std.proofs.Common.{◌≡◌, ℕ, zero, suc, ◌+◌, ◌-◌, ◌==◌, ◌<◌, ◌≤◌, nat_lt, List, [], ◌∷◌, length, get_or, Option, Some, None, Bool, true, false, ◌&&◌, refl, ap, ◌∙◌, arith, inl, inr, ◌⊎◌}
use Rattle.std.specs.Prelude.{All, not, filter, is_some}
use Rattle.std.specs.List.{enumerate_from, list_any}
use Rattle.std.proofs.lemmas.Bool.{and_parts, cases_eq}
use Rattle.std.proofs.lemmas.Bool.Decides.{nat_tests}
use Rattle.std.proofs.lemmas.List.Elements.{All-filter, filter_passes}
use Rattle.job_language.specs.declared.answers.Moved.{Moved}
use Rattle.job_language.specs.declared.instructions.Instr.{Instr}
use Rattle.job_language.specs.declared.instructions.Instr.TheVariants.{Wait}
use Rattle.job_language.specs.declared.steps.Step.{Step}
use Rattle.job_language.specs.declared.tenants.Isolation.{Isolation}
use Rattle.job_language.specs.declared.tenants.Isolation.TheVariants.{Exact, Within}
use Rattle.job_language.specs.declared.tenants.Tenant.{Tenant}
use Rattle.job_language.specs.declared.tenants.TheConstants.{MAX_SLOTS}
use Rattle.job_step.specs.declared.runs.Run.{Run}
use Rattle.job_step.specs.declared.runs.Stop.{Stop}
use Rattle.job_step.specs.declared.runs.Stop.TheVariants.{Shared, Yield, Fault}
use Rattle.tenant_model.specs.declared.rows.Kind.{Kind}
use Rattle.tenant_model.specs.declared.rows.Kind.TheVariants.{Root, Posted, Spawned, Region}
use Rattle.tenant_model.specs.declared.rows.Phase.{Phase}
use Rattle.tenant_model.specs.declared.rows.Phase.TheVariants.{Unstarted, Live, Done, Dropped, Faulted}
use Rattle.tenant_model.specs.declared.rows.Row.{Row}
use Rattle.tenant_model.specs.State.{State, empty, row}
use Rattle.tenant_model.specs.Walks.{NumberedRow, numbered_rows, maker_of, is_region, region_of, region_on, is_unstarted, is_open, is_spawned_by, is_pending, members, mark, height, top, is_allowed}
use Rattle.tenant_model.specs.Walks.{eligible, is_made_on, first_of, last_or, pick_of, pick}
use Rattle.tenant_model.specs.Changes.{is_full}
use Rattle.tenant_model.specs.Advance.{advance, advance_top, advance_run, after_run, is_blocked, is_idle_wait, nest_pick, run_on, unless_full, would_be_recorded}
use Rattle.tenant_model.specs.Linked.{MakersPrecede}
use Rattle.tenant_model.specs.Solo.{after}
use Rattle.tenant_model.specs.Sound.{IsSound}
use Rattle.tenant_model.proofs.Changed.{row-get_or}
use Rattle.tenant_model.proofs.Entries.{after_run_recorded, nest_enters, is_recorded}
use Rattle.tenant_model.proofs.Insides.{live_low}
use Rattle.tenant_model.proofs.Picks.{IsNumbered, numbered_all, top_is, top_none}
use Rattle.tenant_model.proofs.SoundSteps.{after_sound, empty_sound}
use Rattle.tenant_model.proofs.Within.{either_way, region_of-above, region_within, within_by_maker, maker_before}
use Rattle.waiting_law.specs.Waiting.{CanNotMove, NoneMoves, NoneLive, SomeMoves}
use Rattle.waiting_law.proofs.Ranked.{Ranked, after_ranked, empty_ranked}

-- what a test of some rows finds
any_holds : (P : NumberedRow → Type 0) (p : NumberedRow → Bool) (xs : List NumberedRow) → All P xs → list_any p xs ≡ true → (x : NumberedRow) × P x × (p x ≡ true)
any_holds P p [] all is = absurd (grind (arith, is))
any_holds P p (y ∷ ys) all is = elim (either_way (p y)) [
  | inl passes ↦ (y, all 0 y (omega arith), passes)
  | inr fails ↦ any_holds P p ys (λ k d within. all (suc k) d (omega arith)) (rw fails at is)
]

spawned_is : (f g : ℕ) (k : Kind) → is_spawned_by f g k ≡ true → k ≡ Spawned f g
spawned_is f g Root is = absurd (grind (arith, is))
spawned_is f g Posted is = absurd (grind (arith, is))
spawned_is f g (Spawned m h) is =
    let a : m ≡ f = grind (arith, is) in
    let b : h ≡ g = grind (arith, is) in
    rw (a, b) refl
spawned_is f g (Region m) is = absurd (grind (arith, is))

-- a member that a group waits for
record IsAwaited (rows : List Row) (f g n : ℕ) : Type 0 where
  from : 1 ≤ n
  to : n ≤ length rows
  kind : (row rows n).kind ≡ Spawned f g
  open_still : is_open (row rows n).phase ≡ true

pending_member : (rows : List Row) (f g : ℕ) → is_pending rows f g ≡ true → (n : ℕ) × IsAwaited rows f g n
pending_member rows f g pending =
    let test : NumberedRow → Bool = λ p. is_spawned_by f g p.1.kind && nat_lt (mark rows f g).rows p.0 in
    let P : NumberedRow → Type 0 = λ p. IsNumbered rows p × (test p ≡ true) in
    let numbered = All-filter test (IsNumbered rows) (numbered_rows rows) (numbered_all rows) in
    let passes = filter_passes test (numbered_rows rows) in
    let all : All P (members rows f g) = λ k d within. (numbered k d within, passes k d within) in
    let found = any_holds P (λ (p : NumberedRow). is_open p.1.phase) (members rows f g) all pending in
    let x = found.0 in
    let at = found.1.0 in
    let spawned : is_spawned_by f g x.1.kind ≡ true = (and_parts _ _ found.1.1).0 in
    (x.0, record { from = at.0; to = at.1; kind = rw at.2 (spawned_is f g x.1.kind spawned); open_still = rw at.2 found.2 })

-- The slot of a row may take what the row spawned.
allowed_own : (mode : Isolation) (rows : List Row) → MakersPrecede rows → (n m g : ℕ) → IsAwaited rows n g m → (r : Option ℕ) → region_of rows n ≡ r → is_allowed mode rows r m ≡ true
allowed_own mode rows precede n m g is None region = refl
allowed_own Exact rows precede n m g is (Some r) region =
    let plain : is_region (row rows m).kind ≡ false = rw is.kind refl in
    let made : maker_of (row rows m).kind ≡ Some n = rw is.kind refl in
    let same : region_of rows m ≡ Some r = region_of-above rows precede m n is.from is.to plain made ∙ region in
    rw same (grind arith)
allowed_own Within rows precede n m g is (Some r) region =
    let made : maker_of (row rows m).kind ≡ Some n = rw is.kind refl in
    let before = maker_before rows precede m n is.from is.to made in
    let to = is.to in
    within_by_maker rows precede m n r is.from is.to made (region_within rows precede n n r (omega arith) before.0 (omega (arith, before, to)) region)

last_none : (o : Option ℕ) (xs : List NumberedRow) → last_or o xs ≡ None → o ≡ None
last_none o [] none = none
last_none o (x ∷ xs) none = absurd (grind (arith, ap is_some (last_none (Some x.0) xs none)))

first_none : (xs : List NumberedRow) → first_of xs ≡ None → xs ≡ []
first_none [] none = refl
first_none (x ∷ xs) none = absurd (grind (arith, ap is_some none))

-- no row passes a test that leaves none
filtered_none : (test : NumberedRow → Bool) (k : ℕ) (rows : List Row) → filter test (enumerate_from k rows) ≡ [] → (i : ℕ) (d : Row) → i < length rows → test (k + i, get_or rows i d) ≡ false
filtered_none test k [] none i d within = absurd (omega arith)
filtered_none test k (x ∷ xs) none zero d within =
    let place : k + 0 ≡ k = omega arith in
    elim (either_way (test (k, x))) [
      | inl passed ↦
          let some : ((k, x) ∷ filter test (enumerate_from (k + 1) xs)) ≡ [] = rw passed at none in
          absurd (grind (arith, ap length some))
      | inr failed ↦ rw place failed
    ]
filtered_none test k (x ∷ xs) none (suc i) d within =
    let place : k + suc i ≡ k + 1 + i = omega arith in
    let rest : filter test (enumerate_from (k + 1) xs) ≡ [] = elim (either_way (test (k, x))) [
      | inl passed ↦
          let some : ((k, x) ∷ filter test (enumerate_from (k + 1) xs)) ≡ [] = rw passed at none in
          absurd (grind (arith, ap length some))
      | inr failed ↦ rw failed at none
    ] in
    rw place (filtered_none test (k + 1) xs rest i d (omega (arith, within)))

-- A slot that picks nothing may take no row that waits.
nothing_allowed : (mode : Isolation) (rows : List Row) (slot : ℕ) → pick_of mode rows slot ≡ None → (n : ℕ) → 1 ≤ n → n ≤ length rows → is_unstarted (row rows n).phase ≡ true →
    is_allowed mode rows (region_on rows (top rows slot)) n ≡ true → ⊥
nothing_allowed mode rows slot none n from to waits allowed =
    let test : NumberedRow → Bool = λ p. is_unstarted p.1.phase && is_allowed mode rows (region_on rows (top rows slot)) p.0 in
    let empty = first_none (eligible mode rows slot) (last_none (first_of (eligible mode rows slot)) (filter (λ (p : NumberedRow). is_made_on slot p.1.made_on) (eligible mode rows slot)) none) in
    let place : 1 + (n - 1) ≡ n = omega (arith, from) in
    let place_too : n - 1 + 1 ≡ n = omega (arith, from) in
    let here : get_or rows (n - 1) (row [] 0) ≡ row rows n = row-get_or rows (n - 1) (row [] 0) (omega (arith, from, to)) ∙ ap (row rows) place_too in
    let failed : test (1 + (n - 1), get_or rows (n - 1) (row [] 0)) ≡ false = filtered_none test 1 rows empty (n - 1) (row [] 0) (omega (arith, from, to)) in
    let failed_here : test (n, row rows n) ≡ false = rw (place, here) at failed in
    grind (arith, failed_here, waits, allowed)

-- a row that waits for a group, with nothing that its slot may take
record IsStuck (s : State) (slot n : ℕ) : Type 0 where
  group : ℕ
  pending : is_pending s.rows n group ≡ true
  none : pick s slot ≡ None

blocked_by : (s : State) (n : ℕ) (i : Instr) → is_blocked s n i ≡ true → (g : ℕ) × (is_pending s.rows n g ≡ true)
blocked_by s n (Wait d e g) is = (g, is)
blocked_by s n i is = absurd (grind (arith, is))

blocked_at : (s : State) (n count : ℕ) (stop : Stop) → is_idle_wait s n count stop ≡ true → (g : ℕ) × (is_pending s.rows n g ≡ true)
blocked_at s n count Yield is = absurd (grind (arith, is))
blocked_at s n count Fault is = absurd (grind (arith, is))
blocked_at s n count (Shared i) is = blocked_by s n i (and_parts _ _ is).0

picks_none : (s : State) (slot n : ℕ) (o : Option ℕ) → would_be_recorded (nest_pick s slot n o).0 ≡ false → o ≡ None
picks_none s slot n None idle = refl
picks_none s slot n (Some m) idle =
    let yes = is_recorded (nest_pick s slot n (Some m)).0 (nest_enters s slot n m) in
    absurd (grind (arith, yes, idle))

run_stuck : (s : State) (slot n : ℕ) (r : Run) → would_be_recorded (advance_run s slot n r).0 ≡ false → IsStuck s slot n
run_stuck s slot n r idle = elim (either_way (is_idle_wait s n r.count r.stop)) [
  | inl waits ↦
      let at : would_be_recorded (nest_pick s slot n (pick s slot)).0 ≡ false = rw waits at idle in
      let blocked = blocked_at s n r.count r.stop waits in
      record { group = blocked.0; pending = blocked.1; none = picks_none s slot n (pick s slot) at }
  | inr runs ↦
      let at : would_be_recorded (after_run s slot n r.count r.end r.stop).0 ≡ false = rw runs at idle in
      absurd (grind (arith, at, after_run_recorded s slot n r.count r.end r.stop))
]

unless_idle : (s : State) (r : Moved × State) → would_be_recorded (unless_full s r).0 ≡ false → would_be_recorded r.0 ≡ false
unless_idle s r idle = elim (either_way (would_be_recorded r.0)) [
  | inl recorded ↦ elim (either_way (is_full s)) [
    | inl full ↦ absurd (let no : true ≡ false = rw (recorded, full) at idle in grind (arith, no))
    | inr room ↦ rw (recorded, room) at idle
  ]
  | inr unrecorded ↦ unrecorded
]

top_idle : (s : State) (slot : ℕ) → slot < s.config.slots → CanNotMove s slot → would_be_recorded (advance_top s slot (top s.rows slot)).0 ≡ false
top_idle s slot low idle =
    let yes : nat_lt slot s.config.slots ≡ true = grind (arith, low) in
    unless_idle s (advance_top s slot (top s.rows slot)) (rw yes at idle)

-- the top of a slot on which a row is
live_top : (s : State) (slot n h : ℕ) → IsSound s → (row s.rows n).phase ≡ Live slot h → (o : Option ℕ) → top s.rows slot ≡ o → (t : ℕ) × (top s.rows slot ≡ Some t)
live_top s slot n h sound live None none =
    let low = live_low s.rows sound.well_formed.stacked n slot h live in
    absurd (omega (arith, low, top_none s.rows slot sound.well_formed.stacked none))
live_top s slot n h sound live (Some t) some = (t, some)

stuck_top : (s : State) (slot t : ℕ) → slot < s.config.slots → CanNotMove s slot → top s.rows slot ≡ Some t → IsStuck s slot t
stuck_top s slot t low idle is =
    let at : would_be_recorded (advance_top s slot (Some t)).0 ≡ false = rw is at (top_idle s slot low idle) in
    run_stuck s slot t (run_on s slot t) at

-- what the top of a slot waits for is on a slot
awaited_live : (s : State) (slot t : ℕ) → IsSound s → top s.rows slot ≡ Some t → IsStuck s slot t → (g m : ℕ) → IsAwaited s.rows t g m → (p : Phase) → (row s.rows m).phase ≡ p →
    (u k : ℕ) × ((row s.rows m).phase ≡ Live u k)
awaited_live s slot t sound is stuck g m awaited (Live u k) phase = (u, k, phase)
awaited_live s slot t sound is stuck g m awaited Unstarted phase =
    let allowed : is_allowed s.config.isolation s.rows (region_on s.rows (top s.rows slot)) m ≡ true =
    rw is (allowed_own s.config.isolation s.rows sound.well_formed.linked.makers t m g awaited (region_of s.rows t) refl) in
    absurd (nothing_allowed s.config.isolation s.rows slot stuck.none m awaited.from awaited.to (rw phase refl) allowed)
awaited_live s slot t sound is stuck g m awaited (Done v) phase = absurd (let no : false ≡ true = rw phase at awaited.open_still in grind (arith, no))
awaited_live s slot t sound is stuck g m awaited Dropped phase = absurd (let no : false ≡ true = rw phase at awaited.open_still in grind (arith, no))
awaited_live s slot t sound is stuck g m awaited Faulted phase = absurd (let no : false ≡ true = rw phase at awaited.open_still in grind (arith, no))

-- No row is live, by how many ranks are above its own.
none_live_above : (s : State) → IsSound s → (ranked : Ranked s) → NoneMoves s → (left n slot h : ℕ) → ranked.most < ranked.rank n + left → (row s.rows n).phase ≡ Live slot h → ⊥
none_live_above s sound ranked still zero n slot h within live = omega (arith, within, ranked.low n)
none_live_above s sound ranked still (suc left) n slot h within live =
    let low = sound.tended.slots n slot h live in
    let on_top = live_top s slot n h sound live (top s.rows slot) refl in
    let t = on_top.0 in
    let its = top_is s.rows slot t on_top.1 in
    let beneath = live_low s.rows sound.well_formed.stacked n slot h live in
    let stuck = stuck_top s slot t low (still n slot h live) on_top.1 in
    let member = pending_member s.rows t stuck.group stuck.pending in
    let m = member.0 in
    let there = awaited_live s slot t sound on_top.1 stuck stuck.group m member.1 (row s.rows m).phase refl in
    let up = ranked.stacked n t slot h (height s.rows slot) live its.2 beneath.1 in
    let later = ranked.spawned m t stuck.group there.0 there.1 slot (height s.rows slot) member.1.kind there.2 its.2 in
    none_live_above s sound ranked still left m there.0 there.1 (omega (arith, within, up, later)) there.2

pub none_live : (s : State) → IsSound s → Ranked s → NoneMoves s → NoneLive s
none_live s sound ranked still n slot h live = none_live_above s sound ranked still (ranked.most + 1) n slot h (omega arith) live

-- some number below n passes the test, or none does
some_below : (test : ℕ → Bool) (n : ℕ) → ((k : ℕ) × (k < n) × (test k ≡ true)) ⊎ ((k : ℕ) → k < n → test k ≡ false)
some_below test zero = inr (λ k below. absurd (omega (arith, below)))
some_below test (suc n) = elim (either_way (test n)) [
  | inl passes ↦ inl (n, omega arith, passes)
  | inr fails ↦ elim (some_below test n) [
    | inl found ↦ let within = found.1 in inl (found.0, omega (arith, within), found.2)
    | inr none ↦ inr (λ k below. elim (cases_eq k n) [
      | inl same ↦ rw same fails
      | inr other ↦ none k (omega (arith, below, other))
    ])
  ]
]

-- Has the slot a row, and can it move?
abbrev moves_at : State → ℕ → Bool
moves_at s slot = not (height s.rows slot == 0) && would_be_recorded (advance s slot).0

still_at : (s : State) → IsSound s → ((k : ℕ) → k < s.config.slots → moves_at s k ≡ false) → NoneMoves s
still_at s sound none n slot h live =
    let low = sound.tended.slots n slot h live in
    let beneath = live_low s.rows sound.well_formed.stacked n slot h live in
    let no : moves_at s slot ≡ false = none slot low in
    let some : (height s.rows slot == 0) ≡ false = grind (arith, nat_tests, beneath) in
    grind (arith, no, some)

some_rows : (h : ℕ) → not (h == 0) ≡ true → 1 ≤ h
some_rows zero some = absurd (grind (arith, some))
some_rows (suc h) some = omega arith

found_at : (s : State) (slot : ℕ) → slot < s.config.slots → moves_at s slot ≡ true → SomeMoves s
found_at s slot low is =
    let parts = and_parts (not (height s.rows slot == 0)) (would_be_recorded (advance s slot).0) is in
    let some = parts.0 in
    record { slot = slot; low = low; rows = some_rows (height s.rows slot) some; moves = parts.1 }

pub some_moves : (s : State) → IsSound s → Ranked s → (n slot h : ℕ) → (row s.rows n).phase ≡ Live slot h → SomeMoves s
some_moves s sound ranked n slot h live = elim (some_below (moves_at s) s.config.slots) [
  | inl found ↦ found_at s found.0 found.1 found.2
  | inr none ↦ absurd (none_live s sound ranked (still_at s sound none) n slot h live)
]

-- the same after any steps
module _ (c : Tenant) (xs : List Step) (slots : c.slots ≤ MAX_SLOTS) (reserved : c.reserved ≤ c.slots) where
  sound : IsSound (after (empty c) xs)
  sound = after_sound (empty c) xs (empty_sound c slots reserved)

  ranked : Ranked (after (empty c) xs)
  ranked = after_ranked (empty c) xs (empty_sound c slots reserved) (empty_ranked c)

  pub some_moves_after : (n slot h : ℕ) → (row (after (empty c) xs).rows n).phase ≡ Live slot h → SomeMoves (after (empty c) xs)
  some_moves_after n slot h live = some_moves (after (empty c) xs) sound ranked n slot h live
