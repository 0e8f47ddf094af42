-- What isolated regions protect.
use Rattle.std.proofs.Common.{◌≡◌, ◌≢◌, ℕ, zero, suc, ◌+◌, ◌-◌, ◌==◌, ◌<◌, ◌≤◌, List, [], ◌∷◌, ◌++◌, length, Option, Some, None, Bool, true, false, ◌&&◌, ◌||◌, nat_lt, refl, sym, ap, ◌∙◌, arith, inl}
use Rattle.std.proofs.Common.{inr, get_or, take, drop, ℤ, pos, map}
use Rattle.std.specs.Prelude.{if◌then◌else◌, not, nat_le, slice_set, slice_index_or, option_to_list, All}
use Rattle.std.specs.List.{list_any}
use Rattle.std.specs.Option.{option_map, option_map_or}
use Rattle.std.proofs.lemmas.Bool.{cases_eq, cases_lt, cond_both}
use Rattle.std.proofs.lemmas.List.{map-set, set_past, set-get_or, get_or-set_same, get_or-set_other, get_or-map, length-map}
use Rattle.std.proofs.lemmas.List.Elements.{All-append, All-from_get_or}
use Rattle.std.proofs.lemmas.List.Folds.{list_any_at}
use Rattle.std.proofs.lemmas.List.Sums.{fold-append}
use Rattle.job_language.specs.declared.tenants.TheConstants.{MAX_SLOTS}
use Rattle.job_language.specs.declared.jobs.Job.{Job}
use Rattle.job_language.specs.declared.requests.Request.{Request}
use Rattle.job_language.specs.declared.requests.Request.TheVariants.{Hello, Submit, Execute, Poll, Collect, Cancel, Cells, Arena, Retire, Release, Take}
use Rattle.job_language.specs.declared.answers.Reply.{Reply}
use Rattle.job_language.specs.declared.answers.Came.{Came}
use Rattle.job_language.specs.declared.answers.Status.{Status}
use Rattle.job_language.specs.declared.answers.Status.TheVariants.{Running, Cancelled, Complete, Fault}
use Rattle.job_language.specs.declared.steps.Step.{Step}
use Rattle.job_language.specs.declared.steps.Step.TheVariants.{Ask, Arrive, Advance}
use Rattle.tenant_model.specs.declared.rows.Phase.{Phase}
use Rattle.tenant_model.specs.declared.rows.Phase.TheVariants.{Unstarted, Live, Done, Dropped, Faulted}
use Rattle.tenant_model.specs.declared.rows.Row.{Row}
use Rattle.tenant_model.specs.declared.works.Work.{Work}
use Rattle.tenant_model.specs.declared.works.TheConstants.{MAX_JOBS}
use Rattle.tenant_model.specs.State.{State, empty, row}
use Rattle.tenant_model.specs.Walks.{maker_of, with_makers, chain_for, is_within, is_region, is_live_on, is_open, is_job_cancelled, height, top, pick}
use Rattle.tenant_model.specs.Changes.{is_full, is_row_limit_met}
use Rattle.thread_cells.specs.Cells.{Table, with_cell}
use Rattle.tenant_model.specs.Asks.{free_slot, unless_limit, submit_placed, collect, reply_to, ask, is_hello, known_job, has_outcome, current_jobs, status}
use Rattle.tenant_model.specs.Advance.{run_on, arrive, arrive_at, is_open_to_workers}
use Rattle.tenant_model.specs.Solo.{step, after}
use Rattle.tenant_model.specs.Linked.{MakersPrecede}
use Rattle.tenant_model.specs.Later.{IsLater}
use Rattle.tenant_model.specs.Sound.{IsSound}
use Rattle.tenant_model.specs.WellFormed.{IsTable, IsWellFormed}
use Rattle.tenant_model.specs.Regions.{Change, Touch, changes, cells_on, cells_after, change_after, touch_by, touch, touch_at, touches, IsInterval, IsolatesRows, AdvancesWithin, CellsFollowTouches}
use Rattle.tenant_model.specs.Regions.{TouchesAreWithin, EqualChangesEqualCells, KeepsRegions}
use Rattle.tenant_model.proofs.Changed.{row-get_or}
use Rattle.tenant_model.proofs.Within.{either_way, within_itself}
use Rattle.tenant_model.proofs.Insides.{live_there, live_low}
use Rattle.tenant_model.proofs.Picks.{top_is}
use Rattle.tenant_model.proofs.Touching.{change_in, with_change, advance_cells}
use Rattle.tenant_model.proofs.KeptAdvances.{step_kept, after_kept, empty_kept}
use Rattle.tenant_model.proofs.Later.{later-then}
use Rattle.tenant_model.proofs.LaterSteps.{step_later}
use Rattle.tenant_model.proofs.SoundSteps.{after_later}

-- the cells of a slot after one of them is set
cells_on-here : (t : Table) (k slot : ℕ) (v : ℤ) → IsTable t → slot < MAX_SLOTS → cells_on (with_cell t k slot v) slot ≡ slice_set (cells_on t slot) k (Some v)
cells_on-here t k slot v is low =
    let pick_cell : List (Option ℤ) → Option ℤ = λ cells. slice_index_or cells slot None in
    let cells = slice_set (slice_index_or t k []) slot (Some v) in
    elim (cases_lt k (length t)) [
      | inl there ↦
          let long : length (slice_index_or t k []) ≡ MAX_SLOTS = is.slots k [] there in
          let set : pick_cell cells ≡ Some v = get_or-set_same (slice_index_or t k []) slot (Some v) None (omega (arith, long, low)) in
          map-set pick_cell t k cells ∙ ap (slice_set (map pick_cell t) k) set
      | inr past ↦ ap (map pick_cell) (set_past t k cells past) ∙ sym (set_past (map pick_cell t) k (Some v) (omega (arith, past, length-map t pick_cell)))
    ]

-- and of another slot
cells_on-other : (t : Table) (k slot other : ℕ) (v : ℤ) → slot ≢ other → cells_on (with_cell t k other v) slot ≡ cells_on t slot
cells_on-other t k slot other v apart =
    let pick_cell : List (Option ℤ) → Option ℤ = λ cells. slice_index_or cells slot None in
    let cells = slice_set (slice_index_or t k []) other (Some v) in
    elim (cases_lt k (length t)) [
      | inl there ↦
          let same : pick_cell cells ≡ get_or (map pick_cell t) k None = get_or-set_other (slice_index_or t k []) other slot (Some v) None apart ∙ sym (get_or-map pick_cell t k [] None there) in
          map-set pick_cell t k cells ∙ ap (slice_set (map pick_cell t) k) same ∙ set-get_or (map pick_cell t) k None
      | inr past ↦ ap (map pick_cell) (set_past t k cells past)
    ]

live_slot : (slot : ℕ) (p : Phase) → is_live_on slot p ≡ true → (h : ℕ) × (p ≡ Live slot h)
live_slot slot Unstarted is = absurd (grind (arith, is))
live_slot slot (Live t h) is = let e : t ≡ slot = grind (arith, is) in (h, rw e refl)
live_slot slot (Done v) is = absurd (grind (arith, is))
live_slot slot Dropped is = absurd (grind (arith, is))
live_slot slot Faulted is = absurd (grind (arith, is))

-- Above a region all is within it.
pub isolates_rows : (s : State) → IsWellFormed s → IsolatesRows s
isolates_rows s is slot r n low high is_one r_live n_live le =
    let there = live_there s.rows r slot low r_live in
    is.inside r n slot low high r r_live n_live le is_one (within_itself s.rows is.linked.makers r there.0 there.1)

-- So a slot advances by rows within each region that is live on it.
pub advances_within : (s : State) → IsWellFormed s → AdvancesWithin s
advances_within s is slot r n is_one live top =
    let its = live_slot slot (row s.rows r).phase live in
    let high = top_is s.rows slot n top in
    let low = live_low s.rows is.stacked r slot its.0 its.1 in
    isolates_rows s is slot r n its.0 (height s.rows slot) is_one its.1 high.2 low.1

-- A table after a touch, seen from a slot.
cells_on-touch : (t : Table) (slot other : ℕ) (o : Option Touch) → IsTable t → slot < MAX_SLOTS →
    cells_on (with_change t other (change_in o)) slot ≡ cells_after (cells_on t slot) (changes (option_to_list (if other == slot then o else None)))
cells_on-touch t slot other None is low = elim (either_way (other == slot)) [
  | inl same ↦ rw same refl
  | inr apart ↦ rw apart refl
]
cells_on-touch t slot other (Some x) is low = elim (cases_eq slot other) [
  | inl same ↦
      let here : (other == slot) ≡ true = grind (arith, same) in
      let set : cells_on (with_cell t x.1.0 other x.1.1) slot ≡ slice_set (cells_on t slot) x.1.0 (Some x.1.1) = rw (sym same) (cells_on-here t x.1.0 slot x.1.1 is low) in
      rw here set
  | inr apart ↦
      let not_here : (other == slot) ≡ false = grind (arith, apart) in
      rw not_here (cells_on-other t x.1.0 slot other x.1.1 apart)
]

-- A touch of another slot is not seen.
other_touch : (t : Table) (slot other : ℕ) (o : Option Touch) → slot ≢ other → cells_on (with_change t other (change_in o)) slot ≡ cells_on t slot
other_touch t slot other None apart = refl
other_touch t slot other (Some x) apart = cells_on-other t x.1.0 slot other x.1.1 apart

-- what a reply leaves in the cells
abbrev Leaves : Table → Reply × State → Type 0
Leaves t r = r.1.cells ≡ t

either : (t : Table) (b : Bool) (r q : Reply × State) → (b ≡ true → Leaves t r) → (b ≡ false → Leaves t q) → Leaves t (if b then r else q)
either t b r q if_true if_false = cond_both b r q (Leaves t) if_true if_false

executed_cells : (s : State) (j : Job) (o : Option ℕ) → Leaves s.cells (submit_placed s j o)
executed_cells s j None = refl
executed_cells s j (Some slot) = refl

limited_cells : (s : State) (r : Reply × State) → Leaves s.cells r → Leaves s.cells (unless_limit s r)
limited_cells s r leaves = either s.cells (nat_le MAX_JOBS (current_jobs s)) _ _ (λ _. refl) (λ _. either s.cells (is_row_limit_met s) _ r (λ _. refl) (λ _. leaves))

of_job_cells : (t : Table) (o : Option Work) (next : Work → Reply × State) (r : Reply × State) → Leaves t r → ((w : Work) → Leaves t (next w)) → Leaves t (option_map_or next o r)
of_job_cells t None next r none some = none
of_job_cells t (Some w) next r none some = some w

collected_cells : (s : State) (j : ℕ) (status : Status) → Leaves s.cells (collect s j status)
collected_cells s j Running = refl
collected_cells s j Cancelled = refl
collected_cells s j (Complete v) = refl
collected_cells s j (Fault f) = refl

module _ (s : State) (busy : list_any (λ (r : Row). is_open r.phase) s.rows ≡ true) where
  reply_cells : (r : Request) → Leaves s.cells (reply_to s r)
  reply_cells (Hello name) = refl
  reply_cells (Submit j) = limited_cells s _ refl
  reply_cells (Execute j) = limited_cells s _ (executed_cells s j (free_slot s))
  reply_cells (Poll j) = of_job_cells s.cells (known_job s j) _ _ refl (λ w. refl)
  reply_cells (Collect j) = of_job_cells s.cells (known_job s j) _ _ refl (λ w. collected_cells s j (status s.rows j w))
  reply_cells (Cancel j) = of_job_cells s.cells (known_job s j) _ _ refl (λ w. either s.cells (is_job_cancelled w || has_outcome s.rows j) _ _ (λ _. refl) (λ _. refl))
  reply_cells (Cells k) = refl
  reply_cells Arena = refl
  reply_cells Retire = rw busy refl
  reply_cells (Release j) = of_job_cells s.cells (known_job s j) _ _ refl (λ w. either s.cells (has_outcome s.rows j) _ _ (λ _. refl) (λ _. refl))
  reply_cells (Take j) = of_job_cells s.cells (known_job s j) _ _ refl (λ w. either s.cells (has_outcome s.rows j) _ _ (λ _. refl) (λ _. refl))

  -- While a row is open no ask changes a cell.
  ask_cells : (r : Request) → Leaves s.cells (ask s r)
  ask_cells r = either s.cells (is_full s && not (is_hello r)) _ _ (λ _. refl) (λ _. reply_cells r)

arrived_cells : (s : State) (slot : ℕ) (o : Option ℕ) → (arrive_at s slot o).1.cells ≡ s.cells
arrived_cells s slot None = refl
arrived_cells s slot (Some m) = cond_both (is_full s) _ _ (λ (r : Came × State). r.1.cells ≡ s.cells) (λ _. refl) (λ _. refl)

arrive_cells : (s : State) (slot : ℕ) → (arrive s slot).1.cells ≡ s.cells
arrive_cells s slot = cond_both (is_open_to_workers s slot) _ _ (λ (r : Came × State). r.1.cells ≡ s.cells) (λ _. arrived_cells s slot (pick s slot)) (λ _. refl)

live_open : (slot : ℕ) (p : Phase) → is_live_on slot p ≡ true → is_open p ≡ true
live_open slot Unstarted is = refl
live_open slot (Live t h) is = refl
live_open slot (Done v) is = absurd (grind (arith, is))
live_open slot Dropped is = absurd (grind (arith, is))
live_open slot Faulted is = absurd (grind (arith, is))

-- A live row is open.
live_busy : (rows : List Row) (slot r : ℕ) → is_live_on slot (row rows r).phase ≡ true → list_any (λ (x : Row). is_open x.phase) rows ≡ true
live_busy rows slot r live =
    let its = live_slot slot (row rows r).phase live in
    let there = live_there rows r slot its.0 its.1 in
    let place : r - 1 + 1 ≡ r = omega (arith, there) in
    let found : get_or rows (r - 1) (row [] 0) ≡ row rows r = row-get_or rows (r - 1) (row [] 0) (omega (arith, there)) ∙ ap (row rows) place in
    list_any_at (λ (x : Row). is_open x.phase) rows (r - 1) (row [] 0) (omega (arith, there)) (rw found (live_open slot (row rows r).phase live))

-- A slot that is not there is not touched.
untouched : (s : State) (slot t : ℕ) → IsWellFormed s → MAX_SLOTS ≤ slot → t ≡ slot → touch s t ≡ None
untouched s slot t is past same =
    let no : nat_lt t s.config.slots ≡ false = grind (arith, is.slots, past, same) in
    rw no refl

advance_cells_on : (s : State) (slot t : ℕ) → IsWellFormed s →
    cells_on (with_change s.cells t (change_in (touch s t))) slot ≡ cells_after (cells_on s.cells slot) (changes (option_to_list (if t == slot then touch s t else None)))
advance_cells_on s slot t is = elim (cases_lt slot MAX_SLOTS) [
  | inl low ↦ cells_on-touch s.cells slot t (touch s t) is.table low
  | inr past ↦ elim (cases_eq t slot) [
    | inl same ↦
        let here : (t == slot) ≡ true = grind (arith, same) in
        rw (here, untouched s slot t is past same) refl
    | inr apart ↦
        let not_here : (t == slot) ≡ false = grind (arith, apart) in
        rw not_here (other_touch s.cells slot t (touch s t) (λ same. apart (sym same)))
  ]
]

-- A step while some row is live on a slot: the slot's cells change by its touch.
step_cells : (s : State) (slot r : ℕ) (x : Step) → IsWellFormed s → is_live_on slot (row s.rows r).phase ≡ true →
    cells_on (step s x).1.cells slot ≡ cells_after (cells_on s.cells slot) (changes (option_to_list (touch_at s slot x)))
step_cells s slot r (Ask q) is live = ap (λ t. cells_on t slot) (ask_cells s (live_busy s.rows slot r live) q)
step_cells s slot r (Arrive t) is live = ap (λ t. cells_on t slot) (arrive_cells s t)
step_cells s slot r (Advance t) is live = ap (λ u. cells_on u slot) (advance_cells s t) ∙ advance_cells_on s slot t is

changes-append : (ts us : List Touch) → changes (ts ++ us) ≡ changes ts ++ changes us
changes-append [] us = refl
changes-append (t ∷ ts) us = ap (λ cs. t.1 ∷ cs) (changes-append ts us)

-- So do they over an interval, by the touches in order.
pub cells_follow_touches : (s : State) (xs : List Step) → IsWellFormed s → CellsFollowTouches s xs
cells_follow_touches s [] is slot r interval = refl
cells_follow_touches s (x ∷ xs) is slot r interval =
    let first : is_live_on slot (row s.rows r).phase ≡ true = interval 0 (omega arith) in
    let rest : IsInterval (step s x).1 slot r xs = λ k within. interval (suc k) (omega arith) in
    let later = cells_follow_touches (step s x).1 xs (step_kept s x is) slot r rest in
    let first_touches = option_to_list (touch_at s slot x) in
    let rest_touches = touches (step s x).1 slot xs in
    let set : List (Option ℤ) → Change → List (Option ℤ) = λ now c. slice_set now c.0 (Some c.1) in
    later ∙ ap (λ cells. cells_after cells (changes rest_touches)) (step_cells s slot r x is first) ∙
    sym (fold-append set (cells_on s.cells slot) (changes first_touches) (changes rest_touches)) ∙ ap (cells_after (cells_on s.cells slot)) (sym (changes-append first_touches rest_touches))

-- Equal cells and equal changes give equal cells.
pub equal_changes : (s : State) (xs : List Step) → IsWellFormed s → EqualChangesEqualCells s xs
equal_changes s xs is slot r interval c zs ys slot' r' slots interval' cells same =
    let t = after (empty c) zs in
    let is' = after_kept (empty c) zs (empty_kept c slots) in
    cells_follow_touches t ys is' slot' r' interval' ∙ ap (λ now. cells_after now (changes (touches t slot' ys))) cells ∙ ap (cells_after (cells_on s.cells slot)) same ∙
    sym (cells_follow_touches s xs is slot r interval)

-- What is within a row stays so.
by_maker : (a b : List Row) (k n : ℕ) (o : Option ℕ) → ((m : ℕ) → o ≡ Some m → chain_for k b m ≡ chain_for k a m) → with_makers n o (chain_for k b) ≡ with_makers n o (chain_for k a)
by_maker a b k n None each = refl
by_maker a b k n (Some m) each = ap (λ ms. n ∷ ms) (each m refl)

chain_for-later : (a b : List Row) → ((n : ℕ) → n ≤ length a → (row b n).kind ≡ (row a n).kind) → MakersPrecede a → (k n : ℕ) → n ≤ length a → chain_for k b n ≡ chain_for k a n
chain_for-later a b kinds precede zero n within = refl
chain_for-later a b kinds precede (suc k) zero within = refl
chain_for-later a b kinds precede (suc k) (suc n) within = rw (kinds (suc n) within) (by_maker a b k (suc n) (maker_of (row a (suc n)).kind) (λ m made.
    let before : (1 ≤ m) × (m < suc n) = rw made at (precede (suc n) (omega arith) within) in
    chain_for-later a b kinds precede k m (omega (arith, before, within))))

within_later : (s t : State) → IsWellFormed s → IsLater s t → (n r : ℕ) → n ≤ length s.rows → is_within s.rows n r ≡ true → is_within t.rows n r ≡ true
within_later s t is later n r there within = ap (list_any (λ m. m == r)) (chain_for-later s.rows t.rows (λ m to. (later.rows m to).kind) is.linked.makers n n there) ∙ within

-- the toucher is on top
touch_on_top : (s : State) (slot : ℕ) (t : Touch) → touch s slot ≡ Some t → top s.rows slot ≡ Some t.0
touch_on_top s slot t some = elim (either_way (nat_lt slot s.config.slots)) [
  | inr past ↦ absurd (let no : None ≡ Some t = rw past at some in cc)
  | inl there ↦ elim (either_way (is_full s)) [
    | inl full ↦ absurd (let no : None ≡ Some t = rw (there, full) at some in cc)
    | inr room ↦
        let by : touch_by s slot (top s.rows slot) ≡ Some t = rw (there, room) at some in
        tagged (top s.rows slot) by
  ]
]
  where
    tag_is : (n : ℕ) (o : Option Change) → option_map (λ (c : Change). (n, c)) o ≡ Some t → Some n ≡ Some t.0
    tag_is n None is = absurd (let no : None ≡ Some t = is in cc)
    tag_is n (Some c) is = ap (λ (o : Option Touch). option_map (λ (x : Touch). x.0) o) is

    tagged : (o : Option ℕ) → touch_by s slot o ≡ Some t → o ≡ Some t.0
    tagged None by = absurd (let no : None ≡ Some t = by in cc)
    tagged (Some n) by = let r = run_on s slot n in tag_is n (change_after s slot n r.count r.end r.stop) by

step_touch_within : (s : State) (slot r : ℕ) (x : Step) → IsWellFormed s → is_region (row s.rows r).kind ≡ true → is_live_on slot (row s.rows r).phase ≡ true → (t : Touch) →
    touch_at s slot x ≡ Some t → (t.0 ≤ length s.rows) × (is_within s.rows t.0 r ≡ true)
step_touch_within s slot r (Ask q) is region live t some = absurd (let no : None ≡ Some t = some in cc)
step_touch_within s slot r (Arrive u) is region live t some = absurd (let no : None ≡ Some t = some in cc)
step_touch_within s slot r (Advance u) is region live t some = elim (cases_eq u slot) [
  | inl same ↦
      let here : (u == slot) ≡ true = grind (arith, same) in
      let own : touch s u ≡ Some t = rw here at some in
      let on_top : top s.rows slot ≡ Some t.0 = ap (top s.rows) (sym same) ∙ touch_on_top s u t own in
      ((top_is s.rows slot t.0 on_top).1, advances_within s is slot r t.0 region live on_top)
  | inr apart ↦
      let not_here : (u == slot) ≡ false = grind (arith, apart) in
      absurd (let no : None ≡ Some t = rw not_here at some in cc)
]

pub touches_are_within : (s : State) (xs : List Step) → IsWellFormed s → TouchesAreWithin s xs
touches_are_within s [] is slot r region interval = All-from_get_or (λ (t : Touch). is_within s.rows t.0 r ≡ true) [] (0, (0, pos 0)) (λ i within. absurd (omega (arith, within)))
touches_are_within s (x ∷ xs) is slot r region interval =
    let first : is_live_on slot (row s.rows r).phase ≡ true = interval 0 (omega arith) in
    let t = (step s x).1 in
    let later = step_later s x is in
    let well = step_kept s x is in
    let its = live_slot slot (row s.rows r).phase first in
    let there = live_there s.rows r slot its.0 its.1 in
    let still : is_region (row t.rows r).kind ≡ true = ap is_region (later.rows r there.1).kind ∙ region in
    let rest = touches_are_within t xs well slot r still (λ k within. interval (suc k) (omega arith)) in
    All-append (λ (c : Touch). is_within (after t xs).rows c.0 r ≡ true) (option_to_list (touch_at s slot x)) (touches t slot xs) (only (touch_at s slot x) refl) rest
  where
    only : (o : Option Touch) → touch_at s slot x ≡ o → All (λ (c : Touch). is_within (after (step s x).1 xs).rows c.0 r ≡ true) (option_to_list o)
    only None none = All-from_get_or (λ (c : Touch). is_within (after (step s x).1 xs).rows c.0 r ≡ true) [] (0, (0, pos 0)) (λ i within. absurd (omega (arith, within)))
    only (Some c) some =
        let by = step_touch_within s slot r x is region (interval 0 (omega arith)) c some in
        let all = later-then s (step s x).1 (after (step s x).1 xs) (step_later s x is) (after_later (step s x).1 xs (step_kept s x is)) in
        All-from_get_or (λ (d : Touch). is_within (after (step s x).1 xs).rows d.0 r ≡ true) (c ∷ []) (0, (0, pos 0))
        (λ i within. let e : i ≡ 0 = omega (arith, within) in rw e (within_later s (after (step s x).1 xs) is all c.0 r by.0 by.1))

-- What regions protect, at each moment of a run and in each part of it.
pub keeps_regions : (s : State) (xs : List Step) → IsWellFormed s → KeepsRegions s xs
keeps_regions s xs is = record {
  rows = λ k. isolates_rows (after s (take k xs)) (after_kept s (take k xs) is);
  advances = λ k. advances_within (after s (take k xs)) (after_kept s (take k xs) is);
  cells = λ k n. cells_follow_touches (after s (take k xs)) (take n (drop k xs)) (after_kept s (take k xs) is);
  touches = λ k n. touches_are_within (after s (take k xs)) (take n (drop k xs)) (after_kept s (take k xs) is);
  equal = λ k n. equal_changes (after s (take k xs)) (take n (drop k xs)) (after_kept s (take k xs) is);
}

pub sound_keeps_regions : (s : State) (xs : List Step) → IsSound s → KeepsRegions s xs
sound_keeps_regions s xs is = keeps_regions s xs is.well_formed
