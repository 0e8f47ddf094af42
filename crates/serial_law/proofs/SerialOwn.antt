-- What a row of a serial job does on top of its slot.
use Rattle.std.proofs.Common.{◌≡◌, ◌≢◌, ℕ, zero, suc, ◌+◌, ◌-◌, ◌==◌, ◌<◌, ◌≤◌, List, [], ◌∷◌, ◌++◌, length, Option, Some, true, false, refl, sym, ap, ◌∙◌, arith, inl, inr, length-set, ℤ, pos}
use Rattle.std.specs.Prelude.{slice_set}
use Rattle.std.proofs.lemmas.Bool.{cases_eq, cases_lt}
use Rattle.std.proofs.lemmas.List.{length_push}
use Rattle.job_language.specs.declared.instructions.Instr.TheVariants.{Spawn, Wait, Isolate, Ret}
use Rattle.job_step.specs.declared.frames.Frame.{Frame}
use Rattle.job_step.specs.Frame.{register, write_and_step, instr_at}
use Rattle.tenant_model.specs.declared.rows.Kind.{Kind}
use Rattle.tenant_model.specs.declared.rows.Kind.TheVariants.{Root, Posted, Spawned, Region}
use Rattle.tenant_model.specs.declared.rows.Mark.{Mark}
use Rattle.tenant_model.specs.declared.rows.Phase.{Phase}
use Rattle.tenant_model.specs.declared.rows.Phase.TheVariants.{Unstarted, Live, Done, Dropped, Faulted}
use Rattle.tenant_model.specs.declared.rows.Row.{Row}
use Rattle.tenant_model.specs.Serial.{root_task}
use Rattle.tenant_model.specs.State.{State, row, job, with_at_number, no_marks}
use Rattle.tenant_model.specs.Walks.{maker_of, is_open, is_unstarted, total, is_pending, is_job_cancelled, value_in, height}
use Rattle.tenant_model.specs.Changes.{on_row, new_row, add_row, with_frame}
use Rattle.tenant_model.specs.Linked.{IsLinked}
use Rattle.tenant_model.specs.Shared.{next_place, called_frame, group_status, has_used_group, handed_frame, hand_back}
use Rattle.tenant_model.proofs.Within.{either_way}
use Rattle.tenant_model.proofs.Changed.{row-with_same, row-with_other, row-push_old, row-push_new, length-with}
use Rattle.tenant_model.proofs.Linked.{SameSources-set, IsLinked-set, IsLinked-push}
use Rattle.tenant_model.proofs.Insides.{live_low}
use Rattle.tenant_model.proofs.Marked.{mark_in}
use Rattle.tenant_model.proofs.Parts.{same_place}
use Rattle.serial_law.proofs.SerialGiving.{GoesBack}
use Rattle.serial_law.proofs.SerialNow.{is_region_by, is_made_by, Leads}
use Rattle.serial_law.proofs.SerialMoves.{IsMoved, IsFree, Leads-private}
use Rattle.serial_law.proofs.SerialMade.{HasMade, Leads-spawned, Leads-isolated}
use Rattle.serial_law.proofs.SerialEnded.{HasChildren, Leads-waited}
use Rattle.serial_law.proofs.SerialDone.{HasEnded, Leads-ended}
use Rattle.serial_law.proofs.SerialFollows.{Origin, OneJob, IsFollowed, Good, OneJob-same, OneJob-push, context_clear}
use Rattle.tenant_model.proofs.Together.{one_there}
use Rattle.serial_law.proofs.SerialOthers.{OnTop}

region_by_is : (n : ℕ) (k : Kind) → is_region_by n k ≡ true → k ≡ Region n
region_by_is n Root is = absurd (grind (arith, is))
region_by_is n Posted is = absurd (grind (arith, is))
region_by_is n (Spawned m g) is = absurd (grind (arith, is))
region_by_is n (Region m) is = let e : m ≡ n = grind (arith, is) in rw e refl

made_by_is : (n : ℕ) (k : Kind) → is_made_by n k ≡ true → maker_of k ≡ Some n
made_by_is n Root is = absurd (grind (arith, is))
made_by_is n Posted is = absurd (grind (arith, is))
made_by_is n (Spawned m g) is = let e : m ≡ n = grind (arith, is) in rw e refl
made_by_is n (Region m) is = let e : m ≡ n = grind (arith, is) in rw e refl

open_live : (p : Phase) → is_open p ≡ true → is_unstarted p ≡ false → (t : ℕ) × (h : ℕ) × (p ≡ Live t h)
open_live Unstarted opened started = absurd (grind (arith, started))
open_live (Live t h) opened started = (t, h, refl)
open_live (Done v) opened started = absurd (grind (arith, opened))
open_live Dropped opened started = absurd (grind (arith, opened))
open_live Faulted opened started = absurd (grind (arith, opened))

pub no_mark_cancelled : (g : ℕ) → (mark_in no_marks g).cancelled ≡ false
no_mark_cancelled zero = refl
no_mark_cancelled (suc zero) = refl
no_mark_cancelled (suc (suc zero)) = refl
no_mark_cancelled (suc (suc (suc zero))) = refl
no_mark_cancelled (suc (suc (suc (suc g)))) = refl

mark_clears : (marks : List Mark) (g : ℕ) (m : Mark) → m.cancelled ≡ false → ((k : ℕ) → (mark_in marks k).cancelled ≡ false) → (k : ℕ) → (mark_in (slice_set marks g m) k).cancelled ≡ false
mark_clears [] g m clear all k = all k
mark_clears (x ∷ xs) zero m clear all zero = clear
mark_clears (x ∷ xs) zero m clear all (suc k) = all (suc k)
mark_clears (x ∷ xs) (suc g) m clear all zero = all zero
mark_clears (x ∷ xs) (suc g) m clear all (suc k) = mark_clears xs g m clear (λ i. all (suc i)) k

-- marks that nobody cancelled, one for each group
pub record AreClear (marks : List Mark) : Type 0 where
  pub clear : (g : ℕ) → (mark_in marks g).cancelled ≡ false
  pub long : length marks ≡ 4

-- the region on top of a row is the only one
region_on_top : (rows : List Row) (slot n : ℕ) → OnTop rows slot n → (k m : ℕ) → (row rows k).kind ≡ Region m → is_open (row rows k).phase ≡ true →
    (t : ℕ) × (h : ℕ) × ((row rows k).phase ≡ Live t h) × ((row rows m).phase ≡ Live t (h - 1)) × (1 ≤ h) × (h ≤ height rows t)
region_on_top rows slot n top k m kind opened =
    let live = open_live (row rows k).phase opened (top.on_makers.started k m kind) in
    let low = live_low rows top.stacked k live.0 live.1 live.2 in
    (live.0, live.1, live.2, top.on_makers.below k m live.0 live.1 kind live.2, low.0, low.1)

free_on_top : (j : ℕ) (rows : List Row) (slot n : ℕ) → OnTop rows slot n → IsFree j n rows
free_on_top j rows slot n top k from to own is_one = elim (either_way (is_open (row rows k).phase)) [
  | inr closed ↦ closed
  | inl opened ↦
      let above = region_on_top rows slot n top k n (region_by_is n (row rows k).kind is_one) opened in
      let place = same_place slot (height rows slot) above.0 (above.1 - 1) (sym top.live ∙ above.3) in
      let e : height rows above.0 ≡ height rows slot = ap (height rows) (sym place.0) in
      absurd (omega (arith, place, above.4, above.5, e))
]

only_on_top : (rows : List Row) (slot n m : ℕ) → OnTop rows slot n → (row rows n).kind ≡ Region m → (k : ℕ) → k ≢ n → is_region_by m (row rows k).kind ≡ true → is_open (row rows k).phase ≡ false
only_on_top rows slot n m top kind k apart is_one = elim (either_way (is_open (row rows k).phase)) [
  | inr closed ↦ closed
  | inl opened ↦
      let other = region_on_top rows slot n top k m (region_by_is m (row rows k).kind is_one) opened in
      let own = region_on_top rows slot n top n m kind (rw top.live refl) in
      let place = same_place other.0 (other.1 - 1) own.0 (own.1 - 1) (sym other.3 ∙ own.3) in
      let level : other.1 ≡ own.1 = omega (arith, place.1, other.4, own.4) in
      absurd (apart (one_there rows top.stacked k n own.0 own.1 (rw (← place.0, ← level) other.2) own.2))
]

module _ (rows : List Row) (n : ℕ) (r : Row) (from : 1 ≤ n) (to : n ≤ length rows) (kind : r.kind ≡ (row rows n).kind) (own : r.job ≡ (row rows n).job) (phase : r.phase ≡ (row rows n).phase) where
  moved_set : IsMoved n rows (with_at_number rows n r)
  moved_set =
      let here = row-with_same rows n r from to in
      let long = length-with rows n r in
      record {
        from = from;
        to = to;
        long = omega (arith, long);
        others = λ k least most apart. row-with_other rows n k r from apart;
        kind = ap (λ (q : Row). q.kind) here ∙ kind;
        job = ap (λ (q : Row). q.job) here ∙ own;
        phase = ap (λ (q : Row). q.phase) here ∙ phase;
        news = λ k p after le other. absurd (omega (arith, after, le, long));
      }

  moved_push : (q : Row) → ((p : ℕ) → p ≢ n → is_made_by p q.kind ≡ false) → IsMoved n rows (with_at_number rows n r ++ q ∷ [])
  moved_push q none =
      let long = length-with rows n r in
      let more = length_push (with_at_number rows n r) q in
      let here : row (with_at_number rows n r ++ q ∷ []) n ≡ r = row-push_old (with_at_number rows n r) n q (omega (arith, to, long)) ∙ row-with_same rows n r from to in
      record {
        from = from;
        to = to;
        long = omega (arith, long, more);
        others = λ k least most apart. row-push_old (with_at_number rows n r) k q (omega (arith, most, long)) ∙ row-with_other rows n k r from apart;
        kind = ap (λ (x : Row). x.kind) here ∙ kind;
        job = ap (λ (x : Row). x.job) here ∙ own;
        phase = ap (λ (x : Row). x.phase) here ∙ phase;
        news = λ k p after le other. ap (λ (x : Row). is_made_by p x.kind) (row-push_new (with_at_number rows n r) k q (omega (arith, after, le, long, more))) ∙ none p other;
      }

-- Row n of the serial job is on top, and ran `count` private instructions up to frame f, which are paid with one more.
pub record HasRun (o : Origin) (s : State) (slot n count : ℕ) (f : Frame) : Type 0 where
  pub top : OnTop s.rows slot n
  pub own : (row s.rows n).job ≡ o.number
  pub back : GoesBack o.program (row s.rows n).frame f count

module _ (o : Origin) (s : State) (slot n count debt : ℕ) (f : Frame) (run : HasRun o s slot n count f) (is : Good o s debt) where
  abbrev left : ℕ
  left = (job s.jobs o.number).fuel

  opened : is_open (row s.rows n).phase ≡ true
  opened = rw run.top.live refl

  children : HasChildren o.number n s.rows
  children k from to made =
      let same : (row s.rows n).job ≡ (row s.rows k).job = rw (made_by_is n (row s.rows k).kind made) at (is.one k from to) in
      sym same ∙ run.own

  -- the state after it, by its rows
  followed_next : (t : State) → t.jobs ≡ s.jobs → IsLinked t → OneJob t.rows → (is_job_cancelled (job s.jobs o.number) ≡ false → IsFollowed o s.rows left debt → IsFollowed o t.rows left 0) →
      Good o t 0
  followed_next t same linked one next = record {
    linked = linked;
    one = one;
    follows = record {
      to = rw same is.follows.to;
      program = rw same is.follows.program;
      root = rw same is.follows.root;
      follows = rw same (λ some clear. next clear (is.follows.follows some clear));
    };
  }

  next_is : (b : List Row) (more : ℕ) → more ≤ debt → length s.rows ≤ length b → ((k : ℕ) → 1 ≤ k → k ≤ length s.rows → (row b k).job ≡ (row s.rows k).job) →
      (its : IsFollowed o s.rows left debt) → ((k : ℕ) → 1 ≤ k → k ≤ length b → (row b k).job ≡ o.number → AreClear (row b k).marks) →
      Leads o.program (root_task o.args) o.number o.root b (its.spent + more) → IsFollowed o b left 0
  next_is b more le long jobs its clear leads = record {
    from = its.from;
    to = omega (arith, its.to, long);
    own = jobs o.root its.from its.to ∙ its.own;
    marks = λ k from to own g. (clear k from to own).clear g;
    groups = λ k from to own. (clear k from to own).long;
    spent = its.spent + more;
    fuel = omega (arith, its.fuel, le);
    leads = leads;
  }

  clear_before : IsFollowed o s.rows left debt → (k : ℕ) → 1 ≤ k → k ≤ length s.rows → (row s.rows k).job ≡ o.number → AreClear (row s.rows k).marks
  clear_before its k from to own = record { clear = λ g. its.marks k from to own g; long = its.groups k from to own }

  -- a changed row
  module _ (r : Row) (kind : r.kind ≡ (row s.rows n).kind) (own : r.job ≡ (row s.rows n).job) where
    set_linked : IsLinked (record s { rows = with_at_number s.rows n r })
    set_linked = IsLinked-set s n r run.top.from run.top.to kind own is.linked

    set_one : OneJob (with_at_number s.rows n r)
    set_one = OneJob-same s.rows _ (SameSources-set s.rows n r run.top.from run.top.to kind own) is.linked.makers is.one

    set_clear : IsFollowed o s.rows left debt → AreClear r.marks → (k : ℕ) → 1 ≤ k → k ≤ length (with_at_number s.rows n r) → (row (with_at_number s.rows n r) k).job ≡ o.number →
        AreClear (row (with_at_number s.rows n r) k).marks
    set_clear its here k from to owned =
        let long = length-with s.rows n r in
        elim (cases_eq k n) [
          | inl same ↦ rw (same, row-with_same s.rows n r run.top.from run.top.to) here
          | inr apart ↦
              let old = row-with_other s.rows n k r run.top.from apart in
              rw old (clear_before its k from (omega (arith, to, long)) (ap (λ (q : Row). q.job) (sym old) ∙ owned))
        ]

  -- private instructions alone
  pub moved_own : count ≤ debt → Good o (with_frame s n f) 0
  moved_own le =
      let r = record (row s.rows n) { frame = f } in
      let moved = moved_set s.rows n r run.top.from run.top.to refl refl refl in
      let here = row-with_same s.rows n r run.top.from run.top.to in
      let long = length-with s.rows n r in
      followed_next (with_frame s n f) refl (set_linked r refl refl) (set_one r refl refl) (λ clear its.
      next_is _ count le (omega (arith, long)) (λ k from to. (SameSources-set s.rows n r run.top.from run.top.to refl refl).jobs k) its
      (set_clear r refl refl its (clear_before its n run.top.from run.top.to run.own))
      (Leads-private o.program (root_task o.args) o.number o.root n s.rows _ moved run.own opened (free_on_top o.number s.rows slot n run.top) its.spent count its.from its.to long
      (ap (λ (q : Row). q.marks) here) (rw here run.back) its.leads))

  -- a passed wait
  pub waited_own : (d e g : ℕ) → count + 1 ≤ debt → instr_at o.program f ≡ Some (Wait d e g) → g < 4 → is_pending s.rows n g ≡ false → Good o (on_row s n (λ r. record r {
    frame = write_and_step (record f { registers = slice_set f.registers d (total s.rows n g) }) e (group_status s n g);
    marks = slice_set r.marks g (record { rows = length s.rows; cancelled = false });
  })) 0
  waited_own d e g le at low settled_row =
      let r = record (row s.rows n) {
        frame = write_and_step (record f { registers = slice_set f.registers d (total s.rows n g) }) e (group_status s n g);
        marks = slice_set (row s.rows n).marks g (record { rows = length s.rows; cancelled = false });
      } in
      let moved = moved_set s.rows n r run.top.from run.top.to refl refl refl in
      let here = row-with_same s.rows n r run.top.from run.top.to in
      let long = length-with s.rows n r in
      followed_next (record s { rows = with_at_number s.rows n r }) refl (set_linked r refl refl) (set_one r refl refl) (λ clear its.
      let own_marks = clear_before its n run.top.from run.top.to run.own in
      let not_cancelled = context_clear o s left debt is.linked.makers is.one its clear n run.top.from run.top.to run.own in
      let status : group_status s n g ≡ pos 1 = rw (own_marks.clear g, not_cancelled) refl in
      next_is _ (count + 1) le (omega (arith, long)) (λ k from to. (SameSources-set s.rows n r run.top.from run.top.to refl refl).jobs k) its
      (set_clear r refl refl its (record {
        clear = mark_clears (row s.rows n).marks g (record { rows = length s.rows; cancelled = false }) refl own_marks.clear;
        long =
            length-set (row s.rows n).marks g (record { rows = length s.rows; cancelled = false }) ∙ own_marks.long;
      }))
      (Leads-waited o.program (root_task o.args) o.number o.root n s.rows _ moved run.own opened (free_on_top o.number s.rows slot n run.top) children d e g f count its.spent its.from its.to long
      run.back at low settled_row
      (ap (λ (q : Row). q.frame) here ∙ ap (λ v. write_and_step (record f { registers = slice_set f.registers d (total s.rows n g) }) e v) status) own_marks.long (ap (λ (q : Row). q.marks) here)
      its.leads))

  -- a row made
  module _ (next g : Frame) (k : Kind) (made_on : Option ℕ) (p : Phase) (made : maker_of k ≡ Some n) (none : (m : ℕ) → m ≢ n → is_made_by m k ≡ false) (p_open : is_open p ≡ true) where
    abbrev child : Row
    child = new_row k (row s.rows n).job made_on g p

    abbrev mover : Row
    mover = record (row s.rows n) { frame = next }

    abbrev grown : State
    grown = add_row (with_frame s n next) child

    grown_linked : IsLinked grown
    grown_linked =
        let long = length-with s.rows n mover in
        IsLinked-push (with_frame s n next) child (set_linked mover refl refl) (rw made (run.top.from, omega (arith, run.top.to, long))) (is.linked.jobs n run.top.from run.top.to)

    grown_one : OneJob grown.rows
    grown_one =
        let long = length-with s.rows n mover in
        OneJob-push (with_frame s n next).rows child (set_linked mover refl refl).makers (set_one mover refl refl)
        (rw made (omega (arith, run.top.to, long), ap (λ (q : Row). q.job) (row-with_same s.rows n mover run.top.from run.top.to)))

    grown_made : IsFollowed o s.rows left debt → HasMade o.number n s.rows grown.rows child
    grown_made its =
        let long = length-with s.rows n mover in
        let here : row grown.rows n ≡ mover = row-push_old (with_at_number s.rows n mover) n child (omega (arith, run.top.to, long)) ∙ row-with_same s.rows n mover run.top.from run.top.to in
        record {
          moved = moved_push s.rows n mover run.top.from run.top.to refl refl refl child none;
          own = run.own;
          opened = opened;
          free = free_on_top o.number s.rows slot n run.top;
          long = omega (arith, long, length_push (with_at_number s.rows n mover) child);
          last = row-push_new (with_at_number s.rows n mover) (suc (length s.rows)) child (omega (arith, long));
          its = run.own;
          opens = p_open;
          makers = grown_linked.makers;
          marks = ap (λ (q : Row). q.marks) here;
          marked = run.top.marked;
        }

    grown_frame : (row grown.rows n).frame ≡ next
    grown_frame =
        let long = length-with s.rows n mover in
        ap (λ (q : Row). q.frame) (row-push_old (with_at_number s.rows n mover) n child (omega (arith, run.top.to, long)) ∙ row-with_same s.rows n mover run.top.from run.top.to)

    grown_clear : IsFollowed o s.rows left debt → (i : ℕ) → 1 ≤ i → i ≤ length grown.rows → (row grown.rows i).job ≡ o.number → AreClear (row grown.rows i).marks
    grown_clear its i from to owned =
        let long = length-with s.rows n mover in
        let more = length_push (with_at_number s.rows n mover) child in
        elim (cases_lt (length (with_at_number s.rows n mover)) i) [
          | inl after ↦
              let new = row-push_new (with_at_number s.rows n mover) i child (omega (arith, after, to, more)) in
              rw new (record { clear = no_mark_cancelled; long = refl })
          | inr before ↦
              let old = row-push_old (with_at_number s.rows n mover) i child before in
              rw old (set_clear mover refl refl its (clear_before its n run.top.from run.top.to run.own) i from before (ap (λ (q : Row). q.job) (sym old) ∙ owned))
        ]

    grown_good : count + 1 ≤ debt → ((its : IsFollowed o s.rows left debt) → Leads o.program (root_task o.args) o.number o.root grown.rows (its.spent + (count + 1))) → Good o grown 0
    grown_good le leads =
        let long = length-with s.rows n mover in
        let more = length_push (with_at_number s.rows n mover) child in
        followed_next grown refl grown_linked grown_one (λ clear its.
        next_is grown.rows (count + 1) le (omega (arith, long, more))
        (λ i from to. ap (λ (q : Row). q.job) (row-push_old (with_at_number s.rows n mover) i child (omega (arith, to, long))) ∙
        (SameSources-set s.rows n mover run.top.from run.top.to refl refl).jobs i) its (grown_clear its) (leads its))

  not_made : (m g : ℕ) → m ≢ n → is_made_by m (Spawned n g) ≡ false
  not_made m g apart = grind (arith, apart)

  not_made_region : (m : ℕ) → m ≢ n → is_made_by m (Region n) ≡ false
  not_made_region m apart = grind (arith, apart)

  pub spawned_own : (g p x y : ℕ) → count + 1 ≤ debt → instr_at o.program f ≡ Some (Spawn g p x y) → g < 4 →
      Good o (add_row (with_frame s n (next_place f)) (new_row (Spawned n g) (row s.rows n).job (Some slot) (called_frame f p x y) Unstarted)) 0
  spawned_own g p x y le at low =
      let none : (m : ℕ) → m ≢ n → is_made_by m (Spawned n g) ≡ false = λ m apart. not_made m g apart in
      grown_good (next_place f) (called_frame f p x y) (Spawned n g) (Some slot) Unstarted refl none refl le (λ its.
      Leads-spawned o.program (root_task o.args) o.number o.root n s.rows _ _ (grown_made (next_place f) (called_frame f p x y) (Spawned n g) (Some slot) Unstarted refl none refl its) g p x y f count
      its.spent its.from its.to run.back at low
      (grown_frame (next_place f) (called_frame f p x y) (Spawned n g) (Some slot) Unstarted refl none refl) refl refl its.leads)

  pub isolated_own : (d p x y : ℕ) → count + 1 ≤ debt → instr_at o.program f ≡ Some (Isolate d p x y) →
      Good o (add_row (with_frame s n f) (new_row (Region n) (row s.rows n).job (Some slot) (called_frame f p x y) (Live slot (height s.rows slot + 1)))) 0
  isolated_own d p x y le at =
      grown_good f (called_frame f p x y) (Region n) (Some slot) (Live slot (height s.rows slot + 1)) refl not_made_region refl le (λ its.
      Leads-isolated o.program (root_task o.args) o.number o.root n s.rows _ _
      (grown_made f (called_frame f p x y) (Region n) (Some slot) (Live slot (height s.rows slot + 1)) refl not_made_region refl its) d p x y f count its.spent its.from its.to run.back at
      (grown_frame f (called_frame f p x y) (Region n) (Some slot) (Live slot (height s.rows slot + 1)) refl not_made_region refl) refl refl its.leads)

  abbrev done : ℤ → Row
  done v = record (row s.rows n) { frame = f; phase = Done v }

  -- The row ended, and its maker continues if the row is a region.
  ended_good : (t : State) (x : ℕ) (v : ℤ) → count + 1 ≤ debt → instr_at o.program f ≡ Some (Ret x) → register f x ≡ v → has_used_group s n ≡ false → t.jobs ≡ s.jobs → IsLinked t → OneJob t.rows →
      HasEnded o.program o.number n s.rows t.rows v →
      (IsFollowed o s.rows left debt → (k : ℕ) → 1 ≤ k → k ≤ length t.rows → (row t.rows k).job ≡ o.number → AreClear (row t.rows k).marks) → Good o t 0
  ended_good t x v le at gives unused same linked one ended clear =
      followed_next t same linked one (λ clears its.
      next_is t.rows (count + 1) le (omega (arith, ended.long)) ended.jobs its (clear its)
      (Leads-ended o.program (root_task o.args) o.number o.root n s.rows t.rows v ended x f count its.spent its.from its.to run.back at gives children
      (grind (arith, unused)) (grind (arith, unused)) (grind (arith, unused)) (grind (arith, unused)) its.leads))

  plain_good : (x : ℕ) → count + 1 ≤ debt → instr_at o.program f ≡ Some (Ret x) → has_used_group s n ≡ false → ((m : ℕ) → is_region_by m (row s.rows n).kind ≡ false) →
      Good o (on_row s n (λ r. record r { frame = f; phase = Done (register f x) })) 0
  plain_good x le at unused plain =
      let v = register f x in
      let r = done v in
      let here = row-with_same s.rows n r run.top.from run.top.to in
      let sources = SameSources-set s.rows n r run.top.from run.top.to refl refl in
      ended_good (record s { rows = with_at_number s.rows n r }) x v le at refl unused refl (set_linked r refl refl) (set_one r refl refl)
      (record {
        from = run.top.from;
        to = run.top.to;
        own = run.own;
        opened = opened;
        free = free_on_top o.number s.rows slot n run.top;
        long = sources.long;
        kinds = λ k from to. sources.kinds k;
        jobs = λ k from to. sources.jobs k;
        closed = ap (λ (q : Row). is_open q.phase) here;
        value = ap (λ (q : Row). value_in q.phase) here;
        phases = λ k from to apart. ap (λ (q : Row). q.phase) (row-with_other s.rows n k r run.top.from apart);
        marks = λ k from to apart. ap (λ (q : Row). q.marks) (row-with_other s.rows n k r run.top.from apart);
        frames = λ k from to apart other. ap (λ (q : Row). q.frame) (row-with_other s.rows n k r run.top.from apart);
        handed_frame = λ k from to region. absurd (grind (arith, region, plain k));
        only = λ m k region. absurd (grind (arith, region, plain m));
      })
      (λ its. set_clear r refl refl its (clear_before its n run.top.from run.top.to run.own))

  region_good : (x m : ℕ) → count + 1 ≤ debt → instr_at o.program f ≡ Some (Ret x) → has_used_group s n ≡ false → (row s.rows n).kind ≡ Region m →
      Good o (hand_back (on_row s n (λ r. record r { frame = f; phase = Done (register f x) })) (Region m) (register f x)) 0
  region_good x m le at unused kind =
      let v = register f x in
      let r = done v in
      let t = record s { rows = with_at_number s.rows n r } in
      let long = length-with s.rows n r in
      let maker : (1 ≤ m) × (m < n) = rw kind at (is.linked.makers n run.top.from run.top.to) in
      let m_from = maker.0 in
      let m_to : m ≤ length s.rows = omega (arith, maker, run.top.to) in
      let m_there : m ≤ length t.rows = omega (arith, m_to, long) in
      let apart : m ≢ n = omega (arith, maker) in
      let hand : Row → Row = λ q. record q { frame = handed_frame (instr_at (job s.jobs q.job).program q.frame) v q.frame } in
      let q = hand (row t.rows m) in
      let rows = with_at_number t.rows m q in
      let old_m : row t.rows m ≡ row s.rows m = row-with_other s.rows n m r run.top.from apart in
      let at_m : row rows m ≡ hand (row s.rows m) = row-with_same t.rows m q m_from m_there ∙ ap hand old_m in
      let at_n : row rows n ≡ r = row-with_other t.rows m n q m_from (λ e. apart (sym e)) ∙ row-with_same s.rows n r run.top.from run.top.to in
      let at_k : (k : ℕ) → k ≢ n → k ≢ m → row rows k ≡ row s.rows k = λ k from_n from_m. row-with_other t.rows m k q m_from from_m ∙ row-with_other s.rows n k r run.top.from from_n in
      let first = SameSources-set s.rows n r run.top.from run.top.to refl refl in
      let second = SameSources-set t.rows m q m_from m_there refl refl in
      let m_own : (row s.rows m).job ≡ o.number = (let same : (row s.rows m).job ≡ (row s.rows n).job = rw kind at (is.one n run.top.from run.top.to) in same) ∙ run.own in
      let linked = IsLinked-set t m q m_from m_there refl refl (set_linked r refl refl) in
      let one = OneJob-same t.rows rows second (set_linked r refl refl).makers (set_one r refl refl) in
      let is_m : (k : ℕ) → is_region_by k (row s.rows n).kind ≡ true → k ≡ m = λ k region. (let its : (m == k) ≡ true = rw kind at region in grind (arith, its)) in
      let marks : (k : ℕ) → k ≢ n → (row rows k).marks ≡ (row s.rows k).marks = λ k away. elim (cases_eq k m) [
        | inl same ↦ rw same (ap (λ (z : Row). z.marks) at_m)
        | inr off ↦ ap (λ (z : Row). z.marks) (at_k k away off)
      ] in
      let jobs : (k : ℕ) → (row rows k).job ≡ (row s.rows k).job = λ k. second.jobs k ∙ first.jobs k in
      ended_good (record s { rows = rows }) x v le at refl unused refl linked one
      (record {
        from = run.top.from;
        to = run.top.to;
        own = run.own;
        opened = opened;
        free = free_on_top o.number s.rows slot n run.top;
        long = second.long ∙ first.long;
        kinds = λ k from to. second.kinds k ∙ first.kinds k;
        jobs = λ k from to. jobs k;
        closed = ap (λ (z : Row). is_open z.phase) at_n;
        value = ap (λ (z : Row). value_in z.phase) at_n;
        phases = λ k from to away. elim (cases_eq k m) [
          | inl same ↦ rw same (ap (λ (z : Row). z.phase) at_m)
          | inr off ↦ ap (λ (z : Row). z.phase) (at_k k away off)
        ];
        marks = λ k from to away. marks k away;
        frames = λ k from to away other. elim (cases_eq k m) [
          | inl same ↦
              let yes_it_is : is_region_by k (row s.rows n).kind ≡ true = rw (kind, same) (grind arith) in
              absurd (grind (arith, yes_it_is, other))
          | inr off ↦ ap (λ (z : Row). z.frame) (at_k k away off)
        ];
        handed_frame = λ k from to region.
            let same = is_m k region in
            rw same (ap (λ (z : Row). z.frame) at_m ∙ ap (λ j. handed_frame (instr_at (job s.jobs j).program (row s.rows m).frame) v (row s.rows m).frame) m_own ∙
            ap (λ procs. handed_frame (instr_at procs (row s.rows m).frame) v (row s.rows m).frame) is.follows.program);
        only = λ i k region from to away is_one.
            let same = is_m i region in
            only_on_top s.rows slot n m run.top kind k away (rw same at is_one);
      })
      (λ its k from to owned.
      let there : k ≤ length s.rows = omega (arith, to, first.long, second.long) in
      let before : (row s.rows k).job ≡ o.number = sym (jobs k) ∙ owned in
      elim (cases_eq k n) [
        | inl same ↦ rw (same, at_n) (clear_before its n run.top.from run.top.to run.own)
        | inr away ↦ rw (marks k away) (clear_before its k from there before)
      ])

  pub done_own : (x : ℕ) (k : Kind) → count + 1 ≤ debt → instr_at o.program f ≡ Some (Ret x) → has_used_group s n ≡ false → (row s.rows n).kind ≡ k →
      Good o (hand_back (on_row s n (λ r. record r { frame = f; phase = Done (register f x) })) k (register f x)) 0
  done_own x Root le at unused kind = plain_good x le at unused (λ m. rw kind refl)
  done_own x Posted le at unused kind = plain_good x le at unused (λ m. rw kind refl)
  done_own x (Spawned i g) le at unused kind = plain_good x le at unused (λ m. rw kind refl)
  done_own x (Region m) le at unused kind = region_good x m le at unused kind
