-- Each ask keeps what is known of a serial job, and a new job is known.
use Rattle.std.proofs.Common.{◌≡◌, ◌≢◌, ℕ, zero, suc, ◌+◌, ◌==◌, ◌≤◌, List, [], length, Option, Some, None, Bool, true, false, ◌&&◌, ◌||◌, refl, sym, ap, ◌∙◌, arith, inl, inr, map, pos, unwrap_or}
use Rattle.std.specs.Prelude.{if◌then◌else◌, nat_le, not, slice_index_or, slice_get, is_some}
use Rattle.std.specs.List.{list_any}
use Rattle.std.specs.Option.{option_map_or, option_map}
use Rattle.std.proofs.lemmas.Bool.{cases_eq, cases_lt, cond_both}
use Rattle.std.proofs.lemmas.List.{length_push, length-map}
use Rattle.std.proofs.lemmas.Option.{slice_get-map}
use Rattle.job_language.specs.Brought.{job_of}
use Rattle.job_language.specs.declared.jobs.Job.{Job}
use Rattle.job_language.specs.declared.requests.Request.{Request}
use Rattle.job_language.specs.declared.requests.Request.TheVariants.{Hello, Submit, Execute, Poll, Collect, Cancel, Cells, Arena, Retire, Release, Take}
use Rattle.job_language.specs.declared.answers.Reply.{Reply}
use Rattle.job_language.specs.declared.answers.Status.{Status}
use Rattle.job_language.specs.declared.answers.Status.TheVariants.{Running, Cancelled, Complete, Fault}
use Rattle.job_step.specs.Frame.{new_frame}
use Rattle.tenant_model.specs.declared.rows.Kind.TheVariants.{Root}
use Rattle.tenant_model.specs.declared.rows.Phase.{Phase}
use Rattle.tenant_model.specs.declared.rows.Phase.TheVariants.{Unstarted, Live}
use Rattle.tenant_model.specs.declared.rows.Row.{Row}
use Rattle.tenant_model.specs.declared.works.Work.{Work}
use Rattle.tenant_model.specs.declared.works.TheConstants.{MAX_JOBS}
use Rattle.thread_cells.specs.Cells.{no_cells}
use Rattle.tenant_model.specs.Serial.{root_task, new_task}
use Rattle.serial_law.specs.SerialValues.{number_made}
use Rattle.tenant_model.specs.State.{State, row, job, at_number, with_at_number}
use Rattle.tenant_model.specs.Walks.{is_open, is_job_cancelled}
use Rattle.tenant_model.specs.Changes.{new_row, on_job, is_full, is_row_limit_met}
use Rattle.tenant_model.specs.Linked.{IsLinked}
use Rattle.tenant_model.specs.Asks.{add_job, new_job, free_slot, unless_limit, submit, submit_placed, collect, cancel_by_request, retire, retired_work, released, reply_to, ask, is_hello, known_job}
use Rattle.tenant_model.specs.Asks.{has_outcome, current_jobs, status}
use Rattle.tenant_model.proofs.Changed.{at_number-push_old, at_number-push_new, at_number-with_same, row-push_old, row-push_new, length-with}
use Rattle.tenant_model.proofs.Linked.{IsLinked-job, IsLinked-more_jobs}
use Rattle.tenant_model.proofs.UnstuckSteps.{known_there}
use Rattle.serial_law.proofs.SerialNow.{fold_to, fold_to-rest, is_made_by, now, cost_of, cost_for, Leads}
use Rattle.serial_law.proofs.SerialMade.{now-childless}
use Rattle.serial_law.proofs.SerialMoves.{SameJob}
use Rattle.serial_law.proofs.SerialOwn.{no_mark_cancelled}
use Rattle.serial_law.proofs.SerialFollows.{Origin, OneJob, Good, SameWork, OneJob-push, Follows-same, settle_good, entry_good, other_push}
use Rattle.serial_law.proofs.SerialFaults.{other_work}

-- a job as it comes
abbrev pub origin_of : State → Job → Origin
origin_of s b = record { number = length s.jobs + 1; root = length s.rows + 1; program = b.program; args = b.args; fuel = b.fuel }

abbrev root_row : State → Job → Phase → Row
root_row s b phase = new_row Root (length s.jobs + 1) None (new_frame 0 (slice_index_or b.args 0 (pos 0)) (slice_index_or b.args 1 (pos 0))) phase

module _ (s : State) (b : Job) (phase : Phase) (linked : IsLinked s) (one : OneJob s.rows) where
  added_linked : IsLinked (add_job s b phase)
  added_linked = IsLinked-job s (new_job s b) (root_row s b phase) linked refl refl

  added_one : OneJob (add_job s b phase).rows
  added_one = OneJob-push s.rows (root_row s b phase) linked.makers one tt

  -- a new job leads to its value by all that it executes
  born_leads : is_open phase ≡ true → Leads b.program (root_task b.args) (length s.jobs + 1) (length s.rows + 1) (add_job s b phase).rows 0
  born_leads opened = record {
    leads = λ values costs given.
        let j = length s.jobs + 1 in
        let rows = (add_job s b phase).rows in
        let r = root_row s b phase in
        let long = length_push s.rows r in
        let new : row rows (length s.rows + 1) ≡ r = row-push_new s.rows (length s.rows + 1) r refl in
        let old : (k : ℕ) → 1 ≤ k → k ≤ length s.rows → (row rows k).job ≢ j = λ k from to own.
        let before : (row s.rows k).job ≡ j = ap (λ (q : Row). q.job) (sym (row-push_old s.rows k r to)) ∙ own in
        absurd (omega (arith, (linked.jobs k from to).1, before)) in
        let childless : (k : ℕ) → 1 ≤ k → k ≤ length rows → (row rows k).job ≡ j → is_made_by (length s.rows + 1) (row rows k).kind ≡ false = λ k from to own. elim (cases_lt (length s.rows) k) [
          | inl after ↦ ap (λ (q : Row). is_made_by (length s.rows + 1) q.kind) (row-push_new s.rows k r (omega (arith, after, to, long)))
          | inr before ↦ absurd (old k from before own)
        ] in
        let here = given.each (length s.rows + 1) (omega arith) (omega (arith, long)) (ap (λ (q : Row). q.job) new) (ap (λ (q : Row). is_open q.phase) new ∙ opened) in
        let task : now b.program j rows values (length s.rows + 1) ≡ root_task b.args = now-childless j (length s.rows + 1) rows childless b.program values ∙ ap (λ (q : Row). new_task q.frame) new in
        let f : ℕ → ℕ → ℕ = λ k x. x + cost_of j costs k (row rows k) in
        let last : suc (length s.rows) ≡ length s.rows + 1 = omega arith in
        let mine : (j == j) ≡ true = grind arith in
        let none : fold_to f 0 (length s.rows) ≡ 0 = fold_to-rest f 0 0 (length s.rows) (omega arith) (λ k x from to.
        let other : ((row rows k).job == j) ≡ false = grind (arith, old k from to) in
        let nothing : cost_of j costs k (row rows k) ≡ 0 = rw other (no_cost (is_open (row rows k).phase) (costs k)) in
        omega (arith, nothing)) in
        let cost : cost_for j rows costs ≡ costs (length s.rows + 1) =
        ap (fold_to f 0) (long ∙ sym last) ∙
        ap (λ k. fold_to f 0 (length s.rows) + cost_of j costs k (row rows k)) last ∙
        ap (λ (q : Row). fold_to f 0 (length s.rows) + cost_of j costs (length s.rows + 1) q) new ∙
        rw (none, opened, mine) (omega arith) in
        let total : 0 + cost_for j rows costs ≡ costs (length s.rows + 1) = omega (arith, cost) in
        rw (total, new, opened) (rw task at here);
  }
    where
      no_cost : (c : Bool) (n : ℕ) → (if c && false then n else 0) ≡ 0
      no_cost true n = refl
      no_cost false n = refl

  -- a new job is known
  pub born_good : is_open phase ≡ true → Good (origin_of s b) (add_job s b phase) 0
  born_good opened =
      let r = root_row s b phase in
      let rows = (add_job s b phase).rows in
      let long = length_push s.rows r in
      let new : row rows (length s.rows + 1) ≡ r = row-push_new s.rows (length s.rows + 1) r refl in
      let work : job (add_job s b phase).jobs (length s.jobs + 1) ≡ new_job s b = at_number-push_new s.jobs _ (length s.jobs + 1) (new_job s b) refl in
      let only : (k : ℕ) → 1 ≤ k → k ≤ length rows → (row rows k).job ≡ length s.jobs + 1 → row rows k ≡ r = λ k from to own. elim (cases_lt (length s.rows) k) [
        | inl after ↦ row-push_new s.rows k r (omega (arith, after, to, long))
        | inr before ↦
            let its : (row s.rows k).job ≡ length s.jobs + 1 = ap (λ (q : Row). q.job) (sym (row-push_old s.rows k r before)) ∙ own in
            absurd (omega (arith, (linked.jobs k from before).1, its))
      ] in
      record {
        linked = added_linked;
        one = added_one;
        follows = record {
          to = omega (arith, length_push s.jobs (new_job s b));
          program = ap (λ (w : Work). w.program) work;
          root = ap (λ (w : Work). w.root) work;
          follows = λ some clear.
              let left : (job (add_job s b phase).jobs (length s.jobs + 1)).fuel ≡ b.fuel = ap (λ (w : Work). w.fuel) work in
              record {
                from = omega arith;
                to = omega (arith, long);
                own = ap (λ (q : Row). q.job) new;
                marks = λ k from to own g. rw (only k from to own) (no_mark_cancelled g);
                groups = λ k from to own. rw (only k from to own) refl;
                spent = 0;
                fuel = omega (arith, left);
                leads = born_leads opened;
              };
        };
      }

  -- and leaves what is known of others
  pub added_good : (o : Origin) → Good o s 0 → Good o (add_job s b phase) 0
  added_good o is =
      let old : job (add_job s b phase).jobs o.number ≡ job s.jobs o.number = at_number-push_old s.jobs _ o.number (new_job s b) is.follows.to in
      record {
        linked = added_linked;
        one = added_one;
        follows = Follows-same o s.rows _ s.jobs _ 0 (omega (arith, length_push s.jobs (new_job s b)))
            (record {
              program = ap (λ (w : Work). w.program) old;
              root = ap (λ (w : Work). w.root) old;
              goes_on = λ clear. ap is_job_cancelled (sym old) ∙ clear;
              fuel =
                  λ clear. ap (λ (w : Work). w.fuel) old;
            })
            (λ clear before. other_push o.number s.rows (root_row s b phase) (let low = is.follows.to in omega (arith, low))) is.follows;
      }

abbrev KeepsReply : Origin → Reply × State → Type 0
KeepsReply o r = Good o r.1 0

either_reply : (o : Origin) (c : Bool) (r q : Reply × State) → (c ≡ true → KeepsReply o r) → (c ≡ false → KeepsReply o q) → KeepsReply o (if c then r else q)
either_reply o c r q if_true if_false = cond_both c r q (KeepsReply o) if_true if_false

same_rows : (j : ℕ) (rows : List Row) → SameJob j rows rows
same_rows j rows = record {
  long = omega arith;
  kinds = λ k f t. refl;
  jobs = λ k f t. refl;
  frames = λ k f t own. refl;
  marks = λ k f t own. refl;
  opens = λ k f t own. refl;
  values = λ k f t own. refl;
  news = λ k after t. absurd (omega (arith, after, t));
}

retired_same : (q : Option Work) → SameWork (unwrap_or q (job [] 0)) (unwrap_or (option_map retired_work q) (job [] 0))
retired_same None = record { program = refl; root = refl; goes_on = λ clear. clear; fuel = λ clear. refl }
retired_same (Some w) = record { program = refl; root = refl; goes_on = λ clear. clear; fuel = λ clear. refl }

retired_job : (jobs : List Work) (k : ℕ) → SameWork (job jobs k) (job (map retired_work jobs) k)
retired_job jobs zero = record { program = refl; root = refl; goes_on = λ clear. clear; fuel = λ clear. refl }
retired_job jobs (suc k) = rw (slice_get-map retired_work jobs k) (retired_same (slice_get jobs k))

module _ (o : Origin) (s : State) (is : Good o s 0) where
  limited_reply : (r : Reply × State) → KeepsReply o r → KeepsReply o (unless_limit s r)
  limited_reply r made = either_reply o (nat_le MAX_JOBS (current_jobs s)) _ _ (λ _. entry_good o s 0 is) (λ _. either_reply o (is_row_limit_met s) _ r (λ _. entry_good o s 0 is) (λ _. made))

  submitted_good : (b : Job) → KeepsReply o (submit s b)
  submitted_good b = entry_good o (add_job s b Unstarted) 0 (added_good s b Unstarted is.linked is.one o is)

  executed_good : (b : Job) (q : Option ℕ) → KeepsReply o (submit_placed s b q)
  executed_good b None = submitted_good b
  executed_good b (Some slot) = entry_good o (add_job s b (Live slot 1)) 0 (added_good s b (Live slot 1) is.linked is.one o is)

  of_job_good : (q : Option Work) (next : Work → Reply × State) (r : Reply × State) → KeepsReply o r → ((w : Work) → q ≡ Some w → KeepsReply o (next w)) → KeepsReply o (option_map_or next q r)
  of_job_good None next r none some = none
  of_job_good (Some w) next r none some = some w refl

  collected_good : (j : ℕ) (how : Status) → KeepsReply o (collect s j how)
  collected_good j Running = is
  collected_good j Cancelled = entry_good o s 0 is
  collected_good j (Complete v) = entry_good o s 0 is
  collected_good j (Fault f) = entry_good o s 0 is

  -- a job cancelled by request
  cancel_good : (i : ℕ) → 1 ≤ i → i ≤ length s.jobs → Good o (on_job s i (λ v. record v { cancelled = true })) 0
  cancel_good i from to =
      let w = record (job s.jobs i) { cancelled = true } in
      let jobs = with_at_number s.jobs i w in
      let long = length-with s.jobs i w in
      let here : job jobs i ≡ w = at_number-with_same s.jobs _ i w from to in
      let same : SameWork (job s.jobs o.number) (job jobs o.number) = elim (cases_eq o.number i) [
        | inl own ↦
            let is_it : job jobs o.number ≡ w = ap (job jobs) own ∙ here in
            let old : job s.jobs i ≡ job s.jobs o.number = ap (job s.jobs) (sym own) in
            let gone : is_job_cancelled (job jobs o.number) ≡ true = ap is_job_cancelled is_it in
            record {
              program = ap (λ (v : Work). v.program) is_it ∙ ap (λ (v : Work). v.program) old;
              root = ap (λ (v : Work). v.root) is_it ∙ ap (λ (v : Work). v.root) old;
              goes_on = λ clear. absurd (grind (arith, gone, clear));
              fuel = λ clear. absurd (grind (arith, gone, clear));
            }
        | inr other ↦ other_work s.jobs i o.number w from other
      ] in
      record {
        linked = IsLinked-more_jobs s jobs (omega (arith, long)) is.linked;
        one = is.one;
        follows = Follows-same o s.rows s.rows s.jobs jobs 0 (omega (arith, long)) same (λ clear before. same_rows o.number s.rows) is.follows;
      }

  cancelled_good : (j : ℕ) (w : Work) → known_job s j ≡ Some w → KeepsReply o (cancel_by_request s j w)
  cancelled_good j w known =
      let there = known_there s.jobs j (at_number s.jobs j) w refl known in
      either_reply o (is_job_cancelled w || has_outcome s.rows j) _ _ (λ _. entry_good o s 0 is) (λ _. entry_good o _ 0 (cancel_good j there.0 there.1))

  retired_good : KeepsReply o (retire s)
  retired_good = either_reply o (list_any (λ (r : Row). is_open r.phase) s.rows) _ _ (λ _. entry_good o s 0 is) (λ _.
      let jobs = map retired_work s.jobs in
      let linked = IsLinked-more_jobs s jobs (omega (arith, length-map s.jobs retired_work)) is.linked in
      settle_good o (record s { jobs = jobs; cells = no_cells; entries = s.entries + 1; epoch = s.epoch + 1 }) 0 (record {
        linked = record { makers = linked.makers; jobs = linked.jobs; epoch = omega (arith, is.linked.epoch) };
        one = is.one;
        follows = Follows-same o s.rows s.rows s.jobs jobs 0 (omega (arith, length-map s.jobs retired_work)) (retired_job s.jobs o.number) (λ clear before. same_rows o.number s.rows) is.follows;
      }))

  -- a job that is released
  released_good : (i : ℕ) (w : Work) → known_job s i ≡ Some w → Good o (released s i) 0
  released_good i known_w known =
      let there = known_there s.jobs i (at_number s.jobs i) known_w refl known in
      let w = retired_work (job s.jobs i) in
      let jobs = with_at_number s.jobs i w in
      let long = length-with s.jobs i w in
      let here : job jobs i ≡ w = at_number-with_same s.jobs _ i w there.0 there.1 in
      let same : SameWork (job s.jobs o.number) (job jobs o.number) = elim (cases_eq o.number i) [
        | inl own ↦
            let is_it : job jobs o.number ≡ retired_work (job s.jobs o.number) = ap (job jobs) own ∙ here ∙ ap (λ k. retired_work (job s.jobs k)) (sym own) in
            rw is_it (record { program = refl; root = refl; goes_on = λ clear. clear; fuel = λ clear. refl })
        | inr other ↦ other_work s.jobs i o.number w there.0 other
      ] in
      entry_good o (on_job s i retired_work) 0 (record {
        linked = IsLinked-more_jobs s jobs (omega (arith, long)) is.linked;
        one = is.one;
        follows = Follows-same o s.rows s.rows s.jobs jobs 0 (omega (arith, long)) same (λ clear before. same_rows o.number s.rows) is.follows;
      })

  reply_good : (r : Request) → KeepsReply o (reply_to s r)
  reply_good (Hello name) = is
  reply_good (Submit b) = limited_reply _ (submitted_good b)
  reply_good (Execute b) = limited_reply _ (executed_good b (free_slot s))
  reply_good (Poll j) = of_job_good (known_job s j) _ _ (entry_good o s 0 is) (λ w known. entry_good o s 0 is)
  reply_good (Collect j) = of_job_good (known_job s j) _ _ (entry_good o s 0 is) (λ w known. collected_good j (status s.rows j w))
  reply_good (Cancel j) = of_job_good (known_job s j) _ _ (entry_good o s 0 is) (λ w known. cancelled_good j w known)
  reply_good (Cells k) = entry_good o s 0 is
  reply_good Arena = entry_good o s 0 is
  reply_good Retire = retired_good
  reply_good (Release j) = of_job_good (known_job s j) _ _ (entry_good o s 0 is) (λ w known. either_reply o (has_outcome s.rows j) _ _ (λ _. released_good j w known) (λ _. entry_good o s 0 is))
  reply_good (Take j) = of_job_good (known_job s j) _ _ (entry_good o s 0 is) (λ w known. either_reply o (has_outcome s.rows j) _ _ (λ _. released_good j w known) (λ _. is))

  -- an ask
  pub ask_good : (r : Request) → KeepsReply o (ask s r)
  ask_good r = either_reply o (is_full s && not (is_hello r)) _ _ (λ _. is) (λ _. reply_good r)

-- What an ask leaves that makes job j of b.
abbrev Bears : State → Job → ℕ → Reply × State → Type 0
Bears s b j r = number_made r.0 ≡ Some j → (j ≡ length s.jobs + 1) × Good (origin_of s b) r.1 0

module _ (s : State) (linked : IsLinked s) (one : OneJob s.rows) where
  either_bears : (b : Job) (j : ℕ) (c : Bool) (r q : Reply × State) → Bears s b j r → Bears s b j q → Bears s b j (if c then r else q)
  either_bears b j true r q if_true if_false = if_true
  either_bears b j false r q if_true if_false = if_false

  bears_one : (b : Job) (j : ℕ) (r : Reply × State) → number_made r.0 ≡ Some (length s.jobs + 1) → Good (origin_of s b) r.1 0 → Bears s b j r
  bears_one b j r some good = λ made. (ap (λ q. unwrap_or q 0) (sym made ∙ some), good)

  submit_bears : (b : Job) (j : ℕ) → Bears s b j (submit s b)
  submit_bears b j = bears_one b j (submit s b) refl (entry_good (origin_of s b) (add_job s b Unstarted) 0 (born_good s b Unstarted linked one refl))

  execute_bears : (b : Job) (j : ℕ) (q : Option ℕ) → Bears s b j (submit_placed s b q)
  execute_bears b j None = submit_bears b j
  execute_bears b j (Some slot) = bears_one b j (submit_placed s b (Some slot)) refl (entry_good (origin_of s b) (add_job s b (Live slot 1)) 0 (born_good s b (Live slot 1) linked one refl))

  limited_bears : (b : Job) (j : ℕ) (r : Reply × State) → Bears s b j r → Bears s b j (unless_limit s r)
  limited_bears b j r made = either_bears b j (nat_le MAX_JOBS (current_jobs s)) _ _ (λ told. absurd (grind (arith, ap is_some told)))
      (either_bears b j (is_row_limit_met s) _ r (λ told. absurd (grind (arith, ap is_some told))) made)

  reply_bears : (b : Job) (j : ℕ) (r : Request) → job_of r ≡ Some b → Bears s b j (reply_to s r)
  reply_bears b j (Submit c) is = let same : c ≡ b = ap (λ q. unwrap_or q c) is in rw (← same) (limited_bears c j _ (submit_bears c j))
  reply_bears b j (Execute c) is = let same : c ≡ b = ap (λ q. unwrap_or q c) is in rw (← same) (limited_bears c j _ (execute_bears c j (free_slot s)))
  reply_bears b j (Hello name) is = absurd (grind (arith, ap is_some is))
  reply_bears b j (Poll k) is = absurd (grind (arith, ap is_some is))
  reply_bears b j (Collect k) is = absurd (grind (arith, ap is_some is))
  reply_bears b j (Cancel k) is = absurd (grind (arith, ap is_some is))
  reply_bears b j (Cells k) is = absurd (grind (arith, ap is_some is))
  reply_bears b j Arena is = absurd (grind (arith, ap is_some is))
  reply_bears b j Retire is = absurd (grind (arith, ap is_some is))
  reply_bears b j (Release k) is = absurd (grind (arith, ap is_some is))
  reply_bears b j (Take k) is = absurd (grind (arith, ap is_some is))

  -- an ask that makes a job
  pub ask_bears : (b : Job) (j : ℕ) (r : Request) → job_of r ≡ Some b → Bears s b j (ask s r)
  ask_bears b j r is = either_bears b j (is_full s && not (is_hello r)) _ _ (λ told. absurd (grind (arith, ap is_some told))) (reply_bears b j r is)
