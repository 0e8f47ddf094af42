-- Histories that grow.
use Rattle.std.proofs.Common.{◌≡◌, inl, inr, ℕ, ◌+◌, ◌<◌, Bool, true, false, List, [], ◌∷◌, ◌++◌, length, refl, sym, ap, ◌∙◌, arith, length-append, zero, suc, get_or}
use Rattle.std.specs.Prelude.{if◌then◌else◌}
use Rattle.std.proofs.lemmas.Bool.{leb-false}
use Rattle.std.proofs.lemmas.List.{map-append, append-nil}
use Rattle.std.proofs.lemmas.List.Elements.{All-append}
use Rattle.job_language.specs.Recorded.{is_entry}
use Rattle.job_language.specs.Tenant.{IsValidTenant}
use Rattle.job_language.specs.declared.answers.Answer.{Answer}
use Rattle.job_language.specs.declared.answers.Answer.TheVariants as answer
use Rattle.job_language.specs.declared.answers.Moved.{Moved}
use Rattle.job_language.specs.declared.answers.Came.{Came}
use Rattle.job_language.specs.declared.answers.Reply.{Reply}
use Rattle.job_language.specs.declared.requests.Request.{Request}
use Rattle.job_language.specs.declared.steps.Entry.{Entry}
use Rattle.job_step.specs.declared.segments.Top.{Top}
use Rattle.job_language.specs.declared.steps.Step.{Step}
use Rattle.job_language.specs.declared.steps.Step.TheVariants as steps
use Rattle.job_language.specs.declared.tenants.Tenant.{Tenant}
use Rattle.tenant_model.specs.State.{State, empty}
use Rattle.tenant_model.specs.Changes.{is_full}
use Rattle.tenant_model.specs.Solo.{step, answers, after}
use Rattle.tenant_model.specs.WellFormed.{IsWellFormed}
use Rattle.tenant_model.proofs.Advancing.{entry_counted, advances, arrives, asked}
use Rattle.tenant_model.proofs.KeptAdvances.{after_kept, empty_kept}
use Rattle.tenant_record.specs.Replayed.{ask_within}
use Rattle.arena_steps.specs.Within.{advance_within, arrive_within}
use Rattle.arena_core.specs.Views.{Commits}
use Rattle.tenant_record.proofs.Taking.{advance_takes, arrive_takes, ask_takes, commit_takes}
use Rattle.tenant_record.specs.History.{steps_of, answers_of, state_after, entries_of, IsHistory, Takes}

-- the state after one step more
after_push : (s : State) (xs : List Step) (x : Step) → after s (xs ++ x ∷ []) ≡ (step (after s xs) x).1
after_push s [] x = refl
after_push s (y ∷ ys) x = after_push (step s y).1 ys x

answers_push : (s : State) (xs : List Step) (x : Step) → answers s (xs ++ x ∷ []) ≡ answers s xs ++ (step (after s xs) x).0 ∷ []
answers_push s [] x = refl
answers_push s (y ∷ ys) x = ap (λ r. (step s y).0 ∷ r) (answers_push (step s y).1 ys x)

pub well_formed : (c : Tenant) (h : List Entry) → IsValidTenant c → IsWellFormed (state_after c h)
well_formed c h valid = after_kept (empty c) (steps_of h) (empty_kept c valid.most_slots)

step_config : (s : State) (x : Step) → IsWellFormed s → (step s x).1.config ≡ s.config
step_config s (steps.Ask r) is = (asked s r).config
step_config s (steps.Arrive slot) is = (arrives s slot).leaves.config
step_config s (steps.Advance slot) is = (advances s slot is).leaves.config

-- The history of an empty tenant is right.
pub first_is : (c : Tenant) → IsHistory c []
first_is c = record { answers_are = refl; all_entries = λ k d within. absurd (omega arith); counted = refl; config = refl; within = omega arith }

-- an entry has room
pub has_room : (c : Tenant) (h : List Entry) (x : Step) (a : Answer) (t : State) → IsHistory c h → Takes (state_after c h) x a t → is_entry a ≡ true → length h < c.steps
has_room c h x a t is (inl made) entry =
    let some = leb-false (state_after c h).config.steps (state_after c h).entries made.1 in
    let limit : (state_after c h).config.steps ≡ c.steps = ap (λ (k : Tenant). k.steps) is.config in
    omega (arith, some, limit, is.counted)
has_room c h x a t is (inr none) entry = absurd (grind (arith, none.0, entry))

-- one entry more
module _ (c : Tenant) (h : List Entry) (e : Entry) (t : State) (valid : IsValidTenant c) (is : IsHistory c h) (entry : is_entry e.answer ≡ true) (room : is_full (state_after c h) ≡ false)
    (made : step (state_after c h) e.step ≡ (e.answer, t)) where
  more_steps : steps_of (h ++ e ∷ []) ≡ steps_of h ++ e.step ∷ []
  more_steps = map-append (λ (x : Entry). x.step) h (e ∷ [])

  more_state : state_after c (h ++ e ∷ []) ≡ t
  more_state = ap (after (empty c)) more_steps ∙ (after_push (empty c) (steps_of h) e.step ∙ ap (λ r. r.1) made)

  more_answers : answers (empty c) (steps_of (h ++ e ∷ [])) ≡ answers_of (h ++ e ∷ [])
  more_answers =
      ap (answers (empty c)) more_steps ∙
      (answers_push (empty c) (steps_of h) e.step ∙
      (ap (λ r. r ++ (step (state_after c h) e.step).0 ∷ []) is.answers_are ∙ (ap (λ r. answers_of h ++ r.0 ∷ []) made ∙ sym (map-append (λ (x : Entry). x.answer) h (e ∷ [])))))

  counts : t.entries ≡ (state_after c h).entries + 1
  counts =
      let given : (step (state_after c h) e.step).0 ≡ e.answer = ap (λ r. r.0) made in
      let enters : is_entry (step (state_after c h) e.step).0 ≡ true = rw given entry in
      let next : (step (state_after c h) e.step).1 ≡ t = ap (λ r. r.1) made in
      ap (λ (s : State). s.entries) (sym next) ∙ (entry_counted (state_after c h) e.step (well_formed c h valid)).entry enters

  same_config : t.config ≡ c
  same_config =
      let next : (step (state_after c h) e.step).1 ≡ t = ap (λ r. r.1) made in
      ap (λ (s : State). s.config) (sym next) ∙ (step_config (state_after c h) e.step (well_formed c h valid) ∙ is.config)

  one_entry : (k : ℕ) (d : Entry) → k < 1 → is_entry (get_or (e ∷ []) k d).answer ≡ true
  one_entry zero d within = entry
  one_entry (suc k) d within = absurd (omega arith)

  more_is : IsHistory c (h ++ e ∷ [])
  more_is =
      let limit : (state_after c h).config.steps ≡ c.steps = ap (λ (k : Tenant). k.steps) is.config in
      let some = leb-false (state_after c h).config.steps (state_after c h).entries room in record {
        answers_are = more_answers;
        all_entries = All-append (λ (x : Entry). is_entry x.answer ≡ true) h (e ∷ []) is.all_entries (λ k d within. one_entry k d within);
        counted = ap (λ (s : State). s.entries) more_state ∙ (counts ∙ omega (arith, is.counted, length-append h (e ∷ [])));
        config = ap (λ (s : State). s.config) more_state ∙ same_config;
        within = omega (arith, some, limit, is.counted, length-append h (e ∷ []));
      }

recorded : (x : Step) (a : Answer) (b : Bool) → is_entry a ≡ b → entries_of x a ≡ (if b then (record { step = x; answer = a }) ∷ [] else [])
recorded x a b is = ap (λ v. if v then (record { step = x; answer = a }) ∷ [] else []) is

-- what is recorded of an answer that is an entry, and of one that is none
pub entry_recorded : (x : Step) (a : Answer) → is_entry a ≡ true → entries_of x a ≡ (record { step = x; answer = a }) ∷ []
entry_recorded x a is = recorded x a true is

pub none_recorded : (x : Step) (a : Answer) → is_entry a ≡ false → entries_of x a ≡ []
none_recorded x a is = recorded x a false is

-- Recording a step with that answer finds room, and leads to the next state.
pub record Records (c : Tenant) (h : List Entry) (x : Step) (a : Answer) (t : State) : Type 0 where
  pub room : is_entry a ≡ true → length h < c.steps
  pub is : IsHistory c (h ++ entries_of x a)
  pub state : state_after c (h ++ entries_of x a) ≡ t

pub records : (c : Tenant) (h : List Entry) (x : Step) (a : Answer) (t : State) → IsValidTenant c → IsHistory c h → Takes (state_after c h) x a t → Records c h x a t
records c h x a t valid is (inl made) =
    let e : Entry = record { step = x; answer = a } in
    record {
      room = λ entry. has_room c h x a t is (inl made) entry;
      is = rw (entry_recorded x a made.0) (more_is c h e t valid is made.0 made.1 made.2);
      state = rw (entry_recorded x a made.0) (more_state c h e t valid is made.0 made.1 made.2);
    }
records c h x a t valid is (inr none) = record {
  room = λ entry. absurd (grind (arith, none.0, entry));
  is = rw (none_recorded x a none.0, append-nil h) is;
  state = rw (none_recorded x a none.0, append-nil h) (sym none.1);
}

module _ (c : Tenant) (h : List Entry) (valid : IsValidTenant c) (is : IsHistory c h) where
  pub advance_records : (b : Bool) (slot : ℕ) (m : Moved) → m ≡ (advance_within b (state_after c h) slot).0 →
      Records c h (steps.Advance slot) (answer.Moved m) (advance_within b (state_after c h) slot).1
  advance_records b slot m same = rw same (records c h (steps.Advance slot) _ _ valid is (advance_takes b (state_after c h) slot (well_formed c h valid)))

  pub arrive_records : (b : Bool) (slot : ℕ) (m : Came) → m ≡ (arrive_within b (state_after c h) slot).0 → Records c h (steps.Arrive slot) (answer.Came m) (arrive_within b (state_after c h) slot).1
  arrive_records b slot m same = rw same (records c h (steps.Arrive slot) _ _ valid is (arrive_takes b (state_after c h) slot (well_formed c h valid)))

  pub ask_records : (b : Bool) (r : Request) (y : Reply) → y ≡ (ask_within b (state_after c h) r).0 → Records c h (steps.Ask r) (answer.Replied y) (ask_within b (state_after c h) r).1
  ask_records b r y same = rw same (records c h (steps.Ask r) _ _ valid is (ask_takes b (state_after c h) r (well_formed c h valid)))

  pub commit_records : (b : Bool) (slot : ℕ) (p : Top) (m : Moved) (t : State) → Commits b (state_after c h) slot p m t → Records c h (steps.Advance slot) (answer.Moved m) t
  commit_records b slot p m t commits = records c h (steps.Advance slot) (answer.Moved m) t valid is (commit_takes b (state_after c h) slot p m t (well_formed c h valid) commits)
