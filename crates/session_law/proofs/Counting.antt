-- An advance of a stack that is not empty is an entry, unless it is Idle or Full; and an entry finds room.
use Rattle.std.proofs.Common.{◌≡◌, ◌≢◌, ℕ, ◌+◌, ◌<◌, ◌≤◌, Bool, true, false, ◌&&◌, ◌⊎◌, inl, inr, Option, Some, None, nat_lt, refl, arith}
use Rattle.std.specs.Prelude.{if◌then◌else◌}
use Rattle.std.proofs.lemmas.Bool.{cond_both}
use Rattle.job_language.specs.declared.answers.Answer.TheVariants as answer
use Rattle.job_language.specs.declared.answers.Moved.{Moved}
use Rattle.job_language.specs.declared.answers.Moved.TheVariants as moved
use Rattle.job_language.specs.declared.steps.Step.TheVariants.{Advance}
use Rattle.job_language.specs.Recorded.{is_entry}
use Rattle.job_step.specs.declared.runs.Run.{Run}
use Rattle.tenant_model.specs.State.{State}
use Rattle.tenant_model.specs.Walks.{height, top, pick}
use Rattle.tenant_model.specs.Changes.{is_full, nest, entry}
use Rattle.tenant_model.specs.Advance.{advance, advance_top, advance_run, begin, nest_pick, after_run, is_idle_wait, run_on, unless_full, would_be_recorded}
use Rattle.tenant_model.specs.Told.{is_left}
use Rattle.tenant_model.specs.WellFormed.{IsWellFormed}
use Rattle.tenant_model.proofs.Advancing.{advances, entry_counted}
use Rattle.arena_steps.proofs.Rooms.{after_run_enters, nest_enters}

-- what an advance may say that is no entry
abbrev is_quiet : Moved → Bool
is_quiet moved.Idle = true
is_quiet moved.Full = true
is_quiet moved.Left = true
is_quiet m = false

abbrev EntersOrNot : Moved × State → Type 0
EntersOrNot r = (is_entry (answer.Moved r.0) ≡ true) ⊎ (is_quiet r.0 ≡ true)

idle_or_left : (b : Bool) → is_quiet (if b then moved.Idle else moved.Left) ≡ true
idle_or_left true = refl
idle_or_left false = refl

begins : (s : State) (slot : ℕ) (o : Option ℕ) → EntersOrNot (begin s slot o)
begins s slot None = inr (idle_or_left (nat_lt slot s.config.reserved))
begins s slot (Some m) = cond_both (nat_lt slot s.config.reserved) (moved.Idle, s) (moved.Nested m, entry (nest s slot m)) EntersOrNot (λ _. inr refl) (λ _. inl refl)

nests : (s : State) (slot n : ℕ) (o : Option ℕ) → EntersOrNot (nest_pick s slot n o)
nests s slot n None = inr refl
nests s slot n (Some m) = inl (nest_enters s slot n m)

runs : (s : State) (slot n : ℕ) (r : Run) → EntersOrNot (advance_run s slot n r)
runs s slot n r =
    cond_both (is_idle_wait s n r.count r.stop) (nest_pick s slot n (pick s slot)) (after_run s slot n r.count r.end r.stop) EntersOrNot
    (λ _. nests s slot n (pick s slot)) (λ _. inl (after_run_enters s slot n r.count r.end r.stop))

tops : (s : State) (slot : ℕ) (o : Option ℕ) → EntersOrNot (advance_top s slot o)
tops s slot None = begins s slot (pick s slot)
tops s slot (Some n) = runs s slot n (run_on s slot n)

-- an entry, for which there is room, or no entry
abbrev FindsRoom : State → Moved × State → Type 0
FindsRoom s r = ((is_entry (answer.Moved r.0) ≡ true) × (is_full s ≡ false)) ⊎ (is_quiet r.0 ≡ true)

entry_counts : (m : Moved) → is_entry (answer.Moved m) ≡ true → would_be_recorded m ≡ true
entry_counts moved.Ran enters = refl
entry_counts (moved.Nested n) enters = refl
entry_counts moved.Freed enters = refl
entry_counts moved.Left enters = absurd (grind (arith, enters))
entry_counts moved.Idle enters = absurd (grind (arith, enters))
entry_counts moved.Stale enters = refl
entry_counts moved.Full enters = refl

has_room : (s : State) (r : Moved × State) → (would_be_recorded r.0 && is_full s) ≡ false → EntersOrNot r → FindsRoom s r
has_room s r free is = elim is [
  | inl enters ↦
      let would = entry_counts r.0 enters in
      let room : is_full s ≡ false = rw would at free in
      inl (enters, room)
  | inr quiet ↦ inr quiet
]

finds_room : (s : State) (slot : ℕ) → FindsRoom s (advance s slot)
finds_room s slot =
    let r = advance_top s slot (top s.rows slot) in
    cond_both (nat_lt slot s.config.slots) (unless_full s r) (moved.Idle, s) (FindsRoom s)
    (λ _. cond_both (would_be_recorded r.0 && is_full s) (moved.Full, s) r (FindsRoom s) (λ _. inr refl) (λ free. has_room s r free (tops s slot (top s.rows slot))))
    (λ _. inr refl)

left_else : (m : Moved) → is_quiet m ≡ true → m ≢ moved.Idle → m ≢ moved.Full → is_left (answer.Moved m) ≡ true
left_else moved.Idle quiet idle full = absurd (idle refl)
left_else moved.Full quiet idle full = absurd (full refl)
left_else moved.Left quiet idle full = refl
left_else moved.Ran quiet idle full = absurd (grind (arith, quiet))
left_else (moved.Nested n) quiet idle full = absurd (grind (arith, quiet))
left_else moved.Freed quiet idle full = absurd (grind (arith, quiet))
left_else moved.Stale quiet idle full = absurd (grind (arith, quiet))

-- what an advance does that is an entry
pub record IsCounted (s : State) (t : State) : Type 0 where
  pub room : s.entries < s.config.steps
  pub entries : t.entries ≡ s.entries + 1
  pub config : t.config ≡ s.config

-- A stack that is not empty is not left, so its advance is an entry or says that it can't go on.
pub is_counted : (s : State) (slot : ℕ) → IsWellFormed s → 1 ≤ height s.rows slot → (advance s slot).0 ≢ moved.Idle → (advance s slot).0 ≢ moved.Full → IsCounted s (advance s slot).1
is_counted s slot is high idle full = elim (finds_room s slot) [
  | inl enters ↦ record {
    room = (let room = enters.1 in grind (arith, room));
    entries = (entry_counted s (Advance slot) is).entry enters.0;
    config = (advances s slot is).leaves.config;
  }
  | inr quiet ↦
      let none = ((advances s slot is).left (left_else (advance s slot).0 quiet idle full)).0 in
      absurd (omega (arith, high, none))
]
