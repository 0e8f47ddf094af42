-- Steps where the history or the caller may have no room for one more entry.
use Rattle.std.proofs.Common.{◌≡◌, Bool, true, false, not, ◌||◌, nat_le, inl, inr, refl, sym, ap, ◌∙◌, arith, subst}
use Rattle.std.proofs.lemmas.Bool.{and_right}
use Rattle.job_language.specs.declared.answers.Answer.TheVariants as answer
use Rattle.job_language.specs.declared.answers.Moved.{Moved}
use Rattle.job_language.specs.declared.answers.Moved.TheVariants as moved
use Rattle.job_language.specs.Recorded.{is_entry}
use Rattle.job_language.specs.declared.tenants.Tenant.{Tenant}
use Rattle.tenant_model.specs.State.{State}
use Rattle.tenant_model.specs.Changes.{is_full}
use Rattle.tenant_model.specs.Advance.{would_be_recorded, unless_full}
use Rattle.tenant_model.proofs.Entries.{unless_full-room, unless_full-full}
pub use Rattle.tenant_model.proofs.Entries.{IsEntry, is_recorded, after_run_enters, nest_enters}
use Rattle.tenant_model.proofs.Within.{either_way}
use Rattle.arena_rows.specs.Held.{Held}
use Rattle.arena_rows.specs.Represents.{Holds, Rests, Gives}
use Rattle.arena_steps.specs.Within.{within}

-- whether the history is full, as the parts say
pub full_told : (a : Held) (s : State) → Holds a s → nat_le a.config.steps a.entries ≡ is_full s
full_told a s is = ap (λ (t : Tenant). nat_le t.steps a.entries) is.config ∙ ap (nat_le s.config.steps) is.entries

-- an entry that has no room
pub within-full : (has_room : Bool) (s : State) (r : Moved × State) → IsEntry r → (not has_room || is_full s) ≡ true → within has_room s (unless_full s r) ≡ (moved.Full, s)
within-full true s r enters full = ap (within true s) (unless_full-full s r (is_recorded r.0 enters) full)
within-full false s r enters lacks = elim (either_way (is_full s)) [
  | inl full ↦ ap (within false s) (unless_full-full s r (is_recorded r.0 enters) full)
  | inr room ↦
      let refused : within false s r ≡ (moved.Full, s) = rw enters refl in
      ap (within false s) (unless_full-room s r room) ∙ refused
]

-- a step that has room for an entry
pub within-open : (s : State) (r : Moved × State) → within true s r ≡ r
within-open s r = rw (and_right (is_entry (answer.Moved r.0)) false refl) refl

pub within-room : (has_room : Bool) (s : State) (r : Moved × State) → (not has_room || is_full s) ≡ false → within has_room s (unless_full s r) ≡ r
within-room true s r room = ap (within true s) (unless_full-room s r room) ∙ within-open s r
within-room false s r room = absurd (grind (arith, room))

-- what such a step gives
module _ (b : Held) (has_room : Bool) (s : State) (q r : Moved × State) (is : q ≡ r) where
  pub gives-full : IsEntry r → (not has_room || is_full s) ≡ true → Rests b s → Gives b moved.Full (within has_room s (unless_full s q))
  gives-full enters lacks rests =
      let refused : within has_room s (unless_full s q) ≡ (moved.Full, s) = ap (λ p. within has_room s (unless_full s p)) is ∙ within-full has_room s r enters lacks in
      let quiet : Gives b moved.Full (moved.Full, s) = (refl, rests) in
      subst (Gives b moved.Full) (sym refused) quiet

  pub gives-room : (m : Moved) → (not has_room || is_full s) ≡ false → Gives b m r → Gives b m (within has_room s (unless_full s q))
  gives-room m room gives =
      let all : within has_room s (unless_full s q) ≡ r = ap (λ p. within has_room s (unless_full s p)) is ∙ within-room has_room s r room in
      subst (Gives b m) (sym all) gives

-- what one gives that is no entry
pub gives-quiet : (b : Held) (has_room : Bool) (s : State) (q : Moved × State) (m : Moved) → q ≡ (m, s) → would_be_recorded m ≡ false → is_entry (answer.Moved m) ≡ false → Rests b s →
    Gives b m (within has_room s (unless_full s q))
gives-quiet b has_room s q m is quiet no_entry rests =
    let same : within has_room s (unless_full s (m, s)) ≡ (m, s) = rw (quiet, no_entry) refl in
    let all : within has_room s (unless_full s q) ≡ (m, s) = ap (λ p. within has_room s (unless_full s p)) is ∙ same in
    let here : Gives b m (m, s) = (refl, rests) in
    subst (Gives b m) (sym all) here
