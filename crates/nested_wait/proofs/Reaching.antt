-- Turns of a door, one after another.
use Rattle.std.proofs.Common.{◌≡◌, inl, inr, ℕ, ◌+◌, ◌≤◌, Bool, false, List, [], ◌∷◌, ◌++◌, length, refl, sym, arith, subst}
use Rattle.job_language.specs.declared.answers.Moved.{Moved}
use Rattle.job_language.specs.declared.answers.Moved.TheVariants as moved
use Rattle.nested_wait.specs.Turns.{TurnFrom}
use Rattle.nested_wait.specs.Runs.{GoesOn, Leads, Reaches, Ends, most_turns}
use Rattle.nested_wait.specs.declared.attending.Attended.{Attended}
use Rattle.nested_wait.specs.declared.attending.Attended.TheVariants.{Below, Full, Stopped}

module _ {D : Type 0} (pauses : D → Bool → D → Type 0) where
  -- an answer other than Idle and Full
  pub goes_on : (m : Moved) (d : D) → (m ≡ moved.Idle → ⊥) → (m ≡ moved.Full → ⊥) → GoesOn pauses m d d
  goes_on moved.Idle d not_idle not_full = absurd (not_idle refl)
  goes_on moved.Full d not_idle not_full = absurd (not_full refl)
  goes_on moved.Ran d not_idle not_full = refl
  goes_on (moved.Nested n) d not_idle not_full = refl
  goes_on moved.Freed d not_idle not_full = refl
  goes_on moved.Left d not_idle not_full = refl
  goes_on moved.Stale d not_idle not_full = refl

  pub goes_on-idle : (m : Moved) (d e : D) → m ≡ moved.Idle → pauses d false e → GoesOn pauses m d e
  goes_on-idle m d e idle pause = let P : Moved → Type 0 = λ x. GoesOn pauses x d e in subst P (sym idle) pause

  pub goes_on-nested : (m : Moved) (row : ℕ) (d : D) → m ≡ moved.Nested row → GoesOn pauses m d d
  goes_on-nested m row d nested = let P : Moved → Type 0 = λ x. GoesOn pauses x d d in subst P (sym nested) refl

  module _ (turn : D → Moved → D → Type 0) where
    leads_append : (xs ys : List Moved) (d e f : D) → Leads turn pauses xs d e → Leads turn pauses ys e f → Leads turn pauses (xs ++ ys) d f
    leads_append [] ys d e f first then_on = let P : D → Type 0 = λ x. Leads turn pauses ys x f in subst P first then_on
    leads_append (m ∷ xs) ys d e f first then_on = (first.0, first.1, (first.2.0, first.2.1, leads_append xs ys first.1 e f first.2.2 then_on))

    long_append : (xs ys : List Moved) → length (xs ++ ys) ≡ length xs + length ys
    long_append [] ys = omega arith
    long_append (m ∷ xs) ys = omega (arith, long_append xs ys)

    pub starts : (d : D) → Reaches turn pauses 0 d d
    starts d = record { answers = []; leads = refl; long = omega arith }

    pub joins : (m n k : ℕ) (d e f : D) → Reaches turn pauses m d e → Reaches turn pauses n e f → k ≤ m + n → Reaches turn pauses k d f
    joins m n k d e f first then_on within = record {
      answers = first.answers ++ then_on.answers;
      leads = leads_append first.answers then_on.answers d e f first.leads then_on.leads;
      long = omega (arith, first.long, then_on.long, within, long_append first.answers then_on.answers);
    }

    pub one_more : (n : ℕ) (d e f g : D) (m : Moved) → Reaches turn pauses n d e → turn e m f → GoesOn pauses m f g → Reaches turn pauses (n + 1) d g
    one_more n d e f g m so_far takes goes = joins n 1 (n + 1) d e g so_far (record { answers = m ∷ []; leads = (f, g, (takes, goes, refl)); long = omega arith }) (omega arith)

  -- turns from a floor are turns from a lower one
  module _ (turn : D → Moved → D → Type 0) (heights : D → ℕ → Type 0) (low high : ℕ) (rises : low ≤ high) where
    lower : (d e : D) (m : Moved) → TurnFrom turn heights high d m e → TurnFrom turn heights low d m e
    lower d e m takes = (takes.0, (takes.1.0, omega (arith, takes.1.1, rises), takes.1.2))

    leads_lower : (ms : List Moved) (d e : D) → Leads (TurnFrom turn heights high) pauses ms d e → Leads (TurnFrom turn heights low) pauses ms d e
    leads_lower [] d e leads = leads
    leads_lower (m ∷ ms) d e leads = (leads.0, leads.1, (lower d leads.0 m leads.2.0, leads.2.1, leads_lower ms leads.1 e leads.2.2))

    reaches_lower : (n : ℕ) (d e : D) → Reaches (TurnFrom turn heights high) pauses n d e → Reaches (TurnFrom turn heights low) pauses n d e
    reaches_lower n d e reaches = record { answers = reaches.answers; leads = leads_lower reaches.answers d e reaches.leads; long = reaches.long }

    -- what the end of a deeper call means for the outer one
    module _ (n : ℕ) (old d e : D) (so_far : Reaches (TurnFrom turn heights low) pauses n old d) where
      pub ends : (how : Attended) → Ends (TurnFrom turn heights high) heights pauses high how d e → (how ≡ Below → ⊥) → Ends (TurnFrom turn heights low) heights pauses low how old e
      ends Below is deeper = absurd (deeper refl)
      ends Full is deeper = (is.0, (joins (TurnFrom turn heights low) n 0 0 old d is.0 so_far (reaches_lower 0 d is.0 is.1.0) (omega arith), lower is.0 e moved.Full is.1.1))
      ends Stopped is deeper = elim is [
        | inl idle ↦ inl (
          idle.0,
          idle.1,
          (joins (TurnFrom turn heights low) n 0 0 old d idle.0 so_far (reaches_lower 0 d idle.0 idle.2.0) (omega arith), lower idle.0 idle.1 moved.Idle idle.2.1, idle.2.2),
        )
        | inr long ↦ inr (joins (TurnFrom turn heights low) n most_turns most_turns old d e so_far (reaches_lower most_turns d e long) (omega arith))
      ]

      pub passes : Ends (TurnFrom turn heights high) heights pauses high Below d e → Reaches (TurnFrom turn heights low) pauses n old e
      passes is = joins (TurnFrom turn heights low) n 0 n old d e so_far (reaches_lower 0 d e is.0) (omega arith)
