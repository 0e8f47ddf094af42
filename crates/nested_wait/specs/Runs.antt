-- How attending a door runs, and how it ends.
use Rattle.std.specs.Prelude.{ℕ, ◌≡◌, ◌<◌, ◌≤◌, ◌⊎◌, Bool, true, false, List, [], ◌∷◌, length}
use Rattle.job_language.specs.declared.answers.Moved.{Moved}
use Rattle.job_language.specs.declared.answers.Moved.TheVariants as moved
use Rattle.nested_wait.specs.Turns.{TurnFrom}
use Rattle.nested_wait.specs.declared.attending.Attended.{Attended}
use Rattle.nested_wait.specs.declared.attending.Attended.TheVariants.{Below, Full, Stopped}

-- between a turn with this answer and the next one: after Idle a pause that says to go on, and no turn comes after Full
abbrev pub GoesOn : {D : Type 0} → (D → Bool → D → Type 0) → Moved → D → D → Type 0
GoesOn {D = D} pauses moved.Idle d e = pauses d false e
GoesOn {D = D} pauses moved.Full d e = ⊥
GoesOn {D = D} pauses m d e = e ≡ d

-- one turn after another, with these answers
abbrev pub Leads : {D : Type 0} → (D → Moved → D → Type 0) → (D → Bool → D → Type 0) → List Moved → D → D → Type 0
Leads {D = D} turn pauses [] d e = e ≡ d
Leads {D = D} turn pauses (m ∷ ms) d e = (f : D) × (g : D) × (turn d m f × GoesOn pauses m f g × Leads turn pauses ms g e)

-- at least that many turns led there
pub record Reaches {D : Type 0} (turn : D → Moved → D → Type 0) (pauses : D → Bool → D → Type 0) (least : ℕ) (old new : D) : Type 0 where
  pub answers : List Moved
  pub leads : Leads turn pauses answers old new
  pub long : least ≤ length answers

-- how many turns one call counts
abbrev pub most_turns : ℕ
most_turns = 18446744073709551615

-- Below: no turn is taken once the stack is below the floor. Full: the last turn said so. Stopped: after Idle a pause said to stop, or the turns were counted out.
abbrev pub Ends : {D : Type 0} → (turn : D → Moved → D → Type 0) → (heights : D → ℕ → Type 0) → (pauses : D → Bool → D → Type 0) → (floor : ℕ) → Attended → (old new : D) → Type 0
Ends {D = D} turn heights pauses floor Below old new = Reaches turn pauses 0 old new × ((h : ℕ) × (heights new h × (h < floor)))
Ends {D = D} turn heights pauses floor Full old new = (d : D) × (Reaches turn pauses 0 old d × turn d moved.Full new)
Ends {D = D} turn heights pauses floor Stopped old new = ((d : D) × (e : D) × (Reaches turn pauses 0 old d × turn d moved.Idle e × pauses e true new)) ⊎ Reaches turn pauses most_turns old new

-- Each turn is taken while the stack is not below the floor.
abbrev pub Attends : {D : Type 0} → (turn : D → Moved → D → Type 0) → (heights : D → ℕ → Type 0) → (pauses : D → Bool → D → Type 0) → (floor : ℕ) → Attended → (old new : D) → Type 0
Attends {D = D} turn heights pauses floor how old new = Ends (TurnFrom turn heights floor) heights pauses floor how old new
