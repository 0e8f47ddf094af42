-- Why no registers are chosen for a function.
use Rattle.std.specs.Prelude.{◌≡◌, ℕ, ◌<◌, ◌≤◌, Bool, List, [], slice_index_or, count_by}
use Rattle.job_language.specs.Program.{IsValidProc}
use Rattle.source_language.specs.declared.syntax.Function.{Function}
use Rattle.job_compiler.specs.Code.{function_code}
use Rattle.job_compiler.specs.Refusals.{HasCode, IsRefused}
use Rattle.register_choice.specs.declared.compile.ChoiceRefusal.{ChoiceRefusal}
use Rattle.register_choice.specs.declared.compile.ChoiceRefusal.TheVariants.{Refused, Crowded, NoChoice}
use Rattle.register_choice.specs.Reasons.{IsCrowded}

-- The first place in whose row there are more registers than a frame has, if there is one.
abbrev pub IsFirstCrowd : List (List Bool) → ChoiceRefusal → Type 0
IsFirstCrowd rows (Refused r) = ⊥
IsFirstCrowd rows (Crowded crowd) =
    (8 < count_by (λ b. b) crowd.live) × (crowd.live ≡ slice_index_or rows crowd.place []) × ((k : ℕ) → k < crowd.place → count_by (λ b. b) (slice_index_or rows k []) ≤ 8)
IsFirstCrowd rows NoChoice = (k : ℕ) → count_by (λ b. b) (slice_index_or rows k []) ≤ 8

-- Without a choice, the code is no procedure either.
abbrev pub IsWithoutChoice : Function → ChoiceRefusal → Type 0
IsWithoutChoice f (Refused r) = IsRefused f r
IsWithoutChoice f (Crowded crowd) = HasCode f × (¬ IsValidProc (function_code f)) × IsCrowded (function_code f) crowd.place crowd.live
IsWithoutChoice f NoChoice = HasCode f × (¬ IsValidProc (function_code f))
