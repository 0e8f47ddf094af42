-- The words for priorities and isolation modes.
use Rattle.std.specs.Prelude.{ℕ, List, [], ◌∷◌, Option, find, codes}
use Rattle.std.specs.Str.{bytes_eq}
use Rattle.job_language.specs.declared.tenants.Isolation.{Isolation}
use Rattle.job_language.specs.declared.tenants.Isolation.TheVariants.{Exact, Within}
use Rattle.job_language.specs.declared.tenants.Level.{Level}
use Rattle.job_language.specs.declared.tenants.Level.TheVariants.{High, Normal, Low}

abbrev pub level_word : Level → List ℕ
level_word High = codes "high"
level_word Normal = codes "normal"
level_word Low = codes "low"

abbrev pub level_named : List ℕ → Option Level
level_named word = find (λ level. bytes_eq word (level_word level)) (High ∷ Normal ∷ Low ∷ [])

abbrev pub isolation_word : Isolation → List ℕ
isolation_word Exact = codes "exact"
isolation_word Within = codes "within"

abbrev pub isolation_named : List ℕ → Option Isolation
isolation_named word = find (λ isolation. bytes_eq word (isolation_word isolation)) (Exact ∷ Within ∷ [])
