-- The one way in which an answer may differ from the one that is wanted: memory ran out.
use Rattle.std.specs.Prelude.{◌≡◌, Result, Ok, Err}
use Rattle.job_language.specs.declared.errors.Error.{Error}
use Rattle.job_language.specs.declared.errors.Error.TheVariants.{NoMemory}

abbrev pub Refuses : {B : Type 0} → (takes_memory : Type 0) → Error → Result B Error → Type 0
Refuses takes_memory NoMemory want = takes_memory
Refuses takes_memory error want = want ≡ Err error

-- The answer is exact, or it is error 9, and that only if memory is taken.
abbrev pub ExactOrNoMemory : {A B : Type 0} → (view : A → B) → (takes_memory : Type 0) → Result A Error → Result B Error → Type 0
ExactOrNoMemory view takes_memory (Ok x) want = want ≡ Ok (view x)
ExactOrNoMemory view takes_memory (Err error) want = Refuses takes_memory error want
