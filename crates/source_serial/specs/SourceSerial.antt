-- The serial value of functions of the source: what the first one gives if each task runs as soon as it is made, to its end.
use Rattle.std.specs.Prelude.{ℕ, zero, suc, ℤ, pos, Bool, if◌then◌else◌, List, replicate, Option, Some, None, is_some, unwrap_or, slice_get, slice_index_or, slice_set}
use Rattle.std.specs.Int.{int_wrapping_add, w64}
use Rattle.std.specs.List.{list_any}
use Rattle.job_language.specs.declared.instructions.TheConstants.{GROUPS}
use Rattle.source_language.specs.declared.syntax.Function.{Function}
use Rattle.source_language.specs.Meaning.{Operation, Spawns, Isolates, Waits, Returns, Point, Act, Goes, Divides, Does, act, answered, start}

-- a function at work, with what its groups have been given
pub record SourceTask : Type 0 where
  pub point : Point
  pub sums : List (Option ℤ)

abbrev pub sum_at : List (Option ℤ) → ℕ → ℤ
sum_at sums g = unwrap_or (slice_index_or sums g None) (pos 0)

abbrev pub added : List (Option ℤ) → ℕ → ℤ → List (Option ℤ)
added sums g v = slice_set sums g (Some (int_wrapping_add w64 (sum_at sums g) v))

abbrev pub owes : List (Option ℤ) → Bool
owes sums = list_any (λ (sum : Option ℤ). is_some sum) sums

abbrev pub task_of : Option Function → ℤ → ℤ → Option SourceTask
task_of None x y = None
task_of (Some f) x y = Some (record { point = start f x y; sums = replicate GROUPS None })

abbrev pub given_to : (SourceTask → Option ℤ) → Option SourceTask → Option ℤ
given_to next None = None
given_to next (Some t) = next t

abbrev pub then_with : Option ℤ → (ℤ → Option ℤ) → Option ℤ
then_with None next = None
then_with (Some v) next = next v

abbrev pub does_serially : (SourceTask → Option ℤ) → List Function → SourceTask → Operation → Option ℤ
does_serially next fs t (Spawns g p x y) = then_with (given_to next (task_of (slice_get fs p) x y)) (λ v. next (record { point = answered t.point (pos 0) (pos 0); sums = added t.sums g v }))
does_serially next fs t (Isolates p x y) = then_with (given_to next (task_of (slice_get fs p) x y)) (λ v. next (record { point = answered t.point v (pos 0); sums = t.sums }))
does_serially next fs t (Waits g) = next (record { point = answered t.point (sum_at t.sums g) (pos 1); sums = slice_set t.sums g None })
does_serially next fs t (Returns v) = if owes t.sums then None else Some v
does_serially next fs t o = None

abbrev pub serially : (SourceTask → Option ℤ) → List Function → SourceTask → Act → Option ℤ
serially next fs t (Goes q) = next (record { point = q; sums = t.sums })
serially next fs t Divides = None
serially next fs t (Does o) = does_serially next fs t o

-- the value that a task gives, if n steps one within another suffice and nothing fails
abbrev pub source_given : (n : ℕ) → List Function → SourceTask → Option ℤ
source_given zero fs t = None
source_given (suc n) fs t = serially (source_given n fs) fs t (act 0 0 t.point)

-- the value of the first function
abbrev pub source_value : List Function → (args : List ℤ) → (n : ℕ) → Option ℤ
source_value fs args n = given_to (source_given n fs) (task_of (slice_get fs 0) (slice_index_or args 0 (pos 0)) (slice_index_or args 1 (pos 0)))
