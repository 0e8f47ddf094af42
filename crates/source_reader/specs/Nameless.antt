-- Tasks that are spawned without a name and without a group: those of a function have one group, which its body begins with.
use Rattle.std.specs.Prelude.{ℕ, ◌+◌, ◌-◌, ◌==◌, ◌&&◌, ◌||◌, not, Bool, true, false, List, [], ◌∷◌, drop, Option, Some, None, Result, Ok, if◌then◌else◌}
use Rattle.source_tokens.specs.declared.tokens.Token.{Token}
use Rattle.source_reader.specs.declared.faults.Fault.{Fault}
use Rattle.source_reader.specs.declared.names.Meaning.TheVariants as meaning
use Rattle.source_reader.specs.declared.names.Task.{Task}
use Rattle.source_reader.specs.declared.names.TheConstants.{NAMELESS}
use Rattle.source_reader.specs.Calls.{is_spawn}
use Rattle.source_reader.specs.Extents.{is_set}
use Rattle.source_reader.specs.Faults.{◌>>=◌}
use Rattle.source_reader.specs.Lines.{is_end}
use Rattle.source_reader.specs.Marks.{is_open}
use Rattle.source_reader.specs.Names.{Scope, WithName, new_number}
use Rattle.source_reader.specs.Ranges.{is_begin}
use Rattle.source_reader.specs.Tasks.{free_group}

-- whether a task that is given to no variable has no group, either: `spawn`, and a function with its arguments
abbrev pub is_nameless : (is_given : Bool) → List Token → Bool
is_nameless given ts = (is_spawn ts && not given) && is_open (drop 1 (drop 1 ts))

-- whether there are such tasks before the end of the block in which the tokens are, where so many blocks inside it have begun
abbrev pub spawns_nameless : (inner : ℕ) → (is_given : Bool) → List Token → Bool
spawns_nameless n given [] = false
spawns_nameless n given (t ∷ ts) =
    if is_nameless given (t ∷ ts) then true
    else if is_begin t.kind then spawns_nameless (n + 1) (is_set t.kind) ts
    else if is_end t.kind then (if n == 0 then false else spawns_nameless (n - 1) (is_set t.kind) ts)
    else spawns_nameless n (is_set t.kind) ts

abbrev pub nameless_group : Scope → List Token → Result (Option Task) Fault
nameless_group names ts = do
  n ← new_number names ts
  g ← free_group names ts
  Ok (Some (record { variable = n; group = g; is_group = true }))

-- the group of such tasks, if the function whose body begins with the first of the tokens has some
abbrev pub nameless_in : Scope → List Token → Result (Option Task) Fault
nameless_in names ts = if spawns_nameless 0 false (drop 1 ts) then nameless_group names ts else Ok None

-- It stands for a name that no text can have.
abbrev pub with_nameless : Option Task → Scope → Scope
with_nameless None names = names
with_nameless (Some t) names = WithName NAMELESS (meaning.Task t) names
