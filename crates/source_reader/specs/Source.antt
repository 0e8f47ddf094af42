-- What a text says.
use Rattle.std.specs.Prelude.{◌≡◌, ◌==◌, ◌-◌, ℕ, Bool, false, List, [], ◌∷◌, length, map, is_some, Result, Ok, Err, if◌then◌else◌}
use Rattle.std.specs.Global.{Vec}
use Rattle.source_language.specs.declared.syntax.Function.{Function}
use Rattle.source_tokens.specs.declared.tokens.Token.{Token}
use Rattle.source_tokens.specs.Givens.{Givens, tokens_with, are_params}
use Rattle.source_tokens.specs.Tokens.{tokens_of}
use Rattle.source_reader.specs.declared.faults.Fault.{Fault}
use Rattle.source_reader.specs.declared.faults.Wrong.TheVariants as wrong
use Rattle.source_reader.specs.declared.places.Place.{Place}
use Rattle.source_reader.specs.declared.source.SourceFault.{SourceFault}
use Rattle.source_reader.specs.declared.source.SourceError.{SourceError}
use Rattle.source_reader.specs.declared.source.SourceError.TheVariants as errors
use Rattle.source_reader.specs.Faults.{◌>>=◌, fault_at}
use Rattle.source_reader.specs.declared.items.TheConstants.{ITEMS}
use Rattle.source_reader.specs.Trees.{FunctionTree, function_tree_of}
use Rattle.source_reader.specs.Names.{Functions}
use Rattle.source_reader.specs.Headers.{begins, is_inline, gathers_of, headers_of}
use Rattle.source_reader.specs.Items.{items_from}
use Rattle.source_reader.specs.Lines.{after_line_ends}
use Rattle.source_reader.specs.Places.{place_of, place_left}

abbrev pub some_functions : List FunctionTree → Result (List FunctionTree) Fault
some_functions [] = Err (fault_at [] wrong.NoFunction)
some_functions (f ∷ fs) = Ok (f ∷ fs)

abbrev pub read_tokens : List Token → Result (List FunctionTree) Fault
read_tokens ts = items_from ITEMS (Functions (headers_of ts)) ts >>= some_functions

-- Each name that is given a number has to be that of a `param`; else the fault is where the first line of the source begins that has tokens.
abbrev pub read_params : Givens → (text : List ℕ) → List Token → Result (List FunctionTree) Fault
read_params gs text ts = if are_params text gs ts then read_tokens ts else Err (fault_at (after_line_ends ts) wrong.NoParam)

abbrev pub read_with : Givens → List ℕ → Result (List FunctionTree) Fault
read_with gs text = read_params gs text (tokens_with gs text)

-- The text says these functions, where params have the numbers that they are given.
abbrev pub Says : Givens → List ℕ → List FunctionTree → Type 0
Says gs text fs = read_with gs text ≡ Ok fs

-- It says none: this is the first fault, and its place.
abbrev pub HasFault : Givens → List ℕ → SourceFault → Type 0
HasFault gs text fault = (left : ℕ) × (read_with gs text ≡ Err (record { left = left; wrong = fault.wrong })) × (fault.place ≡ place_left (tokens_with gs text) text left)

abbrev pub GivesError : Givens → List ℕ → SourceError → Type 0
GivesError gs text errors.Memory = Unit {0}
GivesError gs text (errors.Fault fault) = HasFault gs text fault

abbrev pub GivesSource : Givens → List ℕ → Result (Vec Function) SourceError → Type 0
GivesSource gs text (Ok v) = Says gs text (map function_tree_of v.items)
GivesSource gs text (Err e) = GivesError gs text e

-- where the parallel loop of that number begins, or else the end
abbrev pub nth_gathering : List Token → (number end : ℕ) → ℕ
nth_gathering [] n end = end
nth_gathering (t ∷ ts) n end =
    if is_some (gathers_of t.kind) then (if n == 0 then t.at else nth_gathering ts (n - 1) end)
    else nth_gathering ts n end

-- where the function of that number begins: behind those of the source come those of all parallel loops
abbrev pub nth_fn : (behind_inline : Bool) → (tokens all : List Token) → (number end : ℕ) → ℕ
nth_fn b [] all n end = nth_gathering all n end
nth_fn b (t ∷ ts) all n end =
    if begins b t.kind then (if n == 0 then t.at else nth_fn (is_inline t.kind) ts all (n - 1) end)
    else nth_fn (is_inline t.kind) ts all n end

abbrev pub function_place : List ℕ → (number : ℕ) → Place
function_place text n = place_of text (nth_fn false (tokens_of text) (tokens_of text) n (length text))
