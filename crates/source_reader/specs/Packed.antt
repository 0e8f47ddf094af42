-- Arguments that share the numbers of a task, and what the body of their function takes out of these.
use Rattle.std.specs.Prelude.{ℕ, ℤ, pos, ◌≡◌, ◌≤◌, ◌&&◌, ◌||◌, Bool, true, List, [], ◌∷◌, Option, Some, None, Result, Ok, slice_index_or}
use Rattle.std.specs.List.{All, AllZip}
use Rattle.source_tokens.specs.declared.tokens.Token.{Token}
use Rattle.source_reader.specs.declared.faults.Fault.{Fault}
use Rattle.source_reader.specs.declared.layouts.Taken.{Taken}
use Rattle.source_reader.specs.Calls.{ArgumentTrees, argument_at, arguments_from, behind_argument, does_fit, if_fits, no_arguments, with_argument}
use Rattle.source_reader.specs.Faults.{◌>>=◌}
use Rattle.source_reader.specs.Layouts.{has_room, nothing_taken, unpacked, with_all, with_one}
use Rattle.source_reader.specs.Names.{Scope}
use Rattle.source_reader.specs.Trees.{ExprTree}
use Rattle.source_reader.specs.TreeValues.{tree_value}

-- the arguments for parameters of these widths, each as it is read
abbrev pub each_argument : Scope → (widths : List ℕ) → (called ts : List Token) → Result (List ExprTree × List Token) Fault
each_argument names [] called ts = Ok ([], ts)
each_argument names (b ∷ bs) called ts = do
  v ← argument_at names ts
  e ← if_fits v.0 b ts
  rest ← behind_argument bs called v.1
  others ← each_argument names bs called rest
  Ok (e ∷ others.0, others.1)

-- The two numbers, with arguments for parameters of these widths, behind others.
abbrev pub packed_arguments : Taken → ArgumentTrees → (widths : List ℕ) → List ExprTree → ArgumentTrees
packed_arguments t before [] es = before
packed_arguments t before (b ∷ bs) [] = before
packed_arguments t before (b ∷ bs) (e ∷ es) = packed_arguments (with_one t b) (with_argument t b before e) bs es

-- No width is larger than those that a source can write; 0 stands for none.
abbrev pub AreNarrow : (widths : List ℕ) → Type 0
AreNarrow [] = Unit {0}
AreNarrow (b ∷ bs) = (b ≤ 62) × AreNarrow bs

-- Each parameter finds room, behind others.
abbrev pub have_room : Taken → (widths : List ℕ) → Bool
have_room t [] = true
have_room t (b ∷ bs) = (has_room t.first b || has_room t.second b) && have_room (with_one t b) bs

-- Each number fits the width of its parameter; any does where there is none.
abbrev pub AllFit : (widths : List ℕ) → List ℤ → Type 0
AllFit bs vs = AllZip (λ b v. does_fit v b ≡ true) bs vs

-- A frame has these values, for some numbers of the slot and of slots.
abbrev pub HaveValues : (slot width : ℕ) → (vars : List ℤ) → List ExprTree → List ℤ → Type 0
HaveValues slot width vars es vs = AllZip (λ e v. tree_value e slot width vars ≡ Some v) es vs

-- What the body of a function gives to its parameters of these widths, behind others, are these values.
abbrev pub GivesEach : (all : Taken) → (slot width : ℕ) → (vars : List ℤ) → Taken → (widths : List ℕ) → List ℤ → Type 0
GivesEach all slot width vars t [] [] = Unit {0}
GivesEach all slot width vars t [] (v ∷ vs) = ⊥
GivesEach all slot width vars t (b ∷ bs) [] = ⊥
GivesEach all slot width vars t (b ∷ bs) (v ∷ vs) = (tree_value (unpacked all t b) slot width vars ≡ Some v) × GivesEach all slot width vars (with_one t b) bs vs

-- The two numbers have values, and a function that begins with these gives its parameters the values of the arguments.
pub record KeepsValues (widths : List ℕ) (arguments : ArgumentTrees) (slot slots : ℕ) (vars : List ℤ) (values : List ℤ) : Type 0 where
  pub first : ℤ
  pub second : ℤ
  pub first_is : tree_value arguments.first slot slots vars ≡ Some first
  pub second_is : tree_value arguments.second slot slots vars ≡ Some second
  pub given : (at of : ℕ) (frame : List ℤ) → slice_index_or frame 0 (pos 0) ≡ first → slice_index_or frame 1 (pos 0) ≡ second
      → GivesEach (with_all nothing_taken widths) at of frame nothing_taken widths values

-- The arguments of a call for parameters of these widths are packed as they are read.
abbrev pub PacksEach : Scope → (widths : List ℕ) → (called ts : List Token) → Type 0
PacksEach names widths called ts =
    arguments_from names nothing_taken no_arguments widths called ts ≡ each_argument names widths called ts >>= λ x. Ok (packed_arguments nothing_taken no_arguments widths x.0, x.1)
