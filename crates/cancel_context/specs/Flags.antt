-- A flag for each context, and how a change of one spreads to what is below.
use Rattle.std.specs.Prelude.{◌≡◌, ◌+◌, ◌≤◌, ◌⊎◌, ℕ, Bool, true, false, not, ◌||◌, if◌then◌else◌, List, [], ◌∷◌, ◌++◌, Some, length, slice_index_or, slice_set, count_by}
use Rattle.std.specs.Option.{option_map_or}
use Rattle.cancel_context.specs.Forest.{Forest, binding, IsHeld, parent, asks_in, is_cancelled}
use Rattle.cancel_context.specs.Order.{IsIn}

-- the flags by place, and the contexts whose flag has turned while those below them are still to be looked at
pub record Flagged : Type 0 where
  pub flags : List Bool
  pub reached : List ℕ

abbrev pub flag : List Bool → ℕ → Bool
flag flags c = slice_index_or flags c false

-- Each flag says whether its context is cancelled.
pub record AreFlags (forest : Forest) (flags : List Bool) : Type 0 where
  pub size : length flags ≡ length forest
  pub says : (c : ℕ) → IsHeld forest c → flag flags c ≡ is_cancelled forest c

-- A flag is right if it follows from the context's own state and from the flag above.
abbrev pub IsRight : Forest → List Bool → ℕ → Type 0
IsRight forest flags c = flag flags c ≡ (asks_in (binding forest c) || option_map_or (flag flags) (parent forest c) false)

abbrev pub differs : Bool → Bool → Bool
differs true b = not b
differs false b = b

-- one context looked at: its flag turns, unless it has the value or the context is cancelled by its own
abbrev pub visited : Forest → Flagged → ℕ → Bool → Flagged
visited forest f c value = if (not (differs value (flag f.flags c)) || asks_in (binding forest c)) then f else record { flags = slice_set f.flags c value; reached = f.reached ++ c ∷ [] }

-- still to be looked at: one of the rest, or what is bound to a context that was reached
abbrev pub Waits : Forest → (reached rest : List ℕ) → ℕ → Type 0
Waits forest reached rest c = IsIn rest c ⊎ ((p : ℕ) × ((parent forest c ≡ Some p) × IsIn reached p))

-- While a change spreads, what was reached has the new value, and each flag is right or still to be looked at.
pub record IsSpreading (forest : Forest) (flags : List Bool) (reached rest : List ℕ) (value : Bool) : Type 0 where
  pub size : length flags ≡ length forest
  pub held : (c : ℕ) → IsIn reached c → IsHeld forest c
  pub turned : (c : ℕ) → IsIn reached c → flag flags c ≡ value
  pub own : (c : ℕ) → IsHeld forest c → asks_in (binding forest c) ≡ true → flag flags c ≡ true
  pub right : (c : ℕ) → IsHeld forest c → IsRight forest flags c ⊎ Waits forest reached rest c
  pub room : length reached + count_by (differs value) flags ≤ length flags
