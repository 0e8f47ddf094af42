-- How the stacks are held: each row in a node of one slab, with the position of the row below it.
use Rattle.std.specs.Prelude.{◌≡◌, ℕ, zero, suc, ◌*◌, ◌≤◌, List, [], ◌∷◌, ◌++◌, Option, Some, None, length, slice_index_or, sum_by}
use Rattle.std.specs.Option.{option_map_or}
use Rattle.slab.specs.Slab.{Slab, get, slab_len}
use Rattle.nest_stack.specs.declared.stack.Nested.{Nested}
use Rattle.nest_stack.specs.declared.stack.Node.{Node}
use Rattle.nest_stack.specs.declared.stack.Stack.{Stack}
use Rattle.nest_stack.specs.declared.stack.TheConstants.{MAX_HEIGHT}

-- the rows from a position downwards, `height` at most, from the lowest to the topmost
abbrev pub rows_from : Slab Node → (height : ℕ) → (top : Option ℕ) → List Nested
rows_from nodes zero top = []
rows_from nodes (suc n) None = []
rows_from nodes (suc n) (Some key) = option_map_or (λ (node : Node). rows_from nodes n node.below ++ node.nested ∷ []) (get nodes key) []

abbrev pub rows_of : Slab Node → Stack → List Nested
rows_of nodes stack = rows_from nodes stack.height stack.top

abbrev pub no_stack : Stack
no_stack = record { top = None; height = 0 }

-- the stack of a slot, empty if there is no such slot
abbrev pub stack_at : List Stack → ℕ → Stack
stack_at stacks slot = slice_index_or stacks slot no_stack

-- At a position there is a node of this slot, with `below` rows under it.
pub record IsTop (nodes : Slab Node) (owner : ℕ → ℕ × ℕ) (slot below : ℕ) (top : Option ℕ) : Type 0 where
  pub key : ℕ
  pub node : Node
  pub is : top ≡ Some key
  pub there : get nodes key ≡ Some node
  pub owned : owner key ≡ (slot, below)

-- From a position down there are exactly `height` nodes, all of this slot.
abbrev pub IsChain : Slab Node → (owner : ℕ → ℕ × ℕ) → (slot height : ℕ) → (top : Option ℕ) → Type 0
IsChain nodes owner slot zero top = top ≡ None
IsChain nodes owner slot (suc n) top = (t : IsTop nodes owner slot n top) × IsChain nodes owner slot n t.node.below

-- Nothing is missing of a stack.
pub record IsWhole (nodes : Slab Node) (stack : Stack) : Type 0 where
  pub owner : ℕ → ℕ × ℕ
  pub slot : ℕ
  pub chain : IsChain nodes owner slot stack.height stack.top

-- The nodes are those of the stacks, each at one height of one slot's stack, and there is room for the highest stacks.
pub record HoldsStacks (nodes : Slab Node) (stacks : List Stack) : Type 0 where
  pub owner : ℕ → ℕ × ℕ
  pub chains : (slot : ℕ) → IsChain nodes owner slot (stack_at stacks slot).height (stack_at stacks slot).top
  pub few : (slot : ℕ) → (stack_at stacks slot).height ≤ MAX_HEIGHT
  pub count : slab_len nodes ≡ sum_by (λ (s : Stack). s.height) stacks
  pub room : length stacks * MAX_HEIGHT ≤ nodes.capacity
