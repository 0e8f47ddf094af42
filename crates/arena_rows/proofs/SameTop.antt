-- Where the stacks are the same, so are the topmost rows.
use Rattle.std.proofs.Common.{◌≡◌, ℕ, List, Option, Some, None, sym, ap, ◌∙◌, arith, unwrap_or}
use Rattle.std.specs.Prelude.{is_some}
use Rattle.std.specs.Option.{option_map}
use Rattle.nest_stack.specs.declared.stack.Nested.{Nested}
use Rattle.nest_stack.specs.Nest as nest
use Rattle.nest_stack.specs.Nest.{stack}
use Rattle.tenant_model.specs.declared.rows.Row.{Row}
use Rattle.tenant_model.specs.State.{State}
use Rattle.tenant_model.specs.Walks.{top}
use Rattle.arena_rows.specs.Held.{Held}
use Rattle.arena_rows.specs.Represents.{Places, nested_of, Holds}
use Rattle.arena_rows.proofs.Tops.{top_of_stack}
use Rattle.arena_rows.proofs.TopRows.{top_nested}

by_stack : (rows : List Row) (places : Places) (o : Option ℕ) (x : Nested) → option_map (nested_of rows places) o ≡ Some x → o ≡ Some x.row.number
by_stack rows places None x same = absurd (grind (arith, ap is_some same))
by_stack rows places (Some k) x same = ap (λ (q : Option Nested). Some (unwrap_or q x).row.number) same

pub same_top : (a b : Held) (s t : State) (is : Holds a s) (now : Holds b t) (slot n : ℕ) → b.nests ≡ a.nests → top s.rows slot ≡ Some n → top t.rows slot ≡ Some n
same_top a b s t is now slot n same on_top =
    by_stack t.rows now.places (top t.rows slot) (nested_of s.rows is.places n)
    (sym (top_of_stack t.rows now.places b.config.slots b.nests now.steady.formed.stacked now.nests slot) ∙ ap (λ (ns : List (List Nested)). nest.top (stack ns slot)) same ∙
    top_nested a s is slot n on_top)
