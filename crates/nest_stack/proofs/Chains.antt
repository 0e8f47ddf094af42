-- Chains of nodes, and what is seen of them.
use Rattle.std.proofs.Common.{◌≡◌, ◌≢◌, ◌<◌, ℕ, zero, suc, List, [], ◌∷◌, ◌++◌, Option, Some, get_or, length, map, refl, sym, ◌∙◌, ap, inl, inr, arith}
use Rattle.std.specs.Prelude.{slice_set}
use Rattle.std.specs.Option.{option_map_or}
use Rattle.std.proofs.lemmas.Bool.Decides.{eqb_tells}
use Rattle.std.proofs.lemmas.List.{ext_get_or, get_or-set_same, get_or-set_other, length-map, length-set, length_push}
use Rattle.slab.specs.Slab.{Slab, get}
use Rattle.nest_stack.specs.declared.stack.Nested.{Nested}
use Rattle.nest_stack.specs.declared.stack.Node.{Node}
use Rattle.nest_stack.specs.declared.stack.Stack.{Stack}
use Rattle.nest_stack.specs.Chain.{rows_from, rows_of, no_stack, stack_at, IsChain}

pub rows_from-step : (nodes : Slab Node) (n : ℕ) (top : Option ℕ) (key : ℕ) (node : Node) → top ≡ Some key → get nodes key ≡ Some node →
    rows_from nodes (suc n) top ≡ rows_from nodes n node.below ++ node.nested ∷ []
rows_from-step nodes n top key node is there =
    ap (rows_from nodes (suc n)) is ∙ ap (λ (o : Option Node). option_map_or (λ (m : Node). rows_from nodes n m.below ++ m.nested ∷ []) o []) there

pub length-rows : (nodes : Slab Node) (owner : ℕ → ℕ × ℕ) (slot n : ℕ) (top : Option ℕ) → IsChain nodes owner slot n top → length (rows_from nodes n top) ≡ n
length-rows nodes owner slot zero top k = refl
length-rows nodes owner slot (suc n) top k =
    let t = k.0 in
    ap length (rows_from-step nodes n top t.key t.node t.is t.there) ∙ length_push (rows_from nodes n t.node.below) t.node.nested ∙ omega (arith, length-rows nodes owner slot n t.node.below k.1)

-- nodes of a chain that stay
module _ (nodes after : Slab Node) (owner now : ℕ → ℕ × ℕ) (slot : ℕ) where
  abbrev pub Stays : ℕ → Type 0
  Stays n = (key m : ℕ) (node : Node) → m < n → get nodes key ≡ Some node → owner key ≡ (slot, m) → (get after key ≡ Some node) × (now key ≡ (slot, m))

  pub chain-kept : (n : ℕ) (top : Option ℕ) → Stays n → IsChain nodes owner slot n top → IsChain after now slot n top
  chain-kept zero top stays k = k
  chain-kept (suc n) top stays k =
      let t = k.0 in
      let same = stays t.key n t.node (omega arith) t.there t.owned in
      (record { key = t.key; node = t.node; is = t.is; there = same.0; owned = same.1 }, chain-kept n t.node.below (λ key m node low. stays key m node (omega arith)) k.1)

  pub rows-kept : (n : ℕ) (top : Option ℕ) → Stays n → IsChain nodes owner slot n top → rows_from after n top ≡ rows_from nodes n top
  rows-kept zero top stays k = refl
  rows-kept (suc n) top stays k =
      let t = k.0 in
      let same = stays t.key n t.node (omega arith) t.there t.owned in
      let rest = rows-kept n t.node.below (λ key m node low. stays key m node (omega arith)) k.1 in
      rows_from-step after n top t.key t.node t.is same.0 ∙ ap (λ xs. xs ++ t.node.nested ∷ []) rest ∙ sym (rows_from-step nodes n top t.key t.node t.is t.there)

get_or-map_same : {X Y : Type 0} (f : X → Y) (xs : List X) (i : ℕ) (d : X) → get_or (map f xs) i (f d) ≡ f (get_or xs i d)
get_or-map_same f [] i d = refl
get_or-map_same f (x ∷ xs) zero d = refl
get_or-map_same f (x ∷ xs) (suc i) d = get_or-map_same f xs i d

-- the stack of a slot, as it is seen
pub seen : (nodes : Slab Node) (stacks : List Stack) (slot : ℕ) → get_or (map (rows_of nodes) stacks) slot [] ≡ rows_of nodes (stack_at stacks slot)
seen nodes stacks slot = get_or-map_same (rows_of nodes) stacks slot no_stack

-- one stack changes, as it is seen
pub seen-changed : (nodes after : Slab Node) (stacks now : List Stack) (slot : ℕ) (xs : List Nested) → length now ≡ length stacks → slot < length stacks → rows_of after (stack_at now slot) ≡ xs →
    ((other : ℕ) → other ≢ slot → rows_of after (stack_at now other) ≡ rows_of nodes (stack_at stacks other)) → map (rows_of after) now ≡ slice_set (map (rows_of nodes) stacks) slot xs
seen-changed nodes after stacks now slot xs long within changed others =
    let was = map (rows_of nodes) stacks in
    let there : slot < length was = omega (arith, within, length-map stacks (rows_of nodes)) in
    ext_get_or [] (map (rows_of after) now) (slice_set was slot xs)
    (length-map now (rows_of after) ∙ long ∙ sym (length-map stacks (rows_of nodes)) ∙ sym (length-set was slot xs))
    (λ i low. seen after now i ∙ elim (eqb_tells i slot) [
      | inl s ↦ ap (λ j. rows_of after (stack_at now j)) s.1 ∙ changed ∙ sym (ap (λ j. get_or (slice_set was slot xs) j []) s.1 ∙ get_or-set_same was slot xs [] there)
      | inr o ↦ others i o.1 ∙ sym (get_or-set_other was slot i xs [] o.1 ∙ seen nodes stacks i)
    ])
