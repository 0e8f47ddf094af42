-- The stacks as the frame of a topmost row changes, and before any row comes.
use Rattle.std.proofs.Common.{◌≡◌, ◌<◌, ◌≤◌, ◌*◌, ◌-◌, ℕ, zero, suc, List, [], ◌∷◌, ◌++◌, Option, Some, None, is_some, count_by, Bool, if◌then◌else◌, cond, length, map, replicate, refl, sym, ◌∙◌, ap}
use Rattle.std.proofs.Common.{subst, inl, inr, arith}
use Rattle.std.specs.Prelude.{slice_set, sum_by}
use Rattle.std.specs.Option.{option_map_or}
use Rattle.std.proofs.lemmas.Bool.Decides.{eqb_tells}
use Rattle.std.proofs.lemmas.List.{length_push, length-replicate, set_at}
use Rattle.std.proofs.lemmas.List.Sums.{sum_by-set, sum_by-cons}
use Rattle.job_step.specs.declared.frames.Frame.{Frame}
use Rattle.slab.specs.Slab.{Slab, ContainsKey, get, slab_len, with_value, Updates}
use Rattle.slab.proofs.SlabLemmas.{ContainsKey-within, Updates-with_value}
use Rattle.nest_stack.specs.declared.stack.Nested.{Nested}
use Rattle.nest_stack.specs.declared.stack.Node.{Node}
use Rattle.nest_stack.specs.declared.stack.Stack.{Stack}
use Rattle.nest_stack.specs.declared.stack.TheConstants.{MAX_HEIGHT}
use Rattle.nest_stack.specs.Nest.{Stacks, stack, with_stack, with_top_frame}
use Rattle.nest_stack.specs.Chain.{rows_from, rows_of, no_stack, stack_at, IsChain, HoldsStacks}
use Rattle.nest_stack.proofs.Chains.{rows_from-step, chain-kept, rows-kept, seen-changed}
use Rattle.nest_stack.proofs.Held.{Topmost, within, top-rows, rest, other-height, other-slot, last-of}

-- no value more, and none less
len-with_value : (nodes : Slab Node) (key : ℕ) (node : Node) → ContainsKey nodes key → slab_len (with_value nodes key node) ≡ slab_len nodes
len-with_value nodes key node there =
    let was : ℕ = if is_some (get nodes key) then 1 else 0 in
    let one : was ≡ 1 = ap (λ (b : Bool). if b then 1 else 0) there in
    omega (arith, one, sum_by-set (λ (o : Option Node). cond (is_some o) 1 0) nodes.slots key (Some node) None (ContainsKey-within nodes key there))

module _ (nodes : Slab Node) (stacks : List Stack) (now : Stacks) (view : map (rows_of nodes) stacks ≡ now) (k : HoldsStacks nodes stacks) (slot : ℕ) (there : slot < length now)
    (t : Topmost nodes k.owner slot (stack_at stacks slot)) (frame : Frame) where
  abbrev written : Node
  written = record t.at.node { nested = record t.at.node.nested { frame = frame } }

  abbrev after : Slab Node
  after = with_value nodes t.at.key written

  has_key : ContainsKey nodes t.at.key
  has_key = ap (λ (o : Option Node). is_some o) t.at.there

  updates : Updates nodes after t.at.key (Some written)
  updates = Updates-with_value nodes t.at.key written has_key

  own-chain : IsChain after k.owner slot (suc t.below) (stack_at stacks slot).top
  own-chain = (
    record { key = t.at.key; node = written; is = t.at.is; there = updates.changed; owned = t.at.owned },
    chain-kept nodes after k.owner k.owner slot t.below t.at.node.below (other-height nodes stacks now view k slot t after (Some written) updates) t.chain,
  )

  chains : (o : ℕ) → IsChain after k.owner o (stack_at stacks o).height (stack_at stacks o).top
  chains o =
      elim (eqb_tells o slot) [
        | inl e ↦ subst (λ (j : ℕ). IsChain after k.owner j (stack_at stacks j).height (stack_at stacks j).top) (sym e.1)
            (subst (λ h. IsChain after k.owner slot h (stack_at stacks slot).top) (sym t.height) own-chain)
        | inr e ↦ chain-kept nodes after k.owner k.owner o (stack_at stacks o).height (stack_at stacks o).top
            (other-slot nodes stacks now view k slot t after (Some written) updates o (stack_at stacks o).height e.1) (k.chains o)
      ]

  written-held : HoldsStacks after stacks
  written-held = record { owner = k.owner; chains = chains; few = k.few; count = len-with_value nodes t.at.key written has_key ∙ k.count; room = k.room }

  -- the topmost row with another frame
  framed : (xs : List Nested) (x : Nested) → with_top_frame (xs ++ x ∷ []) frame ≡ xs ++ (record x { frame = frame }) ∷ []
  framed xs x =
      let at : length (xs ++ x ∷ []) - 1 ≡ length xs = omega (arith, length_push xs x) in
      ap (λ (o : Option Nested). option_map_or (λ (y : Nested). slice_set (xs ++ x ∷ []) (length (xs ++ x ∷ []) - 1) (record y { frame = frame })) o (xs ++ x ∷ [])) (last-of xs x)
      ∙ ap (λ n. slice_set (xs ++ x ∷ []) n (record x { frame = frame })) at
      ∙ set_at xs x [] (record x { frame = frame }) (length xs) refl

  new-rows : rows_of after (stack_at stacks slot) ≡ with_top_frame (stack now slot) frame
  new-rows =
      ap (λ h. rows_from after h (stack_at stacks slot).top) t.height
      ∙ rows_from-step after t.below (stack_at stacks slot).top t.at.key written t.at.is updates.changed
      ∙ ap (λ xs. xs ++ written.nested ∷ []) (rows-kept nodes after k.owner k.owner slot t.below t.at.node.below (other-height nodes stacks now view k slot t after (Some written) updates) t.chain)
      ∙ sym (ap (λ xs. with_top_frame xs frame) (top-rows nodes stacks now view k slot t) ∙ framed (rest nodes stacks now view k slot t) t.at.node.nested)

  written-seen : map (rows_of after) stacks ≡ with_stack now slot (with_top_frame (stack now slot) frame)
  written-seen =
      seen-changed nodes after stacks stacks slot (with_top_frame (stack now slot) frame) refl (within nodes stacks now view k slot there) new-rows
      (λ o ne. rows-kept nodes after k.owner k.owner o (stack_at stacks o).height (stack_at stacks o).top
      (other-slot nodes stacks now view k slot t after (Some written) updates o (stack_at stacks o).height ne) (k.chains o))
      ∙ ap (λ (v : Stacks). with_stack v slot (with_top_frame (stack now slot) frame)) view

  -- the same, of what the call reads
  module _ (key : ℕ) (same : key ≡ t.at.key) (node : Node) (node_same : node ≡ t.at.node) where
    both : with_value nodes key (record node { nested = record node.nested { frame = frame } }) ≡ after
    both = ap (λ (j : ℕ). with_value nodes j (record node { nested = record node.nested { frame = frame } })) same ∙
        ap (λ (m : Node). with_value nodes t.at.key (record m { nested = record m.nested { frame = frame } })) node_same

    pub write-held : HoldsStacks (with_value nodes key (record node { nested = record node.nested { frame = frame } })) stacks
    write-held = subst (λ (s : Slab Node). HoldsStacks s stacks) (sym both) written-held

    pub write-seen : map (rows_of (with_value nodes key (record node { nested = record node.nested { frame = frame } }))) stacks ≡ with_stack now slot (with_top_frame (stack now slot) frame)
    write-seen = ap (λ (s : Slab Node). map (rows_of s) stacks) both ∙ written-seen

-- stacks without rows
none-at : (n s : ℕ) → stack_at (replicate n no_stack) s ≡ no_stack
none-at zero s = refl
none-at (suc n) zero = refl
none-at (suc n) (suc s) = none-at n s

none-count : (n : ℕ) → sum_by (λ (s : Stack). s.height) (replicate n no_stack) ≡ 0
none-count zero = refl
none-count (suc n) = omega (arith, none-count n, sum_by-cons (λ (s : Stack). s.height) no_stack (replicate n no_stack))

pub empty-held : (nodes : Slab Node) (n : ℕ) → nodes.slots ≡ [] → n * MAX_HEIGHT ≤ nodes.capacity → HoldsStacks nodes (replicate n no_stack)
empty-held nodes n empty room = record {
  owner = λ key. (0, 0);
  chains = λ s. subst (λ (x : Stack). IsChain nodes (λ key. (0, 0)) s x.height x.top) (sym (none-at n s)) refl;
  few = λ s. omega (arith, ap (λ (x : Stack). x.height) (none-at n s));
  count = ap (λ (o : List (Option Node)). count_by is_some o) empty ∙ sym (none-count n);
  room = omega (arith, room, length-replicate n no_stack);
}

pub empty-seen : (nodes : Slab Node) (n : ℕ) → map (rows_of nodes) (replicate n no_stack) ≡ replicate n []
empty-seen nodes zero = refl
empty-seen nodes (suc n) = ap (λ xs. [] ∷ xs) (empty-seen nodes n)
