-- The stacks as a row comes.
use Rattle.std.proofs.Common.{◌≡◌, ◌≢◌, ◌<◌, ◌≤◌, ◌+◌, ◌*◌, ◌==◌, ℕ, zero, suc, if◌then◌else◌, List, [], ◌∷◌, ◌++◌, Some, None, get_or, length, map, refl, sym, ◌∙◌, ap, subst, inl, inr, arith}
use Rattle.std.specs.Prelude.{slice_set, sum_by}
use Rattle.std.proofs.lemmas.Bool.Decides.{eqb_tells}
use Rattle.std.proofs.lemmas.List.{get_or-set_same, get_or-set_other, length-set}
use Rattle.std.proofs.lemmas.List.Sums.{sum_by-set, sum_by-cons}
use Rattle.slab.specs.Slab.{Slab, HasRoomFor, get, slab_len, Updates}
use Rattle.nest_stack.specs.declared.stack.Nested.{Nested}
use Rattle.nest_stack.specs.declared.stack.Node.{Node}
use Rattle.nest_stack.specs.declared.stack.Stack.{Stack}
use Rattle.nest_stack.specs.declared.stack.TheConstants.{MAX_HEIGHT}
use Rattle.nest_stack.specs.Nest.{Stacks, stack, with_stack}
use Rattle.nest_stack.specs.Chain.{rows_from, rows_of, no_stack, stack_at, IsChain, HoldsStacks}
use Rattle.nest_stack.proofs.Chains.{rows_from-step, Stays, chain-kept, rows-kept, seen-changed}
use Rattle.nest_stack.proofs.Held.{stack-is, height-is, within, read-is}

sum-at-most : (m : ℕ) (xs : List Stack) → ((s : ℕ) → (stack_at xs s).height ≤ m) → sum_by (λ (s : Stack). s.height) xs ≤ length xs * m
sum-at-most m [] few = omega arith
sum-at-most m (x ∷ xs) few = omega (arith, few zero, sum-at-most m xs (λ s. few (suc s)), sum_by-cons (λ (s : Stack). s.height) x xs)

-- While one stack is not full, there is room for one more row.
sum-below : (m : ℕ) (xs : List Stack) (slot : ℕ) → ((s : ℕ) → (stack_at xs s).height ≤ m) → slot < length xs → (stack_at xs slot).height < m → sum_by (λ (s : Stack). s.height) xs + 1 ≤ length xs * m
sum-below m [] slot few there low = absurd (omega arith)
sum-below m (x ∷ xs) zero few there low = omega (arith, low, sum-at-most m xs (λ s. few (suc s)), sum_by-cons (λ (s : Stack). s.height) x xs)
sum-below m (x ∷ xs) (suc slot) few there low = omega (arith, few zero, sum-below m xs slot (λ s. few (suc s)) (omega arith) low, sum_by-cons (λ (s : Stack). s.height) x xs)

module _ (nodes : Slab Node) (stacks : List Stack) (now : Stacks) (view : map (rows_of nodes) stacks ≡ now) (k : HoldsStacks nodes stacks) (slot : ℕ) (there : slot < length now)
    (low : length (stack now slot) < MAX_HEIGHT) where
  below_most : (stack_at stacks slot).height < MAX_HEIGHT
  below_most = omega (arith, height-is nodes stacks now view k slot, low)

  slot_there : slot < length stacks
  slot_there = within nodes stacks now view k slot there

  pub has-room : HasRoomFor nodes 1
  has-room = omega (arith, k.count, k.room, sum-below MAX_HEIGHT stacks slot k.few slot_there below_most)

  pub read-low : (s : Stack) → s ≡ get_or stacks slot s → s.height < MAX_HEIGHT
  read-low s read = omega (arith, ap (λ (x : Stack). x.height) (read-is nodes stacks now view k slot s there read), below_most)

  module _ (s : Stack) (read : s ≡ get_or stacks slot s) (nested : Nested) (key : ℕ) (vacant : get nodes key ≡ None) (after : Slab Node)
      (updates : Updates nodes after key (Some (record { nested = nested; below = s.top }))) (count : slab_len after ≡ slab_len nodes + 1) (capacity : after.capacity ≡ nodes.capacity) where
    same : s ≡ stack_at stacks slot
    same = read-is nodes stacks now view k slot s there read

    abbrev pub higher : Stack
    higher = record { top = Some key; height = s.height + 1 }

    abbrev pub pushed : List Stack
    pushed = slice_set stacks slot higher

    -- the new node is of this slot
    abbrev owner : ℕ → ℕ × ℕ
    owner j = if j == key then (slot, s.height) else k.owner j

    owner-same : owner key ≡ (slot, s.height)
    owner-same = elim (eqb_tells key key) [ inl e ↦ ap (λ b. if b then (slot, s.height) else k.owner key) e.0 | inr e ↦ absurd (e.1 refl) ]

    owner-other : (j : ℕ) → j ≢ key → owner j ≡ k.owner j
    owner-other j ne = elim (eqb_tells j key) [ inl e ↦ absurd (ne e.1) | inr e ↦ ap (λ b. if b then (slot, s.height) else k.owner j) e.0 ]

    stays : (o n : ℕ) → Stays nodes after k.owner owner o n
    stays o n j m node below found owned =
        let apart : j ≢ key = λ e. let wrong : Some node ≡ None = sym found ∙ ap (get nodes) e ∙ vacant in cc in
        (updates.others j apart ∙ found, owner-other j apart ∙ owned)

    pushed-same : stack_at pushed slot ≡ higher
    pushed-same = get_or-set_same stacks slot higher no_stack slot_there

    pushed-other : (o : ℕ) → o ≢ slot → stack_at pushed o ≡ stack_at stacks o
    pushed-other o ne = get_or-set_other stacks slot o higher no_stack ne

    old-chain : IsChain nodes k.owner slot s.height s.top
    old-chain = subst (λ (x : Stack). IsChain nodes k.owner slot x.height x.top) (sym same) (k.chains slot)

    new-chain : IsChain after owner slot (suc s.height) (Some key)
    new-chain = (
      record { key = key; node = record { nested = nested; below = s.top }; is = refl; there = updates.changed; owned = owner-same },
      chain-kept nodes after k.owner owner slot s.height s.top (stays slot s.height) old-chain,
    )

    new-height : suc s.height ≡ s.height + 1
    new-height = omega arith

    chains : (o : ℕ) → IsChain after owner o (stack_at pushed o).height (stack_at pushed o).top
    chains o =
        elim (eqb_tells o slot) [
          | inl e ↦ subst (λ (j : ℕ). IsChain after owner j (stack_at pushed j).height (stack_at pushed j).top) (sym e.1)
              (subst (λ (x : Stack). IsChain after owner slot x.height x.top) (sym pushed-same) (subst (λ h. IsChain after owner slot h (Some key)) new-height new-chain))
          | inr e ↦ subst (λ (x : Stack). IsChain after owner o x.height x.top) (sym (pushed-other o e.1))
              (chain-kept nodes after k.owner owner o (stack_at stacks o).height (stack_at stacks o).top (stays o (stack_at stacks o).height) (k.chains o))
        ]

    few : (o : ℕ) → (stack_at pushed o).height ≤ MAX_HEIGHT
    few o =
        elim (eqb_tells o slot) [
          | inl e ↦ omega (arith, ap (λ (j : ℕ). (stack_at pushed j).height) e.1, ap (λ (x : Stack). x.height) pushed-same, read-low s read)
          | inr e ↦ omega (arith, ap (λ (x : Stack). x.height) (pushed-other o e.1), k.few o)
        ]

    pub push-held : HoldsStacks after pushed
    push-held = record {
      owner = owner;
      chains = chains;
      few = few;
      count = omega (arith, count, k.count, ap (λ (x : Stack). x.height) same, sum_by-set (λ (x : Stack). x.height) stacks slot higher no_stack slot_there);
      room = omega (arith, k.room, capacity, length-set stacks slot higher);
    }

    new-rows : rows_of after (stack_at pushed slot) ≡ stack now slot ++ nested ∷ []
    new-rows =
        ap (rows_of after) pushed-same
        ∙ ap (λ h. rows_from after h (Some key)) (sym new-height)
        ∙ rows_from-step after s.height (Some key) key (record { nested = nested; below = s.top }) refl updates.changed
        ∙ ap (λ xs. xs ++ nested ∷ []) (rows-kept nodes after k.owner owner slot s.height s.top (stays slot s.height) old-chain ∙ ap (rows_of nodes) same ∙ sym (stack-is nodes stacks now view k slot))

    pub push-seen : map (rows_of after) pushed ≡ with_stack now slot (stack now slot ++ nested ∷ [])
    push-seen =
        seen-changed nodes after stacks pushed slot (stack now slot ++ nested ∷ []) (length-set stacks slot higher) slot_there new-rows
        (λ o ne. ap (rows_of after) (pushed-other o ne) ∙ rows-kept nodes after k.owner owner o (stack_at stacks o).height (stack_at stacks o).top (stays o (stack_at stacks o).height) (k.chains o))
        ∙ ap (λ (v : Stacks). with_stack v slot (stack now slot ++ nested ∷ [])) view
