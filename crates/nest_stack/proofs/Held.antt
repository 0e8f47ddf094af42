-- The stacks as a row comes or goes, or changes.
use Rattle.std.proofs.Common.{◌≡◌, ◌≢◌, ◌<◌, ◌≤◌, ◌+◌, ◌-◌, ℕ, zero, suc, List, [], ◌∷◌, ◌++◌, Option, Some, None, is_some, get_or, take, length, map, refl, sym, ◌∙◌, ap, subst, inl, inr, arith}
use Rattle.std.specs.Prelude.{slice_get, slice_set, sum_by}
use Rattle.std.specs.Option.{option_and_then, option_map}
use Rattle.std.proofs.lemmas.Option.{slice_get-get_or}
use Rattle.std.proofs.lemmas.Bool.Decides.{eqb_tells}
use Rattle.std.proofs.lemmas.List.{take_at, get_or_at, get_or_default, get_or-set_same, get_or-set_other, length-set, length-map, length_push}
use Rattle.std.proofs.lemmas.List.Sums.{sum_by-set}
use Rattle.slab.specs.Slab.{Slab, ContainsKey, get, slab_len, Updates}
use Rattle.nest_stack.specs.declared.stack.Nested.{Nested}
use Rattle.nest_stack.specs.declared.stack.Node.{Node}
use Rattle.nest_stack.specs.declared.stack.Stack.{Stack}
use Rattle.nest_stack.specs.declared.stack.TheConstants.{MAX_HEIGHT}
use Rattle.nest_stack.specs.Nest.{Stacks, stack, with_stack, top, below}
use Rattle.nest_stack.specs.Chain.{rows_from, rows_of, no_stack, stack_at, IsTop, IsChain, HoldsStacks}
use Rattle.nest_stack.proofs.Chains.{rows_from-step, length-rows, Stays, chain-kept, rows-kept, seen, seen-changed}

abbrev heights : List Stack → ℕ
heights stacks = sum_by (λ (s : Stack). s.height) stacks

-- the topmost row of a stack, and the rows below it
pub record Topmost (nodes : Slab Node) (owner : ℕ → ℕ × ℕ) (slot : ℕ) (s : Stack) : Type 0 where
  pub below : ℕ
  pub height : s.height ≡ suc below
  pub at : IsTop nodes owner slot below s.top
  pub chain : IsChain nodes owner slot below at.node.below

topmost_from : (nodes : Slab Node) (owner : ℕ → ℕ × ℕ) (slot : ℕ) (s : Stack) (h : ℕ) → s.height ≡ h → 0 < h → IsChain nodes owner slot h s.top → Topmost nodes owner slot s
topmost_from nodes owner slot s zero is some chain = absurd (omega arith)
topmost_from nodes owner slot s (suc n) is some chain = record { below = n; height = is; at = chain.0; chain = chain.1 }

pub length-seen : (nodes : Slab Node) (stacks : List Stack) (k : HoldsStacks nodes stacks) (slot : ℕ) → length (rows_of nodes (stack_at stacks slot)) ≡ (stack_at stacks slot).height
length-seen nodes stacks k slot = length-rows nodes k.owner slot (stack_at stacks slot).height (stack_at stacks slot).top (k.chains slot)

pub last-of : (xs : List Nested) (x : Nested) → top (xs ++ x ∷ []) ≡ Some x
last-of xs x =
    let long = length_push xs x in
    let at : length (xs ++ x ∷ []) - 1 ≡ length xs = omega arith in
    ap (slice_get (xs ++ x ∷ [])) at ∙ slice_get-get_or (xs ++ x ∷ []) (length xs) x (omega arith) ∙ ap Some (get_or_at xs x [] x (length xs) refl)

-- What stands at the top of a chain is its topmost row.
pub top-found : (nodes : Slab Node) (owner : ℕ → ℕ × ℕ) (slot n : ℕ) (at : Option ℕ) → IsChain nodes owner slot n at →
    top (rows_from nodes n at) ≡ option_map (λ (m : Node). m.nested) (option_and_then (get nodes) at)
top-found nodes owner slot zero at k = sym (ap (λ (o : Option ℕ). option_map (λ (m : Node). m.nested) (option_and_then (get nodes) o)) k)
top-found nodes owner slot (suc n) at k =
    let t = k.0 in
    ap top (rows_from-step nodes n at t.key t.node t.is t.there) ∙ last-of (rows_from nodes n t.node.below) t.node.nested
    ∙ sym (ap (λ (o : Option ℕ). option_map (λ (m : Node). m.nested) (option_and_then (get nodes) o)) t.is ∙ ap (option_map (λ (m : Node). m.nested)) t.there)

-- the stacks as they are seen before a call
without_last : (xs : List Nested) (x : Nested) → below (xs ++ x ∷ []) (length (xs ++ x ∷ [])) ≡ xs
without_last xs x =
    let long = length_push xs x in
    let at : length (xs ++ x ∷ []) - 1 ≡ length xs = omega arith in
    ap (λ n. take n (xs ++ x ∷ [])) at ∙ take_at xs (x ∷ []) (length xs) refl

module _ (nodes : Slab Node) (stacks : List Stack) (now : Stacks) (view : map (rows_of nodes) stacks ≡ now) (k : HoldsStacks nodes stacks) (slot : ℕ) where
  pub stack-is : stack now slot ≡ rows_of nodes (stack_at stacks slot)
  stack-is = ap (λ (v : Stacks). stack v slot) (sym view) ∙ seen nodes stacks slot

  pub height-is : length (stack now slot) ≡ (stack_at stacks slot).height
  height-is = ap length stack-is ∙ length-seen nodes stacks k slot

  pub within : slot < length now → slot < length stacks
  within there = omega (arith, there, ap length view, length-map stacks (rows_of nodes))

  pub read-is : (s : Stack) → slot < length now → s ≡ get_or stacks slot s → s ≡ stack_at stacks slot
  read-is s there read = read ∙ get_or_default stacks slot s no_stack (within there)

  pub top-is : (s : Stack) (o : Option Node) → slot < length now → s ≡ get_or stacks slot s → o ≡ option_and_then (get nodes) s.top → option_map (λ (m : Node). m.nested) o ≡ top (stack now slot)
  top-is s o there read is =
      ap (option_map (λ (m : Node). m.nested)) (is ∙ ap (λ (x : Stack). option_and_then (get nodes) x.top) (read-is s there read))
      ∙ sym (ap top stack-is ∙ top-found nodes k.owner slot (stack_at stacks slot).height (stack_at stacks slot).top (k.chains slot))

  pub topmost : 0 < length (stack now slot) → Topmost nodes k.owner slot (stack_at stacks slot)
  topmost some = topmost_from nodes k.owner slot (stack_at stacks slot) (stack_at stacks slot).height refl (omega (arith, height-is)) (k.chains slot)

  -- A stack that has rows has a topmost one.
  pub not-empty : (s : Stack) → slot < length now → s ≡ get_or stacks slot s → 0 < length (stack now slot) → s.top ≡ None → ⊥
  not-empty s there read some none =
      let t = topmost some in
      let wrong : Some t.at.key ≡ None = sym t.at.is ∙ ap (λ (x : Stack). x.top) (sym (read-is s there read)) ∙ none in
      cc

  module _ (t : Topmost nodes k.owner slot (stack_at stacks slot)) where
    pub key-is : (s : Stack) (key : ℕ) → slot < length now → s ≡ get_or stacks slot s → s.top ≡ Some key → key ≡ t.at.key
    key-is s key there read is =
        let both : Some key ≡ Some t.at.key = sym is ∙ ap (λ (x : Stack). x.top) (read-is s there read) ∙ t.at.is in
        cc

    pub node-is : (key : ℕ) (node : Node) → key ≡ t.at.key → get nodes key ≡ Some node → node ≡ t.at.node
    node-is key node same value =
        let both : Some node ≡ Some t.at.node = sym value ∙ ap (get nodes) same ∙ t.at.there in
        cc

    pub has-key : (key : ℕ) → key ≡ t.at.key → ContainsKey nodes key
    has-key key same = ap (λ (o : Option Node). is_some o) (ap (get nodes) same ∙ t.at.there)

    abbrev pub rest : List Nested
    rest = rows_from nodes t.below t.at.node.below

    pub top-rows : stack now slot ≡ rest ++ t.at.node.nested ∷ []
    top-rows = stack-is ∙ ap (λ h. rows_from nodes h (stack_at stacks slot).top) t.height ∙ rows_from-step nodes t.below (stack_at stacks slot).top t.at.key t.at.node t.at.is t.at.there

    pub length-rest : length rest ≡ t.below
    length-rest = length-rows nodes k.owner slot t.below t.at.node.below t.chain

    pub top-seen : top (stack now slot) ≡ Some t.at.node.nested
    top-seen = ap top top-rows ∙ last-of rest t.at.node.nested

    pub rest-seen : below (stack now slot) (length (stack now slot)) ≡ rest
    rest-seen = ap (λ xs. below xs (length xs)) top-rows ∙ without_last rest t.at.node.nested

    -- A write, or a removal, at the position of the topmost row leaves all others.
    pub other-height : (after : Slab Node) (o : Option Node) → Updates nodes after t.at.key o → Stays nodes after k.owner k.owner slot t.below
    other-height after o updates key m node low there owned =
        let apart : key ≢ t.at.key = λ same. let level : m ≡ t.below = ap (λ (p : ℕ × ℕ). p.1) (sym owned ∙ ap k.owner same ∙ t.at.owned) in omega arith in
        (updates.others key apart ∙ there, owned)

    pub other-slot : (after : Slab Node) (o : Option Node) → Updates nodes after t.at.key o → (s n : ℕ) → s ≢ slot → Stays nodes after k.owner k.owner s n
    other-slot after o updates s n ne key m node low there owned =
        let apart : key ≢ t.at.key = λ same. ne (ap (λ (p : ℕ × ℕ). p.0) (sym owned ∙ ap k.owner same ∙ t.at.owned)) in
        (updates.others key apart ∙ there, owned)

    -- the row is taken
    module _ (slot_there : slot < length stacks) (after : Slab Node) (updates : Updates nodes after t.at.key None) (count : slab_len after + 1 ≡ slab_len nodes)
        (capacity : after.capacity ≡ nodes.capacity) where
      abbrev pub lower : Stack
      lower = record { top = t.at.node.below; height = t.below }

      abbrev pub popped : List Stack
      popped = slice_set stacks slot lower

      popped-same : stack_at popped slot ≡ lower
      popped-same = get_or-set_same stacks slot lower no_stack slot_there

      popped-other : (s : ℕ) → s ≢ slot → stack_at popped s ≡ stack_at stacks s
      popped-other s ne = get_or-set_other stacks slot s lower no_stack ne

      popped-chain : (s : ℕ) → IsChain after k.owner s (stack_at popped s).height (stack_at popped s).top
      popped-chain s =
          elim (eqb_tells s slot) [
            | inl e ↦ subst (λ (j : ℕ). IsChain after k.owner j (stack_at popped j).height (stack_at popped j).top) (sym e.1)
                (subst (λ (x : Stack). IsChain after k.owner slot x.height x.top) (sym popped-same)
                (chain-kept nodes after k.owner k.owner slot t.below t.at.node.below (other-height after None updates) t.chain))
            | inr e ↦ subst (λ (x : Stack). IsChain after k.owner s x.height x.top) (sym (popped-other s e.1))
                (chain-kept nodes after k.owner k.owner s (stack_at stacks s).height (stack_at stacks s).top (other-slot after None updates s (stack_at stacks s).height e.1) (k.chains s))
          ]

      popped-few : (s : ℕ) → (stack_at popped s).height ≤ MAX_HEIGHT
      popped-few s =
          elim (eqb_tells s slot) [
            | inl e ↦ omega (arith, ap (λ (j : ℕ). (stack_at popped j).height) e.1, ap (λ (x : Stack). x.height) popped-same, t.height, k.few slot)
            | inr e ↦ omega (arith, ap (λ (x : Stack). x.height) (popped-other s e.1), k.few s)
          ]

      pub popped-held : HoldsStacks after popped
      popped-held = record {
        owner = k.owner;
        chains = popped-chain;
        few = popped-few;
        count = omega (arith, count, k.count, t.height, sum_by-set (λ (s : Stack). s.height) stacks slot lower no_stack slot_there);
        room = omega (arith, k.room, capacity, length-set stacks slot lower);
      }

      pub popped-seen : map (rows_of after) popped ≡ with_stack now slot (below (stack now slot) (length (stack now slot)))
      popped-seen =
          let kept = rows-kept nodes after k.owner k.owner slot t.below t.at.node.below (other-height after None updates) t.chain in
          seen-changed nodes after stacks popped slot rest (length-set stacks slot lower) slot_there
          (ap (rows_of after) popped-same ∙ kept)
          (λ s ne. ap (rows_of after) (popped-other s ne) ∙
          rows-kept nodes after k.owner k.owner s (stack_at stacks s).height (stack_at stacks s).top (other-slot after None updates s (stack_at stacks s).height ne) (k.chains s))
          ∙ ap (λ (v : Stacks). with_stack v slot rest) view ∙ ap (with_stack now slot) (sym rest-seen)

    -- the same, of what the call reads
    module _ (s : Stack) (there : slot < length now) (read : s ≡ get_or stacks slot s) (key : ℕ) (is : s.top ≡ Some key) (node : Node) (value : get nodes key ≡ Some node) (after : Slab Node)
        (updates : Updates nodes after key None) (count : slab_len after + 1 ≡ slab_len nodes) (capacity : after.capacity ≡ nodes.capacity) where
      abbrev pub left : Stack
      left = record { top = node.below; height = s.height - 1 }

      left-is : left ≡ lower (within there) after (subst (λ (j : ℕ). Updates nodes after j None) (key-is s key there read is) updates) count capacity
      left-is =
          let node_same = node-is key node (key-is s key there read is) value in
          let high : s.height - 1 ≡ t.below = omega (arith, ap (λ (x : Stack). x.height) (read-is s there read), t.height) in
          ap (λ (o : Option ℕ). record { top = o; height = s.height - 1 }) (ap (λ (m : Node). m.below) node_same) ∙ ap (λ (h : ℕ). record { top = t.at.node.below; height = h }) high

      pub pop-held : HoldsStacks after (slice_set stacks slot left)
      pop-held = subst (λ (x : Stack). HoldsStacks after (slice_set stacks slot x)) (sym left-is)
          (popped-held (within there) after (subst (λ (j : ℕ). Updates nodes after j None) (key-is s key there read is) updates) count capacity)

      pub pop-seen : map (rows_of after) (slice_set stacks slot left) ≡ with_stack now slot (below (stack now slot) (length (stack now slot)))
      pop-seen = ap (λ (x : Stack). map (rows_of after) (slice_set stacks slot x)) left-is ∙
          popped-seen (within there) after (subst (λ (j : ℕ). Updates nodes after j None) (key-is s key there read is) updates) count capacity

      pub pop-value : top (stack now slot) ≡ Some node.nested
      pop-value = top-seen ∙ ap (λ (m : Node). Some m.nested) (sym (node-is key node (key-is s key there read is) value))
