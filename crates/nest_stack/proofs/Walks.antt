-- Walks from the top of a stack downwards.
use Rattle.std.proofs.Common.{◌≡◌, ◌<◌, ◌≤◌, ◌+◌, ◌-◌, ℕ, zero, suc, Bool, true, false, if◌then◌else◌, List, [], ◌∷◌, ◌++◌, Option, Some, None, fold, length, take, refl, sym, ◌∙◌, ap, subst, arith}
use Rattle.std.specs.Prelude.{slice_get}
use Rattle.std.specs.List.{enumerate_from}
use Rattle.std.specs.Option.{option_and_then}
use Rattle.std.proofs.lemmas.List.{get_or_append_left, get_or_at, get_or-set_same, length_push, length-take-le, set-get_or, set-set, take_all, take-take}
use Rattle.std.proofs.lemmas.Option.{slice_get-get_or}
use Rattle.slab.specs.Slab.{Slab, get}
use Rattle.nest_stack.specs.declared.stack.Nested.{Nested}
use Rattle.nest_stack.specs.declared.stack.Node.{Node}
use Rattle.nest_stack.specs.declared.stack.Stack.{Stack}
use Rattle.nest_stack.specs.Nest.{Stacks, stack, with_stack, below, at_height, task_height}
use Rattle.nest_stack.specs.Chain.{rows_from, rows_of, IsChain, IsWhole}
use Rattle.nest_stack.proofs.Chains.{rows_from-step, length-rows}

abbrev pub found_in : Slab Node → Option ℕ → Option Node
found_in nodes top = option_and_then (get nodes) top

abbrev pub lower : Stack → Node → Stack
lower s node = record { top = node.below; height = s.height - 1 }

-- what is found at the top of a stack
ends_at : (nodes : Slab Node) (owner : ℕ → ℕ × ℕ) (slot n : ℕ) (top : Option ℕ) → IsChain nodes owner slot n top → found_in nodes top ≡ None → n ≡ 0
ends_at nodes owner slot zero top k none = refl
ends_at nodes owner slot (suc n) top k none =
    let t = k.0 in
    let wrong : None ≡ Some t.node = sym none ∙ ap (found_in nodes) t.is ∙ t.there in
    cc

pub ends : (nodes : Slab Node) (s : Stack) → IsWhole nodes s → found_in nodes s.top ≡ None → s.height ≡ 0
ends nodes s w none = ends_at nodes w.owner w.slot s.height s.top w.chain none

-- a row was found: there is one, and the rest of the stack below it
pub record HasRow (nodes : Slab Node) (s : Stack) (node : Node) : Type 0 where
  pub some : 1 ≤ s.height
  pub rows : rows_of nodes s ≡ rows_of nodes (lower s node) ++ node.nested ∷ []
  pub whole : IsWhole nodes (lower s node)
  pub long : length (rows_of nodes (lower s node)) + 1 ≡ s.height

has_row : (nodes : Slab Node) (owner : ℕ → ℕ × ℕ) (slot n : ℕ) (top : Option ℕ) (node : Node) → IsChain nodes owner slot n top → found_in nodes top ≡ Some node →
    HasRow nodes (record { top = top; height = n }) node
has_row nodes owner slot zero top node k found = let wrong : None ≡ Some node = ap (found_in nodes) (sym k) ∙ found in cc
has_row nodes owner slot (suc n) top node k found =
    let t = k.0 in
    let both : Some t.node ≡ Some node = sym (ap (found_in nodes) t.is ∙ t.there) ∙ found in
    let same : t.node ≡ node = cc in
    let one : suc n - 1 ≡ n = omega arith in
    let chain : IsChain nodes owner slot (suc n - 1) node.below = subst (λ h. IsChain nodes owner slot h node.below) (sym one) (subst (λ (m : Node). IsChain nodes owner slot n m.below) same k.1) in
    record {
      some = omega arith;
      rows = rows_from-step nodes n top t.key node t.is (t.there ∙ ap Some same) ∙ ap (λ h. rows_from nodes h node.below ++ node.nested ∷ []) (sym one);
      whole = record { owner = owner; slot = slot; chain = chain };
      long = omega (arith, one, length-rows nodes owner slot (suc n - 1) node.below chain);
    }

pub has-row : (nodes : Slab Node) (s : Stack) (node : Node) → IsWhole nodes s → found_in nodes s.top ≡ Some node → HasRow nodes s node
has-row nodes s node w found = has_row nodes w.owner w.slot s.height s.top node w.chain found

pub length-whole : (nodes : Slab Node) (s : Stack) → IsWhole nodes s → length (rows_of nodes s) ≡ s.height
length-whole nodes s w = length-rows nodes w.owner w.slot s.height s.top w.chain

pub at-below : (xs : List Nested) (x : Nested) (h : ℕ) → 1 ≤ h → h ≤ length xs → at_height (xs ++ x ∷ []) h ≡ at_height xs h
at-below xs x h from to =
    let long = length_push xs x in
    slice_get-get_or (xs ++ x ∷ []) (h - 1) x (omega (arith, from, to, long))
    ∙ ap Some (get_or_append_left xs (x ∷ []) x (h - 1) (omega (arith, from, to)))
    ∙ sym (slice_get-get_or xs (h - 1) x (omega (arith, from, to)))

pub at-top : (xs : List Nested) (x : Nested) (h : ℕ) → h ≡ length xs + 1 → at_height (xs ++ x ∷ []) h ≡ Some x
at-top xs x h is =
    let at : h - 1 ≡ length xs = omega (arith, is) in
    ap (slice_get (xs ++ x ∷ [])) at ∙ slice_get-get_or (xs ++ x ∷ []) (length xs) x (omega (arith, length_push xs x)) ∙ ap Some (get_or_at xs x [] x (length xs) refl)

abbrev task_in : ℕ → ℕ → List Nested → ℕ
task_in h n xs = fold (λ height (p : ℕ × Nested). if p.1.is_region then height else p.0) h (enumerate_from n xs)

task-push : (h n : ℕ) (xs : List Nested) (x : Nested) → task_in h n (xs ++ x ∷ []) ≡ (if x.is_region then task_in h n xs else (n + length xs))
task-push h n [] x = let same : n ≡ n + 0 = omega arith in ap (λ m. if x.is_region then h else m) same
task-push h n (y ∷ ys) x =
    let same : n + 1 + length ys ≡ n + suc (length ys) = omega arith in
    task-push (if y.is_region then h else n) (n + 1) ys x ∙ ap (λ m. if x.is_region then task_in (if y.is_region then h else n) (n + 1) ys else m) same

pub task-region : (xs : List Nested) (x : Nested) → x.is_region ≡ true → task_height (xs ++ x ∷ []) ≡ task_height xs
task-region xs x is = task-push 0 1 xs x ∙ ap (λ (b : Bool). if b then task_height xs else (1 + length xs)) is

pub task-other : (xs : List Nested) (x : Nested) → x.is_region ≡ false → task_height (xs ++ x ∷ []) ≡ length xs + 1
task-other xs x is = task-push 0 1 xs x ∙ ap (λ (b : Bool). if b then task_height xs else (1 + length xs)) is ∙ omega arith

task-most : (h n : ℕ) (xs : List Nested) → h + 1 ≤ n + length xs → task_in h n xs + 1 ≤ n + length xs
task-most h n [] low = low
task-most h n (y ∷ ys) low = omega (arith, task-most (if y.is_region then h else n) (n + 1) ys (by_region y.is_region))
  where
    by_region : (b : Bool) → (if b then h else n) + 1 ≤ n + 1 + length ys
    by_region true = omega (arith, low)
    by_region false = omega arith

pub task-within : (xs : List Nested) → task_height xs ≤ length xs
task-within xs = omega (arith, task-most 0 1 xs (omega arith))

-- the lowest rows of a stack are left, and then one fewer
module _ (first now after : Stacks) (slot : ℕ) (there : slot < length first) (left : now ≡ with_stack first slot (take (length (stack now slot)) (stack first slot)))
    (most : length (stack now slot) ≤ length (stack first slot)) (some : 1 ≤ length (stack now slot)) (popped : after ≡ with_stack now slot (below (stack now slot) (length (stack now slot)))) where
  now-is : stack now slot ≡ take (length (stack now slot)) (stack first slot)
  now-is = ap (λ (v : Stacks). stack v slot) left ∙ get_or-set_same first slot (take (length (stack now slot)) (stack first slot)) [] there

  rest-is : below (stack now slot) (length (stack now slot)) ≡ take (length (stack now slot) - 1) (stack first slot)
  rest-is = ap (take (length (stack now slot) - 1)) now-is ∙ take-take (length (stack now slot) - 1) (length (stack now slot)) (stack first slot) (omega arith)

  after-is : after ≡ with_stack first slot (take (length (stack now slot) - 1) (stack first slot))
  after-is =
      popped ∙ ap (λ (v : Stacks). with_stack v slot (below (stack now slot) (length (stack now slot)))) left
      ∙ set-set first slot (take (length (stack now slot)) (stack first slot)) (below (stack now slot) (length (stack now slot)))
      ∙ ap (with_stack first slot) rest-is

  pub one-fewer : length (stack after slot) ≡ length (stack now slot) - 1
  one-fewer = ap (λ (v : Stacks). length (stack v slot)) after-is ∙ ap length (get_or-set_same first slot (take (length (stack now slot) - 1) (stack first slot)) [] there) ∙
      length-take-le (length (stack now slot) - 1) (stack first slot) (omega (arith, most))

  pub left-more : after ≡ with_stack first slot (take (length (stack after slot)) (stack first slot))
  left-more = after-is ∙ ap (λ n. with_stack first slot (take n (stack first slot))) (sym one-fewer)

pub left-all : (first : Stacks) (slot : ℕ) → first ≡ with_stack first slot (take (length (stack first slot)) (stack first slot))
left-all first slot = sym (ap (with_stack first slot) (take_all (length (stack first slot)) (stack first slot) (omega arith)) ∙ set-get_or first slot [])
