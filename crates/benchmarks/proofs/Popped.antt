-- A row that is pushed and popped: the stacks are then as they were.
use Rattle.std.proofs.Common.{◌≡◌, ◌-◌, ◌<◌, ℕ, List, [], ◌∷◌, ◌++◌, Some, length, take, refl, sym, ◌∙◌, ap, subst, arith, length-append}
use Rattle.std.specs.Prelude.{slice_get, slice_set}
use Rattle.std.specs.Option.{option_map_or}
use Rattle.std.proofs.lemmas.List.{get_or-set_same, length-set, set-get_or, set-set, set_at, take_at}
use Rattle.job_step.specs.declared.frames.Frame.{Frame}
use Rattle.nest_stack.specs.declared.stack.Nested.{Nested}
use Rattle.nest_stack.specs.Nest.{Stacks, stack, with_stack, top, below, with_top_frame}

slice_get-last : (rows : List Nested) (x : Nested) → slice_get (rows ++ x ∷ []) (length rows) ≡ Some x
slice_get-last [] x = refl
slice_get-last (r ∷ rows) x = slice_get-last rows x

last : (rows : List Nested) (x : Nested) → length (rows ++ x ∷ []) - 1 ≡ length rows
last rows x = omega (arith, length-append rows (x ∷ []))

below-last : (rows : List Nested) (x : Nested) → below (rows ++ x ∷ []) (length (rows ++ x ∷ [])) ≡ rows
below-last rows x = ap (λ k. take k (rows ++ x ∷ [])) (last rows x) ∙ take_at rows (x ∷ []) (length rows) refl

with_top_frame-last : (rows : List Nested) (x : Nested) (frame : Frame) → with_top_frame (rows ++ x ∷ []) frame ≡ rows ++ record x { frame = frame } ∷ []
with_top_frame-last rows x frame =
    let topmost : top (rows ++ x ∷ []) ≡ Some x = ap (λ k. slice_get (rows ++ x ∷ []) k) (last rows x) ∙ slice_get-last rows x in
    ap (λ o. option_map_or (λ (t : Nested). slice_set (rows ++ x ∷ []) (length (rows ++ x ∷ []) - 1) (record t { frame = frame })) o (rows ++ x ∷ [])) topmost
    ∙ ap (λ k. slice_set (rows ++ x ∷ []) k (record x { frame = frame })) (last rows x)
    ∙ set_at rows x [] (record x { frame = frame }) (length rows) refl

module _ (stacks : Stacks) (slot : ℕ) (within : slot < length stacks) (x : Nested) (frame : Frame) where
  abbrev pub pushed : Stacks
  pushed = with_stack stacks slot (stack stacks slot ++ x ∷ [])

  abbrev pub framed : Stacks
  framed = with_stack pushed slot (with_top_frame (stack pushed slot) frame)

  stack-pushed : stack pushed slot ≡ stack stacks slot ++ x ∷ []
  stack-pushed = get_or-set_same stacks slot (stack stacks slot ++ x ∷ []) [] within

  stack-framed : stack framed slot ≡ stack stacks slot ++ record x { frame = frame } ∷ []
  stack-framed =
      let there : slot < length pushed = subst (λ n. slot < n) (sym (length-set stacks slot (stack stacks slot ++ x ∷ []))) within in
      get_or-set_same pushed slot (with_top_frame (stack pushed slot) frame) [] there ∙ ap (λ s. with_top_frame s frame) stack-pushed ∙ with_top_frame-last (stack stacks slot) x frame

  popped : with_stack framed slot (below (stack framed slot) (length (stack framed slot))) ≡ stacks
  popped =
      ap (λ s. with_stack framed slot (below s (length s))) stack-framed
      ∙ ap (λ s. with_stack framed slot s) (below-last (stack stacks slot) (record x { frame = frame }))
      ∙ set-set pushed slot (with_top_frame (stack pushed slot) frame) (stack stacks slot)
      ∙ set-set stacks slot (stack stacks slot ++ x ∷ []) (stack stacks slot)
      ∙ set-get_or stacks slot []

  pub popped-is : (more changed less : Stacks) → more ≡ pushed → changed ≡ with_stack more slot (with_top_frame (stack more slot) frame) →
      less ≡ with_stack changed slot (below (stack changed slot) (length (stack changed slot))) → less ≡ stacks
  popped-is more changed less pushes frames pops =
      let is : changed ≡ framed = frames ∙ ap (λ n. with_stack n slot (with_top_frame (stack n slot) frame)) pushes in
      pops ∙ ap (λ n. with_stack n slot (below (stack n slot) (length (stack n slot)))) is ∙ popped
