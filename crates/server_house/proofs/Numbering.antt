-- Lists whose elements have their places for numbers.
use Rattle.std.proofs.Common.{◌≡◌, ◌≢◌, ◌<◌, ℕ, List, [], ◌∷◌, ◌++◌, length, arith, inl, inr, ap, sym, ◌∙◌}
use Rattle.std.specs.Prelude.{All, IsPermutation, slice_index_or}
use Rattle.std.proofs.lemmas.List.{get_or_append_left, get_or_push, length-append}
use Rattle.std.proofs.lemmas.List.Elements.{All-append}
use Rattle.std.proofs.lemmas.List.Sorted.{All-permutation, IsPermutation-sym}
use Rattle.std.proofs.lemmas.Bool.{cases_eq}

module _ {X : Type 0} (number_of : X → ℕ) where
  abbrev pub IsNumbered : List X → Type 0
  IsNumbered xs = (k : ℕ) (d : X) → k < length xs → number_of (slice_index_or xs k d) ≡ k

  pub numbered_more : (xs : List X) (y : X) → IsNumbered xs → number_of y ≡ length xs → IsNumbered (xs ++ y ∷ [])
  numbered_more xs y before last k d low = elim (cases_eq k (length xs)) [
    | inl here ↦ ap number_of (get_or_push xs y d k (sym here)) ∙ last ∙ sym here
    | inr other ↦
        let within : k < length xs = (let long = length-append xs (y ∷ []) in omega (arith, low, long, other)) in
        ap number_of (get_or_append_left xs (y ∷ []) d k within) ∙ before k d within
  ]

  -- If numbers from 0 on are taken from a list, and what is left lacks the next one, the list lacks it.
  pub lacks_next : (xs taken left : List X) → IsPermutation xs (taken ++ left) → IsNumbered taken → All (λ x. number_of x ≢ length taken) left → All (λ x. number_of x ≢ length taken) xs
  lacks_next xs taken left moved numbered lacks =
      let IsOther : X → Type 0 = λ x. number_of x ≢ length taken in
      let others : All IsOther taken = λ k d low same. omega (arith, low, numbered k d low, same) in
      All-permutation IsOther (taken ++ left) xs (IsPermutation-sym xs (taken ++ left) moved) (All-append IsOther taken left others lacks)
