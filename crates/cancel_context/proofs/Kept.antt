-- The flags as contexts come and go, and as requests are made.
use Rattle.std.proofs.Common.{◌≡◌, ◌<◌, ◌||◌, ℕ, Bool, true, false, not, List, [], ◌∷◌, Option, Some, None, is_some, length, refl, sym, ◌∙◌, ap, inl, inr, arith}
use Rattle.std.specs.Prelude.{slice_set, replicate}
use Rattle.std.specs.Option.{option_map_or}
use Rattle.std.proofs.lemmas.Bool.Decides.{eqb_tells}
use Rattle.std.proofs.lemmas.List.{get_or-set_same, get_or-set_other, length-set, length-replicate}
use Rattle.cancel_context.specs.Forest.{Forest, Binding, binding, IsHeld, parent, asks_in, is_cancelled, with_bound, with_request, without}
use Rattle.cancel_context.specs.Order.{HasBindingOrder}
use Rattle.cancel_context.specs.Flags.{flag, AreFlags, differs, IsSpreading}
use Rattle.cancel_context.proofs.Chains.{IsForest-ordered}
use Rattle.cancel_context.proofs.Requests.{binding-with_request_other, parent-with_request, is_some-with_request, ordered-with_request}
use Rattle.cancel_context.proofs.Bound.{binding-with_bound_other, is_cancelled-with_bound, is_cancelled-with_bound_other, nothing-held}
use Rattle.cancel_context.proofs.Released.{held_other, not_released, length-without, is_cancelled-without}
use Rattle.cancel_context.proofs.Spread.{above-same, spreading-start, flags-unturned}
use mathlib.Core.Bool.{beq}

pub AreFlags-replicate : (n : ℕ) → AreFlags (replicate n None) (replicate n false)
AreFlags-replicate n = record {
  size = length-replicate n false ∙ sym (length-replicate {A = Option Binding} n None);
  says = λ c h. absurd (nothing-held n c h);
}

pub AreFlags-with_bound : (forest : Forest) (c : ℕ) (o : Option ℕ) (flags : List Bool) → c < length forest → binding forest c ≡ None → ((q : ℕ) → o ≡ Some q → IsHeld forest q) →
    HasBindingOrder forest → AreFlags forest flags → AreFlags (with_bound forest c o) (slice_set flags c (option_map_or (flag flags) o false))
AreFlags-with_bound forest c o flags within free parents ordered a =
    let value = option_map_or (flag flags) o false in
    let inside : c < length flags = omega (arith, a.size) in
    record {
      size = length-set flags c value ∙ a.size ∙ sym (length-set forest c _);
      says = λ d h. elim (eqb_tells d c) [
        | inl s ↦ ap (flag (slice_set flags c value)) s.1 ∙ get_or-set_same flags c value false inside ∙ above-same (flag flags) (is_cancelled forest) o (λ p e. a.says p (parents p e)) ∙
            sym (ap (is_cancelled (with_bound forest c o)) s.1 ∙ is_cancelled-with_bound forest c o within free parents ordered)
        | inr s ↦ get_or-set_other flags c d value false s.1 ∙ a.says d (sym (ap is_some (binding-with_bound_other forest c o d s.1)) ∙ h) ∙
            sym (is_cancelled-with_bound_other forest c o free ordered d s.1)
      ];
    }

pub AreFlags-without : (forest : Forest) (c : ℕ) (flags : List Bool) → IsHeld forest c → HasBindingOrder forest → ((d : ℕ) → parent forest d ≡ Some c → is_cancelled forest c ≡ true) →
    AreFlags forest flags → AreFlags (without forest c) flags
AreFlags-without forest c flags held ordered ends a = record {
  size = a.size ∙ sym (length-without forest c);
  says = λ d h.
      let ne = not_released forest c d held h in
      a.says d (sym (held_other forest c d ne) ∙ h) ∙ sym (is_cancelled-without forest c held ordered ends d ne);
}

pub unequal-differs : (v b : Bool) → not (beq b v) ≡ true → differs v b ≡ true
unequal-differs true true e = cc
unequal-differs true false e = refl
unequal-differs false true e = refl
unequal-differs false false e = cc

pub not_unequal : (v b : Bool) → not (beq b v) ≡ false → b ≡ v
not_unequal true true e = refl
not_unequal true false e = cc
not_unequal false true e = cc
not_unequal false false e = refl

-- A request is made or taken back, and the flag of its context follows.
module _ (forest : Forest) (c : ℕ) (asked : Bool) (flags : List Bool) (value : Bool) (held : IsHeld forest c) (ordered : HasBindingOrder forest) (a : AreFlags forest flags)
    (follows : value ≡ (asks_in (binding (with_request forest c asked) c) || option_map_or (flag flags) (parent (with_request forest c asked) c) false)) where
  pub request-spreads : differs value (flag flags c) ≡ true → IsSpreading (with_request forest c asked) (slice_set flags c value) (c ∷ []) [] value
  request-spreads d = spreading-start forest (with_request forest c asked) c flags value (IsForest-ordered (with_request forest c asked) (ordered-with_request forest c asked held ordered)) ordered
      held a (length-set forest c _) (is_some-with_request forest c asked held) (parent-with_request forest c asked held) (λ d ne. binding-with_request_other forest c d asked ne) follows d

  pub request-settles : flag flags c ≡ value → AreFlags (with_request forest c asked) flags
  request-settles e = flags-unturned forest (with_request forest c asked) c flags value (IsForest-ordered (with_request forest c asked) (ordered-with_request forest c asked held ordered)) ordered held
      a (length-set forest c _) (is_some-with_request forest c asked held) (parent-with_request forest c asked held) (λ d ne. binding-with_request_other forest c d asked ne) follows
      (ordered-with_request forest c asked held ordered) e
