-- A cancellation that notes which contexts it cancels.
use Rattle.std.proofs.Common.{◌≡◌, ◌⊎◌, ◌||◌, ℕ, Bool, true, false, not, List, [], ◌∷◌, Option, Some, None, is_some, refl, sym, ◌∙◌, ap, inl, inr}
use Rattle.std.specs.Prelude.{Contains, slice_set}
use Rattle.std.specs.Option.{option_map_or}
use Rattle.cancel_context.specs.Forest.{Forest, Binding, binding, IsHeld, parent_in, parent, asks_in, is_cancelled, IsForest, with_request}
use Rattle.cancel_context.specs.Order.{HasBindingOrder}
use Rattle.cancel_context.specs.Flags.{flag, AreFlags, IsSpreading}
use Rattle.cancel_context.proofs.Chains.{IsForest-ordered}
use Rattle.cancel_context.proofs.Requests.{asks-requested, is_some-with_request, ordered-with_request}
use Rattle.cancel_context.proofs.Kept.{request-spreads, request-settles}
use Rattle.cancel_context.proofs.Spread.{bool_cases}

fine_none : (above : ℕ → Bool) (o : Option Binding) → is_some o ≡ false → (asks_in o || option_map_or above (parent_in o) false) ≡ false
fine_none above None e = refl
fine_none above (Some b) e = cc

-- an id that stands for no context is not cancelled
pub unheld-fine : (forest : Forest) (c : ℕ) → IsForest forest → is_some (binding forest c) ≡ false → is_cancelled forest c ≡ false
unheld-fine forest c sound none = sound.walk c ∙ fine_none (is_cancelled forest) (binding forest c) none

-- A request on a context: its flag is up afterwards.
module _ (forest : Forest) (c : ℕ) (flags : List Bool) (held : IsHeld forest c) (ordered : HasBindingOrder forest) (a : AreFlags forest flags) where
  abbrev after : Forest
  after = with_request forest c true

  follows : true ≡ (asks_in (binding after c) || option_map_or (flag flags) (parent after c) false)
  follows = sym (ap (λ b. b || option_map_or (flag flags) (parent after c) false) (asks-requested forest c held))

  pub noted-spreads : flag flags c ≡ false → IsSpreading after (slice_set flags c true) (c ∷ []) [] true
  noted-spreads down = request-spreads forest c true flags true held ordered a follows (ap not down)

  pub noted-settles : flag flags c ≡ true → AreFlags after flags
  noted-settles up = request-settles forest c true flags true held ordered a follows up

  -- what is cancelled now and was not had its flag turned
  pub noted-all : (turned : List Bool) (noted : List ℕ) → AreFlags after turned → ((d : ℕ) → (flag turned d ≡ flag flags d) ⊎ Contains noted d) → (d : ℕ) → is_cancelled after d ≡ true →
      is_cancelled forest d ≡ false → Contains noted d
  noted-all turned noted a_after each d now before =
      elim (bool_cases (is_some (binding after d))) [
        | inl there ↦ elim (each d) [
          | inl same ↦ let wrong : true ≡ false = sym now ∙ sym (a_after.says d there) ∙ same ∙ a.says d (sym (is_some-with_request forest c true held d) ∙ there) ∙ before in cc
          | inr noted ↦ noted
        ]
        | inr none ↦ let wrong : true ≡ false = sym now ∙ unheld-fine after d (IsForest-ordered after (ordered-with_request forest c true held ordered)) none in cc
      ]
