-- What a thread sees of one tenant's history, and of the others.
use Rattle.std.proofs.Common.{◌≡◌, ℕ, ◌<◌, List, length, slice_index_or, slice_set, ap, sym, subst, ◌∙◌, arith, inl, inr}
use Rattle.std.proofs.lemmas.Bool.{cases_eq}
use Rattle.std.proofs.lemmas.List.{get_or_default, get_or-set_same, get_or-set_other, length-set}
use Rattle.tenant_book.specs.Fronts.{FrontData, no_front}
use Rattle.tenant_lock.specs.Doors.{DoorData, IsFrontOf}
use Rattle.server_doors.specs.Slots.{AreFronts, SeesOn}

-- A front that is set in its place was seen on from there.
pub sees_on : (tenant : ℕ) (before after : List FrontData) (seen now : FrontData) (sees : FrontData → FrontData → Type 0) → tenant < length before → seen ≡ slice_index_or before tenant seen →
    after ≡ slice_set before tenant now → sees seen now → SeesOn tenant before after sees
sees_on tenant before after seen now sees low is others holds = record {
  now = now;
  others = others;
  own = subst (λ (f : FrontData). sees f now) (is ∙ get_or_default before tenant seen no_front low) holds;
}

-- A front of the same life in the place of one of them is one of the life's.
pub fronts_set : (doors : List DoorData) (before after : List FrontData) (tenant : ℕ) (d : DoorData) (now : FrontData) → AreFronts doors before → d ≡ slice_index_or doors tenant d → IsFrontOf d now →
    after ≡ slice_set before tenant now → AreFronts doors after
fronts_set doors before after tenant d now are door is others = subst (λ (fs : List FrontData). AreFronts doors fs) (sym others) (record {
  count = length-set before tenant now ∙ are.count;
  each = λ k e f low. elim (cases_eq k tenant) [
    | inl here ↦
        let within : tenant < length before = omega (arith, low, are.count, here) in
        subst (λ (j : ℕ). IsFrontOf (slice_index_or doors j e) (slice_index_or (slice_set before tenant now) j f)) (sym here)
        (subst (λ (x : FrontData). IsFrontOf (slice_index_or doors tenant e) x) (sym (get_or-set_same before tenant now f within))
        (subst (λ (x : DoorData). IsFrontOf x now) (door ∙ get_or_default doors tenant d e (omega (arith, low, here))) is))
    | inr other ↦ subst (λ (x : FrontData). IsFrontOf (slice_index_or doors k e) x) (sym (get_or-set_other before tenant k now f other)) (are.each k e f low)
  ];
})
