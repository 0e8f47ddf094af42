-- The top of a slot's stack.
use Rattle.std.proofs.Common.{◌≡◌, ℕ, ◌-◌, ◌==◌, ◌≤◌, List, length, Option, Some, None, true, refl, ◌∙◌, arith, inl, inr}
use Rattle.std.specs.Option.{option_map}
use Rattle.std.proofs.lemmas.Bool.{cases_lt}
use Rattle.std.proofs.lemmas.Option.{slice_get_within, slice_get_past}
use Rattle.region_tag.specs.declared.regions.Tagged.{Tagged}
use Rattle.region_tag.specs.Region as tags
use Rattle.nest_stack.specs.declared.stack.Nested.{Nested}
use Rattle.nest_stack.specs.Nest.{stack, at_height}
use Rattle.nest_stack.specs.Nest as nest
use Rattle.tenant_model.specs.declared.rows.Phase.{Phase}
use Rattle.tenant_model.specs.declared.rows.Phase.TheVariants.{Live}
use Rattle.tenant_model.specs.declared.rows.Row.{Row}
use Rattle.tenant_model.specs.State.{row}
use Rattle.tenant_model.specs.Walks.{is_open, height, top}
use Rattle.tenant_model.specs.WellFormed.{AreStacked}
use Rattle.tenant_model.proofs.Insides.{live_low}
use Rattle.tenant_model.proofs.Picks.{top_is, top_none}
use Rattle.arena_rows.specs.declared.rows.OpenRow.{OpenRow}
use Rattle.arena_rows.specs.Represents.{Places, id_of, AreRows, AreNests, nested_of, AreTagged, tag_of}

module _ (rows : List Row) (places : Places) (slots : ℕ) (nests : List (List Nested)) (stacked : AreStacked rows) (are : AreNests rows places slots nests) where
  low_of : (slot : ℕ) (o : Option ℕ) → top rows slot ≡ o → height rows slot ≤ length (stack nests slot)
  low_of slot None is = omega (arith, top_none rows slot stacked is)
  low_of slot (Some n) is =
      let its = top_is rows slot n is in
      let here = are.each n slot (height rows slot) its.2 in
      let within = slice_get_within (stack nests slot) (height rows slot - 1) (nested_of rows places n) here.2 in
      omega (arith, within, here.1)

  high_of : (slot : ℕ) → length (stack nests slot) ≤ height rows slot
  high_of slot = elim (cases_lt 0 (length (stack nests slot))) [
    | inl some ↦
        let found = are.only slot (length (stack nests slot)) some (omega arith) in
        (live_low rows stacked found.0 slot (length (stack nests slot)) found.1).1
    | inr none ↦ omega (arith, none)
  ]

  -- A stack is as high as the slot.
  pub height_is : (slot : ℕ) → length (stack nests slot) ≡ height rows slot
  height_is slot = omega (arith, low_of slot (top rows slot) refl, high_of slot)

  top_of : (slot : ℕ) (o : Option ℕ) → top rows slot ≡ o → nest.top (stack nests slot) ≡ option_map (nested_of rows places) o
  top_of slot None is =
      let none : length (stack nests slot) ≡ 0 = height_is slot ∙ top_none rows slot stacked is in
      slice_get_past (stack nests slot) (length (stack nests slot) - 1) (omega arith)
  top_of slot (Some n) is =
      let its = top_is rows slot n is in
      rw (height_is slot) (are.each n slot (height rows slot) its.2).2

  -- and its topmost row is the slot's
  pub top_of_stack : (slot : ℕ) → nest.top (stack nests slot) ≡ option_map (nested_of rows places) (top rows slot)
  top_of_stack slot = top_of slot (top rows slot) refl

module _ (rows : List Row) (places : Places) (table : List (Option OpenRow)) (regions : List (Option Tagged)) (are : AreRows rows places table) (tagged : AreTagged rows places table regions) where
  open_live : (p : Phase) (slot h : ℕ) → p ≡ Live slot h → is_open p ≡ true
  open_live p slot h live = rw live refl

  pub region_there : (n : ℕ) → is_open (row rows n).phase ≡ true → tags.region_of regions (id_of places n) ≡ tag_of rows places n
  region_there n opened =
      let stands = are.each n opened in
      let number : stands.entry.number ≡ n = stands.is.number in
      let same : (stands.entry.number == n) ≡ true = grind (arith, number) in
      rw (tagged.each (places n), stands.there, same) (rw number refl)
