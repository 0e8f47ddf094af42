-- The topmost row of a slot as it ends.
use Rattle.std.proofs.Common.{◌≡◌, ℕ, ◌+◌, ◌-◌, ◌<◌, ℤ, List, [], length, Some, ap, ◌∙◌, arith, subst}
use Rattle.std.proofs.lemmas.List.{length-take-le, get_or-set_same}
use Rattle.region_tag.specs.declared.row_id.RowId.{RowId}
use Rattle.nest_stack.specs.declared.stack.Nested.{Nested}
use Rattle.nest_stack.specs.Nest as nest
use Rattle.nest_stack.specs.Nest.{stack, with_stack}
use Rattle.tenant_model.specs.State.{State}
use Rattle.tenant_model.specs.Walks.{top}
use Rattle.arena_rows.specs.declared.rows.OpenRow.{OpenRow}
use Rattle.arena_rows.specs.Held.{Held}
use Rattle.arena_rows.specs.Represents.{id_of, at_place, Holds, HasTop}
use Rattle.arena_rows.specs.Endings.{HasEnded, popped}
use Rattle.arena_rows.proofs.Grouped.{IsEntry, entry_of}
use Rattle.arena_rows.proofs.TopRows.{top_open, top_within, some_row}

-- what ends, and what is left
pub record IsOver (a b : Held) (s : State) (is : Holds a s) (n : ℕ) (v : ℤ) : Type 0 where
  pub e : OpenRow
  pub entry : IsEntry a s is n e
  pub over : HasEnded a b (id_of is.places n) e v

module _ (a b : Held) (id : RowId) (v : ℤ) (ends : (e : OpenRow) → at_place a.table id.place ≡ Some e → HasEnded a b id e v) where
  pub over_of : (s : State) (is : Holds a s) (n : ℕ) (e : OpenRow) → IsEntry a s is n e → id ≡ id_of is.places n → IsOver a b s is n v
  over_of s is n e entry same = record {
    e = e;
    entry = entry;
    over = subst (λ r. HasEnded a b r e v) same (ends e (ap (λ (r : RowId). at_place a.table r.place) same ∙ entry.there));
  }

  pub over_on_top : (s : State) (is : Holds a s) (slot n : ℕ) → top s.rows slot ≡ Some n → id ≡ id_of is.places n → IsOver a b s is n v
  over_on_top s is slot n on_top same = let found = entry_of a s is n (top_open a s is slot n on_top) in over_of s is n found.0 found.1 same

  same_nests : (slot : ℕ) → (h : HasTop a slot) → id ≡ id_of h.2.places h.1 → b.nests ≡ a.nests
  same_nests slot h same = ap (λ (x : Held). x.nests) (over_on_top h.0 h.2 slot h.1 h.3 same).over.rest

  pub still_within : (slot : ℕ) (h : HasTop a slot) → id ≡ id_of h.2.places h.1 → slot < length b.nests
  still_within slot h same = rw (same_nests slot h same) (top_within a slot h)

  pub still_some : (slot : ℕ) (h : HasTop a slot) → id ≡ id_of h.2.places h.1 → 0 < length (stack b.nests slot)
  still_some slot h same = rw (same_nests slot h same) (some_row a slot h)

  -- The slot has one row less.
  pub popped_short : (b' : Held) (slot : ℕ) (h : HasTop a slot) → id ≡ id_of h.2.places h.1 → b' ≡ popped b slot → length (stack b'.nests slot) + 1 ≡ length (stack a.nests slot)
  popped_short b' slot h same pops =
      let nests = same_nests slot h same in
      let some = some_row a slot h in
      let within = top_within a slot h in
      let xs = stack a.nests slot in
      let short : length (nest.below xs (length xs)) + 1 ≡ length xs = omega (arith, length-take-le (length xs - 1) xs (omega arith), some) in
      let now : b'.nests ≡ (popped a slot).nests = ap (λ (x : Held). x.nests) pops ∙ ap (λ ns. with_stack ns slot (nest.below (stack ns slot) (length (stack ns slot)))) nests in
      ap (λ ns. length (stack ns slot) + 1) now ∙ ap (λ (ys : List Nested). length ys + 1) (get_or-set_same a.nests slot (nest.below xs (length xs)) [] within) ∙ short
