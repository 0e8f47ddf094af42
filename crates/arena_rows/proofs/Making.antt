-- What the calls of the leaves ask for where a row is made.
use Rattle.std.proofs.Common.{◌≡◌, ℕ, ◌+◌, ◌==◌, ◌<◌, ◌≤◌, length, Option, Some, None, true, false, refl, ap, ◌∙◌, arith, inl, inr, length-set, unwrap_or}
use Rattle.std.specs.Prelude.{is_some, slice_index_or, slice_set}
use Rattle.std.specs.Option.{ForSome, option_map}
use Rattle.std.proofs.lemmas.Bool.{cases_eq}
use Rattle.std.proofs.lemmas.List.{get_or-set_same, get_or-set_other}
use Rattle.region_tag.specs.declared.row_id.RowId.{RowId}
use Rattle.region_tag.specs.declared.regions.Tagged.{Tagged}
use Rattle.region_tag.specs.Region as tags
use Rattle.region_tag.specs.Region.{Table, IsEntered, tagged}
use Rattle.ready_pool.specs.Ready.{IsRegionEntered}
use Rattle.tenant_model.specs.State.{State, row}
use Rattle.tenant_model.specs.Walks.{is_open, region_of}
use Rattle.tenant_model.specs.Changes.{open_rows}
use Rattle.tenant_model.proofs.Within.{region_within, within_above}
use Rattle.tenant_model.proofs.AttendedSteps.{open_there}
use Rattle.arena_rows.specs.declared.rows.OpenRow.{OpenRow}
use Rattle.arena_rows.specs.Held.{Held, HasFreePlace}
use Rattle.arena_rows.specs.Represents.{id_of, at_place, tag_of, IsFree, Holds, Rests}
use Rattle.arena_rows.specs.HeldChanges.{next_id, outer_of, is_region_source, entered, CanWait}
use Rattle.arena_rows.proofs.Tops.{region_there}
use Rattle.arena_rows.proofs.Putting.{regions_entered, earlier_all, apart_all, room}

-- a free place, which the next row may take
pub record IsNext (a : Held) (p : ℕ) : Type 0 where
  pub within : p < length a.table
  pub low : p < a.config.rows
  pub vacant : at_place a.table p ≡ None
  pub regions : length a.regions ≡ length a.table
  pub untagged : slice_index_or a.regions p None ≡ None

module _ (a : Held) (s : State) (is : Holds a s) where
  pub is_next : (p : ℕ) → IsFree a.table p → IsNext a p
  is_next p free = record {
    within = free.within;
    low = omega (arith, free.within, is.free.long);
    vacant = free.vacant;
    regions = is.tags.long;
    untagged = is.tags.each p ∙ ap (option_map _) free.vacant;
  }

  pub free_room : HasFreePlace a → open_rows s.rows < a.config.rows
  free_room some = omega (arith, some, is.free.count, is.free.long)

  by_region : (n : ℕ) (o : Option ℕ) → region_of s.rows n ≡ o → 1 ≤ n → n ≤ length s.rows → ForSome (option_map (id_of is.places) o) (λ (r : RowId). r.number < a.made + 1)
  by_region n None found from to = λ x none. absurd (let no : None ≡ Some x = none in grind (arith, ap is_some no))
  by_region n (Some q) found from to = λ x same.
      let e : id_of is.places q ≡ x = ap (λ o. unwrap_or o x) same in
      let number : q ≡ x.number = ap (λ (r : RowId). r.number) e in
      let precede = is.steady.formed.linked.makers in
      let above = within_above s.rows precede n n q (omega arith) from to (region_within s.rows precede n n q (omega arith) from to found) in
      omega (arith, number, above, to, is.made)

  -- the tag of an open row, of which a row is made
  module _ (n : ℕ) (opened : is_open (row s.rows n).phase ≡ true) where
    pub tag_there : tags.region_of a.regions (id_of is.places n) ≡ tag_of s.rows is.places n
    tag_there = region_there s.rows is.places a.table a.regions is.table is.tags n opened

    pub tag_earlier : ForSome (tags.region_of a.regions (id_of is.places n)) (λ (r : RowId). r.number < a.made + 1)
    tag_earlier = let there = open_there s.rows n opened in rw tag_there (by_region n (region_of s.rows n) refl there.0 there.1)

-- What is entered stays so where another place is taken.
entered_kept : (regions : Table) (p : ℕ) (x : Tagged) (r : RowId) → slice_index_or regions p None ≡ None → IsEntered regions r → IsEntered (slice_set regions p (Some x)) r
entered_kept regions p x r vacant is = elim (cases_eq r.place p) [
  | inl same ↦
      let none : slice_index_or regions r.place None ≡ None = ap (λ k. slice_index_or regions k None) same ∙ vacant in
      absurd (let no : is_some (tags.get regions r) ≡ false = rw none refl in grind (arith, no, is))
  | inr other ↦ let same = get_or-set_other regions p r.place (Some x) None other in rw same is
]

region_kept : (regions : Table) (p : ℕ) (x : Tagged) (o : Option RowId) → slice_index_or regions p None ≡ None → IsRegionEntered regions o → IsRegionEntered (slice_set regions p (Some x)) o
region_kept regions p x o vacant is = λ r some. entered_kept regions p x r vacant (is r some)

-- the new row's own tag
pub new_tag : (a : Held) (p : ℕ) (e : OpenRow) → p < length a.regions →
    tags.region_of (entered a p e).regions (next_id a p) ≡ (tagged (next_id a p) (outer_of a.regions e.source) (is_region_source e.source)).tag
new_tag a p e within =
    let there : slice_index_or (entered a p e).regions p None ≡ Some (tagged (next_id a p) (outer_of a.regions e.source) (is_region_source e.source)) = get_or-set_same a.regions p _ None within in
    let same : ((a.made + 1) == (a.made + 1)) ≡ true = grind arith in
    rw (there, same) refl

-- A row that has been entered can wait.
pub can_wait : (a : Held) (s : State) (rests : Rests a s) (p : ℕ) (b : Held) (e : OpenRow) (made_on : Option ℕ) → IsFree a.table p → HasFreePlace a → b.regions ≡ (entered a p e).regions →
    b.pool ≡ a.pool → ForSome made_on (λ t. t < a.config.slots) →
    is_region_source e.source ≡ false → IsRegionEntered a.regions (outer_of a.regions e.source) → CanWait b (next_id a p) made_on
can_wait a s rests p b e made_on free some regions pool on no_region outer =
    let is = rests.holds in
    let next = is_next a s is p free in
    let x = tagged (next_id a p) (outer_of a.regions e.source) (is_region_source e.source) in
    let its_tag : tags.region_of b.regions (next_id a p) ≡ outer_of a.regions e.source =
    ap (λ t. tags.region_of t (next_id a p)) regions ∙ new_tag a p e (omega (arith, next.within, next.regions)) ∙ rw no_region refl in
    record {
      room = rw pool (room a s rests (free_room a s is some));
      newest = rw pool (earlier_all a s rests);
      place = rw (pool, is.waiting) next.low;
      free = rw pool (apart_all a s rests p next.vacant);
      slot = rw (pool, is.waiting) on;
      places = rw (pool, is.waiting, regions) (length-set a.regions p (Some x) ∙ next.regions ∙ is.free.long);
      region = rw (its_tag, regions) (region_kept a.regions p x (outer_of a.regions e.source) next.untagged outer);
      regions = rw (pool, regions) (λ k d below. region_kept a.regions p x _ next.untagged (regions_entered a s rests k d below));
    }
