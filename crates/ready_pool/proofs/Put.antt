-- A row that comes into a pool.
use Rattle.std.proofs.Common.{◌≡◌, ◌<◌, ◌≤◌, ◌+◌, ◌*◌, ℕ, suc, true, false, if◌then◌else◌, List, [], ◌∷◌, ◌++◌, length, Option, Some, None, refl, sym, ◌∙◌, ap, subst, inl, inr, arith}
use Rattle.std.specs.Prelude.{All, slice_index_or, is_some}
use Rattle.std.specs.Option.{option_and_then}
use Rattle.std.proofs.lemmas.Bool.Decides.{eqb_tells, leb_tells}
use Rattle.std.proofs.lemmas.List.{get_or_past}
use Rattle.std.proofs.Math.Nat.{mul-le-mul_right, suc-mul}
use Rattle.place_lists.specs.Lists.{list_in, IsIn}
use Rattle.slab.specs.Slab.{get as value_at}
use Rattle.region_tag.specs.declared.row_id.RowId.{RowId}
use Rattle.region_tag.specs.declared.regions.Tagged.{Tagged}
use Rattle.region_tag.specs.Region.{Table, get, of_row}
use Rattle.ready_pool.specs.declared.pool.Waiting.{Waiting}
use Rattle.ready_pool.specs.Ready.{IsRegionEntered}
use Rattle.ready_pool.specs.Parts.{PoolParts, HoldsRows, AreAlike, Waits, rows_of, place_of, number_of, all_key, slot_key, region_key, both_key}
use Rattle.ready_pool.proofs.Rows.{Waits-of_All, Waits-append, row-same}
use Rattle.ready_pool.proofs.Keyed.{listed-free}
use Rattle.ready_pool.proofs.Holding.{rows_of-is}

of_row-is : (row : RowId) (u t : Tagged) → of_row row u ≡ Some t → (u ≡ t) × (u.number ≡ row.number)
of_row-is row u t e =
    elim (eqb_tells u.number row.number) [
      | inl h ↦ let both : Some u ≡ Some t = sym (ap (λ b. if b then Some u else None) h.0) ∙ e in (cc, h.1)
      | inr h ↦ let none : None ≡ Some t = sym (ap (λ b. if b then Some u else None) h.0) ∙ e in cc
    ]

get-is : (row : RowId) (o : Option Tagged) (t : Tagged) → option_and_then (of_row row) o ≡ Some t → (o ≡ Some t) × (t.number ≡ row.number)
get-is row None t e = cc
get-is row (Some u) t e = let there = of_row-is row u t e in (ap Some there.0, ap (λ (v : Tagged). v.number) (sym there.0) ∙ there.1)

entered-below : (table : Table) (row : RowId) (t : Tagged) → get table row ≡ Some t → row.place < length table
entered-below table row t e =
    elim (leb_tells (length table) row.place) [
      | inl h ↦ let none : None ≡ Some t = sym (get_or_past table row.place None h.1) ∙ (get-is row (slice_index_or table row.place None) t e).0 in cc
      | inr h ↦ h.1
    ]

entered-same : (table : Table) (r s : RowId) (t u : Tagged) → get table r ≡ Some t → get table s ≡ Some u → r.place ≡ s.place → r ≡ s
entered-same table r s t u e f p =
    let first = get-is r (slice_index_or table r.place None) t e in
    let second = get-is s (slice_index_or table s.place None) u f in
    let both : Some t ≡ Some u = sym first.0 ∙ ap (λ n. slice_index_or table n None) p ∙ second.0 in
    let same : t ≡ u = cc in
    let number : r.number ≡ s.number = sym first.1 ∙ ap (λ (v : Tagged). v.number) same ∙ second.1 in
    row-same r s number p

tagged-at : (o : Option Tagged) → is_some o ≡ true → (t : Tagged) × (o ≡ Some t)
tagged-at None e = let wrong : false ≡ true = e in cc
tagged-at (Some t) e = (t, refl)

-- the place of a region that is entered
pub region-below : (table : Table) (region : Option RowId) → IsRegionEntered table region → (place : ℕ) → place_of region ≡ Some place → place < length table
region-below table None entered place e = cc
region-below table (Some r) entered place e =
    let there = tagged-at (get table r) (entered r refl) in
    let same : r.place ≡ place = cc in
    subst (λ n. n < length table) same (entered-below table r there.0 there.1)

regions-same : (table : Table) (a b : Option RowId) → IsRegionEntered table a → IsRegionEntered table b → (place : ℕ) → place_of a ≡ Some place → place_of b ≡ Some place → a ≡ b
regions-same table None b x y place e f = cc
regions-same table (Some r) None x y place e f = cc
regions-same table (Some r) (Some s) x y place e f =
    let first = tagged-at (get table r) (x r refl) in
    let second = tagged-at (get table s) (y s refl) in
    let here : Some r.place ≡ Some s.place = e ∙ sym f in
    let same : r.place ≡ s.place = cc in
    ap Some (entered-same table r s first.0 second.0 first.1 second.1 same)

entered-append : (table : Table) (rows : List Waiting) (w : Waiting) → All (λ (v : Waiting). IsRegionEntered table v.region) rows → IsRegionEntered table w.region → (v : Waiting) →
    Waits (rows ++ w ∷ []) v → IsRegionEntered table v.region
entered-append table rows w every here v i =
    elim (Waits-append rows w v i) [
      | inl j ↦ Waits-of_All (λ (u : Waiting). IsRegionEntered table u.region) rows every v j
      | inr e ↦ subst (λ (u : Waiting). IsRegionEntered table u.region) e here
    ]

-- Rows whose regions are entered are alike.
pub AreAlike-entered : (table : Table) (rows : List Waiting) (w : Waiting) → All (λ (v : Waiting). IsRegionEntered table v.region) rows → IsRegionEntered table w.region → AreAlike (rows ++ w ∷ [])
AreAlike-entered table rows w every here v u i j place e f =
    regions-same table v.region u.region (entered-append table rows w every here v i) (entered-append table rows w every here u j) place e f

-- the number of the list of a slot and a place
pub number-below : (slots limit : ℕ) (slot place : Option ℕ) → ((s : ℕ) → slot ≡ Some s → s < slots) → ((p : ℕ) → place ≡ Some p → p < limit) → (n : ℕ) → number_of slots slot place ≡ Some n →
    n < limit * slots
number-below slots limit None place s p n e = cc
number-below slots limit (Some a) None s p n e = cc
number-below slots limit (Some a) (Some b) s p n e =
    let same : b * slots + a ≡ n = cc in
    let low : a < slots = s a refl in
    let high : suc b ≤ limit = omega (arith, p b refl) in
    let most : suc b * slots ≤ limit * slots = mul-le-mul_right slots high in
    omega (arith, most, low, same, suc-mul b slots)

module _ (held : PoolParts) (k : HoldsRows (length held.positions) held (rows_of held.nodes.slots held.all)) where
  module _ (position : ℕ) (vacant : value_at held.nodes position ≡ None) where
    out : (v : Waiting) → Waits (rows_of held.nodes.slots held.all) v → k.seat v ≡ position → ⊥
    out v i e = let wrong : Some v ≡ None = sym (k.there v i) ∙ ap (value_at held.nodes) e ∙ vacant in cc

    pub free-all : (l : ℕ) → IsIn (list_in held.all l) position → ⊥
    free-all = listed-free k.seat all_key 1 held.nodes.capacity held.all (rows_of held.nodes.slots held.all) k.all_listed position out

    pub free-slot : (l : ℕ) → IsIn (list_in held.by_slot l) position → ⊥
    free-slot = listed-free k.seat slot_key held.slots held.nodes.capacity held.by_slot (rows_of held.nodes.slots held.all) k.slots_listed position out

    pub free-region : (l : ℕ) → IsIn (list_in held.by_region l) position → ⊥
    free-region = listed-free k.seat region_key (length held.positions) held.nodes.capacity held.by_region (rows_of held.nodes.slots held.all) k.regions_listed position out

    pub free-both : (l : ℕ) → IsIn (list_in held.by_both l) position → ⊥
    free-both = listed-free k.seat (both_key held.slots) (length held.positions * held.slots) held.nodes.capacity held.by_both (rows_of held.nodes.slots held.all) k.both_listed position out

-- What a pool sees of what is held after its type's invariant is shown for some rows.
pub seen-held : (limit : ℕ) (held : PoolParts) (rows : List Waiting) → HoldsRows limit held rows → HoldsRows (length held.positions) held (rows_of held.nodes.slots held.all)
seen-held limit held rows k = subst (λ l. HoldsRows l held (rows_of held.nodes.slots held.all)) (sym k.size) (subst (λ ws. HoldsRows limit held ws) (sym (rows_of-is limit held rows k)) k)
