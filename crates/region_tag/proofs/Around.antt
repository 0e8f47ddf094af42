-- Walks over the regions around a region.
use Rattle.std.proofs.Common.{◌≡◌, ℕ, zero, suc, ◌<◌, [], ◌∷◌, Option, Some, None, ap, arith, get_or}
use Rattle.std.specs.Prelude.{IfSome}
use Rattle.std.specs.Option.{option_and_then}
use Rattle.std.proofs.lemmas.Grind.{common_steps}
use Rattle.std.proofs.lemmas.Option.{IfSome_then}
use Rattle.region_tag.specs.declared.row_id.RowId.{RowId}
use Rattle.region_tag.specs.declared.regions.Tagged.{Tagged}
use Rattle.region_tag.specs.Region.{Table, of_row, around, regions_for, regions_from, IsAroundEarlier, IsNested}

-- The row at a place has an earlier region around it.
earlier_at : (table : Table) → IsNested table → (place : ℕ) → IsAroundEarlier (get_or table place None)
earlier_at [] nested place = tt
earlier_at (t ∷ ts) nested zero = nested 0 None (omega arith)
earlier_at (t ∷ ts) nested (suc place) = earlier_at ts (λ k d below. nested (suc k) d (omega arith)) place

earlier_of : (t : Option Tagged) (row : RowId) → IsAroundEarlier t → IfSome (option_and_then (λ t. t.around) (option_and_then (of_row row) t)) (λ r. r.number < row.number)
earlier_of None row h = tt
earlier_of (Some t) row h = grind (arith, common_steps)

-- The region around a region is earlier.
pub around_earlier : (table : Table) (region : RowId) → IsNested table → IfSome (around table region) (λ r. r.number < region.number)
around_earlier table region nested = earlier_of (get_or table region.place None) region (earlier_at table nested region.place)

-- A walk has no more regions than its first one's number, so more are not met.
regions_for-agree : (table : Table) → IsNested table → (j k : ℕ) (r : Option RowId) → IfSome r (λ r. r.number < j) → IfSome r (λ r. r.number < k) → regions_for j table r ≡ regions_for k table r
regions_for-agree table nested j k None j-enough k-enough = grind (arith, common_steps)
regions_for-agree table nested zero k (Some r) j-enough k-enough = absurd (omega arith)
regions_for-agree table nested (suc j) zero (Some r) j-enough k-enough = absurd (omega arith)
regions_for-agree table nested (suc j) (suc k) (Some r) j-enough k-enough =
    let earlier = around_earlier table r nested in
    ap (λ rs. r ∷ rs)
    (regions_for-agree table nested j k (around table r)
    (IfSome_then (around table r) earlier (λ o before. omega arith))
    (IfSome_then (around table r) earlier (λ o before. omega arith)))

-- A walk is what it has for its first number.
regions_from-for : (table : Table) (r : Option RowId) (j : ℕ) → IsNested table → IfSome r (λ r. r.number < j) → regions_for j table r ≡ regions_from table r
regions_from-for table None j nested enough = grind (arith, common_steps)
regions_from-for table (Some r) zero nested enough = absurd (omega arith)
regions_from-for table (Some r) (suc j) nested enough = regions_for-agree table nested (suc j) (suc r.number) (Some r) enough (omega arith)

-- A walk continues with the walk from the region around.
pub goes_on : (table : Table) (r : RowId) → IsNested table → regions_from table (Some r) ≡ r ∷ regions_from table (around table r)
goes_on table r nested = ap (λ rs. r ∷ rs) (regions_from-for table (around table r) r.number nested (around_earlier table r nested))
