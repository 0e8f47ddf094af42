-- A row that is put and removed: the pool is then as it was.
use Rattle.std.proofs.Common.{◌≡◌, ◌+◌, ◌<◌, ◌≤◌, ◌&&◌, ◌==◌, ℕ, Bool, true, false, not, if◌then◌else◌, List, [], ◌∷◌, ◌++◌, Option, refl, sym, ◌∙◌, ap, subst, inl, inr, filter, arith, length-append}
use Rattle.std.specs.Prelude.{All}
use Rattle.std.proofs.lemmas.Bool.Decides.{eqb_tells}
use Rattle.std.proofs.lemmas.List.{append-nil}
use Rattle.std.proofs.lemmas.List.Elements.{All-head, All-push, All-tail, All-weaker, filter-append}
use Rattle.region_tag.specs.declared.row_id.RowId.{RowId}
use Rattle.region_tag.specs.Region.{Table}
use Rattle.ready_pool.specs.declared.pool.Waiting.{Waiting}
use Rattle.ready_pool.specs.Ready.{Ready, IsRegionEntered, is_of, with_row, without}
use Rattle.ready_pool.proofs.Holding.{eqb-same, and-false}
use Rattle.benchmarks.specs.Waiting.{AreWaiting}

is_of_itself : (w : Waiting) → is_of w.row w ≡ true
is_of_itself w = ap (λ b. b && (w.row.place == w.row.place)) (eqb-same w.row.number w.row.number refl) ∙ eqb-same w.row.place w.row.place refl

is_of_other : (row : RowId) (w : Waiting) → w.row.place < row.place → is_of row w ≡ false
is_of_other row w before =
    elim (eqb_tells w.row.place row.place) [
      | inl same ↦ absurd (omega (arith, same.1))
      | inr unlike ↦ ap (λ b. (w.row.number == row.number) && b) unlike.0 ∙ and-false (w.row.number == row.number)
    ]

filter-others : (row : RowId) (rows : List Waiting) → All (λ (w : Waiting). w.row.place < row.place) rows → filter (λ w. not (is_of row w)) rows ≡ rows
filter-others row [] before = refl
filter-others row (x ∷ xs) before =
    let kept : filter (λ w. not (is_of row w)) xs ≡ xs = filter-others row xs (All-tail (λ (w : Waiting). w.row.place < row.place) x xs before) in
    let unlike : is_of row x ≡ false = is_of_other row x (All-head (λ (w : Waiting). w.row.place < row.place) x xs before) in
    ap (λ b. if not b then x ∷ filter (λ w. not (is_of row w)) xs else filter (λ w. not (is_of row w)) xs) unlike ∙ ap (λ l. x ∷ l) kept

pub without-with_row : (pool : Ready) (w : Waiting) → All (λ (v : Waiting). v.row.place < w.row.place) pool.rows → without (with_row pool w) w.row ≡ pool
without-with_row pool w before =
    let f : Waiting → Bool = λ v. not (is_of w.row v) in
    let last : filter f (w ∷ []) ≡ [] = ap (λ b. if not b then w ∷ [] else []) (is_of_itself w) in
    let rows : filter f (pool.rows ++ w ∷ []) ≡ pool.rows =
    filter-append f pool.rows (w ∷ []) ∙ ap (λ l. filter f pool.rows ++ l) last ∙ append-nil (filter f pool.rows) ∙ filter-others w.row pool.rows before in
    ap (λ l. record pool { rows = l }) rows

pub removed : (pool put less : Ready) (w : Waiting) (free : ℕ) → All (λ (v : Waiting). v.row.place < free) pool.rows → w.row.place ≡ free → put ≡ with_row pool w → less ≡ without put w.row →
    less ≡ pool
removed pool put less w free before at puts removes =
    removes ∙ ap (λ (p : Ready). without p w.row) puts ∙ without-with_row pool w (subst (λ n. All (λ (v : Waiting). v.row.place < n) pool.rows) (sym at) before)

pub waiting-more : (pool : Ready) (regions : Table) (region : Option RowId) (free : ℕ) (w : Waiting) → AreWaiting (record { pool = pool; regions = regions; region = region; free = free }) →
    free + 1 < pool.limit → w.row.place ≡ free → w.row.number ≡ free + 1 → w.region ≡ region → AreWaiting (record { pool = with_row pool w; regions = regions; region = region; free = free + 1 })
waiting-more pool regions region free w are room at numbered in_region = record {
  limit = are.limit;
  slots = are.slots;
  place = room;
  count = omega (arith, length-append pool.rows (w ∷ []), are.count);
  before = All-push (λ (v : Waiting). v.row.place < free + 1) pool.rows w
      (All-weaker (λ (v : Waiting). v.row.place < free) (λ (v : Waiting). v.row.place < free + 1) (λ v lt. omega arith) pool.rows are.before) (omega arith);
  numbers = All-push (λ (v : Waiting). v.row.number ≤ free + 1) pool.rows w
      (All-weaker (λ (v : Waiting). v.row.number ≤ free) (λ (v : Waiting). v.row.number ≤ free + 1) (λ v le. omega arith) pool.rows are.numbers) (omega arith);
  places = are.places;
  region = are.region;
  regions_entered = All-push (λ (v : Waiting). IsRegionEntered regions v.region) pool.rows w are.regions_entered (subst (λ (r : Option RowId). IsRegionEntered regions r) (sym in_region) are.region);
}
