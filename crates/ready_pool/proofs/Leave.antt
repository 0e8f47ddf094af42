-- A row that leaves a pool.
use Rattle.std.proofs.Common.{◌≡◌, ◌<◌, ◌||◌, Bool, true, false, ℕ, if◌then◌else◌, not, List, [], ◌∷◌, Option, Some, None, refl, sym, ◌∙◌, ap, subst, inl, inr, filter}
use Rattle.std.specs.Prelude.{slice_get, is_some}
use Rattle.std.specs.List.{list_any}
use Rattle.std.specs.Option.{option_and_then}
use Rattle.std.proofs.lemmas.Option.{slice_get-get_or}
use Rattle.slab.specs.Slab.{ContainsKey, get}
use Rattle.place_lists.specs.Lists.{Lists, list_in, IsIn}
use Rattle.region_tag.specs.declared.row_id.RowId.{RowId}
use Rattle.ready_pool.specs.declared.pool.Waiting.{Waiting}
use Rattle.ready_pool.specs.Ready.{is_of}
use Rattle.ready_pool.specs.Parts.{PoolParts, HoldsRows, AreListed, Waits, find, row_at}
use Rattle.ready_pool.proofs.Rows.{tells, same-row, filter-every}
use Rattle.ready_pool.proofs.Keyed.{listed-in, listed-alone, listed-below}
use Rattle.ready_pool.proofs.Holding.{only}

checked : (f : Waiting → Bool) (p : ℕ) (o : Option Waiting) (q : ℕ) → option_and_then (λ w. if f w then Some p else None) o ≡ Some q → (w : Waiting) × (o ≡ Some w) × (f w ≡ true) × (p ≡ q)
checked f p None q e = cc
checked f p (Some w) q e =
    elim (tells (f w)) [
      | inl h ↦
          let both : Some p ≡ Some q = sym (ap (λ b. if b then Some p else None) h) ∙ e in
          (w, refl, h, cc)
      | inr h ↦ let none : None ≡ Some q = sym (ap (λ b. if b then Some p else None) h) ∙ e in cc
    ]

-- a row was found at a position
pub record IsFound (table : List (Option Waiting)) (row : RowId) (p : ℕ) : Type 0 where
  pub w : Waiting
  pub there : row_at table p ≡ Some w
  pub is : is_of row w ≡ true

found_at : (table : List (Option Waiting)) (row : RowId) (o : Option ℕ) (q : ℕ) → option_and_then (λ p. option_and_then (λ w. if is_of row w then Some p else None) (row_at table p)) o ≡ Some q →
    IsFound table row q
found_at table row None q e = cc
found_at table row (Some p) q e =
    let c = checked (is_of row) p (row_at table p) q e in
    record { w = c.0; there = ap (row_at table) (sym c.3) ∙ c.1; is = c.2 }

pub find-some : (table : List (Option Waiting)) (positions : List ℕ) (row : RowId) (p : ℕ) → find table positions row ≡ Some p → IsFound table row p
find-some table positions row p e = found_at table row (slice_get positions row.place) p e

any-found : (f : Waiting → Bool) (rows : List Waiting) (w : Waiting) → Waits rows w → f w ≡ true → true ≡ list_any f rows
any-found f [] w i e = absurd i
any-found f (x ∷ xs) w (inl s) e = sym (ap (λ b. b || list_any f xs) (ap f s ∙ e))
any-found f (x ∷ xs) w (inr i) e =
    elim (tells (f x)) [
      | inl h ↦ sym (ap (λ b. b || list_any f xs) h)
      | inr h ↦ any-found f xs w i e ∙ sym (ap (λ b. b || list_any f xs) h)
    ]

any-none : (f : Waiting → Bool) (rows : List Waiting) → ((w : Waiting) → Waits rows w → f w ≡ false) → false ≡ list_any f rows
any-none f [] none = refl
any-none f (x ∷ xs) none = any-none f xs (λ w i. none w (inr i)) ∙ sym (ap (λ b. b || list_any f xs) (none x (inl refl)))

module _ (limit : ℕ) (held : PoolParts) (rows : List Waiting) (k : HoldsRows limit held rows) (row : RowId) where
  module _ (none : find held.nodes.slots held.positions row ≡ None) where
    absent : (w : Waiting) → Waits rows w → is_of row w ≡ false
    absent w i =
        elim (tells (is_of row w)) [
          | inl h ↦
              let place : w.row.place ≡ row.place = ap (λ (r : RowId). r.place) (same-row w.row row h) in
              let noted = k.noted w i in
              let at : slice_get held.positions row.place ≡ Some (k.seat w) = ap (slice_get held.positions) (sym place) ∙ slice_get-get_or held.positions w.row.place 0 noted.0 ∙ ap Some noted.1 in
              let some : find held.nodes.slots held.positions row ≡ Some (k.seat w) =
              ap (option_and_then (λ p. option_and_then (λ v. if is_of row v then Some p else None) (row_at held.nodes.slots p))) at
              ∙ ap (option_and_then (λ v. if is_of row v then Some (k.seat w) else None)) (k.there w i)
              ∙ ap (λ b. if b then Some (k.seat w) else None) h in
              let wrong : None ≡ Some (k.seat w) = sym none ∙ some in
              cc
          | inr h ↦ h
        ]

    pub none-waits : false ≡ list_any (is_of row) rows
    none-waits = any-none (is_of row) rows absent

    pub none-left : rows ≡ filter (λ w. not (is_of row w)) rows
    none-left = sym (filter-every (λ w. not (is_of row w)) rows (λ w i. ap not (absent w i)))

  module _ (p : ℕ) (at : find held.nodes.slots held.positions row ≡ Some p) where
    pub the-row : IsFound held.nodes.slots row p
    the-row = find-some held.nodes.slots held.positions row p at

    pub has-row : ContainsKey held.nodes p
    has-row = ap (λ (o : Option Waiting). is_some o) the-row.there

    -- of the row that is taken out
    module _ (w : Waiting) (value : get held.nodes p ≡ Some w) where
      pub taken-is : is_of row w ≡ true
      taken-is = let both : Some the-row.w ≡ Some w = sym the-row.there ∙ value in let same : the-row.w ≡ w = cc in ap (is_of row) (sym same) ∙ the-row.is

      pub taken-waits : Waits rows w × (k.seat w ≡ p)
      taken-waits = k.waits p w value

      pub one-waits : true ≡ list_any (is_of row) rows
      one-waits = any-found (is_of row) rows w taken-waits.0 taken-is

      module _ (key : Waiting → Option ℕ) (count : ℕ) (lists : Lists) (listed : AreListed k.seat key count held.nodes.capacity lists rows) where
        pub leave-there : (l : ℕ) → key w ≡ Some l → IsIn (list_in lists l) p
        leave-there l e = subst (λ q. IsIn (list_in lists l) q) taken-waits.1 (listed-in k.seat key count held.nodes.capacity lists rows listed w taken-waits.0 l e)

        pub leave-alone : (l : ℕ) → IsIn (list_in lists l) p → key w ≡ Some l
        leave-alone l i = listed-alone k.seat key count held.nodes.capacity lists rows listed p w (λ v j e. only limit held rows k v w j taken-waits.0 (e ∙ sym taken-waits.1)) l i

        pub leave-below : (l : ℕ) → key w ≡ Some l → l < count
        leave-below l e = listed-below k.seat key count held.nodes.capacity lists rows listed w taken-waits.0 l e
