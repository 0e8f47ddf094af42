-- What the ends of the lists say of the rows.
use Rattle.std.proofs.Common.{◌≡◌, ◌<◌, ◌+◌, ◌*◌, ◌/◌, ◌%◌, ◌==◌, ◌&&◌, Bool, true, false, not, ℕ, List, [], ◌∷◌, Option, Some, None, refl, sym, ◌∙◌, ap, subst, inl, inr, filter, unwrap_or}
use Rattle.std.specs.Option.{option_map, option_or}
use Rattle.std.proofs.lemmas.Bool.Decides.{eqb_tells}
use Rattle.std.proofs.lemmas.Nat.{div-mul-add, mod-mul-add}
use Rattle.job_language.specs.declared.tenants.Isolation.TheVariants.{Exact}
use Rattle.place_lists.specs.Lists.{list_in, last_from, last_of, first_of as first_place}
use Rattle.region_tag.specs.declared.row_id.RowId.{RowId}
use Rattle.region_tag.specs.Region.{Table, same_region}
use Rattle.ready_pool.specs.declared.pool.Waiting.{Waiting}
use Rattle.ready_pool.specs.Ready.{Ready, first_of, last_or, is_made_on, is_allowed, pick}
use Rattle.ready_pool.specs.Parts.{PoolParts, HoldsRows, Waits, row_at, place_of, number_of, positions_of, region_key, both_key}
use Rattle.ready_pool.proofs.Rows.{tells, filter-every, filter-as, filter-none, filter-filter, Waits-filter, Waits-kept, same-row}
use Rattle.ready_pool.proofs.Keyed.{named-itself, named-is, listed-below}
use Rattle.ready_pool.proofs.Holding.{eqb-same, and-false}

abbrev pub id_at : List (Option Waiting) → ℕ → Option RowId
id_at table place = option_map (λ (w : Waiting). w.row) (row_at table place)

last-some : (y : ℕ) (ys : List ℕ) → last_from (Some y) ys ≡ None → ⊥
last-some y [] e = cc
last-some y (z ∷ zs) e = last-some z zs e

last-unwrapped : (y : ℕ) (ys : List ℕ) (x : ℕ) → last_from (Some y) ys ≡ Some (unwrap_or (last_from (Some y) ys) x)
last-unwrapped y [] x = refl
last-unwrapped y (z ∷ zs) x = last-unwrapped z zs x

last-or : (ys : List ℕ) (x : ℕ) → last_from (Some x) ys ≡ Some (unwrap_or (last_of ys) x)
last-or [] x = refl
last-or (y ∷ ys) x = last-unwrapped y ys x

module _ (seat : Waiting → ℕ) (table : List (Option Waiting)) where
  last-held : (back : ℕ) (row : RowId) (ws : List Waiting) → id_at table back ≡ Some row → ((w : Waiting) → Waits ws w → row_at table (seat w) ≡ Some w) → (place : ℕ) →
      last_from (Some back) (positions_of seat ws) ≡ Some place → id_at table place ≡ last_or (Some row) ws
  last-held back row [] at there place e = let same : back ≡ place = cc in subst (λ p. id_at table p ≡ Some row) same at
  last-held back row (w ∷ ws) at there place e = last-held (seat w) w.row ws (ap (option_map (λ (v : Waiting). v.row)) (there w (inl refl))) (λ v i. there v (inr i)) place e

  newest-some : (ws : List Waiting) → ((w : Waiting) → Waits ws w → row_at table (seat w) ≡ Some w) → (place : ℕ) → last_of (positions_of seat ws) ≡ Some place → id_at table place ≡ last_or None ws
  newest-some [] there place e = cc
  newest-some (w ∷ ws) there place e = last-held (seat w) w.row ws (ap (option_map (λ (v : Waiting). v.row)) (there w (inl refl))) (λ v i. there v (inr i)) place e

module _ (seat : Waiting → ℕ) where
  newest-none : (ws : List Waiting) → last_of (positions_of seat ws) ≡ None → last_or None ws ≡ None
  newest-none [] e = refl
  newest-none (w ∷ ws) e = absurd (last-some (seat w) (positions_of seat ws) e)

  first-none : (ws : List Waiting) → first_place (positions_of seat ws) ≡ None → ws ≡ []
  first-none [] e = refl
  first-none (w ∷ ws) e = cc

  first-some : (ws : List Waiting) (place : ℕ) → first_place (positions_of seat ws) ≡ Some place → (w : Waiting) × (Waits ws w × ((seat w ≡ place) × (first_of ws ≡ Some w.row)))
  first-some [] place e = cc
  first-some (w ∷ ws) place e = (w, (inl refl, (cc, refl)))

pub not-true : (b : Bool) → true ≡ not b → b ≡ false
not-true true e = let wrong : true ≡ false = e in cc
not-true false e = refl

pub not-false : (b : Bool) → false ≡ not b → b ≡ true
not-false true e = refl
not-false false e = let wrong : false ≡ true = e in cc

pub same-is : (r : RowId) (o : Option RowId) → same_region (Some r) o ≡ true → o ≡ Some r
same-is r None e = let wrong : false ≡ true = e in cc
same-is r (Some s) e = ap Some (sym (same-row r s e))

pub same-back : (o : Option RowId) (r : RowId) → same_region o (Some r) ≡ true → o ≡ Some r
same-back None r e = let wrong : false ≡ true = e in cc
same-back (Some s) r e = ap Some (same-row s r e)

pub same-itself : (r : RowId) → same_region (Some r) (Some r) ≡ true
same-itself r = ap (λ b. b && (r.place == r.place)) (eqb-same r.number r.number refl) ∙ eqb-same r.place r.place refl

-- The number of a list identifies its place and its slot, which is below the number of slots.
numbered : (slots slot place : ℕ) (made : Option ℕ) (region : Option ℕ) → slot < slots → ((s : ℕ) → made ≡ Some s → s < slots) →
    (is_made_on place region && is_made_on slot made) ≡ is_made_on (place * slots + slot) (number_of slots made region)
numbered slots slot place None region below few = and-false (is_made_on place region)
numbered slots slot place (Some s) None below few = refl
numbered slots slot place (Some s) (Some p) below few =
    elim (eqb_tells (p * slots + s) (place * slots + slot)) [
      | inl h ↦
          let places : p ≡ place = sym (div-mul-add p slots s (few s refl)) ∙ ap (λ n. n / slots) h.1 ∙ div-mul-add place slots slot below in
          let slots_too : s ≡ slot = sym (mod-mul-add p slots s (few s refl)) ∙ ap (λ n. n % slots) h.1 ∙ mod-mul-add place slots slot below in
          ap (λ b. b && (s == slot)) (eqb-same p place places) ∙ eqb-same s slot slots_too ∙ sym h.0
      | inr h ↦
          elim (eqb_tells p place) [
            | inr e ↦ ap (λ b. b && (s == slot)) e.0 ∙ sym h.0
            | inl e ↦ elim (eqb_tells s slot) [
              | inr f ↦ ap (λ b. (p == place) && b) f.0 ∙ and-false (p == place) ∙ sym h.0
              | inl f ↦ absurd (h.1 (ap (λ n. n * slots + s) e.1 ∙ ap (λ n. place * slots + n) f.1))
            ]
          ]
    ]

-- the newest of these that was made on the slot, or else the oldest
abbrev pub chosen : ℕ → List Waiting → Option RowId
chosen slot ws = last_or (first_of ws) (filter (λ (w : Waiting). is_made_on slot w.made_on) ws)

abbrev pub of_region : RowId → List Waiting → List Waiting
of_region r rows = filter (λ (w : Waiting). same_region (Some r) w.region) rows

last_or-some : (x : RowId) (ws : List Waiting) (row : Option RowId) → last_or (Some x) ws ≡ option_or (last_or (Some x) ws) row
last_or-some x [] row = refl
last_or-some x (w ∷ ws) row = last_or-some w.row ws row

last_or-or : (row : Option RowId) (ws : List Waiting) → last_or row ws ≡ option_or (last_or None ws) row
last_or-or row [] = refl
last_or-or row (w ∷ ws) = last_or-some w.row ws row

pub outside : (pool : Ready) (table : Table) (slot : ℕ) → option_or (last_or None (filter (λ (w : Waiting). is_made_on slot w.made_on) pool.rows)) (first_of pool.rows) ≡ pick pool table slot None
outside pool table slot =
    let all : filter (λ (w : Waiting). is_allowed pool.isolation table None w.region) pool.rows ≡ pool.rows =
    filter-every (λ (w : Waiting). is_allowed pool.isolation table None w.region) pool.rows (λ w i. refl) in
    sym (ap (chosen slot) all ∙ last_or-or (first_of pool.rows) (filter (λ (w : Waiting). is_made_on slot w.made_on) pool.rows))

pub exact-is : (pool : Ready) (table : Table) (slot : ℕ) (r : RowId) → pool.isolation ≡ Exact → pick pool table slot (Some r) ≡ chosen slot (of_region r pool.rows)
exact-is pool table slot r e = ap (λ mode. chosen slot (filter (λ (w : Waiting). is_allowed mode table (Some r) w.region) pool.rows)) e

module _ (limit : ℕ) (held : PoolParts) (rows : List Waiting) (k : HoldsRows limit held rows) where
  there-of : (f : Waiting → Bool) (w : Waiting) → Waits (filter f rows) w → row_at held.nodes.slots (k.seat w) ≡ Some w
  there-of f w i = k.there w (Waits-filter f rows w i).0

  module _ (slot : ℕ) where
    abbrev made : Waiting → Bool
    made w = is_made_on slot w.made_on

    pub newest-slot-none : None ≡ last_of (list_in held.by_slot slot) → None ≡ last_or None (filter made rows)
    newest-slot-none e = sym (newest-none k.seat (filter made rows) (sym (e ∙ ap last_of (k.slots_listed.listed slot))))

    pub newest-slot : (place : ℕ) → Some place ≡ last_of (list_in held.by_slot slot) → id_at held.nodes.slots place ≡ last_or None (filter made rows)
    newest-slot place e = newest-some k.seat held.nodes.slots (filter made rows) (there-of made) place (sym (e ∙ ap last_of (k.slots_listed.listed slot)))

    module _ (r : RowId) where
      abbrev in_place : Waiting → Bool
      in_place w = is_made_on r.place (region_key w)

      region-none : ((v : Waiting) → Waits rows v → v.region ≡ Some r → ⊥) → None ≡ chosen slot (of_region r rows)
      region-none out =
          let none : of_region r rows ≡ [] =
          filter-none (λ (w : Waiting). same_region (Some r) w.region) rows (λ v i. elim (tells (same_region (Some r) v.region)) [ inl h ↦ absurd (out v i (same-is r v.region h)) | inr h ↦ h ]) in
          ap (chosen slot) (sym none)

      in_place-of : (v : Waiting) → v.region ≡ Some r → in_place v ≡ true
      in_place-of v e = ap (λ o. is_made_on r.place (place_of o)) e ∙ named-itself r.place

      pub exact-none : None ≡ first_place (list_in held.by_region r.place) → None ≡ chosen slot (of_region r rows)
      exact-none e =
          let none : filter in_place rows ≡ [] = first-none k.seat (filter in_place rows) (sym (e ∙ ap first_place (k.regions_listed.listed r.place))) in
          region-none (λ v i f. subst (λ l. Waits l v) none (Waits-kept in_place rows v i (in_place-of v f)))

      module _ (first : ℕ) (at : Some first ≡ first_place (list_in held.by_region r.place)) where
        oldest-of : (w : Waiting) × (Waits (filter in_place rows) w × ((k.seat w ≡ first) × (first_of (filter in_place rows) ≡ Some w.row)))
        oldest-of = first-some k.seat (filter in_place rows) first (sym (at ∙ ap first_place (k.regions_listed.listed r.place)))

        there-first : row_at held.nodes.slots first ≡ Some oldest-of.0
        there-first = ap (row_at held.nodes.slots) (sym oldest-of.1.1.0) ∙ there-of in_place oldest-of.0 oldest-of.1.0

        pub first-there : row_at held.nodes.slots first ≡ None → ⊥
        first-there e = let wrong : None ≡ Some oldest-of.0 = sym e ∙ there-first in cc

        -- The region of this place is below the limit.
        pub region-limited : r.place < limit
        region-limited =
            let waits = Waits-filter in_place rows oldest-of.0 oldest-of.1.0 in
            listed-below k.seat region_key limit held.nodes.capacity held.by_region rows k.regions_listed oldest-of.0 waits.0 r.place (named-is r.place (region_key oldest-of.0) waits.1)

        module _ (oldest : Waiting) (is : row_at held.nodes.slots first ≡ Some oldest) where
          same : oldest-of.0 ≡ oldest
          same = let both : Some oldest-of.0 ≡ Some oldest = sym there-first ∙ is in cc

          oldest-in : Waits (filter in_place rows) oldest
          oldest-in = subst (λ w. Waits (filter in_place rows) w) same oldest-of.1.0

          of-its-place : place_of oldest.region ≡ Some r.place
          of-its-place = named-is r.place (region_key oldest) (Waits-filter in_place rows oldest oldest-in).1

          alike-oldest : (v : Waiting) → Waits rows v → place_of v.region ≡ Some r.place → v.region ≡ oldest.region
          alike-oldest v i e = k.alike v oldest i (Waits-filter in_place rows oldest oldest-in).0 r.place e of-its-place

          pub exact-other : same_region oldest.region (Some r) ≡ false → None ≡ chosen slot (of_region r rows)
          exact-other ne =
              region-none (λ v i e.
              let here : oldest.region ≡ Some r = sym (alike-oldest v i (ap place_of e)) ∙ e in
              let wrong : true ≡ false = sym (same-itself r) ∙ sym (ap (λ o. same_region o (Some r)) here) ∙ ne in
              cc)

          pub exact-chosen : same_region oldest.region (Some r) ≡ true → slot < held.slots → (place : ℕ) → place ≡ unwrap_or (last_of (list_in held.by_both (r.place * held.slots + slot))) first →
              id_at held.nodes.slots place ≡ chosen slot (of_region r rows)
          exact-chosen eq below place e =
              let here : oldest.region ≡ Some r = same-back oldest.region r eq in
              let number : ℕ = r.place * held.slots + slot in
              let both : Waiting → Bool = λ w. is_made_on number (both_key held.slots w) in
              let in_both : Waiting → Bool = λ w. in_place w && made w in
              let ws : List Waiting = filter both rows in
              let regions : of_region r rows ≡ filter in_place rows = filter-as (λ (w : Waiting). same_region (Some r) w.region) in_place rows (λ v i.
              elim (tells (in_place v)) [
                | inl h ↦ ap (same_region (Some r)) (alike-oldest v i (named-is r.place (region_key v) h) ∙ here) ∙ same-itself r ∙ sym h
                | inr h ↦ elim (tells (same_region (Some r) v.region)) [
                  | inl g ↦ let wrong : true ≡ false = sym (in_place-of v (same-is r v.region g)) ∙ h in cc
                  | inr g ↦ g ∙ sym h
                ]
              ]) in
              let newest : filter made (filter in_place rows) ≡ ws =
              filter-filter made in_place rows ∙
              filter-as in_both both rows (λ v i. numbered held.slots slot r.place v.made_on (region_key v) below
              (λ s f. listed-below k.seat (λ (w : Waiting). w.made_on) held.slots held.nodes.capacity held.by_slot rows k.slots_listed v i s f)) in
              let all : chosen slot (of_region r rows) ≡ last_or (Some oldest.row) ws =
              ap (chosen slot) regions ∙ ap (λ o. last_or o (filter made (filter in_place rows))) (oldest-of.1.1.1 ∙ ap (λ (w : Waiting). Some w.row) same) ∙
              ap (last_or (Some oldest.row)) newest in
              let last : last_from (Some first) (positions_of k.seat ws) ≡ Some place =
              ap (last_from (Some first)) (sym (k.both_listed.listed number)) ∙ last-or (list_in held.by_both number) first ∙ ap Some (sym e) in
              last-held k.seat held.nodes.slots first oldest.row ws (ap (option_map (λ (v : Waiting). v.row)) is) (there-of both) place last ∙ sym all
