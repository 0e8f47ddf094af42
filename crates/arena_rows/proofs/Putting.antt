-- What a pool asks of a row that is put into it.
use Rattle.std.proofs.Common.{◌≡◌, ◌≢◌, ℕ, zero, suc, ◌+◌, ◌==◌, ◌<◌, ◌≤◌, List, [], ◌∷◌, length, Option, Some, None, true, refl, sym, ap, ◌∙◌, arith, inl, inr, get_or, unwrap_or}
use Rattle.std.specs.Prelude.{All, IfSome, is_some, filter, count_by}
use Rattle.std.specs.List.{enumerate_from}
use Rattle.std.specs.Option.{option_map}
use Rattle.std.proofs.lemmas.List.Elements.{All-map}
use Rattle.std.proofs.lemmas.List.{length-map}
use Rattle.region_tag.specs.Region.{IsEntered}
use Rattle.ready_pool.specs.declared.pool.Waiting.{Waiting}
use Rattle.ready_pool.specs.Ready.{IsRegionEntered}
use Rattle.tenant_model.specs.declared.rows.Kind.{Kind}
use Rattle.tenant_model.specs.declared.rows.Kind.TheVariants.{Root, Posted, Spawned, Region}
use Rattle.tenant_model.specs.declared.rows.Row.{Row}
use Rattle.tenant_model.specs.State.{State, row}
use Rattle.tenant_model.specs.Walks.{NumberedRow, maker_of, is_open, is_unstarted, region_of}
use Rattle.tenant_model.specs.Changes.{open_rows}
use Rattle.tenant_model.specs.Linked.{MakersPrecede}
use Rattle.tenant_model.proofs.Chains.{chain_goes_on, chain_ends}
use Rattle.tenant_model.proofs.Within.{either_way}
use Rattle.tenant_model.proofs.Stacking.{one_if, count-cons}
use Rattle.arena_rows.specs.Held.{Held}
use Rattle.arena_rows.specs.Represents.{id_of, at_place, waiting, waiting_of, Rests}
use Rattle.arena_rows.proofs.Started.{some_none}
use Rattle.arena_rows.proofs.Regions.{HasNoFault, maker_open}
use Rattle.arena_rows.proofs.Picking.{unstarted_open, all_waiting, waits_fine, tags_nested}

-- no more rows wait than are open
waits_less : (k : ℕ) (xs : List Row) → length (filter (λ (p : NumberedRow). is_unstarted p.1.phase) (enumerate_from k xs)) ≤ count_by (λ (r : Row). is_open r.phase) xs
waits_less k [] = omega arith
waits_less k (x ∷ xs) =
    let rest = waits_less (k + 1) xs in
    elim (either_way (is_unstarted x.phase)) [
      | inl waits ↦
          let one : one_if (is_open x.phase) ≡ 1 = rw (unstarted_open x.phase waits) refl in
          rw waits (omega (arith, rest, one, count-cons (λ (r : Row). is_open r.phase) x xs))
      | inr not_so ↦ rw not_so (omega (arith, rest, count-cons (λ (r : Row). is_open r.phase) x xs))
    ]

module _ (a : Held) (s : State) (rests : Rests a s) where
  precede : MakersPrecede s.rows
  precede = rests.holds.steady.formed.linked.makers

  -- the region of an open row, in a job without fault, is open
  by_kind : (n q : ℕ) (kind : Kind) → (row s.rows n).kind ≡ kind →
      ((m : ℕ) → m < n → 1 ≤ m → is_open (row s.rows m).phase ≡ true → HasNoFault s m → region_of s.rows m ≡ Some q → is_open (row s.rows q).phase ≡ true) →
      1 ≤ n → n ≤ length s.rows → is_open (row s.rows n).phase ≡ true → HasNoFault s n → region_of s.rows n ≡ Some q → is_open (row s.rows q).phase ≡ true
  by_kind n q Root kind ih from to opened fine found =
      let none : region_of s.rows n ≡ None = rw (chain_ends s.rows n from (rw kind refl), kind) refl in
      absurd (grind (arith, ap is_some (sym none ∙ found)))
  by_kind n q Posted kind ih from to opened fine found =
      let none : region_of s.rows n ≡ None = rw (chain_ends s.rows n from (rw kind refl), kind) refl in
      absurd (grind (arith, ap is_some (sym none ∙ found)))
  by_kind n q (Spawned m g) kind ih from to opened fine found =
      let made : maker_of (row s.rows n).kind ≡ Some m = rw kind refl in
      let before : (1 ≤ m) × (m < n) = let all : IfSome (Some m) (λ x. (1 ≤ x) × (x < n)) = rw made at (precede n from to) in all in
      let maker = maker_open s rests.holds.places a.table a.regions precede rests.holds.steady rests.holds.table rests.holds.tags (tags_nested a s rests) n m opened fine made in
      let same : region_of s.rows n ≡ region_of s.rows m = rw (chain_goes_on s.rows precede n m from to made, kind) refl in
      ih m before.1 before.0 maker.0 maker.1 (sym same ∙ found)
  by_kind n q (Region m) kind ih from to opened fine found =
      let made : maker_of (row s.rows n).kind ≡ Some m = rw kind refl in
      let own : region_of s.rows n ≡ Some n = rw (chain_goes_on s.rows precede n m from to made, kind) refl in
      let same : n ≡ q = ap (λ o. unwrap_or o n) (sym own ∙ found) in
      rw (← same) opened

  region_open : (k n q : ℕ) → n ≤ k → 1 ≤ n → n ≤ length s.rows → is_open (row s.rows n).phase ≡ true → HasNoFault s n → region_of s.rows n ≡ Some q → is_open (row s.rows q).phase ≡ true
  region_open zero n q enough from to opened fine found = absurd (omega arith)
  region_open (suc k) n q enough from to opened fine found =
      by_kind n q (row s.rows n).kind refl (λ m before least opened_m fine_m found_m. region_open k m q (omega arith) least (omega arith) opened_m fine_m found_m) from to opened fine found

  -- an open row is entered
  entered : (n : ℕ) → is_open (row s.rows n).phase ≡ true → IsEntered a.regions (id_of rests.holds.places n)
  entered n opened =
      let stands = rests.holds.table.each n opened in
      let number : stands.entry.number ≡ n = stands.is.number in
      let same : (stands.entry.number == n) ≡ true = grind (arith, number) in
      rw (rests.holds.tags.each (rests.holds.places n), stands.there, same) (grind arith)

  pub tag_entered : (n : ℕ) (o : Option ℕ) → region_of s.rows n ≡ o → 1 ≤ n → n ≤ length s.rows → is_open (row s.rows n).phase ≡ true → HasNoFault s n →
      IsRegionEntered a.regions (option_map (id_of rests.holds.places) o)
  tag_entered n None found from to opened fine = λ x same. absurd (grind (arith, ap is_some same))
  tag_entered n (Some q) found from to opened fine = λ x same.
      let e : id_of rests.holds.places q ≡ x = ap (λ o. unwrap_or o x) same in
      rw (← e) (entered q (region_open n n q (omega arith) from to opened fine found))

  -- what holds of each row that waits
  all_put : (P : Waiting → Type 0) → ((n : ℕ) (r : Row) → 1 ≤ n → n ≤ length s.rows → is_unstarted (row s.rows n).phase ≡ true → P (waiting_of s.rows rests.holds.places (n, r))) → All P a.pool.rows
  all_put P each = rw rests.holds.waiting (All-map P (waiting_of s.rows rests.holds.places) (waiting s.rows) (λ k d below.
      let p = get_or (waiting s.rows) k d in
      let its = all_waiting a s rests k d below in
      let waits : is_unstarted (row s.rows p.0).phase ≡ true = rw its.0.2 its.1 in
      each p.0 p.1 its.0.0 its.0.1 waits))

  -- The regions of the rows that wait are entered.
  pub regions_entered : All (λ (w : Waiting). IsRegionEntered a.regions w.region) a.pool.rows
  regions_entered = all_put (λ (w : Waiting). IsRegionEntered a.regions w.region)
      (λ n r from to waits. tag_entered n (region_of s.rows n) refl from to (unstarted_open (row s.rows n).phase waits) (waits_fine a s rests n waits))

  -- They have earlier numbers than the next row,
  pub earlier_all : All (λ (w : Waiting). w.row.number < a.made + 1) a.pool.rows
  earlier_all = all_put (λ (w : Waiting). w.row.number < a.made + 1) (λ n r from to waits. omega (arith, to, rests.holds.made))

  -- and other places than one that is free.
  pub apart_all : (p : ℕ) → at_place a.table p ≡ None → All (λ (w : Waiting). w.row.place ≢ p) a.pool.rows
  apart_all p free = all_put (λ (w : Waiting). w.row.place ≢ p) (λ n r from to waits same.
      let stands = rests.holds.table.each n (unstarted_open (row s.rows n).phase waits) in
      some_none stands.entry (sym stands.there ∙ rw (← same) at free))

  pub room : open_rows s.rows < a.config.rows → length a.pool.rows < a.pool.limit
  room below = rw rests.holds.waiting (omega (arith, below, waits_less 1 s.rows, length-map (waiting s.rows) (waiting_of s.rows rests.holds.places)))
