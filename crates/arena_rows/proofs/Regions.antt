-- The regions around a row that waits are those on its chain.
use Rattle.std.proofs.Common.{◌≡◌, ℕ, zero, suc, ◌==◌, ◌<◌, ◌≤◌, List, length, Option, Some, None, true, false, ◌||◌, refl, sym, ap, ◌∙◌, arith, inl, inr}
use Rattle.std.specs.Prelude.{IfSome, is_some, IsSome}
use Rattle.std.specs.List.{list_any}
use Rattle.region_tag.specs.declared.regions.Tagged.{Tagged}
use Rattle.region_tag.specs.Region as tags
use Rattle.region_tag.specs.Region.{is_same, IsAroundEarlier, IsNested}
use Rattle.region_tag.proofs.Around.{goes_on}
use Rattle.job_language.specs.declared.errors.JobFault.{JobFault}
use Rattle.tenant_model.specs.declared.rows.Kind.{Kind}
use Rattle.tenant_model.specs.declared.rows.Kind.TheVariants.{Root, Posted, Spawned, Region}
use Rattle.tenant_model.specs.State.{State, row, job}
use Rattle.tenant_model.specs.Walks.{maker_of, is_open, is_region, is_within}
use Rattle.tenant_model.specs.Linked.{MakersPrecede}
use Rattle.tenant_model.proofs.Chains.{chain_goes_on, chain_ends}
use Rattle.tenant_model.proofs.Within.{either_way}
use Rattle.arena_rows.specs.declared.rows.OpenRow.{OpenRow}
use Rattle.arena_rows.specs.Represents.{Places, id_of, tag_of, AreRows, AreTagged}
use Rattle.tenant_model.specs.Sound.{IsSteady}
use Rattle.arena_rows.proofs.Started.{same_id}

-- the job of a row has no fault
abbrev pub HasNoFault : State → ℕ → Type 0
HasNoFault s n = (job s.jobs (row s.rows n).job).fault ≡ None

not_some : (o : Option JobFault) → o ≡ None → IsSome o → ⊥
not_some None none some = grind (arith, some)
not_some (Some f) none some = grind (arith, ap is_some none)

module _ (s : State) (places : Places) (table : List (Option OpenRow)) (regions : List (Option Tagged)) (precede : MakersPrecede s.rows) (steady : IsSteady s) (are : AreRows s.rows places table)
    (tagged : AreTagged s.rows places table regions) (nested : IsNested regions) where
  around_there : (n m : ℕ) → is_open (row s.rows n).phase ≡ true → (row s.rows n).kind ≡ Region m → tags.around regions (id_of places n) ≡ tag_of s.rows places m
  around_there n m opened kind =
      let stands = are.each n opened in
      let number : stands.entry.number ≡ n = stands.is.number in
      let same : (stands.entry.number == n) ≡ true = grind (arith, number) in
      rw (tagged.each (places n), stands.there, same) (rw (number, kind) refl)

  -- the maker of an open row in a job without fault is open
  pub maker_open : (n m : ℕ) → is_open (row s.rows n).phase ≡ true → HasNoFault s n → maker_of (row s.rows n).kind ≡ Some m → (is_open (row s.rows m).phase ≡ true) × HasNoFault s m
  maker_open n m opened fine made = elim (steady.stay.makers n m opened made) [
    | inl still ↦ (still, rw (← steady.tended.shared n m made) fine)
    | inr fault ↦ absurd (not_some _ fine fault)
  ]

  is_other : (n q : ℕ) → is_region (row s.rows n).kind ≡ false → is_region (row s.rows q).kind ≡ true → (n == q) ≡ false
  is_other n q no_region is = elim (either_way (n == q)) [
    | inl same ↦
        let e : n ≡ q = grind (arith, same) in
        let it_is : is_region (row s.rows n).kind ≡ true = rw e is in
        absurd (grind (arith, no_region, it_is))
    | inr other ↦ other
  ]

  -- what is to be shown of a row
  abbrev Agrees : ℕ → ℕ → Type 0
  Agrees n q = tags.is_within regions (tag_of s.rows places n) (id_of places q) ≡ is_within s.rows n q

  alone : (n q : ℕ) → maker_of (row s.rows n).kind ≡ None → is_region (row s.rows n).kind ≡ false → 1 ≤ n → is_region (row s.rows q).kind ≡ true →
      tags.is_within regions (tag_of s.rows places n) (id_of places q) ≡ is_within s.rows n q
  alone n q none no_region from is_one = rw (chain_ends s.rows n from none, no_region, is_other n q no_region is_one) refl

  by_kind : (n q : ℕ) (kind : Kind) → (row s.rows n).kind ≡ kind → ((m : ℕ) → m < n → 1 ≤ m → is_open (row s.rows m).phase ≡ true → HasNoFault s m → Agrees m q) → 1 ≤ n → n ≤ length s.rows →
      is_open (row s.rows n).phase ≡ true → HasNoFault s n → is_region (row s.rows q).kind ≡ true → Agrees n q
  by_kind n q Root kind ih from to opened fine is_one = alone n q (rw kind refl) (rw kind refl) from is_one
  by_kind n q Posted kind ih from to opened fine is_one = alone n q (rw kind refl) (rw kind refl) from is_one
  by_kind n q (Spawned m g) kind ih from to opened fine is_one =
      let made : maker_of (row s.rows n).kind ≡ Some m = rw kind refl in
      let before : (1 ≤ m) × (m < n) = let all : IfSome (Some m) (λ x. (1 ≤ x) × (x < n)) = rw made at (precede n from to) in all in
      let maker = maker_open n m opened fine made in
      let no_region : is_region (row s.rows n).kind ≡ false = rw kind refl in
      rw (chain_goes_on s.rows precede n m from to made, no_region, is_other n q no_region is_one) (ih m before.1 before.0 maker.0 maker.1)
  by_kind n q (Region m) kind ih from to opened fine is_one =
      let made : maker_of (row s.rows n).kind ≡ Some m = rw kind refl in
      let before : (1 ≤ m) × (m < n) = let all : IfSome (Some m) (λ x. (1 ≤ x) × (x < n)) = rw made at (precede n from to) in all in
      let maker = maker_open n m opened fine made in
      let is : is_region (row s.rows n).kind ≡ true = rw kind refl in
      let tag : tag_of s.rows places n ≡ Some (id_of places n) = rw (chain_goes_on s.rows precede n m from to made, is) refl in
      let rest : tags.is_within regions (tag_of s.rows places m) (id_of places q) ≡ is_within s.rows m q = ih m before.1 before.0 maker.0 maker.1 in
      let here : tags.is_within regions (Some (id_of places n)) (id_of places q) ≡ ((n == q) || tags.is_within regions (tag_of s.rows places m) (id_of places q)) =
      ap (list_any (λ r. is_same r (id_of places q))) (goes_on regions (id_of places n) nested) ∙ rw (same_id places n q, around_there n m opened kind) refl in
      let there : is_within s.rows n q ≡ ((n == q) || is_within s.rows m q) = rw (chain_goes_on s.rows precede n m from to made) refl in
      ap (λ t. tags.is_within regions t (id_of places q)) tag ∙ here ∙ ap (λ b. (n == q) || b) rest ∙ sym there

  pub within_there : (k n q : ℕ) → n ≤ k → 1 ≤ n → n ≤ length s.rows → is_open (row s.rows n).phase ≡ true → HasNoFault s n → is_region (row s.rows q).kind ≡ true → Agrees n q
  within_there zero n q enough from to opened fine is_one = absurd (omega arith)
  within_there (suc k) n q enough from to opened fine is_one =
      by_kind n q (row s.rows n).kind refl (λ m before least opened_m fine_m. within_there k m q (omega arith) least (omega arith) opened_m fine_m is_one) from to opened fine is_one
