-- A row that waits goes live on top of a slot.
use Rattle.std.proofs.Common.{◌≡◌, ◌≢◌, ℕ, zero, suc, ◌+◌, ◌-◌, ◌==◌, ◌<◌, ◌≤◌, List, [], ◌∷◌, length, Option, Some, None, Bool, true, false, not, refl, sym, ap, ◌∙◌, arith, inl, inr, map, length-set}
use Rattle.std.proofs.Common.{unwrap_or}
use Rattle.std.specs.Prelude.{filter, slice_set, is_some}
use Rattle.std.specs.Option.{option_map}
use Rattle.std.specs.List.{enumerate_from}
use Rattle.std.proofs.lemmas.Bool.{cases_eq}
use Rattle.std.proofs.lemmas.List.{get_or-set_same, get_or-set_other}
use Rattle.region_tag.specs.declared.regions.Tagged.{Tagged}
use Rattle.region_tag.specs.Region.{is_same}
use Rattle.ready_pool.specs.Ready as ready
use Rattle.tenant_model.specs.declared.rows.Row.{Row}
use Rattle.tenant_model.specs.State.{row, with_at_number}
use Rattle.tenant_model.specs.Walks.{NumberedRow, is_open, is_unstarted}
use Rattle.tenant_model.proofs.Changed.{with_at_number-from}
use Rattle.tenant_model.proofs.Within.{either_way}
use Rattle.arena_rows.specs.declared.rows.OpenRow.{OpenRow}
use Rattle.arena_rows.specs.Represents.{Places, id_of, at_place, stage_of, tag_of, tagged_of, around_of, waiting, waiting_of, IsRow, Stands, AreRows, AreFree, AreTagged}
use Rattle.arena_rows.proofs.Alike.{Alike, IsRow-alike, open_rows-alike, tag_of-alike, around_of-alike}
use Rattle.arena_rows.proofs.FreePlaces.{same_taken}
use Rattle.arena_rows.proofs.Picked.{filter-map, filter-same}

pub some_is : {A : Type 0} (x y : A) → Some x ≡ Some y → x ≡ y
some_is x y same = ap (λ o. unwrap_or o x) same

pub some_none : {A : Type 0} (x : A) → Some x ≡ None → ⊥
some_none x same = grind (arith, ap is_some same)

-- An entry at its place in a table where it was replaced.
module _ (table : List (Option OpenRow)) (p : ℕ) (o : Option OpenRow) (within : p < length table) where
  pub at_same : at_place (slice_set table p o) p ≡ o
  at_same = get_or-set_same table p o None within

  pub at_other : (q : ℕ) → q ≢ p → at_place (slice_set table p o) q ≡ at_place table q
  at_other q other = get_or-set_other table p q o None other

pub option-same : {A B : Type 0} (f g : A → B) (o : Option A) → ((x : A) → f x ≡ g x) → option_map f o ≡ option_map g o
option-same f g None same = refl
option-same f g (Some x) same = ap Some (same x)

-- the entry of row n replaced, where the other rows stay
module _ (rows rows' : List Row) (places : Places) (table : List (Option OpenRow)) (n : ℕ) (e e' : OpenRow) (alike : Alike rows rows') (opened : is_open (row rows n).phase ≡ true)
    (are : AreRows rows places table)
    (there : at_place table (places n) ≡ Some e) (number : e'.number ≡ n) (is : IsRow rows' places n e')
    (stages : (m : ℕ) → m ≢ n → stage_of (row rows' m).frame (row rows' m).phase ≡ stage_of (row rows m).frame (row rows m).phase) where
  within : places n < length table
  within = (are.each n opened).within

  -- no other row has its place
  apart : (m : ℕ) → is_open (row rows m).phase ≡ true → m ≢ n → places m ≢ places n
  apart m opened_m other same =
      let its = are.each m opened_m in
      let its_n = are.each n opened in
      let both : Some its.entry ≡ Some its_n.entry = sym its.there ∙ rw same its_n.there in
      let one : its.entry ≡ its_n.entry = some_is its.entry its_n.entry both in
      other (sym its.is.number ∙ ap (λ (x : OpenRow). x.number) one ∙ its_n.is.number)

  stands_other : (m : ℕ) → is_open (row rows' m).phase ≡ true → m ≢ n → Stands rows' places (slice_set table (places n) (Some e')) m
  stands_other m opened_m other =
      let before : is_open (row rows m).phase ≡ true = sym (alike.opens m) ∙ opened_m in
      let its = are.each m before in
      record {
        within = omega (arith, its.within, length-set table (places n) (Some e'));
        entry = its.entry;
        there = at_other table (places n) (Some e') within (places m) (apart m before other) ∙ its.there;
        is = IsRow-alike rows rows' alike places m its.entry (stages m other) its.is;
      }

  pub AreRows-set : AreRows rows' places (slice_set table (places n) (Some e'))
  AreRows-set = record {
    each = λ m opened_m. elim (cases_eq m n) [
      | inl same ↦ rw same (record {
        within = omega (arith, within, length-set table (places n) (Some e'));
        entry = e';
        there = at_same table (places n) (Some e') within;
        is = is;
      })
      | inr other ↦ stands_other m opened_m other
    ];
    only = λ p x here. elim (cases_eq p (places n)) [
      | inl same ↦
          let e_is : e' ≡ x = some_is e' x (sym (at_same table (places n) (Some e') within) ∙ (rw same at here)) in
          let number_is : x.number ≡ n = ap (λ (y : OpenRow). y.number) (sym e_is) ∙ number in
          rw number_is (alike.opens n ∙ opened, sym same)
      | inr other ↦
          let old = are.only p x (sym (at_other table (places n) (Some e') within p other) ∙ here) in
          (alike.opens x.number ∙ old.0, old.1)
    ];
  }

  pub AreFree-set : (limit : ℕ) → AreFree rows limit table → AreFree rows' limit (slice_set table (places n) (Some e'))
  AreFree-set limit are_free = record {
    long = length-set table (places n) (Some e') ∙ are_free.long;
    count = open_rows-alike rows rows' alike ∙ are_free.count ∙ sym (same_taken table (places n) e e' within there);
  }

  -- Tags stay, where the entry has the same number.
  tagged-same : (x : OpenRow) → tagged_of rows' places x ≡ tagged_of rows places x
  tagged-same x = rw (tag_of-alike rows rows' alike places x.number, around_of-alike rows rows' alike places x.number) refl

  tagged_number : (x y : OpenRow) → x.number ≡ y.number → tagged_of rows' places x ≡ tagged_of rows' places y
  tagged_number x y same = let f : ℕ → Tagged = λ k. record { number = k; tag = tag_of rows' places k; around = around_of rows' places (row rows' k).kind } in ap f same

  old_number : e.number ≡ n
  old_number =
      let its = are.each n opened in
      ap (λ (x : OpenRow). x.number) (some_is e its.entry (sym there ∙ its.there)) ∙ its.is.number

  pub AreTagged-set : (regions : List (Option Tagged)) → AreTagged rows places table regions → AreTagged rows' places (slice_set table (places n) (Some e')) regions
  AreTagged-set regions tagged = record {
    long = tagged.long ∙ sym (length-set table (places n) (Some e'));
    each = λ p. tagged.each p ∙ elim (cases_eq p (places n)) [
      | inl same ↦ rw (same, at_same table (places n) (Some e') within, there)
          (ap Some (sym (tagged-same e) ∙ tagged_number e e' (old_number ∙ sym number)))
      | inr other ↦ rw (at_other table (places n) (Some e') within p other) (sym (option-same (tagged_of rows' places) (tagged_of rows places) (at_place table p) tagged-same))
    ];
  }

abbrev pub waits : NumberedRow → Bool
waits p = is_unstarted p.1.phase

abbrev is_other : ℕ → NumberedRow → Bool
is_other n p = not (p.0 == n)

-- later rows have other numbers
later-other : (n k : ℕ) (xs : List Row) → n < k → filter (is_other n) (filter waits (enumerate_from k xs)) ≡ filter waits (enumerate_from k xs)
later-other n k [] later = refl
later-other n k (x ∷ xs) later =
    let other : (k == n) ≡ false = grind (arith, later) in
    elim (either_way (is_unstarted x.phase)) [
      | inl is ↦ rw (is, other) (ap (λ ps. (k, x) ∷ ps) (later-other n (k + 1) xs (omega arith)))
      | inr not_so ↦ rw not_so (later-other n (k + 1) xs (omega arith))
    ]

-- The rows that wait, without one that does no longer.
waiting-set : (n k i : ℕ) (r : Row) (xs : List Row) → n ≡ k + i → is_unstarted r.phase ≡ false → i < length xs →
    filter waits (enumerate_from k (slice_set xs i r)) ≡ filter (is_other n) (filter waits (enumerate_from k xs))
waiting-set n k i r [] is started within = absurd (omega arith)
waiting-set n k zero r (x ∷ xs) is started within =
    let here : (k == n) ≡ true = grind (arith, is) in
    let rest = later-other n (k + 1) xs (omega arith) in
    elim (either_way (is_unstarted x.phase)) [
      | inl waits_x ↦ rw (started, waits_x, here) (sym rest)
      | inr not_so ↦ rw (started, not_so) (sym rest)
    ]
waiting-set n k (suc i) r (x ∷ xs) is started within =
    let other : (k == n) ≡ false = grind (arith, is) in
    let rest = waiting-set n (k + 1) i r xs (omega arith) started (omega arith) in
    elim (either_way (is_unstarted x.phase)) [
      | inl waits_x ↦ rw (waits_x, other) (ap (λ ps. (k, x) ∷ ps) rest)
      | inr not_so ↦ rw not_so rest
    ]

pub waiting-with : (rows : List Row) (n : ℕ) (r : Row) → 1 ≤ n → n ≤ length rows → is_unstarted r.phase ≡ false → waiting (with_at_number rows n r) ≡ filter (is_other n) (waiting rows)
waiting-with rows n r from to started = rw (with_at_number-from rows n r from) (waiting-set n 1 (n - 1) r rows (omega arith) started (omega arith))

pub map-same : {A B : Type 0} (f g : A → B) (xs : List A) → ((x : A) → f x ≡ g x) → map f xs ≡ map g xs
map-same f g [] same = refl
map-same f g (x ∷ xs) same = rw (same x) (ap (λ ys. g x ∷ ys) (map-same f g xs same))

pub same_id : (places : Places) (m n : ℕ) → is_same (id_of places m) (id_of places n) ≡ (m == n)
same_id places m n = elim (either_way (m == n)) [
  | inl is ↦
      let e : m ≡ n = grind (arith, is) in
      let p : (places m == places n) ≡ true = rw e (grind arith) in
      rw (is, p) refl
  | inr not_so ↦ rw not_so refl
]

-- The pool without the row that has started.
pub pool-without : (rows rows' : List Row) (places : Places) (n : ℕ) → Alike rows rows' → waiting rows' ≡ filter (is_other n) (waiting rows) →
    filter (λ w. not (ready.is_of (id_of places n) w)) (map (waiting_of rows places) (waiting rows)) ≡ map (waiting_of rows' places) (waiting rows')
pool-without rows rows' places n alike rest =
    filter-map _ (waiting_of rows places) (waiting rows) ∙
    ap (map (waiting_of rows places)) (filter-same _ (is_other n) (waiting rows) (λ p. ap not (same_id places p.0 n))) ∙
    rw rest (map-same _ _ (filter (is_other n) (waiting rows)) (λ p. rw (tag_of-alike rows rows' alike places p.0) refl))
