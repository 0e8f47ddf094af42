-- The row that a slot takes next.
use Rattle.std.proofs.Common.{◌≡◌, ℕ, suc, ◌==◌, List, [], ◌∷◌, Option, Some, None, Bool, true, ◌&&◌, refl, ap, ◌∙◌, arith, inl, inr, map, get_or}
use Rattle.std.specs.Prelude.{All, filter}
use Rattle.std.specs.Option.{option_map}
use Rattle.job_language.specs.declared.tenants.Isolation.{Isolation}
use Rattle.job_language.specs.declared.tenants.Isolation.TheVariants.{Exact, Within}
use Rattle.region_tag.specs.declared.regions.Tagged.{Tagged}
use Rattle.region_tag.specs.Region as tags
use Rattle.ready_pool.specs.declared.pool.Waiting.{Waiting}
use Rattle.ready_pool.specs.Ready as ready
use Rattle.tenant_model.specs.declared.rows.Row.{Row}
use Rattle.tenant_model.specs.Walks.{NumberedRow, numbered_rows, region_of, region_on, same_region, is_within, is_allowed, eligible, is_made_on, first_of, last_or, pick_of, top}
use Rattle.tenant_model.proofs.Within.{either_way}
use Rattle.arena_rows.specs.Represents.{Places, id_of, tag_of, waiting, waiting_of}

-- a filter of a mapped list
pub filter-map : {A B : Type 0} (p : B → Bool) (f : A → B) (xs : List A) → filter p (map f xs) ≡ map f (filter (λ x. p (f x)) xs)
filter-map p f [] = refl
filter-map p f (x ∷ xs) = elim (either_way (p (f x))) [
  | inl holds ↦ rw holds (ap (λ ys. f x ∷ ys) (filter-map p f xs))
  | inr fails ↦ rw fails (filter-map p f xs)
]

-- one filter after another
pub filter-filter : {A : Type 0} (p q : A → Bool) (xs : List A) → filter q (filter p xs) ≡ filter (λ x. p x && q x) xs
filter-filter p q [] = refl
filter-filter p q (x ∷ xs) = elim (either_way (p x)) [
  | inl holds ↦ elim (either_way (q x)) [
    | inl also ↦ rw (holds, also) (ap (λ ys. x ∷ ys) (filter-filter p q xs))
    | inr not_so ↦ rw (holds, not_so) (filter-filter p q xs)
  ]
  | inr fails ↦ rw fails (filter-filter p q xs)
]

pub filter-same : {A : Type 0} (p q : A → Bool) (xs : List A) → ((x : A) → p x ≡ q x) → filter p xs ≡ filter q xs
filter-same p q [] same = refl
filter-same p q (x ∷ xs) same = elim (either_way (q x)) [
  | inl holds ↦ rw (same x, holds) (ap (λ ys. x ∷ ys) (filter-same p q xs same))
  | inr fails ↦ rw (same x, fails) (filter-same p q xs same)
]

pub filter-all : {A : Type 0} (p q : A → Bool) (xs : List A) → All (λ x. p x ≡ q x) xs → filter p xs ≡ filter q xs
filter-all p q [] same = refl
filter-all p q (x ∷ xs) same =
    let rest = filter-all p q xs (λ k d below. same (suc k) d (omega arith)) in
    let first : p x ≡ q x = same 0 x (omega arith) in
    elim (either_way (q x)) [
      | inl holds ↦ rw (first, holds) (ap (λ ys. x ∷ ys) rest)
      | inr fails ↦ rw (first, fails) rest
    ]

module _ (rows : List Row) (places : Places) where
  first-map : (ps : List NumberedRow) → ready.first_of (map (waiting_of rows places) ps) ≡ option_map (id_of places) (first_of ps)
  first-map [] = refl
  first-map (p ∷ ps) = refl

  last-map : (o : Option ℕ) (ps : List NumberedRow) → ready.last_or (option_map (id_of places) o) (map (waiting_of rows places) ps) ≡ option_map (id_of places) (last_or o ps)
  last-map o [] = refl
  last-map o (p ∷ ps) = last-map (Some p.0) ps

  made_on-same : (slot : ℕ) (o : Option ℕ) → ready.is_made_on slot o ≡ is_made_on slot o
  made_on-same slot None = refl
  made_on-same slot (Some t) = refl

  same_tag : (r : ℕ) (o : Option ℕ) → tags.same_region (Some (id_of places r)) (option_map (id_of places) o) ≡ same_region (Some r) o
  same_tag r None = refl
  same_tag r (Some q) = elim (either_way (r == q)) [
    | inl holds ↦
        let e : r ≡ q = grind (arith, holds) in
        let p : (places r == places q) ≡ true = rw e (grind arith) in
        rw (holds, p) refl
    | inr fails ↦ rw fails refl
  ]

  -- A slot may take the same rows.
  allowed-same : (mode : Isolation) (regions : List (Option Tagged)) (r : Option ℕ) (n : ℕ) →
      ((q : ℕ) → r ≡ Some q → tags.is_within regions (tag_of rows places n) (id_of places q) ≡ is_within rows n q) →
      ready.is_allowed mode regions (option_map (id_of places) r) (tag_of rows places n) ≡ is_allowed mode rows r n
  allowed-same mode regions None n within = refl
  allowed-same Exact regions (Some q) n within = same_tag q (region_of rows n)
  allowed-same Within regions (Some q) n within = within q refl

  -- A pool of the rows that wait picks what the definition picks.
  pub pick-same : (mode : Isolation) (limit slots slot : ℕ) (regions : List (Option Tagged)) (r : Option ℕ) → region_on rows (top rows slot) ≡ r →
      All (λ (p : NumberedRow). (q : ℕ) → r ≡ Some q → tags.is_within regions (tag_of rows places p.0) (id_of places q) ≡ is_within rows p.0 q) (waiting rows) →
      ready.pick (record { isolation = mode; limit = limit; slots = slots; rows = map (waiting_of rows places) (waiting rows) }) regions slot (option_map (id_of places) r) ≡
      option_map (id_of places) (pick_of mode rows slot)
  pick-same mode limit slots slot regions r region within =
      let test : NumberedRow → Bool = λ p. is_allowed mode rows r p.0 in
      let here : Waiting → Bool = λ w. ready.is_allowed mode regions (option_map (id_of places) r) w.region in
      let eligible_here : filter here (map (waiting_of rows places) (waiting rows)) ≡ map (waiting_of rows places) (eligible mode rows slot) =
      filter-map here (waiting_of rows places) (waiting rows) ∙
      ap (map (waiting_of rows places))
      (filter-all _ test (waiting rows) (λ i d below. allowed-same mode regions r (get_or (waiting rows) i d).0 (within i d below)) ∙ filter-filter _ test (numbered_rows rows) ∙ rw region refl) in
      let made : filter (λ (w : Waiting). ready.is_made_on slot w.made_on) (map (waiting_of rows places) (eligible mode rows slot)) ≡
      map (waiting_of rows places) (filter (λ (p : NumberedRow). is_made_on slot p.1.made_on) (eligible mode rows slot)) =
      filter-map (λ (w : Waiting). ready.is_made_on slot w.made_on) (waiting_of rows places) (eligible mode rows slot) ∙
      ap (map (waiting_of rows places)) (filter-same _ _ (eligible mode rows slot) (λ p. made_on-same slot p.1.made_on)) in
      rw (eligible_here, made, first-map) (last-map (first_of (eligible mode rows slot)) (filter (λ (p : NumberedRow). is_made_on slot p.1.made_on) (eligible mode rows slot)))
