-- Cells stay right.
use Rattle.std.proofs.Common.{◌≡◌, ◌≢◌, ◌⊎◌, inl, inr, ℕ, ◌+◌, ◌==◌, ◌<◌, ◌≤◌, ◌&&◌, zero, suc, Bool, true, false, List, [], ◌∷◌, ◌++◌, length, drop, refl, sym, ap, ◌∙◌, arith, length-append}
use Rattle.std.proofs.Common.{length-set, get_or, subst, Option, Some, None, nat_lt}
use Rattle.std.specs.Prelude.{if◌then◌else◌, All, count_by, slice_set, slice_index_or, unwrap_or}
use Rattle.std.proofs.Math.Seq.{take-length, drop-length}
use Rattle.std.proofs.lemmas.Bool.{cases_eq}
use Rattle.std.proofs.lemmas.Bool.Decides.{nat_tests}
use Rattle.std.proofs.lemmas.Option.{unwrap_or-slice_get}
use Rattle.std.proofs.lemmas.List.{append-nil, take-append-le, drop-append-le, get_or-set_same, get_or-set_other, set_past}
use Rattle.std.proofs.lemmas.List.Elements.{All-append}
use Rattle.std.proofs.lemmas.List.Sums.{sum_by-append}
use Rattle.job_language.specs.Recorded.{is_entry}
use Rattle.job_language.specs.Tenant.{IsValidTenant}
use Rattle.job_language.specs.declared.answers.Answer.{Answer}
use Rattle.job_language.specs.declared.answers.Moved.TheVariants as moved
use Rattle.job_language.specs.declared.steps.Entry.{Entry}
use Rattle.job_language.specs.declared.steps.Step.{Step}
use Rattle.job_language.specs.declared.tenants.Tenant.{Tenant}
use Rattle.tenant_model.specs.State.{State}
use Rattle.tenant_model.specs.Advance.{advance}
use Rattle.tenant_model.specs.Solo.{step}
use Rattle.tenant_model.specs.Told.{slot_of, is_freed}
use Rattle.tenant_model.specs.Walks.{height}
use Rattle.tenant_model.specs.WellFormed.{IsWellFormed}
use Rattle.tenant_model.proofs.Advancing.{told_of_slots}
use Rattle.tenant_model.proofs.Within.{either_way}
use Rattle.tenant_record.specs.History.{state_after, entries_of, IsHistory, Takes}
use Rattle.tenant_record.specs.Places.{place, is_in, due_place, woken, IsPlaceOf}
use Rattle.tenant_record.specs.declared.places.Place.{Place}
use Rattle.tenant_record.specs.declared.places.Place.TheVariants.{Home, Due, Out}
use Rattle.tenant_record.specs.Cell.{is_step_on, is_on, is_ask, touches, IsStill, AreStill, AreCounted, AreHome, ArePlaced, counted}
use Rattle.tenant_record.proofs.Histories.{well_formed, entry_recorded, none_recorded}

-- Places, one changed.
place_is : (home : List Place) (o : ℕ) → place home o ≡ get_or home o Out
place_is home o = unwrap_or-slice_get home o Out

pub place_same : (home : List Place) (slot : ℕ) (q : Place) → slot < length home → place (slice_set home slot q) slot ≡ q
place_same home slot q within = place_is (slice_set home slot q) slot ∙ get_or-set_same home slot q Out within

pub place_other : (home : List Place) (slot o : ℕ) (q : Place) → o ≢ slot → place (slice_set home slot q) o ≡ place home o
place_other home slot o q differs = place_is (slice_set home slot q) o ∙ (get_or-set_other home slot o q Out differs ∙ sym (place_is home o))

-- What holds of the new place, and of the old one, holds after the change.
pub place_by : (P : Place → Type 0) (home : List Place) (slot o : ℕ) (q : Place) → (o ≡ slot → P q) → P (place home o) → P (place (slice_set home slot q) o)
place_by P home slot o q new old = elim (cases_eq o slot) [
  | inl same ↦ elim (either_way (nat_lt slot (length home))) [
    | inl inside ↦
        let within : slot < length home = grind (arith, nat_tests, inside) in
        let is : place (slice_set home slot q) o ≡ q = ap (λ k. place (slice_set home slot q) k) same ∙ place_same home slot q within in
        subst P (sym is) (new same)
    | inr outside ↦
        let past : length home ≤ slot = grind (arith, nat_tests, outside) in
        subst (λ l. P (place l o)) (sym (set_past home slot q past)) old
  ]
  | inr differs ↦ subst P (sym (place_other home slot o q differs)) old
]

abbrev pub IsIn : Place → Type 0
IsIn q = is_in q ≡ true

due_in : (q : Place) → IsIn q → IsIn (due_place q)
due_in (Home p) is = refl
due_in (Due p) is = refl
due_in Out is = is

due_of : (tenant slot : ℕ) (q : Place) → IsPlaceOf tenant slot q → IsPlaceOf tenant slot (due_place q)
due_of tenant slot (Home p) is = is
due_of tenant slot (Due p) is = is
due_of tenant slot Out is = is

pub woken_in : (home : List Place) (due : Option ℕ) (o : ℕ) → IsIn (place home o) → IsIn (place (woken due home) o)
woken_in home None o is = is
woken_in home (Some slot) o is = place_by IsIn home slot o (due_place (place home slot)) (λ same. due_in (place home slot) (subst (λ k. IsIn (place home k)) same is)) is

pub woken_placed : (tenant : ℕ) (home : List Place) (due : Option ℕ) → ArePlaced tenant home → ArePlaced tenant (woken due home)
woken_placed tenant home None are = are
woken_placed tenant home (Some slot) are =
    λ o. place_by (IsPlaceOf tenant o) home slot o (due_place (place home slot)) (λ same. due_of tenant o (place home slot) (subst (λ k. IsPlaceOf tenant o (place home k)) same (are o))) (are o)

pub set_placed : (tenant : ℕ) (home : List Place) (slot : ℕ) (q : Place) → ArePlaced tenant home → IsPlaceOf tenant slot q → ArePlaced tenant (slice_set home slot q)
set_placed tenant home slot q are is = λ o. place_by (IsPlaceOf tenant o) home slot o q (λ same. subst (λ k. IsPlaceOf tenant k q) (sym same) is) (are o)

pub woken_long : (home : List Place) (due : Option ℕ) → length (woken due home) ≡ length home
woken_long home None = refl
woken_long home (Some slot) = length-set home slot (due_place (place home slot))

-- What a step tells of its slot, in terms of its answer and of the next state.
record Tells (s : State) (x : Step) (a : Answer) (t : State) : Type 0 where
  others : (o : ℕ) → slot_of x a ≢ Some o → height t.rows o ≡ height s.rows o
  freed : (slot : ℕ) → slot_of x a ≡ Some slot → slot < s.config.reserved → is_entry a ≡ true → (height t.rows slot == 0) ≡ is_freed a

tells : (s : State) (x : Step) (a : Answer) (t : State) → IsWellFormed s → step s x ≡ (a, t) → Tells s x a t
tells s x a t is made = let its = told_of_slots s x is in let P : Answer × State → Type 0 = λ r. Tells s x r.0 r.1 in subst P made (record { others = its.others; freed = its.freed })

-- The passes that must be home are, if a step takes only the pass of its slot, and that comes back where the slot is freed.
module _ (c : Tenant) (h : List Entry) (x : Step) (a : Answer) (t : State) (home left : List Place) (valid : IsValidTenant c) (is : IsHistory c h) (are : AreHome c (state_after c h) home) where
  abbrev Stays : ℕ → Type 0
  Stays o = IsIn (place home o) → IsIn (place left o)

  entered_at : (o : ℕ) → o < c.reserved → height t.rows o ≡ 0 → is_entry a ≡ true → Tells (state_after c h) x a t → (k : Option ℕ) → slot_of x a ≡ k →
      ((p : ℕ) → (is_entry a ≡ true → slot_of x a ≢ Some p) → Stays p) → ((p : ℕ) → slot_of x a ≡ Some p → is_freed a ≡ true → IsIn (place left p)) → IsIn (place left o)
  entered_at o low empty enters told None at stays back =
      let differs : slot_of x a ≢ Some o = λ some. let no : None ≡ Some o = sym at ∙ some in absurd (grind (arith, no)) in
      stays o (λ _. differs) (are o low (sym (told.others o differs) ∙ empty))
  entered_at o low empty enters told (Some k) at stays back = elim (cases_eq k o) [
    | inl same ↦
        let here : slot_of x a ≡ Some o = at ∙ ap Some same in
        let reserved : (state_after c h).config.reserved ≡ c.reserved = ap (λ (v : Tenant). v.reserved) is.config in
        let freed = told.freed o here (omega (arith, reserved, low)) enters in
        back o here (sym freed ∙ grind (arith, nat_tests, empty))
    | inr other ↦
        let differs : slot_of x a ≢ Some o = λ some. let e : Some k ≡ Some o = sym at ∙ some in other (ap (λ v. unwrap_or v k) e) in
        stays o (λ _. differs) (are o low (sym (told.others o differs) ∙ empty))
  ]

  pub home_kept : Takes (state_after c h) x a t → ((p : ℕ) → (is_entry a ≡ true → slot_of x a ≢ Some p) → Stays p) → ((p : ℕ) → slot_of x a ≡ Some p → is_freed a ≡ true → IsIn (place left p)) →
      AreHome c t left
  home_kept (inl made) stays back o low empty = entered_at o low empty made.0 (tells (state_after c h) x a t (well_formed c h valid) made.2) (slot_of x a) refl stays back
  home_kept (inr none) stays back o low empty = stays o (λ enters. absurd (grind (arith, enters, none.0))) (are o low (ap (λ (s : State). height s.rows o) (sym none.1) ∙ empty))

-- What is known of idle slots.
one : (P : Entry → Type 0) (e : Entry) → P e → All P (e ∷ [])
one P e p zero d within = p
one P e p (suc k) d within = absurd (omega arith)

-- A slot that is not touched is still idle.
still_more : (c : Tenant) (h : List Entry) (e : Entry) (slot : ℕ) (s : Option ℕ) → IsStill c h slot s → touches slot e ≡ false → IsStill c (h ++ e ∷ []) slot s
still_more c h e slot None is apart = tt
still_more c h e slot (Some k) is apart =
    let within = is.within in record {
      within = omega (arith, within, length-append h (e ∷ []));
      untouched = rw (drop-append-le k h (e ∷ []) within) (All-append (λ (x : Entry). touches slot x ≡ false) (drop k h) (e ∷ []) is.untouched (one (λ (x : Entry). touches slot x ≡ false) e apart));
      idle = rw (take-append-le k h (e ∷ []) within) is.idle;
    }

none_left : (P : Entry → Type 0) (h : List Entry) → All P (drop (length h) h)
none_left P h = rw drop-length (λ k d within. absurd (omega arith))

still_now : (c : Tenant) (h : List Entry) (slot : ℕ) → (advance (state_after c h) slot).0 ≡ moved.Idle → IsStill c h slot (Some (length h))
still_now c h slot idle = record { within = omega arith; untouched = none_left (λ (x : Entry). touches slot x ≡ false) h; idle = rw take-length idle }

-- one entry more: each slot is untouched by it, or not known to be idle
pub stills_more : (c : Tenant) (h : List Entry) (e : Entry) (idle_since left : List (Option ℕ)) → AreStill c h idle_since →
    ((o : ℕ) → (slice_index_or left o None ≡ None) ⊎ ((touches o e ≡ false) × (slice_index_or left o None ≡ slice_index_or idle_since o None))) → AreStill c (h ++ e ∷ []) left
stills_more c h e idle_since left are each o within = elim (each o) [
  | inl unknown ↦ rw unknown tt
  | inr apart ↦ rw apart.1 (still_more c h e o (slice_index_or idle_since o None) (are o within) apart.0)
]

-- a slot is idle now
pub stills_now : (c : Tenant) (h : List Entry) (idle_since : List (Option ℕ)) (slot : ℕ) → AreStill c h idle_since → slot < length idle_since → (advance (state_after c h) slot).0 ≡ moved.Idle →
    AreStill c h (slice_set idle_since slot (Some (length h)))
stills_now c h idle_since slot are long idle o within = elim (cases_eq o slot) [
  | inl same ↦ rw (same, get_or-set_same idle_since slot (Some (length h)) None long) (still_now c h slot idle)
  | inr differs ↦ rw (get_or-set_other idle_since slot o (Some (length h)) None differs) (are o within)
]

-- The slot that an entry touches is not known to be idle.
pub forgotten : (idle_since : List (Option ℕ)) (slot : ℕ) (e : Entry) → slot < length idle_since → ((o : ℕ) → o ≢ slot → touches o e ≡ false) → (o : ℕ) →
    (slice_index_or (slice_set idle_since slot None) o None ≡ None) ⊎ ((touches o e ≡ false) × (slice_index_or (slice_set idle_since slot None) o None ≡ slice_index_or idle_since o None))
forgotten idle_since slot e long apart o = elim (cases_eq o slot) [
  | inl same ↦ inl (rw same (get_or-set_same idle_since slot None None long))
  | inr differs ↦ inr (apart o differs, get_or-set_other idle_since slot o None None differs)
]

-- Counts.
counted_more : (slot : ℕ) (h : List Entry) (e : Entry) → count_by (is_on slot) (h ++ e ∷ []) ≡ count_by (is_on slot) h + (if is_on slot e then 1 else 0)
counted_more slot h e = sum_by-append (λ x. if is_on slot x then 1 else 0) h (e ∷ []) ∙ omega arith

-- an entry of a slot, or none
pub counts_by : (h : List Entry) (counts : List ℕ) (slot : ℕ) (x : Step) (a : Answer) (b : Bool) → is_entry a ≡ b → AreCounted h counts → slot < length counts →
    ((o : ℕ) → is_step_on o x ≡ (slot == o)) → AreCounted (h ++ entries_of x a) (counted counts slot (is_entry a))
counts_by h counts slot x a false is are long on = rw (none_recorded x a is, is, append-nil h) are
counts_by h counts slot x a true is are long on = rw (entry_recorded x a is, is) (λ o within. elim (cases_eq o slot) [
  | inl same ↦
      let here : is_step_on slot x ≡ true = on slot ∙ grind (arith, nat_tests) in
      rw same (get_or-set_same counts slot (slice_index_or counts slot 0 + 1) 0 long ∙
      (ap (λ n. n + 1) (are slot (subst (λ k. k < 16) same within)) ∙ sym (counted_more slot h (record { step = x; answer = a }) ∙ rw here refl)))
  | inr differs ↦
      let apart : is_step_on o x ≡ false = on o ∙ grind (arith, nat_tests, differs) in
      get_or-set_other counts slot o (slice_index_or counts slot 0 + 1) 0 differs ∙ (are o within ∙ sym (counted_more o h (record { step = x; answer = a }) ∙ rw apart (omega arith)))
])

-- An ask is no entry of a slot.
pub counts_same : (h : List Entry) (counts : List ℕ) (x : Step) (a : Answer) (b : Bool) → is_entry a ≡ b → AreCounted h counts → ((o : ℕ) → is_step_on o x ≡ false) →
    AreCounted (h ++ entries_of x a) counts
counts_same h counts x a false is are off = rw (none_recorded x a is, append-nil h) are
counts_same h counts x a true is are off = rw (entry_recorded x a is) (λ o within. are o within ∙ sym (counted_more o h (record { step = x; answer = a }) ∙ rw (off o) (omega arith)))

-- how many asks there are
asks_more : (h : List Entry) (e : Entry) → count_by (λ (v : Entry). is_ask v.step) (h ++ e ∷ []) ≡ count_by (λ (v : Entry). is_ask v.step) h + (if is_ask e.step then 1 else 0)
asks_more h e = sum_by-append (λ (v : Entry). if is_ask v.step then 1 else 0) h (e ∷ []) ∙ omega arith

pub asks_by : (h : List Entry) (x : Step) (a : Answer) (b : Bool) → is_entry a ≡ b →
    count_by (λ (v : Entry). is_ask v.step) (h ++ entries_of x a) ≡ count_by (λ (v : Entry). is_ask v.step) h + (if is_entry a && is_ask x then 1 else 0)
asks_by h x a false is = rw (none_recorded x a is, is, append-nil h) (omega arith)
asks_by h x a true is = rw (entry_recorded x a is, is) (asks_more h (record { step = x; answer = a }))
