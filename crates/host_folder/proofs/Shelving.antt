-- The numbers of a tenant, where it stands among others.
use Rattle.std.proofs.Common.{◌≡◌, ◌≢◌, ℕ, ◌+◌, ◌<◌, ◌≤◌, Bool, true, false, cond, List, [], ◌∷◌, ◌++◌, Option, Some, None, Result, Ok}
use Rattle.std.proofs.Common.{Err, IfOk, IfSome, Contains, length, get_or, set, nat_lt, string_bytes, refl, sym, ap, subst, ◌∙◌, inl, inr, arith, one-add, ltb-true, ltb-false}
use Rattle.std.specs.List.{position, position_or_len}
use Rattle.std.proofs.lemmas.Bool.{cases_Bool}
use Rattle.std.proofs.lemmas.Slice.Eq.{bytes_eq-Decides}
use Rattle.term_life.specs.Dumps.{without, AreNewest, IsOldest, IsTooOld}
use Rattle.host_folder.specs.Shelves.{has_name, numbers_in, IsPut}
use Rattle.host_folder.specs.declared.shelves.Named.{Named}

-- where the tenant of a name is, or how many there are
abbrev place : List ℕ → List Named → ℕ
place name ts = position_or_len (has_name name) ts

no_other : (name other : List ℕ) (t : Named) → other ≢ name → has_name name t ≡ true → has_name other t ≡ false
no_other name other t differs is =
    elim (cases_Bool (has_name other t)) [
      | inl also ↦ absurd (differs (sym ((bytes_eq-Decides (string_bytes t.name) other).0 also) ∙ (bytes_eq-Decides (string_bytes t.name) name).0 is))
      | inr not ↦ not
    ]

at_place : (name : List ℕ) (ts : List Named) (d : Named) → place name ts < length ts → numbers_in ts name ≡ (get_or ts (place name ts) d).shelf
at_place name [] d within = absurd (omega arith)
at_place name (t ∷ ts) d within =
    elim (cases_Bool (has_name name t)) [
      | inl e ↦ rw e refl
      | inr e ↦ let w = rw e at within in rw e (rw one-add (at_place name ts d (omega (arith, w))))
    ]

name_there : (name : List ℕ) (ts : List Named) (d : Named) → place name ts < length ts → has_name name (get_or ts (place name ts) d) ≡ true
name_there name [] d within = absurd (omega arith)
name_there name (t ∷ ts) d within =
    elim (cases_Bool (has_name name t)) [
      | inl e ↦ rw e e
      | inr e ↦ let w = rw e at within in rw e (rw one-add (name_there name ts d (omega (arith, w))))
    ]

no_place : (name : List ℕ) (ts : List Named) → length ts ≤ place name ts → numbers_in ts name ≡ []
no_place name [] past = refl
no_place name (t ∷ ts) past =
    elim (cases_Bool (has_name name t)) [
      | inl e ↦ let p = rw e at past in absurd (omega (arith, p))
      | inr e ↦ let p = rw e at past in rw e (no_place name ts (omega (arith, p)))
    ]

set_this : (name : List ℕ) (ts : List Named) (u : Named) → has_name name u ≡ true → place name ts < length ts → numbers_in (set ts (place name ts) u) name ≡ u.shelf
set_this name [] u is within = absurd (omega arith)
set_this name (t ∷ ts) u is within =
    elim (cases_Bool (has_name name t)) [
      | inl e ↦ rw e (rw is refl)
      | inr e ↦ let w = rw e at within in rw e (rw one-add (rw e (set_this name ts u is (omega (arith, w)))))
    ]

set_others : (name other : List ℕ) (ts : List Named) (u : Named) → other ≢ name → has_name name u ≡ true → place name ts < length ts → numbers_in (set ts (place name ts) u) other ≡ numbers_in ts other
set_others name other [] u differs is within = absurd (omega arith)
set_others name other (t ∷ ts) u differs is within =
    elim (cases_Bool (has_name name t)) [
      | inl e ↦ rw e (rw (no_other name other u differs is) (rw (no_other name other t differs e) refl))
      | inr e ↦ let w = rw e at within in rw e (rw one-add (ap (cond (has_name other t) t.shelf) (set_others name other ts u differs is (omega (arith, w)))))
    ]

push_this : (name : List ℕ) (ts : List Named) (u : Named) → has_name name u ≡ true → length ts ≤ place name ts → numbers_in (ts ++ u ∷ []) name ≡ u.shelf
push_this name [] u is past = rw is refl
push_this name (t ∷ ts) u is past =
    elim (cases_Bool (has_name name t)) [
      | inl e ↦ let p = rw e at past in absurd (omega (arith, p))
      | inr e ↦ let p = rw e at past in rw e (push_this name ts u is (omega (arith, p)))
    ]

push_others : (name other : List ℕ) (ts : List Named) (u : Named) → other ≢ name → has_name name u ≡ true → numbers_in (ts ++ u ∷ []) other ≡ numbers_in ts other
push_others name other [] u differs is = rw (no_other name other u differs is) refl
push_others name other (t ∷ ts) u differs is = ap (cond (has_name other t) t.shelf) (push_others name other ts u differs is)

chosen : (b : Bool) (k i : ℕ) → cond b (Some k) None ≡ Some i → (b ≡ true) × (k ≡ i)
chosen true k i e = (refl, cc)
chosen false k i e = cc

not_chosen : (b : Bool) (k : ℕ) → cond b (Some k) None ≡ None → b ≡ false
not_chosen true k e = cc
not_chosen false k e = refl

-- the same by what `position` gives
module _ (name : List ℕ) (ts : List Named) where
  module _ (i : ℕ) (at : position (has_name name) ts ≡ Some i) where
    here : (place name ts < length ts) × (place name ts ≡ i)
    here = let k = chosen (nat_lt (place name ts) (length ts)) (place name ts) i at in (ltb-true (place name ts) (length ts) k.0, k.1)

    pub within : i < length ts
    within = omega (arith, here.0, here.1)

    pub numbers_at : (d : Named) → numbers_in ts name ≡ (get_or ts i d).shelf
    numbers_at d = at_place name ts d here.0 ∙ ap (λ k. (get_or ts k d).shelf) here.1

    pub named_at : (d : Named) → has_name name (get_or ts i d) ≡ true
    named_at d = subst (λ k. has_name name (get_or ts k d) ≡ true) here.1 (name_there name ts d here.0)

    pub numbers_set : (u : Named) → has_name name u ≡ true → numbers_in (set ts i u) name ≡ u.shelf
    numbers_set u is = ap (λ k. numbers_in (set ts k u) name) (sym here.1) ∙ set_this name ts u is here.0

    pub others_set : (other : List ℕ) (u : Named) → other ≢ name → has_name name u ≡ true → numbers_in (set ts i u) other ≡ numbers_in ts other
    others_set other u differs is = ap (λ k. numbers_in (set ts k u) other) (sym here.1) ∙ set_others name other ts u differs is here.0

  module _ (at : position (has_name name) ts ≡ None) where
    past : length ts ≤ place name ts
    past = ltb-false (place name ts) (length ts) (not_chosen (nat_lt (place name ts) (length ts)) (place name ts) at)

    pub numbers_none : numbers_in ts name ≡ []
    numbers_none = no_place name ts past

    pub numbers_push : (u : Named) → has_name name u ≡ true → numbers_in (ts ++ u ∷ []) name ≡ u.shelf
    numbers_push u is = push_this name ts u is past

-- What a shelf says of one more dump.
module _ {E : Type 0} (keep n : ℕ) (old new : List ℕ) where
  pub is_put : (r : Result (Option ℕ) E) → (r ≡ Ok None → new ≡ old ++ n ∷ []) → IfOk r (λ gone. IfSome gone (λ o. Contains (old ++ n ∷ []) o))
      → IfOk r (λ gone. IfSome gone (λ o. IsTooOld keep (old ++ n ∷ []) o × (new ≡ without o (old ++ n ∷ [])))) → IfOk r (λ gone. IfSome gone (λ o. IsOldest (old ++ n ∷ []) o))
      → (r ≡ Ok None → AreNewest keep new) → IfOk r (λ gone. IsPut keep n old new gone)
  is_put (Ok None) all there gone oldest stay = record { all = λ e. all refl; stay = λ e. stay refl; one = tt; rest = tt }
  is_put (Ok (Some o)) all there gone oldest stay = record { all = λ e. cc; stay = λ e. cc; one = (there, oldest, gone.0); rest = gone.1 }
  is_put (Err e) all there gone oldest stay = tt

-- One more dump of a tenant that is there.
module _ (name : List ℕ) (ts : List Named) (i : ℕ) (at : position (has_name name) ts ≡ Some i) (d : Named) (there : d ≡ get_or ts i d) where
  named : has_name name d ≡ true
  named = subst (λ (t : Named). has_name name t ≡ true) (sym there) (named_at name ts i at d)

  pub put_there : {E : Type 0} (keep k n : ℕ) → k ≡ keep → (new : List ℕ) (r : Result (Option ℕ) E) → IfOk r (λ gone. IsPut k n d.shelf new gone)
      → IfOk r (λ gone. IsPut keep n (numbers_in ts name) (numbers_in (set ts i (record { name = d.name; shelf = new })) name) gone)
  put_there keep k n same new r put =
      let before : d.shelf ≡ numbers_in ts name = sym (numbers_at name ts i at d ∙ ap (λ t. t.shelf) (sym there)) in
      let after : new ≡ numbers_in (set ts i (record { name = d.name; shelf = new })) name = sym (numbers_set name ts i at (record { name = d.name; shelf = new }) named) in
      subst (λ (xs : List ℕ). IfOk r (λ gone. IsPut keep n (numbers_in ts name) xs gone)) after
      (subst (λ (xs : List ℕ). IfOk r (λ gone. IsPut keep n xs new gone)) before
      (subst (λ j. IfOk r (λ gone. IsPut j n d.shelf new gone)) same put))

  pub others_there : (new : List ℕ) (other : List ℕ) → other ≢ name → numbers_in (set ts i (record { name = d.name; shelf = new })) other ≡ numbers_in ts other
  others_there new other differs = others_set name ts i at other (record { name = d.name; shelf = new }) differs named

-- The first dump of a tenant.
module _ (name : List ℕ) (ts : List Named) (u : Named) (is : string_bytes u.name ≡ name) (items : List Named) (e : items ≡ ts ++ u ∷ []) where
  new_named : has_name name u ≡ true
  new_named = (bytes_eq-Decides (string_bytes u.name) name).1 is

  pub put_new : {E : Type 0} (at : position (has_name name) ts ≡ None) (keep k n : ℕ) → k ≡ keep → (old : List ℕ) → old ≡ [] → (r : Result (Option ℕ) E) → IfOk r (λ gone. IsPut k n old u.shelf gone)
      → (gone : Option ℕ) → r ≡ Ok gone → IsPut keep n (numbers_in ts name) (numbers_in items name) gone
  put_new at keep k n same old empty r put gone ok =
      let before : old ≡ numbers_in ts name = empty ∙ sym (numbers_none name ts at) in
      let after : u.shelf ≡ numbers_in items name = sym (ap (λ l. numbers_in l name) e ∙ numbers_push name ts at u new_named) in
      let one : IsPut k n old u.shelf gone = subst (λ q. IfOk q (λ g. IsPut k n old u.shelf g)) ok put in
      subst (λ (xs : List ℕ). IsPut keep n (numbers_in ts name) xs gone) after
      (subst (λ (xs : List ℕ). IsPut keep n xs u.shelf gone) before (subst (λ j. IsPut j n old u.shelf gone) same one))

  pub others_new : (other : List ℕ) → other ≢ name → numbers_in items other ≡ numbers_in ts other
  others_new other differs = ap (λ l. numbers_in l other) e ∙ push_others name other ts u differs new_named
