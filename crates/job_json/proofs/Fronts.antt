-- Lists that are read one item after another.
use Rattle.std.proofs.Common.{◌≡◌, ℕ, List, [], ◌∷◌, ◌++◌, refl, sym, ap, append_assoc, Result, Ok, Err}
use Rattle.std.proofs.Common.{◌-◌, ◌<◌, length, Some, slice_get, arith, ◌∙◌}
use Rattle.std.specs.Prelude.{IfSome}
use Rattle.std.proofs.lemmas.List.{length_push, get_or_push}
use Rattle.std.proofs.lemmas.Option.{slice_get-get_or}
use Rattle.std.proofs.lemmas.Bool.{cases_Bool, both_ways}
use Rattle.std.proofs.lemmas.List.Folds.{list_all_at, list_all-map}
use Rattle.std.specs.List.{list_all}
use Rattle.std.proofs.Common.{Bool, true, map, get_or, inl, inr, Option, None}
use Rattle.std.specs.Option.{ok_or}
use Rattle.job_json.specs.Json.{◌>>=◌, result_map}

-- what is read so far, and then what is left
abbrev pub with_front : {A E : Type 0} → List A → Result (List A) E → Result (List A) E
with_front front rest = result_map (λ xs. front ++ xs) rest

pub with_front-map : {A E : Type 0} (front : List A) (x : A) (rest : Result (List A) E) → with_front front (result_map (λ xs. x ∷ xs) rest) ≡ with_front (front ++ x ∷ []) rest
with_front-map front x (Ok xs) = ap Ok (sym (append_assoc front (x ∷ []) xs))
with_front-map front x (Err e) = refl

-- the last element after a push
pub IfSome-push_last : {A : Type 0} (P : A → Type 0) (xs : List A) (x : A) → P x → IfSome (slice_get (xs ++ x ∷ []) (length (xs ++ x ∷ []) - 1)) P
IfSome-push_last P xs x h =
    let place : length (xs ++ x ∷ []) - 1 ≡ length xs = rw (length_push xs x) (omega arith) in
    let within : length xs < length (xs ++ x ∷ []) = rw (length_push xs x) (omega arith) in
    let found : slice_get (xs ++ x ∷ []) (length xs) ≡ Some x = slice_get-get_or (xs ++ x ∷ []) (length xs) x within ∙ ap Some (get_or_push xs x x (length xs) refl) in
    rw (place, found) h

-- what each item of a mapped list passes
pub passes_at : {A B : Type 0} (p : B → Bool) (f : A → B) (xs : List A) (i : ℕ) (x : A) → list_all p (map f xs) ≡ true → i < length xs → x ≡ get_or xs i x → p (f x) ≡ true
passes_at p f xs i x all within is =
    let each : list_all (λ y. p (f y)) xs ≡ true = sym (list_all-map p f xs) ∙ all in
    elim (cases_Bool (p (f x))) [ inl passes ↦ passes | inr fails ↦ absurd (both_ways _ (list_all_at (λ y. p (f y)) xs i x within (ap (λ y. p (f y)) (sym is) ∙ fails)) each) ]

pub some_from_ok : {A E : Type 0} (o : Option A) (e : E) (x : A) → Ok x ≡ ok_or o e → o ≡ Some x
some_from_ok None e x h = cc
some_from_ok (Some y) e x h = cc

ok_or-others : {A E : Type 0} (x : A) (o : Option (List A)) (e : E) → ok_or (o >>= λ xs. Some (x ∷ xs)) e ≡ result_map (λ xs. x ∷ xs) (ok_or o e)
ok_or-others x None e = refl
ok_or-others x (Some xs) e = refl

-- one more item, where the others are read after it
pub with_front-next : {A E : Type 0} (front : List A) (item : Option A) (x : A) (others : Option (List A)) (e : E) → item ≡ Some x →
    with_front (front ++ x ∷ []) (ok_or others e) ≡ with_front front (ok_or (item >>= λ x. others >>= λ xs. Some (x ∷ xs)) e)
with_front-next front item x others e its = rw its (sym (with_front-map front x (ok_or others e)) ∙ ap (with_front front) (sym (ok_or-others x others e)))
