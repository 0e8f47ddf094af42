-- Each register in a row is read later.
use Rattle.std.proofs.Common.{◌≡◌, ℕ, zero, suc, ◌<◌, ◌⊎◌, inl, inr, ⊎_elim, Bool, true, false, List, [], ◌∷◌, ◌++◌, length, get_or, set, replicate, Option, Some, None, refl, sym, ap, subst, ◌∙◌}
use Rattle.std.proofs.Common.{get_or-set_same, get_or-set_other}
use Rattle.std.specs.Prelude.{slice_get}
use Rattle.std.proofs.lemmas.Bool.{cases_eq}
use Rattle.job_language.specs.declared.instructions.Instr.{Instr}
use Rattle.job_compiler.specs.Colours.{leads_to, IsAmong}
use Rattle.register_choice.specs.Choice.{listed, live_of}
use Rattle.register_choice.specs.Reasons.{IsReadLater, Here, Later, IsLiveAtOne, IsReadHere}

pub all_false : (m u : ℕ) → get_or (replicate m false) u false ≡ false
all_false zero u = refl
all_false (suc m) zero = refl
all_false (suc m) (suc u) = all_false m u

pub nothing_more : (rows : List (List Bool)) (row : List Bool) → ((k u : ℕ) → live_of rows k u ≡ false) → ((u : ℕ) → get_or row u false ≡ false) → (k u : ℕ) → live_of (rows ++ row ∷ []) k u ≡ false
nothing_more [] row h g zero u = g u
nothing_more [] row h g (suc k) u = refl
nothing_more (r ∷ rows) row h g zero u = h zero u
nothing_more (r ∷ rows) row h g (suc k) u = nothing_more rows row (λ j. h (suc j)) g k u

pub either_of : (rows : List (List Bool)) (u : ℕ) (a b : Option ℕ) → IsLiveAtOne rows u (listed a None) ⊎ IsLiveAtOne rows u (listed b None) → IsLiveAtOne rows u (listed a b)
either_of rows u None None h = ⊎_elim (λ x. x) (λ x. x) h
either_of rows u None (Some b) h = ⊎_elim (λ x. absurd x) (λ x. x) h
either_of rows u (Some a) None h = ⊎_elim (λ x. x) (λ x. absurd x) h
either_of rows u (Some a) (Some b) h = ⊎_elim (λ x. ⊎_elim (λ y. inl y) (λ y. absurd y) x) (λ x. inr x) h

abbrev Reasons : (vs : List Instr) (rows : List (List Bool)) → Type 0
Reasons vs rows = (k u : ℕ) → live_of rows k u ≡ true → IsReadLater vs k u

at_one : (vs : List Instr) (rows : List (List Bool)) (u : ℕ) (places : List ℕ) → Reasons vs rows → IsLiveAtOne rows u places → (next : ℕ) × (IsAmong next places × IsReadLater vs next u)
at_one vs rows u [] all h = absurd h
at_one vs rows u (k ∷ places) all h = ⊎_elim (λ here. (k, (inl refl, all k u here))) (λ there. let found = at_one vs rows u places all there in (found.0, (inr found.1.0, found.1.1))) h

pub read_here : (vs : List Instr) (rows : List (List Bool)) (p : ℕ) (i : Instr) (u : ℕ) → slice_get vs p ≡ Some i → Reasons vs rows → IsReadHere rows p i u → IsReadLater vs p u
read_here vs rows p i u is all h =
    ⊎_elim (λ later. let found = at_one vs rows u (leads_to i p) all later.0 in Later p found.0 u i is later.1 found.1.0 found.1.1) (λ here. Here p u i is here) h

pub row_set : (vs : List Instr) (rows : List (List Bool)) (p : ℕ) (row : List Bool) → p < length rows → Reasons vs rows → ((u : ℕ) → get_or row u false ≡ true → IsReadLater vs p u)
    → Reasons vs (set rows p row)
row_set vs rows p row low all here k u live =
    ⊎_elim (λ is. subst (λ n. IsReadLater vs n u) (sym is) (here u (sym (ap (λ r. get_or r u false) (ap (λ n. get_or (set rows p row) n []) is ∙ get_or-set_same rows p row [] low)) ∙ live)))
    (λ other. all k u (sym (ap (λ r. get_or r u false) (get_or-set_other rows p k row [] other)) ∙ live)) (cases_eq k p)
