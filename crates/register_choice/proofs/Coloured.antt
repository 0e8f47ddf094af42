-- What the check confirms is what the law asks.
use Rattle.std.proofs.Common.{◌≡◌, ℕ, zero, suc, ◌+◌, List, [], ◌∷◌, ◌++◌, length, Some, None, Bool, refl, ap, subst, ◌∙◌, arith}
use Rattle.std.specs.Prelude.{slice_get, slice_index_or, true, false}
use Rattle.job_language.specs.declared.instructions.Instr.{Instr}
use Rattle.job_compiler.specs.Colours.{renamed, IsColoured}
use Rattle.register_choice.specs.Choice.{colour_of, live_of, renamed_from, Stays, IsColouring}

get_renamed : (colours : List (List ℕ)) (n : ℕ) (vs : List Instr) (k : ℕ) (i : Instr) → slice_get vs k ≡ Some i
    → slice_get (renamed_from colours n vs) k ≡ Some (renamed (colour_of colours (n + k)) (colour_of colours (n + k + 1)) i)
get_renamed colours n [] k i e = cc
get_renamed colours n (v ∷ vs) zero i e =
    let same : v ≡ i = cc in
    let at : n + 0 ≡ n = omega arith in
    rw (at, same) refl
get_renamed colours n (v ∷ vs) (suc k) i e =
    let at : n + 1 + k ≡ n + suc k = omega arith in
    subst (λ m. slice_get (renamed_from colours (n + 1) vs) k ≡ Some (renamed (colour_of colours m) (colour_of colours (m + 1)) i)) at (get_renamed colours (n + 1) vs k i e)

none_renamed : (colours : List (List ℕ)) (n : ℕ) (vs : List Instr) (k : ℕ) → slice_get vs k ≡ None → slice_get (renamed_from colours n vs) k ≡ None
none_renamed colours n [] k e = refl
none_renamed colours n (v ∷ vs) zero e = cc
none_renamed colours n (v ∷ vs) (suc k) e = none_renamed colours (n + 1) vs k e

-- one more instruction behind others
pub renamed_more : (colours : List (List ℕ)) (n : ℕ) (vs : List Instr) (v : Instr)
    → renamed_from colours n (vs ++ v ∷ []) ≡ renamed_from colours n vs ++ renamed (colour_of colours (n + length vs)) (colour_of colours (n + length vs + 1)) v ∷ []
renamed_more colours n [] v = let at : n + 0 ≡ n = omega arith in rw at refl
renamed_more colours n (x ∷ vs) v =
    let at : n + 1 + length vs ≡ n + length (x ∷ vs) = omega arith in
    ap (λ l. renamed (colour_of colours n) (colour_of colours (n + 1)) x ∷ l) (subst
    (λ m. renamed_from colours (n + 1) (vs ++ v ∷ []) ≡ renamed_from colours (n + 1) vs ++ renamed (colour_of colours m) (colour_of colours (m + 1)) v ∷ []) at
    (renamed_more colours (n + 1) vs v))

pub coloured : (vs rs : List Instr) (colours : List (List ℕ)) (rows : List (List Bool)) → IsColouring vs colours rows → rs ≡ renamed_from colours 0 vs
    → IsColoured 256 vs rs (colour_of colours) (live_of rows)
coloured vs rs colours rows good is = record {
  renames = λ k i e. ap (λ l. slice_get l k) is ∙ from_start k i (get_renamed colours 0 vs k i e);
  nowhere = λ k e. ap (λ l. slice_get l k) is ∙ none_renamed colours 0 vs k e;
  read = λ k i e. (good.places k i e).read;
  low = λ k i e. (good.places k i e).low;
  flow = λ k i e. (good.places k i e).flow;
}
  where
    from_start : (k : ℕ) (i : Instr) → slice_get (renamed_from colours 0 vs) k ≡ Some (renamed (colour_of colours (0 + k)) (colour_of colours (0 + k + 1)) i)
        → slice_get (renamed_from colours 0 vs) k ≡ Some (renamed (colour_of colours k) (colour_of colours (k + 1)) i)
    from_start k i e =
        let at : 0 + k ≡ k = omega arith in
        subst (λ m. slice_get (renamed_from colours 0 vs) k ≡ Some (renamed (colour_of colours m) (colour_of colours (m + 1)) i)) at e

-- what each register that is read later does from a place to the next one, by what is there
abbrev pub AllStay : (from to : List ℕ) (here row : List Bool) (written : List ℕ) → Type 0
AllStay from to here row ws = (u : ℕ) → slice_index_or row u false ≡ true → Stays (λ v. slice_index_or from v 0) (λ v. slice_index_or to v 0) here u ws

pub stay_alike : (from from' to to' : List ℕ) (here here' row row' : List Bool) (ws : List ℕ) → from ≡ from' → to ≡ to' → here ≡ here' → row ≡ row' → AllStay from to here row ws
    → AllStay from' to' here' row' ws
stay_alike from from' to to' here here' row row' ws e1 e2 e3 e4 h =
    subst (λ x. AllStay from' to' here' x ws) e4 (subst (λ x. AllStay from' to' x row ws) e3 (subst (λ x. AllStay from' x here row ws) e2 (subst (λ x. AllStay x to here row ws) e1 h)))
