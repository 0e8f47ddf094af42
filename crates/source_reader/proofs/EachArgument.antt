-- Arguments are read one after another, and packed as they come.
use Rattle.std.proofs.Common.{◌≡◌, ℕ, List, [], ◌∷◌, Result, Ok, Err, refl, sym, ◌∙◌}
use Rattle.source_tokens.specs.declared.tokens.Token.{Token}
use Rattle.source_reader.specs.declared.faults.Fault.{Fault}
use Rattle.source_reader.specs.declared.layouts.Taken.{Taken}
use Rattle.source_reader.specs.Calls.{ArgumentTrees, ReadArguments, argument_at, arguments_from, behind_argument, if_fits, with_argument}
use Rattle.source_reader.specs.Faults.{◌>>=◌}
use Rattle.source_reader.specs.Layouts.{with_one}
use Rattle.source_reader.specs.Names.{Scope}
use Rattle.source_reader.specs.Trees.{ExprTree}
use Rattle.source_reader.specs.Packed.{each_argument, packed_arguments}

-- In both, what comes next does the same with each result.
same_next : {A B : Type 0} (r : Result A Fault) (f g : A → Result B Fault) → ((x : A) → f x ≡ g x) → r >>= f ≡ r >>= g
same_next (Ok x) f g same = same x
same_next (Err e) f g same = refl

one_by_one : {A B C : Type 0} (r : Result A Fault) (f : A → Result B Fault) (g : B → Result C Fault) → (r >>= f) >>= g ≡ r >>= (λ x. f x >>= g)
one_by_one (Ok x) f g = refl
one_by_one (Err e) f g = refl

abbrev packed_from : Taken → ArgumentTrees → List ℕ → List ExprTree × List Token → ReadArguments
packed_from t before bs x = Ok (packed_arguments t before bs x.0, x.1)

pub arguments_are_packed : (names : Scope) (t : Taken) (before : ArgumentTrees) (bs : List ℕ) (called ts : List Token)
    → arguments_from names t before bs called ts ≡ each_argument names bs called ts >>= packed_from t before bs
arguments_are_packed names t before [] called ts = refl
arguments_are_packed names t before (b ∷ bs) called ts =
    let others : ExprTree → List Token → Result (List ExprTree × List Token) Fault = λ e rest. each_argument names bs called rest >>= λ o. Ok (e ∷ o.0, o.1) in
    let next : ExprTree → List Token → ReadArguments = λ e rest. arguments_from names (with_one t b) (with_argument t b before e) bs called rest in
    let ends : (e : ExprTree) (rest : List Token) → next e rest ≡ others e rest >>= packed_from t before (b ∷ bs) = λ e rest.
    arguments_are_packed names (with_one t b) (with_argument t b before e) bs called rest
    ∙ sym (one_by_one (each_argument names bs called rest) (λ o. Ok (e ∷ o.0, o.1)) (packed_from t before (b ∷ bs))) in
    same_next (argument_at names ts) (λ v. if_fits v.0 b ts >>= λ e. behind_argument bs called v.1 >>= next e)
    (λ v. (if_fits v.0 b ts >>= λ e. behind_argument bs called v.1 >>= others e) >>= packed_from t before (b ∷ bs)) (λ v.
    same_next (if_fits v.0 b ts) (λ e. behind_argument bs called v.1 >>= next e) (λ e. (behind_argument bs called v.1 >>= others e) >>= packed_from t before (b ∷ bs)) (λ e.
    same_next (behind_argument bs called v.1) (next e) (λ rest. others e rest >>= packed_from t before (b ∷ bs)) (ends e)
    ∙ sym (one_by_one (behind_argument bs called v.1) (others e) (packed_from t before (b ∷ bs))))
    ∙ sym (one_by_one (if_fits v.0 b ts) (λ e. behind_argument bs called v.1 >>= others e) (packed_from t before (b ∷ bs))))
    ∙ sym (one_by_one (argument_at names ts) (λ v. if_fits v.0 b ts >>= λ e. behind_argument bs called v.1 >>= others e) (packed_from t before (b ∷ bs)))
