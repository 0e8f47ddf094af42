-- What holds of the entries of a list so far.
use Rattle.std.proofs.Common.{◌≡◌, ◌<◌, ◌+◌, ℕ, List, length, get_or, sym, ◌∙◌, subst, inl, inr, arith}
use Rattle.std.proofs.lemmas.Bool.Decides.{eqb_tells}
use Rattle.std.proofs.lemmas.List.{get_or_default}
use Rattle.job_language.specs.declared.steps.Entry.{Entry}

-- it holds of one more
pub one_more : (P : Entry → Type 0) (es : List Entry) (i : ℕ) (e : Entry) → i < length es → e ≡ get_or es i e → P e →
    ((k : ℕ) (d : Entry) → k < i → P (get_or es k d)) → (k : ℕ) (d : Entry) → k < i + 1 → P (get_or es k d)
one_more P es i e within is here before k d l =
    elim (eqb_tells k i) [
      | inl h ↦ subst (λ j. P (get_or es j d)) (sym h.1) (subst P (is ∙ get_or_default es i e d within) here)
      | inr h ↦ let ne = h.1 in before k d (omega (arith, l, ne))
    ]
