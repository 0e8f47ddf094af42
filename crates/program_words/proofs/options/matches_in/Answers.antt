use Rattle.std.proofs.Common.{rules, refl, true, false, Bool, ◌≡◌, ◌∙◌}
use Rattle.program_words.proofs.options.matches_in.Goals as goal

only_if : (taken : Bool) → (taken ≡ true → ⊥) → taken ≡ false
only_if true no_more = absurd (no_more refl)
only_if false no_more = refl

pub returns-in-Err-clause-refused : goal.returns-in-Err-clause-refused
returns-in-Err-clause-refused c refused =
    only_if _ (λ taken. c.fault_of.ensures.words (search rules) (c.kind.ensures ∙ c.in-Err.ensures.passes taken))
