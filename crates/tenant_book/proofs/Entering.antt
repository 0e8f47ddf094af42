-- The lives of a registry.
use Rattle.std.proofs.Common.{◌≡◌, ℕ, ◌<◌, List, [], ◌∷◌, ◌++◌, length, sym, arith, length-append}
use Rattle.std.proofs.lemmas.List.{get_or_push}
use Rattle.tenant_book.specs.Rules.{life_at}
use Rattle.tenant_book.specs.declared.lives.Life.{Life}

-- the life that was added last
pub last_life : (lives seen : List Life) (l : Life) (number : ℕ) → seen ≡ lives ++ l ∷ [] → number ≡ length lives → life_at seen number ≡ l
last_life lives seen l number is at = rw is (get_or_push lives l _ number (sym at))

pub last_within : (lives seen : List Life) (l : Life) (number : ℕ) → seen ≡ lives ++ l ∷ [] → number ≡ length lives → number < length seen
last_within lives seen l number is at = rw is (omega (arith, at, length-append lives (l ∷ [])))
