-- A list that is read from its canonical text, one item after another.
use Rattle.std.proofs.Common.{◌≡◌, ℕ, List, [], ◌∷◌, ◌++◌, sym, ap, ◌∙◌, append_assoc}
use Rattle.job_json.specs.CanonicalText.{more_then, listed}

module _ {A : Type 0} (item_then : A → List ℕ → List ℕ) where
  -- however the list goes on from here, the bytes are the text of the items that were read and of those
  abbrev pub Continues : (bytes left : List ℕ) → List A → Type 0
  Continues bytes left front =
      (x : A) (xs : List A) (rest : List ℕ) → left ≡ item_then x (more_then item_then xs rest) → bytes ≡ 91 ∷ listed item_then (front ++ x ∷ xs) rest

  pub continues_first : (bytes left : List ℕ) → bytes ≡ 91 ∷ left → Continues bytes left []
  unfolding listed
  continues_first bytes left e x xs rest is = e ∙ ap (λ (s : List ℕ). 91 ∷ s) is

  pub continues_next : (bytes left next : List ℕ) (front : List A) (x : A) → Continues bytes left front → left ≡ item_then x (44 ∷ next) → Continues bytes next (front ++ x ∷ [])
  unfolding more_then
  continues_next bytes left next front x so_far here y ys rest is =
      so_far x (y ∷ ys) rest (here ∙ ap (λ (s : List ℕ). item_then x (44 ∷ s)) is) ∙ ap (λ (zs : List A). 91 ∷ listed item_then zs rest) (sym (append_assoc front (x ∷ []) (y ∷ ys)))

  pub continues_last : (bytes left rest : List ℕ) (front : List A) (x : A) → Continues bytes left front → left ≡ item_then x (93 ∷ rest) → bytes ≡ 91 ∷ listed item_then (front ++ x ∷ []) rest
  unfolding more_then
  continues_last bytes left rest front x so_far here = so_far x [] rest here
