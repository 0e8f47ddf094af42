-- What is added to a text, one part after another.
use Rattle.std.proofs.Common.{◌≡◌, ℕ, ℤ, ◌+◌, ◌<◌, Bool, true, false, List, [], ◌∷◌, ◌++◌, length, drop, get_or, refl, sym, ap, ◌∙◌, append_assoc, append-nil}
use Rattle.std.specs.Fmt.{signed_decimal}
use Rattle.std.proofs.lemmas.List.{drop_more}
use Rattle.serde_json.specs.Written.{comma_if}
use Rattle.job_json.specs.CanonicalText.{more_then, listed, number_then}
use Rattle.part_writer.specs.Added.{Adds}

-- bytes
pub plain : (old new bytes : List ℕ) → new ≡ old ++ bytes → Adds old new (λ rest. bytes ++ rest)
plain old new bytes is = λ rest. ap (λ (t : List ℕ). t ++ rest) is ∙ append_assoc old bytes rest

-- one part behind another
pub behind : (old mid new : List ℕ) (f g : List ℕ → List ℕ) → Adds old mid f → Adds mid new g → Adds old new (λ rest. f (g rest))
behind old mid new f g first more = λ rest. more rest ∙ first (g rest)

-- all that was added
pub whole : (old new text : List ℕ) → Adds old new (λ rest. text ++ rest) → new ≡ old ++ text
whole old new text adds = sym (append-nil new) ∙ adds [] ∙ ap (λ (t : List ℕ). old ++ t) (append-nil text)

-- the items of a list from one on, of which some stand before or not, and the closing bracket
abbrev pub from_then : {A : Type 0} → Bool → (A → List ℕ → List ℕ) → List A → List ℕ → List ℕ
from_then false item_then xs rest = listed item_then xs rest
from_then true item_then xs rest = more_then item_then xs rest

module _ {A : Type 0} (item_then : A → List ℕ → List ℕ) where
  -- however the text goes on, it goes on with the items that are left
  abbrev pub GoesOn : (old new : List ℕ) → Bool → List A → (List ℕ → List ℕ) → Type 0
  GoesOn old new is_later left all = (rest : List ℕ) → new ++ from_then is_later item_then left rest ≡ old ++ all rest

  next_item : (is_later : Bool) (x : A) (xs : List A) (rest : List ℕ) → from_then is_later item_then (x ∷ xs) rest ≡ comma_if is_later ++ item_then x (more_then item_then xs rest)
  unfolding listed more_then
  next_item false x xs rest = refl
  next_item true x xs rest = refl

  pub item_added : (xs : List A) (i : ℕ) (x : A) (old text comma new : List ℕ) (is_later : Bool) (all : List ℕ → List ℕ) → i < length xs → x ≡ get_or xs i x
      → GoesOn old text is_later (drop i xs) all → Adds text comma (λ rest. comma_if is_later ++ rest) → Adds comma new (item_then x) → GoesOn old new true (drop (i + 1) xs) all
  item_added xs i x old text comma new is_later all within is so_far parted added = λ rest.
      let left = drop (i + 1) xs in
      added (more_then item_then left rest) ∙ parted (item_then x (more_then item_then left rest))
      ∙ ap (λ (t : List ℕ). text ++ t) (sym (next_item is_later x left rest))
      ∙ ap (λ (ys : List A). text ++ from_then is_later item_then ys rest) (ap (λ (y : A). y ∷ left) is ∙ sym (drop_more xs i x within))
      ∙ so_far rest

  all_added : (is_later : Bool) (rest : List ℕ) → from_then is_later item_then [] rest ≡ 93 ∷ rest
  unfolding listed more_then
  all_added false rest = refl
  all_added true rest = refl

  pub closed : (old text new : List ℕ) (is_later : Bool) (left : List A) (all : List ℕ → List ℕ) → left ≡ [] → GoesOn old text is_later left all → Adds text new (λ rest. 93 ∷ rest) → Adds old new all
  closed old text new is_later left all none so_far end = λ rest.
      end rest ∙ ap (λ (t : List ℕ). text ++ t) (sym (all_added is_later rest)) ∙ ap (λ (ys : List A). text ++ from_then is_later item_then ys rest) (sym none) ∙ so_far rest

  pub begun : (xs : List A) (old new : List ℕ) → Adds old new (λ rest. 91 ∷ rest) → GoesOn old new false xs (λ rest. 91 ∷ listed item_then xs rest)
  begun xs old new added = λ rest. added (listed item_then xs rest)

pub number_added : (ns : List ℤ) (i : ℕ) (n d : ℤ) (old text new : List ℕ) (all : List ℕ → List ℕ) → i < length ns → n ≡ get_or ns i d
    → GoesOn number_then old text true (drop i ns) all → Adds text new (λ rest. 44 ∷ (signed_decimal n ++ rest)) → GoesOn number_then old new true (drop (i + 1) ns) all
unfolding more_then
number_added ns i n d old text new all within is so_far added = λ rest.
    let left = drop (i + 1) ns in
    added (more_then number_then left rest)
    ∙ ap (λ (ys : List ℤ). text ++ more_then number_then ys rest) (ap (λ (m : ℤ). m ∷ left) is ∙ sym (drop_more ns i d within))
    ∙ so_far rest
