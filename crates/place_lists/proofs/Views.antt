-- What is seen of links that are those of lists.
use Rattle.std.proofs.Common.{◌≡◌, ◌<◌, ◌≤◌, ◌⊎◌, ℕ, List, [], Option, None, length, replicate, refl, sym, ◌∙◌, ap, subst, inl, inr, arith}
use Rattle.std.proofs.lemmas.Bool.Decides.{leb_tells}
use Rattle.std.proofs.lemmas.List.{get_or-map, get_or_past, length-map, get_or-replicate, length-replicate}
use Rattle.place_lists.specs.Links.{Links, link_at}
use Rattle.place_lists.specs.Lists.{IsIn, last_of, list_in, list_of, lists_of, walk}
use Rattle.place_lists.specs.Linked.{IsRow, IsOnce, IsLinked}
use Rattle.place_lists.proofs.Rows.{walk-row, walk-none, length-once-le}

pub is_below : (l n : ℕ) → (l < n) ⊎ (n ≤ l)
is_below l n = elim (leb_tells n l) [ inl h ↦ inr h.1 | inr h ↦ inl h.1 ]

pub list_of-past : (links : Links) (l : ℕ) → length links.heads ≤ l → list_of links l ≡ []
list_of-past links l h = ap (walk (length links.next) links.next) (get_or_past links.heads l None h) ∙ walk-none (length links.next) links.next

pub list_in-is : (links : Links) (l : ℕ) → list_in (lists_of links) l ≡ list_of links l
list_in-is links l =
    elim (is_below l (length links.heads)) [
      | inl h ↦ get_or-map (λ (head : Option ℕ). walk (length links.next) links.next head) links.heads l None [] h
      | inr h ↦ get_or_past (lists_of links).lists l [] (omega (arith, length-map links.heads (λ (head : Option ℕ). walk (length links.next) links.next head))) ∙ sym (list_of-past links l h)
    ]

pub list_of-is : (links : Links) (f : ℕ → List ℕ) → IsLinked links f → (l : ℕ) → list_of links l ≡ f l
list_of-is links f k l =
    elim (is_below l (length links.heads)) [
      | inl h ↦ walk-row (length links.next) links.next links.previous None (link_at links.heads l) (f l) (k.rows l h) (length-once-le (length links.next) (f l) (k.once l) (k.within l))
      | inr h ↦ list_of-past links l h ∙ sym (k.outside l h)
    ]

-- the same lists
IsLinked-same : (links : Links) (f g : ℕ → List ℕ) → ((l : ℕ) → f l ≡ g l) → IsLinked links f → IsLinked links g
IsLinked-same links f g same k = record {
  tail_size = k.tail_size;
  previous_size = k.previous_size;
  rows = λ l h. subst (λ xs. IsRow links.next links.previous None (link_at links.heads l) xs) (same l) (k.rows l h);
  tails = λ l h. k.tails l h ∙ ap last_of (same l);
  outside = λ l h. sym (same l) ∙ k.outside l h;
  once = λ l. subst IsOnce (same l) (k.once l);
  within = λ l x i. k.within l x (subst (λ xs. IsIn xs x) (sym (same l)) i);
  apart = λ l m x i j. k.apart l m x (subst (λ xs. IsIn xs x) (sym (same l)) i) (subst (λ xs. IsIn xs x) (sym (same m)) j);
}

pub IsLinked-seen : (links : Links) (f : ℕ → List ℕ) → IsLinked links f → IsLinked links (list_of links)
IsLinked-seen links f k = IsLinked-same links f (list_of links) (λ l. sym (list_of-is links f k l)) k

pub seen-is : (links : Links) (f : ℕ → List ℕ) → IsLinked links f → (l : ℕ) → list_in (lists_of links) l ≡ f l
seen-is links f k l = list_in-is links l ∙ list_of-is links f k l

-- what is in a list has a place, and the list is there
pub list-there : (links : Links) (f : ℕ → List ℕ) → IsLinked links f → (l x : ℕ) → IsIn (f l) x → l < length links.heads
list-there links f k l x i =
    elim (is_below l (length links.heads)) [
      | inl h ↦ h
      | inr h ↦ absurd (subst (λ xs. IsIn xs x) (k.outside l h) i)
    ]

-- links of which there are none yet
abbrev unlinked : (lists places : ℕ) → Links
unlinked lists places = record { heads = replicate lists None; tails = replicate lists None; next = replicate places None; previous = replicate places None }

none-at : (n l : ℕ) → link_at (replicate n None) l ≡ None
none-at n l =
    elim (is_below l n) [
      | inl h ↦ get_or-replicate n l None None h
      | inr h ↦ get_or_past (replicate n None) l None (omega (arith, length-replicate {A = Option ℕ} n None))
    ]

pub IsLinked-none : (lists places : ℕ) → IsLinked (unlinked lists places) (λ l. [])
IsLinked-none lists places = record {
  tail_size = refl;
  previous_size = refl;
  rows = λ l h. none-at lists l;
  tails = λ l h. none-at lists l;
  outside = λ l h. refl;
  once = λ l. tt;
  within = λ l x i. absurd i;
  apart = λ l m x i j. absurd i;
}
