-- What the calls on lists do, as it is seen.
use Rattle.std.proofs.Common.{◌≡◌, ◌≢◌, ◌<◌, ℕ, [], ◌∷◌, ◌++◌, Some, length, refl, sym, ◌∙◌, ap, subst, arith}
use Rattle.std.proofs.lemmas.List.{length-map}
use Rattle.place_lists.specs.Links.{Links, link_at, joined, left}
use Rattle.place_lists.specs.Lists.{Lists, IsIn, list_in, list_of, lists_of, without}
use Rattle.place_lists.specs.Linked.{IsLinked}
use Rattle.place_lists.proofs.Views.{list_in-is, list-there, seen-is, IsLinked-seen}
use Rattle.place_lists.proofs.Joined.{pushed, pushed-same, pushed-other, IsLinked-joined, last_there}
use Rattle.place_lists.proofs.Left.{IsLinked-left, without-elsewhere, before_in, after_in}

module _ (links : Links) (now : Lists) (list place : ℕ) (view : lists_of links ≡ now) (k : IsLinked links (list_of links)) where
  pub seen : (l : ℕ) → list_in now l ≡ list_of links l
  seen l = ap (λ (v : Lists). list_in v l) (sym view) ∙ list_in-is links l

  count : length now.lists ≡ length links.heads
  count = ap (λ (v : Lists). length v.lists) (sym view) ∙ length-map links.heads _

  places : now.places ≡ length links.next
  places = ap (λ (v : Lists). v.places) (sym view)

  module _ (there : list < length now.lists) (has_place : place < now.places) (free : (l : ℕ) → IsIn (list_in now l) place → ⊥) where
    list_there : list < length links.heads
    list_there = omega (arith, count)

    place_there : place < length links.next
    place_there = omega (arith, places)

    free_there : (l : ℕ) → IsIn (list_of links l) place → ⊥
    free_there l i = free l (subst (λ xs. IsIn xs place) (sym (seen l)) i)

    pub push-last : (y : ℕ) → link_at links.tails list ≡ Some y → y < length links.next
    push-last = last_there links (list_of links) list place k list_there place_there free_there

    push-linked : IsLinked (joined links list place) (pushed (list_of links) list place)
    push-linked = IsLinked-joined links (list_of links) list place k list_there place_there free_there

    module _ (after : Links) (is : after ≡ joined links list place) where
      after-linked : IsLinked after (pushed (list_of links) list place)
      after-linked = subst (λ (x : Links). IsLinked x (pushed (list_of links) list place)) (sym is) push-linked

      pub push-kept : IsLinked after (list_of after)
      push-kept = IsLinked-seen after (pushed (list_of links) list place) after-linked

      pub push-pushed : list_in (lists_of after) list ≡ list_in now list ++ place ∷ []
      push-pushed = seen-is after (pushed (list_of links) list place) after-linked list ∙ pushed-same links (list_of links) list place k list_there place_there free_there list refl ∙
          ap (λ xs. xs ++ place ∷ []) (sym (seen list))

      pub push-others : (l : ℕ) → l ≢ list → list_in (lists_of after) l ≡ list_in now l
      push-others l ne = seen-is after (pushed (list_of links) list place) after-linked l ∙ pushed-other links (list_of links) list place k list_there place_there free_there l ne ∙ sym (seen l)

  module _ (held : IsIn (list_in now list) place) where
    held_there : IsIn (list_of links list) place
    held_there = subst (λ xs. IsIn xs place) (seen list) held

    pub remove-list : list < length links.heads
    remove-list = list-there links (list_of links) k list place held_there

    pub remove-next : place < length links.next
    remove-next = k.within list place held_there

    pub remove-previous : place < length links.previous
    remove-previous = omega (arith, k.previous_size, remove-next)

    pub remove-before : (y : ℕ) → link_at links.previous place ≡ Some y → y < length links.next
    remove-before y e = k.within list y (before_in links (list_of links) list place k remove-list held_there y e)

    pub remove-after : (y : ℕ) → link_at links.next place ≡ Some y → y < length links.previous
    remove-after y e = omega (arith, k.previous_size, k.within list y (after_in links (list_of links) list place k remove-list held_there y e))

    module _ (after : Links) (is : after ≡ left links list place) where
      after-left : IsLinked after (λ l. without place (list_of links l))
      after-left = subst (λ (x : Links). IsLinked x (λ l. without place (list_of links l))) (sym is) (IsLinked-left links (list_of links) list place k remove-list held_there)

      pub remove-kept : IsLinked after (list_of after)
      remove-kept = IsLinked-seen after (λ l. without place (list_of links l)) after-left

      pub remove-removed : (l : ℕ) → list_in (lists_of after) l ≡ without place (list_in now l)
      remove-removed l = seen-is after (λ l. without place (list_of links l)) after-left l ∙ ap (without place) (sym (seen l))

      pub remove-others : (l : ℕ) → l ≢ list → list_in (lists_of after) l ≡ list_in now l
      remove-others l ne = seen-is after (λ l. without place (list_of links l)) after-left l ∙ without-elsewhere links (list_of links) list place k remove-list held_there l ne ∙ sym (seen l)
