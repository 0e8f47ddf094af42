-- Once a dump more is there and one that is too old is gone, all that stay are among the newest.
use Rattle.std.proofs.Common.{ℕ, zero, suc, ◌≡◌, ◌+◌, ◌≤◌, ◌<◌, ◌==◌, ◌++◌, Bool, true, false, List, [], ◌∷◌, cond, not, get_or, Contains, ◌⊎◌, inl, inr, refl, sym, subst, ap, ◌∙◌, Option, Some, None}
use Rattle.std.proofs.Common.{IfSome, rules, arith, if◌then◌else◌}
use Rattle.std.proofs.lemmas.Bool.{cases_order, leb-true, le-leb, lt-leb, eqb-true, eq-eqb, ne_eqb}
use Rattle.std.proofs.lemmas.List.Sums.{sum_by-cons, sum_by_push, get_or-le-sum_by}
use Rattle.std.specs.List.{count_by}
use Rattle.term_life.specs.Dumps.{is_newer, newer, without, AreNewest, IsTooOld}
use Rattle.term_life.proofs.Newest.{newest_along}

abbrev one : Bool → ℕ
one b = cond b 1 0

-- how often n is among them
abbrev times : ℕ → List ℕ → ℕ
times n ms = count_by (λ m. m == n) ms

times-cons : (n m : ℕ) (ms : List ℕ) → times n (m ∷ ms) ≡ one (m == n) + times n ms
times-cons n m ms = sum_by-cons (λ x. cond (x == n) 1 0) m ms

newer-cons : (n m : ℕ) (ms : List ℕ) → newer n (m ∷ ms) ≡ one (is_newer n m) + newer n ms
newer-cons n m ms = sum_by-cons (λ x. cond (is_newer n x) 1 0) m ms

times-push : (n m : ℕ) (ms : List ℕ) → times n (ms ++ (m ∷ [])) ≡ times n ms + one (m == n)
times-push n m ms = sum_by_push (λ x. cond (x == n) 1 0) ms m

newer-push : (n m : ℕ) (ms : List ℕ) → newer n (ms ++ (m ∷ [])) ≡ newer n ms + one (is_newer n m)
newer-push n m ms = sum_by_push (λ x. cond (is_newer n x) 1 0) ms m

one-true : (b : Bool) → b ≡ true → one b ≡ 1
one-true true is = refl
one-true false is = search rules

one-false : (b : Bool) → b ≡ false → one b ≡ 0
one-false true is = search rules
one-false false is = refl

there : (n : ℕ) (ms : List ℕ) → Contains ms n → 1 ≤ times n ms
there n ms (k, within, is) =
    let at : one (get_or ms k n == n) ≤ times n ms = get_or-le-sum_by (λ x. cond (x == n) 1 0) ms k n within in
    let yes : one (get_or ms k n == n) ≡ 1 = one-true _ (eq-eqb (get_or ms k n) n is) in
    omega arith

next : (n m : ℕ) (ms : List ℕ) → Contains ms n → Contains (m ∷ ms) n
next n m ms (k, within, is) = (suc k, omega arith, is)

found_at : (n m : ℕ) (ms : List ℕ) (b : Bool) → (m == n) ≡ b → 1 ≤ one b + times n ms → (1 ≤ times n ms → Contains ms n) → Contains (m ∷ ms) n
found_at n m ms true is some rest = (zero, omega arith, eqb-true m n is)
found_at n m ms false is some rest = next n m ms (rest (omega arith))

found : (n : ℕ) (ms : List ℕ) → 1 ≤ times n ms → Contains ms n
found n [] some = absurd (omega arith)
found n (m ∷ ms) some =
    let sum : times n (m ∷ ms) ≡ one (m == n) + times n ms = times-cons n m ms in
    found_at n m ms (m == n) refl (omega arith) (found n ms)

-- What is not taken out is as often there, and what is taken out is not.
kept_at : (n o m : ℕ) (ms ns : List ℕ) (b : Bool) → (m == o) ≡ b → times n ns ≤ times n ms → times n (if not b then m ∷ ns else ns) ≤ one (m == n) + times n ms
kept_at n o m ms ns true is below = omega arith
kept_at n o m ms ns false is below =
    let sum : times n (m ∷ ns) ≡ one (m == n) + times n ns = times-cons n m ns in
    omega arith

kept : (n o : ℕ) (ms : List ℕ) → times n (without o ms) ≤ times n ms
kept n o [] = omega arith
kept n o (m ∷ ms) = rw (times-cons n m ms) (kept_at n o m ms (without o ms) (m == o) refl (kept n o ms))

none_at : (o m : ℕ) (ns : List ℕ) (b : Bool) → (m == o) ≡ b → times o ns ≡ 0 → times o (if not b then m ∷ ns else ns) ≡ 0
none_at o m ns true is none = none
none_at o m ns false is none =
    let sum : times o (m ∷ ns) ≡ one (m == o) + times o ns = times-cons o m ns in
    let no : one (m == o) ≡ 0 = one-false _ is in
    omega arith

none : (o : ℕ) (ms : List ℕ) → times o (without o ms) ≡ 0
none o [] = refl
none o (m ∷ ms) = none_at o m (without o ms) (m == o) refl (none o ms)

-- No more are newer once one is taken out, and fewer if that is newer.
less_at : (n o m : ℕ) (ms ns : List ℕ) (b : Bool) → (m == o) ≡ b → newer n ns ≤ newer n ms → newer n (if not b then m ∷ ns else ns) ≤ one (is_newer n m) + newer n ms
less_at n o m ms ns true is below = omega arith
less_at n o m ms ns false is below =
    let sum : newer n (m ∷ ns) ≡ one (is_newer n m) + newer n ns = newer-cons n m ns in
    omega arith

less : (n o : ℕ) (ms : List ℕ) → newer n (without o ms) ≤ newer n ms
less n o [] = omega arith
less n o (m ∷ ms) = rw (newer-cons n m ms) (less_at n o m ms (without o ms) (m == o) refl (less n o ms))

fewer_at : (n o m : ℕ) (ms ns : List ℕ) (b : Bool) → n < o → (m == o) ≡ b → newer n ns + times o ms ≤ newer n ms →
    newer n (if not b then m ∷ ns else ns) + (one b + times o ms) ≤ one (is_newer n m) + newer n ms
fewer_at n o m ms ns true above is below =
    let same : m ≡ o = eqb-true m o is in
    let yes : one (is_newer n m) ≡ 1 = one-true _ (le-leb (suc n) m (omega arith)) in
    omega arith
fewer_at n o m ms ns false above is below =
    let sum : newer n (m ∷ ns) ≡ one (is_newer n m) + newer n ns = newer-cons n m ns in
    omega arith

fewer : (n o : ℕ) → n < o → (ms : List ℕ) → newer n (without o ms) + times o ms ≤ newer n ms
fewer n o above [] = omega arith
fewer n o above (m ∷ ms) = rw (newer-cons n m ms, times-cons o m ms) (fewer_at n o m ms (without o ms) (m == o) above refl (fewer n o above ms))

-- What is older has the newer ones, and the one itself.
older_at : (o n m : ℕ) (b : Bool) → o < n → (m == n) ≡ b → one (is_newer n m) + one b ≤ one (is_newer o m)
older_at o n m true below is =
    let same : m ≡ n = eqb-true m n is in
    let yes : one (is_newer o m) ≡ 1 = one-true _ (le-leb (suc o) m (omega arith)) in
    let no : one (is_newer n m) ≡ 0 = one-false _ (lt-leb (suc n) m (omega arith)) in
    omega arith
older_at o n m false below is = newer_of (is_newer n m) refl where
  newer_of : (c : Bool) → is_newer n m ≡ c → one (is_newer n m) + 0 ≤ one (is_newer o m)
  newer_of true far =
      let above : suc n ≤ m = leb-true (suc n) m far in
      let yes : one (is_newer o m) ≡ 1 = one-true _ (le-leb (suc o) m (omega arith)) in
      let it : one (is_newer n m) ≡ 1 = one-true _ far in
      omega arith
  newer_of false far =
      let it : one (is_newer n m) ≡ 0 = one-false _ far in
      omega arith

older : (o n : ℕ) → o < n → (ms : List ℕ) → newer n ms + times n ms ≤ newer o ms
older o n below [] = omega arith
older o n below (m ∷ ms) =
    let here : one (is_newer n m) + one (m == n) ≤ one (is_newer o m) = older_at o n m (m == n) below refl in
    let rest : newer n ms + times n ms ≤ newer o ms = older o n below ms in
    rw (newer-cons n m ms, newer-cons o m ms, times-cons n m ms) (omega arith)

one-most : (b : Bool) → one b ≤ 1
one-most true = omega arith
one-most false = omega arith

-- One is left that is newer than the one that is taken out.
stays_above : (keep number o n : ℕ) (old : List ℕ) → AreNewest keep old → o < n → 1 ≤ times o old + one (number == o) → 1 ≤ times n old + one (number == n) →
    (b c : Bool) → (number == o) ≡ b → (number == n) ≡ c → newer n old + one (is_newer n number) < keep
stays_above keep number o n old few below has_o has_n true c is_o is_n =
    let same : number ≡ o = eqb-true number o is_o in
    let other : one (number == n) ≡ 0 = one-false _ (ne_eqb number n (λ it. absurd (omega arith))) in
    let not_newer : one (is_newer n number) ≡ 0 = one-false _ (lt-leb (suc n) number (omega arith)) in
    let was : newer n old < keep = few n (found n old (omega arith)) in
    omega arith
stays_above keep number o n old few below has_o has_n false c is_o is_n =
    let no : one (number == o) ≡ 0 = one-false _ is_o in
    let was : newer o old < keep = few o (found o old (omega arith)) in
    let more : newer n old + times n old ≤ newer o old = older o n below old in
    by c is_n was more where
      by : (d : Bool) → (number == n) ≡ d → newer o old < keep → newer n old + times n old ≤ newer o old → newer n old + one (is_newer n number) < keep
      by true it was more =
          let same : number ≡ n = eqb-true number n it in
          let not_newer : one (is_newer n number) ≡ 0 = one-false _ (lt-leb (suc n) number (omega arith)) in
          omega arith
      by false it was more =
          let no : one (number == n) ≡ 0 = one-false _ it in
          let most : one (is_newer n number) ≤ 1 = one-most (is_newer n number) in
          omega arith

-- One is left that is older than the one that is taken out.
stays_below : (keep number o n : ℕ) (old : List ℕ) → AreNewest keep old → n < o → 1 ≤ times o old + one (number == o) → 1 ≤ times n old + one (number == n) →
    keep ≤ newer o old + one (is_newer o number) → (b : Bool) → (number == n) ≡ b → newer n old + one (is_newer n number) ≤ keep
stays_below keep number o n old few above has_o has_n too_old true is =
    let same : number ≡ n = eqb-true number n is in
    let other : one (number == o) ≡ 0 = one-false _ (ne_eqb number o (λ it. absurd (omega arith))) in
    let not_newer : one (is_newer o number) ≡ 0 = one-false _ (lt-leb (suc o) number (omega arith)) in
    let was : newer o old < keep = few o (found o old (omega arith)) in
    absurd (omega arith)
stays_below keep number o n old few above has_o has_n too_old false is =
    let no : one (number == n) ≡ 0 = one-false _ is in
    let was : newer n old < keep = few n (found n old (omega arith)) in
    let most : one (is_newer n number) ≤ 1 = one-most (is_newer n number) in
    omega arith

pub stays : (keep number o : ℕ) (old : List ℕ) → AreNewest keep old → Contains (old ++ (number ∷ [])) o → IsTooOld keep (old ++ (number ∷ [])) o → AreNewest keep (without o (old ++ (number ∷ [])))
stays keep number o old few was too_old n is = by (cases_order o n) where
  has_n : 1 ≤ times n old + one (number == n)
  has_n =
      let here : 1 ≤ times n (without o (old ++ (number ∷ []))) = there n _ is in
      let most : times n (without o (old ++ (number ∷ []))) ≤ times n (old ++ (number ∷ [])) = kept n o _ in
      let sum : times n (old ++ (number ∷ [])) ≡ times n old + one (number == n) = times-push n number old in
      omega arith

  has_o : 1 ≤ times o old + one (number == o)
  has_o =
      let here : 1 ≤ times o (old ++ (number ∷ [])) = there o _ was in
      let sum : times o (old ++ (number ∷ [])) ≡ times o old + one (number == o) = times-push o number old in
      omega arith

  by : (o ≡ n) ⊎ ((o < n) ⊎ (n < o)) → newer n (without o (old ++ (number ∷ []))) < keep
  by (inl same) =
      let here : 1 ≤ times n (without o (old ++ (number ∷ []))) = there n _ is in
      let there_too : 1 ≤ times o (without o (old ++ (number ∷ []))) = subst (λ k. 1 ≤ times k (without o (old ++ (number ∷ [])))) (sym same) here in
      let gone : times o (without o (old ++ (number ∷ []))) ≡ 0 = none o (old ++ (number ∷ [])) in
      absurd (omega arith)
  by (inr (inl below)) =
      let few_left : newer n old + one (is_newer n number) < keep = stays_above keep number o n old few below has_o has_n (number == o) (number == n) refl refl in
      let sum : newer n (old ++ (number ∷ [])) ≡ newer n old + one (is_newer n number) = newer-push n number old in
      let most : newer n (without o (old ++ (number ∷ []))) ≤ newer n (old ++ (number ∷ [])) = less n o _ in
      omega arith
  by (inr (inr above)) =
      let sum_o : newer o (old ++ (number ∷ [])) ≡ newer o old + one (is_newer o number) = newer-push o number old in
      let few_left : newer n old + one (is_newer n number) ≤ keep = stays_below keep number o n old few above has_o has_n (omega arith) (number == n) refl in
      let sum : newer n (old ++ (number ∷ [])) ≡ newer n old + one (is_newer n number) = newer-push n number old in
      let one_less : newer n (without o (old ++ (number ∷ []))) + times o (old ++ (number ∷ [])) ≤ newer n (old ++ (number ∷ [])) = fewer n o above (old ++ (number ∷ [])) in
      let here : 1 ≤ times o (old ++ (number ∷ [])) = there o _ was in
      omega arith

-- whether one was too old or not
pub newest_after : (keep number : ℕ) (old mid new : List ℕ) (gone : Option ℕ) → mid ≡ old ++ (number ∷ []) →
    IfSome gone (λ o. Contains mid o) → IfSome gone (λ o. IsTooOld keep mid o) → IfSome gone (λ o. new ≡ without o mid) →
    (gone ≡ None → AreNewest keep mid) → (gone ≡ None → new ≡ mid) → AreNewest keep old → AreNewest keep new
newest_after keep number old mid new None is was too_old taken newest same few = newest_along keep mid new (sym (same refl)) (newest refl)
newest_after keep number old mid new (Some o) is was too_old taken newest same few =
    newest_along keep (without o (old ++ (number ∷ []))) new (sym (taken ∙ ap (without o) is))
    (stays keep number o old few (subst (λ ms. Contains ms o) is was) (subst (λ ms. IsTooOld keep ms o) is too_old))
