-- A request that is made or taken back.
use Rattle.std.proofs.Common.{◌≡◌, ◌≢◌, ◌≤◌, ◌^◌, ◌<◌, ◌==◌, ◌⊎◌, ℕ, Bool, true, false, ◌||◌, if◌then◌else◌, List, [], ◌∷◌, Option, Some, None, is_some, length, refl, sym, ◌∙◌, ap, subst, inl, inr}
use Rattle.std.proofs.Common.{arith}
use Rattle.std.specs.List.{list_any}
use Rattle.std.proofs.Math.Bool.{or-true, or-false}
use Rattle.std.proofs.lemmas.Bool.Decides.{eqb_tells}
use Rattle.std.proofs.lemmas.List.{get_or-set_same, get_or-set_other, length-set}
use Rattle.std.proofs.lemmas.List.Sums.{sum_by-set}
use Rattle.cancel_context.specs.Forest.{Forest, Binding, binding, IsHeld, held_count, parent_in, parent, chain_for, chain, is_within, asks_in, is_cancelled, asking, with_request}
use Rattle.cancel_context.specs.Order.{ParentIn, IsNewestFirst, HasBindingOrder, IsSound}
use Rattle.cancel_context.proofs.Chains.{IsHeld-within, chain_for-same_parents}

binding-with_request : (forest : Forest) (c d : ℕ) (asked : Bool) → IsHeld forest c → d ≡ c → binding (with_request forest c asked) d ≡ asking asked (binding forest d)
binding-with_request forest c d asked h e =
    let within : c < length forest = IsHeld-within forest c h in
    subst (λ y. binding (with_request forest c asked) y ≡ asking asked (binding forest y)) (sym e) (get_or-set_same forest c (asking asked (binding forest c)) None within)

pub binding-with_request_other : (forest : Forest) (c d : ℕ) (asked : Bool) → d ≢ c → binding (with_request forest c asked) d ≡ binding forest d
binding-with_request_other forest c d asked ne = get_or-set_other forest c d (asking asked (binding forest c)) None ne

parent_in-asking : (asked : Bool) (o : Option Binding) → parent_in (asking asked o) ≡ parent_in o
parent_in-asking asked None = refl
parent_in-asking asked (Some b) = refl

is_some-asking : (asked : Bool) (o : Option Binding) → is_some (asking asked o) ≡ is_some o
is_some-asking asked None = refl
is_some-asking asked (Some b) = refl

asks_in-asking : (o : Option Binding) → is_some o ≡ true → asks_in (asking true o) ≡ true
asks_in-asking None h = cc
asks_in-asking (Some b) h = refl

-- a context that is held asks once a request was made
pub asks-requested : (forest : Forest) (c : ℕ) → IsHeld forest c → asks_in (binding (with_request forest c true) c) ≡ true
asks-requested forest c h = ap asks_in (binding-with_request forest c c true h refl) ∙ asks_in-asking (binding forest c) h

pub parent-with_request : (forest : Forest) (c : ℕ) (asked : Bool) → IsHeld forest c → (d : ℕ) → parent (with_request forest c asked) d ≡ parent forest d
parent-with_request forest c asked h d =
    elim (eqb_tells d c) [
      | inl e ↦ ap parent_in (binding-with_request forest c d asked h e.1) ∙ parent_in-asking asked (binding forest d)
      | inr e ↦
          ap parent_in (binding-with_request_other forest c d asked e.1)
    ]

pub is_some-with_request : (forest : Forest) (c : ℕ) (asked : Bool) → IsHeld forest c → (d : ℕ) → is_some (binding (with_request forest c asked) d) ≡ is_some (binding forest d)
is_some-with_request forest c asked h d =
    elim (eqb_tells d c) [
      | inl e ↦ ap is_some (binding-with_request forest c d asked h e.1) ∙ is_some-asking asked (binding forest d)
      | inr e ↦
          ap is_some (binding-with_request_other forest c d asked e.1)
    ]

newest-kept : (forest after : Forest) (order : List ℕ) → ((d : ℕ) → parent after d ≡ parent forest d) → ((d : ℕ) → is_some (binding after d) ≡ is_some (binding forest d)) →
    IsNewestFirst forest order → IsNewestFirst after order
newest-kept forest after [] parents held s = tt
newest-kept forest after (x ∷ older) parents held s =
    (held x ∙ s.0, subst (λ o. ParentIn o older) (sym (parents x)) s.1, newest-kept forest after older parents held s.2)

held_count-with_request : (forest : Forest) (c : ℕ) (asked : Bool) → IsHeld forest c → held_count (with_request forest c asked) ≡ held_count forest
held_count-with_request forest c asked h =
    let within : c < length forest = IsHeld-within forest c h in
    let one : Option Binding → ℕ = λ b. if is_some b then 1 else 0 in
    let same : one (asking asked (binding forest c)) ≡ one (binding forest c) = ap (λ b. if b then 1 else 0) (is_some-asking asked (binding forest c)) in
    omega (arith, same, sum_by-set one forest c (asking asked (binding forest c)) None within)

pub ordered-with_request : (forest : Forest) (c : ℕ) (asked : Bool) → IsHeld forest c → HasBindingOrder forest → HasBindingOrder (with_request forest c asked)
ordered-with_request forest c asked h (order, o) = (
  order,
  record {
    newest_first = newest-kept forest (with_request forest c asked) order (parent-with_request forest c asked h) (is_some-with_request forest c asked h) o.newest_first;
    has_all = λ d held. o.has_all d (sym (is_some-with_request forest c asked h d) ∙ held);
    has_no_more = subst (λ n. length order ≤ n) (sym (held_count-with_request forest c asked h)) o.has_no_more;
  },
)

pub IsSound-with_request : (forest : Forest) (c : ℕ) (asked : Bool) → IsHeld forest c → IsSound forest → IsSound (with_request forest c asked)
IsSound-with_request forest c asked h s = record {
  few = subst (λ n. n ≤ 2 ^ 16) (sym (length-set forest c (asking asked (binding forest c)))) s.few;
  ordered = ordered-with_request forest c asked h s.ordered;
}

pub chain-with_request : (forest : Forest) (c : ℕ) (asked : Bool) → IsHeld forest c → (d : ℕ) → chain (with_request forest c asked) d ≡ chain forest d
chain-with_request forest c asked h d =
    ap (λ n. chain_for n (with_request forest c asked) d) (length-set forest c (asking asked (binding forest c))) ∙
    chain_for-same_parents forest (with_request forest c asked) (parent-with_request forest c asked h) (length forest) d

either-swap : (a b s t : Bool) → ((a || b) || (s || t)) ≡ ((a || s) || (b || t))
either-swap true b s t = refl
either-swap false true true t = refl
either-swap false true false t = refl
either-swap false false s t = refl

list_any-either : (f g h : ℕ → Bool) → ((d : ℕ) → f d ≡ (g d || h d)) → (l : List ℕ) → list_any f l ≡ (list_any g l || list_any h l)
list_any-either f g h each [] = refl
list_any-either f g h each (x ∷ xs) = ap (λ b. b || list_any f xs) (each x) ∙ ap (λ b. (g x || h x) || b) (list_any-either f g h each xs) ∙ either-swap (g x) (h x) (list_any g xs) (list_any h xs)

asks-with_request : (forest : Forest) (c : ℕ) → IsHeld forest c → (d : ℕ) → asks_in (binding (with_request forest c true) d) ≡ (asks_in (binding forest d) || (d == c))
asks-with_request forest c h d =
    elim (eqb_tells d c) [
      | inl e ↦ let held : IsHeld forest d = subst (λ y. IsHeld forest y) (sym e.1) h in
          ap asks_in (binding-with_request forest c d true h e.1) ∙ asks_in-asking (binding forest d) held ∙ sym (ap (λ b. asks_in (binding forest d) || b) e.0 ∙ or-true (asks_in (binding forest d)))
      | inr e ↦ ap asks_in (binding-with_request_other forest c d true e.1) ∙ sym (ap (λ b. asks_in (binding forest d) || b) e.0 ∙ or-false (asks_in (binding forest d)))
    ]

-- A request reaches what is within the context, and nothing else.
pub is_cancelled-with_request : (forest : Forest) (c : ℕ) → IsHeld forest c → (d : ℕ) → is_cancelled (with_request forest c true) d ≡ (is_cancelled forest d || is_within forest d c)
is_cancelled-with_request forest c h d =
    ap (list_any (λ x. asks_in (binding (with_request forest c true) x))) (chain-with_request forest c true h d) ∙
    list_any-either (λ x. asks_in (binding (with_request forest c true) x)) (λ x. asks_in (binding forest x)) (λ x. x == c) (asks-with_request forest c h) (chain forest d)

list_any-avoids : (f g : ℕ → Bool) (c : ℕ) → ((d : ℕ) → d ≢ c → f d ≡ g d) → (l : List ℕ) → list_any (λ d. d == c) l ≡ false → list_any f l ≡ list_any g l
list_any-avoids f g c same [] e = refl
list_any-avoids f g c same (x ∷ xs) e =
    elim (eqb_tells x c) [
      | inl h ↦ let wrong : true ≡ false = sym (ap (λ b. b || list_any (λ d. d == c) xs) h.0) ∙ e in cc
      | inr h ↦ let rest : list_any (λ d. d == c) xs ≡ false = sym (ap (λ b. b || list_any (λ d. d == c) xs) h.0) ∙ e in
          ap (λ b. b || list_any f xs) (same x h.1) ∙ ap (λ b. g x || b) (list_any-avoids f g c same xs rest)
    ]

-- What is not within the context is cancelled as before.
pub is_cancelled-elsewhere : (forest : Forest) (c : ℕ) (asked : Bool) → IsHeld forest c → (d : ℕ) → is_within forest d c ≡ false → is_cancelled (with_request forest c asked) d ≡ is_cancelled forest d
is_cancelled-elsewhere forest c asked h d out =
    ap (list_any (λ x. asks_in (binding (with_request forest c asked) x))) (chain-with_request forest c asked h d) ∙
    list_any-avoids (λ x. asks_in (binding (with_request forest c asked) x)) (λ x. asks_in (binding forest x)) c (λ x ne. ap asks_in (binding-with_request_other forest c x asked ne))
    (chain forest d) out

asks-taken_back : (o : Option Binding) → asks_in (asking false o) ≡ true → asks_in o ≡ true
asks-taken_back None e = e
asks-taken_back (Some b) e = ap (λ o. b.is_asked || o) e ∙ or-true b.is_asked

true_or : (a b : Bool) → (a || b) ≡ true → (a ≡ true) ⊎ (b ≡ true)
true_or true b e = inl refl
true_or false b e = inr e

list_any-more : (f g : ℕ → Bool) → ((d : ℕ) → f d ≡ true → g d ≡ true) → (l : List ℕ) → list_any f l ≡ true → list_any g l ≡ true
list_any-more f g more [] e = e
list_any-more f g more (x ∷ xs) e =
    elim (true_or (f x) (list_any f xs) e) [
      | inl own ↦ ap (λ b. b || list_any g xs) (more x own)
      | inr rest ↦ ap (λ b. g x || b) (list_any-more f g more xs rest) ∙ or-true (g x)
    ]

-- A request that is taken back cancels nothing.
pub is_cancelled-taken_back : (forest : Forest) (c : ℕ) → IsHeld forest c → (d : ℕ) → is_cancelled (with_request forest c false) d ≡ true → is_cancelled forest d ≡ true
is_cancelled-taken_back forest c h d e =
    let at : ℕ → Bool = λ x. asks_in (binding (with_request forest c false) x) in
    let more : (x : ℕ) → at x ≡ true → asks_in (binding forest x) ≡ true = λ x asks. elim (eqb_tells x c) [
      | inl s ↦ asks-taken_back (binding forest x) (sym (ap asks_in (binding-with_request forest c x false h s.1)) ∙ asks)
      | inr o ↦ sym (ap asks_in (binding-with_request_other forest c x false o.1)) ∙ asks
    ] in
    list_any-more at (λ x. asks_in (binding forest x)) more (chain forest d) (ap (list_any at) (sym (chain-with_request forest c false h d)) ∙ e)
