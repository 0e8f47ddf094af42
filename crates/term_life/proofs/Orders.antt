-- The numbers of the jobs of terms stay apart, and in order.
use Rattle.std.proofs.Common.{ℕ, zero, suc, ◌≡◌, ◌≤◌, ◌<◌, ◌+◌, ◌-◌, ◌==◌, ◌&&◌, ◌||◌, Bool, true, false, List, [], ◌∷◌, ◌++◌, Option, Some, None, find, map, filter, not, if◌then◌else◌, nat_le}
use Rattle.std.proofs.Common.{length, refl, sym, ◌∙◌, ap, subst, rules, arith}
use Rattle.std.specs.Prelude.{All, slice_index_or}
use Rattle.std.proofs.lemmas.Bool.{leb-true, leb-false}
use Rattle.term_life.specs.Lives.{Follow, closing_if, left_if, owns}
use Rattle.term_life.specs.declared.terms.Term.{Term}
use Rattle.term_life.specs.declared.terms.Why.{Why}

lower : (a b : ℕ) (ts : List Term) (high : ℕ) → a ≤ b → Follow b ts high → Follow a ts high
lower a b [] high low follows = omega (arith, low, follows)
lower a b (t ∷ ts) high low follows = let first = follows.0 in (omega (arith, low, first), follows.1)

-- a change of terms that keeps the numbers of their jobs
abbrev Keeps : (Term → Term) → Type 0
Keeps f = (t : Term) → ((f t).base ≡ t.base) × ((f t).room ≡ t.room)

mapped : (f : Term → Term) → Keeps f → (a : ℕ) (ts : List Term) (high : ℕ) → Follow a ts high → Follow a (map f ts) high
mapped f keeps a [] high follows = follows
mapped f keeps a (t ∷ ts) high follows =
    let base = (keeps t).0 in
    let room = (keeps t).1 in
    let first = follows.0 in
    let same : t.base + t.room ≡ (f t).base + (f t).room = omega (arith, base, room) in
    (omega (arith, base, first), subst (λ x. Follow x (map f ts) high) same (mapped f keeps (t.base + t.room) ts high follows.1))

kept_if : (b : Bool) (t u : Term) → u.base ≡ t.base → u.room ≡ t.room → ((if b then u else t).base ≡ t.base) × ((if b then u else t).room ≡ t.room)
kept_if true t u base room = (base, room)
kept_if false t u base room = (refl, refl)

left_keeps : (why : Why) → Keeps (left_if why)
left_keeps why t = kept_if t.is_serving t (record t { is_serving = false; why = Some why }) refl refl

closing_keeps : (n : ℕ) → Keeps (closing_if n)
closing_keeps n t = (refl, refl)

pub left_follow : (why : Why) (a : ℕ) (ts : List Term) (high : ℕ) → Follow a ts high → Follow a (map (left_if why) ts) high
left_follow why = mapped (left_if why) (left_keeps why)

pub closing_follow : (n a : ℕ) (ts : List Term) (high : ℕ) → Follow a ts high → Follow a (map (closing_if n) ts) high
closing_follow n = mapped (closing_if n) (closing_keeps n)

filtered_at : (b : Bool) (t : Term) (ts : List Term) (a high : ℕ) → a ≤ t.base → Follow (t.base + t.room) ts high → Follow a (if b then t ∷ ts else ts) high
filtered_at true t ts a high first rest = (first, rest)
filtered_at false t ts a high first rest = lower a (t.base + t.room) ts high (omega (arith, first)) rest

pub filtered : (p : Term → Bool) (a : ℕ) (ts : List Term) (high : ℕ) → Follow a ts high → Follow a (filter p ts) high
filtered p a [] high follows = follows
filtered p a (t ∷ ts) high follows = filtered_at (p t) t (filter p ts) a high follows.0 (filtered p (t.base + t.room) ts high follows.1)

pub appended : (a : ℕ) (ts : List Term) (t : Term) → Follow a ts t.base → Follow a (ts ++ t ∷ []) (t.base + t.room)
appended a [] t follows = (follows, omega arith)
appended a (s ∷ ts) t follows = (follows.0, appended (s.base + s.room) ts t follows.1)

-- What owns a job is numbered around it.
owned : (job low room : ℕ) (b c : Bool) → nat_le (suc low) job ≡ b → nat_le (job - low) room ≡ c → (b && c) ≡ true → (low < job) × (job ≤ low + room)
owned job low room true true above below is = let first = leb-true (suc low) job above in let last = leb-true (job - low) room below in (omega (arith, first), omega (arith, first, last))
owned job low room true false above below is = search rules
owned job low room false c above below is = search rules

owns_in : (job : ℕ) (t : Term) → owns job t ≡ true → (t.base < job) × (job ≤ t.base + t.room)
owns_in job t is = owned job t.base t.room (nat_le (suc t.base) job) (nat_le (job - t.base) t.room) refl refl is

above : (job a : ℕ) (ts : List Term) (high : ℕ) → Follow a ts high → All (λ t. owns job t ≡ true → a < job) ts
above job a [] high follows k d low is = absurd (omega (arith, low))
above job a (t ∷ ts) high follows zero d low is =
    let first = follows.0 in
    let owned_by = (owns_in job t is).0 in
    omega (arith, first, owned_by)
above job a (t ∷ ts) high follows (suc k) d low is =
    let first = follows.0 in
    let later = above job (t.base + t.room) ts high follows.1 k d (omega (arith, low)) is in
    omega (arith, first, later)

not_owned : (job low room : ℕ) (b c : Bool) → low + room < job → nat_le (job - low) room ≡ c → (b && c) ≡ false
not_owned job low room b true later is = absurd (let below = leb-true (job - low) room is in omega (arith, below, later))
not_owned job low room true false later is = refl
not_owned job low room false false later is = refl

-- At most one term owns a job.
pub sole : (job a : ℕ) (ts : List Term) (high : ℕ) → Follow a ts high → All (λ t. owns job t ≡ true → find (owns job) ts ≡ Some t) ts
sole job a [] high follows k d low is = absurd (omega (arith, low))
sole job a (t ∷ ts) high follows zero d low is = rw is refl
sole job a (t ∷ ts) high follows (suc k) d low is =
    let rest = sole job (t.base + t.room) ts high follows.1 k d (omega (arith, low)) is in
    let later = above job (t.base + t.room) ts high follows.1 k d (omega (arith, low)) is in
    let other : owns job t ≡ false = not_owned job t.base t.room (nat_le (suc t.base) job) (nat_le (job - t.base) t.room) later refl in
    rw other rest
