-- The terms of a tenant that are not closed, and what may become of them.
use Rattle.std.specs.Prelude.{ℕ, suc, ◌≡◌, ◌≤◌, ◌+◌, ◌==◌, ◌&&◌, ◌||◌, ◌-◌, Bool, true, false, List, [], ◌∷◌, ◌++◌, Option, Some, None, map, filter, find, not, nat_le, if◌then◌else◌}
use Rattle.term_life.specs.declared.terms.Term.{Term}
use Rattle.term_life.specs.declared.terms.Why.{Why}
use Rattle.term_life.specs.declared.terms.Stage.{Stage}
use Rattle.term_life.specs.declared.terms.Stage.TheVariants.{Serving, Finishing, Closing}
use Rattle.term_life.specs.declared.terms.TheConstants.{MOST_JOBS}

-- the terms that are not closed, the oldest first; the number of the next one; and the number of a job after which its jobs
-- are numbered
pub record Life : Type 0 where
  pub terms : List Term
  pub next : ℕ
  pub base : ℕ

-- Each term's jobs are numbered after those of the terms before it, from the one after `low` on, up to `high` at most.
abbrev pub Follow : (low : ℕ) → List Term → (high : ℕ) → Type 0
Follow low [] high = low ≤ high
Follow low (t ∷ ts) high = (low ≤ t.base) × Follow (t.base + t.room) ts high

-- The numbers of jobs of all terms lie apart, in order, and below those of the terms to come.
abbrev pub IsInOrder : Life → Type 0
IsInOrder l = Follow 0 l.terms l.base × (l.base ≤ MOST_JOBS)

abbrev pub has_number : ℕ → Term → Bool
has_number n t = t.number == n

-- Is it the number of a job of that term?
abbrev pub owns : (job : ℕ) → Term → Bool
owns job t = nat_le (suc t.base) job && nat_le (job - t.base) t.room

-- how far a term is
abbrev pub stage_of : Term → Stage
stage_of t = if t.is_serving then Serving else (if t.is_closing then Closing else Finishing)

abbrev pub left_if : Why → Term → Term
left_if why t = if t.is_serving then record t { is_serving = false; why = Some why } else t

-- The term that serves, if one does, goes on for the jobs that it has.
abbrev pub left : Why → Life → Life
left why l = record l { terms = map (left_if why) l.terms }

-- the next term, with room for so many jobs
abbrev pub next_term : (room : ℕ) → Life → Term
next_term room l = record { number = l.next; base = l.base; room = room; is_serving = true; is_closing = false; why = None }

-- The next term serves; the one that served goes on for the jobs that it has.
abbrev pub opened : Why → (room : ℕ) → Life → Life
opened why room l = record { terms = map (left_if why) l.terms ++ next_term room l ∷ []; next = suc l.next; base = l.base + room }

abbrev pub closing_if : ℕ → Term → Term
closing_if n t = record t { is_closing = t.is_closing || (t.number == n) }

-- The term of that number is being closed.
abbrev pub closing : ℕ → Life → Life
closing n l = record l { terms = map (closing_if n) l.terms }

-- The term of that number is closed.
abbrev pub ended : ℕ → Life → Life
ended n l = record l { terms = filter (λ t. not (has_number n t)) l.terms }

-- the term that serves
abbrev pub serving : Life → Option Term
serving l = find (λ t. t.is_serving) l.terms

-- the term to which a job belongs, if it is not closed
abbrev pub owner : (job : ℕ) → Life → Option Term
owner job l = find (owns job) l.terms
