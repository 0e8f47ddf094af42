-- Which dumps of a tenant stay, by the numbers of their terms.
use Rattle.std.specs.Prelude.{ℕ, suc, ◌<◌, ◌≤◌, ◌==◌, List, Bool, nat_le, not, count_by, filter, slice_index, Contains, EachIndex}

abbrev pub is_newer : ℕ → ℕ → Bool
is_newer n m = nat_le (suc n) m

-- how many of the numbers are newer than n
abbrev pub newer : ℕ → List ℕ → ℕ
newer n numbers = count_by (is_newer n) numbers

-- At least `keep` newer ones are among them.
abbrev pub IsTooOld : ℕ → List ℕ → ℕ → Type 0
IsTooOld keep numbers n = keep ≤ newer n numbers

-- None of them is older.
abbrev pub IsOldest : List ℕ → ℕ → Type 0
IsOldest numbers n = EachIndex numbers (λ k. n ≤ slice_index numbers k)

-- Each of them is among the newest: fewer than `keep` are newer.
abbrev pub AreNewest : ℕ → List ℕ → Type 0
AreNewest keep numbers = (n : ℕ) → Contains numbers n → newer n numbers < keep

-- those that are not n
abbrev pub without : ℕ → List ℕ → List ℕ
without n numbers = filter (λ m. not (m == n)) numbers
