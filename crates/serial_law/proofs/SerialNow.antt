-- How far the rows of a serial job have come, if each open row returns some value after some number of instructions.
use Rattle.std.proofs.Common.{◌≡◌, ℕ, zero, suc, ◌+◌, ◌==◌, ◌<◌, ◌≤◌, List, [], ◌∷◌, length, Option, Some, None, Bool, true, false, ◌&&◌, nat_lt, refl, ap, ◌∙◌, arith, inl, inr, ◌⊎◌, ℤ, pos}
use Rattle.std.proofs.Common.{unwrap_or}
use Rattle.std.specs.Prelude.{if◌then◌else◌}
use Rattle.std.specs.Int.{int_wrapping_add, w64}
use Rattle.std.proofs.lemmas.Bool.{cases_eq}
use Rattle.job_language.specs.declared.instructions.Instr.{Instr}
use Rattle.job_step.specs.declared.frames.Frame.{Frame}
use Rattle.job_step.specs.Frame.{instr_at}
use Rattle.tenant_model.specs.declared.rows.Kind.{Kind}
use Rattle.tenant_model.specs.declared.rows.Kind.TheVariants.{Root, Posted, Spawned, Region}
use Rattle.tenant_model.specs.declared.rows.Phase.{Phase}
use Rattle.tenant_model.specs.declared.rows.Row.{Row}
use Rattle.tenant_model.specs.declared.serials.SerialTask.{SerialTask}
use Rattle.tenant_model.specs.State.{row}
use Rattle.tenant_model.specs.Walks.{is_open, is_spawned_by, mark, value_in}
use Rattle.tenant_model.specs.Shared.{handed_frame}
use Rattle.serial_law.proofs.SerialGiving.{Gives, task}

-- a fold over the numbers from 1
abbrev pub fold_to : {A : Type 0} → (f : ℕ → A → A) → (z : A) → ℕ → A
fold_to f z zero = z
fold_to f z (suc k) = f (suc k) (fold_to f z k)

pub fold_to-same : {A : Type 0} (f g : ℕ → A → A) (z : A) (n : ℕ) → ((k : ℕ) (x : A) → 1 ≤ k → k ≤ n → f k x ≡ g k x) → fold_to f z n ≡ fold_to g z n
fold_to-same f g z zero each = refl
fold_to-same f g z (suc n) each = each (suc n) (fold_to f z n) (omega arith) (omega arith) ∙ ap (g (suc n)) (fold_to-same f g z n (λ k x from to. each k x from (omega arith)))

-- the last ones add nothing
pub fold_to-rest : {A : Type 0} (f : ℕ → A → A) (z : A) (n m : ℕ) → n ≤ m → ((k : ℕ) (x : A) → n < k → k ≤ m → f k x ≡ x) → fold_to f z m ≡ fold_to f z n
fold_to-rest f z n zero le each = let e : n ≡ 0 = omega arith in rw e refl
fold_to-rest f z n (suc m) le each = elim (cases_eq n (suc m)) [
  | inl same ↦ rw same refl
  | inr other ↦ each (suc m) (fold_to f z m) (omega (arith, le, other)) (omega arith) ∙ fold_to-rest f z n m (omega (arith, le, other)) (λ k x from to. each k x from (omega arith))
]

-- a value, and a count of instructions, for each row
abbrev pub Values : Type 0
Values = ℕ → ℤ

abbrev pub Counts : Type 0
Counts = ℕ → ℕ

-- the value of a row that ended, and that supposed of an open one
abbrev pub value_by : Phase → ℤ → ℤ
value_by p v = if is_open p then v else value_in p

abbrev pub is_region_by : ℕ → Kind → Bool
is_region_by n (Region m) = m == n
is_region_by n k = false

abbrev pub is_made_by : ℕ → Kind → Bool
is_made_by n (Spawned m g) = m == n
is_made_by n (Region m) = m == n
is_made_by n k = false

-- Is row k, of job j, in group g of row n, above a mark?
abbrev pub counts : (j n g from k : ℕ) → Row → Bool
counts j n g from k r = (r.job == j) && (is_spawned_by n g r.kind && nat_lt from k)

abbrev pub added : Bool → Option ℤ → ℤ → Option ℤ
added b so_far v = if b then Some (int_wrapping_add w64 (unwrap_or so_far (pos 0)) v) else so_far

abbrev pub add_row_to : (j : ℕ) → List Row → Values → (n g from : ℕ) → ℕ → Option ℤ → Option ℤ
add_row_to j rows values n g from k so_far = added (counts j n g from k (row rows k)) so_far (value_by (row rows k).phase (values k))

-- the sum of a group, `None` if it has no member
abbrev pub sum_for : (j : ℕ) → List Row → Values → (n g from : ℕ) → Option ℤ
sum_for j rows values n g from = fold_to (add_row_to j rows values n g from) None (length rows)

-- Is it a region of row n that has not ended?
abbrev pub is_held_by : (j n : ℕ) → Row → Bool
is_held_by j n r = is_open r.phase && ((r.job == j) && is_region_by n r.kind)

abbrev pub hand_from : (j : ℕ) → List Row → Values → (n : ℕ) → ℕ → Option ℤ → Option ℤ
hand_from j rows values n k so_far = if is_held_by j n (row rows k) then Some (value_by (row rows k).phase (values k)) else so_far

-- the value that row n waits for at an isolate
abbrev pub hands_for : (j : ℕ) → List Row → Values → (n : ℕ) → Option ℤ
hands_for j rows values n = fold_to (hand_from j rows values n) None (length rows)

abbrev pub handed_by : List (List Instr) → Option ℤ → Frame → Frame
handed_by procs None f = f
handed_by procs (Some v) f = handed_frame (instr_at procs f) v f

abbrev pub sums_of : (j : ℕ) → List Row → Values → ℕ → List (Option ℤ)
sums_of j rows values n =
    sum_for j rows values n 0 (mark rows n 0).rows ∷ sum_for j rows values n 1 (mark rows n 1).rows ∷ sum_for j rows values n 2 (mark rows n 2).rows ∷ sum_for j rows values n 3 (mark rows n 3).rows ∷
    []

-- how far a row is, as a task
abbrev pub now : List (List Instr) → (j : ℕ) → List Row → Values → ℕ → SerialTask
now procs j rows values n = task (handed_by procs (hands_for j rows values n) (row rows n).frame) (sums_of j rows values n)

abbrev pub cost_of : (j : ℕ) → Counts → ℕ → Row → ℕ
cost_of j costs k r = if is_open r.phase && (r.job == j) then costs k else 0

-- what the open rows of a job still execute
abbrev pub cost_for : (j : ℕ) → List Row → Counts → ℕ
cost_for j rows costs = fold_to (λ k so_far. so_far + cost_of j costs k (row rows k)) 0 (length rows)

-- Each open row of the job gives the value that is supposed of it.
pub record AreGiven (procs : List (List Instr)) (j : ℕ) (rows : List Row) (values : Values) (costs : Counts) : Type 0 where
  pub each : (n : ℕ) → 1 ≤ n → n ≤ length rows → (row rows n).job ≡ j → is_open (row rows n).phase ≡ true → Gives procs (now procs j rows values n) (values n) (costs n)

-- Then the root gives its value, by what was executed and what the open rows execute.
pub record Leads (procs : List (List Instr)) (start : SerialTask) (j root : ℕ) (rows : List Row) (spent : ℕ) : Type 0 where
  pub leads : (values : Values) (costs : Counts) → AreGiven procs j rows values costs → Gives procs start (value_by (row rows root).phase (values root)) (spent + cost_for j rows costs)

added-same : (b : Bool) (x : Option ℤ) (v w : ℤ) → (b ≡ true → w ≡ v) → added b x w ≡ added b x v
added-same true x v w same = ap (λ u. Some (int_wrapping_add w64 (unwrap_or x (pos 0)) u)) (same refl)
added-same false x v w same = refl

handing-cases : (b c : Bool) (x : Option ℤ) (v w : ℤ) → c ≡ b → (b ≡ true → w ≡ v) → (if c then Some w else x) ≡ (if b then Some v else x)
handing-cases true c x v w tests same = rw tests (ap Some (same refl))
handing-cases false c x v w tests same = rw tests refl

region_spawned : (p g : ℕ) (k : Kind) → is_made_by p k ≡ false → (is_spawned_by p g k ≡ false) × (is_region_by p k ≡ false)
region_spawned p g Root none = (refl, refl)
region_spawned p g Posted none = (refl, refl)
region_spawned p g (Spawned m h) none = (rw none refl, refl)
region_spawned p g (Region m) none = (refl, none)

-- what row p counts is the same in two lists of rows
pub record Alike (j p : ℕ) (a b : List Row) (u w : Values) : Type 0 where
  pub long : length a ≤ length b
  pub kinds : (k : ℕ) → 1 ≤ k → k ≤ length a → (row b k).kind ≡ (row a k).kind
  pub jobs : (k : ℕ) → 1 ≤ k → k ≤ length a → (row b k).job ≡ (row a k).job
  pub values : (k : ℕ) → 1 ≤ k → k ≤ length a → (row a k).job ≡ j → value_by (row b k).phase (w k) ≡ value_by (row a k).phase (u k)

-- no new row is made by p
abbrev pub NoneMade : (j p : ℕ) → (a b : List Row) → Type 0
NoneMade j p a b = (k : ℕ) → length a < k → k ≤ length b → (row b k).job ≡ j → is_made_by p (row b k).kind ≡ false

-- no region of p has ended
abbrev pub SameRegions : (j p : ℕ) → (a b : List Row) → Type 0
SameRegions j p a b = (k : ℕ) → 1 ≤ k → k ≤ length a → (row a k).job ≡ j → is_region_by p (row a k).kind ≡ true → is_open (row b k).phase ≡ is_open (row a k).phase

module _ (j p : ℕ) (a b : List Row) (u w : Values) (alike : Alike j p a b u w) where
  -- the sum over the rows that were there
  pub sum-old : (g from : ℕ) → fold_to (add_row_to j b w p g from) None (length a) ≡ sum_for j a u p g from
  sum-old g from = fold_to-same (add_row_to j b w p g from) (add_row_to j a u p g from) None (length a) (λ k x least most.
      rw (alike.kinds k least most, alike.jobs k least most)
      (added-same (counts j p g from k (row a k)) x _ _ (λ yes. alike.values k least most (grind (arith, yes)))))

  pub sum-same : NoneMade j p a b → (g from : ℕ) → sum_for j b w p g from ≡ sum_for j a u p g from
  sum-same none g from = fold_to-rest (add_row_to j b w p g from) None (length a) (length b) alike.long (λ k x after most.
      elim (cases_eq (row b k).job j) [
        | inl own ↦
            let no = region_spawned p g (row b k).kind (none k after most own) in
            rw no.0 (let e : (((row b k).job == j) && (false && nat_lt from k)) ≡ false = grind arith in rw e refl)
        | inr other ↦ let e : ((row b k).job == j) ≡ false = grind (arith, other) in rw e refl
      ]) ∙ sum-old g from

  -- the value that p waits for, among the rows that were there
  pub hands-old : SameRegions j p a b → fold_to (hand_from j b w p) None (length a) ≡ hands_for j a u p
  hands-old regions = fold_to-same (hand_from j b w p) (hand_from j a u p) None (length a) (λ k x least most.
      rw (alike.kinds k least most, alike.jobs k least most)
      (handing-cases (is_held_by j p (row a k)) (is_open (row b k).phase && (((row a k).job == j) && is_region_by p (row a k).kind)) x _ _
      (elim (cases_eq (row a k).job j) [
        | inl own ↦ elim (both (is_region_by p (row a k).kind)) [
          | inl is_one ↦ rw (regions k least most own is_one) refl
          | inr is_none ↦ rw is_none (grind arith)
        ]
        | inr other ↦ let e : ((row a k).job == j) ≡ false = grind (arith, other) in rw e (grind arith)
      ])
      (λ yes. alike.values k least most (grind (arith, yes)))))
    where
      both : (b : Bool) → (b ≡ true) ⊎ (b ≡ false)
      both true = inl refl
      both false = inr refl

  pub hands-same : NoneMade j p a b → SameRegions j p a b → hands_for j b w p ≡ hands_for j a u p
  hands-same none regions = fold_to-rest (hand_from j b w p) None (length a) (length b) alike.long (λ k x after most.
      elim (cases_eq (row b k).job j) [
        | inl own ↦
            let no = region_spawned p 0 (row b k).kind (none k after most own) in
            let e : is_held_by j p (row b k) ≡ false = grind (arith, no.1) in rw e refl
        | inr other ↦ let e : is_held_by j p (row b k) ≡ false = grind (arith, other) in rw e refl
      ]) ∙ hands-old regions

  -- p is as far as before
  pub now-same : (procs : List (List Instr)) → NoneMade j p a b → SameRegions j p a b → (row b p).frame ≡ (row a p).frame → (row b p).marks ≡ (row a p).marks → now procs j b w p ≡ now procs j a u p
  now-same procs none regions frame marks =
      rw (frame, marks, hands-same none regions, sum-same none 0, sum-same none 1, sum-same none 2, sum-same none 3) refl
