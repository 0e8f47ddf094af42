-- How changes of rows keep what a serial job leads to.
use Rattle.std.proofs.Common.{◌≡◌, ◌≢◌, ℕ, zero, suc, ◌+◌, ◌==◌, ◌<◌, ◌≤◌, List, length, None, Bool, true, false, ◌&&◌, refl, sym, ap, ◌∙◌, arith, inl, inr, ◌⊎◌}
use Rattle.std.specs.Prelude.{if◌then◌else◌}
use Rattle.std.proofs.lemmas.Bool.{cases_eq}
use Rattle.job_language.specs.declared.instructions.Instr.{Instr}
use Rattle.tenant_model.specs.declared.rows.Row.{Row}
use Rattle.tenant_model.specs.declared.serials.SerialTask.{SerialTask}
use Rattle.tenant_model.specs.State.{row}
use Rattle.tenant_model.specs.Walks.{is_open, value_in}
use Rattle.serial_law.proofs.SerialGiving.{Gives, task, GoesBack}
use Rattle.serial_law.proofs.SerialNow.{fold_to, fold_to-same, fold_to-rest, Values, Counts, value_by, is_region_by, is_made_by, hand_from, hands_for, sums_of, now, cost_of, cost_for, AreGiven, Leads}
use Rattle.serial_law.proofs.SerialNow.{Alike, NoneMade, SameRegions, hands-same, sum-same, now-same}

-- two sums that differ at one number
pub sum_except : (t u : ℕ → ℕ) (n most : ℕ) → 1 ≤ n → n ≤ most → ((k : ℕ) → 1 ≤ k → k ≤ most → k ≢ n → t k ≡ u k) → fold_to (λ k x. x + t k) 0 most + u n ≡ fold_to (λ k x. x + u k) 0 most + t n
sum_except t u n zero from to each = absurd (omega arith)
sum_except t u n (suc most) from to each = elim (cases_eq n (suc most)) [
  | inl same ↦
      let before = fold_to-same (λ k x. x + t k) (λ k x. x + u k) 0 most (λ k x least le. ap (λ y. x + y) (each k least (omega arith) (omega (arith, same)))) in
      rw same (omega (arith, before))
  | inr other ↦
      let before = sum_except t u n most from (omega (arith, to, other)) (λ k least le apart. each k least (omega arith) apart) in
      let last = each (suc most) (omega arith) (omega arith) (λ same. other (sym same)) in
      omega (arith, before, last)
]

-- The rows of a job are unchanged, except for where they are live.
pub record SameJob (j : ℕ) (a b : List Row) : Type 0 where
  pub long : length a ≤ length b
  pub kinds : (k : ℕ) → 1 ≤ k → k ≤ length a → (row b k).kind ≡ (row a k).kind
  pub jobs : (k : ℕ) → 1 ≤ k → k ≤ length a → (row b k).job ≡ (row a k).job
  pub frames : (k : ℕ) → 1 ≤ k → k ≤ length a → (row a k).job ≡ j → (row b k).frame ≡ (row a k).frame
  pub marks : (k : ℕ) → 1 ≤ k → k ≤ length a → (row a k).job ≡ j → (row b k).marks ≡ (row a k).marks
  pub opens : (k : ℕ) → 1 ≤ k → k ≤ length a → (row a k).job ≡ j → is_open (row b k).phase ≡ is_open (row a k).phase
  pub values : (k : ℕ) → 1 ≤ k → k ≤ length a → (row a k).job ≡ j → value_in (row b k).phase ≡ value_in (row a k).phase
  pub news : (k : ℕ) → length a < k → k ≤ length b → (row b k).job ≢ j

module _ (procs : List (List Instr)) (start : SerialTask) (j root : ℕ) (a b : List Row) where
  pub Leads-same : (spent : ℕ) → 1 ≤ root → root ≤ length a → (row a root).job ≡ j → SameJob j a b → Leads procs start j root a spent → Leads procs start j root b spent
  Leads-same spent least most own same leads = record {
    leads = λ values costs given.
        let worth : (k : ℕ) → 1 ≤ k → k ≤ length a → (row a k).job ≡ j → value_by (row b k).phase (values k) ≡ value_by (row a k).phase (values k) =
        λ k from to mine. rw (same.opens k from to mine, same.values k from to mine) refl in
        let alike : (p : ℕ) → Alike j p a b values values = λ p. record { long = same.long; kinds = same.kinds; jobs = same.jobs; values = worth } in
        let none : (p : ℕ) → NoneMade j p a b = λ p k after to mine. absurd (same.news k after to mine) in
        let before : AreGiven procs j a values costs = record {
          each = λ n from to mine opened.
              let here = given.each n from (omega (arith, to, same.long)) (same.jobs n from to ∙ mine) (same.opens n from to mine ∙ opened) in
              rw (now-same j n a b values values (alike n) procs (none n) (λ k f t m is_one. same.opens k f t m) (same.frames n from to mine) (same.marks n from to mine)) at here;
        } in
        let cost : cost_for j b costs ≡ cost_for j a costs =
        fold_to-rest (λ k x. x + cost_of j costs k (row b k)) 0 (length a) (length b) same.long (λ k x after to.
        let other : ((row b k).job == j) ≡ false = grind (arith, same.news k after to) in
        let none_there : cost_of j costs k (row b k) ≡ 0 = rw other (nothing (is_open (row b k).phase) (costs k)) in
        omega (arith, none_there)) ∙
        fold_to-same (λ k x. x + cost_of j costs k (row b k)) (λ k x. x + cost_of j costs k (row a k)) 0 (length a)
        (λ k x from to. ap (λ y. x + y) (cost_same costs k from to (same.jobs k from to) (λ mine. same.opens k from to mine))) in
        rw (worth root least most own, cost) (leads.leads values costs before);
  }
    where
      nothing : (c : Bool) (n : ℕ) → (if c && false then n else 0) ≡ 0
      nothing true n = refl
      nothing false n = refl

      cost_same : (costs : Counts) (k : ℕ) → 1 ≤ k → k ≤ length a → (row b k).job ≡ (row a k).job → ((row a k).job ≡ j → is_open (row b k).phase ≡ is_open (row a k).phase) →
          cost_of j costs k (row b k) ≡ cost_of j costs k (row a k)
      cost_same costs k from to jobs opens = elim (cases_eq (row a k).job j) [
        | inl mine ↦ rw (jobs, opens mine) refl
        | inr other ↦
            let e : ((row a k).job == j) ≡ false = grind (arith, other) in
            rw (jobs, e) (nothing (is_open (row b k).phase) (costs k) ∙ sym (nothing (is_open (row a k).phase) (costs k)))
      ]

-- a function changed at one number
abbrev pub put : {A : Type 0} → ℕ → A → (ℕ → A) → ℕ → A
put n v f k = if k == n then v else f k

pub put-here : {A : Type 0} (n : ℕ) (v : A) (f : ℕ → A) → put n v f n ≡ v
put-here n v f = let e : (n == n) ≡ true = grind arith in rw e refl

pub put-other : {A : Type 0} (n k : ℕ) (v : A) (f : ℕ → A) → k ≢ n → put n v f k ≡ f k
put-other n k v f other = let e : (k == n) ≡ false = grind (arith, other) in rw e refl

-- Row n changed, in the same phase, and may have made a row.
pub record IsMoved (n : ℕ) (a b : List Row) : Type 0 where
  pub from : 1 ≤ n
  pub to : n ≤ length a
  pub long : length a ≤ length b
  pub others : (k : ℕ) → 1 ≤ k → k ≤ length a → k ≢ n → row b k ≡ row a k
  pub kind : (row b n).kind ≡ (row a n).kind
  pub job : (row b n).job ≡ (row a n).job
  pub phase : (row b n).phase ≡ (row a n).phase
  pub news : (k p : ℕ) → length a < k → k ≤ length b → p ≢ n → is_made_by p (row b k).kind ≡ false

module _ (j n : ℕ) (a b : List Row) (moved : IsMoved n a b) where
  pub moved-kinds : (k : ℕ) → 1 ≤ k → k ≤ length a → (row b k).kind ≡ (row a k).kind
  moved-kinds k from to = elim (cases_eq k n) [
    | inl same ↦ rw same moved.kind
    | inr other ↦ ap (λ (r : Row). r.kind) (moved.others k from to other)
  ]

  pub moved-jobs : (k : ℕ) → 1 ≤ k → k ≤ length a → (row b k).job ≡ (row a k).job
  moved-jobs k from to = elim (cases_eq k n) [
    | inl same ↦ rw same moved.job
    | inr other ↦ ap (λ (r : Row). r.job) (moved.others k from to other)
  ]

  pub moved-phases : (k : ℕ) → 1 ≤ k → k ≤ length a → (row b k).phase ≡ (row a k).phase
  moved-phases k from to = elim (cases_eq k n) [
    | inl same ↦ rw same moved.phase
    | inr other ↦ ap (λ (r : Row). r.phase) (moved.others k from to other)
  ]

  pub moved-alike : (p : ℕ) (values : Values) → Alike j p a b values values
  moved-alike p values = record { long = moved.long; kinds = moved-kinds; jobs = moved-jobs; values = λ k from to own. ap (λ f. value_by f (values k)) (moved-phases k from to) }

  pub moved-regions : (p : ℕ) → SameRegions j p a b
  moved-regions p = λ k from to own is_one. ap is_open (moved-phases k from to)

  -- the cost of the earlier rows, if n costs more
  pub moved-costs : (costs : Counts) (extra : ℕ) → (row a n).job ≡ j → is_open (row a n).phase ≡ true →
      fold_to (λ k x. x + cost_of j costs k (row b k)) 0 (length a) + extra ≡ cost_for j a (put n (costs n + extra) costs)
  moved-costs costs extra own opened =
      let more = put n (costs n + extra) costs in
      let t : ℕ → ℕ = λ k. cost_of j costs k (row b k) in
      let u : ℕ → ℕ = λ k. cost_of j more k (row a k) in
      let all = sum_except t u n (length a) moved.from moved.to (λ k from to other. rw (moved.others k from to other, put-other n k (costs n + extra) costs other) refl) in
      let mine : ((row a n).job == j) ≡ true = grind (arith, own) in
      let after : t n ≡ costs n = rw (moved.job, moved.phase, mine, opened) refl in
      let before : u n ≡ costs n + extra = rw (mine, opened, put-here n (costs n + extra) costs) refl in
      omega (arith, all, after, before)

module _ (procs : List (List Instr)) (start : SerialTask) (j root n : ℕ) (a b : List Row) (moved : IsMoved n a b) (own : (row a n).job ≡ j) (opened : is_open (row a n).phase ≡ true) where
  -- What row n did leaves its result unchanged, and takes `more` instructions.
  pub Leads-moved : (spent more : ℕ) (extra : Counts → ℕ) → 1 ≤ root → root ≤ length a →
      ((costs : Counts) → spent + more + cost_for j b costs ≡ spent + cost_for j a (put n (costs n + extra costs) costs)) →
      ((values : Values) (costs : Counts) → AreGiven procs j b values costs → Gives procs (now procs j a values n) (values n) (costs n + extra costs)) →
      Leads procs start j root a spent → Leads procs start j root b (spent + more)
  Leads-moved spent more extra least most with_fuel_paid back leads = record {
    leads = λ values costs given.
        let higher = put n (costs n + extra costs) costs in
        let before : AreGiven procs j a values higher = record {
          each = λ p from to mine is. elim (cases_eq p n) [
            | inl same ↦ rw (same, put-here n (costs n + extra costs) costs) (back values costs given)
            | inr other ↦
                let old = moved.others p from to other in
                let here = given.each p from (omega (arith, to, moved.long)) (ap (λ (r : Row). r.job) old ∙ mine) (ap (λ (r : Row). is_open r.phase) old ∙ is) in
                let same = now-same j p a b values values (moved-alike j n a b moved p values) procs (λ k after le owned. moved.news k p after le other) (moved-regions j n a b moved p)
                (ap (λ (r : Row). r.frame) old) (ap (λ (r : Row). r.marks) old) in
                rw (put-other n p (costs n + extra costs) costs other) (rw same at here)
          ];
        } in
        rw (with_fuel_paid costs, moved-phases j n a b moved root least most) (leads.leads values higher before);
  }

-- No open row is a region of row n.
abbrev pub IsFree : (j n : ℕ) → List Row → Type 0
IsFree j n rows = (k : ℕ) → 1 ≤ k → k ≤ length rows → (row rows k).job ≡ j → is_region_by n (row rows k).kind ≡ true → is_open (row rows k).phase ≡ false

pub free-none : (j n : ℕ) (rows : List Row) (values : Values) → IsFree j n rows → hands_for j rows values n ≡ None
free-none j n rows values free = fold_to-rest (hand_from j rows values n) None 0 (length rows) (omega arith) (λ k x from to.
    let e : (is_open (row rows k).phase && (((row rows k).job == j) && is_region_by n (row rows k).kind)) ≡ false = elim (cases_eq (row rows k).job j) [
      | inl own ↦ elim (both (is_region_by n (row rows k).kind)) [
        | inl is_one ↦ grind (arith, free k from to own is_one)
        | inr is_none ↦ grind (arith, is_none)
      ]
      | inr other ↦ let f : ((row rows k).job == j) ≡ false = grind (arith, other) in grind (arith, f)
    ] in
    rw e refl)
  where
    both : (b : Bool) → (b ≡ true) ⊎ (b ≡ false)
    both true = inl refl
    both false = inr refl

module _ (procs : List (List Instr)) (start : SerialTask) (j root n : ℕ) (a b : List Row) (moved : IsMoved n a b) (own : (row a n).job ≡ j) (opened : is_open (row a n).phase ≡ true)
    (free : IsFree j n a) where
  -- private instructions
  pub Leads-private : (spent count : ℕ) → 1 ≤ root → root ≤ length a → length b ≡ length a → (row b n).marks ≡ (row a n).marks → GoesBack procs (row a n).frame (row b n).frame count →
      Leads procs start j root a spent → Leads procs start j root b (spent + count)
  Leads-private spent count least most long marks goes_back leads =
      let none : NoneMade j n a b = λ k after to owned. absurd (omega (arith, after, to, long)) in
      Leads-moved procs start j root n a b moved own opened spent count (λ costs. count) least most
      (λ costs. let cost = moved-costs j n a b moved costs count own opened in
      let e : cost_for j b costs ≡ fold_to (λ k x. x + cost_of j costs k (row b k)) 0 (length a) = ap (fold_to (λ k x. x + cost_of j costs k (row b k)) 0) long in
      omega (arith, cost, e))
      (λ values costs given.
      let alike = moved-alike j n a b moved n values in
      let here = given.each n moved.from (omega (arith, moved.to, moved.long)) (moved.job ∙ own) (ap is_open moved.phase ∙ opened) in
      let same : now procs j b values n ≡ task (row b n).frame (sums_of j a values n) =
      rw (
        marks,
        hands-same j n a b values values alike none (moved-regions j n a b moved n),
        free-none j n a values free,
        sum-same j n a b values values alike none 0,
        sum-same j n a b values values alike none 1,
        sum-same j n a b values values alike none 2,
        sum-same j n a b values values alike none 3,
      ) refl in
      rw (free-none j n a values free) (goes_back (sums_of j a values n) (values n) (costs n) (rw same at here)))
      leads
