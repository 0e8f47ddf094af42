-- A row of a serial job ends with its value.
use Rattle.std.proofs.Common.{◌≡◌, ◌≢◌, ℕ, zero, suc, ◌+◌, ◌==◌, ◌≤◌, List, [], ◌∷◌, length, Option, Some, None, true, false, refl, sym, ap, ◌∙◌, arith, inl, inr, ℤ}
use Rattle.std.proofs.lemmas.Bool.{cases_eq}
use Rattle.job_language.specs.declared.instructions.Instr.{Instr}
use Rattle.job_language.specs.declared.instructions.Instr.TheVariants.{Ret}
use Rattle.job_step.specs.declared.frames.Frame.{Frame}
use Rattle.job_step.specs.Frame.{instr_at, register}
use Rattle.tenant_model.specs.declared.rows.Row.{Row}
use Rattle.tenant_model.specs.declared.serials.SerialTask.{SerialTask}
use Rattle.tenant_model.specs.declared.serials.SerialTurn.TheVariants as turn
use Rattle.tenant_model.specs.Serial.{turn_at}
use Rattle.tenant_model.specs.Shared.{handed_frame}
use Rattle.tenant_model.specs.State.{row}
use Rattle.tenant_model.specs.Walks.{is_open, value_in, mark, is_used}
use Rattle.tenant_model.proofs.Within.{either_way}
use Rattle.serial_law.proofs.SerialGiving.{Gives, task, GoesBack, gives_ends}
use Rattle.serial_law.proofs.SerialNow.{fold_to, fold_to-rest, Values, value_by, is_region_by, is_held_by, hand_from, hands_for, sum_for, now, cost_of, cost_for, AreGiven, Leads, Alike, NoneMade}
use Rattle.serial_law.proofs.SerialNow.{sum-same, now-same}
use Rattle.serial_law.proofs.SerialMoves.{sum_except, put, put-here, put-other, IsFree, free-none}
use Rattle.serial_law.proofs.SerialEnded.{HasChildren, sum-unused}

-- a fold to which one number alone adds
fold_to-one : {A : Type 0} (f : ℕ → A → A) (z y : A) (n most : ℕ) → 1 ≤ n → n ≤ most → ((k : ℕ) (x : A) → 1 ≤ k → k ≤ most → k ≢ n → f k x ≡ x) → ((x : A) → f n x ≡ y) → fold_to f z most ≡ y
fold_to-one f z y zero most from to others here = absurd (omega (arith, from))
fold_to-one f z y (suc n) most from to others here = fold_to-rest f z (suc n) most to (λ k x after le. others k x (omega (arith, after)) le (omega (arith, after))) ∙ here (fold_to f z n)

-- Row n ended with v. If it is a region, its maker continues with v.
pub record HasEnded (procs : List (List Instr)) (j n : ℕ) (a b : List Row) (v : ℤ) : Type 0 where
  pub from : 1 ≤ n
  pub to : n ≤ length a
  pub own : (row a n).job ≡ j
  pub opened : is_open (row a n).phase ≡ true
  pub free : IsFree j n a
  pub long : length b ≡ length a
  pub kinds : (k : ℕ) → 1 ≤ k → k ≤ length a → (row b k).kind ≡ (row a k).kind
  pub jobs : (k : ℕ) → 1 ≤ k → k ≤ length a → (row b k).job ≡ (row a k).job
  pub closed : is_open (row b n).phase ≡ false
  pub value : value_in (row b n).phase ≡ v
  pub phases : (k : ℕ) → 1 ≤ k → k ≤ length a → k ≢ n → (row b k).phase ≡ (row a k).phase
  pub marks : (k : ℕ) → 1 ≤ k → k ≤ length a → k ≢ n → (row b k).marks ≡ (row a k).marks
  pub frames : (k : ℕ) → 1 ≤ k → k ≤ length a → k ≢ n → is_region_by k (row a n).kind ≡ false → (row b k).frame ≡ (row a k).frame
  pub handed_frame : (k : ℕ) → 1 ≤ k → k ≤ length a → is_region_by k (row a n).kind ≡ true → (row b k).frame ≡ handed_frame (instr_at procs (row a k).frame) v (row a k).frame
  -- its maker has no other open region
  pub only : (m k : ℕ) → is_region_by m (row a n).kind ≡ true → 1 ≤ k → k ≤ length a → k ≢ n → is_region_by m (row a k).kind ≡ true → is_open (row a k).phase ≡ false

module _ (procs : List (List Instr)) (start : SerialTask) (j root n : ℕ) (a b : List Row) (v : ℤ) (ended : HasEnded procs j n a b v) where
  mine : ((row a n).job == j) ≡ true
  mine = grind (arith, ended.own)

  ended-alike : (p : ℕ) (values : Values) → Alike j p a b (put n v values) values
  ended-alike p values = record {
    long = omega (arith, ended.long);
    kinds = ended.kinds;
    jobs = ended.jobs;
    values = λ k from to own. elim (cases_eq k n) [
      | inl same ↦ rw (same, ended.closed, ended.opened, put-here n v values) ended.value
      | inr other ↦ rw (ended.phases k from to other, put-other n k v values other) refl
    ];
  }

  ended-none : (p : ℕ) → NoneMade j p a b
  ended-none p k after to owned = absurd (omega (arith, after, to, ended.long))

  -- what another row is
  ended-now : (p : ℕ) (values : Values) → 1 ≤ p → p ≤ length a → p ≢ n → now procs j b values p ≡ now procs j a (put n v values) p
  ended-now p values from to apart = elim (either_way (is_region_by p (row a n).kind)) [
    | inr other ↦
        now-same j p a b (put n v values) values (ended-alike p values) procs (ended-none p)
        (λ k least most own is_one. elim (cases_eq k n) [
          | inl same ↦ let is : is_region_by p (row a n).kind ≡ true = rw same at is_one in absurd (grind (arith, is, other))
          | inr away ↦ ap is_open (ended.phases k least most away)
        ]) (ended.frames p from to apart other) (ended.marks p from to apart)
    | inl maker ↦
        let free : IsFree j p b = λ k least most own is_one. elim (cases_eq k n) [
          | inl same ↦ rw same ended.closed
          | inr away ↦
              let there : k ≤ length a = omega (arith, most, ended.long) in
              ap is_open (ended.phases k least there away) ∙ ended.only p k maker least there away (ap (is_region_by p) (sym (ended.kinds k least there)) ∙ is_one)
        ] in
        let waits : hands_for j a (put n v values) p ≡ Some v = fold_to-one (hand_from j a (put n v values) p) None (Some v) n (length a) ended.from ended.to
        (λ k x least most away.
        let no : is_held_by j p (row a k) ≡ false = elim (either_way (is_region_by p (row a k).kind)) [
          | inl is_one ↦ grind (arith, ended.only p k maker least most away is_one)
          | inr is_none ↦ grind (arith, is_none)
        ] in rw no refl)
        (λ x. rw (ended.opened, mine, maker, put-here n v values) refl) in
        let sum : (h : ℕ) → sum_for j b values p h (mark b p h).rows ≡ sum_for j a (put n v values) p h (mark b p h).rows =
        λ h. sum-same j p a b (put n v values) values (ended-alike p values) (ended-none p) h (mark b p h).rows in
        rw (free-none j p b values free, waits, ended.handed_frame p from to maker, sum 0, sum 1, sum 2, sum 3, ended.marks p from to apart) refl
  ]

  -- The row ended by one instruction more than its run has.
  pub Leads-ended : (x : ℕ) (f : Frame) (count spent : ℕ) → 1 ≤ root → root ≤ length a → GoesBack procs (row a n).frame f count → instr_at procs f ≡ Some (Ret x) → register f x ≡ v →
      HasChildren j n a →
      is_used a n 0 ≡ false → is_used a n 1 ≡ false → is_used a n 2 ≡ false → is_used a n 3 ≡ false → Leads procs start j root a spent → Leads procs start j root b (spent + (count + 1))
  Leads-ended x f count spent least most goes_back at gives children used0 used1 used2 used3 leads = record {
    leads = λ values costs given.
        let before_values = put n v values in
        let before_costs = put n (1 + count) costs in
        let before : AreGiven procs j a before_values before_costs = record {
          each = λ p from to own opened. elim (cases_eq p n) [
            | inl same ↦
                let none : Option ℤ = None in
                let end : Gives procs (task f (none ∷ none ∷ none ∷ none ∷ [])) v 1 =
                gives_ends procs (task f (none ∷ none ∷ none ∷ none ∷ [])) v (ap (λ o. turn_at o (task f (none ∷ none ∷ none ∷ none ∷ []))) at ∙ ap turn.Gives gives) in
                rw (
                  same,
                  put-here n v values,
                  put-here n (1 + count) costs,
                  free-none j n a before_values ended.free,
                  sum-unused j n a children before_values 0 used0,
                  sum-unused j n a children before_values 1 used1,
                  sum-unused j n a children before_values 2 used2,
                  sum-unused j n a children before_values 3 used3,
                )
                (goes_back (none ∷ none ∷ none ∷ none ∷ []) v 1 end)
            | inr apart ↦
                let here = given.each p from (omega (arith, to, ended.long)) (ended.jobs p from to ∙ own) (ap is_open (ended.phases p from to apart) ∙ opened) in
                rw (put-other n p v values apart, put-other n p (1 + count) costs apart) (rw (ended-now p values from to apart) at here)
          ];
        } in
        let t : ℕ → ℕ = λ k. cost_of j costs k (row b k) in
        let u : ℕ → ℕ = λ k. cost_of j before_costs k (row a k) in
        let all = sum_except t u n (length a) ended.from ended.to (λ k from to apart. rw (ended.phases k from to apart, ended.jobs k from to, put-other n k (1 + count) costs apart) refl) in
        let gone : t n ≡ 0 = rw ended.closed refl in
        let cost : u n ≡ 1 + count = rw (mine, ended.opened, put-here n (1 + count) costs) refl in
        let same : cost_for j b costs ≡ fold_to (λ k y. y + cost_of j costs k (row b k)) 0 (length a) = ap (fold_to (λ k y. y + cost_of j costs k (row b k)) 0) ended.long in
        let sum : spent + (count + 1) + cost_for j b costs ≡ spent + cost_for j a before_costs = omega (arith, all, gone, cost, same) in
        let worth : value_by (row b root).phase (values root) ≡ value_by (row a root).phase (before_values root) = elim (cases_eq root n) [
          | inl same_row ↦ rw (same_row, ended.closed, ended.opened, put-here n v values) ended.value
          | inr apart ↦ rw (ended.phases root least most apart, put-other n root v values apart) refl
        ] in
        rw (sum, worth) (leads.leads before_values before_costs before);
  }
