-- Waits and ends of rows of a serial job.
use Rattle.std.proofs.Common.{◌≡◌, ◌≢◌, ℕ, zero, suc, ◌+◌, ◌==◌, ◌<◌, ◌≤◌, List, [], ◌∷◌, ◌++◌, length, Option, Some, None, Bool, true, false, ◌&&◌, nat_lt, refl, sym, ap, ◌∙◌, arith, inl, inr, ℤ}
use Rattle.std.proofs.Common.{pos, unwrap_or, take, get_or}
use Rattle.std.specs.Prelude.{if◌then◌else◌, slice_set, slice_index_or, filter, fold}
use Rattle.std.specs.List.{enumerate_from, list_any}
use Rattle.std.specs.Int.{int_wrapping_add, w64}
use Rattle.std.proofs.lemmas.Bool.{cases_eq}
use Rattle.std.proofs.lemmas.List.{take_more}
use Rattle.std.proofs.Math.Seq.{take-length}
use Rattle.std.proofs.lemmas.List.Elements.{filter-append}
use Rattle.std.proofs.lemmas.List.Sums.{fold-append}
use Rattle.job_language.specs.declared.instructions.Instr.{Instr}
use Rattle.job_language.specs.declared.instructions.Instr.TheVariants.{Wait}
use Rattle.job_step.specs.declared.frames.Frame.{Frame}
use Rattle.job_step.specs.Frame.{instr_at, write_and_step}
use Rattle.tenant_model.specs.declared.rows.Kind.{Kind}
use Rattle.tenant_model.specs.declared.rows.Kind.TheVariants.{Root, Posted, Spawned, Region}
use Rattle.tenant_model.specs.declared.rows.Mark.{Mark}
use Rattle.tenant_model.specs.declared.rows.Row.{Row}
use Rattle.tenant_model.specs.declared.serials.SerialTask.{SerialTask}
use Rattle.tenant_model.specs.Serial.{after_wait, turn_at}
use Rattle.tenant_model.specs.State.{row}
use Rattle.tenant_model.specs.Walks.{NumberedRow, is_open, is_spawned_by, mark, members, is_pending, value_in, total, is_used}
use Rattle.tenant_model.proofs.Changed.{row-get_or}
use Rattle.serial_law.proofs.SerialGiving.{Gives, task, GoesBack, gives_goes}
use Rattle.serial_law.proofs.SerialNow.{fold_to, fold_to-same, fold_to-rest, Values, value_by, is_made_by, counts, add_row_to, sum_for, sums_of, now, cost_of, cost_for, Leads, NoneMade, hands-same}
use Rattle.serial_law.proofs.SerialNow.{sum-same}
use Rattle.serial_law.proofs.SerialMoves.{IsMoved, moved-alike, moved-regions, moved-costs, Leads-moved, IsFree, free-none}

enumerate_push : {A : Type 0} (k : ℕ) (xs : List A) (x : A) → enumerate_from k (xs ++ x ∷ []) ≡ enumerate_from k xs ++ (k + length xs, x) ∷ []
enumerate_push k [] x = let e : k + 0 ≡ k = omega arith in rw e refl
enumerate_push k (y ∷ ys) x =
    let e : k + length (y ∷ ys) ≡ k + 1 + length ys = omega arith in
    rw e (ap (λ zs. (k, y) ∷ zs) (enumerate_push (k + 1) ys x))

fold_one : {A : Type 0} (t : NumberedRow → Bool) (f : A → NumberedRow → A) (x : A) (p : NumberedRow) → (if t p then f x p else x) ≡ fold f x (filter t (p ∷ []))
fold_one t f x p = go (t p) refl
  where
    go : (b : Bool) → t p ≡ b → (if t p then f x p else x) ≡ fold f x (filter t (p ∷ []))
    go true is = rw is refl
    go false is = rw is refl

-- a fold over rows by their numbers goes over those that pass a test
fold_to-filter : {A : Type 0} (t : NumberedRow → Bool) (f : A → NumberedRow → A) (z : A) (rows : List Row) (n : ℕ) → n ≤ length rows →
    fold_to (λ k x. if t (k, row rows k) then f x (k, row rows k) else x) z n ≡ fold f z (filter t (enumerate_from 1 (take n rows)))
fold_to-filter t f z rows zero le = refl
fold_to-filter t f z rows (suc n) le =
    let d = row [] 0 in
    let before = fold_to-filter t f z rows n (omega arith) in
    let long : length (take n rows) ≡ n = length-take_within rows n (omega arith) in
    let place : 1 + length (take n rows) ≡ suc n = omega (arith, long) in
    let number : n + 1 ≡ suc n = omega arith in
    let item : get_or rows n d ≡ row rows (suc n) = row-get_or rows n d (omega arith) ∙ ap (row rows) number in
    let parts : enumerate_from 1 (take (suc n) rows) ≡ enumerate_from 1 (take n rows) ++ (suc n, row rows (suc n)) ∷ [] =
    ap (λ k. enumerate_from 1 (take k rows)) (sym number) ∙ ap (enumerate_from 1) (take_more rows n d (omega arith)) ∙ enumerate_push 1 (take n rows) (get_or rows n d) ∙
    ap (λ k. enumerate_from 1 (take n rows) ++ (k, get_or rows n d) ∷ []) place ∙ ap (λ r. enumerate_from 1 (take n rows) ++ (suc n, r) ∷ []) item in
    ap (λ x. if t (suc n, row rows (suc n)) then f x (suc n, row rows (suc n)) else x) before ∙
    fold_one t f (fold f z (filter t (enumerate_from 1 (take n rows)))) (suc n, row rows (suc n)) ∙
    sym (fold-append f z (filter t (enumerate_from 1 (take n rows))) (filter t ((suc n, row rows (suc n)) ∷ []))) ∙
    ap (fold f z) (sym (filter-append t (enumerate_from 1 (take n rows)) ((suc n, row rows (suc n)) ∷ []))) ∙
    ap (λ ps. fold f z (filter t ps)) (sym parts)
  where
    length-take_within : {X : Type 0} (xs : List X) (k : ℕ) → k ≤ length xs → length (take k xs) ≡ k
    length-take_within xs zero within = refl
    length-take_within [] (suc k) within = absurd (omega (arith, within))
    length-take_within (x ∷ xs) (suc k) within = let rest = length-take_within xs k (omega (arith, within)) in omega (arith, rest)

abbrev sum_with : Values → Option ℤ → NumberedRow → Option ℤ
sum_with values x p = Some (int_wrapping_add w64 (unwrap_or x (pos 0)) (value_by p.1.phase (values p.0)))

-- what row n made is of its job
abbrev pub HasChildren : (j n : ℕ) → List Row → Type 0
HasChildren j n rows = (k : ℕ) → 1 ≤ k → k ≤ length rows → is_made_by n (row rows k).kind ≡ true → (row rows k).job ≡ j

spawned_made : (n g : ℕ) (k : Kind) → is_spawned_by n g k ≡ true → is_made_by n k ≡ true
spawned_made n g Root is = absurd (grind (arith, is))
spawned_made n g Posted is = absurd (grind (arith, is))
spawned_made n g (Spawned m h) is = grind (arith, is)
spawned_made n g (Region m) is = absurd (grind (arith, is))

module _ (j n : ℕ) (rows : List Row) (children : HasChildren j n rows) where
  -- the sum of a group is that over its members
  sum-members : (values : Values) (g : ℕ) → sum_for j rows values n g (mark rows n g).rows ≡ fold (sum_with values) None (members rows n g)
  sum-members values g =
      let from = (mark rows n g).rows in
      let t : NumberedRow → Bool = λ p. is_spawned_by n g p.1.kind && nat_lt from p.0 in
      fold_to-same (add_row_to j rows values n g from) (λ k x. if t (k, row rows k) then sum_with values x (k, row rows k) else x) None (length rows) (λ k x least most.
      let e : counts j n g from k (row rows k) ≡ t (k, row rows k) = own (is_spawned_by n g (row rows k).kind) refl k least most from g in
      rw e refl) ∙
      fold_to-filter t (sum_with values) None rows (length rows) (omega arith) ∙
      ap (λ xs. fold (sum_with values) None (filter t (enumerate_from 1 xs))) (take-length rows)
    where
      own : (b : Bool) → b ≡ b → (k : ℕ) → 1 ≤ k → k ≤ length rows → (from g : ℕ) → counts j n g from k (row rows k) ≡ (is_spawned_by n g (row rows k).kind && nat_lt from k)
      own b same k least most from g = go (is_spawned_by n g (row rows k).kind) refl
        where
          go : (c : Bool) → is_spawned_by n g (row rows k).kind ≡ c → counts j n g from k (row rows k) ≡ (is_spawned_by n g (row rows k).kind && nat_lt from k)
          go true is =
              let its = children k least most (spawned_made n g (row rows k).kind is) in
              let e : ((row rows k).job == j) ≡ true = grind (arith, its) in
              rw e refl
          go false is = grind (arith, is)

  -- an unused group has no sum
  pub sum-unused : (values : Values) (g : ℕ) → is_used rows n g ≡ false → sum_for j rows values n g (mark rows n g).rows ≡ None
  sum-unused values g unused = sum-members values g ∙ go (members rows n g) unused
    where
      go : (ms : List NumberedRow) → nat_lt 0 (length ms) ≡ false → fold (sum_with values) None ms ≡ None
      go [] none = refl
      go (p ∷ ps) none = absurd (grind (arith, none))

  -- If nothing is pending, the sum is the total.
  pub sum-total : (values : Values) (g : ℕ) → is_pending rows n g ≡ false → unwrap_or (sum_for j rows values n g (mark rows n g).rows) (pos 0) ≡ total rows n g
  sum-total values g settled_row = ap (λ x. unwrap_or x (pos 0)) (sum-members values g) ∙ go None (members rows n g) settled_row
    where
      go : (x : Option ℤ) (ms : List NumberedRow) → list_any (λ (p : NumberedRow). is_open p.1.phase) ms ≡ false →
          unwrap_or (fold (sum_with values) x ms) (pos 0) ≡ fold (λ sum (p : NumberedRow). int_wrapping_add w64 sum (value_in p.1.phase)) (unwrap_or x (pos 0)) ms
      go x [] none = refl
      go x (p ∷ ps) none =
          let closed : is_open p.1.phase ≡ false = grind (arith, none) in
          let rest : list_any (λ (q : NumberedRow). is_open q.1.phase) ps ≡ false = grind (arith, none) in
          go (sum_with values x p) ps rest ∙
          ap (λ b. fold (λ sum (q : NumberedRow). int_wrapping_add w64 sum (value_in q.1.phase)) (int_wrapping_add w64 (unwrap_or x (pos 0)) (if b then values p.0 else value_in p.1.phase)) ps)
          closed

-- the sums of a task that waited for group g
waited_sums : (g : ℕ) → g < 4 → (x0 x1 x2 x3 : Option ℤ) →
    ((if g == 0 then None else x0) ∷ (if g == 1 then None else x1) ∷ (if g == 2 then None else x2) ∷ (if g == 3 then None else x3) ∷ []) ≡ slice_set (x0 ∷ x1 ∷ x2 ∷ x3 ∷ []) g None
waited_sums zero low x0 x1 x2 x3 = refl
waited_sums (suc zero) low x0 x1 x2 x3 = refl
waited_sums (suc (suc zero)) low x0 x1 x2 x3 = refl
waited_sums (suc (suc (suc zero))) low x0 x1 x2 x3 = refl
waited_sums (suc (suc (suc (suc g)))) low x0 x1 x2 x3 = absurd (omega (arith, low))

sum_in : (g : ℕ) → g < 4 → (x : ℕ → Option ℤ) → slice_index_or (x 0 ∷ x 1 ∷ x 2 ∷ x 3 ∷ []) g None ≡ x g
sum_in zero low x = refl
sum_in (suc zero) low x = refl
sum_in (suc (suc zero)) low x = refl
sum_in (suc (suc (suc zero))) low x = refl
sum_in (suc (suc (suc (suc g)))) low x = absurd (omega (arith, low))

-- a mark set
mark_set_same : (marks : List Mark) (g : ℕ) (m d : Mark) → g < length marks → slice_index_or (slice_set marks g m) g d ≡ m
mark_set_same [] g m d low = absurd (omega (arith, low))
mark_set_same (x ∷ xs) zero m d low = refl
mark_set_same (x ∷ xs) (suc g) m d low = mark_set_same xs g m d (omega (arith, low))

mark_set_other : (marks : List Mark) (g h : ℕ) (m d : Mark) → h ≢ g → slice_index_or (slice_set marks g m) h d ≡ slice_index_or marks h d
mark_set_other [] g h m d other = refl
mark_set_other (x ∷ xs) zero zero m d other = absurd (other refl)
mark_set_other (x ∷ xs) zero (suc h) m d other = refl
mark_set_other (x ∷ xs) (suc g) zero m d other = refl
mark_set_other (x ∷ xs) (suc g) (suc h) m d other = mark_set_other xs g h m d (omega (arith, other))

-- no row stands above a mark at the last one
sum_past : (j n g : ℕ) (rows : List Row) (values : Values) → sum_for j rows values n g (length rows) ≡ None
sum_past j n g rows values = fold_to-rest (add_row_to j rows values n g (length rows)) None 0 (length rows) (omega arith) (λ k x least most.
    let e : nat_lt (length rows) k ≡ false = grind (arith, most) in
    rw (e, all_false ((row rows k).job == j) (is_spawned_by n g (row rows k).kind)) refl)
  where
    all_false : (b c : Bool) → (b && (c && false)) ≡ false
    all_false true true = refl
    all_false true false = refl
    all_false false c = refl

module _ (procs : List (List Instr)) (start : SerialTask) (j root n : ℕ) (a b : List Row) (moved : IsMoved n a b) (own : (row a n).job ≡ j) (opened : is_open (row a n).phase ≡ true)
    (free : IsFree j n a) (children : HasChildren j n a) where
  -- a passed wait
  pub Leads-waited : (d e g : ℕ) (f : Frame) (count spent : ℕ) → 1 ≤ root → root ≤ length a → length b ≡ length a → GoesBack procs (row a n).frame f count → instr_at procs f ≡ Some (Wait d e g) →
      g < 4 → is_pending a n g ≡ false →
      (row b n).frame ≡ write_and_step (record f { registers = slice_set f.registers d (total a n g) }) e (pos 1) → length (row a n).marks ≡ 4 →
      (row b n).marks ≡ slice_set (row a n).marks g (record { rows = length a; cancelled = false }) →
      Leads procs start j root a spent → Leads procs start j root b (spent + (count + 1))
  Leads-waited d e g f count spent least most long goes_back at low settled_row frame all_marks marks leads =
      let none : NoneMade j n a b = λ k after to owned. absurd (omega (arith, after, to, long)) in
      let no : Mark = record { rows = 0; cancelled = false } in
      let new : Mark = record { rows = length a; cancelled = false } in
      Leads-moved procs start j root n a b moved own opened spent (count + 1) (λ costs. 1 + count) least most
      (λ costs. let cost = moved-costs j n a b moved costs (1 + count) own opened in
      let same : cost_for j b costs ≡ fold_to (λ k x. x + cost_of j costs k (row b k)) 0 (length a) = ap (fold_to (λ k x. x + cost_of j costs k (row b k)) 0) long in
      omega (arith, cost, same))
      (λ values costs given.
      let alike = moved-alike j n a b moved n values in
      let here = given.each n moved.from (omega (arith, moved.to, moved.long)) (moved.job ∙ own) (ap is_open moved.phase ∙ opened) in
      let sums = sums_of j a values n in
      let sum : (h : ℕ) → sum_for j b values n h (mark b n h).rows ≡ (if g == h then None else sum_for j a values n h (mark a n h).rows) = λ h. elim (cases_eq h g) [
        | inl same ↦
            let its : mark b n h ≡ new = ap (λ ms. slice_index_or ms h no) marks ∙ rw same (mark_set_same (row a n).marks g new no (omega (arith, low, all_marks))) in
            let is : (g == h) ≡ true = grind (arith, same) in
            sum-same j n a b values values alike none h (mark b n h).rows ∙ ap (λ (m : Mark). sum_for j a values n h m.rows) its ∙ rw is (sum_past j n h a values)
        | inr other ↦
            let its : mark b n h ≡ mark a n h = ap (λ ms. slice_index_or ms h no) marks ∙ mark_set_other (row a n).marks g h new no other in
            let is : (g == h) ≡ false = grind (arith, other) in
            sum-same j n a b values values alike none h (mark b n h).rows ∙ ap (λ (m : Mark). sum_for j a values n h m.rows) its ∙ rw is refl
      ] in
      let so_far : unwrap_or (slice_index_or sums g None) (pos 0) ≡ total a n g =
      ap (λ x. unwrap_or x (pos 0)) (sum_in g low (λ h. sum_for j a values n h (mark a n h).rows)) ∙ sum-total j n a children values g settled_row in
      let goes : turn_at (instr_at procs f) (task f sums) ≡ turn_at (Some (Wait d e g)) (task f sums) = ap (λ o. turn_at o (task f sums)) at in
      let after : Gives procs (after_wait (task f sums) d e g) (values n) (costs n) =
      rw so_far (let same : now procs j b values n ≡ task (write_and_step (record f { registers = slice_set f.registers d (total a n g) }) e (pos 1)) (slice_set sums g None) =
      rw (hands-same j n a b values values alike none (moved-regions j n a b moved n), free-none j n a values free, frame, sum 0, sum 1, sum 2, sum 3) (ap (task _) (waited_sums g low _ _ _ _)) in
      rw same at here) in
      let sum_count : costs n + (1 + count) ≡ costs n + 1 + count = omega arith in
      rw (free-none j n a values free, sum_count) (goes_back sums (values n) (costs n + 1) (gives_goes procs (task f sums) (after_wait (task f sums) d e g) (values n) (costs n) goes after)))
      leads
