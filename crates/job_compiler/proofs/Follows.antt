-- A frame that has come to where a function is does what the function does next.
use Rattle.std.proofs.Common.{◌≡◌, ℕ, ◌+◌, ◌<◌, ◌^◌, ℤ, pos, Bool, true, false, true≢false, if◌then◌else◌, List, [], ◌∷◌, ◌++◌, length, get_or, set, Option, Some, None, refl, sym, ap, subst}
use Rattle.std.proofs.Common.{◌∙◌, arith, inl}
use Rattle.std.proofs.Common.{inr, ltb-false, length-set, FitsSigned}
use Rattle.std.specs.Prelude.{nat_lt, slice_get, slice_set, slice_index_or}
use Rattle.std.specs.Int.{w64}
use Rattle.job_compiler.specs.Colours.{WritesBelow}
use Rattle.job_language.specs.declared.instructions.Instr.{Instr}
use Rattle.job_language.specs.declared.instructions.Instr.TheVariants as ins
use Rattle.job_step.specs.declared.frames.Frame.{Frame}
use Rattle.job_step.specs.declared.effects.Effect.TheVariants.{IsShared}
use Rattle.job_step.specs.Frame.{effect}
use Rattle.source_language.specs.declared.syntax.Expr.{Expr}
use Rattle.source_language.specs.declared.syntax.Test.{Test}
use Rattle.source_language.specs.declared.syntax.Stmt.{Stmt}
use Rattle.source_language.specs.declared.syntax.Stmt.TheVariants.{Skip, Then', Assign, If', Loop', Repeat', Break, Continue, Return, Make, Wait, Cancel, Read, Store}
use Rattle.source_language.specs.declared.syntax.Maker.{Maker}
use Rattle.source_language.specs.declared.syntax.Maker.TheVariants.{Spawn, Post, Isolate}
use Rattle.source_language.specs.declared.syntax.Question.{Question}
use Rattle.source_language.specs.declared.syntax.Question.TheVariants.{Cancelled, Cell, CellSum, CellCount}
use Rattle.source_language.specs.Meaning.{Returns, Stores, Todo, Do, Turn, Next, Point, Act, Does, next_turn, past_loop, with_value, with_test, goes, made_by, asked_by, put_into, act_of, act_on}
use Rattle.source_language.specs.Meaning.{answered, value_of, test_of}
use Rattle.job_compiler.specs.Within.{IsStmtWithin, IsMakerWithin}
use Rattle.job_compiler.specs.Code.{operand, operand_code, both_code, left_of, right_of, value_code, make_instr, read_instr}
use Rattle.job_compiler.specs.Code.{over_size, over_code, test_size, test_code, stmt_size, loop_test, loop_end, loop_label}
use Rattle.job_compiler.specs.Code.{after_of, next_of, register_for}
use Rattle.job_compiler.specs.Code.{stmt_code}
use Rattle.job_compiler.specs.declared.labels.Label.{Label}
use Rattle.job_compiler.specs.Operations.{operation_of, resumed}
use Rattle.job_compiler.proofs.Values.{FitsIf, value_fits}
use Rattle.job_compiler.proofs.Steps.{Agree, at, HasAt, has_front, has_back, Comes, comes_on, fails_on, stays, one_step, write, WritesIf, BringsIf, BringsBothIf, value_runs, operand_runs, both_run}
use Rattle.job_compiler.proofs.Conditions.{JumpsIf, test_runs, test_length}
use Rattle.job_compiler.proofs.Stands.{over_length, stmt_length, agree_written, agree_set, agree_put, put_long, Reaches, IsLoop, IsAt, past_place, next_place, Stands, Stops, Follows, continues}
use Rattle.job_compiler.proofs.Stands.{resumes_at}

abbrev pt : List ℤ → List Todo → Point
pt vars todo = record { vars = vars; todo = todo }

module _ (procs : List (List Instr)) (slot width p size n ret : ℕ) where
  abbrev Stood : Frame → Point → Type 0
  Stood f point = Stands procs slot width p size n ret f point

  abbrev Goes_on : (f : Frame) (point : Point) → Stands procs slot width p size n ret f point → Act → Type 0
  Goes_on f point s a = Follows procs slot width p size n ret f point s a

  assigned : (f : Frame) (vars : List ℤ) (rest : List Todo) (x : ℕ) (e : Expr) (s : Stood f (pt vars (Do (Assign x e) ∷ rest))) (o : Option ℤ) → FitsIf o
      → WritesIf procs slot width p size s.q (s.q + length (value_code e x n)) s.regs x n o → Goes_on f (pt vars (Do (Assign x e) ∷ rest)) s (with_value o (λ v. goes (slice_set vars x v) rest))
  assigned f vars rest x e s None fits w = fails_on procs slot width p size _ _ s.comes w
  assigned f vars rest x e s (Some v) fits w =
      let h = s.is_at in
      continues procs slot width p size n ret f _ (pt (set vars x v) rest) s s.labels h.2 w.regs' (comes_on procs slot width p size _ _ _ w.comes (h.3 w.regs')) h.4
      (agree_written size n x v vars s.regs w.regs' s.agree s.long h.0.0 w.long w.value w.kept fits) (length-set vars x v ∙ s.long) (inl (omega (arith, w.some)))

  -- the two sides of a choice, and how the first one ends
  record Sides (c : Test) (a b : Stmt) (labels : List Label) (q : ℕ) : Type 0 where
    first : HasAt procs slot width p size (q + test_size c false n) (stmt_code a n (q + test_size c false n) labels ret)
    over : HasAt procs slot width p size (q + test_size c false n + stmt_size a n)
        (over_code (stmt_size b n) (q + test_size c false n + stmt_size a n + over_size (stmt_size b n) + stmt_size b n))
    second : HasAt procs slot width p size (q + test_size c false n + stmt_size a n + over_size (stmt_size b n))
        (stmt_code b n (q + test_size c false n + stmt_size a n + over_size (stmt_size b n)) labels ret)

  sides : (c : Test) (a b : Stmt) (labels : List Label) (q other : ℕ) (co cb : List Instr)
      → HasAt procs slot width p size q (test_code c false other n q ++ (stmt_code a n (q + test_size c false n) labels ret ++ (co ++ cb)))
      → co ≡ over_code (stmt_size b n) (q + test_size c false n + stmt_size a n + over_size (stmt_size b n) + stmt_size b n)
      → cb ≡ stmt_code b n (q + test_size c false n + stmt_size a n + over_size (stmt_size b n)) labels ret → Sides c a b labels q
  sides c a b labels q other co cb has eo eb =
      let m = q + test_size c false n in
      let ct = test_code c false other n q in
      let ca = stmt_code a n m labels ret in
      let k = m + stmt_size a n in
      let h2 : HasAt procs slot width p size m (ca ++ (co ++ cb)) = subst (λ j. HasAt procs slot width p size j (ca ++ (co ++ cb))) (ap (λ j. q + j) (test_length c false other n q))
      (has_back procs slot width p size q ct _ has) in
      let h3 : HasAt procs slot width p size k (co ++ cb) = subst (λ j. HasAt procs slot width p size j (co ++ cb)) (ap (λ j. m + j) (stmt_length a n m labels ret))
      (has_back procs slot width p size m ca _ h2) in
      let lo : k + length co ≡ k + over_size (stmt_size b n) = ap (λ j. k + j) (ap length eo ∙ over_length (stmt_size b n) _) in
      let h4 : HasAt procs slot width p size (k + over_size (stmt_size b n)) cb = subst (λ j. HasAt procs slot width p size j cb) lo (has_back procs slot width p size k co cb h3) in
      record {
        first = has_front procs slot width p size m ca _ h2;
        over = subst (HasAt procs slot width p size k) eo (has_front procs slot width p size k co cb h3);
        second = subst (HasAt procs slot width p size (k + over_size (stmt_size b n))) eb h4;
      }

  -- behind the first side
  over_runs : (size_b k r : ℕ) → HasAt procs slot width p size k (over_code size_b (k + over_size size_b + size_b)) → Reaches procs slot width p size n ret (k + over_size size_b + size_b) r
      → Reaches procs slot width p size n ret k r
  over_runs size_b k r = by (nat_lt 0 size_b) refl
    where
      by : (t : Bool) → nat_lt 0 size_b ≡ t → HasAt procs slot width p size k (if t then ins.Jmp (k + (if t then 1 else 0) + size_b) ∷ [] else [])
          → Reaches procs slot width p size n ret (k + (if t then 1 else 0) + size_b) r → Reaches procs slot width p size n ret k r
      by true e has reaches = λ regs. comes_on procs slot width p size _ _ _ (one_step procs slot width p size k regs _ (at procs slot width p size (k + 1 + size_b) regs) has.0 refl) (reaches regs)
      by false e has reaches = let same : k + 0 + size_b ≡ k = omega (arith, ltb-false 0 size_b e) in subst (λ j. Reaches procs slot width p size n ret j r) same reaches

  module _ (c : Test) (a b : Stmt) (f : Frame) (vars : List ℤ) (rest : List Todo) (before : List Todo) (s : Stood f (pt vars before)) (two : Sides c a b s.labels s.q) (r : ℕ)
      (reaches : Reaches procs slot width p size n ret (s.q + (test_size c false n + stmt_size a n + over_size (stmt_size b n) + stmt_size b n)) r)
      (is_at : IsAt procs slot width p size n ret rest s.labels r) (wa : IsStmtWithin n a) (wb : IsStmtWithin n b) where
    behind : Reaches procs slot width p size n ret (s.q + test_size c false n + stmt_size a n + over_size (stmt_size b n) + stmt_size b n) r
    behind =
        let first = test_size c false n + stmt_size a n in
        let over = over_size (stmt_size b n) in
        let e1 : s.q + (first + over + stmt_size b n) ≡ s.q + test_size c false n + stmt_size a n + over + stmt_size b n = omega arith in
        subst (λ k. Reaches procs slot width p size n ret k r) e1 reaches

    chosen : (o : Option Bool) → JumpsIf procs slot width p size s.q (s.q + test_size c false n + stmt_size a n + over_size (stmt_size b n)) (s.q + test_size c false n) s.regs n false o
        → Goes_on f (pt vars before) s (with_test o (goes vars (Do a ∷ rest)) (goes vars (Do b ∷ rest)))
    chosen None j = fails_on procs slot width p size _ _ s.comes j
    chosen (Some true) j =
        let m = s.q + test_size c false n in
        let on : Reaches procs slot width p size n ret (m + stmt_size a n) r = over_runs (stmt_size b n) (m + stmt_size a n) r two.over behind in
        continues procs slot width p size n ret f _ (pt vars (Do a ∷ rest)) s s.labels m j.regs' j.comes (wa, two.first, r, on, is_at)
        (record { long = j.long; same = λ x low. j.kept x low ∙ s.agree.same x low; fit = s.agree.fit }) s.long (inl j.some)
    chosen (Some false) j =
        let other = s.q + test_size c false n + stmt_size a n + over_size (stmt_size b n) in
        continues procs slot width p size n ret f _ (pt vars (Do b ∷ rest)) s s.labels other j.regs' j.comes (wb, two.second, r, behind, is_at)
        (record { long = j.long; same = λ x low. j.kept x low ∙ s.agree.same x low; fit = s.agree.fit }) s.long (inl j.some)

  -- the parts of a loop
  record Parts (c : Test) (b s : Stmt) (labels : List Label) (q : ℕ) : Type 0 where
    body : HasAt procs slot width p size q (stmt_code b n q (loop_label c b s n q ∷ labels) ret)
    step : HasAt procs slot width p size (q + stmt_size b n) (stmt_code s n (q + stmt_size b n) labels ret)
    test : HasAt procs slot width p size (loop_test b s n q) (test_code c true q n (loop_test b s n q))

  parts : (c : Test) (b s : Stmt) (labels : List Label) (q : ℕ) → IsLoop procs slot width p size n ret c b s labels q → Parts c b s labels q
  parts c b s labels q loop =
      let m = q + stmt_size b n in
      let cb = stmt_code b n q (loop_label c b s n q ∷ labels) ret in
      let cs = stmt_code s n m labels ret in
      let ct = test_code c true q n (loop_test b s n q) in
      let h2 : HasAt procs slot width p size m (cs ++ ct) = subst (λ k. HasAt procs slot width p size k (cs ++ ct)) (ap (λ k. q + k) (stmt_length b n q (loop_label c b s n q ∷ labels) ret))
      (has_back procs slot width p size q cb _ loop.code) in
      let h3 : HasAt procs slot width p size (m + stmt_size s n) ct = subst (λ k. HasAt procs slot width p size k ct) (ap (λ k. m + k) (stmt_length s n m labels ret))
      (has_back procs slot width p size m cs _ h2) in
      record { body = has_front procs slot width p size q cb _ loop.code; step = has_front procs slot width p size m cs _ h2; test = h3 }

  turned : (c : Test) (b st : Stmt) (f : Frame) (vars : List ℤ) (rest : List Todo) (s : Stood f (pt vars (Turn c b st ∷ rest))) (o : Option Bool)
      → JumpsIf procs slot width p size s.q s.is_at.0 (loop_end c b st n s.is_at.0) s.regs n true o
      → Goes_on f (pt vars (Turn c b st ∷ rest)) s (with_test o (goes vars (Do b ∷ Next c b st ∷ rest)) (goes vars rest))
  turned c b st f vars rest s None j = fails_on procs slot width p size _ _ s.comes j
  turned c b st f vars rest s (Some true) j =
      let h = s.is_at in
      let l = h.0 in
      let all = parts c b st s.labels l h.1 in
      continues procs slot width p size n ret f _ (pt vars (Do b ∷ Next c b st ∷ rest)) s (loop_label c b st n l ∷ s.labels) l j.regs' j.comes
      (h.1.body, all.body, l + stmt_size b n, λ regs. stays procs slot width p size _, (l, s.labels, h.1, refl, refl, h.3, h.4, h.5))
      (record { long = j.long; same = λ x low. j.kept x low ∙ s.agree.same x low; fit = s.agree.fit }) s.long (inl j.some)
  turned c b st f vars rest s (Some false) j =
      let h = s.is_at in
      continues procs slot width p size n ret f _ (pt vars rest) s s.labels h.3 j.regs' (comes_on procs slot width p size _ _ _ j.comes (h.4 j.regs')) h.5
      (record { long = j.long; same = λ x low. j.kept x low ∙ s.agree.same x low; fit = s.agree.fit }) s.long (inl (omega (arith, j.some)))

  stepped : (c : Test) (b st : Stmt) (f : Frame) (vars : List ℤ) (rest : List Todo) (s : Stood f (pt vars (Next c b st ∷ rest)))
      → Goes_on f (pt vars (Next c b st ∷ rest)) s (goes vars (Do st ∷ Turn c b st ∷ rest))
  stepped c b st f vars rest s =
      let h = s.is_at in
      let l = h.0 in
      let m = l + stmt_size b n in
      let all = parts c b st h.1 l h.2 in
      let here : Comes procs slot width p size (at procs slot width p size s.q s.regs) (at procs slot width p size m s.regs) = subst
      (λ k. Comes procs slot width p size (at procs slot width p size s.q s.regs) (at procs slot width p size k s.regs)) h.3 (stays procs slot width p size _) in
      continues procs slot width p size n ret f _ (pt vars (Do st ∷ Turn c b st ∷ rest)) s h.1 m s.regs here
      (h.2.step, all.step, loop_test b st n l, λ regs. stays procs slot width p size _, (l, h.2, refl, h.5, h.6, h.7))
      s.agree s.long (inr (omega arith))

  -- a return, or the store of a cell
  module _ (f : Frame) (vars : List ℤ) (rest : List Todo) (e : Expr) (q1 r : ℕ) where
    returned : (s : Stood f (pt vars (Do (Return e) ∷ rest))) (o : Option ℤ) → slice_get (slice_index_or procs p []) q1 ≡ Some (ins.Ret r) → BringsIf procs slot width p size s.q q1 s.regs r n o
        → Goes_on f (pt vars (Do (Return e) ∷ rest)) s (with_value o (λ v. Does (Returns v)))
    returned s None here b = fails_on procs slot width p size _ _ s.comes b
    returned s (Some v) here b = record {
      last = at procs slot width p size q1 b.regs';
      comes = comes_on procs slot width p size _ _ _ s.comes b.comes;
      instr = ins.Ret r;
      there = here;
      shared = refl;
      asks = ap (λ z. Some (Returns z)) b.value;
      resumes = λ last x y fx fy. absurd (true≢false last);
    }

    stored : (k : ℕ) (s : Stood f (pt vars (Do (Store k e) ∷ rest))) (o : Option ℤ) → q1 ≡ s.q + length (operand_code e n) → slice_get (slice_index_or procs p []) q1 ≡ Some (ins.Store k r)
        → BringsIf procs slot width p size s.q q1 s.regs r n o → Goes_on f (pt vars (Do (Store k e) ∷ rest)) s (with_value o (λ v. Does (Stores k v)))
    stored k s None e1 here b = fails_on procs slot width p size _ _ s.comes b
    stored k s (Some v) e1 here b =
        let h = s.is_at in
        record {
          last = at procs slot width p size q1 b.regs';
          comes = comes_on procs slot width p size _ _ _ s.comes b.comes;
          instr = ins.Store k r;
          there = here;
          shared = refl;
          asks = ap (λ z. Some (Stores k z)) b.value;
          resumes = λ last x y fx fy. resumes_at procs slot width p size n ret vars rest s.labels (q1 + 1) (s.q + (length (operand_code e n) + 1)) h.2 b.regs' (omega (arith, e1)) h.3 h.4
              (record { long = b.long; same = λ z low. b.kept z low ∙ s.agree.same z low; fit = s.agree.fit }) s.long;
        }

  make_shared : (m : Maker) (pr a b : ℕ) (g : Frame) → effect (make_instr m pr a b) slot width g ≡ IsShared
  make_shared (Spawn g') pr a b g = refl
  make_shared Post pr a b g = refl
  make_shared (Isolate d) pr a b g = refl

  make_asks : (m : Maker) (pr a b q : ℕ) (regs : List ℤ) (x y : ℤ) → get_or regs a (pos 0) ≡ x → get_or regs b (pos 0) ≡ y
      → operation_of (make_instr m pr a b) (at procs slot width p size q regs) ≡ Some (made_by m pr x y)
  make_asks (Spawn g) pr a b q regs x y ex ey = rw (ex, ey) refl
  make_asks Post pr a b q regs x y ex ey = rw (ex, ey) refl
  make_asks (Isolate d) pr a b q regs x y ex ey = rw (ex, ey) refl

  read_shared : (d : ℕ) (k : Question) (g : Frame) → effect (read_instr d k) slot width g ≡ IsShared
  read_shared d Cancelled g = refl
  read_shared d (Cell k) g = refl
  read_shared d (CellSum k) g = refl
  read_shared d (CellCount k) g = refl

  read_asks : (d : ℕ) (k : Question) (g : Frame) → operation_of (read_instr d k) g ≡ Some (asked_by k)
  read_asks d Cancelled g = refl
  read_asks d (Cell k) g = refl
  read_asks d (CellSum k) g = refl
  read_asks d (CellCount k) g = refl

  module _ (valid : (k : ℕ) (i : Instr) → slice_get (slice_index_or procs p []) k ≡ Some i → WritesBelow size i) where
    make_resumes : (m : Maker) (pr : ℕ) (ea eb : Expr) (a b : ℕ) (vars : List ℤ) (rest : List Todo) (labels : List Label) (q1 q r : ℕ) (regs : List ℤ)
        → slice_get (slice_index_or procs p []) q1 ≡ Some (make_instr m pr a b) → q1 + 1 ≡ q → Reaches procs slot width p size n ret q r → IsAt procs slot width p size n ret rest labels r
        → Agree size n vars regs → length vars ≡ n → IsMakerWithin n m → (x y : ℤ) → FitsSigned w64 x
        → Stood (resumed (make_instr m pr a b) x y (at procs slot width p size q1 regs)) (answered (pt vars (Do (Make m pr ea eb) ∷ rest)) x y)
    make_resumes (Spawn g) pr ea eb a b vars rest labels q1 q r regs here e reaches is_at agree long within x y fx = resumes_at procs slot width p size n ret vars rest labels
        (q1 + 1) q r regs e reaches is_at agree long
    make_resumes Post pr ea eb a b vars rest labels q1 q r regs here e reaches is_at agree long within x y fx = resumes_at procs slot width p size n ret vars rest labels
        (q1 + 1) q r regs e reaches is_at agree long
    make_resumes (Isolate d) pr ea eb a b vars rest labels q1 q r regs here e reaches is_at agree long within x y fx =
        resumes_at procs slot width p size n ret (set vars d x) rest labels (q1 + 1) q r (set regs d x) e reaches is_at (agree_set size n d x vars regs agree long within (valid q1 _ here).0 fx)
        (length-set vars d x ∙ long)

    read_low : (d q1 : ℕ) (k : Question) → slice_get (slice_index_or procs p []) q1 ≡ Some (read_instr d k) → d < size
    read_low d q1 Cancelled here = (valid q1 _ here).0
    read_low d q1 (Cell k) here = (valid q1 _ here).0
    read_low d q1 (CellSum k) here = (valid q1 _ here).0
    read_low d q1 (CellCount k) here = (valid q1 _ here).0

    read_resumes : (d : ℕ) (k : Question) (vars : List ℤ) (rest : List Todo) (labels : List Label) (q1 r : ℕ) (regs : List ℤ) → slice_get (slice_index_or procs p []) q1 ≡ Some (read_instr d k)
        → Reaches procs slot width p size n ret (q1 + 1) r → IsAt procs slot width p size n ret rest labels r → Agree size n vars regs → length vars ≡ n → d < n → (x y : ℤ) → FitsSigned w64 x
        → Stood (resumed (read_instr d k) x y (at procs slot width p size q1 regs)) (answered (pt vars (Do (Read d k) ∷ rest)) x y)
    read_resumes d Cancelled vars rest labels q1 r regs here reaches is_at agree long within x y fx = resumes_at procs slot width p size n ret (set vars d x) rest labels (q1 + 1) (q1 + 1) r
        (set regs d x) refl reaches is_at (agree_set size n d x vars regs agree long within (read_low d q1 Cancelled here) fx) (length-set vars d x ∙ long)
    read_resumes d (Cell k) vars rest labels q1 r regs here reaches is_at agree long within x y fx = resumes_at procs slot width p size n ret (set vars d x) rest labels (q1 + 1) (q1 + 1) r
        (set regs d x) refl reaches is_at (agree_set size n d x vars regs agree long within (read_low d q1 (Cell k) here) fx) (length-set vars d x ∙ long)
    read_resumes d (CellSum k) vars rest labels q1 r regs here reaches is_at agree long within x y fx = resumes_at procs slot width p size n ret (set vars d x) rest labels (q1 + 1) (q1 + 1) r
        (set regs d x) refl reaches is_at (agree_set size n d x vars regs agree long within (read_low d q1 (CellSum k) here) fx) (length-set vars d x ∙ long)
    read_resumes d (CellCount k) vars rest labels q1 r regs here reaches is_at agree long within x y fx = resumes_at procs slot width p size n ret (set vars d x) rest labels (q1 + 1) (q1 + 1) r
        (set regs d x) refl reaches is_at (agree_set size n d x vars regs agree long within (read_low d q1 (CellCount k) here) fx) (length-set vars d x ∙ long)

    module _ (f : Frame) (vars : List ℤ) (rest : List Todo) (m : Maker) (pr : ℕ) (ea eb : Expr) (s : Stood f (pt vars (Do (Make m pr ea eb) ∷ rest))) where
      abbrev q1 : ℕ
      q1 = s.q + length (both_code ea eb n)

      abbrev ra : ℕ
      ra = left_of ea eb n

      abbrev rb : ℕ
      rb = right_of ea eb n

      made : (oa ob : Option ℤ) → BringsBothIf procs slot width p size s.q q1 s.regs ra rb n oa ob → slice_get (slice_index_or procs p []) q1 ≡ Some (make_instr m pr ra rb)
          → Goes_on f (pt vars (Do (Make m pr ea eb) ∷ rest)) s (with_value oa (λ x. with_value ob (λ y. Does (made_by m pr x y))))
      made None ob both here = fails_on procs slot width p size _ _ s.comes both
      made (Some x) None both here = fails_on procs slot width p size _ _ s.comes both
      made (Some x) (Some y) both here =
          let h = s.is_at in
          let agree : Agree size n vars both.regs' = record { long = both.long; same = λ z lz. both.kept z lz ∙ s.agree.same z lz; fit = s.agree.fit } in
          record {
            last = at procs slot width p size q1 both.regs';
            comes = comes_on procs slot width p size _ _ _ s.comes both.comes;
            instr = make_instr m pr ra rb;
            there = here;
            shared = make_shared m pr ra rb _;
            asks = make_asks m pr ra rb q1 both.regs' x y both.left both.right;
            resumes = λ last z w fz fw. make_resumes m pr ea eb ra rb vars rest s.labels q1 (s.q + (length (both_code ea eb n) + 1)) h.2 both.regs' here
                (omega arith) h.3 h.4 agree s.long h.0.0 z w fz;
          }

    module _ (low_slot : slot < 2 ^ 8) (low_width : width < 2 ^ 8) (ends : HasAt procs slot width p size ret (ins.Set 0 (pos 0) ∷ ins.Ret 0 ∷ [])) where
      follows_stmt : (st : Stmt) (f : Frame) (vars : List ℤ) (rest : List Todo) (s : Stood f (pt vars (Do st ∷ rest))) → Goes_on f (pt vars (Do st ∷ rest)) s (act_of st slot width vars rest)
      follows_stmt Skip f vars rest s =
          let h = s.is_at in
          let e : s.q + 0 ≡ s.q = omega arith in
          continues procs slot width p size n ret f _ (pt vars rest) s s.labels h.2 s.regs
          (subst (λ k. Comes procs slot width p size (at procs slot width p size k s.regs) (at procs slot width p size h.2 s.regs)) e (h.3 s.regs)) h.4 s.agree s.long (inr (omega arith))
      follows_stmt (Then' pa a pb b) f vars rest s =
          let h = s.is_at in
          let ca = stmt_code a n s.q s.labels ret in
          let la : s.q + length ca ≡ s.q + stmt_size a n = ap (λ k. s.q + k) (stmt_length a n s.q s.labels ret) in
          let e : s.q + (stmt_size a n + stmt_size b n) ≡ s.q + stmt_size a n + stmt_size b n = omega arith in
          let cb = stmt_code b n (s.q + stmt_size a n) s.labels ret in
          let at_b : HasAt procs slot width p size (s.q + stmt_size a n) cb = subst (λ k. HasAt procs slot width p size k cb) la (has_back procs slot width p size s.q ca cb h.1) in
          continues procs slot width p size n ret f _ (pt vars (Do a ∷ Do b ∷ rest)) s s.labels s.q s.regs (stays procs slot width p size _) (
            h.0.0,
            has_front procs slot width p size s.q ca cb h.1,
            s.q + stmt_size a n,
            λ regs. stays procs slot width p size _,
            (h.0.1, at_b, h.2, subst (λ k. Reaches procs slot width p size n ret k h.2) e h.3, h.4),
          )
          s.agree s.long (inr (omega arith))
      follows_stmt (Assign x e) f vars rest s =
          let h = s.is_at in
          assigned f vars rest x e s (value_of e slot width vars) (value_fits e n slot width vars low_slot low_width h.0.1 s.agree.fit)
          (value_runs procs slot width p size valid low_slot low_width e n x n s.q vars s.regs h.0.1 (omega arith) s.agree h.1)
      follows_stmt (If' c pa a pb b) f vars rest s =
          let h = s.is_at in
          let other = s.q + test_size c false n + stmt_size a n + over_size (stmt_size b n) in
          chosen c a b f vars rest (Do (If' c pa a pb b) ∷ rest) s (sides c a b s.labels s.q other _ _ h.1 refl refl) h.2 h.3 h.4 h.0.1 h.0.2 (test_of c slot width vars)
          (test_runs procs slot width p size valid low_slot low_width c false n other n s.q vars s.regs h.0.0 (omega arith) s.agree
          (has_front procs slot width p size s.q (test_code c false other n s.q) _ h.1))
      follows_stmt (Loop' c pb b ps st) f vars rest s =
          let h = s.is_at in
          let k = s.q + 1 in
          let e : s.q + (1 + (stmt_size b n + stmt_size st n + test_size c true n)) ≡ loop_end c b st n k = omega arith in
          continues procs slot width p size n ret f _ (pt vars (Turn c b st ∷ rest)) s s.labels (loop_test b st n k) s.regs
          (one_step procs slot width p size s.q s.regs _ (at procs slot width p size (loop_test b st n k) s.regs) h.1.0 refl)
          (k, record { test = h.0.0; body = h.0.1; step = h.0.2; code = h.1.1 }, refl, h.2, subst (λ z. Reaches procs slot width p size n ret z h.2) e h.3, h.4) s.agree s.long (inl (omega arith))
      follows_stmt (Repeat' c pb b ps st) f vars rest s =
          let h = s.is_at in
          let e : s.q + (stmt_size b n + stmt_size st n + test_size c true n) ≡ loop_end c b st n s.q = omega arith in
          let loop : IsLoop procs slot width p size n ret c b st s.labels s.q = record { test = h.0.0; body = h.0.1; step = h.0.2; code = h.1 } in
          let all = parts c b st s.labels s.q loop in
          continues procs slot width p size n ret f _ (pt vars (Do b ∷ Next c b st ∷ rest)) s (loop_label c b st n s.q ∷ s.labels) s.q s.regs (stays procs slot width p size _) (
            h.0.1,
            all.body,
            s.q + stmt_size b n,
            λ regs. stays procs slot width p size _,
            (s.q, s.labels, loop, refl, refl, h.2, subst (λ z. Reaches procs slot width p size n ret z h.2) e h.3, h.4),
          ) s.agree s.long (inr (omega arith))
      follows_stmt (Break k) f vars rest s =
          let h = s.is_at in
          let to = after_of (slice_get s.labels k) ret in
          let there = past_place procs slot width p size n ret rest k s.labels h.2 h.4 in
          continues procs slot width p size n ret f _ (pt vars (past_loop rest k)) s there.labels there.q s.regs
          (comes_on procs slot width p size _ _ _ (one_step procs slot width p size s.q s.regs _ (at procs slot width p size to s.regs) h.1.0 refl) (there.reaches s.regs)) there.is_at s.agree
          s.long (inl (omega arith))
      follows_stmt (Continue k) f vars rest s =
          let h = s.is_at in
          let to = next_of (slice_get s.labels k) ret in
          let there = next_place procs slot width p size n ret rest k s.labels h.2 h.4 in
          continues procs slot width p size n ret f _ (pt vars (next_turn rest k)) s there.labels there.q s.regs
          (comes_on procs slot width p size _ _ _ (one_step procs slot width p size s.q s.regs _ (at procs slot width p size to s.regs) h.1.0 refl) (there.reaches s.regs)) there.is_at s.agree
          s.long (inl (omega arith))
      follows_stmt (Return e) f vars rest s =
          let h = s.is_at in
          let ce = operand_code e n in
          returned f vars rest e (s.q + length ce) (operand e n) s (value_of e slot width vars) (has_back procs slot width p size s.q ce _ h.1).0
          (operand_runs procs slot width p size valid low_slot low_width e n n s.q vars s.regs h.0 (omega arith) s.agree (has_front procs slot width p size s.q ce _ h.1))
      follows_stmt (Store k e) f vars rest s =
          let h = s.is_at in
          let ce = operand_code e n in
          stored f vars rest e (s.q + length ce) (operand e n) k s (value_of e slot width vars) refl (has_back procs slot width p size s.q ce _ h.1).0
          (operand_runs procs slot width p size valid low_slot low_width e n n s.q vars s.regs h.0 (omega arith) s.agree (has_front procs slot width p size s.q ce _ h.1))
      follows_stmt (Make m pr a b) f vars rest s =
          let h = s.is_at in
          let code = both_code a b n in
          made f vars rest m pr a b s (value_of a slot width vars) (value_of b slot width vars)
          (both_run procs slot width p size valid low_slot low_width a b n n s.q vars s.regs h.0.1 h.0.2 (omega arith) s.agree (has_front procs slot width p size s.q code _ h.1))
          (has_back procs slot width p size s.q code _ h.1).0
      follows_stmt (Wait d e g) f vars rest s =
          let h = s.is_at in
          let low = valid s.q _ h.1.0 in
          let rd = register_for d n in
          let re = register_for e n in
          record {
            last = at procs slot width p size s.q s.regs;
            comes = s.comes;
            instr = ins.Wait rd re g;
            there = h.1.0;
            shared = refl;
            asks = refl;
            resumes = λ last x y fx fy. resumes_at procs slot width p size n ret (put_into e y (put_into d x vars)) rest s.labels (s.q + 1) (s.q + 1) h.2 (set (set s.regs rd x) re y) refl h.3 h.4
                (agree_put size n e y (put_into d x vars) (set s.regs rd x) (agree_put size n d x vars s.regs s.agree s.long h.0.0 low.0 fx) (put_long d x vars ∙ s.long) h.0.1 low.1.0 fy)
                (put_long e y (put_into d x vars) ∙ put_long d x vars ∙ s.long);
          }
      follows_stmt (Cancel g) f vars rest s =
          let h = s.is_at in
          record {
            last = at procs slot width p size s.q s.regs;
            comes = s.comes;
            instr = ins.Cancel g;
            there = h.1.0;
            shared = refl;
            asks = refl;
            resumes = λ last x y fx fy. resumes_at procs slot width p size n ret vars rest s.labels (s.q + 1) (s.q + 1) h.2 s.regs refl h.3 h.4 s.agree s.long;
          }
      follows_stmt (Read d k) f vars rest s =
          let h = s.is_at in
          record {
            last = at procs slot width p size s.q s.regs;
            comes = s.comes;
            instr = read_instr d k;
            there = h.1.0;
            shared = read_shared d k _;
            asks = read_asks d k _;
            resumes = λ last x y fx fy. read_resumes d k vars rest s.labels s.q h.2 s.regs h.1.0 h.3 h.4 s.agree s.long h.0 x y fx;
          }

      -- the end of the function
      ended : (f : Frame) (vars : List ℤ) (s : Stood f (pt vars [])) → Stops procs slot width p size n ret f (pt vars []) (Returns (pos 0))
      ended f vars s =
          let h = s.is_at in
          let w = write procs slot width p size ret 0 n s.regs (ins.Set 0 (pos 0)) (pos 0) ends.0 refl (valid ret _ ends.0).0 s.agree.long in
          let here : Comes procs slot width p size (at procs slot width p size s.q s.regs) (at procs slot width p size ret s.regs) = subst
          (λ k. Comes procs slot width p size (at procs slot width p size s.q s.regs) (at procs slot width p size k s.regs)) h.0 (stays procs slot width p size _) in
          record {
            last = at procs slot width p size (ret + 1) w.regs';
            comes = comes_on procs slot width p size _ _ _ s.comes (comes_on procs slot width p size _ _ _ here w.comes);
            instr = ins.Ret 0;
            there = ends.1.0;
            shared = refl;
            asks = ap (λ z. Some (Returns z)) w.value;
            resumes = λ last x y fx fy. absurd (true≢false last);
          }

      pub follows : (f : Frame) (vars : List ℤ) (todo : List Todo) (s : Stands procs slot width p size n ret f (record { vars = vars; todo = todo }))
          → Follows procs slot width p size n ret f (record { vars = vars; todo = todo }) s (act_on slot width vars todo)
      follows f vars [] s = ended f vars s
      follows f vars (Do st ∷ rest) s = follows_stmt st f vars rest s
      follows f vars (Turn c b st ∷ rest) s =
          let h = s.is_at in
          let l = h.0 in
          let all = parts c b st s.labels l h.1 in
          turned c b st f vars rest s (test_of c slot width vars) (subst (λ k. JumpsIf procs slot width p size k l (loop_end c b st n l) s.regs n true (test_of c slot width vars)) (sym h.2)
          (test_runs procs slot width p size valid low_slot low_width c true n l n (loop_test b st n l) vars s.regs h.1.test (omega arith) s.agree all.test))
      follows f vars (Next c b st ∷ rest) s = stepped c b st f vars rest s
