-- A frame has come to where a function is.
use Rattle.std.proofs.Common.{◌≡◌, ℕ, zero, suc, ◌+◌, ◌<◌, ◌≤◌, ◌⊎◌, ℤ, pos, Bool, true, false, if◌then◌else◌, List, [], ◌∷◌, ◌++◌, length, get_or, set, Option, Some, None, refl, sym, subst, ◌∙◌}
use Rattle.std.proofs.Common.{arith, ⊎_elim, inl, inr}
use Rattle.std.proofs.Common.{length-append, length-set, get_or-set_same, get_or-set_other, FitsSigned}
use Rattle.std.specs.Prelude.{nat_lt, slice_get}
use Rattle.std.specs.Int.{w64}
use Rattle.std.proofs.lemmas.Bool.{cases_eq}
use Rattle.job_language.specs.declared.instructions.Instr.{Instr}
use Rattle.job_language.specs.declared.instructions.Instr.TheVariants as instr
use Rattle.job_step.specs.declared.frames.Frame.{Frame}
use Rattle.job_step.specs.declared.effects.Effect.TheVariants.{IsShared}
use Rattle.job_step.specs.Frame.{instr_at, effect}
use Rattle.source_language.specs.declared.syntax.Test.{Test}
use Rattle.source_language.specs.declared.syntax.Stmt.{Stmt}
use Rattle.source_language.specs.declared.syntax.Stmt.TheVariants.{Skip, Then', Assign, If', Loop', Repeat', Break, Continue, Return, Make, Wait, Cancel, Read, Store}
use Rattle.source_language.specs.Meaning.{Operation, Todo, Do, Turn, Next, Point, Act, Goes, Divides, Does, next_turn, past_loop, put_into, answered}
use Rattle.job_compiler.specs.Within.{IsTestWithin, IsStmtWithin, IsOneWithin}
use Rattle.job_compiler.specs.Code.{operand, operand_code, both_code, left_of, right_of, make_instr}
use Rattle.job_compiler.specs.Code.{over_size, over_code, test_size, test_code, stmt_size, loop_test, loop_end, loop_label, after_of, next_of, loop_code}
use Rattle.job_compiler.specs.Code.{register_for, stmt_code}
use Rattle.job_compiler.specs.declared.labels.Label.{Label}
use Rattle.job_compiler.specs.Operations.{operation_of, resumed}
use Rattle.job_compiler.specs.Traces.{is_return}
use Rattle.job_compiler.proofs.Steps.{AreKept, Agree, at, HasAt, Comes, Fails, comes_on, stays}
use Rattle.job_compiler.proofs.Conditions.{test_length}

pub loop_length : (cb cs ct : List Instr) (b s t : ℕ) → length cb ≡ b → length cs ≡ s → length ct ≡ t → length (loop_code cb cs ct) ≡ b + s + t
loop_length cb cs ct b s t lb ls lt = omega (arith, lb, ls, lt, length-append cb (cs ++ ct), length-append cs ct)

one_or_none : (b : Bool) (i : Instr) → length (if b then i ∷ [] else []) ≡ (if b then 1 else 0)
one_or_none true i = refl
one_or_none false i = refl

pub over_length : (size to : ℕ) → length (over_code size to) ≡ over_size size
over_length size to = one_or_none (nat_lt 0 size) (instr.Jmp to)

pub stmt_length : (s : Stmt) (t at : ℕ) (labels : List Label) (ret : ℕ) → length (stmt_code s t at labels ret) ≡ stmt_size s t
stmt_length Skip t at labels ret = refl
stmt_length (Then' p a q b) t at labels ret =
    let la : length (stmt_code a t at labels ret) ≡ stmt_size a t = stmt_length a t at labels ret in
    let lb : length (stmt_code b t (at + stmt_size a t) labels ret) ≡ stmt_size b t = stmt_length b t (at + stmt_size a t) labels ret in
    omega (arith, la, lb, length-append (stmt_code a t at labels ret) (stmt_code b t (at + stmt_size a t) labels ret))
stmt_length (Assign x e) t at labels ret = refl
stmt_length (If' c p a q b) t at labels ret =
    let m = at + test_size c false t in
    let other = m + stmt_size a t + over_size (stmt_size b t) in
    let ct = test_code c false other t at in
    let ca = stmt_code a t m labels ret in
    let co = over_code (stmt_size b t) (other + stmt_size b t) in
    let cb = stmt_code b t other labels ret in
    let lt : length ct ≡ test_size c false t = test_length c false other t at in
    let la : length ca ≡ stmt_size a t = stmt_length a t m labels ret in
    let lo : length co ≡ over_size (stmt_size b t) = over_length (stmt_size b t) (other + stmt_size b t) in
    let lb : length cb ≡ stmt_size b t = stmt_length b t other labels ret in
    omega (arith, lt, la, lo, lb, length-append ct (ca ++ (co ++ cb)), length-append ca (co ++ cb), length-append co cb)
stmt_length (Loop' c p b q s) t at labels ret =
    let k = at + 1 in
    let l = loop_length _ _ _ (stmt_size b t) (stmt_size s t) (test_size c true t) (stmt_length b t k (loop_label c b s t k ∷ labels) ret) (stmt_length s t (k + stmt_size b t) labels ret)
    (test_length c true k t (loop_test b s t k)) in
    omega (arith, l)
stmt_length (Repeat' c p b q s) t at labels ret =
    loop_length _ _ _ (stmt_size b t) (stmt_size s t) (test_size c true t) (stmt_length b t at (loop_label c b s t at ∷ labels) ret) (stmt_length s t (at + stmt_size b t) labels ret)
    (test_length c true at t (loop_test b s t at))
stmt_length (Break k) t at labels ret = refl
stmt_length (Continue k) t at labels ret = refl
stmt_length (Return e) t at labels ret = length-append (operand_code e t) (instr.Ret (operand e t) ∷ [])
stmt_length (Make m p a b) t at labels ret = length-append (both_code a b t) (make_instr m p (left_of a b t) (right_of a b t) ∷ [])
stmt_length (Wait d e g) t at labels ret = refl
stmt_length (Cancel g) t at labels ret = refl
stmt_length (Read d q) t at labels ret = refl
stmt_length (Store k e) t at labels ret = length-append (operand_code e t) (instr.Store k (operand e t) ∷ [])

-- how much is left to be done before the code has to move
abbrev pub stmt_weight : Stmt → ℕ
stmt_weight (Then' p a q b) = 1 + stmt_weight a + stmt_weight b
stmt_weight (Repeat' c p b q s) = 3 + stmt_weight b + stmt_weight s
stmt_weight s = 1

abbrev pub weight : List Todo → ℕ
weight [] = 0
weight (Do s ∷ todo) = stmt_weight s + weight todo
weight (Turn c b s ∷ todo) = 1 + weight todo
weight (Next c b s ∷ todo) = 2 + stmt_weight s + weight todo

-- a variable and its register are written
pub agree_written : (size n d : ℕ) (v : ℤ) (vars regs regs' : List ℤ) → Agree size n vars regs → length vars ≡ n → d < n → length regs' ≡ size → get_or regs' d (pos 0) ≡ v → AreKept n d regs regs'
    → FitsSigned w64 v → Agree size n (set vars d v) regs'
agree_written size n d v vars regs regs' agree long low long' value kept fits = record {
  long = long';
  same = λ x below. ⊎_elim
      (λ e. subst (λ k. get_or regs' k (pos 0) ≡ get_or (set vars d v) k (pos 0)) (sym e) (value ∙ sym (get_or-set_same vars d v (pos 0) (omega (arith, low, long)))))
      (λ ne. kept x below ne ∙ agree.same x below ∙ sym (get_or-set_other vars d x v (pos 0) ne))
      (cases_eq x d);
  fit = λ x. ⊎_elim
      (λ e. subst (λ k. FitsSigned w64 (get_or (set vars d v) k (pos 0))) (sym e) (subst (FitsSigned w64) (sym (get_or-set_same vars d v (pos 0) (omega (arith, low, long)))) fits))
      (λ ne. subst (FitsSigned w64) (sym (get_or-set_other vars d x v (pos 0) ne)) (agree.fit x))
      (cases_eq x d);
}

pub agree_set : (size n d : ℕ) (v : ℤ) (vars regs : List ℤ) → Agree size n vars regs → length vars ≡ n → d < n → d < size → FitsSigned w64 v → Agree size n (set vars d v) (set regs d v)
agree_set size n d v vars regs agree long low within fits =
    agree_written size n d v vars regs (set regs d v) agree long low (length-set regs d v ∙ agree.long) (get_or-set_same regs d v (pos 0) (omega (arith, within, agree.long)))
    (λ r below other. get_or-set_other regs d r v (pos 0) other) fits

-- what was answered goes to a variable and its register, or to a register that is free
pub agree_put : (size n : ℕ) (o : Option ℕ) (v : ℤ) (vars regs : List ℤ) → Agree size n vars regs → length vars ≡ n → IsOneWithin n o → register_for o n < size → FitsSigned w64 v
    → Agree size n (put_into o v vars) (set regs (register_for o n) v)
agree_put size n (Some d) v vars regs agree long low within fits = agree_set size n d v vars regs agree long low within fits
agree_put size n None v vars regs agree long low within fits = record {
  long = length-set regs n v ∙ agree.long;
  same = λ x below. get_or-set_other regs n x v (pos 0) (omega (arith, below)) ∙ agree.same x below;
  fit = agree.fit;
}

pub put_long : (o : Option ℕ) (v : ℤ) (vars : List ℤ) → length (put_into o v vars) ≡ length vars
put_long None v vars = refl
put_long (Some d) v vars = length-set vars d v

module _ (procs : List (List Instr)) (slot width p size n ret : ℕ) where
  -- whatever the registers are
  abbrev pub Reaches : ℕ → ℕ → Type 0
  Reaches pc pc' = (regs : List ℤ) → Comes procs slot width p size (at procs slot width p size pc regs) (at procs slot width p size pc' regs)

  -- a loop stands in the code, with its body at q
  pub record IsLoop (c : Test) (b s : Stmt) (labels : List Label) (q : ℕ) : Type 0 where
    pub test : IsTestWithin n c
    pub body : IsStmtWithin n b
    pub step : IsStmtWithin n s
    pub code : HasAt procs slot width p size q (loop_code (stmt_code b n q (loop_label c b s n q ∷ labels) ret) (stmt_code s n (q + stmt_size b n) labels ret)
        (test_code c true q n (loop_test b s n q)))

  -- the code does what is left to be done, from a place, in loops with these labels
  abbrev pub IsAt : List Todo → (labels : List Label) → (q : ℕ) → Type 0
  IsAt [] labels q = (q ≡ ret) × (labels ≡ [])
  IsAt (Do s ∷ todo) labels q = IsStmtWithin n s × HasAt procs slot width p size q (stmt_code s n q labels ret) × (r : ℕ) × Reaches (q + stmt_size s n) r × IsAt todo labels r
  IsAt (Turn c b s ∷ todo) labels q = (l : ℕ) × IsLoop c b s labels l × (q ≡ loop_test b s n l) × (r : ℕ) × Reaches (loop_end c b s n l) r × IsAt todo labels r
  IsAt (Next c b s ∷ todo) labels q =
      (l : ℕ) × (outer : List Label) × IsLoop c b s outer l × (q ≡ l + stmt_size b n) × (labels ≡ loop_label c b s n l ∷ outer) × (r : ℕ) × Reaches (loop_end c b s n l) r × IsAt todo outer r

  -- where something is, with the labels there
  pub record Place (from : ℕ) (todo : List Todo) : Type 0 where
    pub labels : List Label
    pub q : ℕ
    pub reaches : Reaches from q
    pub is_at : IsAt todo labels q

  pub past_place : (todo : List Todo) (k : ℕ) (labels : List Label) (q : ℕ) → IsAt todo labels q → Place (after_of (slice_get labels k) ret) (past_loop todo k)
  past_place [] k labels q h = record {
    labels = [];
    q = ret;
    reaches = subst (λ ls. Reaches (after_of (slice_get ls k) ret) ret) (sym h.1) (λ regs. stays procs slot width p size _);
    is_at =
        (refl, refl);
  }
  past_place (Do s ∷ todo) k labels q h = past_place todo k labels h.2 h.4
  past_place (Turn c b s ∷ todo) k labels q h = past_place todo k labels h.3 h.5
  past_place (Next c b s ∷ todo) zero labels q h = record { labels = h.1; q = h.5; reaches = subst (λ ls. Reaches (after_of (slice_get ls 0) ret) h.5) (sym h.4) h.6; is_at = h.7 }
  past_place (Next c b s ∷ todo) (suc k) labels q h = subst (λ ls. Place (after_of (slice_get ls (suc k)) ret) (past_loop todo k)) (sym h.4) (past_place todo k h.1 h.5 h.7)

  pub next_place : (todo : List Todo) (k : ℕ) (labels : List Label) (q : ℕ) → IsAt todo labels q → Place (next_of (slice_get labels k) ret) (next_turn todo k)
  next_place [] k labels q h = record {
    labels = [];
    q = ret;
    reaches = subst (λ ls. Reaches (next_of (slice_get ls k) ret) ret) (sym h.1) (λ regs. stays procs slot width p size _);
    is_at =
        (refl, refl);
  }
  next_place (Do s ∷ todo) k labels q h = next_place todo k labels h.2 h.4
  next_place (Turn c b s ∷ todo) k labels q h = next_place todo k labels h.3 h.5
  next_place (Next c b s ∷ todo) zero labels q h = record {
    labels = labels;
    q = q;
    reaches = subst (λ ls. Reaches (next_of (slice_get ls 0) ret) q) (sym h.4) (subst (λ k. Reaches k q) h.3 (λ regs. stays procs slot width p size _));
    is_at = h;
  }
  next_place (Next c b s ∷ todo) (suc k) labels q h = subst (λ ls. Place (next_of (slice_get ls (suc k)) ret) (next_turn todo k)) (sym h.4) (next_place todo k h.1 h.5 h.7)

  -- a frame gets to where a function is
  pub record Stands (f : Frame) (point : Point) : Type 0 where
    pub labels : List Label
    pub q : ℕ
    pub regs : List ℤ
    pub comes : Comes procs slot width p size f (at procs slot width p size q regs)
    pub is_at : IsAt point.todo labels q
    pub agree : Agree size n point.vars regs
    pub long : length point.vars ≡ n

  -- the function goes on, and the frame comes there too
  pub record Continues (f : Frame) (point next_point : Point) (s : Stands f point) : Type 0 where
    pub next : Stands f next_point
    pub progress : (s.comes.steps < next.comes.steps) ⊎ ((s.comes.steps ≤ next.comes.steps) × (weight next_point.todo < weight point.todo))

  -- the frame reaches the operation, and goes on from there as the function does
  pub record Stops (f : Frame) (point : Point) (o : Operation) : Type 0 where
    pub last : Frame
    pub comes : Comes procs slot width p size f last
    pub instr : Instr
    pub there : instr_at procs last ≡ Some instr
    pub shared : effect instr slot width last ≡ IsShared
    pub asks : operation_of instr last ≡ Some o
    pub resumes : is_return o ≡ false → (x y : ℤ) → FitsSigned w64 x → FitsSigned w64 y → Stands (resumed instr x y last) (answered point x y)

  abbrev pub Follows : (f : Frame) (point : Point) → Stands f point → Act → Type 0
  Follows f point s (Goes next) = Continues f point next s
  Follows f point s Divides = Fails procs slot width p size f
  Follows f point s (Does o) = Stops f point o

  pub continues : (f : Frame) (point next : Point) (s : Stands f point) (labels : List Label) (q : ℕ) (regs : List ℤ)
      (c : Comes procs slot width p size (at procs slot width p size s.q s.regs) (at procs slot width p size q regs)) → IsAt next.todo labels q → Agree size n next.vars regs → length next.vars
      ≡ n → (0 < c.steps) ⊎ (weight next.todo < weight point.todo) → Continues f point next s
  continues f point next s labels q regs c is_at agree long progress = record {
    next = record { labels = labels; q = q; regs = regs; comes = comes_on procs slot width p size _ _ _ s.comes c; is_at = is_at; agree = agree; long = long };
    progress = ⊎_elim (λ h. inl (omega (arith, h))) (λ h. inr (omega arith, h)) progress;
  }

  -- after an operation
  pub resumes_at : (vars : List ℤ) (todo : List Todo) (labels : List Label) (from q r : ℕ) (regs : List ℤ) → from ≡ q → Reaches q r → IsAt todo labels r → Agree size n vars regs → length vars ≡ n
      → Stands (at procs slot width p size from regs) (record { vars = vars; todo = todo })
  resumes_at vars todo labels from q r regs e reaches is_at agree long =
      record {
        labels = labels;
        q = r;
        regs = regs;
        comes = subst (λ k. Comes procs slot width p size (at procs slot width p size k regs) (at procs slot width p size r regs)) (sym e)
            (reaches regs);
        is_at = is_at;
        agree = agree;
        long = long;
      }
