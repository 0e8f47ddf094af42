-- How a frame of a procedure goes on, and what the code of an expression and of a condition does.
use Rattle.std.proofs.Common.{◌≡◌, ◌≢◌, ℕ, zero, suc, ◌+◌, ◌<◌, ◌≤◌, ◌^◌, ℤ, pos, negsuc, Bool, true, false, List, [], ◌∷◌, ◌++◌, length, get_or, Option, Some, None, refl, ap, subst, ◌∙◌, arith}
use Rattle.std.proofs.Common.{length-append}
use Rattle.std.proofs.Common.{length-set, get_or-set_same, get_or-set_other, FitsSigned}
use Rattle.std.specs.Prelude.{slice_get, slice_set, slice_index_or, option_and_then}
use Rattle.std.specs.Int.{int_bit_or, w64}
use Rattle.job_compiler.specs.Colours.{WritesBelow}
use Rattle.job_language.specs.declared.instructions.Instr.{Instr}
use Rattle.job_language.specs.declared.instructions.Instr.TheVariants as instr
use Rattle.job_step.specs.declared.frames.Frame.{Frame}
use Rattle.job_step.specs.declared.effects.Effect.TheVariants.{Moves, DividesByZero}
use Rattle.job_step.specs.Frame.{instr_at, effect, write_and_step}
use Rattle.job_step.specs.Least.{next_of, frame_after}
use Rattle.source_language.specs.declared.syntax.Operator.{Operator}
use Rattle.source_language.specs.declared.syntax.Operator.TheVariants.{Plus, Minus, Times, Over, Remainder, BitAnd, BitOr, BitXor, ShiftLeft, ShiftRight, Below, AtMost, Equal}
use Rattle.source_language.specs.declared.syntax.Expr.{Expr}
use Rattle.source_language.specs.declared.syntax.Expr.TheVariants.{Number, Variable, Slot, Width, Two'}
use Rattle.source_language.specs.Meaning.{result_of, on_both, value_of}
use Rattle.job_compiler.specs.Within.{IsWithin}
use Rattle.job_compiler.specs.Code.{op_instr, operand, above, is_right_first, left_free, right_free, in_order, value_code, operand_code, both_code, left_of, right_of}
use Rattle.job_compiler.proofs.Numbers.{or_same}

-- registers below t, but for one, are the same
abbrev pub AreKept : (t but : ℕ) → List ℤ → List ℤ → Type 0
AreKept t but regs regs' = (r : ℕ) → r < t → r ≢ but → get_or regs' r (pos 0) ≡ get_or regs r (pos 0)

abbrev pub AreAllKept : (t : ℕ) → List ℤ → List ℤ → Type 0
AreAllKept t regs regs' = (r : ℕ) → r < t → get_or regs' r (pos 0) ≡ get_or regs r (pos 0)

-- the variables are in the first n registers
pub record Agree (size n : ℕ) (vars regs : List ℤ) : Type 0 where
  pub long : length regs ≡ size
  pub same : (x : ℕ) → x < n → get_or regs x (pos 0) ≡ get_or vars x (pos 0)
  pub fit : (x : ℕ) → FitsSigned w64 (get_or vars x (pos 0))

module _ (procs : List (List Instr)) (slot width p size : ℕ) where
  abbrev pub code : List Instr
  code = slice_index_or procs p []

  -- the frame at a place, with these registers
  abbrev pub at : ℕ → List ℤ → Frame
  at pc regs = record { procedure = p; place = pc; registers = regs }

  -- the instructions stand in the code at this place
  abbrev pub HasAt : ℕ → List Instr → Type 0
  HasAt pc [] = Unit {0}
  HasAt pc (i ∷ is) = (slice_get code pc ≡ Some i) × HasAt (pc + 1) is

  pub has_front : (pc : ℕ) (a b : List Instr) → HasAt pc (a ++ b) → HasAt pc a
  has_front pc [] b h = tt
  has_front pc (i ∷ a) b h = (h.0, has_front (pc + 1) a b h.1)

  pub has_back : (pc : ℕ) (a b : List Instr) → HasAt pc (a ++ b) → HasAt (pc + length a) b
  has_back pc [] b h = let e : pc ≡ pc + 0 = omega arith in subst (λ n. HasAt n b) e h
  has_back pc (i ∷ a) b h =
      let e : pc + 1 + length a ≡ pc + length (i ∷ a) = omega arith in
      subst (λ n. HasAt n b) e (has_back (pc + 1) a b h.1)

  -- the frame f becomes g
  pub record Comes (f g : Frame) : Type 0 where
    pub steps : ℕ
    pub by : frame_after procs slot width f steps ≡ Some g

  -- the frame f reaches a division by 0
  pub record Fails (f : Frame) : Type 0 where
    pub end : Frame
    pub comes : Comes f end
    pub instr : Instr
    pub there : instr_at procs end ≡ Some instr
    pub divides : effect instr slot width end ≡ DividesByZero

  pub after_more : (f g : Frame) (j k : ℕ) → frame_after procs slot width f j ≡ Some g → frame_after procs slot width f (j + k) ≡ frame_after procs slot width g k
  after_more f g j zero h = let e : j + 0 ≡ j = omega arith in ap (frame_after procs slot width f) e ∙ h
  after_more f g j (suc k) h =
      let e : j + suc k ≡ suc (j + k) = omega arith in
      ap (frame_after procs slot width f) e ∙ ap (option_and_then (next_of procs slot width)) (after_more f g j k h)

  abbrev pub comes_on : (f g h : Frame) → Comes f g → Comes g h → Comes f h
  comes_on f g h a b = record { steps = a.steps + b.steps; by = after_more f g a.steps b.steps a.by ∙ b.by }

  abbrev pub stays : (f : Frame) → Comes f f
  stays f = record { steps = 0; by = refl }

  pub fails_on : (f g : Frame) → Comes f g → Fails g → Fails f
  fails_on f g a b = record { end = b.end; comes = comes_on f g b.end a b.comes; instr = b.instr; there = b.there; divides = b.divides }

  abbrev pub one_step : (pc : ℕ) (regs : List ℤ) (i : Instr) (g : Frame) → slice_get code pc ≡ Some i → effect i slot width (at pc regs) ≡ Moves g → Comes (at pc regs) g
  one_step pc regs i g here does =
      let goes : next_of procs slot width (at pc regs) ≡ Some g = rw (here, does) refl in
      record { steps = 1; by = goes }

  pub one_fails : (pc : ℕ) (regs : List ℤ) (i : Instr) → slice_get code pc ≡ Some i → effect i slot width (at pc regs) ≡ DividesByZero → Fails (at pc regs)
  one_fails pc regs i here does = record { end = at pc regs; comes = stays (at pc regs); instr = i; there = here; divides = does }

  -- the code leads from a place to another one, and writes a value
  pub record Writes (pc pc' : ℕ) (regs : List ℤ) (d t : ℕ) (v : ℤ) : Type 0 where
    pub regs' : List ℤ
    pub comes : Comes (at pc regs) (at pc' regs')
    pub some : 0 < comes.steps
    pub long : length regs' ≡ size
    pub value : get_or regs' d (pos 0) ≡ v
    pub kept : AreKept t d regs regs'

  -- the code leads from a place to another one, where the value is in a register
  pub record Brings (pc pc' : ℕ) (regs : List ℤ) (r t : ℕ) (v : ℤ) : Type 0 where
    pub regs' : List ℤ
    pub comes : Comes (at pc regs) (at pc' regs')
    pub long : length regs' ≡ size
    pub value : get_or regs' r (pos 0) ≡ v
    pub kept : AreAllKept t regs regs'

  abbrev pub WritesIf : (pc pc' : ℕ) (regs : List ℤ) (d t : ℕ) → Option ℤ → Type 0
  WritesIf pc pc' regs d t None = Fails (at pc regs)
  WritesIf pc pc' regs d t (Some v) = Writes pc pc' regs d t v

  abbrev pub BringsIf : (pc pc' : ℕ) (regs : List ℤ) (r t : ℕ) → Option ℤ → Type 0
  BringsIf pc pc' regs r t None = Fails (at pc regs)
  BringsIf pc pc' regs r t (Some v) = Brings pc pc' regs r t v

  -- the code leads from a place to another one, where two values are in registers
  pub record BringsBoth (pc pc' : ℕ) (regs : List ℤ) (ra rb t : ℕ) (x y : ℤ) : Type 0 where
    pub regs' : List ℤ
    pub comes : Comes (at pc regs) (at pc' regs')
    pub long : length regs' ≡ size
    pub left : get_or regs' ra (pos 0) ≡ x
    pub right : get_or regs' rb (pos 0) ≡ y
    pub kept : AreAllKept t regs regs'

  abbrev pub BringsBothIf : (pc pc' : ℕ) (regs : List ℤ) (ra rb t : ℕ) → Option ℤ → Option ℤ → Type 0
  BringsBothIf pc pc' regs ra rb t None ob = Fails (at pc regs)
  BringsBothIf pc pc' regs ra rb t (Some x) None = Fails (at pc regs)
  BringsBothIf pc pc' regs ra rb t (Some x) (Some y) = BringsBoth pc pc' regs ra rb t x y

  -- the same, with the other one as the left one
  exchanged_both : (pc pc' : ℕ) (regs : List ℤ) (ra rb t : ℕ) (oa ob : Option ℤ) → BringsBothIf pc pc' regs rb ra t ob oa → BringsBothIf pc pc' regs ra rb t oa ob
  exchanged_both pc pc' regs ra rb t None None b = b
  exchanged_both pc pc' regs ra rb t None (Some y) b = b
  exchanged_both pc pc' regs ra rb t (Some x) None b = b
  exchanged_both pc pc' regs ra rb t (Some x) (Some y) b = record { regs' = b.regs'; comes = b.comes; long = b.long; left = b.right; right = b.left; kept = b.kept }

  -- one instruction that writes
  abbrev pub write : (pc d t : ℕ) (regs : List ℤ) (i : Instr) (v : ℤ) → slice_get code pc ≡ Some i → effect i slot width (at pc regs) ≡ Moves (write_and_step (at pc regs) d v) → d < size
      → length regs ≡ size → Writes pc (pc + 1) regs d t v
  write pc d t regs i v here does low long = record {
    regs' = slice_set regs d v;
    comes = one_step pc regs i (write_and_step (at pc regs) d v) here does;
    some = omega arith;
    long = length-set regs d v ∙ long;
    value = get_or-set_same regs d v (pos 0) (omega (arith, long));
    kept = λ r below other. get_or-set_other regs d r v (pos 0) other;
  }

  module _ (valid : (k : ℕ) (i : Instr) → slice_get code k ≡ Some i → WritesBelow size i) (low_slot : slot < 2 ^ 8) (low_width : width < 2 ^ 8) where
    op_runs : (op : Operator) (d a b pc t : ℕ) (regs : List ℤ) (x y : ℤ) → HasAt pc (op_instr op d a b ∷ []) → get_or regs a (pos 0) ≡ x → get_or regs b (pos 0) ≡ y → length regs ≡ size
        → WritesIf pc (pc + 1) regs d t (result_of op x y)
    op_runs Plus d a b pc t regs x y has ex ey long = write pc d t regs (instr.Add d a b) _ has.0 (rw (ex, ey) refl) (valid pc _ has.0).0 long
    op_runs Minus d a b pc t regs x y has ex ey long = write pc d t regs (instr.Sub d a b) _ has.0 (rw (ex, ey) refl) (valid pc _ has.0).0 long
    op_runs Times d a b pc t regs x y has ex ey long = write pc d t regs (instr.Mul d a b) _ has.0 (rw (ex, ey) refl) (valid pc _ has.0).0 long
    op_runs Below d a b pc t regs x y has ex ey long = write pc d t regs (instr.Lt d a b) _ has.0 (rw (ex, ey) refl) (valid pc _ has.0).0 long
    op_runs BitAnd d a b pc t regs x y has ex ey long = write pc d t regs (instr.And d a b) _ has.0 (rw (ex, ey) refl) (valid pc _ has.0).0 long
    op_runs BitOr d a b pc t regs x y has ex ey long = write pc d t regs (instr.Or d a b) _ has.0 (rw (ex, ey) refl) (valid pc _ has.0).0 long
    op_runs BitXor d a b pc t regs x y has ex ey long = write pc d t regs (instr.Xor d a b) _ has.0 (rw (ex, ey) refl) (valid pc _ has.0).0 long
    op_runs ShiftLeft d a b pc t regs x y has ex ey long = write pc d t regs (instr.Shl d a b) _ has.0 (rw (ex, ey) refl) (valid pc _ has.0).0 long
    op_runs ShiftRight d a b pc t regs x y has ex ey long = write pc d t regs (instr.Shr d a b) _ has.0 (rw (ex, ey) refl) (valid pc _ has.0).0 long
    op_runs AtMost d a b pc t regs x y has ex ey long = write pc d t regs (instr.Le d a b) _ has.0 (rw (ex, ey) refl) (valid pc _ has.0).0 long
    op_runs Equal d a b pc t regs x y has ex ey long = write pc d t regs (instr.Eq d a b) _ has.0 (rw (ex, ey) refl) (valid pc _ has.0).0 long
    op_runs Over d a b pc t regs x (pos zero) has ex ey long = one_fails pc regs (instr.Div d a b) has.0 (rw (ex, ey) refl)
    op_runs Over d a b pc t regs x (pos (suc n)) has ex ey long = write pc d t regs (instr.Div d a b) _ has.0 (rw (ex, ey) refl) (valid pc _ has.0).0 long
    op_runs Over d a b pc t regs x (negsuc n) has ex ey long = write pc d t regs (instr.Div d a b) _ has.0 (rw (ex, ey) refl) (valid pc _ has.0).0 long
    op_runs Remainder d a b pc t regs x (pos zero) has ex ey long = one_fails pc regs (instr.Rem d a b) has.0 (rw (ex, ey) refl)
    op_runs Remainder d a b pc t regs x (pos (suc n)) has ex ey long = write pc d t regs (instr.Rem d a b) _ has.0 (rw (ex, ey) refl) (valid pc _ has.0).0 long
    op_runs Remainder d a b pc t regs x (negsuc n) has ex ey long = write pc d t regs (instr.Rem d a b) _ has.0 (rw (ex, ey) refl) (valid pc _ has.0).0 long

    pub operand_low : (n t : ℕ) (e : Expr) → IsWithin n e → n ≤ t → operand e t < above e t
    operand_low n t (Number z) h le = omega arith
    operand_low n t (Variable x) h le = omega (arith, h)
    operand_low n t Slot h le = omega arith
    operand_low n t Width h le = omega arith
    operand_low n t (Two' op p a q b) h le = omega arith

    pub above_high : (t : ℕ) (e : Expr) → t ≤ above e t
    above_high t (Number z) = omega arith
    above_high t (Variable x) = omega arith
    above_high t Slot = omega arith
    above_high t Width = omega arith
    above_high t (Two' op p a q b) = omega arith

    -- what was written into the first free register was brought
    written_brings : (pc pc' t : ℕ) (regs : List ℤ) (v : ℤ) → Writes pc pc' regs t t v → Brings pc pc' regs t t v
    written_brings pc pc' t regs v w = record { regs' = w.regs'; comes = w.comes; long = w.long; value = w.value; kept = λ r below. w.kept r below (omega (arith, below)) }

    written_brings_if : (pc pc' t : ℕ) (regs : List ℤ) (o : Option ℤ) → WritesIf pc pc' regs t t o → BringsIf pc pc' regs t t o
    written_brings_if pc pc' t regs None w = w
    written_brings_if pc pc' t regs (Some v) w = written_brings pc pc' t regs v w

    -- an operand, whose own code is known to run
    brought_runs : (n pc t : ℕ) (e : Expr) (vars regs : List ℤ) → IsWithin n e → n ≤ t → Agree size n vars regs → HasAt pc (operand_code e t)
        → (HasAt pc (value_code e t t) → WritesIf pc (pc + length (value_code e t t)) regs t t (value_of e slot width vars))
        → BringsIf pc (pc + length (operand_code e t)) regs (operand e t) t (value_of e slot width vars)
    brought_runs n pc t (Variable x) vars regs h le agree has runs =
        let e : pc ≡ pc + 0 = omega arith in
        record { regs' = regs; comes = subst (λ q. Comes (at pc regs) (at q regs)) e (stays (at pc regs)); long = agree.long; value = agree.same x h; kept = λ r below. refl }
    brought_runs n pc t (Number z) vars regs h le agree has runs = written_brings_if pc _ t regs (Some z) (runs has)
    brought_runs n pc t Slot vars regs h le agree has runs = written_brings_if pc _ t regs (Some (pos slot)) (runs has)
    brought_runs n pc t Width vars regs h le agree has runs = written_brings_if pc _ t regs (Some (pos width)) (runs has)
    brought_runs n pc t (Two' op p a q b) vars regs h le agree has runs = written_brings_if pc _ t regs (value_of (Two' op p a q b) slot width vars) (runs has)

    pub still : (n t : ℕ) (vars regs regs' : List ℤ) → n ≤ t → Agree size n vars regs → length regs' ≡ size → AreAllKept t regs regs' → Agree size n vars regs'
    still n t vars regs regs' le agree long kept = record { long = long; same = λ x low. kept x (omega (arith, low, le)) ∙ agree.same x low; fit = agree.fit }

    -- one operand, and then another one
    one_by_one : (ca cb : List Instr) (oa ob : Option ℤ) (ra rb pc t t2 : ℕ) (regs : List ℤ) → ra < t2 → t ≤ t2 → BringsIf pc (pc + length ca) regs ra t oa
        → ((regs' : List ℤ) → length regs' ≡ size → AreAllKept t regs regs' → BringsIf (pc + length ca) (pc + length ca + length cb) regs' rb t2 ob)
        → BringsBothIf pc (pc + length (ca ++ cb)) regs ra rb t oa ob
    one_by_one ca cb None ob ra rb pc t t2 regs low high first second = first
    one_by_one ca cb (Some x) None ra rb pc t t2 regs low high first second = fails_on _ _ first.comes (second first.regs' first.long first.kept)
    one_by_one ca cb (Some x) (Some y) ra rb pc t t2 regs low high first second =
        let next : Brings (pc + length ca) (pc + length ca + length cb) first.regs' rb t2 y = second first.regs' first.long first.kept in
        let len : pc + length ca + length cb ≡ pc + length (ca ++ cb) = omega (arith, length-append ca cb) in
        subst (λ q. BringsBoth pc q regs ra rb t x y) len (record {
          regs' = next.regs';
          comes = comes_on _ _ _ first.comes next.comes;
          long = next.long;
          left = next.kept ra low ∙ first.value;
          right = next.value;
          kept = λ r below. next.kept r (omega (arith, below, high)) ∙ first.kept r below;
        })

    -- an operand's code brings its value
    abbrev Runs : (n : ℕ) (vars : List ℤ) → Expr → Type 0
    Runs n vars e = (t pc : ℕ) (regs : List ℤ) → n ≤ t → Agree size n vars regs → HasAt pc (operand_code e t)
        → BringsIf pc (pc + length (operand_code e t)) regs (operand e t) t (value_of e slot width vars)

    -- two operands, whichever is first
    in_order_run : (right_first : Bool) (a b : Expr) (n t pc : ℕ) (vars regs : List ℤ) → IsWithin n a → IsWithin n b → n ≤ t → Agree size n vars regs → Runs n vars a → Runs n vars b
        → HasAt pc (in_order right_first (operand_code a (left_free right_first b t)) (operand_code b (right_free right_first a t)))
        → BringsBothIf pc (pc + length (in_order right_first (operand_code a (left_free right_first b t)) (operand_code b (right_free right_first a t)))) regs
        (operand a (left_free right_first b t)) (operand b (right_free right_first a t)) t (value_of a slot width vars) (value_of b slot width vars)
    in_order_run false a b n t pc vars regs ha hb le agree runs_a runs_b has =
        let ca = operand_code a t in
        let t2 = above a t in
        let high = above_high t a in
        one_by_one ca (operand_code b t2) (value_of a slot width vars) (value_of b slot width vars) (operand a t) (operand b t2) pc t t2 regs (operand_low n t a ha le) high
        (runs_a t pc regs le agree (has_front pc ca _ has))
        (λ regs' long kept. runs_b t2 (pc + length ca) regs' (omega (arith, high, le)) (still n t vars regs regs' le agree long kept) (has_back pc ca _ has))
    in_order_run true a b n t pc vars regs ha hb le agree runs_a runs_b has =
        let cb = operand_code b t in
        let t2 = above b t in
        let high = above_high t b in
        exchanged_both pc _ regs (operand a t2) (operand b t) t (value_of a slot width vars) (value_of b slot width vars)
        (one_by_one cb (operand_code a t2) (value_of b slot width vars) (value_of a slot width vars) (operand b t) (operand a t2) pc t t2 regs (operand_low n t b hb le) high
        (runs_b t pc regs le agree (has_front pc cb _ has))
        (λ regs' long kept. runs_a t2 (pc + length cb) regs' (omega (arith, high, le)) (still n t vars regs regs' le agree long kept) (has_back pc cb _ has)))

    -- two operands, and an instruction that writes what comes of both
    two_runs : (f : ℤ → ℤ → Option ℤ) (i : Instr) (code : List Instr) (oa ob : Option ℤ) (d ra rb pc t : ℕ) (regs : List ℤ) → HasAt pc (code ++ i ∷ [])
        → BringsBothIf pc (pc + length code) regs ra rb t oa ob
        → ((q : ℕ) (regs' : List ℤ) (x y : ℤ) → HasAt q (i ∷ []) → get_or regs' ra (pos 0) ≡ x → get_or regs' rb (pos 0) ≡ y → length regs' ≡ size → WritesIf q (q + 1) regs' d t (f x y))
        → WritesIf pc (pc + length (code ++ i ∷ [])) regs d t (on_both f oa ob)
    two_runs f i code None ob d ra rb pc t regs has both does = both
    two_runs f i code (Some x) None d ra rb pc t regs has both does = both
    two_runs f i code (Some x) (Some y) d ra rb pc t regs has both does =
        last (f x y) (does (pc + length code) both.regs' x y (has_back pc code (i ∷ []) has) both.left both.right both.long)
      where
        len : pc + length code + 1 ≡ pc + length (code ++ i ∷ [])
        len = omega (arith, length-append code (i ∷ []))

        last : (o : Option ℤ) → WritesIf (pc + length code) (pc + length code + 1) both.regs' d t o → WritesIf pc (pc + length (code ++ i ∷ [])) regs d t o
        last None w = fails_on _ _ both.comes w
        last (Some v) w = subst (λ q. Writes pc q regs d t v) len (record {
          regs' = w.regs';
          comes = comes_on _ _ _ both.comes w.comes;
          some = omega (arith, w.some);
          long = w.long;
          value = w.value;
          kept = λ r below other. w.kept r below other ∙ both.kept r below;
        })

    pub value_runs : (e : Expr) (n d t pc : ℕ) (vars regs : List ℤ) → IsWithin n e → n ≤ t → Agree size n vars regs → HasAt pc (value_code e d t)
        → WritesIf pc (pc + length (value_code e d t)) regs d t (value_of e slot width vars)
    value_runs (Number z) n d t pc vars regs h le agree has = write pc d t regs (instr.Set d z) z has.0 refl (valid pc _ has.0).0 agree.long
    value_runs Slot n d t pc vars regs h le agree has = write pc d t regs (instr.Slot d) (pos slot) has.0 refl (valid pc _ has.0).0 agree.long
    value_runs Width n d t pc vars regs h le agree has = write pc d t regs (instr.Width d) (pos width) has.0 refl (valid pc _ has.0).0 agree.long
    value_runs (Variable x) n d t pc vars regs h le agree has = write pc d t regs (instr.Or d x x) (get_or vars x (pos 0)) has.0
        (ap (λ z. Moves (write_and_step (at pc regs) d z)) (ap (λ z. int_bit_or w64 z z) (agree.same x h) ∙ or_same (get_or vars x (pos 0)) (agree.fit x))) (valid pc _ has.0).0 agree.long
    value_runs (Two' op p a q b) n d t pc vars regs h le agree has =
        let ra = left_of a b t in
        let rb = right_of a b t in
        let code = both_code a b t in
        two_runs (result_of op) (op_instr op d ra rb) code (value_of a slot width vars) (value_of b slot width vars) d ra rb pc t regs has
        (in_order_run (is_right_first a b) a b n t pc vars regs h.0 h.1 le agree
        (λ t' pc' regs' le' agree' has'. brought_runs n pc' t' a vars regs' h.0 le' agree' has' (value_runs a n t' t' pc' vars regs' h.0 le' agree'))
        (λ t' pc' regs' le' agree' has'. brought_runs n pc' t' b vars regs' h.1 le' agree' has' (value_runs b n t' t' pc' vars regs' h.1 le' agree'))
        (has_front pc code _ has))
        (λ q regs' x y there ex ey long. op_runs op d ra rb q t regs' x y there ex ey long)

    pub operand_runs : (e : Expr) (n t pc : ℕ) (vars regs : List ℤ) → IsWithin n e → n ≤ t → Agree size n vars regs → HasAt pc (operand_code e t)
        → BringsIf pc (pc + length (operand_code e t)) regs (operand e t) t (value_of e slot width vars)
    operand_runs e n t pc vars regs h le agree has = brought_runs n pc t e vars regs h le agree has (value_runs e n t t pc vars regs h le agree)

    pub both_run : (a b : Expr) (n t pc : ℕ) (vars regs : List ℤ) → IsWithin n a → IsWithin n b → n ≤ t → Agree size n vars regs → HasAt pc (both_code a b t)
        → BringsBothIf pc (pc + length (both_code a b t)) regs (left_of a b t) (right_of a b t) t (value_of a slot width vars) (value_of b slot width vars)
    both_run a b n t pc vars regs ha hb le agree has = in_order_run (is_right_first a b) a b n t pc vars regs ha hb le agree
        (λ t' pc' regs' le' agree' has'. operand_runs a n t' pc' vars regs' ha le' agree' has')
        (λ t' pc' regs' le' agree' has'. operand_runs b n t' pc' vars regs' hb le' agree' has') has

    -- both operands, and an operator of them exchanged
    pub exchanged_runs : (o : Operator) (a b : Expr) (n t pc : ℕ) (vars regs : List ℤ) → IsWithin n a → IsWithin n b → n ≤ t → Agree size n vars regs
        → HasAt pc (both_code a b t ++ op_instr o t (right_of a b t) (left_of a b t) ∷ [])
        → BringsIf pc (pc + length (both_code a b t ++ op_instr o t (right_of a b t) (left_of a b t) ∷ [])) regs t t
        (on_both (λ x y. result_of o y x) (value_of a slot width vars) (value_of b slot width vars))
    exchanged_runs o a b n t pc vars regs ha hb le agree has =
        let ra = left_of a b t in
        let rb = right_of a b t in
        let code = both_code a b t in
        written_brings_if pc _ t regs (on_both (λ x y. result_of o y x) (value_of a slot width vars) (value_of b slot width vars))
        (two_runs (λ x y. result_of o y x) (op_instr o t rb ra) code (value_of a slot width vars) (value_of b slot width vars) t ra rb pc t regs has
        (both_run a b n t pc vars regs ha hb le agree (has_front pc code _ has))
        (λ q regs' x y there ex ey long. op_runs o t rb ra q t regs' y x there ey ex long))
