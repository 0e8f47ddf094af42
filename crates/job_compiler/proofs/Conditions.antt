-- What the code of a condition does.
use Rattle.std.proofs.Common.{◌≡◌, ℕ, zero, suc, ◌+◌, ◌<◌, ◌≤◌, ◌^◌, ℤ, pos, negsuc, Bool, true, false, not, if◌then◌else◌, List, [], ◌∷◌, length, Option, Some, None, option_map, refl, sym, ap}
use Rattle.std.proofs.Common.{subst, ◌∙◌, FitsSigned, Box, Global}
use Rattle.std.proofs.Common.{arith, length-append}
use Rattle.std.specs.Int.{w64}
use Rattle.std.specs.Prelude.{slice_get, slice_index_or}
use Rattle.job_compiler.specs.Colours.{WritesBelow}
use Rattle.job_language.specs.declared.instructions.Instr.{Instr}
use Rattle.job_language.specs.declared.instructions.Instr.TheVariants as instr
use Rattle.source_language.specs.declared.syntax.Operator.{Operator}
use Rattle.source_language.specs.declared.syntax.Operator.TheVariants.{Plus, Minus, Times, Over, Remainder, BitAnd, BitOr, BitXor, ShiftLeft, ShiftRight, Below, AtMost, Equal}
use Rattle.source_language.specs.declared.syntax.Expr.{Expr}
use Rattle.source_language.specs.declared.syntax.Expr.TheVariants.{Number, Variable, Slot, Width, Two'}
use Rattle.source_language.specs.declared.syntax.Test.{Test}
use Rattle.source_language.specs.declared.syntax.Test.TheVariants.{Holds, Not', Both', Either'}
use Rattle.source_language.specs.Meaning.{is_nought, result_of, on_both, value_of, if_true, if_false, test_of}
use Rattle.job_compiler.specs.Within.{IsWithin, IsTestWithin}
use Rattle.job_compiler.specs.Code.{op_instr, operand, operand_code, both_code, left_of, right_of, opposed, opposed_code}
use Rattle.job_compiler.specs.Code.{jump_code, jumps, is_zero, compared, holds_size, holds_code, test_size, test_code}
use Rattle.job_compiler.proofs.Opposites.{compared_same, AreOpposed, below_opposed, at_most_opposed, equal_opposed, minus_opposed}
use Rattle.job_compiler.proofs.Values.{FitsIf, value_fits}
use Rattle.job_compiler.proofs.Steps.{AreAllKept, Agree, at, HasAt, has_front, has_back, Comes, Fails, comes_on, fails_on, one_step, BringsIf, Brings, operand_runs, exchanged_runs, still}

opposed_length : (o : Operator) (e : Expr) (t : ℕ) → length (opposed_code o e t) ≡ length (operand_code e t)
opposed_length o (Number z) t = refl
opposed_length o (Variable x) t = refl
opposed_length o Slot t = refl
opposed_length o Width t = refl
opposed_length o (Two' op p a q b) t =
    let code = both_code a b t in
    let i = op_instr op t (left_of a b t) (right_of a b t) in
    let j = op_instr o t (right_of a b t) (left_of a b t) in
    length-append code (j ∷ []) ∙ sym (length-append code (i ∷ []))

jump_length : (w : Bool) (o : Option Operator) (e : Expr) (to t at : ℕ) → length (jump_code w o e to t at) ≡ length (operand_code e t) + jumps w o
jump_length false o e to t at = length-append (operand_code e t) (instr.Jz (operand e t) to ∷ [])
jump_length true None e to t at = length-append (operand_code e t) (instr.Jz (operand e t) (at + length (operand_code e t) + 2) ∷ instr.Jmp to ∷ [])
jump_length true (Some o) e to t at = length-append (opposed_code o e t) (instr.Jz t to ∷ []) ∙ ap (λ k. k + 1) (opposed_length o e t)

compared_length : (o : Option Expr) (e : Expr) (w : Bool) (to t at : ℕ) → length (holds_code o e w to t at) ≡ holds_size o e w t
compared_length (Some a) e w to t at = jump_length (not w) (opposed a) a to t at
compared_length None e w to t at = jump_length w (opposed e) e to t at

pub test_length : (c : Test) (w : Bool) (to t at : ℕ) → length (test_code c w to t at) ≡ test_size c w t
test_length (Holds e) w to t at = compared_length (compared e) e w to t at
test_length (Not' p c) w to t at = test_length c (not w) to t at
test_length (Both' p a q b) w to t at =
    let m = at + test_size a false t in
    let ca = test_code a false (if w then m + test_size b w t else to) t at in
    let cb = test_code b w to t m in
    let la : length ca ≡ test_size a false t = test_length a false (if w then m + test_size b w t else to) t at in
    let lb : length cb ≡ test_size b w t = test_length b w to t m in
    omega (arith, length-append ca cb, la, lb)
test_length (Either' p a q b) w to t at =
    let m = at + test_size a true t in
    let ca = test_code a true (if w then to else m + test_size b w t) t at in
    let cb = test_code b w to t m in
    let la : length ca ≡ test_size a true t = test_length a true (if w then to else m + test_size b w t) t at in
    let lb : length cb ≡ test_size b w t = test_length b w to t m in
    omega (arith, length-append ca cb, la, lb)

module _ (procs : List (List Instr)) (slot width p size : ℕ) where
  -- the code leads from a place to another one, and changes no register below t
  pub record Jumps (pc pc' : ℕ) (regs : List ℤ) (t : ℕ) : Type 0 where
    pub regs' : List ℤ
    pub comes : Comes procs slot width p size (at procs slot width p size pc regs) (at procs slot width p size pc' regs')
    pub some : 0 < comes.steps
    pub long : length regs' ≡ size
    pub kept : AreAllKept t regs regs'

  abbrev pub JumpsIf : (pc to end : ℕ) (regs : List ℤ) (t : ℕ) (w : Bool) → Option Bool → Type 0
  JumpsIf pc to end regs t w None = Fails procs slot width p size (at procs slot width p size pc regs)
  JumpsIf pc to end regs t true (Some true) = Jumps pc to regs t
  JumpsIf pc to end regs t true (Some false) = Jumps pc end regs t
  JumpsIf pc to end regs t false (Some true) = Jumps pc end regs t
  JumpsIf pc to end regs t false (Some false) = Jumps pc to regs t

  flipped : (pc to end : ℕ) (regs : List ℤ) (t : ℕ) (w : Bool) (o : Option Bool) → JumpsIf pc to end regs t (not w) o → JumpsIf pc to end regs t w (option_map not o)
  flipped pc to end regs t w None j = j
  flipped pc to end regs t true (Some true) j = j
  flipped pc to end regs t true (Some false) j = j
  flipped pc to end regs t false (Some true) j = j
  flipped pc to end regs t false (Some false) j = j

  jumps_on : (pc pc1 pc2 : ℕ) (regs : List ℤ) (t : ℕ) (a : Jumps pc pc1 regs t) → Jumps pc1 pc2 a.regs' t → Jumps pc pc2 regs t
  jumps_on pc pc1 pc2 regs t a b = record {
    regs' = b.regs';
    comes = comes_on procs slot width p size _ _ _ a.comes b.comes;
    some = omega (arith, a.some);
    long = b.long;
    kept = λ r low. b.kept r low ∙ a.kept r low;
  }

  jumps_on_if : (pc pc1 to end : ℕ) (regs : List ℤ) (t : ℕ) (w : Bool) (o : Option Bool) (a : Jumps pc pc1 regs t) → JumpsIf pc1 to end a.regs' t w o → JumpsIf pc to end regs t w o
  jumps_on_if pc pc1 to end regs t w None a b = fails_on procs slot width p size _ _ a.comes b
  jumps_on_if pc pc1 to end regs t true (Some true) a b = jumps_on pc pc1 to regs t a b
  jumps_on_if pc pc1 to end regs t true (Some false) a b = jumps_on pc pc1 end regs t a b
  jumps_on_if pc pc1 to end regs t false (Some true) a b = jumps_on pc pc1 end regs t a b
  jumps_on_if pc pc1 to end regs t false (Some false) a b = jumps_on pc pc1 to regs t a b

  -- the last step of a condition
  jump : (pc pc1 pc2 r t : ℕ) (regs : List ℤ) (v : ℤ) (b : Brings procs slot width p size pc pc1 regs r t v)
      → (c : Comes procs slot width p size (at procs slot width p size pc1 b.regs') (at procs slot width p size pc2 b.regs')) → 0 < c.steps → Jumps pc pc2 regs t
  jump pc pc1 pc2 r t regs v b c some = record { regs' = b.regs'; comes = comes_on procs slot width p size _ _ _ b.comes c; some = omega (arith, some); long = b.long; kept = b.kept }

  -- a jump if the value is 0
  not_runs : (to r pc pc1 t : ℕ) (regs : List ℤ) (o : Option ℤ) → slice_get (slice_index_or procs p []) pc1 ≡ Some (instr.Jz r to) → BringsIf procs slot width p size pc pc1 regs r t o
      → JumpsIf pc to (pc1 + 1) regs t false (option_map (λ v. not (is_nought v)) o)
  not_runs to r pc pc1 t regs None here b = b
  not_runs to r pc pc1 t regs (Some (pos zero)) here b = jump pc pc1 to r t regs (pos zero) b
      (one_step procs slot width p size pc1 b.regs' (instr.Jz r to) (at procs slot width p size to b.regs') here (rw b.value refl)) (omega arith)
  not_runs to r pc pc1 t regs (Some (pos (suc n))) here b = jump pc pc1 (pc1 + 1) r t regs (pos (suc n)) b
      (one_step procs slot width p size pc1 b.regs' (instr.Jz r to) (at procs slot width p size (pc1 + 1) b.regs') here (rw b.value refl)) (omega arith)
  not_runs to r pc pc1 t regs (Some (negsuc n)) here b = jump pc pc1 (pc1 + 1) r t regs (negsuc n) b
      (one_step procs slot width p size pc1 b.regs' (instr.Jz r to) (at procs slot width p size (pc1 + 1) b.regs') here (rw b.value refl)) (omega arith)

  -- a jump if it is not 0, past another one
  past_runs : (to r pc pc1 t : ℕ) (regs : List ℤ) (o : Option ℤ) → HasAt procs slot width p size pc1 (instr.Jz r (pc1 + 2) ∷ instr.Jmp to ∷ []) → BringsIf procs slot width p size pc pc1 regs r t o
      → JumpsIf pc to (pc1 + 2) regs t true (option_map (λ v. not (is_nought v)) o)
  past_runs to r pc pc1 t regs None has b = b
  past_runs to r pc pc1 t regs (Some (pos zero)) has b = jump pc pc1 (pc1 + 2) r t regs (pos zero) b
      (one_step procs slot width p size pc1 b.regs' (instr.Jz r (pc1 + 2)) (at procs slot width p size (pc1 + 2) b.regs') has.0 (rw b.value refl)) (omega arith)
  past_runs to r pc pc1 t regs (Some (pos (suc n))) has b =
      jump pc pc1 to r t regs (pos (suc n)) b (comes_on procs slot width p size _ _ _
      (one_step procs slot width p size pc1 b.regs' (instr.Jz r (pc1 + 2)) (at procs slot width p size (pc1 + 1) b.regs') has.0 (rw b.value refl))
      (one_step procs slot width p size (pc1 + 1) b.regs' (instr.Jmp to) (at procs slot width p size to b.regs') has.1.0 refl)) (omega arith)
  past_runs to r pc pc1 t regs (Some (negsuc n)) has b =
      jump pc pc1 to r t regs (negsuc n) b (comes_on procs slot width p size _ _ _
      (one_step procs slot width p size pc1 b.regs' (instr.Jz r (pc1 + 2)) (at procs slot width p size (pc1 + 1) b.regs') has.0 (rw b.value refl))
      (one_step procs slot width p size (pc1 + 1) b.regs' (instr.Jmp to) (at procs slot width p size to b.regs') has.1.0 refl)) (omega arith)

  -- a jump if what is opposed to a value is 0
  result_runs : (o other : Option ℤ) (to pc pc1 t : ℕ) (regs : List ℤ) → AreOpposed o other → slice_get (slice_index_or procs p []) pc1 ≡ Some (instr.Jz t to)
      → BringsIf procs slot width p size pc pc1 regs t t other → JumpsIf pc to (pc1 + 1) regs t true (option_map (λ v. not (is_nought v)) o)
  result_runs None other to pc pc1 t regs are here b = absurd are
  result_runs (Some v) None to pc pc1 t regs are here b = absurd are
  result_runs (Some v) (Some (pos zero)) to pc pc1 t regs are here b = subst (λ k. JumpsIf pc to (pc1 + 1) regs t true (Some k)) are (jump pc pc1 to t t regs (pos zero) b
      (one_step procs slot width p size pc1 b.regs' (instr.Jz t to) (at procs slot width p size to b.regs') here (rw b.value refl)) (omega arith))
  result_runs (Some v) (Some (pos (suc n))) to pc pc1 t regs are here b = subst (λ k. JumpsIf pc to (pc1 + 1) regs t true (Some k)) are (jump pc pc1 (pc1 + 1) t t regs (pos (suc n)) b
      (one_step procs slot width p size pc1 b.regs' (instr.Jz t to) (at procs slot width p size (pc1 + 1) b.regs') here (rw b.value refl)) (omega arith))
  result_runs (Some v) (Some (negsuc n)) to pc pc1 t regs are here b = subst (λ k. JumpsIf pc to (pc1 + 1) regs t true (Some k)) are (jump pc pc1 (pc1 + 1) t t regs (negsuc n) b
      (one_step procs slot width p size pc1 b.regs' (instr.Jz t to) (at procs slot width p size (pc1 + 1) b.regs') here (rw b.value refl)) (omega arith))

  opposed_runs : (op o : Operator) → ((x y : ℤ) → FitsSigned w64 x → FitsSigned w64 y → AreOpposed (result_of op x y) (result_of o y x)) → (to pc pc1 t : ℕ) (regs : List ℤ) (oa ob : Option ℤ)
      → FitsIf oa → FitsIf ob → slice_get (slice_index_or procs p []) pc1 ≡ Some (instr.Jz t to) → BringsIf procs slot width p size pc pc1 regs t t (on_both (λ x y. result_of o y x) oa ob)
      → JumpsIf pc to (pc1 + 1) regs t true (option_map (λ v. not (is_nought v)) (on_both (result_of op) oa ob))
  opposed_runs op o are to pc pc1 t regs None ob fa fb here b = b
  opposed_runs op o are to pc pc1 t regs (Some x) None fa fb here b = b
  opposed_runs op o are to pc pc1 t regs (Some x) (Some y) fa fb here b = result_runs (result_of op x y) (result_of o y x) to pc pc1 t regs (are x y fa fb) here b

  both_run : (w : Bool) (pc m to end : ℕ) (regs : List ℤ) (t : ℕ) (oa ob : Option Bool) → JumpsIf pc (if w then end else to) m regs t false oa
      → ((regs' : List ℤ) → length regs' ≡ size → AreAllKept t regs regs' → JumpsIf m to end regs' t w ob) → JumpsIf pc to end regs t w (if_true oa ob)
  both_run w pc m to end regs t None ob a b = a
  both_run true pc m to end regs t (Some false) ob a b = a
  both_run false pc m to end regs t (Some false) ob a b = a
  both_run w pc m to end regs t (Some true) ob a b = jumps_on_if pc m to end regs t w ob a (b a.regs' a.long a.kept)

  either_runs : (w : Bool) (pc m to end : ℕ) (regs : List ℤ) (t : ℕ) (oa ob : Option Bool) → JumpsIf pc (if w then to else end) m regs t true oa
      → ((regs' : List ℤ) → length regs' ≡ size → AreAllKept t regs regs' → JumpsIf m to end regs' t w ob) → JumpsIf pc to end regs t w (if_false oa ob)
  either_runs w pc m to end regs t None ob a b = a
  either_runs true pc m to end regs t (Some true) ob a b = a
  either_runs false pc m to end regs t (Some true) ob a b = a
  either_runs w pc m to end regs t (Some false) ob a b = jumps_on_if pc m to end regs t w ob a (b a.regs' a.long a.kept)

  ends_at : (pc to end end' : ℕ) (regs : List ℤ) (t : ℕ) (w : Bool) (o : Option Bool) → end ≡ end' → JumpsIf pc to end regs t w o → JumpsIf pc to end' regs t w o
  ends_at pc to end end' regs t w o e j = subst (λ q. JumpsIf pc to q regs t w o) e j

  module _ (valid : (k : ℕ) (i : Instr) → slice_get (slice_index_or procs p []) k ≡ Some i → WritesBelow size i) (low_slot : slot < 2 ^ 8) (low_width : width < 2 ^ 8) where
    abbrev SoRuns : Expr → Option Operator → Type 0
    SoRuns e o = (n to t pc : ℕ) (vars regs : List ℤ) → IsWithin n e → n ≤ t → Agree size n vars regs → HasAt procs slot width p size pc (jump_code true o e to t pc)
        → JumpsIf pc to (pc + (length (operand_code e t) + jumps true o)) regs t true (test_of (Holds e) slot width vars)

    past : (e : Expr) → SoRuns e None
    past e n to t pc vars regs h le agree has =
        let ce = operand_code e t in
        let e1 : pc + length ce + 2 ≡ pc + (length ce + 2) = omega arith in
        ends_at pc to _ _ regs t true (test_of (Holds e) slot width vars) e1
        (past_runs to (operand e t) pc (pc + length ce) t regs (value_of e slot width vars) (has_back procs slot width p size pc ce _ has)
        (operand_runs procs slot width p size valid low_slot low_width e n t pc vars regs h le agree (has_front procs slot width p size pc ce _ has)))

    exchanged : (op o : Operator) → ((x y : ℤ) → FitsSigned w64 x → FitsSigned w64 y → AreOpposed (result_of op x y) (result_of o y x)) → (q : Box (Unit {0}) Global) (a : Expr)
        (r : Box (Unit {0}) Global) (b : Expr) → SoRuns (Two' op q a r b) (Some o)
    exchanged op o are q a r b n to t pc vars regs h le agree has =
        let co = opposed_code o (Two' op q a r b) t in
        let e1 : pc + length co + 1 ≡ pc + (length (operand_code (Two' op q a r b) t) + 1) = omega (arith, opposed_length o (Two' op q a r b) t) in
        ends_at pc to _ _ regs t true (test_of (Holds (Two' op q a r b)) slot width vars) e1
        (opposed_runs op o are to pc (pc + length co) t regs (value_of a slot width vars) (value_of b slot width vars)
        (value_fits a n slot width vars low_slot low_width h.0 agree.fit) (value_fits b n slot width vars low_slot low_width h.1 agree.fit)
        (has_back procs slot width p size pc co _ has).0
        (exchanged_runs procs slot width p size valid low_slot low_width o a b n t pc vars regs h.0 h.1 le agree (has_front procs slot width p size pc co _ has)))

    so_runs : (e : Expr) → SoRuns e (opposed e)
    so_runs (Two' Below q a r b) = exchanged Below AtMost (λ x y fx fy. below_opposed x y) q a r b
    so_runs (Two' AtMost q a r b) = exchanged AtMost Below (λ x y fx fy. at_most_opposed x y) q a r b
    so_runs (Two' Equal q a r b) = exchanged Equal Minus equal_opposed q a r b
    so_runs (Two' Minus q a r b) = exchanged Minus Equal minus_opposed q a r b
    so_runs (Two' Plus q a r b) = past (Two' Plus q a r b)
    so_runs (Two' Times q a r b) = past (Two' Times q a r b)
    so_runs (Two' Over q a r b) = past (Two' Over q a r b)
    so_runs (Two' Remainder q a r b) = past (Two' Remainder q a r b)
    so_runs (Two' BitAnd q a r b) = past (Two' BitAnd q a r b)
    so_runs (Two' BitOr q a r b) = past (Two' BitOr q a r b)
    so_runs (Two' BitXor q a r b) = past (Two' BitXor q a r b)
    so_runs (Two' ShiftLeft q a r b) = past (Two' ShiftLeft q a r b)
    so_runs (Two' ShiftRight q a r b) = past (Two' ShiftRight q a r b)
    so_runs (Number z) = past (Number z)
    so_runs (Variable x) = past (Variable x)
    so_runs Slot = past Slot
    so_runs Width = past Width

    abbrev HeldRuns : Expr → Option Expr → Type 0
    HeldRuns e o = (w : Bool) (n to t pc : ℕ) (vars regs : List ℤ) → IsWithin n e → n ≤ t → Agree size n vars regs → HasAt procs slot width p size pc (holds_code o e w to t pc)
        → JumpsIf pc to (pc + holds_size o e w t) regs t w (test_of (Holds e) slot width vars)

    plain_runs : (e : Expr) → HeldRuns e None
    plain_runs e true n to t pc vars regs h le agree has = so_runs e n to t pc vars regs h le agree has
    plain_runs e false n to t pc vars regs h le agree has =
        let ce = operand_code e t in
        let e1 : pc + length ce + 1 ≡ pc + (length ce + 1) = omega arith in
        ends_at pc to _ _ regs t false (test_of (Holds e) slot width vars) e1
        (not_runs to (operand e t) pc (pc + length ce) t regs (value_of e slot width vars) (has_back procs slot width p size pc ce _ has).0
        (operand_runs procs slot width p size valid low_slot low_width e n t pc vars regs h le agree (has_front procs slot width p size pc ce _ has)))

    -- a comparison with 0
    zero_runs : (q : Box (Unit {0}) Global) (a : Expr) (r : Box (Unit {0}) Global) (b : Expr) (z : Bool) → is_zero b ≡ z → HeldRuns (Two' Equal q a r b) (if z then Some a else None)
    zero_runs q a r b false e w n to t pc vars regs h le agree has = plain_runs (Two' Equal q a r b) w n to t pc vars regs h le agree has
    zero_runs q a r b true e w n to t pc vars regs h le agree has =
        subst (JumpsIf pc to (pc + holds_size (Some a) (Two' Equal q a r b) w t) regs t w) (compared_same b slot width vars (value_of a slot width vars) e)
        (flipped pc to _ regs t w (test_of (Holds a) slot width vars) (plain_runs a (not w) n to t pc vars regs h.0 le agree has))

    held_runs : (e : Expr) → HeldRuns e (compared e)
    held_runs (Two' Equal q a r b) = zero_runs q a r b (is_zero b) refl
    held_runs (Two' Below q a r b) = plain_runs (Two' Below q a r b)
    held_runs (Two' AtMost q a r b) = plain_runs (Two' AtMost q a r b)
    held_runs (Two' Minus q a r b) = plain_runs (Two' Minus q a r b)
    held_runs (Two' Plus q a r b) = plain_runs (Two' Plus q a r b)
    held_runs (Two' Times q a r b) = plain_runs (Two' Times q a r b)
    held_runs (Two' Over q a r b) = plain_runs (Two' Over q a r b)
    held_runs (Two' Remainder q a r b) = plain_runs (Two' Remainder q a r b)
    held_runs (Two' BitAnd q a r b) = plain_runs (Two' BitAnd q a r b)
    held_runs (Two' BitOr q a r b) = plain_runs (Two' BitOr q a r b)
    held_runs (Two' BitXor q a r b) = plain_runs (Two' BitXor q a r b)
    held_runs (Two' ShiftLeft q a r b) = plain_runs (Two' ShiftLeft q a r b)
    held_runs (Two' ShiftRight q a r b) = plain_runs (Two' ShiftRight q a r b)
    held_runs (Number z) = plain_runs (Number z)
    held_runs (Variable x) = plain_runs (Variable x)
    held_runs Slot = plain_runs Slot
    held_runs Width = plain_runs Width

    pub test_runs : (c : Test) (w : Bool) (n to t pc : ℕ) (vars regs : List ℤ) → IsTestWithin n c → n ≤ t → Agree size n vars regs → HasAt procs slot width p size pc (test_code c w to t pc)
        → JumpsIf pc to (pc + test_size c w t) regs t w (test_of c slot width vars)
    test_runs (Holds e) w n to t pc vars regs h le agree has = held_runs e w n to t pc vars regs h le agree has
    test_runs (Not' q c) w n to t pc vars regs h le agree has = flipped pc to _ regs t w (test_of c slot width vars) (test_runs c (not w) n to t pc vars regs h le agree has)
    test_runs (Both' q a r b) w n to t pc vars regs h le agree has =
        let m = pc + test_size a false t in
        let ta = if w then m + test_size b w t else to in
        let ca = test_code a false ta t pc in
        let la : pc + length ca ≡ m = ap (λ k. pc + k) (test_length a false ta t pc) in
        let e1 : m + test_size b w t ≡ pc + (test_size a false t + test_size b w t) = omega arith in
        let hb : HasAt procs slot width p size m (test_code b w to t m) = subst (λ k. HasAt procs slot width p size k (test_code b w to t m)) la (has_back procs slot width p size pc ca _ has) in
        ends_at pc to _ _ regs t w (test_of (Both' q a r b) slot width vars) e1 (both_run w pc m to (m + test_size b w t) regs t (test_of a slot width vars) (test_of b slot width vars)
        (test_runs a false n ta t pc vars regs h.0 le agree (has_front procs slot width p size pc ca _ has))
        (λ regs' long kept. test_runs b w n to t m vars regs' h.1 le (still procs slot width p size valid low_slot low_width n t vars regs regs' le agree long kept) hb))
    test_runs (Either' q a r b) w n to t pc vars regs h le agree has =
        let m = pc + test_size a true t in
        let ta = if w then to else m + test_size b w t in
        let ca = test_code a true ta t pc in
        let la : pc + length ca ≡ m = ap (λ k. pc + k) (test_length a true ta t pc) in
        let e1 : m + test_size b w t ≡ pc + (test_size a true t + test_size b w t) = omega arith in
        let hb : HasAt procs slot width p size m (test_code b w to t m) = subst (λ k. HasAt procs slot width p size k (test_code b w to t m)) la (has_back procs slot width p size pc ca _ has) in
        ends_at pc to _ _ regs t w (test_of (Either' q a r b) slot width vars) e1 (either_runs w pc m to (m + test_size b w t) regs t (test_of a slot width vars) (test_of b slot width vars)
        (test_runs a true n ta t pc vars regs h.0 le agree (has_front procs slot width p size pc ca _ has))
        (λ regs' long kept. test_runs b w n to t m vars regs' h.1 le (still procs slot width p size valid low_slot low_width n t vars regs regs' le agree long kept) hb))
