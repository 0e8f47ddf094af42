-- A procedure with its registers chosen does the same as before.
use Rattle.std.proofs.Common.{◌≡◌, ℕ, zero, suc, ◌+◌, ◌<◌, ℤ, pos, negsuc, Bool, true, false, if◌then◌else◌, List, [], ◌∷◌, get_or, set, Option, Some, None, option_map, refl, sym, ap, subst, ◌∙◌}
use Rattle.std.proofs.Common.{arith, ⊎_elim, length-set, get_or-set_same, get_or-set_other}
use Rattle.std.specs.Prelude.{slice_get, slice_index_or, int_lt, int_le, int_rem}
use Rattle.std.specs.Int.{int_wrapping_add, int_wrapping_sub, int_wrapping_mul, int_wrapping_div, int_bit_and, int_bit_or, int_bit_xor, int_shl, int_shr, w64}
use Rattle.std.specs.Ordering.{int_eq}
use Rattle.std.proofs.lemmas.Bool.{cases_eq}
use Rattle.job_language.specs.declared.instructions.Instr.{Instr}
use Rattle.job_language.specs.declared.instructions.Instr.TheVariants.{Set, Add, Sub, Mul, Div, Lt, Rem, And, Or, Xor, Shl, Shr, Eq, Le, Jz, Jmp, Slot, Width, Spawn, Post, Wait, Cancel, Ask, Isolate}
use Rattle.job_language.specs.declared.instructions.Instr.TheVariants.{Load, Store, Sum, Count, Ret}
use Rattle.job_step.specs.declared.frames.Frame.{Frame}
use Rattle.job_step.specs.declared.effects.Effect.TheVariants.{Moves, DividesByZero}
use Rattle.job_step.specs.Frame.{effect, is_zero, shift_count}
use Rattle.source_language.specs.Meaning.{Operation, Spawns, Posts, Isolates, Stores, Returns}
use Rattle.job_compiler.specs.Traces.{Event, Did, is_return, events_after, frame_by, frame_events}
use Rattle.job_compiler.specs.Colours.{renamed, Flows, IsColoured, Same}

events_alike : (o : Operation) (answers : List (ℤ × ℤ)) (G H : (ℤ × ℤ) → List (ℤ × ℤ) → Option (List Event)) → ((a : ℤ × ℤ) (rest : List (ℤ × ℤ)) → G a rest ≡ H a rest)
    → events_after o answers G ≡ events_after o answers H
events_alike o [] G H each = refl
events_alike o (a ∷ rest) G H each = ap (λ x. if is_return o then Some (Did o ∷ []) else option_map (λ events. Did o ∷ events) x) (each a rest)

module _ (c : ℕ → ℕ → ℕ) (live : ℕ → ℕ → Bool) (most : ℕ) where
  -- what keeps its register is the same
  before : (k next u : ℕ) (vregs regs : List ℤ) → (live k u ≡ true) × (c next u ≡ c k u) → Same c live most k vregs regs → get_or vregs u (pos 0) ≡ get_or regs (c next u) (pos 0)
  before k next u vregs regs was s = s.same u was.0 ∙ ap (λ r. get_or regs r (pos 0)) (sym was.1)

  -- nothing is written
  unwritten : (k next : ℕ) (vregs regs : List ℤ) → Flows c live [] k next → Same c live most k vregs regs → Same c live most next vregs regs
  unwritten k next vregs regs flow s = record {
    all = s.all;
    long = s.long;
    same = λ u l. ⊎_elim (λ (none : ⊥). absurd none) (λ was. before k next u vregs regs was s) (flow u l).0;
  }

  -- one register is written
  written : (k next d : ℕ) (v w : ℤ) (vregs regs : List ℤ) → Flows c live (d ∷ []) k next → d < most → c next d < 8 → v ≡ w → Same c live most k vregs regs
      → Same c live most next (set vregs d v) (set regs (c next d) w)
  written k next d v w vregs regs flow low low' e s = record {
    all = length-set vregs d v ∙ s.all;
    long = length-set regs (c next d) w ∙ s.long;
    same = λ u l. ⊎_elim
        (λ is. subst (λ x. get_or (set vregs d v) x (pos 0) ≡ get_or (set regs (c next d) w) (c next x) (pos 0)) (sym is)
        (get_or-set_same vregs d v (pos 0) (omega (arith, low, s.all)) ∙ e ∙ sym (get_or-set_same regs (c next d) w (pos 0) (omega (arith, low', s.long)))))
        (λ other. get_or-set_other vregs d u v (pos 0) other
        ∙ ⊎_elim (λ within. ⊎_elim (λ is. absurd (other is)) (λ (none : ⊥). absurd none) within) (λ was. before k next u vregs regs was s) (flow u l).0
        ∙ sym (get_or-set_other regs (c next d) (c next u) w (pos 0) ((flow u l).1.0 other)))
        (cases_eq u d);
  }

  -- two are written, one after the other
  both_written : (k next d e : ℕ) (x y : ℤ) (vregs regs : List ℤ) → Flows c live (d ∷ e ∷ []) k next → d < most → c next d < 8 → e < most → c next e < 8 → Same c live most k vregs regs
      → Same c live most next (set (set vregs d x) e y) (set (set regs (c next d) x) (c next e) y)
  both_written k next d e x y vregs regs flow low low' low2 low2' s = record {
    all = length-set (set vregs d x) e y ∙ length-set vregs d x ∙ s.all;
    long = length-set (set regs (c next d) x) (c next e) y ∙ length-set regs (c next d) x ∙ s.long;
    same = λ u l. ⊎_elim
        (λ is. subst (λ z. get_or (set (set vregs d x) e y) z (pos 0) ≡ get_or (set (set regs (c next d) x) (c next e) y) (c next z) (pos 0)) (sym is)
        (get_or-set_same (set vregs d x) e y (pos 0) (omega (arith, low2, s.all, length-set vregs d x))
        ∙ sym (get_or-set_same (set regs (c next d) x) (c next e) y (pos 0) (omega (arith, low2', s.long, length-set regs (c next d) x)))))
        (λ other. get_or-set_other (set vregs d x) e u y (pos 0) other ∙ first u l other ∙ sym (get_or-set_other (set regs (c next d) x) (c next e) (c next u) y (pos 0) ((flow u l).1.1.0 other)))
        (cases_eq u e);
  }
    where
      first : (u : ℕ) → live next u ≡ true → (u ≡ e → ⊥) → get_or (set vregs d x) u (pos 0) ≡ get_or (set regs (c next d) x) (c next u) (pos 0)
      first u l not_e = ⊎_elim
          (λ is. subst (λ z. get_or (set vregs d x) z (pos 0) ≡ get_or (set regs (c next d) x) (c next z) (pos 0)) (sym is)
          (get_or-set_same vregs d x (pos 0) (omega (arith, low, s.all)) ∙ sym (get_or-set_same regs (c next d) x (pos 0) (omega (arith, low', s.long)))))
          (λ other. get_or-set_other vregs d u x (pos 0) other ∙ ⊎_elim
          (λ within. ⊎_elim (λ is. absurd (other is)) (λ within'. ⊎_elim (λ is. absurd (not_e is)) (λ (none : ⊥). absurd none) within') within) (λ was. before k next u vregs regs was s) (flow u l).0
          ∙ sym (get_or-set_other regs (c next d) (c next u) x (pos 0) ((flow u l).1.0 other)))
          (cases_eq u d)

module _ (vprocs procs : List (List Instr)) (slot width p most : ℕ) (c : ℕ → ℕ → ℕ) (live : ℕ → ℕ → Bool)
    (coloured : IsColoured most (slice_index_or vprocs p []) (slice_index_or procs p []) c live) where
  abbrev at : ℕ → List ℤ → Frame
  at k regs = record { procedure = p; place = k; registers = regs }

  abbrev Alike : ℕ → Type 0
  Alike n = (k : ℕ) (vregs regs : List ℤ) (answers : List (ℤ × ℤ)) → Same c live most k vregs regs → frame_events vprocs slot width n (at k vregs) answers
      ≡ frame_events procs slot width n (at k regs) answers

  module _ (n : ℕ) (ih : Alike n) (k : ℕ) (vregs regs : List ℤ) (answers : List (ℤ × ℤ)) (s : Same c live most k vregs regs) where
    abbrev By : Instr → Type 0
    By i = slice_get (slice_index_or vprocs p []) k ≡ Some i → frame_by (frame_events vprocs slot width n) (at k vregs) (effect i slot width (at k vregs)) (Some i) answers
        ≡ frame_by (frame_events procs slot width n) (at k regs) (effect (renamed (c k) (c (k + 1)) i) slot width (at k regs)) (Some (renamed (c k) (c (k + 1)) i)) answers

    moves_alike : (d : ℕ) (v w : ℤ) → Flows c live (d ∷ []) k (k + 1) → d < most → c (k + 1) d < 8 → v ≡ w
        → frame_events vprocs slot width n (at (k + 1) (set vregs d v)) answers ≡ frame_events procs slot width n (at (k + 1) (set regs (c (k + 1) d) w)) answers
    moves_alike d v w flow low low' e = ih (k + 1) (set vregs d v) (set regs (c (k + 1) d) w) answers (written c live most k (k + 1) d v w vregs regs flow low low' e s)

    two : (f : ℤ → ℤ → ℤ) (a b : ℕ) → live k a ≡ true → live k b ≡ true → f (get_or vregs a (pos 0)) (get_or vregs b (pos 0)) ≡ f (get_or regs (c k a) (pos 0)) (get_or regs (c k b) (pos 0))
    two f a b la lb = rw (s.same a la, s.same b lb) refl

    goes_alike : (next : ℕ) → Flows c live [] k next → frame_events vprocs slot width n (at next vregs) answers ≡ frame_events procs slot width n (at next regs) answers
    goes_alike next flow = ih next vregs regs answers (unwritten c live most k next vregs regs flow s)

    -- an operation whose answer is written
    answer_alike : (o : Operation) (d : ℕ) → Flows c live (d ∷ []) k (k + 1) → d < most → c (k + 1) d < 8
        → events_after o answers (λ a rest. frame_events vprocs slot width n (at (k + 1) (set vregs d a.0)) rest)
        ≡ events_after o answers (λ a rest. frame_events procs slot width n (at (k + 1) (set regs (c (k + 1) d) a.0)) rest)
    answer_alike o d flow low low' = events_alike o answers _ _ (λ a rest. ih (k + 1) (set vregs d a.0) (set regs (c (k + 1) d) a.0) rest
        (written c live most k (k + 1) d a.0 a.0 vregs regs flow low low' refl s))

    -- an operation whose answer is not
    silent_alike : (o : Operation) → Flows c live [] k (k + 1)
        → events_after o answers (λ a rest. frame_events vprocs slot width n (at (k + 1) vregs) rest) ≡ events_after o answers (λ a rest. frame_events procs slot width n (at (k + 1) regs) rest)
    silent_alike o flow = events_alike o answers _ _ (λ a rest. ih (k + 1) vregs regs rest (unwritten c live most k (k + 1) vregs regs flow s))

    -- a division or what it leaves
    divides_alike : (i i' : Instr) (op : ℤ → ℤ → ℤ) (d : ℕ) (y y' : ℤ) → y ≡ y' → (x x' : ℤ) → x ≡ x'
        → ((v v' : ℤ) → v ≡ v' → frame_events vprocs slot width n (at (k + 1) (set vregs d v)) answers ≡ frame_events procs slot width n (at (k + 1) (set regs (c (k + 1) d) v')) answers)
        → frame_by (frame_events vprocs slot width n) (at k vregs) (if is_zero y then DividesByZero else Moves (at (k + 1) (set vregs d (op x y)))) (Some i) answers
        ≡ frame_by (frame_events procs slot width n) (at k regs) (if is_zero y' then DividesByZero else Moves (at (k + 1) (set regs (c (k + 1) d) (op x' y')))) (Some i') answers
    divides_alike i i' op d y y' ey x x' ex each = subst (λ (z : ℤ). frame_by (frame_events vprocs slot width n) (at k vregs)
        (if is_zero y then DividesByZero else Moves (at (k + 1) (set vregs d (op x y)))) (Some i) answers
        ≡ frame_by (frame_events procs slot width n) (at k regs) (if is_zero z then DividesByZero else Moves (at (k + 1) (set regs (c (k + 1) d) (op x' z)))) (Some i') answers) ey (by_y y)
      where
        by_y : (y : ℤ)
            → frame_by (frame_events vprocs slot width n) (at k vregs) (if is_zero y then DividesByZero else Moves (at (k + 1) (set vregs d (op x y)))) (Some i) answers
            ≡ frame_by (frame_events procs slot width n) (at k regs) (if is_zero y then DividesByZero else Moves (at (k + 1) (set regs (c (k + 1) d) (op x' y)))) (Some i') answers
        by_y (pos zero) = refl
        by_y (pos (suc m)) = each _ _ (ap (λ z. op z (pos (suc m))) ex)
        by_y (negsuc m) = each _ _ (ap (λ z. op z (negsuc m)) ex)

    by_instr : (i : Instr) → By i
    by_instr (Set d z) h = let l = coloured.low k _ h in let w = coloured.flow k _ h in moves_alike d z z w.0 l.0.0 l.0.1 refl
    by_instr (Add d a b) h = let l = coloured.low k _ h in let w = coloured.flow k _ h in let r = coloured.read k _ h in moves_alike d _ _ w.0 l.0.0 l.0.1 (two (int_wrapping_add w64) a b r.0 r.1.0)
    by_instr (Sub d a b) h = let l = coloured.low k _ h in let w = coloured.flow k _ h in let r = coloured.read k _ h in moves_alike d _ _ w.0 l.0.0 l.0.1 (two (int_wrapping_sub w64) a b r.0 r.1.0)
    by_instr (Mul d a b) h = let l = coloured.low k _ h in let w = coloured.flow k _ h in let r = coloured.read k _ h in moves_alike d _ _ w.0 l.0.0 l.0.1 (two (int_wrapping_mul w64) a b r.0 r.1.0)
    by_instr (Lt d a b) h = let l = coloured.low k _ h in let w = coloured.flow k _ h in let r = coloured.read k _ h in moves_alike d _ _ w.0 l.0.0 l.0.1
        (two (λ x y. if int_lt x y then pos 1 else pos 0) a b r.0 r.1.0)
    by_instr (Div d a b) h = let l = coloured.low k _ h in let w = coloured.flow k _ h in let r = coloured.read k _ h in
        divides_alike (Div d a b) (Div (c (k + 1) d) (c k a) (c k b)) (int_wrapping_div w64) d (get_or vregs b (pos 0)) (get_or regs (c k b) (pos 0)) (s.same b r.1.0) (get_or vregs a (pos 0))
        (get_or regs (c k a) (pos 0)) (s.same a r.0)
        (λ v v' e. moves_alike d v v' w.0 l.0.0 l.0.1 e)
    by_instr (Rem d a b) h = let l = coloured.low k _ h in let w = coloured.flow k _ h in let r = coloured.read k _ h in
        divides_alike (Rem d a b) (Rem (c (k + 1) d) (c k a) (c k b)) int_rem d (get_or vregs b (pos 0)) (get_or regs (c k b) (pos 0)) (s.same b r.1.0) (get_or vregs a (pos 0))
        (get_or regs (c k a) (pos 0))
        (s.same a r.0)
        (λ v v' e. moves_alike d v v' w.0 l.0.0 l.0.1 e)
    by_instr (And d a b) h = let l = coloured.low k _ h in let w = coloured.flow k _ h in let r = coloured.read k _ h in moves_alike d _ _ w.0 l.0.0 l.0.1 (two (int_bit_and w64) a b r.0 r.1.0)
    by_instr (Or d a b) h = let l = coloured.low k _ h in let w = coloured.flow k _ h in let r = coloured.read k _ h in moves_alike d _ _ w.0 l.0.0 l.0.1 (two (int_bit_or w64) a b r.0 r.1.0)
    by_instr (Xor d a b) h = let l = coloured.low k _ h in let w = coloured.flow k _ h in let r = coloured.read k _ h in moves_alike d _ _ w.0 l.0.0 l.0.1 (two (int_bit_xor w64) a b r.0 r.1.0)
    by_instr (Shl d a b) h = let l = coloured.low k _ h in let w = coloured.flow k _ h in let r = coloured.read k _ h in
        moves_alike d _ _ w.0 l.0.0 l.0.1 (two (λ x y. int_shl w64 x (shift_count y)) a b r.0 r.1.0)
    by_instr (Shr d a b) h = let l = coloured.low k _ h in let w = coloured.flow k _ h in let r = coloured.read k _ h in
        moves_alike d _ _ w.0 l.0.0 l.0.1 (two (λ x y. int_shr x (shift_count y)) a b r.0 r.1.0)
    by_instr (Eq d a b) h = let l = coloured.low k _ h in let w = coloured.flow k _ h in let r = coloured.read k _ h in
        moves_alike d _ _ w.0 l.0.0 l.0.1 (two (λ x y. if int_eq x y then pos 1 else pos 0) a b r.0 r.1.0)
    by_instr (Le d a b) h = let l = coloured.low k _ h in let w = coloured.flow k _ h in let r = coloured.read k _ h in
        moves_alike d _ _ w.0 l.0.0 l.0.1 (two (λ x y. if int_le x y then pos 1 else pos 0) a b r.0 r.1.0)
    by_instr (Jz a t) h = let w = coloured.flow k _ h in let r = coloured.read k _ h in
        subst (λ (z : ℤ). frame_events vprocs slot width n (at (if is_zero (get_or vregs a (pos 0)) then t else k + 1) vregs) answers
        ≡ frame_events procs slot width n (at (if is_zero z then t else k + 1) regs) answers) (s.same a r.0)
        (by_test (is_zero (get_or vregs a (pos 0))) (goes_alike t w.0) (goes_alike (k + 1) w.1.0))
      where
        by_test : (b : Bool) → frame_events vprocs slot width n (at t vregs) answers ≡ frame_events procs slot width n (at t regs) answers
            → frame_events vprocs slot width n (at (k + 1) vregs) answers ≡ frame_events procs slot width n (at (k + 1) regs) answers
            → frame_events vprocs slot width n (at (if b then t else k + 1) vregs) answers ≡ frame_events procs slot width n (at (if b then t else k + 1) regs) answers
        by_test true x y = x
        by_test false x y = y
    by_instr (Jmp t) h = let w = coloured.flow k _ h in goes_alike t w.0
    by_instr (Slot d) h = let l = coloured.low k _ h in let w = coloured.flow k _ h in moves_alike d (pos slot) (pos slot) w.0 l.0.0 l.0.1 refl
    by_instr (Width d) h = let l = coloured.low k _ h in let w = coloured.flow k _ h in moves_alike d (pos width) (pos width) w.0 l.0.0 l.0.1 refl
    by_instr (Spawn g q a b) h = let w = coloured.flow k _ h in let r = coloured.read k _ h in
        rw (s.same a r.0, s.same b r.1.0) (silent_alike (Spawns g q (get_or regs (c k a) (pos 0)) (get_or regs (c k b) (pos 0))) w.0)
    by_instr (Post q a b) h = let w = coloured.flow k _ h in let r = coloured.read k _ h in
        rw (s.same a r.0, s.same b r.1.0) (silent_alike (Posts q (get_or regs (c k a) (pos 0)) (get_or regs (c k b) (pos 0))) w.0)
    by_instr (Wait d e g) h = let l = coloured.low k _ h in let w = coloured.flow k _ h in
        events_alike _ answers _ _ (λ a rest. ih (k + 1) (set (set vregs d a.0) e a.1) (set (set regs (c (k + 1) d) a.0) (c (k + 1) e) a.1) rest
        (both_written c live most k (k + 1) d e a.0 a.1 vregs regs w.0 l.0.0 l.0.1 l.1.0.0 l.1.0.1 s))
    by_instr (Cancel g) h = let w = coloured.flow k _ h in silent_alike _ w.0
    by_instr (Ask d) h = let l = coloured.low k _ h in let w = coloured.flow k _ h in answer_alike _ d w.0 l.0.0 l.0.1
    by_instr (Isolate d q a b) h = let l = coloured.low k _ h in let w = coloured.flow k _ h in let r = coloured.read k _ h in
        rw (s.same a r.0, s.same b r.1.0) (answer_alike (Isolates q (get_or regs (c k a) (pos 0)) (get_or regs (c k b) (pos 0))) d w.0 l.0.0 l.0.1)
    by_instr (Load d key) h = let l = coloured.low k _ h in let w = coloured.flow k _ h in answer_alike _ d w.0 l.0.0 l.0.1
    by_instr (Store key a) h = let w = coloured.flow k _ h in let r = coloured.read k _ h in
        rw (s.same a r.0) (silent_alike (Stores key (get_or regs (c k a) (pos 0))) w.0)
    by_instr (Sum d key) h = let l = coloured.low k _ h in let w = coloured.flow k _ h in answer_alike _ d w.0 l.0.0 l.0.1
    by_instr (Count d key) h = let l = coloured.low k _ h in let w = coloured.flow k _ h in answer_alike _ d w.0 l.0.0 l.0.1
    by_instr (Ret a) h = let r = coloured.read k _ h in
        rw (s.same a r.0) (events_ret (Returns (get_or regs (c k a) (pos 0))) refl)
      where
        events_ret : (o : Operation) → is_return o ≡ true
            → events_after o answers (λ x rest. frame_events vprocs slot width n (at (k + 1) vregs) rest) ≡ events_after o answers (λ x rest. frame_events procs slot width n (at (k + 1) regs) rest)
        events_ret o e = by_answers answers
          where
            by_answers : (answers : List (ℤ × ℤ))
                → events_after o answers (λ x rest. frame_events vprocs slot width n (at (k + 1) vregs) rest)
                ≡ events_after o answers (λ x rest. frame_events procs slot width n (at (k + 1) regs) rest)
            by_answers [] = refl
            by_answers (x ∷ rest) = rw e refl

    by_place : (o : Option Instr) → slice_get (slice_index_or vprocs p []) k ≡ o
        → frame_events vprocs slot width (suc n) (at k vregs) answers ≡ frame_events procs slot width (suc n) (at k regs) answers
    by_place None here = rw (here, coloured.nowhere k here) refl
    by_place (Some i) here = rw (here, coloured.renames k i here) (by_instr i here)

  pub alike : (n : ℕ) → Alike n
  alike zero k vregs regs answers s = refl
  alike (suc n) k vregs regs answers s = by_place n (alike n) k vregs regs answers s (slice_get (slice_index_or vprocs p []) k) refl
