-- What a compiled program gives serially, its source gives.
use Rattle.std.proofs.Common.{◌≡◌, ℕ, zero, suc, ◌+◌, ◌<◌, ◌≤◌, ℤ, pos, Bool, true, false, if◌then◌else◌, List, [], get_or, set, replicate, Option, Some, None, option_map, IfSome, MatchOption, refl}
use Rattle.std.proofs.Common.{sym, ap, subst, ◌∙◌, arith, FitsSigned}
use Rattle.std.specs.Prelude.{slice_get, slice_index_or}
use Rattle.std.specs.Int.{w64}
use Rattle.std.proofs.lemmas.Option.{none-some, same_Some}
use Rattle.job_language.specs.declared.instructions.Instr.{Instr}
use Rattle.job_language.specs.declared.instructions.Instr.TheVariants.{Set, Add, Sub, Mul, Div, Lt, Rem, And, Or, Xor, Shl, Shr, Eq, Le, Jz, Jmp, Slot, Width, Spawn, Post, Wait, Cancel, Ask, Isolate}
use Rattle.job_language.specs.declared.instructions.Instr.TheVariants.{Load, Store, Sum, Count, Ret}
use Rattle.job_step.specs.declared.frames.Frame.{Frame}
use Rattle.job_step.specs.Frame.{new_frame, register, instr_at}
use Rattle.tenant_model.specs.declared.serials.SerialTask.{SerialTask}
use Rattle.tenant_model.specs.declared.serials.SerialTurn.TheVariants.{Gives, Fails}
use Rattle.tenant_model.specs.Serial.{Given, given_by, given_then, given_of, new_task, turn_of, turn_at, after_wait, root_task, serial_value, TakesInstructions}
use Rattle.tenant_model.proofs.SerialRule.{given_of-zero, given_of-suc, takes_instructions}
use Rattle.source_language.specs.declared.syntax.Function.{Function}
use Rattle.source_language.specs.Meaning.{Operation, Spawns, Posts, Isolates, Waits, Cancels, Asks, Loads, Sums, Counts, Stores, Returns, Point, Act, Divides, Does, act, answered, start}
use Rattle.source_language.specs.Meaning as source
use Rattle.job_compiler.specs.Operations.{operation_of, resumed}
use Rattle.job_compiler.specs.Traces.{is_return, DoesTheSame}
use Rattle.job_compiler.specs.Compiled.{IsCompiled}
use Rattle.job_compiler.specs.Runs.{point_after, if_goes}
use Rattle.job_compiler.proofs.RunsFollow.{meets}
use Rattle.source_serial.specs.SourceSerial.{SourceTask, sum_at, added, owes, task_of, given_to, then_with, does_serially, serially, source_given, source_value}
use Rattle.job_compiler.specs.Programs.{IsCompiledProgram}
use Rattle.source_serial.proofs.Turns.{numbers_fit, RegsFit, SumsFit, wrapped_fits, nought_fits, one_fits, regs_set, sums_set, new_sums, comes}

given_to_extends : (F G : SourceTask → Option ℤ) → ((t : SourceTask) (v : ℤ) → F t ≡ Some v → G t ≡ Some v) → (o : Option SourceTask) (w : ℤ) → given_to F o ≡ Some w → given_to G o ≡ Some w
given_to_extends F G h None w e = e
given_to_extends F G h (Some t) w e = h t w e

then_extends : (x y : Option ℤ) (f g : ℤ → Option ℤ) (v : ℤ) → ((w : ℤ) → x ≡ Some w → y ≡ Some w) → ((w : ℤ) → f w ≡ Some v → g w ≡ Some v) → then_with x f ≡ Some v → then_with y g ≡ Some v
then_extends None y f g v hx hf e = absurd (none-some v e)
then_extends (Some w) y f g v hx hf e = ap (λ o. then_with o g) (hx w refl) ∙ hf w e

module _ (fs : List Function) where
  does_extends : (F G : SourceTask → Option ℤ) → ((t : SourceTask) (v : ℤ) → F t ≡ Some v → G t ≡ Some v) → (t : SourceTask) (o : Operation) (v : ℤ) → does_serially F fs t o ≡ Some v
      → does_serially G fs t o ≡ Some v
  does_extends F G h t (Spawns g p x y) v e = then_extends _ _ _ _ v (λ w. given_to_extends F G h (task_of (slice_get fs p) x y) w) (λ w. h _ v) e
  does_extends F G h t (Isolates p x y) v e = then_extends _ _ _ _ v (λ w. given_to_extends F G h (task_of (slice_get fs p) x y) w) (λ w. h _ v) e
  does_extends F G h t (Waits g) v e = h _ v e
  does_extends F G h t (Posts p x y) v e = e
  does_extends F G h t (Cancels g) v e = e
  does_extends F G h t Asks v e = e
  does_extends F G h t (Loads k) v e = e
  does_extends F G h t (Sums k) v e = e
  does_extends F G h t (Counts k) v e = e
  does_extends F G h t (Stores k x) v e = e
  does_extends F G h t (Returns x) v e = e

  act_extends : (F G : SourceTask → Option ℤ) → ((t : SourceTask) (v : ℤ) → F t ≡ Some v → G t ≡ Some v) → (t : SourceTask) (a : Act) (v : ℤ) → serially F fs t a ≡ Some v → serially G fs t a ≡ Some v
  act_extends F G h t (source.Goes q) v e = h _ v e
  act_extends F G h t Divides v e = e
  act_extends F G h t (Does o) v e = does_extends F G h t o v e

  pub longer : (n j : ℕ) (t : SourceTask) (v : ℤ) → source_given n fs t ≡ Some v → source_given (n + j) fs t ≡ Some v
  longer zero j t v e = absurd (none-some v e)
  longer (suc n) j t v e =
      let z : suc n + j ≡ suc (n + j) = omega arith in
      ap (λ k. source_given k fs t) z ∙ act_extends (source_given n fs) (source_given (n + j) fs) (longer n j) t (act 0 0 t.point) v e

  given_after : (k : ℕ) (p q : Point) (sums : List (Option ℤ)) (n : ℕ) → point_after 0 0 p k ≡ Some q
      → source_given (k + n) fs (record { point = p; sums = sums }) ≡ source_given n fs (record { point = q; sums = sums })
  given_after zero p q sums n e = let z : 0 + n ≡ n = omega arith in ap (λ m. source_given m fs (record { point = p; sums = sums })) z
      ∙ ap (λ (x : Point). source_given n fs (record { point = x; sums = sums })) (same_Some p q e)
  given_after (suc k) p q sums n e = ap (λ m. source_given m fs (record { point = p; sums = sums })) z ∙ by_act (λ x e'. given_after k x q sums n e') (act 0 0 p) e
    where
      z : suc k + n ≡ suc (k + n)
      z = omega arith

      by_act : ((x : Point) → point_after 0 0 x k ≡ Some q → source_given (k + n) fs (record { point = x; sums = sums }) ≡ source_given n fs (record { point = q; sums = sums })) → (a : Act)
          → if_goes (λ x. point_after 0 0 x k) a ≡ Some q → serially (source_given (k + n) fs) fs (record { point = p; sums = sums }) a ≡ source_given n fs (record { point = q; sums = sums })
      by_act ih (source.Goes x) e = ih x e
      by_act ih Divides e = absurd (none-some q e)
      by_act ih (Does o) e = absurd (none-some q e)

  module _ (procs : List (List Instr)) (compiled : IsCompiledProgram fs procs) where
    pub record Related (t : SourceTask) (u : SerialTask) : Type 0 where
      pub same : DoesTheSame procs 0 0 t.point u.frame
      pub sums : t.sums ≡ u.sums
      pub regs : RegsFit u.frame.registers
      pub fit : SumsFit u.sums

    record Found (t : SourceTask) (v : ℤ) : Type 0 where
      steps : ℕ
      gives : source_given steps fs t ≡ Some v
      fits : FitsSigned w64 v

    record Finds (t : SourceTask) (o : Operation) (v : ℤ) : Type 0 where
      steps : ℕ
      gives : does_serially (source_given steps fs) fs t o ≡ Some v
      fits : FitsSigned w64 v

    -- the task of the source that stands beside a new one
    record Child (p : ℕ) (x y : ℤ) : Type 0 where
      task : SourceTask
      is : task_of (slice_get fs p) x y ≡ Some task
      related : Related task (new_task (new_frame p x y))

    six_noughts : (n r : ℕ) → FitsSigned w64 (get_or (replicate n (pos 0)) r (pos 0))
    six_noughts zero r = nought_fits
    six_noughts (suc n) zero = nought_fits
    six_noughts (suc n) (suc r) = six_noughts n r

    pub new_regs : (p : ℕ) (x y : ℤ) → FitsSigned w64 x → FitsSigned w64 y → RegsFit (new_frame p x y).registers
    new_regs p x y fx fy zero = fx
    new_regs p x y fx fy (suc zero) = fy
    new_regs p x y fx fy (suc (suc r)) = six_noughts 6 r

    nowhere : (k p : ℕ) (x y : ℤ) → slice_index_or procs p [] ≡ [] → given_of procs k (new_task (new_frame p x y)) ≡ None
    nowhere zero p x y e = given_of-zero procs (new_task (new_frame p x y))
    nowhere (suc k) p x y e =
        let none : instr_at procs (new_frame p x y) ≡ None = ap (λ l. slice_get l 0) e in
        given_of-suc procs k (new_task (new_frame p x y)) ∙ ap (λ o. given_by (given_of procs) k (turn_at o (new_task (new_frame p x y)))) none

    child : (k p : ℕ) (x y : ℤ) (g : ℤ × ℕ) → FitsSigned w64 x → FitsSigned w64 y → given_of procs k (new_task (new_frame p x y)) ≡ Some g → Child p x y
    child k p x y g fx fy e = by_function (slice_get fs p) refl (compiled.each p)
      where
        by_function : (o : Option Function) → slice_get fs p ≡ o → MatchOption o (slice_index_or procs p [] ≡ []) (λ f. IsCompiled f (slice_index_or procs p [])) → Child p x y
        by_function None is none = absurd (none-some g (sym (nowhere k p x y none) ∙ e))
        by_function (Some f) is good = record {
          task = record { point = start f x y; sums = replicate 4 None };
          is = ap (λ o. task_of o x y) is;
          related = record { same = good procs p 0 0 x y refl (omega arith) (omega arith) fx fy; sums = refl; regs = new_regs p x y fx fy; fit = new_sums 4 };
        }

    lower : (k : ℕ) (u : SerialTask) (w : ℤ) (mid : ℕ) → given_of procs k u ≡ Some (w, mid) → mid < k
    unfolding TakesInstructions
    lower k u w mid e = subst (λ (o : Given). IfSome o (λ p. p.1 < k)) e (takes_instructions procs k u)

    -- a task was made, and its maker continues with its value
    made_then : (n1 n2 : ℕ) (o : Option SourceTask) (ct t2 : SourceTask) (w v : ℤ) → o ≡ Some ct → source_given n1 fs ct ≡ Some w → source_given n2 fs t2 ≡ Some v
        → (given_to (source_given (n1 + n2) fs) o ≡ Some w) × (source_given (n1 + n2) fs t2 ≡ Some v)
    made_then n1 n2 o ct t2 w v is e1 e2 =
        let z : n1 + n2 ≡ n2 + n1 = omega arith in
        (ap (given_to (source_given (n1 + n2) fs)) is ∙ longer n1 n2 ct w e1, ap (λ k. source_given k fs t2) z ∙ longer n2 n1 t2 v e2)

    module _ (bound : ℕ) (ih : (left : ℕ) → left ≤ bound → (t : SourceTask) (u : SerialTask) → Related t u → (v : ℤ) (rest : ℕ) → given_of procs left u ≡ Some (v, rest) → Found t v) (g : Frame)
        (q : Point) (sums : List (Option ℤ)) (more : ℕ) (low : more ≤ bound) (regs : RegsFit g.registers) (fit : SumsFit sums) (v : ℤ) (rest : ℕ) where
      abbrev here : SourceTask
      here = record { point = q; sums = sums }

      abbrev Goes_on : Instr → Operation → Type 0
      Goes_on i o = is_return o ≡ false → (x y : ℤ) → FitsSigned w64 x → FitsSigned w64 y → DoesTheSame procs 0 0 (answered q x y) (resumed i x y g)

      abbrev Finding : Instr → Operation → Type 0
      Finding i o = Goes_on i o → given_by (given_of procs) more (turn_of i (record { frame = g; sums = sums })) ≡ Some (v, rest) → Finds here o v

      spawned : (gr p a b : ℕ) → Finding (Spawn gr p a b) (Spawns gr p (register g a) (register g b))
      spawned gr p a b goes e = by_first (given_of procs more (new_task (new_frame p (register g a) (register g b)))) refl e
        where
          by_first : (first : Given) → given_of procs more (new_task (new_frame p (register g a) (register g b))) ≡ first
              → given_then first (λ w mid. given_of procs mid (record { frame = record g { place = g.place + 1 }; sums = added sums gr w })) ≡ Some (v, rest)
              → Finds here (Spawns gr p (register g a) (register g b)) v
          by_first None is e = absurd (none-some (v, rest) e)
          by_first (Some f) is e =
              let ch = child more p (register g a) (register g b) f (regs a) (regs b) is in
              let c1 = ih more low ch.task _ ch.related f.0 f.1 is in
              let t2 : SourceTask = record { point = answered q (pos 0) (pos 0); sums = added sums gr f.0 } in
              let rel : Related t2 (record { frame = record g { place = g.place + 1 }; sums = added sums gr f.0 }) = record
              { same = goes refl (pos 0) (pos 0) nought_fits nought_fits; sums = refl; regs = regs; fit = sums_set sums gr _ (wrapped_fits _) fit } in
              let c2 = ih f.1 (omega (arith, low, lower more _ f.0 f.1 is)) t2 _ rel v rest e in
              let both = made_then c1.steps c2.steps (task_of (slice_get fs p) (register g a) (register g b)) ch.task t2 f.0 v ch.is c1.gives c2.gives in
              record {
                steps = c1.steps + c2.steps;
                gives = ap (λ o. then_with o
                    (λ w. source_given (c1.steps + c2.steps) fs (record { point = answered q (pos 0) (pos 0); sums = added sums gr w }))) both.0 ∙ both.1;
                fits = c2.fits;
              }

      isolated : (d p a b : ℕ) → Finding (Isolate d p a b) (Isolates p (register g a) (register g b))
      isolated d p a b goes e = by_first (given_of procs more (new_task (new_frame p (register g a) (register g b)))) refl e
        where
          by_first : (first : Given) → given_of procs more (new_task (new_frame p (register g a) (register g b))) ≡ first
              → given_then first (λ w mid. given_of procs mid (record { frame = record g { place = g.place + 1; registers = set g.registers d w }; sums = sums })) ≡ Some (v, rest)
              → Finds here (Isolates p (register g a) (register g b)) v
          by_first None is e = absurd (none-some (v, rest) e)
          by_first (Some f) is e =
              let ch = child more p (register g a) (register g b) f (regs a) (regs b) is in
              let c1 = ih more low ch.task _ ch.related f.0 f.1 is in
              let t2 : SourceTask = record { point = answered q f.0 (pos 0); sums = sums } in
              let rel : Related t2 (record { frame = record g { place = g.place + 1; registers = set g.registers d f.0 }; sums = sums }) = record
              { same = goes refl f.0 (pos 0) c1.fits nought_fits; sums = refl; regs = regs_set g.registers d f.0 c1.fits regs; fit = fit } in
              let c2 = ih f.1 (omega (arith, low, lower more _ f.0 f.1 is)) t2 _ rel v rest e in
              let both = made_then c1.steps c2.steps (task_of (slice_get fs p) (register g a) (register g b)) ch.task t2 f.0 v ch.is c1.gives c2.gives in
              record {
                steps = c1.steps + c2.steps;
                gives = ap (λ o. then_with o (λ w. source_given (c1.steps + c2.steps) fs (record { point = answered q w (pos 0); sums = sums }))) both.0
                    ∙ both.1;
                fits = c2.fits;
              }

      waited : (d e' gr : ℕ) → Finding (Wait d e' gr) (Waits gr)
      waited d e' gr goes e =
          let s = sum_at sums gr in
          let t2 : SourceTask = record { point = answered q s (pos 1); sums = set sums gr None } in
          let u2 : SerialTask = after_wait (record { frame = g; sums = sums }) d e' gr in
          let rel : Related t2 u2 = record {
            same = goes refl s (pos 1) (fit gr) one_fits;
            sums = refl;
            regs = regs_set (set g.registers d s) e' (pos 1) one_fits
                (regs_set g.registers d s (fit gr) regs);
            fit = sums_set sums gr None nought_fits fit;
          } in
          let c = ih more low t2 u2 rel v rest e in
          record { steps = c.steps; gives = c.gives; fits = c.fits }

      owing_gives : (b : Bool) (x : ℤ) → FitsSigned w64 x → given_by (given_of procs) more (if b then Fails else Gives x) ≡ Some (v, rest) → ((if b then None else Some x) ≡ Some v) × FitsSigned w64 v
      owing_gives true x fx e = absurd (none-some (v, rest) e)
      owing_gives false x fx e = let same : x ≡ v = ap (λ (p : ℤ × ℕ). p.0) (same_Some (x, more) (v, rest) e) in (ap Some same, subst (FitsSigned w64) same fx)

      returned : (a : ℕ) → Finding (Ret a) (Returns (register g a))
      returned a goes e = let r = owing_gives (owes sums) (register g a) (regs a) e in record { steps = 0; gives = r.0; fits = r.1 }

      by_instr : (i : Instr) (o : Operation) → operation_of i g ≡ Some o → Finding i o
      by_instr (Spawn gr p a b) o is goes e = subst (Finding (Spawn gr p a b)) (same_Some (Spawns gr p (register g a) (register g b)) o is) (spawned gr p a b) goes e
      by_instr (Isolate d p a b) o is goes e = subst (Finding (Isolate d p a b)) (same_Some (Isolates p (register g a) (register g b)) o is) (isolated d p a b) goes e
      by_instr (Wait d e' gr) o is goes e = subst (Finding (Wait d e' gr)) (same_Some (Waits gr) o is) (waited d e' gr) goes e
      by_instr (Ret a) o is goes e = subst (Finding (Ret a)) (same_Some (Returns (register g a)) o is) (returned a) goes e
      by_instr (Post p a b) o is goes e = absurd (none-some (v, rest) e)
      by_instr (Cancel gr) o is goes e = absurd (none-some (v, rest) e)
      by_instr (Ask d) o is goes e = absurd (none-some (v, rest) e)
      by_instr (Load d k) o is goes e = absurd (none-some (v, rest) e)
      by_instr (Store k a) o is goes e = absurd (none-some (v, rest) e)
      by_instr (Sum d k) o is goes e = absurd (none-some (v, rest) e)
      by_instr (Count d k) o is goes e = absurd (none-some (v, rest) e)
      by_instr (Set d z) o is goes e = absurd (none-some o is)
      by_instr (Add d a b) o is goes e = absurd (none-some o is)
      by_instr (Sub d a b) o is goes e = absurd (none-some o is)
      by_instr (Mul d a b) o is goes e = absurd (none-some o is)
      by_instr (Div d a b) o is goes e = absurd (none-some o is)
      by_instr (Lt d a b) o is goes e = absurd (none-some o is)
      by_instr (Rem d a b) o is goes e = absurd (none-some o is)
      by_instr (And d a b) o is goes e = absurd (none-some o is)
      by_instr (Or d a b) o is goes e = absurd (none-some o is)
      by_instr (Xor d a b) o is goes e = absurd (none-some o is)
      by_instr (Shl d a b) o is goes e = absurd (none-some o is)
      by_instr (Shr d a b) o is goes e = absurd (none-some o is)
      by_instr (Eq d a b) o is goes e = absurd (none-some o is)
      by_instr (Le d a b) o is goes e = absurd (none-some o is)
      by_instr (Jz a t) o is goes e = absurd (none-some o is)
      by_instr (Jmp t) o is goes e = absurd (none-some o is)
      by_instr (Slot d) o is goes e = absurd (none-some o is)
      by_instr (Width d) o is goes e = absurd (none-some o is)

    back : (bound left : ℕ) → left ≤ bound → (t : SourceTask) (u : SerialTask) → Related t u → (v : ℤ) (rest : ℕ) → given_of procs left u ≡ Some (v, rest) → Found t v
    back zero left le t u r v rest e =
        let z : 0 ≡ left = omega (arith, le) in
        absurd (none-some (v, rest) (sym (given_of-zero procs u) ∙ ap (λ k. given_of procs k u) z ∙ e))
    back (suc bound) left le t u r v rest e =
        let s = comes procs (numbers_fit procs compiled.valid) left u (v, rest) r.regs e in
        let m = meets procs 0 0 t.point u.frame r.same s.steps s.frame s.instr s.by s.there s.shared in
        let w = by_instr bound (back bound) s.frame m.point u.sums s.more (omega (arith, le, s.all)) s.fit r.fit v rest s.instr m.operation m.same m.goes_on s.gives in
        let at_end : does_serially (source_given w.steps fs) fs (record { point = m.point; sums = t.sums }) m.operation
        ≡ Some v = subst (λ (x : List (Option ℤ)). does_serially (source_given w.steps fs) fs (record { point = m.point; sums = x }) m.operation ≡ Some v) (sym r.sums) w.gives in
        record {
          steps = m.steps + suc w.steps;
          gives = given_after m.steps t.point m.point t.sums (suc w.steps) m.there ∙ ap (λ (a : Act). serially (source_given w.steps fs) fs (record { point = m.point; sums = t.sums }) a) m.does
              ∙ at_end;
          fits = w.fits;
        }

pub source_values : (fs : List Function) (procs : List (List Instr)) (args : List ℤ) → IsCompiledProgram fs procs → ((k : ℕ) → FitsSigned w64 (slice_index_or args k (pos 0))) → (left : ℕ) (v : ℤ)
    → serial_value procs args left ≡ Some v → (n : ℕ) × (source_value fs args n ≡ Some v)
source_values fs procs args compiled fit left v e = by_given (given_of procs left (root_task args)) refl e
  where
    by_given : (o : Given) → given_of procs left (root_task args) ≡ o → option_map (λ (p : ℤ × ℕ). p.0) o ≡ Some v → (n : ℕ) × (source_value fs args n ≡ Some v)
    by_given None is e = absurd (none-some v e)
    by_given (Some p) is e =
        let same : p.0 ≡ v = same_Some p.0 v e in
        let ch = child fs procs compiled left 0 (slice_index_or args 0 (pos 0)) (slice_index_or args 1 (pos 0)) p (fit 0) (fit 1) is in
        let f = back fs procs compiled left left (omega arith) ch.task _ ch.related p.0 p.1 is in
        (f.steps, ap (given_to (source_given f.steps fs)) ch.is ∙ f.gives ∙ ap Some same)
