-- How frames come to do what tasks do, and go on so.
use Rattle.std.proofs.Common.{◌≡◌, ℕ, ◌+◌, ◌-◌, ◌<◌, ◌^◌, ℤ, false, List, [], ◌∷◌, ◌++◌, length, Option, Some, None, refl, sym, ap, subst, ◌∙◌, arith, ⊎_elim, MatchOption, FitsSigned}
use Rattle.std.specs.Prelude.{slice_get, slice_index_or}
use Rattle.std.specs.Int.{w64}
use Rattle.std.proofs.lemmas.Bool.{cases_lt}
use Rattle.std.proofs.lemmas.Option.{none-some, same_Some}
use Rattle.job_language.specs.Program.{IsValidProgram}
use Rattle.job_language.specs.declared.instructions.Instr.{Instr}
use Rattle.job_language.specs.declared.instructions.Instr.TheVariants.{Ret}
use Rattle.job_step.specs.declared.effects.Effect.TheVariants.{IsShared}
use Rattle.job_step.specs.declared.frames.Frame.{Frame}
use Rattle.job_step.specs.Frame.{instr_at, effect, new_frame, register}
use Rattle.job_step.specs.Least.{frame_after, moves_of}
use Rattle.job_step.specs.Run.{run_of}
use Rattle.job_step.proofs.Least.{runs_are_least}
use Rattle.source_language.specs.declared.syntax.Function.{Function}
use Rattle.source_language.specs.Meaning.{Returns, Point, Does, answered, start}
use Rattle.job_compiler.specs.Operations.{operation_of, resumed}
use Rattle.job_compiler.specs.Traces.{is_return, frame_events, DoesTheSame}
use Rattle.job_compiler.specs.Compiled.{IsCompiled}
use Rattle.job_compiler.specs.Programs.{IsCompiledProgram}
use Rattle.job_compiler.specs.Runs.{Meets}
use Rattle.job_compiler.proofs.Events.{does_after, nothing_yet}
use Rattle.job_compiler.proofs.RunsFollow.{meets}
use Rattle.source_serial.proofs.Turns.{RegsFit}
use Rattle.source_rows.specs.Tasks.{Answer, Past, new_past, with_answer, DoesOne, DoesAll, HasCome, DoesTask, ReturnsTask, BeginsTask}
use Rattle.source_rows.proofs.Fitting.{later_fits, new_fits}

-- the frame later in the same run
later : (procs : List (List Instr)) (slot width : ℕ) (p : Point) (f g : Frame) (k : ℕ) → frame_after procs slot width f k ≡ Some g → DoesTheSame procs slot width p f → DoesTheSame procs slot width p g
later procs slot width p f g k e same = record {
  forth = λ answers ok n t h.
      let m = same.forth answers ok n t h in
      let low : k < m.0 = ⊎_elim (λ x. x) (λ high. absurd (none-some t (sym (nothing_yet procs slot width k f g m.0 answers e high) ∙ m.1))) (cases_lt k m.0) in
      let z : k + (m.0 - k) ≡ m.0 = omega (arith, low) in
      (m.0 - k, sym (does_after procs slot width k f g (m.0 - k) answers e) ∙ ap (λ x. frame_events procs slot width x f answers) z ∙ m.1);
  back = λ answers ok m t h. same.back answers ok (k + m) t (does_after procs slot width k f g m answers e ∙ h);
}

-- A frame has numbers that fit, and if its program is compiled from functions fs it does what a task does.
pub record Follows (fs : List Function) (procs : List (List Instr)) (slot width : ℕ) (f : Frame) (past : Past) : Type 0 where
  pub fit : RegsFit f.registers
  pub does : IsCompiledProgram fs procs → DoesTask fs procs slot width f past

-- The same of a new frame.
pub record Begins (fs : List Function) (procs : List (List Instr)) (width : ℕ) (f : Frame) : Type 0 where
  pub fit : RegsFit f.registers
  pub does : IsCompiledProgram fs procs → BeginsTask fs procs width f

-- one operation more
one_more : (slot width : ℕ) (answers : List Answer) (a : Answer) (p q r : Point) → DoesAll slot width p answers q → DoesOne slot width q a r → DoesAll slot width p (answers ++ a ∷ []) r
one_more slot width [] a p q r come next = (r, subst (λ m. DoesOne slot width m a r) come next, refl)
one_more slot width (b ∷ answers) a p q r come next = (come.0, come.1, one_more slot width answers a come.0 q r come.2 next)

-- a task of another frame of the same procedure
come_so : (fs : List Function) (slot width : ℕ) (f g : Frame) (past : Past) (p : Point) → g.procedure ≡ f.procedure → HasCome fs slot width f past p → HasCome fs slot width g past p
come_so fs slot width f g past p here c = record {
  function = c.function;
  named = ap (slice_get fs) here ∙ c.named;
  first = c.first;
  second = c.second;
  fit = c.fit;
  made = c.made ∙ ap (λ q. new_frame q c.first c.second) (sym here);
  come = c.come;
}

-- and with one operation more
one_come : (fs : List Function) (slot width : ℕ) (f : Frame) (past : Past) (p q : Point) (a : Answer) → DoesOne slot width p a q → (g : Frame) → g.procedure ≡ f.procedure
    → HasCome fs slot width f past p → HasCome fs slot width g (with_answer past a) q
one_come fs slot width f past p q a one g here old =
    let c = come_so fs slot width f g past p here old in
    record {
      function = c.function;
      named = c.named;
      first = c.first;
      second = c.second;
      fit = c.fit;
      made = c.made;
      come = one_more slot width past.answers a (start c.function c.first c.second) p q c.come one;
    }

-- the function of a procedure
record IsMadeFrom (fs : List Function) (procs : List (List Instr)) (p : ℕ) : Type 0 where
  function : Function
  named : slice_get fs p ≡ Some function
  compiled : IsCompiled function (slice_index_or procs p [])

made_from : (fs : List Function) (procs : List (List Instr)) → IsValidProgram procs → IsCompiledProgram fs procs → (p : ℕ) → p < length procs → IsMadeFrom fs procs p
made_from fs procs valid compiled p low = by_function (slice_get fs p) refl (compiled.each p)
  where
    by_function : (o : Option Function) → slice_get fs p ≡ o → MatchOption o (slice_index_or procs p [] ≡ []) (λ f. IsCompiled f (slice_index_or procs p [])) → IsMadeFrom fs procs p
    by_function None is none =
        let some : 0 < length (slice_index_or procs p []) = (valid.each p [] low).some in
        let long : length (slice_index_or procs p []) ≡ 0 = ap (λ (l : List Instr). length l) none in
        absurd (omega (arith, some, long))
    by_function (Some f) is good = record { function = f; named = is; compiled = good }

module _ (fs : List Function) (procs : List (List Instr)) (valid : IsValidProgram procs) (width : ℕ) (low_width : width < 2 ^ 8) where
  pub begins : (p : ℕ) (x y : ℤ) → p < length procs → FitsSigned w64 x → FitsSigned w64 y → Begins fs procs width (new_frame p x y)
  begins p x y low fx fy = record {
    fit = new_fits x y fx fy;
    does = λ compiled.
        let m = made_from fs procs valid compiled p low in
        record {
          function = m.function;
          named = m.named;
          first = x;
          second = y;
          fit = (fx, fy);
          new = refl;
          same = λ slot low_slot. m.compiled procs p slot width x y refl low_slot low_width fx fy;
        };
  }

  module _ (slot : ℕ) (low_slot : slot < 2 ^ 8) where
    pub started : (f : Frame) → Begins fs procs width f → Follows fs procs slot width f (new_past f)
    started f new = record { fit = new.fit; does = λ compiled. first_point (new.does compiled) }
      where
        first_point : BeginsTask fs procs width f → DoesTask fs procs slot width f (new_past f)
        first_point b = record {
          point = start b.function b.first b.second;
          task = record { function = b.function; named = b.named; first = b.first; second = b.second; fit = b.fit; made = b.new; come = refl };
          same = b.same slot low_slot;
        }

    stays : (f g : Frame) (k : ℕ) (past : Past) → frame_after procs slot width f k ≡ Some g → Follows fs procs slot width f past → Follows fs procs slot width g past
    stays f g k past e is =
        let fits = later_fits slot width low_slot low_width procs valid f g k e is.fit in
        record { fit = fits.0; does = λ compiled. still fits.1 (is.does compiled) }
      where
        still : g.procedure ≡ f.procedure → DoesTask fs procs slot width f past → DoesTask fs procs slot width g past
        still here d = record { point = d.point; task = come_so fs slot width f g past d.point here d.task; same = later procs slot width d.point f g k e d.same }

    -- at the end of a private run
    pub ends_following : (f : Frame) (past : Past) → Follows fs procs slot width f past → Follows fs procs slot width (run_of procs slot width f).end past
    ends_following f past is =
        let r = run_of procs slot width f in
        stays f r.end (moves_of r.count r.stop) past (runs_are_least procs slot width f).end is

-- after a shared instruction that was answered
pub goes_on : (fs : List Function) (procs : List (List Instr)) (slot width : ℕ) (f : Frame) (past : Past) → Follows fs procs slot width f past
    → (i : Instr) → instr_at procs f ≡ Some i → effect i slot width f ≡ IsShared → (a : Answer) → operation_of i f ≡ Some a.operation → is_return a.operation ≡ false
    → FitsSigned w64 a.first → FitsSigned w64 a.second → (resumed i a.first a.second f).procedure ≡ f.procedure → RegsFit (resumed i a.first a.second f).registers
    → Follows fs procs slot width (resumed i a.first a.second f) (with_answer past a)
goes_on fs procs slot width f past is i here shared a asks not_last fx fy there fit = record { fit = fit; does = λ compiled. next (is.does compiled) }
  where
    next : DoesTask fs procs slot width f past → DoesTask fs procs slot width (resumed i a.first a.second f) (with_answer past a)
    next d =
        let m : Meets procs slot width d.point f i = meets procs slot width d.point f d.same 0 f i refl here shared in
        let its : a.operation ≡ m.operation = same_Some a.operation m.operation (sym asks ∙ m.same) in
        let last : is_return m.operation ≡ false = subst (λ u. is_return u ≡ false) its not_last in
        let point = answered m.point a.first a.second in
        let one : DoesOne slot width d.point a point =
        record { point = m.point; steps = m.steps; there = m.there; does = m.does ∙ ap Does (sym its); not_last = not_last; fit = (fx, fy); next = refl } in
        record {
          point = point;
          task = one_come fs slot width f past d.point point a one (resumed i a.first a.second f) there d.task;
          same = m.goes_on last a.first a.second fx fy;
        }

-- at a return
pub returns : (fs : List Function) (procs : List (List Instr)) (slot width : ℕ) (f : Frame) (past : Past) → slot < width → DoesTask fs procs slot width f past
    → (a : ℕ) → instr_at procs f ≡ Some (Ret a) → ReturnsTask fs width f past (register f a)
returns fs procs slot width f past low d a here =
    let m : Meets procs slot width d.point f (Ret a) = meets procs slot width d.point f d.same 0 f (Ret a) refl here refl in
    let its : Returns (register f a) ≡ m.operation = same_Some (Returns (register f a)) m.operation m.same in
    record { slot = slot; low = low; point = d.point; task = d.task; steps = m.steps; last = m.point; there = m.there; returns = m.does ∙ ap Does (sym its) }
