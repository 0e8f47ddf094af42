-- A private run of a frame that does the same as a function.
use Rattle.std.proofs.Common.{◌≡◌, ℕ, zero, suc, ◌+◌, ◌-◌, ◌<◌, ◌≤◌, ℤ, false, List, [], ◌∷◌, Option, Some, None, option_map, refl, sym, ap, ◌∙◌, arith, ⊎_elim, FitsSigned}
use Rattle.std.specs.Int.{w64}
use Rattle.std.proofs.lemmas.Bool.{cases_lt}
use Rattle.std.proofs.lemmas.Option.{none-some, same_Some}
use Rattle.job_language.specs.declared.instructions.Instr.{Instr}
use Rattle.job_step.specs.declared.frames.Frame.{Frame}
use Rattle.job_step.specs.declared.runs.Run.{Run}
use Rattle.job_step.specs.declared.runs.Stop.{Stop}
use Rattle.job_step.specs.declared.runs.Stop.TheVariants.{Shared, Yield, Fault}
use Rattle.job_step.specs.declared.effects.Effect.TheVariants.{DividesByZero, IsShared}
use Rattle.job_step.specs.Frame.{instr_at, effect}
use Rattle.job_step.specs.Least.{frame_after, moves_of, StopsAt, IsLeastRun}
use Rattle.source_language.specs.Meaning.{Operation, Point, Act, Goes, Divides, Does, act, answered}
use Rattle.job_compiler.specs.Operations.{operation_of, resumed}
use Rattle.job_compiler.specs.Traces.{Event, Did, Divided, Lost, is_return, events_after, source_by, source_events, frame_events, DoesTheSame}
use Rattle.job_compiler.specs.Runs.{if_goes, point_after, Meets, Fails, StopFollows, RunFollows}
use Rattle.job_compiler.proofs.Events.{does_after, nothing_yet, map_some}

-- where a function is when it stops at once, and what that says
record Ends (slot width : ℕ) (p : Point) (event : Event) : Type 0 where
  point : Point
  steps : ℕ
  there : point_after slot width p steps ≡ Some point
  act_there : Act
  acts : act slot width point ≡ act_there
  says : source_by (source_events slot width 0) point act_there [] ≡ Some (event ∷ [])

module _ (slot width : ℕ) where
  ends : (n : ℕ) (p : Point) (event : Event) → source_events slot width n p [] ≡ Some (event ∷ []) → Ends slot width p event
  ends zero p event e = absurd (none-some (event ∷ []) e)
  ends (suc n) p event e = by_act (λ q e'. ends n q event e') (act slot width p) refl e
    where
      by_act : ((q : Point) → source_events slot width n q [] ≡ Some (event ∷ []) → Ends slot width q event) → (a : Act) → act slot width p ≡ a
          → source_by (source_events slot width n) p a [] ≡ Some (event ∷ []) → Ends slot width p event
      by_act ih (Goes q) is e =
          let r = ih q e in
          record { point = r.point; steps = suc r.steps; there = ap (if_goes (λ x. point_after slot width x r.steps)) is ∙ r.there; act_there = r.act_there; acts = r.acts; says = r.says }
      by_act ih Divides is e = record { point = p; steps = 0; there = refl; act_there = Divides; acts = is; says = e }
      by_act ih (Does o) is e = record { point = p; steps = 0; there = refl; act_there = Does o; acts = is; says = e }

  -- what is done from a point is done from the point that it becomes
  source_after : (k : ℕ) (p q : Point) (n : ℕ) (answers : List (ℤ × ℤ)) → point_after slot width p k ≡ Some q → source_events slot width (k + n) p answers ≡ source_events slot width n q answers
  source_after zero p q n answers e = let z : 0 + n ≡ n = omega arith in ap (λ m. source_events slot width m p answers) z ∙ ap (λ x. source_events slot width n x answers) (same_Some p q e)
  source_after (suc k) p q n answers e = ap (λ m. source_events slot width m p answers) z ∙ by_act (λ x e'. source_after k x q n answers e') (act slot width p) e
    where
      z : suc k + n ≡ suc (k + n)
      z = omega arith

      by_act : ((x : Point) → point_after slot width x k ≡ Some q → source_events slot width (k + n) x answers ≡ source_events slot width n q answers) → (a : Act)
          → if_goes (λ x. point_after slot width x k) a ≡ Some q → source_by (source_events slot width (k + n)) p a answers ≡ source_events slot width n q answers
      by_act ih (Goes x) e = ih x e
      by_act ih Divides e = absurd (none-some q e)
      by_act ih (Does o) e = absurd (none-some q e)

  -- before that, nothing is done
  source_nothing : (k : ℕ) (p q : Point) (m : ℕ) (answers : List (ℤ × ℤ)) → point_after slot width p k ≡ Some q → m ≤ k → source_events slot width m p answers ≡ None
  source_nothing k p q zero answers e le = refl
  source_nothing zero p q (suc m) answers e le = absurd (omega (arith, le))
  source_nothing (suc k) p q (suc m) answers e le = by_act (λ x e'. source_nothing k x q m answers e' (omega (arith, le))) (act slot width p) e
    where
      by_act : ((x : Point) → point_after slot width x k ≡ Some q → source_events slot width m x answers ≡ None) → (a : Act) → if_goes (λ x. point_after slot width x k) a ≡ Some q
          → source_by (source_events slot width m) p a answers ≡ None
      by_act ih (Goes x) e = ih x e
      by_act ih Divides e = absurd (none-some q e)
      by_act ih (Does o) e = absurd (none-some q e)

pub heads : (a b : Event) (xs ys : List Event) → a ∷ xs ≡ b ∷ ys → a ≡ b
heads a b xs ys e = cc

tails : (a b : Event) (xs ys : List Event) → a ∷ xs ≡ b ∷ ys → xs ≡ ys
tails a b xs ys e = cc

pub did_same : (a b : Operation) → Did a ≡ Did b → a ≡ b
did_same a b e = cc

pub did_divided : (a : Operation) → Did a ≡ Divided → ⊥
did_divided a e = grind arith

pub did_lost : (a : Operation) → Did a ≡ Lost → ⊥
did_lost a e = grind arith

divided_lost : Divided ≡ Lost → ⊥
divided_lost e = grind arith

-- an operation that is answered, and no return
answered_one : (o : Operation) (a : ℤ × ℤ) (rest : List (ℤ × ℤ)) (next : (ℤ × ℤ) → List (ℤ × ℤ) → Option (List Event)) → is_return o ≡ false
    → events_after o (a ∷ rest) next ≡ option_map (λ events. Did o ∷ events) (next a rest)
answered_one o a rest next e = rw e refl

module _ (procs : List (List Instr)) (slot width : ℕ) where
  -- at an operation
  at_operation : (f : Frame) (i : Instr) (o : Operation) (n : ℕ) (answers : List (ℤ × ℤ)) → instr_at procs f ≡ Some i → effect i slot width f ≡ IsShared → operation_of i f ≡ Some o
      → frame_events procs slot width (suc n) f answers ≡ events_after o answers (λ a rest. frame_events procs slot width n (resumed i a.0 a.1 f) rest)
  at_operation f i o n answers here shared asks = rw (here, shared, asks) refl

  at_point : (p : Point) (o : Operation) (n : ℕ) (answers : List (ℤ × ℤ)) → act slot width p ≡ Does o
      → source_events slot width (suc n) p answers ≡ events_after o answers (λ a rest. source_events slot width n (answered p a.0 a.1) rest)
  at_point p o n answers e = ap (λ x. source_by (source_events slot width n) p x answers) e

  -- the frame later in the same run
  later : (p : Point) (f g : Frame) (k : ℕ) → frame_after procs slot width f k ≡ Some g → DoesTheSame procs slot width p f → DoesTheSame procs slot width p g
  later p f g k e same = record {
    forth = λ answers ok n t h.
        let m = same.forth answers ok n t h in
        let low : k < m.0 = ⊎_elim (λ x. x) (λ high. absurd (none-some t (sym (nothing_yet procs slot width k f g m.0 answers e high) ∙ m.1))) (cases_lt k m.0) in
        let z : k + (m.0 - k) ≡ m.0 = omega (arith, low) in
        (m.0 - k, sym (does_after procs slot width k f g (m.0 - k) answers e) ∙ ap (λ x. frame_events procs slot width x f answers) z ∙ m.1);
    back = λ answers ok m t h. same.back answers ok (k + m) t (does_after procs slot width k f g m answers e ∙ h);
  }

  module _ (p q : Point) (f g : Frame) (c k : ℕ) (i : Instr) (o : Operation) (frames : frame_after procs slot width f c ≡ Some g) (points : point_after slot width p k ≡ Some q)
      (here : instr_at procs g ≡ Some i) (shared : effect i slot width g ≡ IsShared) (asks : operation_of i g ≡ Some o) (does : act slot width q ≡ Does o) (not_last : is_return o ≡ false)
      (same : DoesTheSame procs slot width p f) where
    -- what is done after an answer
    on_forth : (a : ℤ × ℤ) (rest : List (ℤ × ℤ)) (m : ℕ) (t : List Event) → frame_events procs slot width m f (a ∷ rest) ≡ Some (Did o ∷ t)
        → (j : ℕ) × (frame_events procs slot width j (resumed i a.0 a.1 g) rest ≡ Some t)
    on_forth a rest m t h =
        let low : c < m = ⊎_elim (λ x. x) (λ high. absurd (none-some (Did o ∷ t) (sym (nothing_yet procs slot width c f g m (a ∷ rest) frames high) ∙ h))) (cases_lt c m) in
        let j = m - suc c in
        let z : c + suc j ≡ m = omega (arith, low) in
        let there : option_map (λ events. Did o ∷ events) (frame_events procs slot width j (resumed i a.0 a.1 g) rest) ≡ Some (Did o ∷ t) =
        sym (answered_one o a rest (λ b r. frame_events procs slot width j (resumed i b.0 b.1 g) r) not_last) ∙ sym (at_operation g i o j (a ∷ rest) here shared asks)
        ∙ sym (does_after procs slot width c f g (suc j) (a ∷ rest) frames) ∙ ap (λ x. frame_events procs slot width x f (a ∷ rest)) z ∙ h in
        let r = map_some procs slot width o _ (Did o ∷ t) there in
        (j, r.1 ∙ ap Some (tails (Did o) (Did o) r.0 t r.2))

    on_back : (a : ℤ × ℤ) (rest : List (ℤ × ℤ)) (n : ℕ) (t : List Event) → source_events slot width n p (a ∷ rest) ≡ Some (Did o ∷ t)
        → (j : ℕ) × (source_events slot width j (answered q a.0 a.1) rest ≡ Some t)
    on_back a rest n t h =
        let low : k < n = ⊎_elim (λ x. x) (λ high. absurd (none-some (Did o ∷ t) (sym (source_nothing slot width k p q n (a ∷ rest) points high) ∙ h))) (cases_lt k n) in
        let j = n - suc k in
        let z : k + suc j ≡ n = omega (arith, low) in
        let there : option_map (λ events. Did o ∷ events) (source_events slot width j (answered q a.0 a.1) rest) ≡ Some (Did o ∷ t) =
        sym (answered_one o a rest (λ b r. source_events slot width j (answered q b.0 b.1) r) not_last) ∙ sym (at_point q o j (a ∷ rest) does)
        ∙ sym (source_after slot width k p q (suc j) (a ∷ rest) points) ∙ ap (λ x. source_events slot width x p (a ∷ rest)) z ∙ h in
        let r = map_some procs slot width o _ (Did o ∷ t) there in
        (j, r.1 ∙ ap Some (tails (Did o) (Did o) r.0 t r.2))

    pub on : (x y : ℤ) → FitsSigned w64 x → FitsSigned w64 y → DoesTheSame procs slot width (answered q x y) (resumed i x y g)
    on x y fx fy = record {
      forth = λ rest ok n t h.
          let said : source_events slot width (k + suc n) p ((x, y) ∷ rest) ≡ Some (Did o ∷ t) = source_after slot width k p q (suc n) ((x, y) ∷ rest) points ∙ at_point q o n ((x, y) ∷ rest) does
          ∙ answered_one o (x, y) rest (λ b r. source_events slot width n (answered q b.0 b.1) r) not_last ∙ ap (option_map (λ events. Did o ∷ events)) h in
          let m = same.forth ((x, y) ∷ rest) ((fx, fy), ok) (k + suc n) (Did o ∷ t) said in
          on_forth (x, y) rest m.0 t m.1;
      back = λ rest ok m t h.
          let said : frame_events procs slot width (c + suc m) f ((x, y) ∷ rest) ≡ Some (Did o ∷ t) = does_after procs slot width c f g (suc m) ((x, y) ∷ rest) frames
          ∙ at_operation g i o m ((x, y) ∷ rest) here shared asks ∙ answered_one o (x, y) rest (λ b r. frame_events procs slot width m (resumed i b.0 b.1 g) r) not_last
          ∙ ap (option_map (λ events. Did o ∷ events)) h in
          let n = same.back ((x, y) ∷ rest) ((fx, fy), ok) (c + suc m) (Did o ∷ t) said in
          on_back (x, y) rest n.0 t n.1;
    }

  module _ (p : Point) (f : Frame) (same : DoesTheSame procs slot width p f) where
    -- what the frame does at once, the function does
    told : (c : ℕ) (g : Frame) (event : Event) → frame_after procs slot width f c ≡ Some g → frame_events procs slot width 1 g [] ≡ Some (event ∷ []) → Ends slot width p event
    told c g event e h = let n = same.back [] tt (c + 1) (event ∷ []) (does_after procs slot width c f g 1 [] e ∙ h) in ends slot width n.0 p event n.1

    never_lost : (a : Act) (n : Point) → source_by (source_events slot width 0) n a [] ≡ Some (Lost ∷ []) → ⊥
    never_lost (Goes q) n e = none-some _ e
    never_lost Divides n e = divided_lost (heads Divided Lost [] [] (same_Some _ _ e))
    never_lost (Does o) n e = did_lost o (heads (Did o) Lost [] [] (same_Some _ _ e))

    pub meets : (c : ℕ) (g : Frame) (i : Instr) → frame_after procs slot width f c ≡ Some g → instr_at procs g ≡ Some i → effect i slot width g ≡ IsShared → Meets procs slot width p g i
    meets c g i e here shared = by_operation (operation_of i g) refl
      where
        by_end : (o : Operation) → operation_of i g ≡ Some o → (x : Ends slot width p (Did o)) → (a : Act) → act slot width x.point ≡ a
            → source_by (source_events slot width 0) x.point a [] ≡ Some (Did o ∷ []) → Meets procs slot width p g i
        by_end o asks x (Goes q) acts says = absurd (none-some _ says)
        by_end o asks x Divides acts says = absurd (did_divided o (sym (heads Divided (Did o) [] [] (same_Some _ _ says))))
        by_end o asks x (Does u) acts says =
            let is : u ≡ o = did_same u o (heads (Did u) (Did o) [] [] (same_Some _ _ says)) in
            let acts' : act slot width x.point ≡ Does o = acts ∙ ap Does is in
            record {
              point = x.point;
              steps = x.steps;
              there = x.there;
              operation = o;
              does = acts';
              same = asks;
              goes_on = λ not_last y z fy fz. on p x.point f g c x.steps i o e x.there here
                  shared asks acts' not_last same y z fy fz;
            }

        by_operation : (w : Option Operation) → operation_of i g ≡ w → Meets procs slot width p g i
        by_operation None is =
            let lost : frame_events procs slot width 1 g [] ≡ Some (Lost ∷ []) = rw (here, shared, is) refl in
            let x = told c g Lost e lost in
            absurd (never_lost x.act_there x.point x.says)
        by_operation (Some o) is =
            let x = told c g (Did o) e (at_operation g i o 0 [] here shared is) in
            by_end o is x x.act_there x.acts x.says

    fails : (c : ℕ) (g : Frame) (i : Instr) → frame_after procs slot width f c ≡ Some g → instr_at procs g ≡ Some i → effect i slot width g ≡ DividesByZero → Fails slot width p
    fails c g i e here divides = by_end x.act_there x.acts x.says
      where
        x : Ends slot width p Divided
        x = told c g Divided e (rw (here, divides) refl)

        by_end : (a : Act) → act slot width x.point ≡ a → source_by (source_events slot width 0) x.point a [] ≡ Some (Divided ∷ []) → Fails slot width p
        by_end (Goes q) acts says = absurd (none-some _ says)
        by_end Divides acts says = record { point = x.point; steps = x.steps; there = x.there; divides = acts }
        by_end (Does o) acts says = absurd (did_divided o (heads (Did o) Divided [] [] (same_Some _ _ says)))

    pub run_follows : (r : Run) → IsLeastRun procs slot width f r → RunFollows procs slot width p r
    run_follows r least = by_stop r.stop least.end least.stop
      where
        by_stop : (s : Stop) → frame_after procs slot width f (moves_of r.count s) ≡ Some r.end → StopsAt procs slot width r.count r.end s → StopFollows procs slot width p r.count r.end s
        by_stop (Shared i) e at = meets r.count r.end i e at.0 at.1
        by_stop Fault e at = fails (r.count - 1) r.end at.1 e at.2 at.3
        by_stop Yield e at = (
          ⊎_elim (λ full. full) (λ none.
              let lost : frame_events procs slot width 1 r.end [] ≡ Some (Lost ∷ []) = rw none refl in
              let x = told r.count r.end Lost e lost in
              absurd (never_lost x.act_there x.point x.says)) at,
          later p f r.end r.count e same,
        )
