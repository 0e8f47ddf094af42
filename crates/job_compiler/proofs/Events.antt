-- A frame that gets to where a function is does the same operations.
use Rattle.std.proofs.Common.{◌≡◌, ℕ, zero, suc, ◌+◌, ◌-◌, ◌<◌, ◌≤◌, ℤ, Bool, true, false, if◌then◌else◌, List, [], ◌∷◌, Option, Some, None, option_map, option_and_then, refl, sym, ap, subst, ◌∙◌}
use Rattle.std.proofs.Common.{arith, ⊎_elim}
use Rattle.std.proofs.lemmas.Bool.{cases_lt}
use Rattle.std.proofs.lemmas.Option.{none-some, same_Some}
use Rattle.job_language.specs.declared.instructions.Instr.{Instr}
use Rattle.job_step.specs.declared.frames.Frame.{Frame}
use Rattle.job_step.specs.declared.effects.Effect.{Effect}
use Rattle.job_step.specs.declared.effects.Effect.TheVariants.{Moves, DividesByZero, IsShared}
use Rattle.job_step.specs.Frame.{instr_at, effect}
use Rattle.job_step.specs.Run.{effect_at}
use Rattle.job_step.specs.Least.{moved_to, next_of, frame_after}
use Rattle.source_language.specs.Meaning.{Operation, Point, Act, Goes, Divides, Does, act, answered}
use Rattle.job_compiler.specs.Operations.{operation_of, resumed}
use Rattle.job_compiler.specs.Traces.{Event, Did, Divided, is_return, events_after, Events, source_by, source_events, frame_stops, frame_at, frame_by, frame_events, AreAnswers, DoesTheSame}
use Rattle.job_compiler.proofs.Steps.{Fails}
use Rattle.job_compiler.proofs.Stands.{weight, Stands, Stops, Follows}

nil_cons : {X : Type 0} (a : X) (rest : List X) → [] ≡ a ∷ rest → ⊥
nil_cons a rest e = grind arith

module _ (procs : List (List Instr)) (slot width : ℕ) where
  abbrev does : ℕ → Frame → List (ℤ × ℤ) → Option (List Event)
  does n f answers = frame_events procs slot width n f answers

  moved : (f g : Frame) (o : Option Instr) → option_and_then (λ i. moved_to (effect i slot width f)) o ≡ Some g → effect_at o slot width f ≡ Moves g
  moved f g None e = absurd (none-some g e)
  moved f g (Some i) e = by_effect (effect i slot width f) e
    where
      by_effect : (e : Effect) → moved_to e ≡ Some g → e ≡ Moves g
      by_effect (Moves h) e = ap Moves (same_Some h g e)
      by_effect DividesByZero e = absurd (none-some g e)
      by_effect IsShared e = absurd (none-some g e)

  one_more : (f g : Frame) (n : ℕ) (answers : List (ℤ × ℤ)) → next_of procs slot width f ≡ Some g → does (suc n) f answers ≡ does n g answers
  one_more f g n answers e = ap (λ x. frame_by (frame_events procs slot width n) f x (instr_at procs f) answers) (moved f g (instr_at procs f) e)

  pub before_last : (f g : Frame) (k : ℕ) → frame_after procs slot width f (suc k) ≡ Some g → (h : Frame) × (frame_after procs slot width f k ≡ Some h) × (next_of procs slot width h ≡ Some g)
  before_last f g k e = by_frame (frame_after procs slot width f k) refl e
    where
      by_frame : (o : Option Frame) → frame_after procs slot width f k ≡ o → option_and_then (next_of procs slot width) o ≡ Some g
          → (h : Frame) × (frame_after procs slot width f k ≡ Some h) × (next_of procs slot width h ≡ Some g)
      by_frame None is e = absurd (none-some g e)
      by_frame (Some h) is e = (h, is, e)

  -- what a frame does is what the frame does that it becomes
  pub does_after : (k : ℕ) (f g : Frame) (n : ℕ) (answers : List (ℤ × ℤ)) → frame_after procs slot width f k ≡ Some g → does (k + n) f answers ≡ does n g answers
  does_after zero f g n answers e = let z : 0 + n ≡ n = omega arith in ap (λ m. does m f answers) z ∙ ap (λ h. does n h answers) (same_Some f g e)
  does_after (suc k) f g n answers e =
      let b = before_last f g k e in
      let z : suc k + n ≡ k + suc n = omega arith in
      ap (λ m. does m f answers) z ∙ does_after k f b.0 (suc n) answers b.1 ∙ one_more b.0 g n answers b.2

  earlier : (f g : Frame) (j k : ℕ) → frame_after procs slot width f (j + k) ≡ Some g → (h : Frame) × (frame_after procs slot width f j ≡ Some h)
  earlier f g j zero e = let z : j + 0 ≡ j = omega arith in (g, ap (frame_after procs slot width f) (sym z) ∙ e)
  earlier f g j (suc k) e =
      let z : j + suc k ≡ suc (j + k) = omega arith in
      let b = before_last f g (j + k) (ap (frame_after procs slot width f) (sym z) ∙ e) in
      earlier f b.0 j k b.1

  -- while a frame moves, it does nothing
  pub nothing_yet : (k : ℕ) (f g : Frame) (m : ℕ) (answers : List (ℤ × ℤ)) → frame_after procs slot width f k ≡ Some g → m ≤ k → does m f answers ≡ None
  nothing_yet k f g m answers e le =
      let z : k ≡ m + (k - m) = omega arith in
      let h = earlier f g m (k - m) (ap (frame_after procs slot width f) (sym z) ∙ e) in
      let y : m ≡ m + 0 = omega arith in
      ap (λ x. does x f answers) y ∙ does_after m f h.0 0 answers h.1

  -- what is done with a bound is done with a higher one
  abbrev Extends : Events Frame → Events Frame → Type 0
  Extends F G = (f : Frame) (answers : List (ℤ × ℤ)) (t : List Event) → F f answers ≡ Some t → G f answers ≡ Some t

  pub map_some : (o : Operation) (x : Option (List Event)) (t : List Event) → option_map (λ events. Did o ∷ events) x ≡ Some t → (es : List Event) × (x ≡ Some es) × (Did o ∷ es ≡ t)
  map_some o None t e = absurd (none-some t e)
  map_some o (Some es) t e = (es, refl, same_Some (Did o ∷ es) t e)

  more_after : (o : Operation) (answers : List (ℤ × ℤ)) (G H : (ℤ × ℤ) → List (ℤ × ℤ) → Option (List Event)) (t : List Event)
      → ((a : ℤ × ℤ) (rest : List (ℤ × ℤ)) (es : List Event) → G a rest ≡ Some es → H a rest ≡ Some es) → events_after o answers G ≡ Some t → events_after o answers H ≡ Some t
  more_after o [] G H t each e = e
  more_after o (a ∷ rest) G H t each e = by_return (is_return o) e
    where
      by_return : (b : Bool) → (if b then Some (Did o ∷ []) else option_map (λ events. Did o ∷ events) (G a rest)) ≡ Some t
          → (if b then Some (Did o ∷ []) else option_map (λ events. Did o ∷ events) (H a rest)) ≡ Some t
      by_return true e = e
      by_return false e = let r = map_some o (G a rest) t e in ap (option_map (λ events. Did o ∷ events)) (each a rest r.0 r.1) ∙ ap Some r.2

  stops_extends : (F G : Events Frame) → Extends F G → (f : Frame) (x : Option Operation) (resume : Frame → ℤ → ℤ → Frame) (answers : List (ℤ × ℤ)) (t : List Event)
      → frame_stops F f x resume answers ≡ Some t → frame_stops G f x resume answers ≡ Some t
  stops_extends F G h f None resume answers t e = e
  stops_extends F G h f (Some o) resume answers t e = more_after o answers (λ a rest. F (resume f a.0 a.1) rest) (λ a rest. G (resume f a.0 a.1) rest) t
      (λ a rest es q. h (resume f a.0 a.1) rest es q) e

  at_extends : (F G : Events Frame) → Extends F G → (f : Frame) (i : Option Instr) (answers : List (ℤ × ℤ)) (t : List Event) → frame_at F f i answers ≡ Some t → frame_at G f i answers ≡ Some t
  at_extends F G h f None answers t e = e
  at_extends F G h f (Some i) answers t e = stops_extends F G h f (operation_of i f) (λ g x y. resumed i x y g) answers t e

  by_extends : (F G : Events Frame) → Extends F G → (f : Frame) (x : Effect) (i : Option Instr) (answers : List (ℤ × ℤ)) (t : List Event) → frame_by F f x i answers ≡ Some t
      → frame_by G f x i answers ≡ Some t
  by_extends F G h f (Moves g) i answers t e = h g answers t e
  by_extends F G h f DividesByZero i answers t e = e
  by_extends F G h f IsShared i answers t e = at_extends F G h f i answers t e

  pub longer : (m j : ℕ) → Extends (frame_events procs slot width m) (frame_events procs slot width (m + j))
  longer zero j f answers t e = absurd (none-some t e)
  longer (suc m) j f answers t e =
      let z : suc m + j ≡ suc (m + j) = omega arith in
      ap (λ k. does k f answers) z ∙ by_extends (frame_events procs slot width m) (frame_events procs slot width (m + j)) (longer m j) f (effect_at (instr_at procs f) slot width f)
      (instr_at procs f) answers t e

  pub two_ends : (m k : ℕ) (f : Frame) (answers : List (ℤ × ℤ)) (t u : List Event) → does m f answers ≡ Some t → does k f answers ≡ Some u → t ≡ u
  two_ends m k f answers t u e g =
      let z : m + k ≡ k + m = omega arith in
      same_Some t u (sym (longer m k f answers t e) ∙ ap (λ n. does n f answers) z ∙ longer k m f answers u g)

  -- what follows an operation, in one of two machines, follows it in the other one
  after_same : (o : Operation) (answers : List (ℤ × ℤ)) (G : (ℤ × ℤ) → List (ℤ × ℤ) → Option (List Event)) (H : ℕ → (ℤ × ℤ) → List (ℤ × ℤ) → Option (List Event)) (t : List Event)
      → ((a : ℤ × ℤ) (rest : List (ℤ × ℤ)) (es : List Event) → answers ≡ a ∷ rest → is_return o ≡ false → G a rest ≡ Some es → (m : ℕ) × (H m a rest ≡ Some es)) → events_after o answers G ≡ Some t
      → (m : ℕ) × (events_after o answers (H m) ≡ Some t)
  after_same o [] G H t each e = (0, e)
  after_same o (a ∷ rest) G H t each e = by_return (is_return o) refl e
    where
      by_return : (b : Bool) → is_return o ≡ b → (if b then Some (Did o ∷ []) else option_map (λ events. Did o ∷ events) (G a rest)) ≡ Some t
          → (m : ℕ) × ((if b then Some (Did o ∷ []) else option_map (λ events. Did o ∷ events) (H m a rest)) ≡ Some t)
      by_return true is e = (0, e)
      by_return false is e =
          let r = map_some o (G a rest) t e in
          let m = each a rest r.0 refl is r.1 in
          (m.0, ap (option_map (λ events. Did o ∷ events)) m.1 ∙ ap Some r.2)

  module _ (p size n ret : ℕ) where
    abbrev Stood : Frame → Point → Type 0
    Stood f point = Stands procs slot width p size n ret f point

    fails_are : (f : Frame) (d : Fails procs slot width p size f) (answers : List (ℤ × ℤ)) → does (d.comes.steps + 1) f answers ≡ Some (Divided ∷ [])
    fails_are f d answers = does_after d.comes.steps f d.end 1 answers d.comes.by ∙ last
      where
        last : does 1 d.end answers ≡ Some (Divided ∷ [])
        last = rw (d.there, d.divides) refl

    stops_are : (f : Frame) (point : Point) (o : Operation) (s : Stops procs slot width p size n ret f point o) (k : ℕ) (answers : List (ℤ × ℤ))
        → does (s.comes.steps + suc k) f answers ≡ events_after o answers (λ a rest. does k (resumed s.instr a.0 a.1 s.last) rest)
    stops_are f point o s k answers = does_after s.comes.steps f s.last (suc k) answers s.comes.by ∙ last
      where
        last : does (suc k) s.last answers ≡ events_after o answers (λ a rest. does k (resumed s.instr a.0 a.1 s.last) rest)
        last = rw (s.there, s.shared, s.asks) refl

    module _ (step : (f : Frame) (point : Point) (s : Stands procs slot width p size n ret f point) → Follows procs slot width p size n ret f point s (act slot width point)) where
      pub forth : (k : ℕ) (f : Frame) (point : Point) → Stood f point → (answers : List (ℤ × ℤ)) → AreAnswers answers → (t : List Event) → source_events slot width k point answers ≡ Some t
          → (m : ℕ) × (does m f answers ≡ Some t)
      forth zero f point s answers ok t e = absurd (none-some t e)
      forth (suc k) f point s answers ok t e = by_act (λ f' point' s' answers' ok' t' e'. forth k f' point' s' answers' ok' t' e') (act slot width point) (step f point s) e
        where
          by_act : ((f' : Frame) (point' : Point) → Stands procs slot width p size n ret f' point' → (answers' : List (ℤ × ℤ)) → AreAnswers answers' → (t' : List Event)
              → source_events slot width k point' answers' ≡ Some t' → (m : ℕ) × (does m f' answers' ≡ Some t')) → (a : Act) → Follows procs slot width p size n ret f point s a
              → source_by (source_events slot width k) point a answers ≡ Some t → (m : ℕ) × (does m f answers ≡ Some t)
          by_act ih (Goes q) c e = ih f q c.next answers ok t e
          by_act ih Divides d e = (d.comes.steps + 1, fails_are f d answers ∙ e)
          by_act ih (Does o) st e =
              let r = after_same o answers (λ a rest. source_events slot width k (answered point a.0 a.1) rest) (λ m a rest. does m (resumed st.instr a.0 a.1 st.last) rest) t
              (λ a rest es is no g. let ok' = subst AreAnswers is ok in ih (resumed st.instr a.0 a.1 st.last) (answered point a.0 a.1) (st.resumes no a.0 a.1 ok'.0.0 ok'.0.1) rest ok'.1 es g) e in
              (st.comes.steps + suc r.0, stops_are f point o st r.0 answers ∙ r.1)

      abbrev BackAt : (answers : List (ℤ × ℤ)) (d w : ℕ) → Type 0
      BackAt answers d w = (m : ℕ) (f : Frame) (point : Point) (s : Stands procs slot width p size n ret f point) (t : List Event) → m ≤ s.comes.steps + d → weight point.todo ≤ w
          → does m f answers ≡ Some t → (k : ℕ) × (source_events slot width k point answers ≡ Some t)

      step_back : (answers : List (ℤ × ℤ)) → AreAnswers answers → ((a : ℤ × ℤ) (rest : List (ℤ × ℤ)) → answers ≡ a ∷ rest → AreAnswers rest → (d w : ℕ) → BackAt rest d w) → (d w : ℕ)
          → ((d' w' : ℕ) → d ≡ suc d' → BackAt answers d' w') → ((w' : ℕ) → w ≡ suc w' → BackAt answers d w') → BackAt answers d w
      step_back answers ok rest_back d w lower_d lower_w m f point s t le lw e = by_act (act slot width point) refl (step f point s)
        where
          -- the steps that were made are not all
          not_all : (k : ℕ) (g : Frame) → frame_after procs slot width f k ≡ Some g → k < m
          not_all k g by = ⊎_elim (λ low. low) (λ high. absurd (none-some t (sym (nothing_yet k f g m answers by high) ∙ e))) (cases_lt k m)

          fewer : (q : Point) (next : Stands procs slot width p size n ret f q) → (d' : ℕ) → d ≡ d' → (s.comes.steps < next.comes.steps) → (k : ℕ) × (source_events slot width k q answers ≡ Some t)
          fewer q next zero is lt = absurd (omega (arith, is, le, not_all s.comes.steps _ s.comes.by))
          fewer q next (suc d') is lt = lower_d d' (weight q.todo) is m f q next t (omega (arith, is, le, lt)) (omega arith) e

          lighter : (q : Point) (next : Stands procs slot width p size n ret f q) → (w' : ℕ) → w ≡ w' → s.comes.steps ≤ next.comes.steps → weight q.todo < weight point.todo
              → (k : ℕ) × (source_events slot width k q answers ≡ Some t)
          lighter q next zero is ge lt = absurd (omega (arith, is, lw, lt))
          lighter q next (suc w') is ge lt = lower_w w' is m f q next t (omega (arith, le, ge)) (omega (arith, is, lw, lt)) e

          by_act : (a : Act) → act slot width point ≡ a → Follows procs slot width p size n ret f point s a → (k : ℕ) × (source_events slot width k point answers ≡ Some t)
          by_act (Goes q) is c =
              let r = ⊎_elim (λ lt. fewer q c.next d refl lt) (λ (x : (s.comes.steps ≤ c.next.comes.steps) × (weight q.todo < weight point.todo)). lighter q c.next w refl x.0 x.1) c.progress in
              (suc r.0, ap (λ x. source_by (source_events slot width r.0) point x answers) is ∙ r.1)
          by_act Divides is dv =
              (1, ap (λ x. source_by (source_events slot width 0) point x answers) is ∙ ap Some (two_ends (dv.comes.steps + 1) m f answers (Divided ∷ []) t (fails_are f dv answers) e))
          by_act (Does o) is st =
              let low = not_all st.comes.steps st.last st.comes.by in
              let k = m - suc st.comes.steps in
              let z : m ≡ st.comes.steps + suc k = omega (arith, low) in
              let done = sym (stops_are f point o st k answers) ∙ ap (λ x. does x f answers) (sym z) ∙ e in
              let r = after_same o answers (λ a rest. does k (resumed st.instr a.0 a.1 st.last) rest) (λ j a rest. source_events slot width j (answered point a.0 a.1) rest) t
              (λ a rest es eq no g.
              let ok' = subst AreAnswers eq ok in
              let s' = st.resumes no a.0 a.1 ok'.0.0 ok'.0.1 in
              rest_back a rest eq ok'.1 k (weight (answered point a.0 a.1).todo) k (resumed st.instr a.0 a.1 st.last) (answered point a.0 a.1) s' es (omega arith) (omega arith) g) done in
              (suc r.0, ap (λ x. source_by (source_events slot width r.0) point x answers) is ∙ r.1)

      on_w : (answers : List (ℤ × ℤ)) → AreAnswers answers → ((a : ℤ × ℤ) (rest : List (ℤ × ℤ)) → answers ≡ a ∷ rest → AreAnswers rest → (d w : ℕ) → BackAt rest d w) → (d : ℕ)
          → ((d' w' : ℕ) → d ≡ suc d' → BackAt answers d' w') → (w : ℕ) → BackAt answers d w
      on_w answers ok rb d lower_d zero = step_back answers ok rb d zero lower_d (λ w' is. absurd (omega (arith, is)))
      on_w answers ok rb d lower_d (suc w) = step_back answers ok rb d (suc w) lower_d (λ w' is. let e : w ≡ w' = omega (arith, is) in subst (BackAt answers d) e (on_w answers ok rb d lower_d w))

      on_d : (answers : List (ℤ × ℤ)) → AreAnswers answers → ((a : ℤ × ℤ) (rest : List (ℤ × ℤ)) → answers ≡ a ∷ rest → AreAnswers rest → (d w : ℕ) → BackAt rest d w) → (d w : ℕ) → BackAt answers d w
      on_d answers ok rb zero w = on_w answers ok rb 0 (λ d' w' is. absurd (omega (arith, is))) w
      on_d answers ok rb (suc d) w = on_w answers ok rb (suc d) (λ d' w' is. let e : d ≡ d' = omega (arith, is) in subst (λ k. BackAt answers k w') e (on_d answers ok rb d w')) w

      tails : {X : Type 0} (a b : X) (xs ys : List X) → a ∷ xs ≡ b ∷ ys → xs ≡ ys
      tails a b xs ys e = cc

      all_back : (answers : List (ℤ × ℤ)) → AreAnswers answers → (d w : ℕ) → BackAt answers d w
      all_back [] ok d w = on_d [] ok (λ a rest is. absurd (nil_cons a rest is)) d w
      all_back (a ∷ rest) ok d w = on_d (a ∷ rest) ok (λ b rest' is ok' d' w'. subst (λ xs. BackAt xs d' w') (tails a b rest rest' is) (all_back rest ok.1 d' w')) d w

      pub does_the_same : (f : Frame) (point : Point) → Stands procs slot width p size n ret f point → DoesTheSame procs slot width point f
      does_the_same f point s = record {
        forth = λ answers ok k t e. forth k f point s answers ok t e;
        back = λ answers ok m t e. all_back answers ok m (weight point.todo) m f point s t (omega arith) (omega arith) e;
      }
