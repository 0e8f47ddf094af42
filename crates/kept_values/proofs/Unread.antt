-- A function that gives values to a variable which nobody reads does what it did without.
use Rattle.std.proofs.Common.{◌≡◌, ℕ, zero, suc, ◌-◌, ◌<◌, ◌≤◌, ⊎_elim, ℤ, pos, Bool, true, false, true≢false, not, is_some, if◌then◌else◌, List, [], ◌∷◌, length, get_or, set, replicate}
use Rattle.std.proofs.Common.{Option, Some, None, option_map, refl, sym, ap, ap₂, subst, ◌∙◌, arith, length-set, get_or-set_same, get_or-set_other}
use Rattle.std.specs.Prelude.{Box}
use Rattle.std.specs.Global.{Global}
use Rattle.std.proofs.lemmas.Bool.{cases_eq}
use Rattle.std.proofs.lemmas.List.{length-replicate}
use Rattle.job_language.specs.declared.instructions.Instr.{Instr}
use Rattle.job_step.specs.declared.frames.Frame.{Frame}
use Rattle.job_step.specs.Frame.{new_frame}
use Rattle.source_language.specs.declared.syntax.Expr.{Expr}
use Rattle.source_language.specs.declared.syntax.Expr.TheVariants.{Number, Variable, Slot, Width, Two'}
use Rattle.source_language.specs.declared.syntax.Test.{Test}
use Rattle.source_language.specs.declared.syntax.Test.TheVariants.{Holds, Not', Both', Either'}
use Rattle.source_language.specs.declared.syntax.Maker.{Maker}
use Rattle.source_language.specs.declared.syntax.Maker.TheVariants.{Spawn, Post, Isolate}
use Rattle.source_language.specs.declared.syntax.Stmt.{Stmt}
use Rattle.source_language.specs.declared.syntax.Stmt.TheVariants.{Skip, Then', Assign, If', Loop', Repeat', Break, Continue, Return, Make, Wait, Cancel, Read, Store}
use Rattle.source_language.specs.declared.syntax.Function.{Function}
use Rattle.source_language.specs.Meaning.{is_nought, if_true, if_false, result_of, on_both, value_of, test_of, Operation, Todo, Do, Turn, Next, Point, Act, Goes, Divides, Does, next_turn, past_loop}
use Rattle.source_language.specs.Meaning.{with_value, with_test, goes, put_into, act_of, act_on, act, answered_on, answered, start}
use Rattle.job_compiler.specs.Within.{IsWithin, IsTestWithin, IsStmtWithin, IsOneWithin}
use Rattle.job_compiler.specs.Compiled.{IsFunction, IsCompiled}
use Rattle.job_compiler.specs.Traces.{Event, Did, is_return, events_after, source_by, source_events, DoesTheSame}
use Rattle.kept_values.specs.Given.{IsGiven, Same, Gives, Thens, Ifs, Loops, Repeats}

module _ (n slot width : ℕ) where
  -- The first n variables are the same.
  record AreSame (vars vars' : List ℤ) : Type 0 where
    long : length vars ≡ n
    most : n ≤ length vars'
    same : (y : ℕ) → y < n → get_or vars' y (pos 0) ≡ get_or vars y (pos 0)

  data TodoGiven : Todo → Todo → Type 0 where
    DoGiven : {s s' : Stmt} → IsStmtWithin n s → IsGiven n s s' → TodoGiven (Do s) (Do s')
    TurnGiven : {c : Test} {b b' s s' : Stmt} → IsTestWithin n c → IsStmtWithin n b → IsStmtWithin n s → IsGiven n b b' → IsGiven n s s' → TodoGiven (Turn c b s) (Turn c b' s')
    NextGiven : {c : Test} {b b' s s' : Stmt} → IsTestWithin n c → IsStmtWithin n b → IsStmtWithin n s → IsGiven n b b' → IsGiven n s s' → TodoGiven (Next c b s) (Next c b' s')

  data AreGiven : List Todo → List Todo → Type 0 where
    Nothing : AreGiven [] []
    More : {t t' : Todo} {ts ts' : List Todo} → TodoGiven t t' → AreGiven ts ts' → AreGiven (t ∷ ts) (t' ∷ ts')

  data Points : Point → Point → Type 0 where
    At : {vars vars' : List ℤ} {todo todo' : List Todo} → AreSame vars vars' → AreGiven todo todo'
        → Points (record { vars = vars; todo = todo }) (record { vars = vars'; todo = todo' })

  -- what comes next in both, of which an operation is answered alike
  data Match (vars vars' : List ℤ) (todo todo' : List Todo) : Act → Act → Type 0 where
    BothGo : {q q' : Point} → Points q q' → Match vars vars' todo todo' (Goes q) (Goes q')
    BothFail : Match vars vars' todo todo' Divides Divides
    BothDo : {o : Operation} → ((x y : ℤ) → Points (answered_on vars todo x y) (answered_on vars' todo' x y)) → Match vars vars' todo todo' (Does o) (Does o)

  expr_same : {vars vars' : List ℤ} → AreSame vars vars' → (e : Expr) → IsWithin n e → value_of e slot width vars' ≡ value_of e slot width vars
  expr_same h (Number m) w = refl
  expr_same h (Variable y) w = ap Some (h.same y w)
  expr_same h Slot w = refl
  expr_same h Width w = refl
  expr_same h (Two' op p a q b) w = ap₂ (on_both (result_of op)) (expr_same h a w.0) (expr_same h b w.1)

  test_same : {vars vars' : List ℤ} → AreSame vars vars' → (c : Test) → IsTestWithin n c → test_of c slot width vars' ≡ test_of c slot width vars
  test_same h (Holds e) w = ap (option_map (λ v. not (is_nought v))) (expr_same h e w)
  test_same h (Not' p c) w = ap (option_map not) (test_same h c w)
  test_same h (Both' p a q b) w = ap₂ if_true (test_same h a w.0) (test_same h b w.1)
  test_same h (Either' p a q b) w = ap₂ if_false (test_same h a w.0) (test_same h b w.1)

  set_same : (vars vars' : List ℤ) → AreSame vars vars' → (x : ℕ) (z : ℤ) → x < n → AreSame (set vars x z) (set vars' x z)
  set_same vars vars' h x z low = record {
    long = length-set vars x z ∙ h.long;
    most = omega (arith, length-set vars' x z, h.most);
    same = λ y less. ⊎_elim
        (λ is. subst (λ k. get_or (set vars' x z) k (pos 0) ≡ get_or (set vars x z) k (pos 0)) (sym is)
        (get_or-set_same vars' x z (pos 0) (omega (arith, low, h.most)) ∙ sym (get_or-set_same vars x z (pos 0) (omega (arith, low, h.long)))))
        (λ other. get_or-set_other vars' x y z (pos 0) other ∙ h.same y less ∙ sym (get_or-set_other vars x y z (pos 0) other)) (cases_eq y x);
  }

  -- a value given to the variable that nobody reads
  give_same : (vars vars' : List ℤ) → AreSame vars vars' → (z : ℤ) → AreSame vars (set vars' n z)
  give_same vars vars' h z = record {
    long = h.long;
    most = omega (arith, length-set vars' n z, h.most);
    same = λ y less. get_or-set_other vars' n y z (pos 0) (λ is. omega (arith, is, less)) ∙ h.same y less;
  }

  put_same : (o : Option ℕ) (z : ℤ) (vars vars' : List ℤ) → IsOneWithin n o → AreSame vars vars' → AreSame (put_into o z vars) (put_into o z vars')
  put_same None z vars vars' w h = h
  put_same (Some d) z vars vars' w h = set_same vars vars' h d z w

  past_given : {ts ts' : List Todo} → (k : ℕ) → AreGiven ts ts' → AreGiven (past_loop ts k) (past_loop ts' k)
  past_given k Nothing = Nothing
  past_given k (More (DoGiven w g) rest) = past_given k rest
  past_given k (More (TurnGiven t u w a b) rest) = past_given k rest
  past_given zero (More (NextGiven t u w a b) rest) = rest
  past_given (suc k) (More (NextGiven t u w a b) rest) = past_given k rest

  next_given : {ts ts' : List Todo} → (k : ℕ) → AreGiven ts ts' → AreGiven (next_turn ts k) (next_turn ts' k)
  next_given k Nothing = Nothing
  next_given k (More (DoGiven w g) rest) = next_given k rest
  next_given k (More (TurnGiven t u w a b) rest) = next_given k rest
  next_given zero (More (NextGiven t u w a b) rest) = More (NextGiven t u w a b) rest
  next_given (suc k) (More (NextGiven t u w a b) rest) = next_given k rest

  module _ (vars vars' : List ℤ) (h : AreSame vars vars') where
    go : {todo todo' us us' : List Todo} → AreGiven us us' → Match vars vars' todo todo' (goes vars us) (goes vars' us')
    go given = BothGo (At h given)

    by_value : {todo todo' : List Todo} (o o' : Option ℤ) (f f' : ℤ → Act) → o' ≡ o → ((z : ℤ) → Match vars vars' todo todo' (f z) (f' z))
        → Match vars vars' todo todo' (with_value o f) (with_value o' f')
    by_value {todo} {todo'} None o' f f' e m = subst (λ x. Match vars vars' todo todo' Divides (with_value x f')) (sym e) BothFail
    by_value {todo} {todo'} (Some z) o' f f' e m = subst (λ x. Match vars vars' todo todo' (f z) (with_value x f')) (sym e) (m z)

    by_test : {todo todo' : List Todo} (o o' : Option Bool) (a a' b b' : Act) → o' ≡ o → Match vars vars' todo todo' a a' → Match vars vars' todo todo' b b'
        → Match vars vars' todo todo' (with_test o a b) (with_test o' a' b')
    by_test {todo} {todo'} None o' a a' b b' e m m' = subst (λ x. Match vars vars' todo todo' Divides (with_test x a' b')) (sym e) BothFail
    by_test {todo} {todo'} (Some true) o' a a' b b' e m m' = subst (λ x. Match vars vars' todo todo' a (with_test x a' b')) (sym e) m
    by_test {todo} {todo'} (Some false) o' a a' b b' e m m' = subst (λ x. Match vars vars' todo todo' b (with_test x a' b')) (sym e) m'

    made : (k : Maker) (p : ℕ) (a b : Expr) (rest rest' : List Todo) (o : Operation) → IsStmtWithin n (Make k p a b) → AreGiven rest rest'
        → Match vars vars' (Do (Make k p a b) ∷ rest) (Do (Make k p a b) ∷ rest') (Does o) (Does o)
    made (Spawn g) p a b rest rest' o w given = BothDo (λ x y. At h given)
    made Post p a b rest rest' o w given = BothDo (λ x y. At h given)
    made (Isolate d) p a b rest rest' o w given = BothDo (λ x y. At (set_same vars vars' h d x w.0) given)

    -- a statement that is the same in both
    same_step : (s : Stmt) {rest rest' : List Todo} → IsStmtWithin n s → AreGiven rest rest'
        → Match vars vars' (Do s ∷ rest) (Do s ∷ rest') (act_of s slot width vars rest) (act_of s slot width vars' rest')
    same_step Skip w given = go given
    same_step (Then' p a q b) w given = go (More (DoGiven w.0 Same) (More (DoGiven w.1 Same) given))
    same_step (Assign x e) {rest} {rest'} w given =
        by_value (value_of e slot width vars) (value_of e slot width vars') (λ z. goes (set vars x z) rest) (λ z. goes (set vars' x z) rest') (expr_same h e w.1)
        (λ z. BothGo (At (set_same vars vars' h x z w.0) given))
    same_step (If' c p a q b) w given =
        by_test (test_of c slot width vars) (test_of c slot width vars') _ _ _ _ (test_same h c w.0) (go (More (DoGiven w.1 Same) given)) (go (More (DoGiven w.2 Same) given))
    same_step (Loop' c p b q s) w given = go (More (TurnGiven w.0 w.1 w.2 Same Same) given)
    same_step (Repeat' c p b q s) w given = go (More (DoGiven w.1 Same) (More (NextGiven w.0 w.1 w.2 Same Same) given))
    same_step (Break k) w given = go (past_given k given)
    same_step (Continue k) w given = go (next_given k given)
    same_step (Return e) w given =
        by_value (value_of e slot width vars) (value_of e slot width vars') _ _ (expr_same h e w) (λ z. BothDo (λ x y. At h given))
    same_step (Make m p a b) {rest} {rest'} w given =
        by_value (value_of a slot width vars) (value_of a slot width vars') _ _ (expr_same h a w.1)
        (λ x. by_value (value_of b slot width vars) (value_of b slot width vars') _ _ (expr_same h b w.2) (λ y. made m p a b rest rest' _ w given))
    same_step (Wait d e g) w given = BothDo (λ x y. At (put_same e y (put_into d x vars) (put_into d x vars') w.1 (put_same d x vars vars' w.0 h)) given)
    same_step (Cancel g) w given = BothDo (λ x y. At h given)
    same_step (Read d q) w given = BothDo (λ x y. At (set_same vars vars' h d x w) given)
    same_step (Store k e) w given =
        by_value (value_of e slot width vars) (value_of e slot width vars') _ _ (expr_same h e w) (λ z. BothDo (λ x y. At h given))

  -- what both do with these answers, if so many steps suffice
  abbrev Forth : ℕ → Type 0
  Forth k = (q q' : Point) → Points q q' → (answers : List (ℤ × ℤ)) (events : List Event) → source_events slot width k q answers ≡ Some events
      → (m : ℕ) × (source_events slot width m q' answers ≡ Some events)

  abbrev Back : ℕ → Type 0
  Back k = (q q' : Point) → Points q q' → (answers : List (ℤ × ℤ)) (events : List Event) → source_events slot width k q' answers ≡ Some events
      → (m : ℕ) × (source_events slot width m q answers ≡ Some events)

  nothing_none : {A : Type 0} {x : A} → None ≡ Some x → ⊥
  nothing_none e = true≢false (sym (ap is_some e))

  -- what follows an operation, if there are events
  after_forth : (o : Operation) (answers : List (ℤ × ℤ)) (f : (ℤ × ℤ) → List (ℤ × ℤ) → Option (List Event)) (g : ℕ → (ℤ × ℤ) → List (ℤ × ℤ) → Option (List Event)) (events : List Event)
      → ((a : ℤ × ℤ) (rest : List (ℤ × ℤ)) (es : List Event) → f a rest ≡ Some es → (m : ℕ) × (g m a rest ≡ Some es))
      → events_after o answers f ≡ Some events → (m : ℕ) × (events_after o answers (g m) ≡ Some events)
  after_forth o [] f g events h e = (zero, e)
  after_forth o (a ∷ rest) f g events h e = answered_by (is_return o) (f a rest) refl e
    where
      answered_by : (r : Bool) (es : Option (List Event)) → f a rest ≡ es → (if r then Some (Did o ∷ []) else option_map (λ events. Did o ∷ events) es) ≡ Some events
          → (m : ℕ) × ((if r then Some (Did o ∷ []) else option_map (λ events. Did o ∷ events) (g m a rest)) ≡ Some events)
      answered_by true es is e = (zero, e)
      answered_by false None is e = absurd (nothing_none e)
      answered_by false (Some es) is e = let found = h a rest es is in (found.0, ap (option_map (λ events. Did o ∷ events)) found.1 ∙ e)

  match_forth : (k : ℕ) → Forth k → (vars vars' : List ℤ) (todo todo' : List Todo) {a a' : Act} → Match vars vars' todo todo' a a' → (answers : List (ℤ × ℤ)) (events : List Event)
      → source_by (source_events slot width k) (record { vars = vars; todo = todo }) a answers ≡ Some events
      → (m : ℕ) × (source_by (source_events slot width m) (record { vars = vars'; todo = todo' }) a' answers ≡ Some events)
  match_forth k ih vars vars' todo todo' (BothGo {q} {q'} points) answers events e = ih q q' points answers events e
  match_forth k ih vars vars' todo todo' BothFail answers events e = (zero, e)
  match_forth k ih vars vars' todo todo' (BothDo {o = o} alike) answers events e =
      after_forth o answers _ (λ m a rest. source_events slot width m (answered_on vars' todo' a.0 a.1) rest) events
      (λ a rest es is. ih (answered_on vars todo a.0 a.1) (answered_on vars' todo' a.0 a.1) (alike a.0 a.1) rest es is) e

  match_back : (k : ℕ) → Back k → (vars vars' : List ℤ) (todo todo' : List Todo) {a a' : Act} → Match vars vars' todo todo' a a' → (answers : List (ℤ × ℤ)) (events : List Event)
      → source_by (source_events slot width k) (record { vars = vars'; todo = todo' }) a' answers ≡ Some events
      → (m : ℕ) × (source_by (source_events slot width m) (record { vars = vars; todo = todo }) a answers ≡ Some events)
  match_back k ih vars vars' todo todo' (BothGo {q} {q'} points) answers events e = ih q q' points answers events e
  match_back k ih vars vars' todo todo' BothFail answers events e = (zero, e)
  match_back k ih vars vars' todo todo' (BothDo {o = o} alike) answers events e =
      after_forth o answers _ (λ m a rest. source_events slot width m (answered_on vars todo a.0 a.1) rest) events
      (λ a rest es is. ih (answered_on vars todo a.0 a.1) (answered_on vars' todo' a.0 a.1) (alike a.0 a.1) rest es is) e

  abbrev at : List ℤ → List Todo → Point
  at vars todo = record { vars = vars; todo = todo }

  -- steps of statements that do not give the variable a value first
  thens_step : (vars vars' : List ℤ) → AreSame vars vars' → {p q : Box (Unit {0}) Global} {a a' b b' : Stmt} {rest rest' : List Todo} → IsStmtWithin n (Then' p a q b)
      → IsGiven n a a' → IsGiven n b b' → AreGiven rest rest'
      → Match vars vars' (Do (Then' p a q b) ∷ rest) (Do (Then' p a' q b') ∷ rest') (act_of (Then' p a q b) slot width vars rest) (act_of (Then' p a' q b') slot width vars' rest')
  thens_step vars vars' h w one two given = go vars vars' h (More (DoGiven w.0 one) (More (DoGiven w.1 two) given))

  ifs_step : (vars vars' : List ℤ) → AreSame vars vars' → {c : Test} {p q : Box (Unit {0}) Global} {a a' b b' : Stmt} {rest rest' : List Todo} → IsStmtWithin n (If' c p a q b)
      → IsGiven n a a' → IsGiven n b b' → AreGiven rest rest'
      → Match vars vars' (Do (If' c p a q b) ∷ rest) (Do (If' c p a' q b') ∷ rest') (act_of (If' c p a q b) slot width vars rest) (act_of (If' c p a' q b') slot width vars' rest')
  ifs_step vars vars' h {c = c} w one two given =
      by_test vars vars' h (test_of c slot width vars) (test_of c slot width vars') _ _ _ _ (test_same h c w.0) (go vars vars' h (More (DoGiven w.1 one) given))
      (go vars vars' h (More (DoGiven w.2 two) given))

  loops_step : (vars vars' : List ℤ) → AreSame vars vars' → {c : Test} {p q : Box (Unit {0}) Global} {a a' b b' : Stmt} {rest rest' : List Todo} → IsStmtWithin n (Loop' c p a q b)
      → IsGiven n a a' → IsGiven n b b' → AreGiven rest rest'
      → Match vars vars' (Do (Loop' c p a q b) ∷ rest) (Do (Loop' c p a' q b') ∷ rest') (act_of (Loop' c p a q b) slot width vars rest) (act_of (Loop' c p a' q b') slot width vars' rest')
  loops_step vars vars' h w one two given = go vars vars' h (More (TurnGiven w.0 w.1 w.2 one two) given)

  repeats_step : (vars vars' : List ℤ) → AreSame vars vars' → {c : Test} {p q : Box (Unit {0}) Global} {a a' b b' : Stmt} {rest rest' : List Todo} → IsStmtWithin n (Repeat' c p a q b)
      → IsGiven n a a' → IsGiven n b b' → AreGiven rest rest'
      → Match vars vars' (Do (Repeat' c p a q b) ∷ rest) (Do (Repeat' c p a' q b') ∷ rest') (act_of (Repeat' c p a q b) slot width vars rest) (act_of (Repeat' c p a' q b') slot width vars' rest')
  repeats_step vars vars' h w one two given = go vars vars' h (More (DoGiven w.1 one) (More (NextGiven w.0 w.1 w.2 one two) given))

  -- The variable takes two steps to be given its value.
  two_steps : (vars : List ℤ) (p q : Box (Unit {0}) Global) (e : Expr) (z : ℤ) (s : Stmt) (rest : List Todo) → value_of e slot width vars ≡ Some z → (m : ℕ) (answers : List (ℤ × ℤ))
      → source_events slot width (suc (suc m)) (at vars (Do (Then' p (Assign n e) q s) ∷ rest)) answers ≡ source_events slot width m (at (set vars n z) (Do s ∷ rest)) answers
  two_steps vars p q e z s rest is m answers =
      ap (λ o. source_by (source_events slot width m) (at vars (Do (Assign n e) ∷ Do s ∷ rest)) (with_value o (λ v. goes (set vars n v) (Do s ∷ rest))) answers) is

  do_forth : (k : ℕ) → Forth k → (vars vars' : List ℤ) → AreSame vars vars' → {s s' : Stmt} → IsStmtWithin n s → IsGiven n s s' → {rest rest' : List Todo} → AreGiven rest rest'
      → (answers : List (ℤ × ℤ)) (events : List Event) → source_events slot width (suc k) (at vars (Do s ∷ rest)) answers ≡ Some events
      → (m : ℕ) × (source_events slot width m (at vars' (Do s' ∷ rest')) answers ≡ Some events)
  do_forth k ih vars vars' h {s} w Same given answers events e =
      let found = match_forth k ih vars vars' _ _ (same_step vars vars' h s w given) answers events e in (suc found.0, found.1)
  do_forth k ih vars vars' h w (Gives {p = p} {q = q} {e = d} {s' = s'} total g) {rest' = rest'} given answers events e =
      let value = total slot width vars' in
      let found = do_forth k ih vars (set vars' n value.0) (give_same vars vars' h value.0) w g given answers events e in
      (suc (suc found.0), two_steps vars' p q d value.0 s' rest' value.1 found.0 answers ∙ found.1)
  do_forth k ih vars vars' h w (Thens {p = p} {q = q} one two) given answers events e =
      let found = match_forth k ih vars vars' _ _ (thens_step vars vars' h {p = p} {q = q} w one two given) answers events e in (suc found.0, found.1)
  do_forth k ih vars vars' h w (Ifs {c = c} {p = p} {q = q} one two) given answers events e =
      let found = match_forth k ih vars vars' _ _ (ifs_step vars vars' h {c = c} {p = p} {q = q} w one two given) answers events e in (suc found.0, found.1)
  do_forth k ih vars vars' h w (Loops {p = p} {q = q} one two) given answers events e =
      let found = match_forth k ih vars vars' _ _ (loops_step vars vars' h {p = p} {q = q} w one two given) answers events e in (suc found.0, found.1)
  do_forth k ih vars vars' h w (Repeats {p = p} {q = q} one two) given answers events e =
      let found = match_forth k ih vars vars' _ _ (repeats_step vars vars' h {p = p} {q = q} w one two given) answers events e in (suc found.0, found.1)

  -- from a step that both take to one of the first
  one_back : (m : ℕ) → ((j : ℕ) → j < m → Back j) → (vars vars' : List ℤ) (t t' : Todo) (rest rest' : List Todo)
      → Match vars vars' (t ∷ rest) (t' ∷ rest') (act slot width (at vars (t ∷ rest))) (act slot width (at vars' (t' ∷ rest')))
      → (answers : List (ℤ × ℤ)) (events : List Event) → source_events slot width m (at vars' (t' ∷ rest')) answers ≡ Some events
      → (k : ℕ) × (source_events slot width k (at vars (t ∷ rest)) answers ≡ Some events)
  one_back zero ih vars vars' t t' rest rest' step answers events e = absurd (nothing_none e)
  one_back (suc m) ih vars vars' t t' rest rest' step answers events e =
      let found = match_back m (ih m (omega arith)) vars vars' (t ∷ rest) (t' ∷ rest') step answers events e in (suc found.0, found.1)

  do_back : (m : ℕ) → ((j : ℕ) → j < m → Back j) → (vars vars' : List ℤ) → AreSame vars vars' → {s s' : Stmt} → IsStmtWithin n s → IsGiven n s s' → {rest rest' : List Todo}
      → AreGiven rest rest' → (answers : List (ℤ × ℤ)) (events : List Event) → source_events slot width m (at vars' (Do s' ∷ rest')) answers ≡ Some events
      → (k : ℕ) × (source_events slot width k (at vars (Do s ∷ rest)) answers ≡ Some events)
  do_back m ih vars vars' h {s} w Same given answers events e = one_back m ih vars vars' _ _ _ _ (same_step vars vars' h s w given) answers events e
  do_back zero ih vars vars' h w (Gives total g) given answers events e = absurd (nothing_none e)
  do_back (suc zero) ih vars vars' h w (Gives total g) given answers events e = absurd (nothing_none e)
  do_back (suc (suc m)) ih vars vars' h w (Gives {p = p} {q = q} {e = d} {s' = s'} total g) {rest' = rest'} given answers events e =
      let value = total slot width vars' in
      do_back m (λ j low. ih j (omega (arith, low))) vars (set vars' n value.0) (give_same vars vars' h value.0) w g given answers events
      (sym (two_steps vars' p q d value.0 s' rest' value.1 m answers) ∙ e)
  do_back m ih vars vars' h w (Thens {p = p} {q = q} one two) given answers events e = one_back m ih vars vars' _ _ _ _ (thens_step vars vars' h {p = p} {q = q} w one two given) answers events e
  do_back m ih vars vars' h w (Ifs {c = c} {p = p} {q = q} one two) given answers events e =
      one_back m ih vars vars' _ _ _ _ (ifs_step vars vars' h {c = c} {p = p} {q = q} w one two given) answers events e
  do_back m ih vars vars' h w (Loops {p = p} {q = q} one two) given answers events e = one_back m ih vars vars' _ _ _ _ (loops_step vars vars' h {p = p} {q = q} w one two given) answers events e
  do_back m ih vars vars' h w (Repeats {p = p} {q = q} one two) given answers events e = one_back m ih vars vars' _ _ _ _ (repeats_step vars vars' h {p = p} {q = q} w one two given) answers events e

  turn_step : (vars vars' : List ℤ) → AreSame vars vars' → {c : Test} {b b' s s' : Stmt} {rest rest' : List Todo} → IsTestWithin n c → IsStmtWithin n b → IsStmtWithin n s
      → IsGiven n b b' → IsGiven n s s' → AreGiven rest rest'
      → Match vars vars' (Turn c b s ∷ rest) (Turn c b' s' ∷ rest') (act_on slot width vars (Turn c b s ∷ rest)) (act_on slot width vars' (Turn c b' s' ∷ rest'))
  turn_step vars vars' h {c = c} t u w one two given =
      by_test vars vars' h (test_of c slot width vars) (test_of c slot width vars') _ _ _ _ (test_same h c t)
      (go vars vars' h (More (DoGiven u one) (More (NextGiven t u w one two) given))) (go vars vars' h given)

  next_step : (vars vars' : List ℤ) → AreSame vars vars' → {c : Test} {b b' s s' : Stmt} {rest rest' : List Todo} → IsTestWithin n c → IsStmtWithin n b → IsStmtWithin n s
      → IsGiven n b b' → IsGiven n s s' → AreGiven rest rest'
      → Match vars vars' (Next c b s ∷ rest) (Next c b' s' ∷ rest') (act_on slot width vars (Next c b s ∷ rest)) (act_on slot width vars' (Next c b' s' ∷ rest'))
  next_step vars vars' h t u w one two given = go vars vars' h (More (DoGiven w two) (More (TurnGiven t u w one two) given))

  list_forth : (k : ℕ) → Forth k → (vars vars' : List ℤ) → AreSame vars vars' → {ts ts' : List Todo} → AreGiven ts ts' → (answers : List (ℤ × ℤ)) (events : List Event)
      → source_events slot width (suc k) (at vars ts) answers ≡ Some events → (m : ℕ) × (source_events slot width m (at vars' ts') answers ≡ Some events)
  list_forth k ih vars vars' h Nothing answers events e =
      let found = match_forth k ih vars vars' [] [] (BothDo (λ x y. At h Nothing)) answers events e in (suc found.0, found.1)
  list_forth k ih vars vars' h (More (DoGiven w g) given) answers events e = do_forth k ih vars vars' h w g given answers events e
  list_forth k ih vars vars' h (More (TurnGiven {c = c} t u w one two) given) answers events e =
      let found = match_forth k ih vars vars' _ _ (turn_step vars vars' h {c = c} t u w one two given) answers events e in (suc found.0, found.1)
  list_forth k ih vars vars' h (More (NextGiven t u w one two) given) answers events e =
      let found = match_forth k ih vars vars' _ _ (next_step vars vars' h t u w one two given) answers events e in (suc found.0, found.1)

  forth : (k : ℕ) → Forth k
  forth zero q q' points answers events e = absurd (nothing_none e)
  forth (suc k) q q' (At {vars = vars} {vars' = vars'} h given) answers events e = list_forth k (forth k) vars vars' h given answers events e

  list_back : (m : ℕ) → ((j : ℕ) → j < m → Back j) → (vars vars' : List ℤ) → AreSame vars vars' → {ts ts' : List Todo} → AreGiven ts ts' → (answers : List (ℤ × ℤ)) (events : List Event)
      → source_events slot width m (at vars' ts') answers ≡ Some events → (k : ℕ) × (source_events slot width k (at vars ts) answers ≡ Some events)
  list_back zero ih vars vars' h Nothing answers events e = absurd (nothing_none e)
  list_back (suc m) ih vars vars' h Nothing answers events e =
      let found = match_back m (ih m (omega arith)) vars vars' [] [] (BothDo (λ x y. At h Nothing)) answers events e in (suc found.0, found.1)
  list_back m ih vars vars' h (More (DoGiven w g) given) answers events e = do_back m ih vars vars' h w g given answers events e
  list_back m ih vars vars' h (More (TurnGiven {c = c} t u w one two) given) answers events e =
      one_back m ih vars vars' _ _ _ _ (turn_step vars vars' h {c = c} t u w one two given) answers events e
  list_back m ih vars vars' h (More (NextGiven t u w one two) given) answers events e =
      one_back m ih vars vars' _ _ _ _ (next_step vars vars' h t u w one two given) answers events e

  points_back : (m : ℕ) → ((j : ℕ) → j < m → Back j) → Back m
  points_back m ih q q' (At {vars = vars} {vars' = vars'} h given) answers events e = list_back m ih vars vars' h given answers events e

  below : (m j : ℕ) → j < m → Back j
  below zero j low = absurd (omega (arith, low))
  below (suc m) j low = points_back j (λ i less. below m i (omega (arith, less, low)))

  back : (m : ℕ) → Back m
  back m = below (suc m) m (omega arith)

noughts : (k y : ℕ) → get_or (replicate k (pos 0)) y (pos 0) ≡ pos 0
noughts zero y = refl
noughts (suc k) zero = refl
noughts (suc k) (suc y) = noughts k y

starts_alike : (x y : ℤ) (j k i : ℕ) → get_or (x ∷ y ∷ replicate j (pos 0)) i (pos 0) ≡ get_or (x ∷ y ∷ replicate k (pos 0)) i (pos 0)
starts_alike x y j k zero = refl
starts_alike x y j k (suc zero) = refl
starts_alike x y j k (suc (suc i)) = noughts j i ∙ sym (noughts k i)

module _ (f f' : Function) (good : IsFunction f) (more : f.variables ≤ f'.variables) (given : IsGiven f.variables f.body f'.body) (slot width : ℕ) (x y : ℤ) where
  at_start : Points f.variables slot width (start f x y) (start f' x y)
  at_start = At (record {
    long = omega (arith, length-replicate (f.variables - 2) (pos 0), good.parameters);
    most = omega (arith, length-replicate (f'.variables - 2) (pos 0), good.parameters, more);
    same = λ i low. starts_alike x y (f'.variables - 2) (f.variables - 2) i;
  }) (More (DoGiven good.within given) Nothing)

  does_the_same : (procs : List (List Instr)) (g : Frame) → DoesTheSame procs slot width (start f' x y) g → DoesTheSame procs slot width (start f x y) g
  does_the_same procs g same = record {
    forth = λ answers fit k events e. let found = forth f.variables slot width k (start f x y) (start f' x y) at_start answers events e in same.forth answers fit found.0 events found.1;
    back = λ answers fit m events e. let found = same.back answers fit m events e in back f.variables slot width found.0 (start f x y) (start f' x y) at_start answers events found.1;
  }

pub given_compiled : (f f' : Function) (instrs : List Instr) → IsFunction f → f.variables ≤ f'.variables → IsGiven f.variables f.body f'.body → IsCompiled f' instrs → IsCompiled f instrs
given_compiled f f' instrs good more given compiled procs p slot width x y here low_slot low_width fx fy =
    does_the_same f f' good more given slot width x y procs (new_frame p x y) (compiled procs p slot width x y here low_slot low_width fx fy)
