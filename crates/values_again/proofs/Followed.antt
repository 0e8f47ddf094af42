-- A function that computes a value again does what it did without.
use Rattle.std.proofs.Common.{◌≡◌, ℕ, zero, suc, ◌-◌, ◌<◌, ◌≤◌, ℤ, pos, Bool, true, false, if◌then◌else◌, List, [], ◌∷◌, length, get_or, set, replicate}
use Rattle.std.proofs.Common.{Option, Some, None, option_map, refl, sym, ap, ap₂, subst, ◌∙◌, arith, length-set, get_or-set_same, get_or-set_other}
use Rattle.std.proofs.lemmas.List.{length-replicate}
use Rattle.job_language.specs.declared.instructions.Instr.{Instr}
use Rattle.job_step.specs.declared.frames.Frame.{Frame}
use Rattle.job_step.specs.Frame.{new_frame}
use Rattle.source_language.specs.declared.syntax.Expr.{Expr}
use Rattle.source_language.specs.declared.syntax.Expr.TheVariants.{Number, Variable, Slot, Width, Two'}
use Rattle.source_language.specs.declared.syntax.Test.{Test}
use Rattle.source_language.specs.declared.syntax.Maker.{Maker}
use Rattle.source_language.specs.declared.syntax.Maker.TheVariants.{Spawn, Post, Isolate}
use Rattle.source_language.specs.declared.syntax.Stmt.{Stmt}
use Rattle.source_language.specs.declared.syntax.Stmt.TheVariants.{Then', Assign, If', Loop', Repeat', Make, Wait, Read}
use Rattle.source_language.specs.declared.syntax.Function.{Function}
use Rattle.source_language.specs.Meaning.{result_of, on_both, value_of, test_of, Operation, Todo, Do, Turn, Next, Point, Act, Goes, Divides, Does, next_turn, past_loop}
use Rattle.source_language.specs.Meaning.{with_value, with_test, goes, put_into, act_on, answered_on, answered, start}
use Rattle.job_compiler.specs.Compiled.{IsFunction, IsCompiled}
use Rattle.job_compiler.specs.Traces.{Event, Did, is_return, events_after, source_by, source_events, DoesTheSame}
use Rattle.values_again.specs.Again.{IsFree, IsKept, IsOneKept, IsUntouched, IsUntouchedBy, HasIt, IsTestAlike, IsAgain, ReadsAgain}
use Rattle.values_again.specs.Again.{Skips, Thens, Sets, Assigns, Ifs, Loops, Repeats, Breaks, Continues, Returns, Makes, Waits, Cancels, Asks, Stores}

module _ (v n slot width : ℕ) (low : v < n) where
  data TodoAgain : Option Expr → Todo → Todo → Type 0 where
    DoAgain : {m : Option Expr} {s s' : Stmt} → IsUntouchedBy v m s → IsAgain v m s s' → TodoAgain m (Do s) (Do s')
    TurnAgain : {m : Option Expr} {c c' : Test} {b b' s s' : Stmt} → IsTestAlike v m c c' → IsUntouchedBy v m b → IsUntouchedBy v m s → IsAgain v m b b' → IsAgain v m s s'
        → TodoAgain m (Turn c b s) (Turn c' b' s')
    NextAgain : {m : Option Expr} {c c' : Test} {b b' s s' : Stmt} → IsTestAlike v m c c' → IsUntouchedBy v m b → IsUntouchedBy v m s → IsAgain v m b b' → IsAgain v m s s'
        → TodoAgain m (Next c b s) (Next c' b' s')

  -- What is left to be done: first what reads the value again, as long as the variable has it, and then the rest.
  data AreAgain : Option Expr → List Todo → List Todo → Type 0 where
    Nothing : AreAgain None [] []
    More : {m : Option Expr} {t t' : Todo} {ts ts' : List Todo} → TodoAgain m t t' → AreAgain m ts ts' → AreAgain m (t ∷ ts) (t' ∷ ts')
    Leaves : {e : Expr} {ts ts' : List Todo} → AreAgain None ts ts' → AreAgain (Some e) ts ts'
    Setting : {e : Expr} {b b' : Stmt} {ts ts' : List Todo} → IsFree v e → IsUntouched v e b → IsAgain v (Some e) b b' → AreAgain None ts ts'
        → AreAgain None (Do (Assign v e) ∷ Do b ∷ ts) (Do (Assign v e) ∷ Do b' ∷ ts')

  record Alike (vars : List ℤ) (todo todo' : List Todo) : Type 0 where
    mode : Option Expr
    long : length vars ≡ n
    has : HasIt v mode slot width vars
    again : AreAgain mode todo todo'

  data Points : Point → Point → Type 0 where
    At : {vars : List ℤ} {todo todo' : List Todo} → Alike vars todo todo' → Points (record { vars = vars; todo = todo }) (record { vars = vars; todo = todo' })

  -- what comes next in both, of which an operation is answered alike
  data Match (vars : List ℤ) (todo todo' : List Todo) : Act → Act → Type 0 where
    BothGo : {q q' : Point} → Points q q' → Match vars todo todo' (Goes q) (Goes q')
    BothFail : Match vars todo todo' Divides Divides
    BothDo : {o : Operation} → ((x y : ℤ) → Points (answered_on vars todo x y) (answered_on vars todo' x y)) → Match vars todo todo' (Does o) (Does o)

  value_free : (e : Expr) (x : ℕ) → IsFree x e → (vars : List ℤ) (z : ℤ) → value_of e slot width (set vars x z) ≡ value_of e slot width vars
  value_free (Number m) x h vars z = refl
  value_free (Variable y) x h vars z = ap Some (get_or-set_other vars x y z (pos 0) (λ same. h (sym same)))
  value_free Slot x h vars z = refl
  value_free Width x h vars z = refl
  value_free (Two' op p a q b) x h vars z = ap₂ (on_both (result_of op)) (value_free a x h.0 vars z) (value_free b x h.1 vars z)

  kept_has : (e : Expr) (x : ℕ) (z : ℤ) (vars : List ℤ) → IsKept v e x → HasIt v (Some e) slot width vars → HasIt v (Some e) slot width (set vars x z)
  kept_has e x z vars kept has = value_free e x kept.1 vars z ∙ has ∙ ap Some (sym (get_or-set_other vars x v z (pos 0) (λ same. kept.0 (sym same))))

  set_has : (m : Option Expr) (s : Stmt) (x : ℕ) (z : ℤ) (vars : List ℤ) → ((e : Expr) → IsUntouched v e s → IsKept v e x) → IsUntouchedBy v m s → HasIt v m slot width vars
      → HasIt v m slot width (set vars x z)
  set_has None s x z vars kept h has = tt
  set_has (Some e) s x z vars kept h has = kept_has e x z vars (kept e h) has

  one_has : (e : Expr) (o : Option ℕ) (z : ℤ) (vars : List ℤ) → IsOneKept v e o → HasIt v (Some e) slot width vars → HasIt v (Some e) slot width (put_into o z vars)
  one_has e None z vars kept has = has
  one_has e (Some x) z vars kept has = kept_has e x z vars kept has

  two_have : (m : Option Expr) (x y : Option ℕ) (g : ℕ) (z w : ℤ) (vars : List ℤ) → IsUntouchedBy v m (Wait x y g) → HasIt v m slot width vars
      → HasIt v m slot width (put_into y w (put_into x z vars))
  two_have None x y g z w vars h has = tt
  two_have (Some e) x y g z w vars h has = one_has e y w (put_into x z vars) h.1 (one_has e x z vars h.0 has)

  put_long : (o : Option ℕ) (z : ℤ) (vars : List ℤ) → length (put_into o z vars) ≡ length vars
  put_long None z vars = refl
  put_long (Some d) z vars = length-set vars d z

  both_untouched : (m : Option Expr) (a b s : Stmt) → ((e : Expr) → IsUntouched v e s → IsUntouched v e a × IsUntouched v e b) → IsUntouchedBy v m s
      → IsUntouchedBy v m a × IsUntouchedBy v m b
  both_untouched None a b s parts h = (tt, tt)
  both_untouched (Some e) a b s parts h = parts e h

  past_again : {m : Option Expr} {ts ts' : List Todo} → (k : ℕ) → AreAgain m ts ts' → AreAgain m (past_loop ts k) (past_loop ts' k)
  past_again k Nothing = Nothing
  past_again k (More (DoAgain u a) rest) = past_again k rest
  past_again k (More (TurnAgain t u w a b) rest) = past_again k rest
  past_again zero (More (NextAgain t u w a b) rest) = rest
  past_again (suc k) (More (NextAgain t u w a b) rest) = past_again k rest
  past_again k (Leaves rest) = Leaves (past_again k rest)
  past_again k (Setting f u a rest) = past_again k rest

  next_again : {m : Option Expr} {ts ts' : List Todo} → (k : ℕ) → AreAgain m ts ts' → AreAgain m (next_turn ts k) (next_turn ts' k)
  next_again k Nothing = Nothing
  next_again k (More (DoAgain u a) rest) = next_again k rest
  next_again k (More (TurnAgain t u w a b) rest) = next_again k rest
  next_again zero (More (NextAgain t u w a b) rest) = More (NextAgain t u w a b) rest
  next_again (suc k) (More (NextAgain t u w a b) rest) = next_again k rest
  next_again k (Leaves rest) = Leaves (next_again k rest)
  next_again k (Setting f u a rest) = next_again k rest

  module _ (vars : List ℤ) (long : length vars ≡ n) where
    go : {m : Option Expr} {todo todo' us us' : List Todo} → HasIt v m slot width vars → AreAgain m us us' → Match vars todo todo' (goes vars us) (goes vars us')
    go {m} has again = BothGo (At (record { mode = m; long = long; has = has; again = again }))

    by_value : {todo todo' : List Todo} (o o' : Option ℤ) (f f' : ℤ → Act) → o' ≡ o → ((z : ℤ) → o ≡ Some z → Match vars todo todo' (f z) (f' z))
        → Match vars todo todo' (with_value o f) (with_value o' f')
    by_value {todo} {todo'} None o' f f' e h = subst (λ x. Match vars todo todo' Divides (with_value x f')) (sym e) BothFail
    by_value {todo} {todo'} (Some z) o' f f' e h = subst (λ x. Match vars todo todo' (f z) (with_value x f')) (sym e) (h z refl)

    by_test : {todo todo' : List Todo} (o o' : Option Bool) (a a' b b' : Act) → o' ≡ o → Match vars todo todo' a a' → Match vars todo todo' b b'
        → Match vars todo todo' (with_test o a b) (with_test o' a' b')
    by_test {todo} {todo'} None o' a a' b b' e h h' = subst (λ x. Match vars todo todo' Divides (with_test x a' b')) (sym e) BothFail
    by_test {todo} {todo'} (Some true) o' a a' b b' e h h' = subst (λ x. Match vars todo todo' a (with_test x a' b')) (sym e) h
    by_test {todo} {todo'} (Some false) o' a a' b b' e h h' = subst (λ x. Match vars todo todo' b (with_test x a' b')) (sym e) h'

    -- an operation that gives nothing to a variable
    same_answer : {m : Option Expr} {todo todo' rest rest' : List Todo} {o : Operation} → ((x y : ℤ) → answered_on vars todo x y ≡ record { vars = vars; todo = rest })
        → ((x y : ℤ) → answered_on vars todo' x y ≡ record { vars = vars; todo = rest' }) → HasIt v m slot width vars → AreAgain m rest rest'
        → Match vars todo todo' (Does o) (Does o)
    same_answer {m} {todo} {todo'} {rest} {rest'} e e' has again =
        BothDo (λ x y. subst (λ p. Points p (answered_on vars todo' x y)) (sym (e x y)) (subst (λ p. Points (record { vars = vars; todo = rest }) p) (sym (e' x y))
        (At (record { mode = m; long = long; has = has; again = again }))))

    made : (m : Option Expr) (k : Maker) (p : ℕ) (a a' b b' : Expr) (rest rest' : List Todo) (o : Operation) → HasIt v m slot width vars → IsUntouchedBy v m (Make k p a b) → AreAgain m rest rest'
        → Match vars (Do (Make k p a b) ∷ rest) (Do (Make k p a' b') ∷ rest') (Does o) (Does o)
    made m (Spawn g) p a a' b b' rest rest' o has h again = BothDo (λ x y. At (record { mode = m; long = long; has = has; again = again }))
    made m Post p a a' b b' rest rest' o has h again = BothDo (λ x y. At (record { mode = m; long = long; has = has; again = again }))
    made m (Isolate d) p a a' b b' rest rest' o has h again =
        BothDo (λ x y. At (record { mode = m; long = length-set vars d x ∙ long; has = set_has m (Make (Isolate d) p a b) d x vars (λ e u. u) h has; again = again }))

    do_step : {m : Option Expr} {s s' : Stmt} {rest rest' : List Todo} → HasIt v m slot width vars → IsUntouchedBy v m s → IsAgain v m s s' → AreAgain m rest rest'
        → Match vars (Do s ∷ rest) (Do s' ∷ rest') (act_on slot width vars (Do s ∷ rest)) (act_on slot width vars (Do s' ∷ rest'))
    do_step has h Skips again = go has again
    do_step {m} has h (Thens {p = p} {q = q} {a = a} {b = b} one two) again =
        let parts = both_untouched m a b (Then' p a q b) (λ e u. u) h in go has (More (DoAgain parts.0 one) (More (DoAgain parts.1 two) again))
    do_step has h (Sets free under two) again = go has (Setting free under two again)
    do_step {m} {rest = rest} {rest' = rest'} has h (Assigns {x = x} {d = d} {d' = d'} alike) again =
        by_value (value_of d slot width vars) (value_of d' slot width vars) (λ z. goes (set vars x z) rest) (λ z. goes (set vars x z) rest') (alike slot width vars has)
        (λ z is. BothGo (At (record { mode = m; long = length-set vars x z ∙ long; has = set_has m (Assign x d) x z vars (λ e u. u) h has; again = again })))
    do_step {m} has h (Ifs {c = c} {c' = c'} {p = p} {q = q} {a = a} {b = b} alike one two) again =
        let parts = both_untouched m a b (If' c p a q b) (λ e u. u) h in
        by_test (test_of c slot width vars) (test_of c' slot width vars) _ _ _ _ (alike slot width vars has) (go has (More (DoAgain parts.0 one) again))
        (go has (More (DoAgain parts.1 two) again))
    do_step {m} has h (Loops {c = c} {p = p} {q = q} {a = a} {b = b} alike one two) again =
        let parts = both_untouched m a b (Loop' c p a q b) (λ e u. u) h in go has (More (TurnAgain alike parts.0 parts.1 one two) again)
    do_step {m} has h (Repeats {c = c} {p = p} {q = q} {a = a} {b = b} alike one two) again =
        let parts = both_untouched m a b (Repeat' c p a q b) (λ e u. u) h in go has (More (DoAgain parts.0 one) (More (NextAgain alike parts.0 parts.1 one two) again))
    do_step has h (Breaks {k = k}) again = go has (past_again k again)
    do_step has h (Continues {k = k}) again = go has (next_again k again)
    do_step {m} has h (Returns {d = d} {d' = d'} alike) again =
        by_value (value_of d slot width vars) (value_of d' slot width vars) _ _ (alike slot width vars has) (λ z is. BothDo (λ x y. At (record { mode = m; long = long; has = has; again = again })))
    do_step {m} {rest = rest} {rest' = rest'} has h (Makes {k = k} {n = p} {a = a} {a' = a'} {b = b} {b' = b'} alike alike') again =
        by_value (value_of a slot width vars) (value_of a' slot width vars) _ _ (alike slot width vars has)
        (λ x is. by_value (value_of b slot width vars) (value_of b' slot width vars) _ _ (alike' slot width vars has) (λ y is'. made m k p a a' b b' rest rest' _ has h again))
    do_step {m} has h (Waits {x = d} {y = e} {g = g}) again =
        BothDo (λ x y. At (record { mode = m; long = put_long e y (put_into d x vars) ∙ put_long d x vars ∙ long; has = two_have m d e g x y vars h has; again = again }))
    do_step {m} has h (Cancels) again = BothDo (λ x y. At (record { mode = m; long = long; has = has; again = again }))
    do_step {m} has h (Asks {x = d} {q = q}) again =
        BothDo (λ x y. At (record { mode = m; long = length-set vars d x ∙ long; has = set_has m (Read d q) d x vars (λ e u. u) h has; again = again }))
    do_step {m} has h (Stores {d = d} {d' = d'} alike) again =
        by_value (value_of d slot width vars) (value_of d' slot width vars) _ _ (alike slot width vars has) (λ z is. BothDo (λ x y. At (record { mode = m; long = long; has = has; again = again })))

    on : {m : Option Expr} {ts ts' : List Todo} → HasIt v m slot width vars → AreAgain m ts ts' → Match vars ts ts' (act_on slot width vars ts) (act_on slot width vars ts')
    on has Nothing = BothDo (λ x y. At (record { mode = None; long = long; has = tt; again = Nothing }))
    on has (More (DoAgain u a) rest) = do_step has u a rest
    on has (More (TurnAgain {c = c} {c' = c'} alike u w one two) rest) =
        by_test (test_of c slot width vars) (test_of c' slot width vars) _ _ _ _ (alike slot width vars has) (go has (More (DoAgain u one) (More (NextAgain alike u w one two) rest)))
        (go has rest)
    on has (More (NextAgain alike u w one two) rest) = go has (More (DoAgain w two) (More (TurnAgain alike u w one two) rest))
    on has (Leaves rest) = on tt rest
    on has (Setting {e = e} {ts = ts} {ts' = ts'} free under two rest) =
        by_value (value_of e slot width vars) (value_of e slot width vars) _ _ refl (λ z is. BothGo (At (record {
          mode = Some e;
          long = length-set vars v z ∙ long;
          has = value_free e v free vars z ∙ is ∙ ap Some (sym (get_or-set_same vars v z (pos 0) (omega (arith, low, long))));
          again = More (DoAgain under two) (Leaves rest);
        })))

  -- what follows an operation, answered alike
  after_alike : (o : Operation) (answers : List (ℤ × ℤ)) (f g : (ℤ × ℤ) → List (ℤ × ℤ) → Option (List Event)) → ((a : ℤ × ℤ) (rest : List (ℤ × ℤ)) → f a rest ≡ g a rest)
      → events_after o answers f ≡ events_after o answers g
  after_alike o [] f g h = refl
  after_alike o (a ∷ rest) f g h = ap (λ es. if is_return o then Some (Did o ∷ []) else option_map (λ events. Did o ∷ events) es) (h a rest)

  abbrev SameAfter : ℕ → Type 0
  SameAfter k = (q q' : Point) → Points q q' → (answers : List (ℤ × ℤ)) → source_events slot width k q' answers ≡ source_events slot width k q answers

  by_match : (k : ℕ) → SameAfter k → (vars : List ℤ) (todo todo' : List Todo) {a a' : Act} → Match vars todo todo' a a' → (answers : List (ℤ × ℤ))
      → source_by (source_events slot width k) (record { vars = vars; todo = todo' }) a' answers ≡ source_by (source_events slot width k) (record { vars = vars; todo = todo }) a answers
  by_match k same vars todo todo' (BothGo {q} {q'} points) answers = same q q' points answers
  by_match k same vars todo todo' BothFail answers = refl
  by_match k same vars todo todo' (BothDo {o = o} alike) answers = after_alike o answers _ _ (λ a rest. same (answered_on vars todo a.0 a.1) (answered_on vars todo' a.0 a.1) (alike a.0 a.1) rest)

  events_alike : (k : ℕ) → SameAfter k
  events_alike zero q q' points answers = refl
  events_alike (suc k) q q' (At {vars = vars} {todo = todo} {todo' = todo'} alike) answers = by_match k (events_alike k) vars todo todo' (on vars alike.long alike.has alike.again) answers

module _ (v : ℕ) (f f' : Function) (parameters : 2 ≤ f.variables) (reads : ReadsAgain v f f') (slot width : ℕ) (x y : ℤ) where
  first_long : length (x ∷ y ∷ replicate (f.variables - 2) (pos 0)) ≡ f.variables
  first_long = omega (arith, length-replicate (f.variables - 2) (pos 0), parameters)

  at_start : Points v f.variables slot width reads.low (start f x y) (start f' x y)
  at_start = subst (λ k. Points v f.variables slot width reads.low (start f x y) (record { vars = x ∷ y ∷ replicate (k - 2) (pos 0); todo = Do f'.body ∷ [] })) (sym reads.variables)
      (At (record { mode = None; long = first_long; has = tt; again = More (DoAgain tt reads.body) Nothing }))

  does_the_same : (procs : List (List Instr)) (g : Frame) → DoesTheSame procs slot width (start f' x y) g → DoesTheSame procs slot width (start f x y) g
  does_the_same procs g same = record {
    forth = λ answers fit k events e. same.forth answers fit k events (events_alike v f.variables slot width reads.low k (start f x y) (start f' x y) at_start answers ∙ e);
    back = λ answers fit m events e. let found = same.back answers fit m events e in
        (found.0, sym (events_alike v f.variables slot width reads.low found.0 (start f x y) (start f' x y) at_start answers) ∙ found.1);
  }

-- It needs no more of the function than its parameters.
pub again_followed : (v : ℕ) (f f' : Function) (instrs : List Instr) → 2 ≤ f.variables → ReadsAgain v f f' → IsCompiled f' instrs → IsCompiled f instrs
again_followed v f f' instrs parameters reads compiled procs p slot width x y here low_slot low_width fx fy =
    does_the_same v f f' parameters reads slot width x y procs (new_frame p x y) (compiled procs p slot width x y here low_slot low_width fx fy)

pub again_compiled : (v : ℕ) (f f' : Function) (instrs : List Instr) → IsFunction f → ReadsAgain v f f' → IsCompiled f' instrs → IsCompiled f instrs
again_compiled v f f' instrs good = again_followed v f f' instrs good.parameters
