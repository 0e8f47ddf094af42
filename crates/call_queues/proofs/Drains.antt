-- What is drained of the three levels together.
use Rattle.std.specs.List.{remove}
use Rattle.std.proofs.Common.{◌<◌, ◌+◌, ℕ, suc, length, get_or, arith, length-append, ◌≡◌, List, [], ◌∷◌, ◌++◌, map, sym, ap, ◌∙◌, subst}
use Rattle.std.proofs.lemmas.List.{map-append, length-map}
use Rattle.market_config.specs.declared.calls.Call.{Call}
use Rattle.call_queues.specs.declared.marks.Marked.{Marked}
use Rattle.call_queues.specs.declared.marks.PassLog.{PassLog}
use Rattle.job_language.specs.declared.tenants.Level.{Level}
use Rattle.call_queues.specs.Order.{LevelOrder}
use Rattle.call_queues.specs.Queues.{at, PassSeen, IsLeft, AreNumbered, QueueSet}

pub all_left : (r0 r1 r2 r3 : List Call) (a b c : List Marked) → r0 ≡ [] → r1 ≡ r0 ++ map (λ (m : Marked). m.call) a → r2 ≡ r1 ++ map (λ (m : Marked). m.call) b →
    r3 ≡ r2 ++ map (λ (m : Marked). m.call) c
    → r3 ≡ map (λ (m : Marked). m.call) (a ++ b ++ c)
all_left r0 r1 r2 r3 a b c e0 e1 e2 e3 =
    let two : r2 ≡ map (λ (m : Marked). m.call) a ++ map (λ (m : Marked). m.call) b = e2 ∙ ap (λ l. l ++ map (λ (m : Marked). m.call) b) (e1 ∙ ap (λ l. l ++ map (λ (m : Marked). m.call) a) e0) in
    e3 ∙ ap (λ l. l ++ map (λ (m : Marked). m.call) c) (two ∙ sym (map-append (λ (m : Marked). m.call) a b)) ∙ sym (map-append (λ (m : Marked). m.call) (a ++ b) c)

pub left_at : (level : Level) (passes yielded : List PassSeen) (back : List PassLog) (past rest : List Marked) → back ≡ map (λ (p : PassSeen). at p.logs level) yielded → yielded ≡ passes →
    LevelOrder back past rest → IsLeft passes level rest
left_at level passes yielded back past rest e f o = (past, subst (λ l. LevelOrder l past rest) (e ∙ ap (map (λ (p : PassSeen). at p.logs level)) f) o)

pub tail_number : (items tail : List PassSeen) (k : ℕ) (p : PassSeen) → tail ≡ remove items 0 → AreNumbered items → k < length tail → p ≡ get_or tail k p → p.number ≡ k + 1
tail_number [] tail k p e n lt at = let z : length tail ≡ 0 = ap length e in absurd (omega arith)
tail_number (x ∷ items) tail k p e n lt at =
    let t : length tail ≡ length items = ap length e in
    let q : p ≡ get_or items k p = at ∙ ap (λ l. get_or l k p) e in
    let m : (get_or items k p).number ≡ suc k = n (suc k) p (omega arith) in
    let r : p.number ≡ (get_or items k p).number = ap (λ (s : PassSeen). s.number) q in
    omega arith

pub first_number : (items : List PassSeen) (p : PassSeen) → 0 < length items → AreNumbered items → p ≡ get_or items 0 p → p.number ≡ 0
first_number items p lt n e = ap (λ (s : PassSeen). s.number) e ∙ n 0 p lt

pub back_length : (f : PassSeen → PassLog) (h : PassLog) (back now : List PassLog) (yielded : List PassSeen) → back ≡ h ∷ [] → now ≡ back ++ map f yielded → length now ≡ length yielded + 1
back_length f h back now yielded e g =
    let a : length now ≡ length (back ++ map f yielded) = ap length g in
    let b : length back ≡ length (h ∷ []) = ap length e in
    omega (arith, length-append back (map f yielded), length-map yielded f)

pub back_all : (f : PassSeen → PassLog) (items tail yielded : List PassSeen) (p : PassSeen) (h : PassLog) (back now : List PassLog) → 0 < length items → p ≡ get_or items 0 p → tail ≡ remove items 0 →
    yielded ≡ tail → h ≡ f p → back ≡ h ∷ [] → now ≡ back ++ map f yielded → now ≡ map f items
back_all f [] tail yielded p h back now lt first e y k b g = absurd (omega arith)
back_all f (x ∷ items) tail yielded p h back now lt first e y k b g = g ∙ (λ i. (b ∙ ap (λ z. z ∷ []) (k ∙ ap f first)) i ++ map f ((y ∙ e) i))

pub left_by : (level : Level) (passes : List PassSeen) (back : List PassLog) (past rest : List Marked) → back ≡ map (λ (p : PassSeen). at p.logs level) passes → LevelOrder back past rest →
    IsLeft passes level rest
left_by level passes back past rest e o = (past, subst (λ l. LevelOrder l past rest) e o)

pub tail_length : (items tail : List PassSeen) → tail ≡ remove items 0 → 0 < length items → length tail + 1 ≡ length items
tail_length [] tail e lt = absurd (omega arith)
tail_length (x ∷ items) tail e lt = let t : length tail ≡ length items = ap length e in omega arith

pub passes_first : (items : List PassSeen) (p : PassSeen) (queues : QueueSet) → 0 < length items → ((k : ℕ) (d : PassSeen) → k < length items → (get_or items k d).queues ≡ queues) →
    p ≡ get_or items 0 p → p.queues.passes ≡ queues.passes
passes_first items p queues lt all e = ap (λ (s : PassSeen). s.queues.passes) e ∙ ap (λ (m : QueueSet). m.passes) (all 0 p lt)

pub some_passes : (n m k : ℕ) → 0 < n → n ≡ m → k ≡ m → 0 < k
some_passes n m k lt e f = omega arith
