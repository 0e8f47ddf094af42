-- Each step of a pass keeps the rule of its level.
use Rattle.std.proofs.Common.{◌≡◌, ◌≢◌, ℕ, zero, suc, ◌+◌, ◌≤◌, ◌<◌, ◌⊎◌, List, [], ◌∷◌, ◌++◌, length, get_or, set, refl, sym, ◌∙◌, ap, subst, inl, inr, ⊎_elim, arith, append_assoc, append-nil}
use Rattle.std.proofs.Common.{length-append}
use Rattle.std.proofs.Math.ListN.{length-set}
use Rattle.std.proofs.lemmas.Bool.Decides.{eqb_tells}
use mathlib.Core.Option.{some, some-injective, some-ne-none}
use lib.ListN.{get_elem?}
use Rattle.crossbeam_queue.specs.Fifo.{Pushes, Pops, Forks, Merges, Learns, Held}
use Rattle.crossbeam_queue.proofs.Lists.{at_set, set_here, set_else, at_longer, at_last}
use Rattle.std.proofs.Common.{map}
use Rattle.std.proofs.lemmas.List.{map-append, length-map}
use Rattle.market_config.specs.declared.calls.Call.{Call}
use Rattle.call_queues.specs.declared.marks.Marked.{Marked}
use Rattle.call_queues.specs.declared.marks.PassLog.{PassLog}
use Rattle.call_queues.specs.declared.marks.QueueView.{QueueView}
use Rattle.call_queues.specs.declared.marks.QueueView.TheVariants.{Owner, Keeper, Spent}
use Rattle.call_queues.specs.Order.{LevelOrder, no_log, log_of}
use Rattle.call_queues.specs.declared.marks.TheConstants.{MAX_CALLS}
use Rattle.call_queues.specs.Rule.{Fits, IsKept, with_pushed, with_popped, after_push, after_pop, Drained, rest_of, next_of, both_of, view_of, Sees, SeesBy, SeesAll, Took}
use Rattle.call_queues.specs.Levels.{taken_in}
use Rattle.call_queues.proofs.Orders.{LevelOrder-push, LevelOrder-pop, LevelOrder-more, LevelOrder-none}

within_at : {A : Type 0} (l : List A) (i : ℕ) (a d : A) → get_elem? l i ≡ some a → (i < length l) × (get_or l i d ≡ a)
within_at [] i a d e = absurd (some-ne-none a (sym e))
within_at (x ∷ xs) zero a d e = (omega arith, some-injective x a e)
within_at (x ∷ xs) (suc i) a d e = let r = within_at xs i a d e in (omega arith, r.1)

some_at : {A : Type 0} (l : List A) (i : ℕ) → i < length l → (a : A) × (get_elem? l i ≡ some a)
some_at [] i h = absurd (omega arith)
some_at (x ∷ xs) zero h = (x, refl)
some_at (x ∷ xs) (suc i) h = some_at xs i (omega arith)

snoc_at : {A : Type 0} (l : List A) (a b : A) (j : ℕ) → get_elem? (l ++ a ∷ []) j ≡ some b → (get_elem? l j ≡ some b) ⊎ ((j ≡ length l) × (a ≡ b))
snoc_at [] a b zero e = inr (refl, some-injective a b e)
snoc_at [] a b (suc j) e = absurd (some-ne-none b (sym e))
snoc_at (x ∷ xs) a b zero e = inl e
snoc_at (x ∷ xs) a b (suc j) e = ⊎_elim (λ t. inl t) (λ t. inr (ap suc t.0, t.1)) (snoc_at xs a b j e)

same_list : {A : Type 0} (a b : List A) → length a ≡ length b → ((p : ℕ) (g : A) → get_elem? a p ≡ some g → get_elem? b p ≡ some g) → b ≡ a
same_list [] [] e h = refl
same_list [] (y ∷ b) e h = absurd (omega arith)
same_list (x ∷ a) [] e h = absurd (omega arith)
same_list (x ∷ a) (y ∷ b) e h = let r = same_list a b (omega arith) (λ p g t. h (suc p) g t) in let s = some-injective y x (h 0 x refl) in λ i. s i ∷ r i

Each : (ℕ → QueueView → Type 0) → List QueueView → Type 0
Each F views = (port : ℕ) (v : QueueView) → get_elem? views port ≡ some v → F port v

each_set : (F : ℕ → QueueView → Type 0) (views : List QueueView) (port : ℕ) (w : QueueView) → F port w → ((j : ℕ) (u : QueueView) → j ≢ port → get_elem? views j ≡ some u → F j u)
    → (j : ℕ) (u : QueueView) → get_elem? (set views port w) j ≡ some u → F j u
each_set F views port w mine others j u e = ⊎_elim (λ (x : (j ≡ port) × (w ≡ u)). subst (λ (y : ℕ × QueueView). F y.0 y.1) (λ i. (sym x.0 i, x.1 i)) mine)
    (λ (x : (j ≢ port) × (get_elem? views j ≡ some u)). others j u x.0 x.1) (at_set views port j w u e)

apart : (owners : List ℕ) (p q port j : ℕ) → get_elem? owners p ≡ some port → get_elem? owners q ≡ some j → j ≢ port → q ≢ p
apart owners p q port j e f ne t = ne (some-injective j port (sym f ∙ ap (get_elem? owners) t ∙ e))

-- the others know what they knew where the log of p changes
others_keep : (keeper : ℕ) (owners : List ℕ) (logs : List PassLog) (taken : List Marked) (p port : ℕ) (h : PassLog) → get_elem? owners p ≡ some port → port ≢ keeper
    → (j : ℕ) (u : QueueView) → j ≢ port → Fits keeper owners logs taken j u → Fits keeper owners (set logs p h) taken j u
others_keep keeper owners logs taken p port h own nk j (Owner q g) ne f = (f.0, f.1, set_else logs p q h (apart owners p q port j own f.1 ne) ∙ f.2)
others_keep keeper owners logs taken p port h own nk j (Keeper made known out) ne f = (
  f.0,
  f.1 ∙ sym (length-set logs p h),
  f.2,
  λ q g e. let r = f.3 q g e in (r.0, set_else logs p q h (apart owners p q port keeper own r.0 (λ t. nk (sym t))) ∙ r.1),
)
others_keep keeper owners logs taken p port h own nk j Spent ne f = tt

-- while a pass is out, nothing is drained
undrained : (items : List Marked) (views : List QueueView) (k : IsKept items views) (port p : ℕ) (h : PassLog) → get_elem? views port ≡ some (Owner p h) → k.taken ≡ []
undrained items views k port p h at = let f = k.fits port (Owner p h) at in ⊎_elim (λ e. e) (λ c. absurd (f.0 (c p port f.1))) k.closed

pub pushes : (n port p : ℕ) (h : PassLog) (x : Marked) → n ≤ MAX_CALLS → x.by ≡ p → x.at ≡ length h.pushed → Pushes IsKept n port (Owner p h) x (λ w. w ≡ after_push (Owner p h) x)
pushes n port p h x few by num items views room k at =
    let f = k.fits port (Owner p h) at in
    let none = undrained items views k port p h at in
    let here = within_at k.logs p h no_log f.2 in
    let e : log_of k.logs p ≡ h = here.1 in
    let order = LevelOrder-push k.logs k.past (k.taken ++ items) k.order p x here.0 by (num ∙ ap (λ (g : PassLog). length g.pushed) (sym e)) in
    let order' = subst (λ (g : PassLog). LevelOrder (set k.logs p (with_pushed g x)) k.past ((k.taken ++ items) ++ x ∷ [])) e order in
    let w : QueueView = Owner p (with_pushed h x) in (
      w,
      record {
        logs = set k.logs p (with_pushed h x);
        past = k.past;
        taken = k.taken;
        owners = k.owners;
        keeper = k.keeper;
        order = subst (λ l. LevelOrder (set k.logs p (with_pushed h x)) k.past l) (append_assoc k.taken items (x ∷ [])) order';
        seats = k.seats ∙ sym (length-set k.logs p (with_pushed h x));
        there = subst (λ n. k.keeper < n) (sym (length-set views port w)) k.there;
        fits = each_set (Fits k.keeper k.owners (set k.logs p (with_pushed h x)) k.taken) views port w (f.0, f.1, set_here k.logs p (with_pushed h x) here.0)
            (λ j u ne t. others_keep k.keeper k.owners k.logs k.taken p port (with_pushed h x) f.1 f.0 j u ne (k.fits j u t));
        room = omega (arith, length-append items (x ∷ []), ap length none);
        closed = k.closed;
      },
      refl,
    )

pub pops : (port p : ℕ) (h : PassLog) → Pops IsKept port (Owner p h) (Took (Owner p h))
pops port p h x items views k at =
    let f = k.fits port (Owner p h) at in
    let none = undrained (x ∷ items) views k port p h at in
    let here = within_at k.logs p h no_log f.2 in
    let order = LevelOrder-pop k.logs k.past items p x (subst (λ t. LevelOrder k.logs k.past (t ++ x ∷ items)) none k.order) here.0 in
    let order' = subst (λ (g : PassLog). LevelOrder (set k.logs p (with_popped g x)) (k.past ++ x ∷ []) items) here.1 order in
    let w : QueueView = Owner p (with_popped h x) in (
      w,
      record {
        logs = set k.logs p (with_popped h x);
        past = k.past ++ x ∷ [];
        taken = k.taken;
        owners = k.owners;
        keeper = k.keeper;
        order = subst (λ t. LevelOrder (set k.logs p (with_popped h x)) (k.past ++ x ∷ []) (t ++ items)) (sym none) order';
        seats = k.seats ∙ sym (length-set k.logs p (with_popped h x));
        there = subst (λ n. k.keeper < n) (sym (length-set views port w)) k.there;
        fits = each_set (Fits k.keeper k.owners (set k.logs p (with_popped h x)) k.taken) views port w (f.0, f.1, set_here k.logs p (with_popped h x) here.0)
            (λ j u ne t. others_keep k.keeper k.owners k.logs k.taken p port (with_popped h x) f.1 f.0 j u ne (k.fits j u t));
        room = (let r = k.room in omega arith);
        closed = k.closed;
      },
      (refl, (items, (set k.logs p (with_popped h x), k.past ++ x ∷ [], order', set_here k.logs p (with_popped h x) here.0))),
    )

-- what is with the keeper, and with nobody else
taken_keep : (keeper : ℕ) (owners : List ℕ) (logs : List PassLog) (taken more : List Marked) (j : ℕ) (u : QueueView) → j ≢ keeper → Fits keeper owners logs taken j u → Fits keeper owners logs more j u
taken_keep keeper owners logs taken more j (Owner q g) ne f = f
taken_keep keeper owners logs taken more j (Keeper made known out) ne f = absurd (ne f.0)
taken_keep keeper owners logs taken more j Spent ne f = tt

pub drains : (port made : ℕ) (known : List PassLog) (out : List Marked) → length known ≡ made → Pops IsKept port (Keeper made known out) (Drained (Keeper made known out))
drains port made known out all x items views k at =
    let f = k.fits port (Keeper made known out) at in
    let w : QueueView = Keeper made known (out ++ x ∷ []) in
    let more = k.taken ++ x ∷ [] in
    let few : length more + length items ≤ MAX_CALLS = (let r = k.room in omega (arith, length-append k.taken (x ∷ []))) in (
      w,
      record {
        logs = k.logs;
        past = k.past;
        taken = more;
        owners = k.owners;
        keeper = k.keeper;
        order = subst (λ l. LevelOrder k.logs k.past l) (sym (append_assoc k.taken (x ∷ []) items)) k.order;
        seats = k.seats;
        there = subst (λ n. k.keeper < n) (sym (length-set views port w)) k.there;
        fits = each_set (Fits k.keeper k.owners k.logs more) views port w (f.0, f.1, ap (λ l. l ++ x ∷ []) f.2, f.3)
            (λ j u ne t. taken_keep k.keeper k.owners k.logs k.taken more j u (λ e. ne (e ∙ sym f.0)) (k.fits j u t));
        room = few;
        closed = inr (λ p q t. let h = within_at k.owners p q 0 t in let s = k.seats in let m = f.1 in let g = some_at known p (omega arith) in some-injective q k.keeper (sym t ∙ (f.3 p g.0 g.1).0));
      },
      (refl, (let e : length (out ++ x ∷ []) ≡ length more = ap (λ l. length (l ++ x ∷ [])) f.2 in omega arith)),
    )

-- a new number
more_keep : (keeper : ℕ) (owners : List ℕ) (logs : List PassLog) (taken : List Marked) (port : ℕ) (j : ℕ) (u : QueueView) → j ≢ keeper → Fits keeper owners logs taken j u →
    Fits keeper (owners ++ port ∷ []) (logs ++ no_log ∷ []) taken j u
more_keep keeper owners logs taken port j (Owner q g) ne f = (f.0, at_longer owners (port ∷ []) q j f.1, at_longer logs (no_log ∷ []) q g f.2)
more_keep keeper owners logs taken port j (Keeper made known out) ne f = absurd (ne f.0)
more_keep keeper owners logs taken port j Spent ne f = tt

pub forks : (port made : ℕ) (known : List PassLog) → Forks IsKept port (Keeper made known []) (Keeper (made + 1) known []) (Owner made no_log)
forks port made known items views k at =
    let f = k.fits port (Keeper made known []) at in
    let w : QueueView = Keeper (made + 1) known [] in
    let v : QueueView = Owner made no_log in
    let n = length views in
    let ports : length (set views port w) ≡ n = length-set views port w in
    let owners = k.owners ++ n ∷ [] in
    let logs = k.logs ++ no_log ∷ [] in
    let F = Fits k.keeper owners logs k.taken in
    let mine : F port w = (
      f.0,
      (let s = f.1 in omega (arith, length-append k.logs (no_log ∷ []))),
      f.2,
      λ p h e. let r = f.3 p h e in
          (at_longer k.owners (n ∷ []) p k.keeper r.0, at_longer k.logs (no_log ∷ []) p h r.1),
    ) in
    let last : F n v = ((λ e. let t = k.there in absurd (omega arith)), at_last k.owners n made (k.seats ∙ sym f.1), at_last k.logs no_log made (sym f.1)) in
    record {
      logs = logs;
      past = k.past;
      taken = k.taken;
      owners = owners;
      keeper = k.keeper;
      order = LevelOrder-more k.logs k.past (k.taken ++ items) k.order;
      seats = (let s = k.seats in omega (arith, length-append k.logs (no_log ∷ []), length-append k.owners (n ∷ [])));
      there = (let t = k.there in omega (arith, length-append (set views port w) (v ∷ [])));
      fits = λ j u e. ⊎_elim (λ t. each_set F views port w mine (λ i y ne s. more_keep k.keeper k.owners k.logs k.taken n i y (λ d. ne (d ∙ sym f.0)) (k.fits i y s)) j u t)
          (λ (t : (j ≡ length (set views port w)) × (v ≡ u)). subst (λ (y : ℕ × QueueView). F y.0 y.1) (λ i. ((sym ports ∙ sym t.0) i, t.1 i)) last) (snoc_at (set views port w) v u j e);
      room = k.room;
      closed = inl (sym f.2);
    }

back_keep : (keeper : ℕ) (owners : List ℕ) (logs : List PassLog) (taken : List Marked) (q other : ℕ) → get_elem? owners q ≡ some other
    → (j : ℕ) (u : QueueView) → j ≢ keeper → j ≢ other → Fits keeper owners logs taken j u → Fits keeper (set owners q keeper) logs taken j u
back_keep keeper owners logs taken q other own j (Owner r g) ne away f = (f.0, set_else owners q r keeper (apart owners q r other j own f.1 away) ∙ f.1, f.2)
back_keep keeper owners logs taken q other own j (Keeper made known out) ne away f = absurd (ne f.0)
back_keep keeper owners logs taken q other own j Spent ne away f = tt

set_same : (owners : List ℕ) (p q keeper : ℕ) → get_elem? owners p ≡ some keeper → get_elem? (set owners q keeper) p ≡ some keeper
set_same owners p q keeper e = elim (eqb_tells p q) [
  | inl t ↦ (let l = within_at owners p keeper 0 e in let s : get_elem? (set owners p keeper) p ≡ some keeper = set_here owners p keeper l.0 in
      subst (λ n. get_elem? (set owners n keeper) p ≡ some keeper) t.1 s)
  | inr t ↦ set_else owners q p keeper t.1 ∙ e
]

pub merges : (port made : ℕ) (known : List PassLog) (out : List Marked) (other q : ℕ) (h : PassLog) → q ≡ length known
    → Merges IsKept port (Keeper made known out) other (Owner q h) (Keeper made (known ++ h ∷ []) out) Spent
merges port made known out other q h next items views k at two at' =
    let f = k.fits port (Keeper made known out) at in
    let w : QueueView = Keeper made (known ++ h ∷ []) out in
    let was : get_elem? views other ≡ some (Owner q h) = ⊎_elim (λ t. absurd (two t.0)) (λ t. t.1) (at_set views port other w (Owner q h) at') in
    let g = k.fits other (Owner q h) was in
    let owners = set k.owners q k.keeper in
    let F = Fits k.keeper owners k.logs k.taken in
    let own = within_at k.owners q other 0 g.1 in
    let mine : F port w = (
      f.0,
      f.1,
      f.2,
      λ p u e. ⊎_elim (λ t. let r = f.3 p u t in (set_same k.owners p q k.keeper r.0, r.1))
          (λ (t : (p ≡ length known) × (h ≡ u)).
          let pq : q ≡ p = next ∙ sym t.0 in
          let a : (get_elem? owners q ≡ some k.keeper) × (get_elem? k.logs q ≡ some h) = (set_here k.owners q k.keeper own.0, g.2) in
          subst (λ (y : ℕ × PassLog). (get_elem? owners y.0 ≡ some k.keeper) × (get_elem? k.logs y.0 ≡ some y.1)) (λ i. (pq i, t.1 i)) a) (snoc_at known h u p e),
    ) in
    let spent : QueueView = Spent in
    let vs = set views port w in
    let F' : ℕ → QueueView → Type 0 = λ j u. j ≢ other → F j u in
    let first : (j : ℕ) (u : QueueView) → get_elem? vs j ≡ some u → F' j u =
    each_set F' views port w (λ _. mine) (λ j u ne t away. back_keep k.keeper k.owners k.logs k.taken q other g.1 j u (λ d. ne (d ∙ sym f.0)) away (k.fits j u t)) in
    record {
      logs = k.logs;
      past = k.past;
      taken = k.taken;
      owners = owners;
      keeper = k.keeper;
      order = k.order;
      seats = length-set k.owners q k.keeper ∙ k.seats;
      there = (let t = k.there in omega (arith, length-set views port w, length-set vs other spent));
      fits = each_set F vs other spent tt (λ j u away t. first j u t away);
      room = k.room;
      closed = ⊎_elim (λ e. inl e) (λ c. inr
          (λ p j t. ⊎_elim (λ (x : (p ≡ q) × (k.keeper ≡ j)). sym x.1) (λ (x : (p ≢ q) × (get_elem? k.owners p ≡ some j)). c p j x.1) (at_set k.owners q p k.keeper j t))) k.closed;
    }

pub learns : (port p : ℕ) (h : PassLog) → Learns IsKept port (Owner p h) (Sees p h)
learns port p h items views k at =
    let none = undrained items views k port p h at in
    (k.logs, k.past, subst (λ t. LevelOrder k.logs k.past (t ++ items)) none k.order, (k.fits port (Owner p h) at).2)

pub learns_all : (port made : ℕ) (known : List PassLog) (out : List Marked) → length known ≡ made → Learns IsKept port (Keeper made known out) (SeesAll (Keeper made known out))
learns_all port made known out all items views k at =
    let f = k.fits port (Keeper made known out) at in
    let same : k.logs ≡ known = same_list known k.logs (all ∙ f.1) (λ p g t. (f.3 p g t).1) in
    (k.past, subst (λ (y : List PassLog × List Marked). LevelOrder y.0 k.past (y.1 ++ items)) (λ i. (same i, sym f.2 i)) k.order)

alone : (h : PassLog) (j : ℕ) (u : QueueView) → j ≢ 0 → get_elem? (Keeper 1 (h ∷ []) [] ∷ []) j ≡ some u → Fits 0 (0 ∷ []) (h ∷ []) [] j u
alone h zero u ne e = absurd (ne refl)
alone h (suc j) u ne e = absurd (some-ne-none u (sym e))

first_knows : (h : PassLog) (p : ℕ) (g : PassLog) → get_elem? (h ∷ []) p ≡ some g → (get_elem? {A = ℕ} (0 ∷ []) p ≡ some 0) × (get_elem? (h ∷ []) p ≡ some g)
first_knows h zero g e = (refl, e)
first_knows h (suc p) g e = absurd (some-ne-none g (sym e))

pub begins : IsKept [] (Keeper 1 (no_log ∷ []) [] ∷ [])
begins = record {
  logs = no_log ∷ [];
  past = [];
  taken = [];
  owners = 0 ∷ [];
  keeper = 0;
  order = LevelOrder-more [] [] [] LevelOrder-none;
  seats = refl;
  there = omega arith;
  fits = each_set (Fits 0 (0 ∷ []) (no_log ∷ []) []) (Keeper 1 (no_log ∷ []) [] ∷ []) 0 (Keeper 1 (no_log ∷ []) []) (refl, refl, refl, first_knows no_log) (λ j u ne e. alone no_log j u ne e);
  room = omega arith;
  closed = inl refl;
}

-- the first pass pushes and pops
first_keep : (keeper : ℕ) (owners : List ℕ) (logs : List PassLog) (taken : List Marked) (h : PassLog) → get_elem? owners 0 ≡ some keeper
    → (j : ℕ) (u : QueueView) → j ≢ keeper → Fits keeper owners logs taken j u → Fits keeper owners (set logs 0 h) taken j u
first_keep keeper owners logs taken h own j (Owner q g) ne f = (f.0, f.1, set_else logs 0 q h (apart owners 0 q keeper j own f.1 ne) ∙ f.2)
first_keep keeper owners logs taken h own j (Keeper made known out) ne f = absurd (ne f.0)
first_keep keeper owners logs taken h own j Spent ne f = tt

first_mine : (keeper : ℕ) (owners : List ℕ) (logs known : List PassLog) (h next : PassLog) → 0 < length logs →
    ((p : ℕ) (g : PassLog) → get_elem? (h ∷ known) p ≡ some g → (get_elem? owners p ≡ some keeper) × (get_elem? logs p ≡ some g))
    → (p : ℕ) (g : PassLog) → get_elem? (next ∷ known) p ≡ some g → (get_elem? owners p ≡ some keeper) × (get_elem? (set logs 0 next) p ≡ some g)
first_mine keeper owners logs known h next within f zero g e = ((f 0 h refl).0, set_here logs 0 next within ∙ e)
first_mine keeper owners logs known h next within f (suc p) g e = let r = f (suc p) g e in (r.0, set_else logs 0 (suc p) next (λ t. omega arith) ∙ r.1)

pub pushes_first : (n port made : ℕ) (known : List PassLog) (h : PassLog) (x : Marked) → n ≤ MAX_CALLS → x.by ≡ 0 → x.at ≡ length h.pushed →
    Pushes IsKept n port (Keeper made (h ∷ known) []) x (λ w. w ≡ Keeper made (with_pushed h x ∷ known) [])
pushes_first n port made known h x few by num items views room k at =
    let f = k.fits port (Keeper made (h ∷ known) []) at in
    let none : k.taken ≡ [] = sym f.2 in
    let own = f.3 0 h refl in
    let here = within_at k.logs 0 h no_log own.1 in
    let e : log_of k.logs 0 ≡ h = here.1 in
    let order = LevelOrder-push k.logs k.past (k.taken ++ items) k.order 0 x here.0 by (num ∙ ap (λ (g : PassLog). length g.pushed) (sym e)) in
    let order' = subst (λ (g : PassLog). LevelOrder (set k.logs 0 (with_pushed g x)) k.past ((k.taken ++ items) ++ x ∷ [])) e order in
    let w : QueueView = Keeper made (with_pushed h x ∷ known) [] in (
      w,
      record {
        logs = set k.logs 0 (with_pushed h x);
        past = k.past;
        taken = k.taken;
        owners = k.owners;
        keeper = k.keeper;
        order = subst (λ l. LevelOrder (set k.logs 0 (with_pushed h x)) k.past l) (append_assoc k.taken items (x ∷ [])) order';
        seats = k.seats ∙ sym (length-set k.logs 0 (with_pushed h x));
        there = subst (λ n. k.keeper < n) (sym (length-set views port w)) k.there;
        fits = each_set (Fits k.keeper k.owners (set k.logs 0 (with_pushed h x)) k.taken) views port w
            (f.0, f.1 ∙ sym (length-set k.logs 0 (with_pushed h x)), f.2, first_mine k.keeper k.owners k.logs known h (with_pushed h x) here.0 f.3)
            (λ j u ne t. first_keep k.keeper k.owners k.logs k.taken (with_pushed h x) own.0 j u (λ d. ne (d ∙ sym f.0)) (k.fits j u t));
        room = omega (arith, length-append items (x ∷ []), ap length none);
        closed = k.closed;
      },
      refl,
    )

pub pops_first : (port made : ℕ) (known : List PassLog) (h : PassLog) → Pops IsKept port (Keeper made (h ∷ known) []) (Took (Keeper made (h ∷ known) []))
pops_first port made known h x items views k at =
    let f = k.fits port (Keeper made (h ∷ known) []) at in
    let none : k.taken ≡ [] = sym f.2 in
    let own = f.3 0 h refl in
    let here = within_at k.logs 0 h no_log own.1 in
    let order = LevelOrder-pop k.logs k.past items 0 x (subst (λ t. LevelOrder k.logs k.past (t ++ x ∷ items)) none k.order) here.0 in
    let order' = subst (λ (g : PassLog). LevelOrder (set k.logs 0 (with_popped g x)) (k.past ++ x ∷ []) items) here.1 order in
    let w : QueueView = Keeper made (with_popped h x ∷ known) [] in (
      w,
      record {
        logs = set k.logs 0 (with_popped h x);
        past = k.past ++ x ∷ [];
        taken = k.taken;
        owners = k.owners;
        keeper = k.keeper;
        order = subst (λ t. LevelOrder (set k.logs 0 (with_popped h x)) (k.past ++ x ∷ []) (t ++ items)) (sym none) order';
        seats = k.seats ∙ sym (length-set k.logs 0 (with_popped h x));
        there = subst (λ n. k.keeper < n) (sym (length-set views port w)) k.there;
        fits = each_set (Fits k.keeper k.owners (set k.logs 0 (with_popped h x)) k.taken) views port w
            (f.0, f.1 ∙ sym (length-set k.logs 0 (with_popped h x)), f.2, first_mine k.keeper k.owners k.logs known h (with_popped h x) here.0 f.3)
            (λ j u ne t. first_keep k.keeper k.owners k.logs k.taken (with_popped h x) own.0 j u (λ d. ne (d ∙ sym f.0)) (k.fits j u t));
        room = (let r = k.room in omega arith);
        closed = k.closed;
      },
      (refl, (items, (set k.logs 0 (with_popped h x), k.past ++ x ∷ [], order', set_here k.logs 0 (with_popped h x) here.0))),
    )

pub learns_first : (port made : ℕ) (known : List PassLog) (h : PassLog) → Learns IsKept port (Keeper made (h ∷ known) []) (Sees 0 h)
learns_first port made known h items views k at =
    let f = k.fits port (Keeper made (h ∷ known) []) at in
    (k.logs, k.past, subst (λ t. LevelOrder k.logs k.past (t ++ items)) (sym f.2) k.order, (f.3 0 h refl).1)

-- the same where the view is known to be one of these
pushes_by : (n port made p : ℕ) (h : PassLog) (x : Marked) → n ≤ MAX_CALLS → x.by ≡ p → x.at ≡ length h.pushed
    → Pushes IsKept n port (view_of made p h) x (λ w. w ≡ after_push (view_of made p h) x) × Learns IsKept port (view_of made p h) (SeesBy (view_of made p h))
pushes_by n port made zero h x few by num = (pushes_first n port made [] h x few by num, learns_first port made [] h)
pushes_by n port made (suc p) h x few by num = (pushes n port (suc p) h x few by num, learns port (suc p) h)

pub pushes_at : (n port made p : ℕ) (h : PassLog) (x : Marked) (v : QueueView) → v ≡ view_of made p h → n ≤ MAX_CALLS → x.by ≡ p → x.at ≡ length h.pushed
    → Pushes IsKept n port v x (λ w. w ≡ after_push v x) × Learns IsKept port v (SeesBy v)
pushes_at n port made p h x v e few by num = subst (λ v. Pushes IsKept n port v x (λ w. w ≡ after_push v x) × Learns IsKept port v (SeesBy v)) (sym e) (pushes_by n port made p h x few by num)

pops_by : (port made p : ℕ) (h : PassLog) → Pops IsKept port (view_of made p h) (Took (view_of made p h)) × Learns IsKept port (view_of made p h) (SeesBy (view_of made p h))
pops_by port made zero h = (pops_first port made [] h, learns_first port made [] h)
pops_by port made (suc p) h = (pops port (suc p) h, learns port (suc p) h)

pub pops_at : (port made p : ℕ) (h : PassLog) (v : QueueView) → v ≡ view_of made p h → Pops IsKept port v (Took v) × Learns IsKept port v (SeesBy v)
pops_at port made p h v e = subst (λ v. Pops IsKept port v (Took v) × Learns IsKept port v (SeesBy v)) (sym e) (pops_by port made p h)

-- what the first pass's view says after its steps
pub after_push-view : (made p : ℕ) (h : PassLog) (x : Marked) (v w : QueueView) → v ≡ view_of made p h → w ≡ after_push v x → w ≡ view_of made p (with_pushed h x)
after_push-view made zero h x v w e f = f ∙ ap (λ u. after_push u x) e
after_push-view made (suc p) h x v w e f = f ∙ ap (λ u. after_push u x) e

pub after_pop-view : (made p : ℕ) (h : PassLog) (x : Marked) (v w : QueueView) → v ≡ view_of made p h → w ≡ after_pop v x → w ≡ view_of made p (with_popped h x)
after_pop-view made zero h x v w e f = f ∙ ap (λ u. after_pop u x) e
after_pop-view made (suc p) h x v w e f = f ∙ ap (λ u. after_pop u x) e

pub held_by : (n made p : ℕ) (h : PassLog) (v : QueueView) → v ≡ view_of made p h → Held n (SeesBy v) → Held n (Sees p h)
held_by n made zero h v e held = subst (λ u. Held n (SeesBy u)) e held
held_by n made (suc p) h v e held = subst (λ u. Held n (SeesBy u)) e held

pub drains_at : (port made : ℕ) (known : List PassLog) (out : List Marked) (v : QueueView) → v ≡ Keeper made known out → length known ≡ made →
    Pops IsKept port v (Drained v) × Learns IsKept port v (SeesAll v)
drains_at port made known out v e all = subst (λ v. Pops IsKept port v (Drained v) × Learns IsKept port v (SeesAll v)) (sym e) (drains port made known out all, learns_all port made known out all)

pub forks_at : (port made : ℕ) (known : List PassLog) (v : QueueView) → v ≡ Keeper made known [] → Forks IsKept port v (rest_of v) (next_of v)
forks_at port made known v e = subst (λ v. Forks IsKept port v (rest_of v) (next_of v)) (sym e) (forks port made known)

pub merges_at : (port made : ℕ) (known : List PassLog) (out : List Marked) (v : QueueView) (other q : ℕ) (h : PassLog) (u : QueueView) → v ≡ Keeper made known out → u ≡ Owner q h → q ≡ length known
    → Merges IsKept port v other u (both_of v u) Spent
merges_at port made known out v other q h u e f next =
    subst (λ (y : QueueView × QueueView). Merges IsKept port y.0 other y.1 (both_of y.0 y.1) Spent) (λ i. (sym e i, sym f i)) (merges port made known out other q h next)

-- what a pop of the keeper tells
pub drained : (v w : QueueView) (made : ℕ) (known : List PassLog) (x : Marked) → v ≡ Keeper made known (taken_in v) → Drained v x w
    → (w ≡ Keeper made known (taken_in w)) × (taken_in w ≡ taken_in v ++ x ∷ []) × (length (taken_in w) ≤ MAX_CALLS)
drained (Owner p h) w made known x e d = cc
drained (Keeper m k out) w made known x e d =
    let s : taken_in w ≡ out ++ x ∷ [] = ap taken_in d.0 in
    let n : length (taken_in w) ≡ length (out ++ x ∷ []) = ap length s in
    let a : m ≡ made = cc in
    let b : k ≡ known = cc in
    (d.0 ∙ (λ i. Keeper (a i) (b i) (sym s i)), s, (let l = d.1 in omega arith))
drained Spent w made known x e d = cc

empty : (items : List Marked) → length items ≡ 0 → items ≡ []
empty [] e = refl
empty (x ∷ items) e = absurd (omega arith)

-- and one that finds nothing
pub drained_all : (v : QueueView) (made : ℕ) (known : List PassLog) → v ≡ Keeper made known (taken_in v) → Held 0 (SeesAll v) → (past : List Marked) × LevelOrder known past (taken_in v)
drained_all (Owner p h) made known e d = cc
drained_all (Keeper m k out) made known e (items, none, (past, order)) =
    let b : k ≡ known = cc in
    let z : items ≡ [] = empty items none in
    (past, subst (λ (y : List PassLog × List Marked). LevelOrder y.0 past y.1) (λ i. (b i, (ap (λ l. out ++ l) z ∙ append-nil out) i)) order)
drained_all Spent made known e d = cc

pub written_more : (start now next : List Call) (t more : List Marked) (x : Marked) → now ≡ start ++ map (λ (m : Marked). m.call) t → more ≡ t ++ x ∷ [] → next ≡ now ++ x.call ∷ [] →
    next ≡ start ++ map (λ (m : Marked). m.call) more
written_more start now next t more x a b c =
    c ∙ ap (λ l. l ++ x.call ∷ []) a ∙ append_assoc start (map (λ (m : Marked). m.call) t) (x.call ∷ []) ∙ ap (λ l. start ++ l) (sym (map-append (λ (m : Marked). m.call) t (x ∷ []))) ∙
    ap (λ l. start ++ map (λ (m : Marked). m.call) l) (sym b)

pub room_left : (start now : List Call) (t more : List Marked) (x : Marked) (cap begun : ℕ) → now ≡ start ++ map (λ (m : Marked). m.call) t → more ≡ t ++ x ∷ [] → length more ≤ MAX_CALLS →
    length start + MAX_CALLS ≤ begun → begun ≤ cap → length now < cap
room_left start now t more x cap begun a b few room le =
    let n : length now ≡ length start + length t = ap length a ∙ length-append start (map (λ (m : Marked). m.call) t) ∙ ap (λ k. length start + k) (length-map t (λ (m : Marked). m.call)) in
    let m : length more ≡ length t + 1 = ap length b ∙ length-append t (x ∷ []) in
    omega arith

-- of the first pass, and of another
pub first_view : (made p : ℕ) (h : PassLog) (v : QueueView) → v ≡ view_of made p h → p ≡ 0 → v ≡ Keeper made (h ∷ []) []
first_view made zero h v e z = e
first_view made (suc p) h v e z = absurd (omega arith)

pub other_view : (made p : ℕ) (h : PassLog) (v : QueueView) → v ≡ view_of made p h → 0 < p → v ≡ Owner p h
other_view made zero h v e z = absurd (omega arith)
other_view made (suc p) h v e z = e

pub other_made : (p made : ℕ) (h : PassLog) → 0 < p → Owner p h ≡ view_of made p h
other_made zero made h lt = absurd (omega arith)
other_made (suc p) made h lt = refl

-- what a pop tells of the pass p
pub took_by : (made p : ℕ) (h : PassLog) (x : Marked) (v w : QueueView) → v ≡ view_of made p h → Took v x w →
    (w ≡ view_of made p (with_popped h x)) × ((items : List Marked) × Sees p (with_popped h x) items)
took_by made zero h x v w e t = let q = t.0 ∙ ap (λ u. after_pop u x) e in (q, (t.1.0, subst (λ u. SeesBy u t.1.0) q t.1.1))
took_by made (suc p) h x v w e t = let q = t.0 ∙ ap (λ u. after_pop u x) e in (q, (t.1.0, subst (λ u. SeesBy u t.1.0) q t.1.1))
