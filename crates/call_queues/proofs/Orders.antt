-- How the order of a level goes on.
use Rattle.std.proofs.Common.{◌≡◌, ◌≢◌, ℕ, zero, suc, ◌+◌, ◌≤◌, ◌<◌, ◌⊎◌, Bool, true, false, cond, ◌&&◌, ◌||◌, ◌==◌, List, [], ◌∷◌, ◌++◌, length, get_or, set, refl, sym, ◌∙◌, ap, subst, inl, inr}
use Rattle.std.proofs.Common.{arith, append_assoc, append-nil, length-append}
use Rattle.std.specs.List.{filter, list_any, sum_by, count_by}
use Rattle.std.proofs.lemmas.List.Sums.{sum_by-cons, sum_by-append, sum_by-set}
use Rattle.std.proofs.lemmas.List.Elements.{filter-append}
use Rattle.std.proofs.lemmas.List.{get_or-set_same, get_or-set_other, get_or_append_left}
use Rattle.std.proofs.Math.Seq.{get_or-append_seam}
use Rattle.std.proofs.lemmas.Bool.Decides.{nat_tests, eqb_tells}
use Rattle.call_queues.specs.declared.marks.Marked.{Marked}
use Rattle.call_queues.specs.declared.marks.PassLog.{PassLog}
use Rattle.call_queues.specs.Order.{is_at, is_in, pushed_by, members, no_log, log_of, LevelOrder}

tells : (b : Bool) → (b ≡ true) ⊎ (b ≡ false)
tells true = inl refl
tells false = inr refl

times_cons : (q : Marked → Bool) (x : Marked) (xs : List Marked) → count_by q (x ∷ xs) ≡ cond (q x) 1 0 + count_by q xs
times_cons q x xs = sum_by-cons (λ y. cond (q y) 1 0) x xs

pub times_append : (q : Marked → Bool) (xs ys : List Marked) → count_by q (xs ++ ys) ≡ count_by q xs + count_by q ys
times_append q xs ys = sum_by-append (λ y. cond (q y) 1 0) xs ys

times_one : (q : Marked → Bool) (x : Marked) → count_by q (x ∷ []) ≡ cond (q x) 1 0
times_one q x = omega (arith, times_cons q x [])

here : (q : Marked → Bool) (x : Marked) (xs : List Marked) → q x ≡ true → count_by q (x ∷ xs) ≡ 1 + count_by q xs
here q x xs e = times_cons q x xs ∙ ap (λ b. cond b 1 0 + count_by q xs) e

there : (q : Marked → Bool) (x : Marked) (xs : List Marked) → q x ≡ false → count_by q (x ∷ xs) ≡ count_by q xs
there q x xs e = let t : count_by q (x ∷ xs) ≡ 0 + count_by q xs = times_cons q x xs ∙ ap (λ b. cond b 1 0 + count_by q xs) e in omega arith

self : (m : Marked) → is_at m.by m.at m ≡ true
self m = grind (arith, nat_tests)

like : (p k : ℕ) (m : Marked) → is_at p k m ≡ true → (m.by ≡ p) × (m.at ≡ k)
like p k m e = elim (eqb_tells m.by p) [
  | inl a ↦ elim (eqb_tells m.at k) [ inl b ↦ (a.1, b.1) | inr b ↦ (let w : true ≡ false = sym e ∙ rw (a.0, b.0) refl in cc) ]
  | inr a ↦ (let w : true ≡ false = sym e ∙ rw a.0 refl in cc)
]

filter_none : (p : Marked → Bool) (ys : List Marked) → ((m : Marked) → p m ≡ true → count_by (is_at m.by m.at) ys ≡ 0) → filter p ys ≡ []
filter_none p [] h = refl
filter_none p (y ∷ ys) h = elim (tells (p y)) [
  | inl e ↦ (let a = h y e in let b = here (is_at y.by y.at) y ys (self y) in absurd (omega arith))
  | inr e ↦ rw e (filter_none p ys (λ m t. let a = h m t in let b = times_cons (is_at m.by m.at) y ys in omega arith))
]

filter_same : (p q : Marked → Bool) (ys : List Marked) → ((m : Marked) → 0 < count_by (is_at m.by m.at) ys → p m ≡ q m) → filter p ys ≡ filter q ys
filter_same p q [] h = refl
filter_same p q (y ∷ ys) h =
    let e : p y ≡ q y = h y (let b = here (is_at y.by y.at) y ys (self y) in omega arith) in
    let r = filter_same p q ys (λ m t. h m (let b = times_cons (is_at m.by m.at) y ys in omega arith)) in
    λ i. cond (e i) (y ∷ r i) (r i)

in_some : (xs : List Marked) (m : Marked) → is_in xs m ≡ true → 0 < count_by (is_at m.by m.at) xs
in_some [] m e = cc
in_some (x ∷ xs) m e = elim (tells (is_at x.by x.at m)) [
  | inl t ↦ (let l = like x.by x.at m t in let s : is_at m.by m.at x ≡ true = rw (l.0, l.1) (self x) in let b = here (is_at m.by m.at) x xs s in omega arith)
  | inr f ↦ (let r = in_some xs m (rw f at e) in let b = times_cons (is_at m.by m.at) x xs in omega arith)
]

any_append : (t : Marked → Bool) (xs ys : List Marked) → list_any t (xs ++ ys) ≡ (list_any t xs || list_any t ys)
any_append t [] ys = refl
any_append t (x ∷ xs) ys = elim (tells (t x)) [ inl e ↦ rw (e) refl | inr e ↦ rw (e) (any_append t xs ys) ]

pushed_times : (p k : ℕ) (ys : List Marked) → count_by (is_at p k) ys ≡ count_by (is_at p k) (pushed_by p ys)
pushed_times p k [] = refl
pushed_times p k (y ∷ ys) =
    let r = pushed_times p k ys in
    let q = is_at p k in
    let go : (b : Bool) → (y.by == p) ≡ b → count_by q (y ∷ ys) ≡ count_by q (pushed_by p (y ∷ ys)) = λ b. elim b as (λ b. (y.by == p) ≡ b → count_by q (y ∷ ys) ≡ count_by q (pushed_by p (y ∷ ys))) [
      | true ↦ λ e. (let f : pushed_by p (y ∷ ys) ≡ y ∷ pushed_by p ys = ap (λ b. cond b (y ∷ pushed_by p ys) (pushed_by p ys)) e in
          times_cons q y ys ∙ ap (λ n. cond (q y) 1 0 + n) r ∙ sym (times_cons q y (pushed_by p ys)) ∙ ap (count_by q) (sym f))
      | false ↦ λ e. (let f : pushed_by p (y ∷ ys) ≡ pushed_by p ys = ap (λ b. cond b (y ∷ pushed_by p ys) (pushed_by p ys)) e in let z : q y ≡ false = ap (λ b. b && (y.at == k)) e in
          there q y ys z ∙ r ∙ ap (count_by q) (sym f))
    ] in
    go (y.by == p) refl

-- what is numbered from off on has no number past its end
past_end : (p k off : ℕ) (xs : List Marked) → ((i : ℕ) (d : Marked) → i < length xs → (get_or xs i d).at ≡ i + off) → length xs + off ≤ k → count_by (is_at p k) xs ≡ 0
past_end p k off [] h le = refl
past_end p k off (x ∷ xs) h le =
    let a : x.at ≡ off = (let b = h 0 x (omega arith) in omega arith) in
    let r = past_end p k (suc off) xs (λ i d t. let b = h (suc i) d (omega arith) in omega arith) (omega arith) in
    let z : is_at p k x ≡ false = elim (tells (is_at p k x)) [ inl t ↦ (let l = like p k x t in absurd (omega arith)) | inr f ↦ f ] in
    there (is_at p k) x xs z ∙ r

each_set : (F : ℕ → PassLog → Type 0) (logs : List PassLog) (p : ℕ) (h : PassLog) → p < length logs → F p h → ((q : ℕ) → q ≢ p → F q (log_of logs q)) → (q : ℕ) → F q (log_of (set logs p h) q)
each_set F logs p h within mine others q = elim (eqb_tells q p) [
  | inl e ↦ subst (λ n. F n (log_of (set logs p h) n)) (sym e.1) (subst (F p) (sym (get_or-set_same logs p h no_log within)) mine)
  | inr e ↦ subst (F q) (sym (get_or-set_other logs p q h no_log e.1)) (others q e.1)
]

-- no more than one of the popped
part_le : (f : PassLog → ℕ) (logs : List PassLog) (q : ℕ) → f no_log ≡ 0 → f (log_of logs q) ≤ sum_by f logs
part_le f [] q z = omega arith
part_le f (h ∷ logs) zero z = let a = sum_by-cons f h logs in omega arith
part_le f (h ∷ logs) (suc q) z = let a = sum_by-cons f h logs in let r = part_le f logs q z in omega arith

-- what a pass popped stands in the past
pub popped_past : (logs : List PassLog) (past rest : List Marked) → LevelOrder logs past rest → (q : ℕ) (m : Marked) → is_in (log_of logs q).popped m ≡ true → 0 < count_by (is_at m.by m.at) past
popped_past logs past rest o q m e =
    let a = in_some (log_of logs q).popped m e in
    let b = part_le (λ h. count_by (is_at m.by m.at) h.popped) logs q refl in
    let c = o.popped (is_at m.by m.at) in
    omega arith

-- the mark of the next push is new
pub next_new : (logs : List PassLog) (past rest : List Marked) → LevelOrder logs past rest → (p k : ℕ) → length (log_of logs p).pushed ≤ k → count_by (is_at p k) (past ++ rest) ≡ 0
next_new logs past rest o p k le =
    let a = pushed_times p k (past ++ rest) in
    let b : count_by (is_at p k) (pushed_by p (past ++ rest)) ≡ count_by (is_at p k) (log_of logs p).pushed = ap (count_by (is_at p k)) (o.pushes p) in
    let c = past_end p k 0 (log_of logs p).pushed (λ i d t. let m = o.marks p i d t in omega arith) (omega arith) in
    omega arith

module _ (logs : List PassLog) (past rest : List Marked) (o : LevelOrder logs past rest) (p : ℕ) (x : Marked) (within : p < length logs) (by : x.by ≡ p)
    (at : x.at ≡ length (log_of logs p).pushed) where
  abbrev h : PassLog
  h = record { pushed = (log_of logs p).pushed ++ x ∷ []; popped = (log_of logs p).popped }

  new : count_by (is_at p x.at) (past ++ rest) ≡ 0
  new = next_new logs past rest o p x.at (omega arith)

  longer : past ++ (rest ++ x ∷ []) ≡ (past ++ rest) ++ x ∷ []
  longer = sym (append_assoc past rest (x ∷ []))

  once : (q k : ℕ) → count_by (is_at q k) (past ++ (rest ++ x ∷ [])) ≤ 1
  once q k =
      let a = times_append (is_at q k) (past ++ rest) (x ∷ []) in
      let whole : count_by (is_at q k) (past ++ (rest ++ x ∷ [])) ≡ count_by (is_at q k) ((past ++ rest) ++ x ∷ []) = ap (count_by (is_at q k)) longer in
      elim (tells (is_at q k x)) [
        | inl t ↦ (let l = like q k x t in let z : count_by (is_at q k) (past ++ rest) ≡ 0 = subst (λ (n : ℕ × ℕ). count_by (is_at n.0 n.1) (past ++ rest) ≡ 0) (λ i. ((sym by ∙ l.0) i, l.1 i)) new in
            let c = here (is_at q k) x [] t in let c' : count_by (is_at q k) (x ∷ []) ≡ 1 = c in omega arith)
        | inr f ↦ (let c : count_by (is_at q k) (x ∷ []) ≡ 0 = there (is_at q k) x [] f in let d = o.once q k in omega arith)
      ]

  marks : (q k : ℕ) (d : Marked) → k < length (log_of (set logs p h) q).pushed → (get_or (log_of (set logs p h) q).pushed k d).at ≡ k
  marks q k d = each_set (λ n (g : PassLog). k < length g.pushed → (get_or g.pushed k d).at ≡ k) logs p h within
      (λ t. elim (eqb_tells k (length (log_of logs p).pushed)) [
        | inl e ↦ (let s = get_or-append_seam (log_of logs p).pushed x [] d in ap (λ (n : ℕ). (get_or ((log_of logs p).pushed ++ x ∷ []) n d).at) e.1 ∙ ap (λ (m : Marked). m.at) s ∙ at ∙ sym e.1)
        | inr e ↦ (let ne = e.1 in let lt : k < length (log_of logs p).pushed = omega (arith, length-append (log_of logs p).pushed (x ∷ [])) in
            ap (λ (m : Marked). m.at) (get_or_append_left (log_of logs p).pushed (x ∷ []) d k lt) ∙ o.marks p k d lt)
      ])
      (λ n ne t. o.marks n k d t) q

  pushes : (q : ℕ) → pushed_by q (past ++ (rest ++ x ∷ [])) ≡ (log_of (set logs p h) q).pushed
  pushes q = rw longer (rw (filter-append (λ (m : Marked). m.by == q) (past ++ rest) (x ∷ []))
      (each_set (λ n (g : PassLog). pushed_by n (past ++ rest) ++ pushed_by n (x ∷ []) ≡ g.pushed) logs p h within
      (let e : (x.by == p) ≡ true = grind (arith, nat_tests) in rw e (ap (λ l. l ++ x ∷ []) (o.pushes p)))
      (λ n ne. let e : (x.by == n) ≡ false = (elim (eqb_tells x.by n) [ inl t ↦ absurd (ne (sym t.1 ∙ by)) | inr t ↦ t.0 ]) in rw e (rw append-nil (o.pushes n))) q))

  -- no pop is of the new call
  fresh : (q : ℕ) → is_in (log_of logs q).popped x ≡ false
  fresh q = elim (tells (is_in (log_of logs q).popped x)) [
    | inl t ↦ (let a = popped_past logs past rest o q x t in let b = times_append (is_at x.by x.at) past rest in let z : count_by (is_at x.by x.at) (past ++ rest) ≡ 0 =
        subst (λ (n : ℕ). count_by (is_at n x.at) (past ++ rest) ≡ 0) (sym by) new in absurd (omega arith))
    | inr f ↦ f
  ]

  same_pops : (q : ℕ) → members (log_of logs q).popped (past ++ (rest ++ x ∷ [])) ≡ (log_of logs q).popped
  same_pops q =
      let last : members (log_of logs q).popped (x ∷ []) ≡ [] = ap (λ b. cond b (x ∷ []) []) (fresh q) in
      ap (members (log_of logs q).popped) longer ∙ filter-append (is_in (log_of logs q).popped) (past ++ rest) (x ∷ []) ∙ ap (λ l. members (log_of logs q).popped (past ++ rest) ++ l) last ∙
      append-nil (members (log_of logs q).popped (past ++ rest)) ∙ o.pops q

  pops : (q : ℕ) → members (log_of (set logs p h) q).popped (past ++ (rest ++ x ∷ [])) ≡ (log_of (set logs p h) q).popped
  pops = each_set (λ n (g : PassLog). members g.popped (past ++ (rest ++ x ∷ [])) ≡ g.popped) logs p h within (same_pops p) (λ n ne. same_pops n)

  popped : (test : Marked → Bool) → count_by test past ≡ sum_by (λ g. count_by test g.popped) (set logs p h)
  popped test = let a = sum_by-set (λ g. count_by test g.popped) logs p h no_log within in let b = o.popped test in omega arith

  pub LevelOrder-push : LevelOrder (set logs p h) past (rest ++ x ∷ [])
  LevelOrder-push = record { once = once; marks = marks; pushes = pushes; pops = pops; popped = popped }

module _ (logs : List PassLog) (past rest : List Marked) (p : ℕ) (x : Marked) (o : LevelOrder logs past (x ∷ rest)) (within : p < length logs) where
  abbrev g : PassLog
  g = record { pushed = (log_of logs p).pushed; popped = (log_of logs p).popped ++ x ∷ [] }

  moved : (past ++ x ∷ []) ++ rest ≡ past ++ x ∷ rest
  moved = append_assoc past (x ∷ []) rest

  two : (m : Marked) → count_by (is_at m.by m.at) past + count_by (is_at m.by m.at) (x ∷ rest) ≤ 1
  two m = let a = times_append (is_at m.by m.at) past (x ∷ rest) in let b = o.once m.by m.at in omega arith

  -- what was popped is not in the rest
  gone : (q : ℕ) (m : Marked) → is_in (log_of logs q).popped m ≡ true → count_by (is_at m.by m.at) (x ∷ rest) ≡ 0
  gone q m e = let a = popped_past logs past (x ∷ rest) o q m e in let b = two m in omega arith

  front : (q : ℕ) → members (log_of logs q).popped past ≡ (log_of logs q).popped
  front q =
      let P = (log_of logs q).popped in
      let none : members P (x ∷ rest) ≡ [] = filter_none (is_in P) (x ∷ rest) (gone q) in
      sym (append-nil (members P past)) ∙ ap (λ l. members P past ++ l) (sym none) ∙ sym (filter-append (is_in P) past (x ∷ rest)) ∙ o.pops q

  abbrev now : List Marked
  now = (log_of logs p).popped ++ x ∷ []

  in_now : (m : Marked) (a b : Bool) → is_in (log_of logs p).popped m ≡ a → is_at x.by x.at m ≡ b → is_in now m ≡ (a || (b || false))
  in_now m a b e f = any_append (λ y. is_at y.by y.at m) (log_of logs p).popped (x ∷ []) ∙ (λ i. e i || (f i || false))

  same_mark : (m : Marked) → is_at x.by x.at m ≡ true → is_at m.by m.at x ≡ true
  same_mark m t = let l = like x.by x.at m t in subst (λ (n : ℕ × ℕ). is_at n.0 n.1 x ≡ true) (λ i. (sym l.0 i, sym l.1 i)) (self x)

  earlier : (m : Marked) → 0 < count_by (is_at m.by m.at) past → is_in now m ≡ is_in (log_of logs p).popped m
  earlier m lt = elim (tells (is_at x.by x.at m)) [
    | inl t ↦ (let a = here (is_at m.by m.at) x rest (same_mark m t) in let b = two m in absurd (omega arith))
    | inr f ↦ elim (tells (is_in (log_of logs p).popped m)) [ inl t ↦ in_now m true false t f ∙ sym t | inr u ↦ in_now m false false u f ∙ sym u ]
  ]

  it : is_in now x ≡ true
  it = elim (tells (is_in (log_of logs p).popped x)) [ inl t ↦ in_now x true true t (self x) | inr f ↦ in_now x false true f (self x) ]

  later : (m : Marked) → is_in now m ≡ true → count_by (is_at m.by m.at) rest ≡ 0
  later m e = elim (tells (is_at x.by x.at m)) [
    | inl t ↦ (let a = here (is_at m.by m.at) x rest (same_mark m t) in let b = two m in omega arith)
    | inr f ↦ elim (tells (is_in (log_of logs p).popped m)) [
      | inl t ↦ (let a = gone p m t in let b = times_cons (is_at m.by m.at) x rest in omega arith)
      | inr u ↦ (let w : false ≡ true = sym (in_now m false false u f) ∙ e in cc)
    ]
  ]

  mine : members now (past ++ x ∷ rest) ≡ now
  mine =
      let a : members now past ≡ (log_of logs p).popped = filter_same (is_in now) (is_in (log_of logs p).popped) past earlier ∙ front p in
      let b : members now (x ∷ rest) ≡ x ∷ members now rest = ap (λ t. cond t (x ∷ members now rest) (members now rest)) it in
      let c : members now rest ≡ [] = filter_none (is_in now) rest later in
      filter-append (is_in now) past (x ∷ rest) ∙ (λ i. a i ++ (b ∙ ap (λ l. x ∷ l) c) i)

  pub LevelOrder-pop : LevelOrder (set logs p g) (past ++ x ∷ []) rest
  LevelOrder-pop = record {
    once = λ q k. subst (λ l. count_by (is_at q k) l ≤ 1) (sym moved) (o.once q k);
    marks = λ q k d. each_set (λ n (f : PassLog). k < length f.pushed → (get_or f.pushed k d).at ≡ k) logs p g within (o.marks p k d) (λ n ne. o.marks n k d) q;
    pushes = λ q. ap (pushed_by q) moved ∙ each_set (λ n (f : PassLog). pushed_by n (past ++ x ∷ rest) ≡ f.pushed) logs p g within (o.pushes p) (λ n ne. o.pushes n) q;
    pops = λ q. subst (λ l. members (log_of (set logs p g) q).popped l ≡ (log_of (set logs p g) q).popped) (sym moved)
        (each_set (λ n (f : PassLog). members f.popped (past ++ x ∷ rest) ≡ f.popped) logs p g within mine (λ n ne. o.pops n) q);
    popped = λ test.
        let a = sum_by-set (λ f. count_by test f.popped) logs p g no_log within in
        let b = o.popped test in
        let c = times_append test (log_of logs p).popped (x ∷ []) in
        let d = times_append test past (x ∷ []) in
        omega arith;
  }

-- a log of no calls
extended : (logs : List PassLog) (q : ℕ) → log_of (logs ++ no_log ∷ []) q ≡ log_of logs q
extended [] zero = refl
extended [] (suc q) = refl
extended (h ∷ logs) zero = refl
extended (h ∷ logs) (suc q) = extended logs q

pub LevelOrder-more : (logs : List PassLog) (past rest : List Marked) → LevelOrder logs past rest → LevelOrder (logs ++ no_log ∷ []) past rest
LevelOrder-more logs past rest o = record {
  once = o.once;
  marks = λ p k d. subst (λ (h : PassLog). k < length h.pushed → (get_or h.pushed k d).at ≡ k) (sym (extended logs p)) (o.marks p k d);
  pushes = λ p. o.pushes p ∙ ap (λ (h : PassLog). h.pushed) (sym (extended logs p));
  pops = λ p. subst (λ (h : PassLog). members h.popped (past ++ rest) ≡ h.popped) (sym (extended logs p)) (o.pops p);
  popped = λ test. let a = sum_by-append (λ (h : PassLog). count_by test h.popped) logs (no_log ∷ []) in let b = sum_by-cons (λ (h : PassLog). count_by test h.popped) no_log [] in let c =
      o.popped test in omega arith;
}

pub LevelOrder-none : LevelOrder [] [] []
LevelOrder-none = record { once = λ p k. omega arith; marks = λ p k d lt. absurd (omega arith); pushes = λ p. refl; pops = λ p. refl; popped = λ test. refl }
