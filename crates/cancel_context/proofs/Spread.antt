-- How a change of a flag spreads to what is below.
use Rattle.std.proofs.Common.{◌≡◌, ◌≢◌, ◌<◌, ◌+◌, ◌⊎◌, ℕ, suc, Bool, true, false, not, ◌||◌, if◌then◌else◌, List, [], ◌∷◌, ◌++◌, Option, Some, None, is_some, length, refl, sym, ◌∙◌, ap, subst, inl}
use Rattle.std.proofs.Common.{inr, arith}
use Rattle.std.specs.Prelude.{slice_set, count_by}
use Rattle.std.specs.Option.{option_map_or}
use Rattle.std.proofs.lemmas.Bool.Decides.{eqb_tells}
use Rattle.std.proofs.lemmas.List.{get_or-set_same, get_or-set_other, length-set, length-append}
use Rattle.std.proofs.lemmas.List.Sums.{sum_by-set, count_by-le-length}
use Rattle.cancel_context.specs.Forest.{Forest, binding, IsHeld, parent, asks_in, chain, is_cancelled, IsForest}
use Rattle.cancel_context.specs.Order.{IsIn, ParentIn, IsNewestFirst, HasBindingOrder}
use Rattle.cancel_context.specs.Below.{next_of, Links, IsLinked}
use Rattle.cancel_context.specs.Flags.{Flagged, flag, AreFlags, IsRight, differs, visited, Waits, IsSpreading}
use Rattle.cancel_context.proofs.Chains.{IsHeld-within, IsHeld-parent_in, parents-held, IsForest-ordered}
use Rattle.cancel_context.proofs.Lists.{is_parent}
use Rattle.cancel_context.proofs.Along.{IsAlong, along-start, along-more, along-end, along-first}

pub above-same : (f g : ℕ → Bool) (o : Option ℕ) → ((p : ℕ) → o ≡ Some p → f p ≡ g p) → option_map_or f o false ≡ option_map_or g o false
above-same f g None same = refl
above-same f g (Some p) same = same p refl

-- Flags that are right each say whether the context is cancelled.
above_in : (f g : ℕ → Bool) (o : Option ℕ) (older : List ℕ) → ParentIn o older → ((p : ℕ) → IsIn older p → f p ≡ g p) → option_map_or f o false ≡ option_map_or g o false
above_in f g None older i same = refl
above_in f g (Some p) older i same = same p i

module _ (forest : Forest) (flags : List Bool) (ordered : HasBindingOrder forest) where
  says_in : ((c : ℕ) → IsHeld forest c → IsRight forest flags c) → (order : List ℕ) → IsNewestFirst forest order → (d : ℕ) → IsIn order d → flag flags d ≡ is_cancelled forest d
  says_in right [] s d i = absurd i
  says_in right (x ∷ older) s d (inl h) =
      let held : IsHeld forest d = subst (λ y. IsHeld forest y) h s.0 in
      let above : ParentIn (parent forest d) older = subst (λ y. ParentIn (parent forest y) older) h s.1 in
      right d held ∙ ap (λ b. asks_in (binding forest d) || b) (above_in (flag flags) (is_cancelled forest) (parent forest d) older above (says_in right older s.2)) ∙
      sym ((IsForest-ordered forest ordered).walk d)
  says_in right (x ∷ older) s d (inr i) = says_in right older s.2 d i

  pub right-says : ((c : ℕ) → IsHeld forest c → IsRight forest flags c) → (c : ℕ) → IsHeld forest c → flag flags c ≡ is_cancelled forest c
  right-says right c held = says_in right ordered.0 ordered.1.newest_first c (ordered.1.has_all c held)

  pub says-right : AreFlags forest flags → (c : ℕ) → IsHeld forest c → IsRight forest flags c
  says-right a c held = a.says c held ∙ (IsForest-ordered forest ordered).walk c ∙
      ap (λ b. asks_in (binding forest c) || b) (above-same (is_cancelled forest) (flag flags) (parent forest c) (λ p e. sym (a.says p (parents-held forest ordered c p e))))

-- no context is bound to itself
pub parent-apart : (forest : Forest) → IsForest forest → (c p : ℕ) → parent forest c ≡ Some p → p ≢ c
parent-apart forest f c p e same =
    let longer : length (chain forest c) ≡ suc (length (chain forest p)) = ap length (f.chains c p e) in
    let equal : length (chain forest p) ≡ length (chain forest c) = ap (λ x. length (chain forest x)) same in
    absurd (omega arith)

pub bool_cases : (b : Bool) → (b ≡ true) ⊎ (b ≡ false)
bool_cases true = inl refl
bool_cases false = inr refl

differs-same : (v : Bool) → differs v v ≡ false
differs-same true = refl
differs-same false = refl

same-not_differs : (v b : Bool) → differs v b ≡ false → b ≡ v
same-not_differs true true e = refl
same-not_differs true false e = cc
same-not_differs false true e = cc
same-not_differs false false e = refl

-- a flag that turns leaves one fewer that differs
pub count-turned : (flags : List Bool) (c : ℕ) (value : Bool) → c < length flags → differs value (flag flags c) ≡ true →
    count_by (differs value) (slice_set flags c value) + 1 ≡ count_by (differs value) flags
count-turned flags c value within d =
    let one : Bool → ℕ = λ b. if differs value b then 1 else 0 in
    let was : one (flag flags c) ≡ 1 = ap (λ b. if b then 1 else 0) d in
    let is : one value ≡ 0 = ap (λ b. if b then 1 else 0) (differs-same value) in
    omega (arith, was, is, sum_by-set one flags c value false within)

pub IsIn-left : (xs ys : List ℕ) (c : ℕ) → IsIn xs c → IsIn (xs ++ ys) c
IsIn-left [] ys c i = absurd i
IsIn-left (x ∷ xs) ys c (inl e) = inl e
IsIn-left (x ∷ xs) ys c (inr i) = inr (IsIn-left xs ys c i)

pub IsIn-last : (xs : List ℕ) (c : ℕ) → IsIn (xs ++ c ∷ []) c
IsIn-last [] c = inl refl
IsIn-last (x ∷ xs) c = inr (IsIn-last xs c)

pub IsIn-split : (xs : List ℕ) (c d : ℕ) → IsIn (xs ++ c ∷ []) d → IsIn xs d ⊎ (d ≡ c)
IsIn-split [] c d (inl e) = inr (sym e)
IsIn-split [] c d (inr i) = absurd i
IsIn-split (x ∷ xs) c d (inl e) = inl (inl e)
IsIn-split (x ∷ xs) c d (inr i) = elim (IsIn-split xs c d i) [ inl j ↦ inl (inr j) | inr e ↦ inr e ]

-- The first flag turns, in a forest that differs at its context alone.
module _ (forest after : Forest) (c : ℕ) (flags : List Bool) (value : Bool) (forest_after : IsForest after) (ordered : HasBindingOrder forest) (held : IsHeld forest c) (a : AreFlags forest flags)
    (size : length after ≡ length forest) (same_held : (d : ℕ) → is_some (binding after d) ≡ is_some (binding forest d)) (same_parent : (d : ℕ) → parent after d ≡ parent forest d)
    (same_binding : (d : ℕ) → d ≢ c → binding after d ≡ binding forest d) (follows : value ≡ (asks_in (binding after c) || option_map_or (flag flags) (parent after c) false)) where
  within_flags : c < length flags
  within_flags = let inside = IsHeld-within forest c held in omega (arith, a.size)

  right_before : (d : ℕ) → d ≢ c → IsHeld after d → IsRight after flags d
  right_before d ne h =
      says-right forest flags ordered a d (sym (same_held d) ∙ h) ∙ ap (λ o. asks_in o || option_map_or (flag flags) (parent forest d) false) (sym (same_binding d ne)) ∙
      ap (λ o. asks_in (binding after d) || option_map_or (flag flags) o false) (sym (same_parent d))

  -- if the flag has its value already, all are right
  pub flags-unturned : HasBindingOrder after → flag flags c ≡ value → AreFlags after flags
  flags-unturned ordered_after e = record {
    size = a.size ∙ sym size;
    says = right-says after flags ordered_after (λ d h. elim (eqb_tells d c) [
      | inl s ↦ subst (λ y. IsRight after flags y) (sym s.1) (e ∙ follows)
      | inr s ↦ right_before d s.1 h
    ]);
  }

  turned_flags : List Bool
  turned_flags = slice_set flags c value

  flag-own : flag turned_flags c ≡ value
  unfolding turned_flags
  flag-own = get_or-set_same flags c value false within_flags

  flag-at : (d : ℕ) → d ≡ c → flag turned_flags d ≡ value
  flag-at d e = ap (flag turned_flags) e ∙ flag-own

  flag-other : (d : ℕ) → d ≢ c → flag turned_flags d ≡ flag flags d
  unfolding turned_flags
  flag-other d ne = get_or-set_other flags c d value false ne

  own_first : (d : ℕ) → IsHeld after d → asks_in (binding after d) ≡ true → flag turned_flags d ≡ true
  own_first d h asks =
      elim (eqb_tells d c) [
        | inl s ↦ flag-at d s.1 ∙ follows ∙ ap (λ b. b || option_map_or (flag flags) (parent after c) false) (ap (λ y. asks_in (binding after y)) (sym s.1) ∙ asks)
        | inr s ↦ flag-other d s.1 ∙ right_before d s.1 h ∙ ap (λ b. b || option_map_or (flag flags) (parent after d) false) asks
      ]

  right_first : (d : ℕ) → IsHeld after d → IsRight after turned_flags d ⊎ Waits after (c ∷ []) [] d
  right_first d h =
      elim (eqb_tells d c) [
        | inl s ↦ inl (subst (λ y. IsRight after turned_flags y) (sym s.1)
            (flag-own ∙ follows ∙ ap (λ b. asks_in (binding after c) || b)
            (above-same (flag flags) (flag turned_flags) (parent after c) (λ p e. sym (flag-other p (parent-apart after forest_after c p e))))))
        | inr s ↦ elim (is_parent (parent after d) c) [
          | inl e ↦ inr (inr (c, (e, inl refl)))
          | inr out ↦ inl (flag-other d s.1 ∙ right_before d s.1 h ∙
              ap (λ b. asks_in (binding after d) || b) (above-same (flag flags) (flag turned_flags) (parent after d) (λ p e. sym (flag-other p (λ t. out (e ∙ ap Some t))))))
        ]
      ]

  pub spreading-start : differs value (flag flags c) ≡ true → IsSpreading after (slice_set flags c value) (c ∷ []) [] value
  unfolding turned_flags
  spreading-start d = record {
    size = length-set flags c value ∙ a.size ∙ sym size;
    held = λ x i. elim i [ inl e ↦ subst (λ y. IsHeld after y) e (same_held c ∙ held) | inr j ↦ absurd j ];
    turned = λ x i. elim i [ inl e ↦ flag-at x (sym e) | inr j ↦ absurd j ];
    own = own_first;
    right = right_first;
    room = let many = count_by-le-length (differs value) flags in let fewer = count-turned flags c value within_flags d in omega (arith, length-set flags c value);
  }

-- if a context is not passed over
turns : (value b asks : Bool) → (not (differs value b) || asks) ≡ false → (differs value b ≡ true) × (asks ≡ false)
turns value b asks e =
    elim (bool_cases (differs value b)) [
      | inl t ↦ (t, ap (λ y. not y || asks) (sym t) ∙ e)
      | inr t ↦ let wrong : true ≡ false = sym (ap (λ y. not y || asks) t) ∙ e in cc
    ]

-- One context is looked at.
module _ (forest : Forest) (flags : List Bool) (reached : List ℕ) (x : ℕ) (xs : List ℕ) (d : ℕ) (value : Bool) (bound : parent forest x ≡ Some d) (above : flag flags d ≡ value)
    (held : IsHeld forest x) (s : IsSpreading forest flags reached (x ∷ xs) value) where
  right_skipped : (not (differs value (flag flags x)) || asks_in (binding forest x)) ≡ true → IsRight forest flags x
  right_skipped t =
      elim (bool_cases (asks_in (binding forest x))) [
        | inl asks ↦ s.own x held asks ∙ sym (ap (λ b. b || option_map_or (flag flags) (parent forest x) false) asks)
        | inr quiet ↦ elim (bool_cases (differs value (flag flags x))) [
          | inl differ ↦ let wrong : false ≡ true = sym (ap (λ b. not b || asks_in (binding forest x)) differ ∙ quiet) ∙ t in cc
          | inr same ↦ same-not_differs value (flag flags x) same ∙ sym above ∙
              sym (ap (λ b. b || option_map_or (flag flags) (parent forest x) false) quiet ∙ ap (λ o. option_map_or (flag flags) o false) bound)
        ]
      ]

  skipped : (not (differs value (flag flags x)) || asks_in (binding forest x)) ≡ true → IsSpreading forest flags reached xs value
  skipped t = record {
    size = s.size;
    held = s.held;
    turned = s.turned;
    own = s.own;
    right = λ e h. elim (s.right e h) [
      | inl r ↦ inl r
      | inr w ↦ elim w [
        | inl i ↦ elim i [
          | inl same ↦ inl (subst (λ y. IsRight forest flags y) same (right_skipped t))
          | inr j ↦ inr (inl j)
        ]
        | inr p ↦ inr (inr p)
      ]
    ];
    room = s.room;
  }

  module _ (differ : differs value (flag flags x) ≡ true) (quiet : asks_in (binding forest x) ≡ false) where
    within_at : x < length flags
    within_at = let inside = IsHeld-within forest x held in omega (arith, s.size)

    after_turn : List Bool
    after_turn = slice_set flags x value

    turn-own : (e : ℕ) → e ≡ x → flag after_turn e ≡ value
    unfolding after_turn
    turn-own e same = ap (flag (slice_set flags x value)) same ∙ get_or-set_same flags x value false within_at

    turn-other : (e : ℕ) → e ≢ x → flag after_turn e ≡ flag flags e
    unfolding after_turn
    turn-other e ne = get_or-set_other flags x e value false ne

    above_apart : d ≢ x
    above_apart e = let wrong : false ≡ true = sym (ap (differs value) (sym (ap (flag flags) e) ∙ above) ∙ differs-same value) ∙ differ in cc

    right_turned : (e : ℕ) → IsHeld forest e → IsRight forest after_turn e ⊎ Waits forest (reached ++ x ∷ []) xs e
    right_turned e h =
        elim (eqb_tells e x) [
          | inl same ↦ inl (subst (λ y. IsRight forest after_turn y) (sym same.1)
              (turn-own x refl ∙ sym (ap (λ b. b || option_map_or (flag after_turn) (parent forest x) false) quiet ∙ ap (λ o. option_map_or (flag after_turn) o false) bound ∙
              turn-other d above_apart ∙ above)))
          | inr ne ↦ elim (s.right e h) [
            | inl r ↦ elim (is_parent (parent forest e) x) [
              | inl at ↦ inr (inr (x, (at, IsIn-last reached x)))
              | inr out ↦ inl (turn-other e ne.1 ∙ r ∙
                  ap (λ b. asks_in (binding forest e) || b) (above-same (flag flags) (flag after_turn) (parent forest e) (λ p at. sym (turn-other p (λ t. out (at ∙ ap Some t))))))
            ]
            | inr w ↦ elim w [
              | inl i ↦ elim i [
                | inl t ↦ absurd (ne.1 (sym t))
                | inr j ↦ inr (inl j)
              ]
              | inr p ↦ inr (inr (p.0, (p.1.0, IsIn-left reached (x ∷ []) p.0 p.1.1)))
            ]
          ]
        ]

    turned_on : IsSpreading forest (slice_set flags x value) (reached ++ x ∷ []) xs value
    unfolding after_turn
    turned_on = record {
      size = length-set flags x value ∙ s.size;
      held = λ e i. elim (IsIn-split reached x e i) [ inl j ↦ s.held e j | inr same ↦ subst (λ y. IsHeld forest y) (sym same) held ];
      turned = λ e i. elim (eqb_tells e x) [
        | inl same ↦ turn-own e same.1
        | inr ne ↦ elim (IsIn-split reached x e i) [ inl j ↦ turn-other e ne.1 ∙ s.turned e j | inr same ↦ absurd (ne.1 same) ]
      ];
      own = λ e h asks. elim (eqb_tells e x) [
        | inl same ↦ let wrong : false ≡ true = sym quiet ∙ ap (λ y. asks_in (binding forest y)) (sym same.1) ∙ asks in cc
        | inr ne ↦ turn-other e ne.1 ∙ s.own e h asks
      ];
      right = right_turned;
      room = let room = s.room in let fewer = count-turned flags x value within_at differ in omega (arith, length-set flags x value, length-append reached (x ∷ []));
    }

    count_on : length (reached ++ x ∷ []) + count_by (differs value) (slice_set flags x value) ≡ length reached + count_by (differs value) flags
    count_on = let fewer = count-turned flags x value within_at differ in omega (arith, length-append reached (x ∷ []))

  abbrev state : Flagged
  state = record { flags = flags; reached = reached }

  pub visited-spreading : IsSpreading forest (visited forest state x value).flags (visited forest state x value).reached xs value × (flag (visited forest state x value).flags d ≡ value) ×
      (length (visited forest state x value).reached + count_by (differs value) (visited forest state x value).flags ≡ length reached + count_by (differs value) flags)
  visited-spreading =
      elim (bool_cases (not (differs value (flag flags x)) || asks_in (binding forest x))) [
        | inl t ↦
            let at : visited forest state x value ≡ state = ap (λ b. if b then state else record { flags = slice_set flags x value; reached = reached ++ x ∷ [] }) t in
            subst (λ (f : Flagged). IsSpreading forest f.flags f.reached xs value × (flag f.flags d ≡ value) ×
            (length f.reached + count_by (differs value) f.flags ≡ length reached + count_by (differs value) flags)) (sym at) (skipped t, above, refl)
        | inr t ↦
            let differ = turns value (flag flags x) (asks_in (binding forest x)) t in
            let to : Flagged = record { flags = slice_set flags x value; reached = reached ++ x ∷ [] } in
            let at : visited forest state x value ≡ to = ap (λ b. if b then state else record { flags = slice_set flags x value; reached = reached ++ x ∷ [] }) t in
            subst (λ (f : Flagged). IsSpreading forest f.flags f.reached xs value × (flag f.flags d ≡ value) ×
            (length f.reached + count_by (differs value) f.flags ≡ length reached + count_by (differs value) flags)) (sym at)
            (turned_on differ.0 differ.1, get_or-set_other flags x d value false (above_apart differ.0 differ.1) ∙ above, count_on differ.0 differ.1)
      ]

-- A flag that turns is that of a context which is reached then, and what was reached stays so.
pub visited-turned : (forest : Forest) (f : Flagged) (x : ℕ) (value : Bool) (after : Flagged) → after ≡ visited forest f x value → (c : ℕ) →
    ((flag after.flags c ≡ flag f.flags c) ⊎ IsIn after.reached c) × (IsIn f.reached c → IsIn after.reached c)
visited-turned forest f x value after is c =
    let to : Flagged = record { flags = slice_set f.flags x value; reached = f.reached ++ x ∷ [] } in
    let tells : Flagged → Type 0 = λ (g : Flagged). ((flag g.flags c ≡ flag f.flags c) ⊎ IsIn g.reached c) × (IsIn f.reached c → IsIn g.reached c) in
    let turned : tells to = (
      elim (eqb_tells c x) [
        | inl same ↦ inr (subst (IsIn (f.reached ++ x ∷ [])) (sym same.1) (IsIn-last f.reached x))
        | inr ne ↦ inl (get_or-set_other f.flags x c value false ne.1)
      ],
      IsIn-left f.reached (x ∷ []) c,
    ) in
    subst tells (sym is) (elim (bool_cases (not (differs value (flag f.flags x)) || asks_in (binding forest x))) [
      | inl t ↦ subst tells (sym (ap (λ b. if b then f else to) t)) (inl refl, λ i. i)
      | inr t ↦ subst tells (sym (ap (λ b. if b then f else to) t)) turned
    ])

-- so a context whose flag has turned over several visits is reached
pub turned-more : (before now after : Flagged) → ((c : ℕ) → ((flag now.flags c ≡ flag before.flags c) ⊎ IsIn now.reached c)) →
    ((c : ℕ) → ((flag after.flags c ≡ flag now.flags c) ⊎ IsIn after.reached c) × (IsIn now.reached c → IsIn after.reached c)) → (c : ℕ) →
    (flag after.flags c ≡ flag before.flags c) ⊎ IsIn after.reached c
turned-more before now after so_far step c =
    elim (so_far c) [
      | inl same ↦ elim ((step c).0) [ inl kept ↦ inl (kept ∙ same) | inr i ↦ inr i ]
      | inr i ↦ inr ((step c).1 i)
    ]

-- What is bound to a reached context is looked at, one after another.
pub record IsVisiting (forest : Forest) (links : Links) (flags : List Bool) (reached : List ℕ) (following : Option ℕ) (d : ℕ) (value : Bool) : Type 0 where
  pub rest : List ℕ
  pub along : IsAlong forest links d following rest
  pub spreads : IsSpreading forest flags reached rest value
  pub above : flag flags d ≡ value

pub visiting-start : (forest : Forest) (links : Links) (flags : List Bool) (reached : List ℕ) (d : ℕ) (value : Bool) → IsLinked forest links → IsSpreading forest flags (reached ++ d ∷ []) [] value →
    IsVisiting forest links flags reached (next_of links.first d) d value
visiting-start forest links flags reached d value l s = record {
  rest = l.below d;
  along = along-start forest links d (s.held d (IsIn-last reached d)) l;
  spreads = record {
    size = s.size;
    held = λ e i. s.held e (IsIn-left reached (d ∷ []) e i);
    turned = λ e i. s.turned e (IsIn-left reached (d ∷ []) e i);
    own = s.own;
    right = λ e h. elim (s.right e h) [
      | inl r ↦ inl r
      | inr w ↦ elim w [
        | inl i ↦ absurd i
        | inr p ↦ elim (IsIn-split reached d p.0 p.1.1) [
          | inl j ↦ inr (inr (p.0, (p.1.0, j)))
          | inr same ↦ inr (inl (l.lists.all d e (p.1.0 ∙ ap Some same)))
        ]
      ]
    ];
    room = let room = s.room in omega (arith, length-append reached (d ∷ []));
  };
  above = s.turned d (IsIn-last reached d);
}

pub visiting-held : (forest : Forest) (links : Links) (flags : List Bool) (reached : List ℕ) (x d : ℕ) (value : Bool) → IsVisiting forest links flags reached (Some x) d value → IsHeld forest x
visiting-held forest links flags reached x d value v = IsHeld-parent_in (binding forest x) d (along-first forest links d x v.rest v.along)

pub visiting-more : (forest : Forest) (links : Links) (flags : List Bool) (reached : List ℕ) (x d : ℕ) (value : Bool) (after : Flagged) →
    after ≡ visited forest (record { flags = flags; reached = reached }) x value → IsVisiting forest links flags reached (Some x) d value →
    IsVisiting forest links after.flags after.reached (next_of links.next x) d value × (length after.reached + count_by (differs value) after.flags ≡ length reached + count_by (differs value) flags)
visiting-more forest links flags reached x d value after e v =
    let more = along-more forest links d x v.rest v.along in
    let spreads : IsSpreading forest flags reached (x ∷ more.0) value = subst (λ l. IsSpreading forest flags reached l value) more.1.0 v.spreads in
    let there = visited-spreading forest flags reached x more.0 d value (along-first forest links d x v.rest v.along) v.above (visiting-held forest links flags reached x d value v) spreads in
    let whole = subst (λ (f : Flagged). IsSpreading forest f.flags f.reached more.0 value × (flag f.flags d ≡ value) ×
    (length f.reached + count_by (differs value) f.flags ≡ length reached + count_by (differs value) flags)) (sym e) there in
    (record { rest = more.0; along = more.1.1; spreads = whole.0; above = whole.1 }, whole.2)

pub visiting-end : (forest : Forest) (links : Links) (flags : List Bool) (reached : List ℕ) (d : ℕ) (value : Bool) → IsVisiting forest links flags reached None d value →
    IsSpreading forest flags reached [] value
visiting-end forest links flags reached d value v = subst (λ l. IsSpreading forest flags reached l value) (along-end forest links d v.rest v.along) v.spreads

-- If nothing is left to be looked at, all flags are right.
pub spreading-end : (forest : Forest) (flags : List Bool) (reached : List ℕ) (value : Bool) → HasBindingOrder forest → reached ≡ [] → IsSpreading forest flags reached [] value → AreFlags forest flags
spreading-end forest flags reached value ordered none s = record {
  size = s.size;
  says = right-says forest flags ordered (λ c h. elim (s.right c h) [
    | inl r ↦ r
    | inr w ↦ elim w [
      | inl i ↦ absurd i
      | inr p ↦ absurd (subst (λ l. IsIn l p.0) none p.1.1)
    ]
  ]);
}
