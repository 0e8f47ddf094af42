-- Contexts that are released, one after another.
use Rattle.std.proofs.Common.{◌≡◌, ◌≢◌, ℕ, zero, suc, ◌+◌, ◌==◌, ◌<◌, List, [], ◌∷◌, length, Option, Some, None, Bool, true, false, ◌⊎◌, refl, sym, ap, ◌∙◌, arith, inl, inr, map, subst}
use Rattle.std.specs.Prelude.{is_some, slice_index_or, count_by}
use Rattle.std.proofs.lemmas.Bool.{cases_eq}
use Rattle.std.proofs.lemmas.List.{get_or-set_same, get_or-set_other, length-map}
use Rattle.std.proofs.Common.{length-set}
use Rattle.cancel_context.specs.Forest.{Forest, Binding, binding, IsHeld, IsForest, held_count, is_cancelled, parent, parent_in, leaving, without_parent, without}
use Rattle.tenant_model.proofs.Within.{either_way}
use Rattle.cancel_context.proofs.Chains.{IsHeld-within}
use Rattle.arena_rows.specs.declared.rows.OpenRow.{OpenRow}
use Rattle.arena_rows.specs.Represents.{is_spawned}
use Rattle.arena_rows.specs.Endings.{is_in, Left, with_some, below, own_context, contexts_of, MayLeave, MayEnd}
use Rattle.job_language.specs.declared.instructions.TheConstants.{GROUPS}
use Rattle.tenant_model.proofs.Stacking.{one_if}
use Rattle.arena_rows.proofs.Alike.{count_cons}
use Rattle.arena_rows.proofs.Started.{some_is, some_none}

pub Left-none : (forest : Forest) → Left forest forest []
Left-none forest = record {
  long = refl;
  gone = λ d is. absurd (grind (arith, is));
  orphans = λ d c b out there bound is. absurd (grind (arith, is));
  kept = λ d out none. refl;
  cancelled = λ d out. refl;
  count = omega arith;
  sound = λ is. is;
}

no_parent : (b : Binding) (c : ℕ) (o : Option ℕ) → (o ≡ Some c → ⊥) → leaving c b o ≡ b
no_parent b c None none = refl
no_parent b c (Some p) none = let other : (p == c) ≡ false = elim (cases_eq p c) [
  | inl same ↦ absurd (none (ap Some same))
  | inr apart ↦ grind (arith, apart)
] in rw other refl

pub kept_in : (c : ℕ) (o : Option Binding) → (parent_in o ≡ Some c → ⊥) → without_parent c o ≡ o
kept_in c None none = refl
kept_in c (Some b) none = ap Some (no_parent b c b.parent none)

map_at : (c : ℕ) (forest : Forest) (d : ℕ) → binding (map (without_parent c) forest) d ≡ without_parent c (binding forest d)
map_at c [] d = refl
map_at c (o ∷ os) zero = refl
map_at c (o ∷ os) (suc d) = map_at c os d

pub without_other : (forest : Forest) (c d : ℕ) → d ≢ c → binding (without forest c) d ≡ without_parent c (binding forest d)
without_other forest c d other = get_or-set_other (map (without_parent c) forest) c d None None other ∙ map_at c forest d

in_more : (c d : ℕ) (cs : List ℕ) → d ≢ c → is_in d (c ∷ cs) ≡ is_in d cs
in_more c d cs other = let apart : (c == d) ≡ false = grind (arith, other) in rw apart refl

out_of : (c d : ℕ) (cs : List ℕ) → is_in d (c ∷ cs) ≡ false → (d ≢ c) × (is_in d cs ≡ false)
out_of c d cs out = elim (cases_eq d c) [
  | inl same ↦ let here : (c == d) ≡ true = grind (arith, same) in absurd (let no : true ≡ false = rw here at out in grind (arith, no))
  | inr other ↦ (other, sym (in_more c d cs other) ∙ out)
]

-- one more
pub Left-more : (forest forest1 : Forest) (cs : List ℕ) (c : ℕ) → Left forest forest1 cs → is_in c cs ≡ false → c < length forest1 → held_count (without forest1 c) + 1 ≡ held_count forest1 →
    ((d : ℕ) → d ≢ c → is_cancelled (without forest1 c) d ≡ is_cancelled forest1 d) → IsForest (without forest1 c) →
    Left forest (without forest1 c) (c ∷ cs)
Left-more forest forest1 cs c left fresh within count others is_forest =
    let forest2 = without forest1 c in
    record {
      long = length-set (map (without_parent c) forest1) c None ∙ length-map forest1 (without_parent c) ∙ left.long;
      gone = λ d is. elim (cases_eq d c) [
        | inl same ↦ ap (binding forest2) same ∙ get_or-set_same (map (without_parent c) forest1) c None None (omega (arith, within, length-map forest1 (without_parent c)))
        | inr other ↦ without_other forest1 c d other ∙ ap (without_parent c) (left.gone d (sym (in_more c d cs other) ∙ is))
      ];
      orphans = λ d p b out there bound is.
          let apart = out_of c d cs out in
          without_other forest1 c d apart.0 ∙ elim (either_way (is_in p cs)) [
            | inl before ↦ ap (without_parent c) (left.orphans d p b apart.1 there bound before)
            | inr new ↦
                let here : p ≡ c = elim (cases_eq p c) [
                  | inl same ↦ same
                  | inr other ↦ let no : is_in p cs ≡ true = sym (in_more c p cs other) ∙ is in absurd (grind (arith, no, new))
                ] in
                let own : (c == c) ≡ true = grind arith in
                let still : binding forest1 d ≡ binding forest d =
                left.kept d apart.1 (λ q its. let q_is : q ≡ p = some_is q p (sym its ∙ ap parent_in there ∙ bound) in ap (λ x. is_in x cs) q_is ∙ new) in
                let parent_is : b.parent ≡ Some c = bound ∙ ap Some here in
                rw (still, there, parent_is, own) refl
          ];
      kept = λ d out none.
          let apart = out_of c d cs out in
          let still : binding forest1 d ≡ binding forest d = left.kept d apart.1 (λ q its. (out_of c q cs (none q its)).1) in
          without_other forest1 c d apart.0 ∙ kept_in c (binding forest1 d) (λ its. let q : parent forest d ≡ Some c = ap parent_in (sym still) ∙ its in (out_of c c cs (none c q)).0 refl) ∙ still;
      cancelled = λ d out. let apart = out_of c d cs out in others d apart.0 ∙ left.cancelled d apart.1;
      count = omega (arith, count, left.count);
      sound = λ is. is_forest;
    }

-- what is held after was held before
pub held_before : (forest forest' : Forest) (cs : List ℕ) → Left forest forest' cs → (d : ℕ) → IsHeld forest' d → IsHeld forest d
held_before forest forest' cs left d held = elim (either_way (is_in d cs)) [
  | inl is ↦ absurd (let no : is_some (binding forest' d) ≡ false = ap is_some (left.gone d is) in grind (arith, no, held))
  | inr out ↦ by_binding (binding forest d) refl out
]
  where
    by_binding : (o : Option Binding) → binding forest d ≡ o → is_in d cs ≡ false → IsHeld forest d
    by_binding None there out =
        let none : binding forest' d ≡ None = left.kept d out (λ c its. absurd (some_none c (sym its ∙ ap parent_in there))) ∙ there in
        absurd (let no : is_some (binding forest' d) ≡ false = ap is_some none in grind (arith, no, held))
    by_binding (Some b) there out = ap is_some there

pub some_in : (o : Option ℕ) (d : ℕ) (cs : List ℕ) → is_in d (with_some o cs) ≡ true → (o ≡ Some d) ⊎ (is_in d cs ≡ true)
some_in None d cs is = inr is
some_in (Some c) d cs is = elim (cases_eq d c) [
  | inl same ↦ inl (ap Some (sym same))
  | inr other ↦ inr (sym (in_more c d cs other) ∙ is)
]

-- whose group each of them is
pub below_is : (groups : List (Option ℕ)) (k d : ℕ) → is_in d (below groups k) ≡ true → (g : ℕ) × (g < k) × (slice_index_or groups g None ≡ Some d)
below_is groups zero d is = absurd (grind (arith, is))
below_is groups (suc k) d is = elim (some_in (slice_index_or groups k None) d (below groups k) is) [
  | inl here ↦ (k, omega arith, here)
  | inr before ↦ let found = below_is groups k d before in (found.0, omega (arith, found.1), found.2)
]

pub in_some : (o : Option ℕ) (d : ℕ) (cs : List ℕ) → (o ≡ Some d) ⊎ (is_in d cs ≡ true) → is_in d (with_some o cs) ≡ true
in_some None d cs (inl is) = absurd (some_none d (sym is))
in_some None d cs (inr is) = is
in_some (Some c) d cs (inl is) = let same : c ≡ d = some_is c d is in let here : (c == d) ≡ true = grind (arith, same) in rw here refl
in_some (Some c) d cs (inr is) = rw is (elim (either_way (c == d)) [ inl here ↦ rw here refl | inr apart ↦ rw apart refl ])

pub is_below : (groups : List (Option ℕ)) (k g d : ℕ) → g < k → slice_index_or groups g None ≡ Some d → is_in d (below groups k) ≡ true
is_below groups zero g d low is = absurd (omega (arith, low))
is_below groups (suc k) g d low is = elim (cases_eq g k) [
  | inl same ↦ in_some (slice_index_or groups k None) d (below groups k) (inl (ap (λ i. slice_index_or groups i None) (sym same) ∙ is))
  | inr other ↦ in_some (slice_index_or groups k None) d (below groups k) (inr (is_below groups k g d (omega (arith, low, other)) is))
]

abbrev pub one_of : Option ℕ → ℕ
one_of None = 0
one_of (Some c) = 1

one_is : (o : Option ℕ) → one_if (is_some o) ≡ one_of o
one_is None = refl
one_is (Some c) = refl

pub some_long : (o : Option ℕ) (cs : List ℕ) → length (with_some o cs) ≡ length cs + one_of o
some_long None cs = omega arith
some_long (Some c) cs = omega arith

-- as many as there are
pub below_long : (groups : List (Option ℕ)) → length groups ≡ GROUPS → length (below groups GROUPS) ≡ count_by (λ (c : Option ℕ). is_some c) groups
below_long [] long = absurd (omega (arith, long))
below_long (a ∷ []) long = absurd (omega (arith, long))
below_long (a ∷ b ∷ []) long = absurd (omega (arith, long))
below_long (a ∷ b ∷ c ∷ []) long = absurd (omega (arith, long))
below_long (a ∷ b ∷ c ∷ d ∷ []) long =
    let some : Option ℕ → Bool = λ o. is_some o in
    omega (
      arith,
      some_long d (with_some c (with_some b (with_some a []))),
      some_long c (with_some b (with_some a [])),
      some_long b (with_some a []),
      some_long a [],
      count_cons some a (b ∷ c ∷ d ∷ []),
      count_cons some b (c ∷ d ∷ []),
      count_cons some c (d ∷ []),
      count_cons some d [],
      one_is a,
      one_is b,
      one_is c,
      one_is d,
    )
below_long (a ∷ b ∷ c ∷ d ∷ e ∷ rest) long = absurd (omega (arith, long))

-- A context that was not released yet is still held,
pub held_still : (forest forest' : Forest) (cs : List ℕ) → Left forest forest' cs → (d : ℕ) → is_in d cs ≡ false → IsHeld forest d → IsHeld forest' d
held_still forest forest' cs left d out held = by_binding (binding forest d) refl
  where
    by_parent : (b : Binding) (o : Option ℕ) → binding forest d ≡ Some b → b.parent ≡ o → IsHeld forest' d
    by_parent b None there alone = rw (left.kept d out (λ c its. absurd (some_none c (sym its ∙ ap parent_in there ∙ alone))), there) refl
    by_parent b (Some p) there bound = elim (either_way (is_in p cs)) [
      | inl is ↦ rw (left.orphans d p b out there bound is) refl
      | inr fine ↦ rw (left.kept d out (λ c its. let c_is : c ≡ p = some_is c p (sym its ∙ ap parent_in there ∙ bound) in ap (λ x. is_in x cs) c_is ∙ fine), there) refl
    ]

    by_binding : (o : Option Binding) → binding forest d ≡ o → IsHeld forest' d
    by_binding None there = absurd (let no : is_some (binding forest d) ≡ false = ap is_some there in grind (arith, no, held))
    by_binding (Some b) there = by_parent b b.parent there refl

-- and what is bound to it was before.
pub bound_before : (forest forest' : Forest) (cs : List ℕ) → Left forest forest' cs → (d c : ℕ) → parent forest' d ≡ Some c → (is_in d cs ≡ false) × (parent forest d ≡ Some c)
bound_before forest forest' cs left d c bound = elim (either_way (is_in d cs)) [
  | inl is ↦ absurd (some_none c (sym bound ∙ ap parent_in (left.gone d is)))
  | inr out ↦ (out, by_binding (binding forest d) refl out)
]
  where
    by_parent : (b : Binding) (o : Option ℕ) → binding forest d ≡ Some b → b.parent ≡ o → is_in d cs ≡ false → parent forest d ≡ Some c
    by_parent b None there alone out =
        let kept : binding forest' d ≡ Some b = left.kept d out (λ q its. absurd (some_none q (sym its ∙ ap parent_in there ∙ alone))) ∙ there in
        ap parent_in there ∙ sym (ap parent_in kept) ∙ bound
    by_parent b (Some p) there bound_to out = elim (either_way (is_in p cs)) [
      | inl is ↦ absurd (some_none c (sym bound ∙ ap parent_in (left.orphans d p b out there bound_to is)))
      | inr fine ↦
          let kept : binding forest' d ≡ Some b = left.kept d out (λ q its. let q_is : q ≡ p = some_is q p (sym its ∙ ap parent_in there ∙ bound_to) in ap (λ x. is_in x cs) q_is ∙ fine) ∙ there in
          ap parent_in there ∙ sym (ap parent_in kept) ∙ bound
    ]

    by_binding : (o : Option Binding) → binding forest d ≡ o → is_in d cs ≡ false → parent forest d ≡ Some c
    by_binding None there out =
        let kept : binding forest' d ≡ None = left.kept d out (λ q its. absurd (some_none q (sym its ∙ ap parent_in there))) ∙ there in
        absurd (some_none c (sym bound ∙ ap parent_in kept))
    by_binding (Some b) there out = by_parent b b.parent there refl out

one_more : (g : ℕ) → suc g ≡ g + 1
one_more g = omega arith

-- The context of the next group can be released.
module _ (forest forest' : Forest) (groups : List (Option ℕ)) (g c : ℕ) (may : MayLeave forest groups) (few : g < GROUPS) (here : slice_index_or groups g None ≡ Some c)
    (left : Left forest forest' (below groups g)) where
  pub next_out : is_in c (below groups g) ≡ false
  next_out = elim (either_way (is_in c (below groups g))) [
    | inl is ↦ let found = below_is groups g c is in absurd (let same = may.apart found.0 g c (omega (arith, found.1, few)) few found.2 here in omega (arith, same, found.1))
    | inr out ↦ out
  ]

  pub next_held : IsHeld forest' c
  next_held = held_still forest forest' (below groups g) left c next_out (may.held g c few here)

  pub next_ends : (d : ℕ) → parent forest' d ≡ Some c → is_cancelled forest' c ≡ true
  next_ends d bound =
      let was = bound_before forest forest' (below groups g) left d c bound in
      left.cancelled c next_out ∙ may.ends g c d few here was.1

  pub next_left : held_count (without forest' c) + 1 ≡ held_count forest' → ((d : ℕ) → d ≢ c → is_cancelled (without forest' c) d ≡ is_cancelled forest' d) → IsForest (without forest' c) →
      Left forest (without forest' c) (below groups (g + 1))
  next_left count others is_forest =
      subst (λ k. Left forest (without forest' c) (below groups k)) (one_more g)
      (subst (λ o. Left forest (without forest' c) (with_some o (below groups g))) (sym here)
      (Left-more forest forest' (below groups g) c left next_out (IsHeld-within forest' c next_held) count others is_forest))

-- and at last its own.
module _ (forest forest' : Forest) (e : OpenRow) (may : MayEnd forest e) (spawned : is_spawned e.source ≡ true) (left : Left forest forest' (below e.group_contexts GROUPS)) where
  own_is : own_context e ≡ Some e.context
  own_is = rw spawned refl

  own_out : is_in e.context (below e.group_contexts GROUPS) ≡ false
  own_out = may.apart e.context own_is

  pub own_held : IsHeld forest' e.context
  own_held = held_still forest forest' (below e.group_contexts GROUPS) left e.context own_out (may.held e.context own_is)

  pub own_ends : (d : ℕ) → parent forest' d ≡ Some e.context → is_cancelled forest' e.context ≡ true
  own_ends d bound =
      let was = bound_before forest forest' (below e.group_contexts GROUPS) left d e.context bound in
      let released = may.alone e.context d own_is was.1 in
      absurd (grind (arith, was.0, released))

  pub own_left : held_count (without forest' e.context) + 1 ≡ held_count forest' → ((d : ℕ) → d ≢ e.context → is_cancelled (without forest' e.context) d ≡ is_cancelled forest' d) →
      IsForest (without forest' e.context) → Left forest (without forest' e.context) (contexts_of e)
  own_left count others is_forest =
      subst (λ o. Left forest (without forest' e.context) (with_some o (below e.group_contexts GROUPS))) (sym own_is)
      (Left-more forest forest' (below e.group_contexts GROUPS) e.context left own_out (IsHeld-within forest' e.context own_held) count others is_forest)

-- A group without a context changes nothing.
pub next_none : (forest forest' : Forest) (groups : List (Option ℕ)) (g : ℕ) → slice_index_or groups g None ≡ None → Left forest forest' (below groups g) → Left forest forest' (below groups (g + 1))
next_none forest forest' groups g none left = subst (λ k. Left forest forest' (below groups k)) (one_more g) (subst (λ o. Left forest forest' (with_some o (below groups g))) (sym none) left)
