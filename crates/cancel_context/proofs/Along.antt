-- Along the list of those bound to a context.
use Rattle.std.proofs.Common.{◌≡◌, ◌<◌, ◌⊎◌, ℕ, suc, true, if◌then◌else◌, List, [], ◌∷◌, Option, Some, None, is_some, map, length, refl, sym, ◌∙◌, ap, subst, inl, inr, arith}
use Rattle.std.specs.Prelude.{slice_set}
use Rattle.std.proofs.Math.ListN.{get_or-map}
use Rattle.std.proofs.lemmas.Bool.Decides.{eqb_tells}
use Rattle.std.proofs.lemmas.List.{get_or-set_same, get_or-set_other, length-set, length-map, ext_get_or}
use Rattle.cancel_context.specs.Forest.{Forest, Binding, binding, IsHeld, parent_in, parent, leaving, without_parent}
use Rattle.cancel_context.specs.Order.{IsIn}
use Rattle.cancel_context.specs.Below.{next_of, Links, IsRow, IsOnce, IsLinked}
use Rattle.cancel_context.proofs.Chains.{IsHeld-within, IsHeld-parent_in}
use Rattle.cancel_context.proofs.Released.{is_some-without_parent}
use Rattle.cancel_context.proofs.Lists.{was}
use Rattle.cancel_context.proofs.Rows.{steps, steps-row, length-once-le}

-- those from a place on that are bound to a context
pub record IsAlong (forest : Forest) (links : Links) (d : ℕ) (following : Option ℕ) (rest : List ℕ) : Type 0 where
  pub back : Option ℕ
  pub row : IsRow links.next links.previous back following rest
  pub once : IsOnce rest
  pub bound : (x : ℕ) → IsIn rest x → parent forest x ≡ Some d
  pub size : length links.next ≡ length forest

pub along-start : (forest : Forest) (links : Links) (d : ℕ) → IsHeld forest d → (l : IsLinked forest links) → IsAlong forest links d (next_of links.first d) (l.below d)
along-start forest links d held l = record {
  back = None;
  row = l.lists.rows d held;
  once = l.lists.once d held;
  bound = λ x i. l.lists.bound d x held i;
  size = l.lists.next_size;
}

pub along-more : (forest : Forest) (links : Links) (d x : ℕ) (rest : List ℕ) → IsAlong forest links d (Some x) rest →
    (xs : List ℕ) × ((rest ≡ x ∷ xs) × IsAlong forest links d (next_of links.next x) xs)
along-more forest links d x [] a = let wrong : Some x ≡ None = a.row in cc
along-more forest links d x (y ∷ xs) a =
    let both : Some x ≡ Some y = a.row.0 in
    let same : y ≡ x = cc in (
      xs,
      (
        ap (λ t. t ∷ xs) same,
        record {
          back = Some y;
          row = subst (λ t. IsRow links.next links.previous (Some y) (next_of links.next t) xs) same a.row.2;
          once = a.once.1;
          bound = λ z i. a.bound z (inr i);
          size = a.size;
        },
      ),
    )

pub along-end : (forest : Forest) (links : Links) (d : ℕ) (rest : List ℕ) → IsAlong forest links d None rest → rest ≡ []
along-end forest links d [] a = refl
along-end forest links d (y ∷ xs) a = let wrong : None ≡ Some y = a.row.0 in cc

within_row : (forest : Forest) (links : Links) (d : ℕ) (following : Option ℕ) (rest : List ℕ) → IsAlong forest links d following rest → (x : ℕ) → IsIn rest x → x < length links.next
within_row forest links d following rest a x i = let inside : x < length forest = IsHeld-within forest x (IsHeld-parent_in (binding forest x) d (a.bound x i)) in omega (arith, a.size)

pub along-count : (forest : Forest) (links : Links) (d : ℕ) (following : Option ℕ) (rest : List ℕ) → IsAlong forest links d following rest →
    steps (length links.next) links.next following ≡ length rest
along-count forest links d following rest a =
    steps-row (length links.next) links.next links.previous a.back following rest a.row (length-once-le (length links.next) rest a.once (within_row forest links d following rest a))

pub along-fewer : (forest : Forest) (links : Links) (d x : ℕ) (rest : List ℕ) → IsAlong forest links d (Some x) rest →
    steps (length links.next) links.next (next_of links.next x) < steps (length links.next) links.next (Some x)
along-fewer forest links d x rest a =
    let more = along-more forest links d x rest a in
    let one : length rest ≡ suc (length more.0) = ap length more.1.0 in
    omega (arith, along-count forest links d (Some x) rest a, along-count forest links d (next_of links.next x) more.0 more.1.1)

pub along-first : (forest : Forest) (links : Links) (d x : ℕ) (rest : List ℕ) → IsAlong forest links d (Some x) rest → parent forest x ≡ Some d
along-first forest links d x rest a =
    let more = along-more forest links d x rest a in
    a.bound x (subst (λ l. IsIn l x) (sym more.1.0) (inl refl))

-- Those bound to a context become orphans, one after another.
pub record IsOrphaning (forest now : Forest) (links : Links) (c : ℕ) (following : Option ℕ) : Type 0 where
  pub rest : List ℕ
  pub along : IsAlong forest links c following rest
  pub same_size : length now ≡ length forest
  pub each : (e : ℕ) → (binding now e ≡ without_parent c (binding forest e)) ⊎ ((binding now e ≡ binding forest e) × IsIn rest e)

stays_alone : (c : ℕ) (b : Binding) (o : Option ℕ) → b.parent ≡ o → (o ≡ Some c → ⊥) → leaving c b o ≡ b
stays_alone c b None at out = refl
stays_alone c b (Some q) at out = elim (eqb_tells q c) [ inl h ↦ absurd (out (ap Some h.1)) | inr h ↦ ap (λ t. if t then record { parent = None; is_asked = b.is_asked; is_orphan = true } else b) h.0 ]

left_alone : (c : ℕ) (o : Option Binding) → (parent_in o ≡ Some c → ⊥) → without_parent c o ≡ o
left_alone c None out = refl
left_alone c (Some b) out = ap Some (stays_alone c b b.parent refl out)

pub orphaning-place : (forest now : Forest) (links : Links) (c x : ℕ) → IsOrphaning forest now links c (Some x) → (x < length now) × (x < length links.next)
orphaning-place forest now links c x o =
    let at = along-first forest links c x o.rest o.along in
    let inside : x < length forest = IsHeld-within forest x (IsHeld-parent_in (binding forest x) c at) in
    (omega (arith, o.same_size), omega (arith, o.along.size))

pub orphaning-held : (forest now : Forest) (links : Links) (c x : ℕ) → IsOrphaning forest now links c (Some x) → IsHeld now x
orphaning-held forest now links c x o =
    let held : IsHeld forest x = IsHeld-parent_in (binding forest x) c (along-first forest links c x o.rest o.along) in
    elim (o.each x) [
      | inl e ↦ ap is_some e ∙ is_some-without_parent c (binding forest x) ∙ held
      | inr t ↦ ap is_some t.0 ∙ held
    ]

again_at : (c x : ℕ) (forest now : Forest) → (binding now x ≡ without_parent c (binding forest x)) ⊎ ((binding now x ≡ binding forest x) × Unit {0}) →
    without_parent c (binding now x) ≡ without_parent c (binding forest x)
again_at c x forest now (inl e) = ap (without_parent c) e ∙ left_alone c (without_parent c (binding forest x)) (λ t. (was c c (binding forest x) t).1 refl)
again_at c x forest now (inr e) = ap (without_parent c) e.0

pub orphaning-more : (forest now : Forest) (links : Links) (c x : ℕ) → IsOrphaning forest now links c (Some x) →
    IsOrphaning forest (slice_set now x (without_parent c (binding now x))) links c (next_of links.next x)
orphaning-more forest now links c x o =
    let more = along-more forest links c x o.rest o.along in
    let place = (orphaning-place forest now links c x o).0 in
    record {
      rest = more.0;
      along = more.1.1;
      same_size = length-set now x _ ∙ o.same_size;
      each = λ e. elim (eqb_tells e x) [
        | inl s ↦ inl (ap (binding (slice_set now x (without_parent c (binding now x)))) s.1 ∙ get_or-set_same now x (without_parent c (binding now x)) None place ∙
            again_at c x forest now (elim (o.each x) [ inl t ↦ inl t | inr t ↦ inr (t.0, tt) ]) ∙ sym (ap (λ y. without_parent c (binding forest y)) s.1))
        | inr s ↦
            let kept : binding (slice_set now x (without_parent c (binding now x))) e ≡ binding now e = get_or-set_other now x e (without_parent c (binding now x)) None s.1 in
            elim (o.each e) [
              | inl t ↦ inl (kept ∙ t)
              | inr t ↦ elim (subst (λ l. IsIn l e) more.1.0 t.1) [
                | inl h ↦ absurd (s.1 (sym h))
                | inr i ↦ inr (kept ∙ t.0, i)
              ]
            ]
      ];
    }

pub orphaning-end : (forest now : Forest) (links : Links) (c : ℕ) → IsOrphaning forest now links c None → now ≡ map (without_parent c) forest
orphaning-end forest now links c o =
    let gone : o.rest ≡ [] = along-end forest links c o.rest o.along in
    ext_get_or None now (map (without_parent c) forest) (o.same_size ∙ sym (length-map forest (without_parent c))) (λ i less. elim (o.each i) [
      | inl e ↦ e ∙ sym (get_or-map (without_parent c) forest i None)
      | inr t ↦ absurd (subst (λ l. IsIn l i) gone t.1)
    ])
