-- What a new row changes: its maker's group, and nothing else of the rows before it.
use Rattle.std.proofs.Common.{◌≡◌, ℕ, zero, suc, ◌+◌, ◌==◌, ◌<◌, ◌≤◌, nat_lt, pos, List, [], ◌∷◌, ◌++◌, length, Bool, true, false, refl, sym, ap, ◌∙◌, arith, inl, inr, get_or}
use Rattle.std.specs.Prelude.{IfSome, fold, count_by, slice_index_or}
use Rattle.std.specs.Option.{option_map}
use Rattle.std.specs.Int.{int_wrapping_add, w64}
use Rattle.std.proofs.lemmas.Option.{IfSome_then}
use Rattle.std.proofs.lemmas.List.{length_push}
use Rattle.std.proofs.lemmas.List.Sums.{fold-append}
use Rattle.task_group.specs.Groups.{Group, unused}
use Rattle.tenant_model.specs.declared.rows.Kind.{Kind}
use Rattle.tenant_model.specs.declared.rows.Kind.TheVariants.{Root, Posted, Spawned, Region}
use Rattle.tenant_model.specs.declared.rows.Mark.{Mark}
use Rattle.tenant_model.specs.declared.rows.Row.{Row}
use Rattle.tenant_model.specs.State.{row}
use Rattle.tenant_model.specs.Walks.{NumberedRow, maker_of, is_open, is_region, is_spawned_by, members, mark, total, region_of, value_in}
use Rattle.tenant_model.specs.Linked.{MakersPrecede}
use Rattle.tenant_model.proofs.Changed.{row-push_old, row-get_or}
use Rattle.tenant_model.proofs.Within.{maker_cases, either_way, region_of-here, region_of-above, region_of-none, maker_before}
use Rattle.tenant_model.proofs.Stacking.{one_if}
use Rattle.arena_rows.specs.Represents.{Places, id_of, tag_of, IsGroup}
use Rattle.arena_rows.proofs.Alike.{member, count_cons, count_append}
use Rattle.arena_rows.proofs.Sums.{summed_nothing}
use Rattle.arena_rows.proofs.Spawned.{members_push, append_none, no_members}

module _ (rows : List Row) (r : Row) (precede : MakersPrecede rows) (precede' : MakersPrecede (rows ++ r ∷ [])) where
  abbrev N : ℕ
  N = length rows + 1

  abbrev rows' : List Row
  rows' = rows ++ r ∷ []

  -- Regions are those before.
  region_push : (k n : ℕ) → n ≤ k → 1 ≤ n → n ≤ length rows → region_of rows' n ≡ region_of rows n
  region_push zero n enough from to = absurd (omega (arith, enough, from))
  region_push (suc k) n enough from to =
      let old : row rows' n ≡ row rows n = row-push_old rows n r to in
      let more : n ≤ length rows' = omega (arith, to, length_push rows r) in
      elim (either_way (is_region (row rows n).kind)) [
        | inl is_one ↦ region_of-here rows' precede' n from more (rw old is_one) ∙ sym (region_of-here rows precede n from to is_one)
        | inr no_region ↦ elim (maker_cases (maker_of (row rows n).kind)) [
          | inl none ↦ region_of-none rows' precede' n from more (rw old no_region) (rw old none) ∙ sym (region_of-none rows precede n from to no_region none)
          | inr made ↦
              let before = maker_before rows precede n made.0 from to made.1 in
              region_of-above rows' precede' n made.0 from more (rw old no_region) (rw old made.1) ∙
              region_push k made.0 (omega (arith, before, enough)) before.0 (omega (arith, before, to)) ∙ sym (region_of-above rows precede n made.0 from to no_region made.1)
        ]
      ]

  pub region_of-push : (n : ℕ) → n ≤ length rows → region_of rows' n ≡ region_of rows n
  region_of-push zero to = refl
  region_of-push (suc n) to = region_push (suc n) (suc n) (omega arith) (omega arith) to

  pub tag_of-push : (places : Places) (n : ℕ) → n ≤ length rows → tag_of rows' places n ≡ tag_of rows places n
  tag_of-push places n to = ap (option_map (id_of places)) (region_of-push n to)

  mark_push : (m g : ℕ) → m ≤ length rows → mark rows' m g ≡ mark rows m g
  mark_push m g old = ap (λ (q : Row). slice_index_or {A = Mark} q.marks g (record { rows = 0; cancelled = false })) (row-push_old rows m r old)

  -- a group that it does not join
  members_same : (m g : ℕ) → m ≤ length rows → is_spawned_by m g r.kind ≡ false → members rows' m g ≡ members rows m g
  members_same m g old apart =
      let none : member m g (mark rows m g).rows (1 + length rows, r) ≡ false = rw apart refl in
      rw (mark_push m g old) (members_push m g (mark rows m g).rows rows r ∙ rw none (append_none (members rows m g)))

  pub IsGroup-same : (m g : ℕ) (it : Group) → m ≤ length rows → is_spawned_by m g r.kind ≡ false → IsGroup rows m g it → IsGroup rows' m g it
  IsGroup-same m g it old apart is =
      let same = members_same m g old apart in
      record {
        pending = is.pending ∙ sym (ap (count_by (λ (p : NumberedRow). is_open p.1.phase)) same);
        total = is.total ∙ sym (ap (λ ps. fold (λ sum (p : NumberedRow). int_wrapping_add w64 sum (value_in p.1.phase)) (pos 0) ps) same);
        used = is.used ∙ sym (ap (λ ps. nat_lt 0 (length ps)) same);
      }

  -- and the one that it joins
  members_joined : (m g : ℕ) → m ≤ length rows → (mark rows m g).rows ≤ length rows → is_spawned_by m g r.kind ≡ true → members rows' m g ≡ members rows m g ++ (1 + length rows, r) ∷ []
  members_joined m g old marked joins =
      let one : member m g (mark rows m g).rows (1 + length rows, r) ≡ true = rw joins (grind (arith, marked)) in
      rw (mark_push m g old) (members_push m g (mark rows m g).rows rows r ∙ rw one refl)

  pub IsGroup-joined : (m g : ℕ) (it : Group) → m ≤ length rows → (mark rows m g).rows ≤ length rows → is_spawned_by m g r.kind ≡ true → value_in r.phase ≡ pos 0 → IsGroup rows m g it →
      IsGroup rows' m g (record it { pending = it.pending + one_if (is_open r.phase); is_used = true })
  IsGroup-joined m g it old marked joins none is =
      let same = members_joined m g old marked joins in
      let p : NumberedRow → Bool = λ q. is_open q.1.phase in
      let last : NumberedRow = (1 + length rows, r) in
      record {
        pending = ap (λ k. k + one_if (is_open r.phase)) is.pending ∙
            sym (ap (count_by p) same ∙ count_append p (members rows m g) (last ∷ []) ∙ ap (λ k. count_by p (members rows m g) + k) (one_counted p last));
        total = is.total ∙ sym (ap (λ ps. fold (λ sum (q : NumberedRow). int_wrapping_add w64 sum (value_in q.1.phase)) (pos 0) ps) same ∙
            fold-append (λ sum (q : NumberedRow). int_wrapping_add w64 sum (value_in q.1.phase)) (pos 0) (members rows m g) (last ∷ []) ∙ ap (int_wrapping_add w64 (total rows m g)) none ∙
            summed_nothing (members rows m g));
        used = sym (ap (λ ps. nat_lt 0 (length ps)) same ∙ some_used (members rows m g) last);
      }
    where
      one_counted : (p : NumberedRow → Bool) (q : NumberedRow) → count_by p (q ∷ []) ≡ one_if (p q)
      one_counted p q = count_cons p q [] ∙ omega arith

      some_used : (ps : List NumberedRow) (q : NumberedRow) → nat_lt 0 (length (ps ++ q ∷ [])) ≡ true
      some_used ps q = let long = length_push ps q in grind (arith, long)

  -- its own groups are unused
  not_by : (h : ℕ) (k : Kind) → IfSome (maker_of k) (λ m. m < N) → is_spawned_by N h k ≡ false
  not_by h Root before = refl
  not_by h Posted before = refl
  not_by h (Region m) before = refl
  not_by h (Spawned m f) before = let apart : (m == N) ≡ false = grind (arith, before) in rw apart refl

  none_spawned : (h i : ℕ) (d : Row) → i < length rows' → is_spawned_by N h (get_or rows' i d).kind ≡ false
  none_spawned h i d below =
      let place : get_or rows' i d ≡ row rows' (i + 1) = row-get_or rows' i d below in
      let there : i + 1 ≤ length rows' = omega (arith, below) in
      rw place (not_by h (row rows' (i + 1)).kind
      (IfSome_then (maker_of (row rows' (i + 1)).kind) (precede' (i + 1) (omega arith) there) (λ m before. omega (arith, before, below, length_push rows r))))

  pub no_members_yet : (h : ℕ) → members rows' N h ≡ []
  no_members_yet h = no_members N h (mark rows' N h).rows 1 rows' (none_spawned h)

  pub IsGroup-new : (h : ℕ) → IsGroup rows' N h unused
  IsGroup-new h =
      let none = no_members_yet h in
      record {
        pending = sym (ap (count_by (λ (p : NumberedRow). is_open p.1.phase)) none);
        total = sym (ap (λ ps. fold (λ sum (p : NumberedRow). int_wrapping_add w64 sum (value_in p.1.phase)) (pos 0) ps) none);
        used = sym (ap (λ ps. nat_lt 0 (length ps)) none);
      }
