-- A row more, spawned into a group: members and contexts.
use Rattle.std.proofs.Common.{◌≡◌, ◌≢◌, ℕ, zero, suc, ◌+◌, ◌==◌, ◌<◌, ◌≤◌, nat_lt, List, [], ◌∷◌, ◌++◌, length, Option, Some, None, true, false, ◌&&◌, ◌⊎◌, refl, sym, ap, ◌∙◌, arith, inl, inr, get_or}
use Rattle.std.proofs.Common.{unwrap_or, subst}
use Rattle.std.specs.Prelude.{filter, if◌then◌else◌, is_some, IfSome, slice_index_or, slice_set}
use Rattle.std.specs.List.{enumerate_from}
use Rattle.std.proofs.lemmas.Bool.{cases_eq, cases_lt}
use Rattle.std.proofs.lemmas.Option.{IfSome_then}
use Rattle.std.proofs.lemmas.List.{length_push, get_or-set_same, get_or-set_other}
use Rattle.std.proofs.lemmas.List.Elements.{filter-append}
use Rattle.std.proofs.lemmas.List.Sums.{sum_by-set}
use Rattle.cancel_context.specs.Forest.{Forest, Binding, binding, IsHeld, held_count, with_bound}
use Rattle.tenant_model.specs.declared.rows.Kind.{Kind}
use Rattle.tenant_model.specs.declared.rows.Kind.TheVariants.{Root, Posted, Spawned, Region}
use Rattle.tenant_model.specs.declared.rows.Mark.{Mark}
use Rattle.tenant_model.specs.declared.rows.Row.{Row}
use Rattle.tenant_model.specs.State.{State, row, no_marks}
use Rattle.tenant_model.specs.Walks.{numbered_rows, is_open, is_unstarted, is_spawned_by, members, mark, is_used, maker_of}
use Rattle.tenant_model.specs.Changes.{add_row}
use Rattle.tenant_model.specs.Linked.{MakersPrecede}
use Rattle.tenant_model.proofs.AttendedSteps.{open_there}
use Rattle.tenant_model.proofs.Changed.{row-push_old, row-push_new, row-get_or}
use Rattle.tenant_model.proofs.Within.{either_way}
use Rattle.arena_rows.specs.declared.rows.OpenRow.{OpenRow}
use Rattle.arena_rows.specs.Represents.{at_place, Assigned, Owner, Nobody, OfJob, OfRow, OfGroup, bound, IsRowContext, IsGroupContext, IsOwned, AreContexts, held_by}
use Rattle.arena_rows.proofs.Alike.{member}
use Rattle.arena_rows.proofs.Picking.{unstarted_open}

pub append_none : {A : Type 0} (xs : List A) → xs ++ [] ≡ xs
append_none [] = refl
append_none (x ∷ xs) = ap (λ ys. x ∷ ys) (append_none xs)

pub numbered_push : (k : ℕ) (xs : List Row) (r : Row) → enumerate_from k (xs ++ r ∷ []) ≡ enumerate_from k xs ++ (k + length xs, r) ∷ []
numbered_push k [] r = let e : k + 0 ≡ k = omega arith in rw e refl
numbered_push k (x ∷ xs) r = let e : k + 1 + length xs ≡ k + suc (length xs) = omega arith in ap (λ ps. (k, x) ∷ ps) (numbered_push (k + 1) xs r ∙ rw e refl)

-- the members of a group after one row more
pub members_push : (f g since : ℕ) (rows : List Row) (r : Row) →
    filter (member f g since) (numbered_rows (rows ++ r ∷ [])) ≡ filter (member f g since) (numbered_rows rows) ++ filter (member f g since) ((1 + length rows, r) ∷ [])
members_push f g since rows r = ap (filter (member f g since)) (numbered_push 1 rows r) ∙ filter-append (member f g since) (numbered_rows rows) ((1 + length rows, r) ∷ [])

module _ (rows : List Row) (r : Row) where
  mark_push : (m g : ℕ) → m ≤ length rows → mark (rows ++ r ∷ []) m g ≡ mark rows m g
  mark_push m g old = rw (row-push_old rows m r old) refl

  -- a group that it does not join
  pub used_other : (m g : ℕ) → m ≤ length rows → is_spawned_by m g r.kind ≡ false → is_used (rows ++ r ∷ []) m g ≡ is_used rows m g
  used_other m g old apart =
      let none : member m g (mark rows m g).rows (1 + length rows, r) ≡ false = rw apart refl in
      let same : members (rows ++ r ∷ []) m g ≡ members rows m g = rw (mark_push m g old) (members_push m g (mark rows m g).rows rows r ∙ rw none (append_none (members rows m g))) in
      ap (λ ms. nat_lt 0 (length ms)) same

-- no row was spawned by one that is not there yet
pub no_members : (f g since k : ℕ) (xs : List Row) → ((i : ℕ) (d : Row) → i < length xs → is_spawned_by f g (get_or xs i d).kind ≡ false) → filter (member f g since) (enumerate_from k xs) ≡ []
no_members f g since k [] none = refl
no_members f g since k (x ∷ xs) none =
    let first : is_spawned_by f g x.kind ≡ false = none 0 x (omega arith) in
    rw first (no_members f g since (k + 1) xs (λ i d below. none (suc i) d (omega arith)))

none_there : (n : ℕ) → is_open (row [] n).phase ≡ false
none_there zero = refl
none_there (suc n) = refl

not_marked : (h : ℕ) → (slice_index_or {A = Mark} no_marks h (record { rows = 0; cancelled = false })).cancelled ≡ false
not_marked zero = refl
not_marked (suc zero) = refl
not_marked (suc (suc zero)) = refl
not_marked (suc (suc (suc zero))) = refl
not_marked (suc (suc (suc (suc h)))) = refl

-- a row more, whose context is ctx
module _ (s : State) (current : ℕ) (table : List (Option OpenRow)) (forest forest' : Forest) (at : Assigned) (owner' : ℕ → Owner) (ctx p : ℕ) (r : Row) (e : OpenRow) (precede : MakersPrecede s.rows)
    (precede' : MakersPrecede (s.rows ++ r ∷ [])) (are : AreContexts s current table forest at)
    (opened : is_open r.phase ≡ true) (none_marked : r.marks ≡ no_marks) (kept : (d : ℕ) (b : Binding) → binding forest d ≡ Some b → (binding forest' d ≡ Some b) × (owner' d ≡ at.owner d))
    (joins_given : (m h : ℕ) → m ≤ length s.rows → at.of_group m h ≡ None → is_spawned_by m h r.kind ≡ false) where
  abbrev pub new_number : ℕ
  new_number = length s.rows + 1

  abbrev pub more : State
  more = add_row s r

  abbrev pub assigned' : Assigned
  assigned' = record {
    of_row = λ m. if m == new_number then ctx else at.of_row m;
    of_group = λ m h. if m == new_number then None else at.of_group m h;
    of_job = at.of_job;
    owner = owner';
  }

  of_row_old : (m : ℕ) → m ≤ length s.rows → assigned'.of_row m ≡ at.of_row m
  of_row_old m old = let no : (m == new_number) ≡ false = grind (arith, old) in rw no refl

  of_row_new : assigned'.of_row new_number ≡ ctx
  of_row_new = let same : (new_number == new_number) ≡ true = grind arith in rw same refl

  of_group_old : (m h : ℕ) → m ≤ length s.rows → assigned'.of_group m h ≡ at.of_group m h
  of_group_old m h old = let no : (m == new_number) ≡ false = grind (arith, old) in rw no refl

  of_group_new : (h : ℕ) → assigned'.of_group new_number h ≡ None
  of_group_new h = let same : (new_number == new_number) ≡ true = grind arith in rw same refl

  row_old : (m : ℕ) → m ≤ length s.rows → row more.rows m ≡ row s.rows m
  row_old m old = row-push_old s.rows m r old

  row_new : row more.rows new_number ≡ r
  row_new = row-push_new s.rows new_number r refl

  before : (m h : ℕ) → 1 ≤ m → m ≤ length s.rows → maker_of (row s.rows m).kind ≡ Some h → h ≤ length s.rows
  before m h least old made = let its : (1 ≤ h) × (h < m) = rw made at (precede m least old) in omega (arith, its, old)

  -- an old row's context
  old_context : (m : ℕ) (k : Kind) → 1 ≤ m → m ≤ length s.rows → (row s.rows m).kind ≡ k → IsRowContext s forest at m k → IsRowContext more forest' assigned' m k
  old_context m Root least old is_k is = rw (of_row_old m old, row_old m old) is
  old_context m Posted least old is_k is = rw (of_row_old m old, row_old m old) is
  old_context m (Region h) least old is_k is = rw (of_row_old m old, of_row_old h (before m h least old (ap maker_of is_k))) is
  old_context m (Spawned h f) least old is_k is =
      let h_old = before m h least old (ap maker_of is_k) in
      elim is.1 [
        | inl held ↦
            let its = kept (at.of_row m) _ held.1.2 in
            rw (of_row_old m old, its.1, row_old h h_old, of_group_old h f h_old) (is.0, inl (held.0, (held.1.0, held.1.1, its.0)))
        | inr gone ↦
            let its = kept (at.of_row m) _ gone.1 in
            rw (of_row_old m old, its.1, row_old h h_old, of_group_old h f h_old) (is.0, inr (gone.0, its.0))
      ]

  -- the group of an old row
  old_group : (m h : ℕ) → m ≤ length s.rows → (o : Option ℕ) → at.of_group m h ≡ o → IsGroupContext s forest at m h o → IsGroupContext more forest' assigned' m h o
  old_group m h old (Some d) is_o is =
      let its = kept d _ is.1 in
      rw (its.1, of_row_old m old, mark_push s.rows r m h old) (is.0, its.0)
  old_group m h old None is_o is = rw (used_other s.rows r m h old (joins_given m h old is_o), mark_push s.rows r m h old) is

  not_by : (h : ℕ) (k : Kind) → IfSome (maker_of k) (λ m. m < new_number) → is_spawned_by new_number h k ≡ false
  not_by h Root before = refl
  not_by h Posted before = refl
  not_by h (Region m) before = refl
  not_by h (Spawned m f) before = let apart : (m == new_number) ≡ false = grind (arith, before) in rw apart refl

  -- the new row has no group yet
  none_spawned : (h i : ℕ) (d : Row) → i < length more.rows → is_spawned_by new_number h (get_or more.rows i d).kind ≡ false
  none_spawned h i d below =
      let place : get_or more.rows i d ≡ row more.rows (i + 1) = row-get_or more.rows i d below in
      rw place (not_by h (row more.rows (i + 1)).kind
      (IfSome_then (maker_of (row more.rows (i + 1)).kind) (precede' (i + 1) (omega arith) (omega (arith, below))) (λ m earlier. omega (arith, earlier, below, length_push s.rows r))))

  new_group : (h : ℕ) → IsGroupContext more forest' assigned' new_number h None
  new_group h =
      let nobody : members more.rows new_number h ≡ [] = no_members new_number h (mark more.rows new_number h).rows 1 more.rows (none_spawned h) in
      let marks : (row more.rows new_number).marks ≡ no_marks = rw row_new none_marked in
      (ap (λ ms. nat_lt 0 (length ms)) nobody, ap (λ ms. (slice_index_or {A = Mark} ms h (record { rows = 0; cancelled = false })).cancelled) marks ∙ not_marked h)

  owned_still : (d : ℕ) (o : Owner) → IsOwned s at d o → IsOwned more assigned' d o
  owned_still d Nobody is = is
  owned_still d (OfJob j) is = is
  owned_still d (OfRow m) is = let old = (open_there s.rows m is.1).1 in (of_row_old m old ∙ is.0, rw (row_old m old) is.1, (is.2.0, is.2.1, rw (row_old m old) is.2.2))
  owned_still d (OfGroup m h) is = let old = (open_there s.rows m is.1).1 in (of_group_old m h old ∙ is.0, rw (row_old m old) is.1, is.2)

  -- by whether a row is old or the new one
  by_age : (P : ℕ → Type 0) → ((m : ℕ) → 1 ≤ m → m ≤ length s.rows → is_open (row s.rows m).phase ≡ true → P m) → P new_number → (m : ℕ) → is_open (row more.rows m).phase ≡ true → P m
  by_age P old_rows new_row m opened_m =
      let there = open_there more.rows m opened_m in
      elim (cases_lt m new_number) [
        | inl old ↦ old_rows m there.0 (omega (arith, old)) (rw (row_old m (omega (arith, old))) at opened_m)
        | inr later ↦ let same : m ≡ new_number = omega (arith, later, there, length_push s.rows r) in rw same new_row
      ]

  held_some : (d : ℕ) (o : Option Binding) → binding forest d ≡ o → IsHeld forest d → (b : Binding) × (binding forest d ≡ Some b)
  held_some d None is held = absurd (let none : is_some (binding forest d) ≡ false = rw is refl in grind (arith, none, held))
  held_some d (Some b) is held = (b, is)

  -- The contexts with the new row.
  pub AreContexts-pushed : (held : ℕ) → IsRowContext more forest' assigned' new_number (row more.rows new_number).kind →
      ((d : ℕ) → IsHeld forest' d → IsHeld forest d ⊎ IsOwned more assigned' d (owner' d)) →
      ((q : ℕ) (x : OpenRow) → at_place table q ≡ Some x → x.number ≤ length s.rows) → e.context ≡ ctx → e.number ≡ new_number → ((h : ℕ) → slice_index_or e.group_contexts h None ≡ None) →
      held_by (Some e) ≡ held → p < length table → at_place table p ≡ None → held_count forest' ≡ held_count forest + held →
      AreContexts more current (slice_set table p (Some e)) forest' assigned'
  AreContexts-pushed held new_context owned_new numbers context number no_groups its_own within vacant count = record {
    of_jobs = λ j above most.
        let its = are.of_jobs j above most in
        let still = kept _ _ its.1 in
        (still.1 ∙ its.0, still.0);
    of_rows = by_age _ (λ m least old before. rw (row_old m old) (old_context m (row s.rows m).kind least old refl (are.of_rows m before))) new_context;
    of_groups = λ m h opened_m few_h. by_age (λ m. IsGroupContext more forest' assigned' m h (assigned'.of_group m h))
        (λ m least old before. rw (of_group_old m h old) (old_group m h old (at.of_group m h) refl (are.of_groups m h before few_h))) (rw (of_group_new h) (new_group h)) m opened_m;
    bare = λ m h waits_m. by_age (λ m. is_unstarted (row more.rows m).phase ≡ true → assigned'.of_group m h ≡ None)
        (λ m least old before waits_m. of_group_old m h old ∙ are.bare m h (rw (row_old m old) at waits_m)) (λ waits_m. of_group_new h) m (unstarted_open (row more.rows m).phase waits_m) waits_m;
    owned = λ d held_d. elim (owned_new d held_d) [
      | inl old ↦
          let its = held_some d (binding forest d) refl old in
          rw (kept d its.0 its.1).1 (owned_still d (at.owner d) (are.owned d old))
      | inr new ↦ new
    ];
    in_table = λ q x at_q. elim (cases_eq q p) [
      | inl same ↦
          let x_is : e ≡ x = ap (λ o. unwrap_or o x) (sym (get_or-set_same table p (Some e) None within) ∙ (rw same at at_q)) in
          rw (← x_is, number) (context ∙ sym of_row_new, λ h few_h. no_groups h ∙ sym (of_group_new h))
      | inr other ↦
          let before : at_place table q ≡ Some x = sym (get_or-set_other table p q (Some e) None other) ∙ at_q in
          let its = are.in_table q x before in
          let old = numbers q x before in
          rw (of_row_old x.number old) (its.0, λ h few_h. rw (of_group_old x.number h old) (its.1 h few_h))
    ];
    count = count ∙ omega (arith, are.count, sum_by-set held_by table p (Some e) None within, ap held_by vacant, its_own);
  }

-- A new row of a job, or a region, has the context of its job or of its maker.
module _ (s : State) (current : ℕ) (table : List (Option OpenRow)) (forest : Forest) (at : Assigned) (ctx p : ℕ) (r : Row) (e : OpenRow) (precede : MakersPrecede s.rows)
    (precede' : MakersPrecede (s.rows ++ r ∷ [])) (are : AreContexts s current table forest at)
    (opened : is_open r.phase ≡ true) (none_marked : r.marks ≡ no_marks) (not_spawned : (m h : ℕ) → is_spawned_by m h r.kind ≡ false) where
  abbrev pub joined : Assigned
  joined = assigned' s current table forest forest at at.owner ctx p r e precede precede' are opened none_marked (λ d b is. (is, refl)) (λ m h old none. not_spawned m h)

  pub AreContexts-joined : IsRowContext (add_row s r) forest joined (length s.rows + 1) (row (add_row s r).rows (length s.rows + 1)).kind →
      ((q : ℕ) (x : OpenRow) → at_place table q ≡ Some x → x.number ≤ length s.rows) → e.context ≡ ctx → e.number ≡ length s.rows + 1 → ((h : ℕ) → slice_index_or e.group_contexts h None ≡ None) →
      held_by (Some e) ≡ 0 → p < length table → at_place table p ≡ None →
      AreContexts (add_row s r) current (slice_set table p (Some e)) forest joined
  AreContexts-joined new_context numbers context number no_groups none within vacant =
      AreContexts-pushed s current table forest forest at at.owner ctx p r e precede precede' are opened none_marked (λ d b is. (is, refl)) (λ m h old none. not_spawned m h) 0 new_context
      (λ d held. inl held) numbers context number no_groups none within vacant (omega arith)

-- A new row that was spawned into group g of row n has a context of its own, bound to the group's context gc.
module _ (s : State) (current : ℕ) (table : List (Option OpenRow)) (forest : Forest) (at : Assigned) (c p n g gc : ℕ) (r : Row) (e : OpenRow) (precede : MakersPrecede s.rows)
    (precede' : MakersPrecede (s.rows ++ r ∷ [])) (are : AreContexts s current table forest at)
    (opened : is_open r.phase ≡ true) (none_marked : r.marks ≡ no_marks) (to : n ≤ length s.rows) (maker_open : is_open (row s.rows n).phase ≡ true) (kind : r.kind ≡ Spawned n g)
    (given : at.of_group n g ≡ Some gc) (free : binding forest c ≡ None) (room : c < length forest) where
  abbrev pub bound_forest : Forest
  bound_forest = with_bound forest c (Some gc)

  abbrev pub spawned_owner : ℕ → Owner
  spawned_owner d = if d == c then OfRow (length s.rows + 1) else at.owner d

  -- what is held is not the new one
  not_new : (d : ℕ) (b : Binding) → binding forest d ≡ Some b → d ≢ c
  not_new d b held same = let no : Some b ≡ None = sym held ∙ rw same free in grind (arith, ap is_some no)

  owner_old : (d : ℕ) → d ≢ c → spawned_owner d ≡ at.owner d
  owner_old d other = let no : (d == c) ≡ false = grind (arith, other) in rw no refl

  owner_new : spawned_owner c ≡ OfRow (length s.rows + 1)
  owner_new = let same : (c == c) ≡ true = grind arith in rw same refl

  pub still : (d : ℕ) (b : Binding) → binding forest d ≡ Some b → (binding bound_forest d ≡ Some b) × (spawned_owner d ≡ at.owner d)
  still d b is = let other = not_new d b is in (get_or-set_other forest c d (Some (bound gc false)) None other ∙ is, owner_old d other)

  pub joins_only : (m h : ℕ) → m ≤ length s.rows → at.of_group m h ≡ None → is_spawned_by m h r.kind ≡ false
  joins_only m h old none = elim (either_way (is_spawned_by m h r.kind)) [
    | inl joins ↦
        let here : ((n == m) && (g == h)) ≡ true = rw kind at joins in
        let same_row : n ≡ m = grind (arith, here) in
        let same_group : g ≡ h = grind (arith, here) in
        let no : Some gc ≡ None = sym given ∙ rw (same_row, same_group) none in
        absurd (grind (arith, ap is_some no))
    | inr apart ↦ apart
  ]

  abbrev pub spawned : Assigned
  spawned = assigned' s current table forest bound_forest at spawned_owner c p r e precede precede' are opened none_marked still joins_only

  pub AreContexts-spawned : ((q : ℕ) (x : OpenRow) → at_place table q ≡ Some x → x.number ≤ length s.rows) → e.context ≡ c → e.number ≡ length s.rows + 1 →
      ((h : ℕ) → slice_index_or e.group_contexts h None ≡ None) → held_by (Some e) ≡ 1 → p < length table → at_place table p ≡ None → held_count bound_forest ≡ held_count forest + 1 →
      AreContexts (add_row s r) current (slice_set table p (Some e)) bound_forest spawned
  AreContexts-spawned numbers context number no_groups one within vacant count =
      let N = length s.rows + 1 in
      let old_n : (n == N) ≡ false = grind (arith, to) in
      let it : (N == N) ≡ true = grind arith in
      let here : row (add_row s r).rows N ≡ r = row-push_new s.rows N r refl in
      let new_kind : (row (add_row s r).rows N).kind ≡ Spawned n g = ap (λ (x : Row). x.kind) here ∙ kind in
      let bound_new : binding bound_forest c ≡ Some (bound gc false) = get_or-set_same forest c (Some (bound gc false)) None room in
      let context_new : IsRowContext (add_row s r) bound_forest spawned N (Spawned n g) = rw (it, owner_new, row-push_old s.rows n r to, old_n) (refl, inl (maker_open, (gc, given, bound_new))) in
      AreContexts-pushed s current table forest bound_forest at spawned_owner c p r e precede precede' are opened none_marked still joins_only 1
      (subst (λ k. IsRowContext (add_row s r) bound_forest spawned N k) (sym new_kind) context_new)
      (λ d held. elim (cases_eq d c) [
        | inl same ↦ inr (rw (same, owner_new) (rw it refl, rw here opened, (n, g, new_kind)))
        | inr other ↦ inl (rw (get_or-set_other forest c d (Some (bound gc false)) None other) at held)
      ]) numbers context number no_groups one within vacant count
