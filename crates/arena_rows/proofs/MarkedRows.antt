-- Rows of which one has another mark of a group.
use Rattle.std.proofs.Common.{◌≡◌, ◌≢◌, ℕ, ◌+◌, ◌-◌, ◌<◌, ◌≤◌, nat_lt, pos, List, [], ◌∷◌, length, false, ◌⊎◌, refl, sym, ap, ◌∙◌, arith, inl, inr, get_or, map}
use Rattle.std.specs.Prelude.{filter, fold, find, count_by, slice_index_or, slice_set}
use Rattle.std.specs.List.{enumerate_from}
use Rattle.std.specs.Option.{option_map}
use Rattle.std.specs.Int.{int_wrapping_add, w64}
use Rattle.std.proofs.lemmas.Bool.{cases_eq}
use Rattle.std.proofs.lemmas.List.{get_or-set_same, get_or-set_other}
use Rattle.job_language.specs.declared.instructions.TheConstants.{GROUPS}
use Rattle.task_group.specs.Groups.{Group, group, unused}
use Rattle.nest_stack.specs.declared.stack.Nested.{Nested}
use Rattle.tenant_model.specs.declared.rows.Kind.{Kind}
use Rattle.tenant_model.specs.declared.rows.Kind.TheVariants.{Root, Posted, Spawned, Region}
use Rattle.tenant_model.specs.declared.rows.Mark.{Mark}
use Rattle.tenant_model.specs.declared.rows.Row.{Row}
use Rattle.tenant_model.specs.State.{row, with_at_number}
use Rattle.tenant_model.specs.Walks.{NumberedRow, is_open, is_unstarted, is_region, value_in, mark, members, is_used, region_of, chain}
use Rattle.tenant_model.specs.Changes.{open_rows}
use Rattle.tenant_model.proofs.Changed.{row-with_same, row-with_other, row-get_or, with_at_number-from}
use Rattle.tenant_model.proofs.Linked.{SameSources, SameSources-set}
use Rattle.tenant_model.proofs.Within.{either_way, chain_for-kinds}
use Rattle.arena_rows.specs.declared.rows.OpenRow.{OpenRow}
use Rattle.arena_rows.specs.Represents.{Places, id_of, source_of, stage_of, tag_of, around_of, tagged_of, nested_of, waiting, waiting_of, IsGroup, IsRow, open_of}
use Rattle.arena_rows.proofs.Alike.{AreLike, are_like, count-like, member, members-like, total-like}
use Rattle.arena_rows.proofs.Moves.{waiting-same}
use Rattle.arena_rows.proofs.Started.{map-same}

-- No row up to a number was made after it.
none_since : (f g since k : ℕ) (xs : List Row) → k + length xs ≤ since + 1 → filter (member f g since) (enumerate_from k xs) ≡ []
none_since f g since k [] low = refl
none_since f g since k (x ∷ xs) low =
    let past : nat_lt since k ≡ false = grind (arith, low) in
    let out : member f g since (k, x) ≡ false = grind (arith, past) in
    rw out (none_since f g since (k + 1) xs (omega (arith, low)))

module _ (rows : List Row) (n g : ℕ) (m : Mark) (from : 1 ≤ n) (to : n ≤ length rows) (few : g < length (row rows n).marks) where
  abbrev pub marked_row : Row
  marked_row = record (row rows n) { marks = slice_set (row rows n).marks g m }

  abbrev pub marked_rows : List Row
  marked_rows = with_at_number rows n marked_row

  abbrev unmarked : Mark
  unmarked = record { rows = 0; cancelled = false }

  here : row marked_rows n ≡ marked_row
  here = row-with_same rows n marked_row from to

  -- any part of a row but its marks
  pub part : {A : Type 0} (f : Row → A) → f marked_row ≡ f (row rows n) → (x : ℕ) → f (row marked_rows x) ≡ f (row rows x)
  part f same x = elim (cases_eq x n) [
    | inl e ↦ rw e (ap f here ∙ same)
    | inr other ↦ ap f (row-with_other rows n x marked_row from other)
  ]

  pub kinds : (x : ℕ) → (row marked_rows x).kind ≡ (row rows x).kind
  kinds x = part (λ (q : Row). q.kind) refl x

  pub opens : (x : ℕ) → is_open (row marked_rows x).phase ≡ is_open (row rows x).phase
  opens x = part (λ (q : Row). is_open q.phase) refl x

  pub sources : SameSources rows marked_rows
  sources = SameSources-set rows n marked_row from to refl refl

  -- The mark, and all others.
  pub mark_here : mark marked_rows n g ≡ m
  mark_here = ap (λ (q : Row). slice_index_or {A = Mark} q.marks g unmarked) here ∙ get_or-set_same (row rows n).marks g m unmarked few

  pub mark_cases : (x h : ℕ) → ((x ≡ n) × (h ≡ g)) ⊎ (((x ≡ n) → (h ≡ g) → ⊥) × (mark marked_rows x h ≡ mark rows x h))
  mark_cases x h = elim (cases_eq x n) [
    | inl same ↦ elim (cases_eq h g) [
      | inl both ↦ inl (same, both)
      | inr other ↦ inr (λ _ e. other e, rw same (ap (λ (q : Row). slice_index_or {A = Mark} q.marks h unmarked) here ∙ get_or-set_other (row rows n).marks g h m unmarked other))
    ]
    | inr other ↦ inr (λ e _. other e, ap (λ (q : Row). slice_index_or {A = Mark} q.marks h unmarked) (row-with_other rows n x marked_row from other))
  ]

  like : AreLike rows marked_rows
  like = are_like rows marked_rows sources.long (λ x at_least. record { kind = kinds x; job = sources.jobs x; opens = opens x; value = part (λ (q : Row). value_in q.phase) refl x })

  pub open_rows-marked : open_rows marked_rows ≡ open_rows rows
  open_rows-marked = count-like _ _ rows marked_rows (λ x y is. is.opens) like

  pub open_of-marked : (j : ℕ) → open_of marked_rows j ≡ open_of rows j
  open_of-marked j = count-like _ _ rows marked_rows (λ x y is. rw (is.job, is.opens) refl) like

  -- Where as many rows were made before the last wait, a group has the same members.
  pub used-marked : (x h : ℕ) → (mark marked_rows x h).rows ≡ (mark rows x h).rows → is_used marked_rows x h ≡ is_used rows x h
  used-marked x h same = rw same (ap (λ k. nat_lt 0 k) (members-like x h (mark rows x h).rows 1 rows marked_rows like).1)

  pub IsGroup-marked : (x h : ℕ) (it : Group) → (mark marked_rows x h).rows ≡ (mark rows x h).rows → IsGroup rows x h it → IsGroup marked_rows x h it
  IsGroup-marked x h it same is =
      let both = members-like x h (mark rows x h).rows 1 rows marked_rows like in
      record {
        pending = is.pending ∙ rw same (sym both.0);
        total = is.total ∙ rw same (sym (total-like x h (mark rows x h).rows 1 (pos 0) (pos 0) rows marked_rows refl like));
        used = is.used ∙ rw same (ap (λ k. nat_lt 0 k) (sym both.1));
      }

  -- After a wait that passed it has none.
  module _ (all_before : m.rows ≡ length rows) where
    no_members : members marked_rows n g ≡ []
    no_members =
        let since : (mark marked_rows n g).rows ≡ length rows = ap (λ (k : Mark). k.rows) mark_here ∙ all_before in
        rw since (none_since n g (length rows) 1 marked_rows (omega (arith, sources.long)))

    pub unused-marked : is_used marked_rows n g ≡ false
    unused-marked = ap (λ ps. nat_lt 0 (length ps)) no_members

    pub IsGroup-passed : IsGroup marked_rows n g unused
    IsGroup-passed = record {
      pending = sym (ap (count_by (λ (p : NumberedRow). is_open p.1.phase)) no_members);
      total = sym (ap (λ ps. fold (λ sum (p : NumberedRow). int_wrapping_add w64 sum (value_in p.1.phase)) (pos 0) ps) no_members);
      used = sym unused-marked;
    }

  -- Chains and regions are the same.
  pub chain-marked : (x : ℕ) → chain marked_rows x ≡ chain rows x
  chain-marked x = chain_for-kinds rows marked_rows kinds x x

  find-marked : (xs : List ℕ) → find (λ x. is_region (row marked_rows x).kind) xs ≡ find (λ x. is_region (row rows x).kind) xs
  find-marked [] = refl
  find-marked (x ∷ xs) = rw (kinds x) (elim (either_way (is_region (row rows x).kind)) [
    | inl is ↦ rw is refl
    | inr not_so ↦ rw not_so (find-marked xs)
  ])

  region_of-marked : (x : ℕ) → region_of marked_rows x ≡ region_of rows x
  region_of-marked x = rw (chain-marked x) (find-marked (chain rows x))

  pub tag_of-marked : (places : Places) (x : ℕ) → tag_of marked_rows places x ≡ tag_of rows places x
  tag_of-marked places x = ap (option_map (id_of places)) (region_of-marked x)

  around_same : (places : Places) (k : Kind) → around_of marked_rows places k ≡ around_of rows places k
  around_same places Root = refl
  around_same places Posted = refl
  around_same places (Spawned x h) = refl
  around_same places (Region x) = tag_of-marked places x

  pub tagged_of-marked : (places : Places) (e : OpenRow) → tagged_of marked_rows places e ≡ tagged_of rows places e
  tagged_of-marked places e =
      let around : around_of marked_rows places (row marked_rows e.number).kind ≡ around_of rows places (row rows e.number).kind =
      ap (around_of marked_rows places) (kinds e.number) ∙ around_same places (row rows e.number).kind in
      rw (tag_of-marked places e.number, around) refl

  pub nested_of-marked : (places : Places) (x : ℕ) → nested_of marked_rows places x ≡ nested_of rows places x
  nested_of-marked places x = part (λ (q : Row). let it : Nested = record { frame = q.frame; row = id_of places x; is_region = is_region q.kind } in it) refl x

  -- The rows that wait, where the row with the mark does not.
  pub waiting-marked : (places : Places) → is_unstarted (row rows n).phase ≡ false → map (waiting_of rows places) (waiting rows) ≡ map (waiting_of marked_rows places) (waiting marked_rows)
  waiting-marked places started =
      let place : n - 1 + 1 ≡ n = omega (arith, from) in
      let at : is_unstarted (get_or rows (n - 1) marked_row).phase ≡ false =
      ap (λ (x : Row). is_unstarted x.phase) (row-get_or rows (n - 1) marked_row (omega (arith, from, to)) ∙ ap (row rows) place) ∙ started in
      let same : waiting marked_rows ≡ waiting rows =
      ap waiting (with_at_number-from rows n marked_row from) ∙ waiting-same 1 (n - 1) marked_row marked_row rows (omega (arith, from, to)) started at in
      map-same (waiting_of rows places) (waiting_of marked_rows places) (waiting rows) (λ p. rw (tag_of-marked places p.0) refl) ∙ ap (map (waiting_of marked_rows places)) (sym same)

  -- The entry of a row whose groups are as they were.
  pub IsRow-marked : (places : Places) (x : ℕ) (e e' : OpenRow) → e' ≡ record e { groups = e'.groups } → length e'.groups ≡ GROUPS →
      ((h : ℕ) → h < GROUPS → IsGroup marked_rows x h (group e'.groups h)) → IsRow rows places x e → IsRow marked_rows places x e'
  IsRow-marked places x e e' same long groups is = record {
    number = ap (λ (y : OpenRow). y.number) same ∙ is.number;
    source = ap (λ (y : OpenRow). y.source) same ∙ is.source ∙ sym (ap (source_of places) (kinds x));
    job = ap (λ (y : OpenRow). y.job) same ∙ is.job ∙ sym (sources.jobs x);
    made_on = ap (λ (y : OpenRow). y.made_on) same ∙ is.made_on ∙ sym (part (λ (q : Row). q.made_on) refl x);
    stage = ap (λ (y : OpenRow). y.stage) same ∙ is.stage ∙ sym (part (λ (q : Row). stage_of q.frame q.phase) refl x);
    groups = groups;
    all_groups = long;
    all_contexts = ap (λ (y : OpenRow). length y.group_contexts) same ∙ is.all_contexts;
  }

  pub IsRow-other : (places : Places) (x : ℕ) (e : OpenRow) → x ≢ n → IsRow rows places x e → IsRow marked_rows places x e
  IsRow-other places x e other is = IsRow-marked places x e e refl is.all_groups (λ h low. elim (mark_cases x h) [
    | inl both ↦ absurd (other both.0)
    | inr apart ↦ IsGroup-marked x h (group e.groups h) (ap (λ (k : Mark). k.rows) apart.1) (is.groups h low)
  ]) is
