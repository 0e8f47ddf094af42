-- A row that has ended: what the others, its group and its job have of it.
use Rattle.std.proofs.Common.{◌≡◌, ◌≢◌, ℕ, zero, suc, ◌+◌, ◌-◌, ◌==◌, ◌<◌, ◌≤◌, nat_lt, pos, List, [], ◌∷◌, length, true, false, ◌&&◌, refl, sym, ap, ◌∙◌, arith, inl, inr, get_or}
use Rattle.std.specs.Prelude.{filter, fold, find, count_by, slice_index_or, slice_set}
use Rattle.std.specs.List.{enumerate_from}
use Rattle.std.specs.Option.{option_map}
use Rattle.std.specs.Int.{int_wrapping_add, w64}
use Rattle.std.proofs.lemmas.Bool.{cases_eq}
use Rattle.task_group.specs.Groups.{Group}
use Rattle.tenant_model.specs.declared.rows.Kind.{Kind}
use Rattle.tenant_model.specs.declared.rows.Kind.TheVariants.{Root, Posted, Spawned, Region}
use Rattle.tenant_model.specs.declared.rows.Phase.{Phase}
use Rattle.tenant_model.specs.declared.rows.Phase.TheVariants.{Unstarted, Live, Done, Dropped, Faulted}
use Rattle.tenant_model.specs.declared.rows.Mark.{Mark}
use Rattle.tenant_model.specs.declared.rows.Row.{Row}
use Rattle.tenant_model.specs.State.{row, with_at_number}
use Rattle.tenant_model.specs.Walks.{NumberedRow, is_open, is_region, is_spawned_by, members, mark, is_used, value_in, chain}
use Rattle.tenant_model.specs.Changes.{open_rows}
use Rattle.tenant_model.proofs.Changed.{row-with_same, row-with_other, row-get_or, with_at_number-from}
use Rattle.tenant_model.proofs.Contexts.{SameContexts, chain-same}
use Rattle.tenant_model.proofs.Linked.{SameSources-set}
use Rattle.tenant_model.proofs.Stacking.{one_if, count-with}
use Rattle.tenant_model.proofs.Within.{either_way}
use Rattle.arena_rows.specs.Represents.{Places, id_of, tag_of, around_of, IsGroup, open_of}
use Rattle.arena_rows.proofs.Alike.{member}
use Rattle.arena_rows.proofs.Sums.{total-done, pending-done}

pub open_valueless : (p : Phase) → is_open p ≡ true → value_in p ≡ pos 0
open_valueless Unstarted opened = refl
open_valueless (Live slot h) opened = refl
open_valueless (Done v) opened = absurd (grind (arith, opened))
open_valueless Dropped opened = refl
open_valueless Faulted opened = refl

-- a row changed, of the same kind, which is no member of a group
members-other : (f g since k i : ℕ) (r d : Row) (xs : List Row) → i < length xs → r.kind ≡ (get_or xs i d).kind → is_spawned_by f g r.kind ≡ false →
    filter (member f g since) (enumerate_from k (slice_set xs i r)) ≡ filter (member f g since) (enumerate_from k xs)
members-other f g since k i r d [] within kind apart = absurd (omega (arith, within))
members-other f g since k zero r d (x ∷ xs) within kind apart =
    let before : is_spawned_by f g x.kind ≡ false = ap (is_spawned_by f g) (sym kind) ∙ apart in
    rw (apart, before) refl
members-other f g since k (suc i) r d (x ∷ xs) within kind apart =
    let rest = members-other f g since (k + 1) i r d xs (omega (arith, within)) kind apart in
    elim (either_way (member f g since (k, x))) [
      | inl is ↦ rw is (ap (λ ps. (k, x) ∷ ps) rest)
      | inr not_so ↦ rw not_so rest
    ]

-- or which may be one
long-set : (f g since k i : ℕ) (r d : Row) (xs : List Row) → i < length xs → r.kind ≡ (get_or xs i d).kind →
    length (filter (member f g since) (enumerate_from k (slice_set xs i r))) ≡ length (filter (member f g since) (enumerate_from k xs))
long-set f g since k i r d [] within kind = absurd (omega (arith, within))
long-set f g since k zero r d (x ∷ xs) within kind = elim (either_way (member f g since (k, x))) [
  | inl is ↦ rw (kind, is) refl
  | inr not_so ↦ rw (kind, not_so) refl
]
long-set f g since k (suc i) r d (x ∷ xs) within kind =
    let rest = long-set f g since (k + 1) i r d xs (omega (arith, within)) kind in
    elim (either_way (member f g since (k, x))) [
      | inl is ↦ rw is (omega (arith, rest))
      | inr not_so ↦ rw not_so rest
    ]

module _ (rows : List Row) (n : ℕ) (r : Row) (from : 1 ≤ n) (to : n ≤ length rows) (kind : r.kind ≡ (row rows n).kind) (job : r.job ≡ (row rows n).job) (marks : r.marks ≡ (row rows n).marks) where
  abbrev pub rows' : List Row
  rows' = with_at_number rows n r

  set_is : rows' ≡ slice_set rows (n - 1) r
  set_is = with_at_number-from rows n r from

  pub row_new : row rows' n ≡ r
  row_new = row-with_same rows n r from to

  pub row_old : (m : ℕ) → m ≢ n → row rows' m ≡ row rows m
  row_old m other = row-with_other rows n m r from other

  -- any part of it that is the same
  pub part : {A : Type 0} (f : Row → A) → f r ≡ f (row rows n) → (m : ℕ) → f (row rows' m) ≡ f (row rows m)
  part f same m = elim (cases_eq m n) [
    | inl e ↦ rw e (ap f row_new ∙ same)
    | inr other ↦ ap f (row_old m other)
  ]

  pub contexts_same : SameContexts rows rows'
  contexts_same = record { sources = SameSources-set rows n r from to kind job; marks = part (λ (q : Row). q.marks) marks }

  pub kinds_same : (m : ℕ) → (row rows' m).kind ≡ (row rows m).kind
  kinds_same = part (λ (q : Row). q.kind) kind

  pub jobs_same : (m : ℕ) → (row rows' m).job ≡ (row rows m).job
  jobs_same = part (λ (q : Row). q.job) job

  pub mark_same : (f g : ℕ) → mark rows' f g ≡ mark rows f g
  mark_same f g = ap (λ ms. slice_index_or {A = Mark} ms g (record { rows = 0; cancelled = false })) (part (λ (q : Row). q.marks) marks f)

  within : n - 1 < length rows
  within = omega (arith, from, to)

  before : get_or rows (n - 1) r ≡ row rows n
  before = let place : n - 1 + 1 ≡ n = omega (arith, from) in row-get_or rows (n - 1) r within ∙ ap (row rows) place

  kind_before : r.kind ≡ (get_or rows (n - 1) r).kind
  kind_before = kind ∙ ap (λ (q : Row). q.kind) (sym before)

  -- Regions are the same.
  find_same : (ns : List ℕ) → find (λ m. is_region (row rows' m).kind) ns ≡ find (λ m. is_region (row rows m).kind) ns
  find_same [] = refl
  find_same (m ∷ ns) = rw (kinds_same m) (elim (either_way (is_region (row rows m).kind)) [
    | inl is ↦ rw is refl
    | inr not_so ↦ rw not_so (find_same ns)
  ])

  pub tag_same : (places : Places) (m : ℕ) → tag_of rows' places m ≡ tag_of rows places m
  tag_same places m = ap (option_map (id_of places)) (rw (chain-same rows rows' contexts_same m) (find_same (chain rows m)))

  around_by_kind : (places : Places) (k : Kind) → around_of rows' places k ≡ around_of rows places k
  around_by_kind places Root = refl
  around_by_kind places Posted = refl
  around_by_kind places (Spawned m g) = refl
  around_by_kind places (Region m) = tag_same places m

  pub around_same : (places : Places) (m : ℕ) → around_of rows' places (row rows' m).kind ≡ around_of rows places (row rows m).kind
  around_same places m = rw (kinds_same m) (around_by_kind places (row rows m).kind)

  pub used_same : (f g : ℕ) → is_used rows' f g ≡ is_used rows f g
  used_same f g = rw (mark_same f g, set_is) (ap (λ k. nat_lt 0 k) (long-set f g (mark rows f g).rows 1 (n - 1) r r rows within kind_before))

  -- A group that it is no member of has the same counters.
  pub IsGroup-other : (f g : ℕ) (it : Group) → is_spawned_by f g (row rows n).kind ≡ false → IsGroup rows f g it → IsGroup rows' f g it
  IsGroup-other f g it apart is =
      let same : members rows' f g ≡ members rows f g =
      rw (mark_same f g, set_is) (members-other f g (mark rows f g).rows 1 (n - 1) r r rows within kind_before (ap (is_spawned_by f g) kind ∙ apart)) in
      record {
        pending = is.pending ∙ ap (count_by (λ (p : NumberedRow). is_open p.1.phase)) (sym same);
        total = is.total ∙ ap (fold (λ sum (p : NumberedRow). int_wrapping_add w64 sum (value_in p.1.phase)) (pos 0)) (sym same);
        used = is.used ∙ ap (λ ps. nat_lt 0 (length {A = NumberedRow} ps)) (sym same);
      }

  module _ (opened : is_open (row rows n).phase ≡ true) (closed : is_open r.phase ≡ false) where
    -- what is open now was, and is another row
    pub still : (m : ℕ) → is_open (row rows' m).phase ≡ true → (m ≢ n) × (is_open (row rows m).phase ≡ true)
    still m opened_m = elim (cases_eq m n) [
      | inl e ↦ let no : is_open r.phase ≡ true = ap (λ (q : Row). is_open q.phase) (sym row_new) ∙ ap (λ k. is_open (row rows' k).phase) (sym e) ∙ opened_m in absurd (grind (arith, no, closed))
      | inr other ↦ (other, ap (λ (q : Row). is_open q.phase) (sym (row_old m other)) ∙ opened_m)
    ]

    pub open_fewer : open_rows rows' + 1 ≡ open_rows rows
    open_fewer =
        let was : one_if (is_open (row rows n).phase) ≡ 1 = rw opened refl in
        let now : one_if (is_open r.phase) ≡ 0 = rw closed refl in
        omega (arith, count-with (λ (q : Row). is_open q.phase) rows n r from to, was, now)

    pub open_of_fewer : open_of rows' (row rows n).job + 1 ≡ open_of rows (row rows n).job
    open_of_fewer =
        let j = (row rows n).job in
        let own : (j == j) ≡ true = grind arith in
        let was : one_if (((row rows n).job == j) && is_open (row rows n).phase) ≡ 1 = rw (own, opened) refl in
        let now : one_if ((r.job == j) && is_open r.phase) ≡ 0 = rw (job, own, closed) refl in
        omega (arith, count-with (λ (q : Row). (q.job == j) && is_open q.phase) rows n r from to, was, now)

    pub open_of_other : (j : ℕ) → (row rows n).job ≢ j → open_of rows' j ≡ open_of rows j
    open_of_other j other =
        let apart : ((row rows n).job == j) ≡ false = grind (arith, other) in
        let was : one_if (((row rows n).job == j) && is_open (row rows n).phase) ≡ 0 = rw apart refl in
        let now : one_if ((r.job == j) && is_open r.phase) ≡ 0 = rw (job, apart) refl in
        omega (arith, count-with (λ (q : Row). (q.job == j) && is_open q.phase) rows n r from to, was, now)

    -- The group that it is a member of has one pending member less, and its value.
    pub IsGroup-left : (f g : ℕ) (it : Group) → (row rows n).kind ≡ Spawned f g → (mark rows f g).rows < n → IsGroup rows f g it →
        IsGroup rows' f g (record it { pending = it.pending - 1; total = int_wrapping_add w64 it.total (value_in r.phase) })
    IsGroup-left f g it made since is =
        let own_f : (f == f) ≡ true = grind arith in
        let own_g : (g == g) ≡ true = grind arith in
        let later : nat_lt (mark rows f g).rows n ≡ true = grind (arith, since) in
        let joined : member f g (mark rows f g).rows (n, get_or rows (n - 1) r) ≡ true = rw (before, made, own_f, own_g, later) refl in
        let opened_before : is_open (get_or rows (n - 1) r).phase ≡ true = rw before opened in
        let none : value_in (get_or rows (n - 1) r).phase ≡ pos 0 = open_valueless (get_or rows (n - 1) r).phase opened_before in
        let fewer = pending-done f g (mark rows f g).rows n 1 (n - 1) r r rows (omega (arith, from)) within kind_before opened_before closed joined in
        let more = total-done f g (mark rows f g).rows n 1 (n - 1) (pos 0) r r rows (omega (arith, from)) within kind_before none joined in
        record {
          pending = rw (mark_same f g, set_is) (omega (arith, fewer, is.pending));
          total = ap (λ t. int_wrapping_add w64 t (value_in r.phase)) is.total ∙ rw (mark_same f g, set_is) (sym more);
          used = is.used ∙ sym (used_same f g);
        }
