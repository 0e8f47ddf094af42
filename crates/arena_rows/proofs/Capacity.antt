-- There is room for one more context.
use Rattle.std.proofs.Common.{◌≡◌, ◌&&◌, nat_lt, ℕ, zero, suc, ◌*◌, ◌<◌, ◌≤◌, List, [], ◌∷◌, length, Option, Some, None, Bool, true, false, refl, sym, ap, ◌∙◌, arith, get_or}
use Rattle.std.specs.Prelude.{sum_by, count_by, is_some, slice_index_or}
use Rattle.std.proofs.lemmas.List.Sums.{sum_by-cons, count_by-le-length, length-filter}
use Rattle.std.proofs.lemmas.List.FromFn.{length-enumerate_from}
use Rattle.job_language.specs.declared.instructions.TheConstants.{GROUPS}
use Rattle.cancel_context.specs.Forest.{held_count}
use Rattle.tenant_model.specs.State.{State}
use Rattle.tenant_model.specs.Walks.{NumberedRow, numbered_rows, members, mark, is_open, is_spawned_by}
use Rattle.task_group.specs.Groups.{group}
use Rattle.arena_rows.specs.declared.rows.OpenRow.{OpenRow}
use Rattle.arena_rows.specs.Held.{Held, HasFreePlace}
use Rattle.arena_rows.specs.Represents.{at_place, one_if, is_spawned, held_by, IsRow, Holds}
use Rattle.arena_rows.proofs.FreePlaces.{free_there}
use Rattle.arena_rows.proofs.Started.{some_is}
use Rattle.arena_rows.proofs.Alike.{count_cons}

sum_most : {X : Type 0} (f : X → ℕ) (xs : List X) (d : X) → ((i : ℕ) → i < length xs → f (get_or xs i d) ≤ 5) → sum_by f xs ≤ 5 * length xs
sum_most f [] d each = omega arith
sum_most f (x ∷ xs) d each =
    let rest = sum_most f xs d (λ i below. each (suc i) (omega (arith, below))) in
    let first : f x ≤ 5 = each 0 (omega arith) in
    omega (arith, sum_by-cons f x xs, rest, first)

-- where one is less
sum_less : {X : Type 0} (f : X → ℕ) (xs : List X) (d : X) (p : ℕ) → ((i : ℕ) → i < length xs → f (get_or xs i d) ≤ 5) → p < length xs → f (get_or xs p d) < 5 → sum_by f xs < 5 * length xs
sum_less f [] d p each within less = absurd (omega (arith, within))
sum_less f (x ∷ xs) d zero each within less =
    let rest = sum_most f xs d (λ i below. each (suc i) (omega (arith, below))) in
    let first : f x < 5 = less in
    omega (arith, sum_by-cons f x xs, rest, first)
sum_less f (x ∷ xs) d (suc p) each within less =
    let rest = sum_less f xs d p (λ i below. each (suc i) (omega (arith, below))) (omega (arith, within)) less in
    let first : f x ≤ 5 = each 0 (omega arith) in
    omega (arith, sum_by-cons f x xs, rest, first)

one_at_most : (b : Bool) → one_if b ≤ 1
one_at_most true = omega arith
one_at_most false = omega arith

module _ (a : Held) (s : State) (is : Holds a s) where
  held_at_most : (p : ℕ) (o : Option OpenRow) → at_place a.table p ≡ o → held_by o ≤ 5
  held_at_most p None here = omega arith
  held_at_most p (Some e) here =
      let opened = (is.table.only p e here).0 in
      let stands = is.table.each e.number opened in
      let place = (is.table.only p e here).1 in
      let one : stands.entry ≡ e = some_is stands.entry e (sym stands.there ∙ ap (at_place a.table) place ∙ here) in
      let long : length e.group_contexts ≡ GROUPS = ap (λ (x : OpenRow). length x.group_contexts) (sym one) ∙ stands.is.all_contexts in
      let few = count_by-le-length (λ (c : Option ℕ). is_some c) e.group_contexts in
      omega (arith, one_at_most (is_spawned e.source), few, long)

  pub context_room : (p : ℕ) → p < length a.table → held_by (at_place a.table p) < 5 → held_count a.contexts < length a.contexts
  context_room p within less =
      let most = sum_less held_by a.table None p (λ i below. held_at_most i (at_place a.table i) refl) within less in
      omega (arith, most, is.contexts.count, is.room, is.free.long, is.jobs.few)

-- an entry with a group that has no context
none_fewer : (cs : List (Option ℕ)) (g : ℕ) → g < length cs → slice_index_or cs g None ≡ None → count_by (λ (c : Option ℕ). is_some c) cs < length cs
none_fewer [] g within none = absurd (omega (arith, within))
none_fewer (x ∷ cs) zero within none =
    let nothing : one_if (is_some x) ≡ 0 = rw none refl in
    omega (arith, count_cons (λ (c : Option ℕ). is_some c) x cs, count_by-le-length (λ (c : Option ℕ). is_some c) cs, nothing)
none_fewer (x ∷ cs) (suc g) within none =
    omega (arith, count_cons (λ (c : Option ℕ). is_some c) x cs, none_fewer cs g (omega (arith, within)) none, one_at_most (is_some x))

pub group_room : (a : Held) (s : State) (is : Holds a s) (p g : ℕ) (e : OpenRow) → p < length a.table → at_place a.table p ≡ Some e → length e.group_contexts ≡ GROUPS → g < GROUPS →
    slice_index_or e.group_contexts g None ≡ None → held_count a.contexts < length a.contexts
group_room a s is p g e within there long few none =
    let fewer = none_fewer e.group_contexts g (omega (arith, few, long)) none in
    let less : held_by (at_place a.table p) < 5 = rw there (omega (arith, fewer, long, one_at_most (is_spawned e.source))) in
    context_room a s is p within less

-- while a place is free
pub row_room : (a : Held) (s : State) (is : Holds a s) → HasFreePlace a → held_count a.contexts < length a.contexts
row_room a s is some =
    let found = free_there a.table some in
    let vacant = found.1.vacant in
    let less : held_by (at_place a.table found.0) < 5 = rw vacant (omega arith) in
    context_room a s is found.0 found.1.within less

-- The members of a group that are open are at most the rows.
pub pending_most : (a : Held) (s : State) (is : Holds a s) (n g : ℕ) (e : OpenRow) → IsRow s.rows is.places n e → g < GROUPS → (group e.groups g).pending ≤ a.made
pending_most a s is n g e its few =
    let open_members = count_by-le-length (λ (p : NumberedRow). is_open p.1.phase) (members s.rows n g) in
    let all_members = length-filter (λ (p : NumberedRow). is_spawned_by n g p.1.kind && nat_lt (mark s.rows n g).rows p.0) (numbered_rows s.rows) in
    let all_rows = count_by-le-length (λ (p : NumberedRow). is_spawned_by n g p.1.kind && nat_lt (mark s.rows n g).rows p.0) (numbered_rows s.rows) in
    omega (arith, (its.groups g few).pending, open_members, all_members, all_rows, length-enumerate_from 1 s.rows, is.made)
