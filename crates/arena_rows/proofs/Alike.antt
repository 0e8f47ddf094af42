-- Rows that differ in frames, and in phases that are open alike.
use Rattle.std.proofs.Common.{◌≡◌, ℕ, zero, suc, ◌+◌, ◌≤◌, ℤ, pos, List, [], ◌∷◌, ◌++◌, length, Bool, false, ◌&&◌, nat_lt, refl, sym, ap, ◌∙◌, arith, inl, inr}
use Rattle.std.specs.Prelude.{filter, fold, find, count_by, slice_index_or}
use Rattle.std.specs.List.{enumerate_from}
use Rattle.std.specs.Int.{int_wrapping_add, w64}
use Rattle.std.proofs.lemmas.Bool.{cases_eq}
use Rattle.std.proofs.lemmas.List.Sums.{sum_by-append}
use Rattle.task_group.specs.Groups.{Group}
use Rattle.tenant_model.specs.declared.rows.Kind.{Kind}
use Rattle.tenant_model.specs.declared.rows.Kind.TheVariants.{Root, Posted, Spawned, Region}
use Rattle.tenant_model.specs.declared.rows.Mark.{Mark}
use Rattle.tenant_model.specs.declared.rows.Row.{Row}
use Rattle.tenant_model.specs.State.{row, with_at_number}
use Rattle.tenant_model.specs.Walks.{NumberedRow, is_open, is_region, value_in, is_spawned_by, mark, is_used, region_of, chain}
use Rattle.tenant_model.specs.Changes.{open_rows}
use Rattle.tenant_model.proofs.Within.{either_way}
use Rattle.tenant_model.proofs.Stacking.{one_if, count-cons}
use Rattle.tenant_model.proofs.Contexts.{SameContexts, chain-same}
use Rattle.tenant_model.proofs.Changed.{row-with_same, row-with_other}
use Rattle.tenant_model.proofs.Linked.{SameSources-set}
use Rattle.task_group.specs.Groups.{group}
use Rattle.arena_rows.specs.declared.rows.OpenRow.{OpenRow}
use Rattle.arena_rows.specs.Represents.{Places, tag_of, around_of, stage_of, IsGroup, IsRow, open_of}

pub record Alike (a b : List Row) : Type 0 where
  pub contexts : SameContexts a b
  pub made_on : (n : ℕ) → (row b n).made_on ≡ (row a n).made_on
  pub opens : (n : ℕ) → is_open (row b n).phase ≡ is_open (row a n).phase
  pub values : (n : ℕ) → value_in (row b n).phase ≡ value_in (row a n).phase

-- a row that counts as another one
pub record IsLike (x y : Row) : Type 0 where
  pub kind : y.kind ≡ x.kind
  pub job : y.job ≡ x.job
  pub opens : is_open y.phase ≡ is_open x.phase
  pub value : value_in y.phase ≡ value_in x.phase

abbrev pub AreLike : List Row → List Row → Type 0
AreLike [] [] = Unit {0}
AreLike [] (y ∷ ys) = ⊥
AreLike (x ∷ xs) [] = ⊥
AreLike (x ∷ xs) (y ∷ ys) = IsLike x y × AreLike xs ys

-- a row behind the first
row-later : (x : Row) (xs : List Row) (n : ℕ) → 1 ≤ n → row (x ∷ xs) (suc n) ≡ row xs n
row-later x xs zero from = absurd (omega arith)
row-later x xs (suc n) from = refl

pub are_like : (a b : List Row) → length b ≡ length a → ((n : ℕ) → 1 ≤ n → IsLike (row a n) (row b n)) → AreLike a b
are_like [] [] long each = tt
are_like [] (y ∷ ys) long each = absurd (omega arith)
are_like (x ∷ xs) [] long each = absurd (omega arith)
are_like (x ∷ xs) (y ∷ ys) long each =
    (each 1 (omega arith), are_like xs ys (omega arith) (λ n from. rw (← row-later x xs n from, ← row-later y ys n from) (each (suc n) (omega arith))))

pub count-like : (p q : Row → Bool) (a b : List Row) → ((x y : Row) → IsLike x y → q y ≡ p x) → AreLike a b → count_by q b ≡ count_by p a
count-like p q [] [] same like = refl
count-like p q [] (y ∷ ys) same like = absurd like
count-like p q (x ∷ xs) [] same like = absurd like
count-like p q (x ∷ xs) (y ∷ ys) same like =
    count-cons q y ys ∙ rw (same x y like.0, count-like p q xs ys same like.1) (sym (count-cons p x xs))

pub count_cons : {A : Type 0} (p : A → Bool) (x : A) (xs : List A) → count_by p (x ∷ xs) ≡ one_if (p x) + count_by p xs
count_cons p x xs = sum_by-append (λ r. one_if (p r)) (x ∷ []) xs ∙ omega arith

pub count_append : {A : Type 0} (p : A → Bool) (xs ys : List A) → count_by p (xs ++ ys) ≡ count_by p xs + count_by p ys
count_append p xs ys = sum_by-append (λ r. one_if (p r)) xs ys

-- what is counted of the members of a group
abbrev pub member : (f g since : ℕ) → NumberedRow → Bool
member f g since p = is_spawned_by f g p.1.kind && nat_lt since p.0

pub members-like : (f g since k : ℕ) (a b : List Row) → AreLike a b →
    (count_by (λ (p : NumberedRow). is_open p.1.phase) (filter (member f g since) (enumerate_from k b)) ≡
    count_by (λ (p : NumberedRow). is_open p.1.phase) (filter (member f g since) (enumerate_from k a))) ×
    (length (filter (member f g since) (enumerate_from k b)) ≡ length (filter (member f g since) (enumerate_from k a)))
members-like f g since k [] [] like = (refl, refl)
members-like f g since k [] (y ∷ ys) like = absurd like
members-like f g since k (x ∷ xs) [] like = absurd like
members-like f g since k (x ∷ xs) (y ∷ ys) like =
    let rest = members-like f g since (k + 1) xs ys like.1 in
    elim (either_way (member f g since (k, x))) [
      | inl is ↦ rw (like.0.kind, is) (
        count_cons _ (k, y) (filter (member f g since) (enumerate_from (k + 1) ys)) ∙
            rw (like.0.opens, rest.0) (sym (count_cons (λ (p : NumberedRow). is_open p.1.phase) (k, x) (filter (member f g since) (enumerate_from (k + 1) xs)))),
        omega (arith, rest.1),
      )
      | inr not_so ↦ rw (like.0.kind, not_so) rest
    ]

pub total-like : (f g since k : ℕ) (sum sum' : ℤ) (a b : List Row) → sum' ≡ sum → AreLike a b →
    fold (λ sum (p : NumberedRow). int_wrapping_add w64 sum (value_in p.1.phase)) sum' (filter (member f g since) (enumerate_from k b)) ≡
    fold (λ sum (p : NumberedRow). int_wrapping_add w64 sum (value_in p.1.phase)) sum (filter (member f g since) (enumerate_from k a))
total-like f g since k sum sum' [] [] same like = same
total-like f g since k sum sum' [] (y ∷ ys) same like = absurd like
total-like f g since k sum sum' (x ∷ xs) [] same like = absurd like
total-like f g since k sum sum' (x ∷ xs) (y ∷ ys) same like =
    let next : int_wrapping_add w64 sum' (value_in y.phase) ≡ int_wrapping_add w64 sum (value_in x.phase) =
    ap (λ v. int_wrapping_add w64 v (value_in y.phase)) same ∙ ap (int_wrapping_add w64 sum) like.0.value in
    elim (either_way (member f g since (k, x))) [
      | inl is ↦ rw (like.0.kind, is) (total-like f g since (k + 1) (int_wrapping_add w64 sum (value_in x.phase)) (int_wrapping_add w64 sum' (value_in y.phase)) xs ys next like.1)
      | inr not_so ↦ rw (like.0.kind, not_so) (total-like f g since (k + 1) sum sum' xs ys same like.1)
    ]

module _ (a b : List Row) (alike : Alike a b) where
  like : AreLike a b
  like = are_like a b alike.contexts.sources.long (λ n from. record { kind = alike.contexts.sources.kinds n; job = alike.contexts.sources.jobs n; opens = alike.opens n; value = alike.values n })

  pub mark-same : (n g : ℕ) → mark b n g ≡ mark a n g
  mark-same n g = ap (λ ms. slice_index_or {A = Mark} ms g (record { rows = 0; cancelled = false })) (alike.contexts.marks n)

  -- Groups have the same counters.
  pub IsGroup-alike : (n g : ℕ) (it : Group) → IsGroup a n g it → IsGroup b n g it
  IsGroup-alike n g it is =
      let both = members-like n g (mark a n g).rows 1 a b like in
      record {
        pending = is.pending ∙ rw (mark-same n g) (sym both.0);
        total = is.total ∙ rw (mark-same n g) (sym (total-like n g (mark a n g).rows 1 (pos 0) (pos 0) a b refl like));
        used = is.used ∙ rw (mark-same n g) (ap (λ k. nat_lt 0 k) (sym both.1));
      }

  pub used-same : (n g : ℕ) → is_used b n g ≡ is_used a n g
  used-same n g = rw (mark-same n g) (ap (λ k. nat_lt 0 k) (members-like n g (mark a n g).rows 1 a b like).1)

  pub open_rows-alike : open_rows b ≡ open_rows a
  open_rows-alike = count-like _ _ a b (λ x y is. is.opens) like

  pub open_of-alike : (j : ℕ) → open_of b j ≡ open_of a j
  open_of-alike j = count-like _ _ a b (λ x y is. rw (is.job, is.opens) refl) like

  -- Regions are the same.
  find-same : (ns : List ℕ) → find (λ m. is_region (row b m).kind) ns ≡ find (λ m. is_region (row a m).kind) ns
  find-same [] = refl
  find-same (n ∷ ns) = rw (alike.contexts.sources.kinds n) (elim (either_way (is_region (row a n).kind)) [
    | inl is ↦ rw is refl
    | inr not_so ↦ rw not_so (find-same ns)
  ])

  pub region_of-alike : (n : ℕ) → region_of b n ≡ region_of a n
  region_of-alike n = rw (chain-same a b alike.contexts n) (find-same (chain a n))

  pub tag_of-alike : (places : Places) (n : ℕ) → tag_of b places n ≡ tag_of a places n
  tag_of-alike places n = rw (region_of-alike n) refl

  around-same : (places : Places) (k : Kind) → around_of b places k ≡ around_of a places k
  around-same places Root = refl
  around-same places Posted = refl
  around-same places (Spawned m g) = refl
  around-same places (Region m) = tag_of-alike places m

  pub around_of-alike : (places : Places) (n : ℕ) → around_of b places (row b n).kind ≡ around_of a places (row a n).kind
  around_of-alike places n = rw (alike.contexts.sources.kinds n) (around-same places (row a n).kind)

  -- An entry of a row that has the same stage is the same.
  pub IsRow-alike : (places : Places) (n : ℕ) (e : OpenRow) → stage_of (row b n).frame (row b n).phase ≡ stage_of (row a n).frame (row a n).phase → IsRow a places n e → IsRow b places n e
  IsRow-alike places n e stage is = record {
    number = is.number;
    source = is.source ∙ rw (alike.contexts.sources.kinds n) refl;
    job = is.job ∙ sym (alike.contexts.sources.jobs n);
    made_on = is.made_on ∙ sym (alike.made_on n);
    stage = is.stage ∙ sym stage;
    groups = λ g few. IsGroup-alike n g (group e.groups g) (is.groups g few);
    all_groups = is.all_groups;
    all_contexts = is.all_contexts;
  }

-- a row changed in its frame, or in a phase that is open alike
module _ (rows : List Row) (n : ℕ) (r : Row) (from : 1 ≤ n) (to : n ≤ length rows) where
  -- any part of a row that is the same
  part-set : {A : Type 0} (f : Row → A) → f r ≡ f (row rows n) → (m : ℕ) → f (row (with_at_number rows n r) m) ≡ f (row rows m)
  part-set f same m = elim (cases_eq m n) [
    | inl e ↦ rw e (ap f (row-with_same rows n r from to) ∙ same)
    | inr other ↦ ap f (row-with_other rows n m r from other)
  ]

  pub Alike-set : r.kind ≡ (row rows n).kind → r.job ≡ (row rows n).job → r.made_on ≡ (row rows n).made_on → r.marks ≡ (row rows n).marks → is_open r.phase ≡ is_open (row rows n).phase →
      value_in r.phase ≡ value_in (row rows n).phase → Alike rows (with_at_number rows n r)
  Alike-set kind job made_on marks opens values = record {
    contexts = record { sources = SameSources-set rows n r from to kind job; marks = part-set (λ (q : Row). q.marks) marks };
    made_on = part-set (λ (q : Row). q.made_on) made_on;
    opens = part-set (λ (q : Row). is_open q.phase) opens;
    values = part-set (λ (q : Row). value_in q.phase) values;
  }
