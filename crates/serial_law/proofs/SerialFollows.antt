-- What is kept of a serial job by every step of its tenant.
use Rattle.std.proofs.Common.{◌≡◌, ◌≢◌, ℕ, zero, suc, ◌+◌, ◌<◌, ◌≤◌, List, [], ◌∷◌, ◌++◌, length, Option, Some, None, Bool, true, false, refl, sym, ap, ◌∙◌, arith, inl, inr, ℤ}
use Rattle.std.specs.Prelude.{slice_index_or, IfSome}
use Rattle.std.specs.List.{list_any}
use Rattle.std.proofs.lemmas.Bool.{cases_eq, cases_lt}
use Rattle.std.proofs.lemmas.List.{length_push}
use Rattle.std.proofs.lemmas.Option.{IfSome_then}
use Rattle.job_language.specs.declared.instructions.Instr.{Instr}
use Rattle.tenant_model.specs.declared.rows.Kind.{Kind}
use Rattle.tenant_model.specs.declared.rows.Kind.TheVariants.{Root, Posted, Spawned, Region}
use Rattle.tenant_model.specs.declared.rows.Mark.{Mark}
use Rattle.tenant_model.specs.declared.rows.Row.{Row}
use Rattle.tenant_model.specs.declared.works.Work.{Work}
use Rattle.tenant_model.specs.Serial.{root_task}
use Rattle.tenant_model.specs.State.{State, row, job, with_at_number}
use Rattle.tenant_model.specs.Walks.{maker_of, with_makers, chain_for, is_open, is_unstarted, mark, value_in, is_job_cancelled, is_group_cancelled, is_context_cancelled, settled_row, settle}
use Rattle.tenant_model.specs.Changes.{entry}
use Rattle.tenant_model.specs.Linked.{MakersPrecede, IsLinked}
use Rattle.tenant_model.specs.Sound.{ShareJobs}
use Rattle.tenant_model.proofs.Changed.{row-with_same, row-with_other, row-push_old, row-push_new, length-with}
use Rattle.tenant_model.proofs.Linked.{SameSources, IsLinked-same}
use Rattle.tenant_model.proofs.Parts.{row-settle, SameSources-settle}
use Rattle.tenant_model.proofs.Tending.{made_there}
use Rattle.serial_law.proofs.SerialNow.{Leads}
use Rattle.serial_law.proofs.SerialMoves.{SameJob, Leads-same}

-- what a row made is of its job, by what made each row
abbrev pub OneJob : List Row → Type 0
OneJob rows = (n : ℕ) → 1 ≤ n → n ≤ length rows → IfSome (maker_of (row rows n).kind) (λ m. (row rows m).job ≡ (row rows n).job)

pub one_of : (rows : List Row) → ShareJobs rows → OneJob rows
one_of rows shared n from to = go (maker_of (row rows n).kind) (λ m made. sym (shared n m made))
  where
    go : (o : Option ℕ) → ((m : ℕ) → o ≡ Some m → (row rows m).job ≡ (row rows n).job) → IfSome o (λ m. (row rows m).job ≡ (row rows n).job)
    go None same = tt
    go (Some m) same = same m refl

pub shared_of : (s : State) → IsLinked s → OneJob s.rows → ShareJobs s.rows
shared_of s linked one n m made =
    let there = made_there s linked n m made in
    sym (rw made at (one n there.0 there.1))

-- a job as it came, with its number and that of its root
pub record Origin : Type 0 where
  pub number : ℕ
  pub root : ℕ
  pub program : List (List Instr)
  pub args : List ℤ
  pub fuel : ℕ

-- the rows of a job that is not cancelled, with so much fuel left, and a debt of fuel that was taken before it was spent
pub record IsFollowed (o : Origin) (rows : List Row) (left debt : ℕ) : Type 0 where
  pub from : 1 ≤ o.root
  pub to : o.root ≤ length rows
  pub own : (row rows o.root).job ≡ o.number
  pub marks : (n : ℕ) → 1 ≤ n → n ≤ length rows → (row rows n).job ≡ o.number → (g : ℕ) → (mark rows n g).cancelled ≡ false
  pub groups : (n : ℕ) → 1 ≤ n → n ≤ length rows → (row rows n).job ≡ o.number → length (row rows n).marks ≡ 4
  pub spent : ℕ
  pub fuel : spent + debt + left ≤ o.fuel
  pub leads : Leads o.program (root_task o.args) o.number o.root rows spent

-- what is kept of a job; of number 0, which no job has, nothing
pub record Follows (o : Origin) (rows : List Row) (jobs : List Work) (debt : ℕ) : Type 0 where
  pub to : o.number ≤ length jobs
  pub program : (job jobs o.number).program ≡ o.program
  pub root : (job jobs o.number).root ≡ o.root
  pub follows : 1 ≤ o.number → is_job_cancelled (job jobs o.number) ≡ false → IsFollowed o rows (job jobs o.number).fuel debt

pub record Good (o : Origin) (s : State) (debt : ℕ) : Type 0 where
  pub linked : IsLinked s
  pub one : OneJob s.rows
  pub follows : Follows o s.rows s.jobs debt

pub OneJob-same : (a b : List Row) → SameSources a b → MakersPrecede a → OneJob a → OneJob b
OneJob-same a b same precede one n from to =
    rw (same.kinds n) (IfSome_then (maker_of (row a n).kind) (one n from (omega (arith, to, same.long))) (λ m own. same.jobs m ∙ own ∙ sym (same.jobs n)))

pub OneJob-push : (a : List Row) (r : Row) → MakersPrecede a → OneJob a → IfSome (maker_of r.kind) (λ m. (m ≤ length a) × ((row a m).job ≡ r.job)) → OneJob (a ++ r ∷ [])
OneJob-push a r precede one maker n from to = elim (cases_lt (length a) n) [
  | inl after ↦
      let new : row (a ++ r ∷ []) n ≡ r = row-push_new a n r (omega (arith, after, to, length_push a r)) in
      rw new (IfSome_then (maker_of r.kind) maker (λ m its. ap (λ (q : Row). q.job) (row-push_old a m r its.0) ∙ its.1))
  | inr before ↦
      rw (row-push_old a n r before) (goes_on (maker_of (row a n).kind) (precede n from before) (one n from before) before)
]
  where
    goes_on : (o : Option ℕ) → IfSome o (λ m. (1 ≤ m) × (m < n)) → IfSome o (λ m. (row a m).job ≡ (row a n).job) → n ≤ length a → IfSome o (λ m. (row (a ++ r ∷ []) m).job ≡ (row a n).job)
    goes_on None p q le = tt
    goes_on (Some m) p q le = ap (λ (x : Row). x.job) (row-push_old a m r (omega (arith, p, le))) ∙ q

-- what a job still is, unless it is cancelled
pub record SameWork (w v : Work) : Type 0 where
  pub program : v.program ≡ w.program
  pub root : v.root ≡ w.root
  pub goes_on : is_job_cancelled v ≡ false → is_job_cancelled w ≡ false
  pub fuel : is_job_cancelled v ≡ false → v.fuel ≡ w.fuel

-- other changes keep it
pub IsFollowed-same : (o : Origin) (a b : List Row) (left debt : ℕ) → SameJob o.number a b → IsFollowed o a left debt → IsFollowed o b left debt
IsFollowed-same o a b left debt same is =
    let old : (n : ℕ) → 1 ≤ n → n ≤ length b → (row b n).job ≡ o.number → n ≤ length a = λ n from to own. elim (cases_lt (length a) n) [
      | inl after ↦ absurd (same.news n after to own)
      | inr before ↦ before
    ] in
    record {
      from = is.from;
      to = omega (arith, is.to, same.long);
      own = same.jobs o.root is.from is.to ∙ is.own;
      marks = λ n from to own g.
          let there = old n from to own in
          let before : (row a n).job ≡ o.number = sym (same.jobs n from there) ∙ own in
          ap (λ ms. (slice_index_or {A = Mark} ms g (record { rows = 0; cancelled = false })).cancelled) (same.marks n from there before) ∙ is.marks n from there before g;
      groups = λ n from to own.
          let there = old n from to own in
          let before : (row a n).job ≡ o.number = sym (same.jobs n from there) ∙ own in
          ap length (same.marks n from there before) ∙ is.groups n from there before;
      spent = is.spent;
      fuel = is.fuel;
      leads = Leads-same o.program (root_task o.args) o.number o.root a b is.spent is.from is.to is.own same is.leads;
    }

pub Follows-same : (o : Origin) (a b : List Row) (jobs works : List Work) (debt : ℕ) → length jobs ≤ length works → SameWork (job jobs o.number) (job works o.number) →
    (is_job_cancelled (job works o.number) ≡ false → IsFollowed o a (job jobs o.number).fuel debt → SameJob o.number a b) → Follows o a jobs debt → Follows o b works debt
Follows-same o a b jobs works debt long work same is = record {
  to = omega (arith, is.to, long);
  program = work.program ∙ is.program;
  root = work.root ∙ is.root;
  follows = λ some clear.
      let before = is.follows some (work.goes_on clear) in
      rw (work.fuel clear) (IsFollowed-same o a b (job jobs o.number).fuel debt (same clear before) before);
}

pub same_work : (w : Work) → SameWork w w
same_work w = record { program = refl; root = refl; goes_on = λ clear. clear; fuel = λ clear. refl }

with_clear : (p : ℕ → Bool) (n : ℕ) (o : Option ℕ) (f : ℕ → List ℕ) → p n ≡ false → IfSome o (λ m. list_any p (f m) ≡ false) → list_any p (with_makers n o f) ≡ false
with_clear p n None f here rest = rw here refl
with_clear p n (Some m) f here rest = rw here rest

module _ (j : ℕ) (rows : List Row) (precede : MakersPrecede rows) (one : OneJob rows)
    (marks : (n : ℕ) → 1 ≤ n → n ≤ length rows → (row rows n).job ≡ j → (g : ℕ) → (mark rows n g).cancelled ≡ false) where
  group_clear : (n : ℕ) (k : Kind) → (row rows n).kind ≡ k → 1 ≤ n → n ≤ length rows → (row rows n).job ≡ j → is_group_cancelled rows k ≡ false
  group_clear n Root is from to own = refl
  group_clear n Posted is from to own = refl
  group_clear n (Spawned m g) is from to own =
      let before : (1 ≤ m) × (m < n) = rw is at (precede n from to) in
      let same : (row rows m).job ≡ (row rows n).job = rw is at (one n from to) in
      marks m before.0 (omega (arith, before, to)) (same ∙ own) g
  group_clear n (Region m) is from to own = refl

  makers_clear : (k n : ℕ) → n ≤ length rows → (row rows n).job ≡ j →
      ((m : ℕ) → 1 ≤ m → m ≤ length rows → (row rows m).job ≡ j → list_any (λ i. is_group_cancelled rows (row rows i).kind) (chain_for k rows m) ≡ false) →
      (o : Option ℕ) → IfSome o (λ m. (1 ≤ m) × (m < n)) → IfSome o (λ m. (row rows m).job ≡ (row rows n).job) →
      IfSome o (λ m. list_any (λ i. is_group_cancelled rows (row rows i).kind) (chain_for k rows m) ≡ false)
  makers_clear k n to own each None before same = tt
  makers_clear k n to own each (Some m) before same = each m before.0 (omega (arith, before, to)) (same ∙ own)

  chain_clear : (k n : ℕ) → 1 ≤ n → n ≤ length rows → (row rows n).job ≡ j → list_any (λ m. is_group_cancelled rows (row rows m).kind) (chain_for k rows n) ≡ false
  chain_clear zero n from to own = refl
  chain_clear (suc k) n from to own =
      with_clear (λ m. is_group_cancelled rows (row rows m).kind) n (maker_of (row rows n).kind) (chain_for k rows) (group_clear n (row rows n).kind refl from to own)
      (makers_clear k n to own (chain_clear k) (maker_of (row rows n).kind) (precede n from to) (one n from to))

-- the context of a row of a followed job is not cancelled
pub context_clear : (o : Origin) (s : State) (left debt : ℕ) → MakersPrecede s.rows → OneJob s.rows → IsFollowed o s.rows left debt → is_job_cancelled (job s.jobs o.number) ≡ false →
    (n : ℕ) → 1 ≤ n → n ≤ length s.rows → (row s.rows n).job ≡ o.number → is_context_cancelled s n ≡ false
context_clear o s left debt precede one is clear n from to own =
    rw (own, clear) (chain_clear o.number s.rows precede one is.marks n n from to own)

settled_clear : (r : Row) → settled_row r false ≡ r
settled_clear r = go (is_unstarted r.phase) refl
  where
    go : (b : Bool) → is_unstarted r.phase ≡ b → settled_row r false ≡ r
    go true is = rw is refl
    go false is = rw is refl

-- settling leaves the rows of a job as they are
pub settle_good : (o : Origin) (s : State) (debt : ℕ) → Good o s debt → Good o (settle s) debt
settle_good o s debt is =
    let same = SameSources-settle s in
    record {
      linked = IsLinked-same s (settle s) same refl is.linked.epoch is.linked;
      one = OneJob-same s.rows (settle s).rows same is.linked.makers is.one;
      follows = Follows-same o s.rows (settle s).rows s.jobs s.jobs debt (omega arith) (same_work (job s.jobs o.number)) (λ clear before.
          let kept : (k : ℕ) → 1 ≤ k → k ≤ length s.rows → (row s.rows k).job ≡ o.number → row (settle s).rows k ≡ row s.rows k = λ k from to own.
          row-settle s k from to ∙ ap (settled_row (row s.rows k)) (context_clear o s (job s.jobs o.number).fuel debt is.linked.makers is.one before clear k from to own) ∙
          settled_clear (row s.rows k) in
          record {
            long = omega (arith, same.long);
            kinds = λ k from to. same.kinds k;
            jobs = λ k from to. same.jobs k;
            frames = λ k from to own. ap (λ (r : Row). r.frame) (kept k from to own);
            marks = λ k from to own. ap (λ (r : Row). r.marks) (kept k from to own);
            opens = λ k from to own. ap (λ (r : Row). is_open r.phase) (kept k from to own);
            values = λ k from to own. ap (λ (r : Row). value_in r.phase) (kept k from to own);
            news = λ k after to. absurd (omega (arith, after, to, same.long));
          }) is.follows;
    }

-- so does an entry
pub entry_good : (o : Origin) (s : State) (debt : ℕ) → Good o s debt → Good o (entry s) debt
entry_good o s debt is = settle_good o (record s { entries = s.entries + 1 }) debt (record {
  linked = record { makers = is.linked.makers; jobs = is.linked.jobs; epoch = omega (arith, is.linked.epoch) };
  one = is.one;
  follows = is.follows;
})

-- a row changed that is of another job, with the same maker
pub other_row : (j : ℕ) (rows : List Row) (n : ℕ) (r : Row) → 1 ≤ n → n ≤ length rows → r.kind ≡ (row rows n).kind → r.job ≡ (row rows n).job → (row rows n).job ≢ j →
    SameJob j rows (with_at_number rows n r)
other_row j rows n r from to kind job other =
    let long = length-with rows n r in
    let same : (k : ℕ) → (row rows k).job ≡ j → row (with_at_number rows n r) k ≡ row rows k = λ k own. elim (cases_eq k n) [
      | inl here ↦ let is : (row rows n).job ≡ j = rw here at own in absurd (other is)
      | inr apart ↦ row-with_other rows n k r from apart
    ] in
    record {
      long = omega (arith, long);
      kinds = λ k least most. elim (cases_eq k n) [
        | inl here ↦ rw here (ap (λ (q : Row). q.kind) (row-with_same rows n r from to) ∙ kind)
        | inr apart ↦ ap (λ (q : Row). q.kind) (row-with_other rows n k r from apart)
      ];
      jobs = λ k least most. elim (cases_eq k n) [
        | inl here ↦ rw here (ap (λ (q : Row). q.job) (row-with_same rows n r from to) ∙ job)
        | inr apart ↦ ap (λ (q : Row). q.job) (row-with_other rows n k r from apart)
      ];
      frames = λ k least most own. ap (λ (q : Row). q.frame) (same k own);
      marks = λ k least most own. ap (λ (q : Row). q.marks) (same k own);
      opens = λ k least most own. ap (λ (q : Row). is_open q.phase) (same k own);
      values = λ k least most own. ap (λ (q : Row). value_in q.phase) (same k own);
      news = λ k after le. absurd (omega (arith, after, le, long));
    }

-- a new row of another job
pub other_push : (j : ℕ) (rows : List Row) (r : Row) → r.job ≢ j → SameJob j rows (rows ++ r ∷ [])
other_push j rows r other =
    let long = length_push rows r in
    record {
      long = omega (arith, long);
      kinds = λ k from to. ap (λ (q : Row). q.kind) (row-push_old rows k r to);
      jobs = λ k from to. ap (λ (q : Row). q.job) (row-push_old rows k r to);
      frames = λ k from to own. ap (λ (q : Row). q.frame) (row-push_old rows k r to);
      marks = λ k from to own. ap (λ (q : Row). q.marks) (row-push_old rows k r to);
      opens = λ k from to own. ap (λ (q : Row). is_open q.phase) (row-push_old rows k r to);
      values = λ k from to own. ap (λ (q : Row). value_in q.phase) (row-push_old rows k r to);
      news = λ k after to own. other (ap (λ (q : Row). q.job) (sym (row-push_new rows k r (omega (arith, after, to, long)))) ∙ own);
    }
