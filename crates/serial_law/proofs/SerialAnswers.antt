-- A serial job that completes has its serial value.
use Rattle.std.proofs.Common.{◌≡◌, ℕ, zero, suc, ◌+◌, ◌-◌, ◌==◌, ◌≤◌, List, [], ◌∷◌, ◌++◌, length, Option, Some, None, Bool, true, false, ◌&&◌, ◌||◌, refl, sym, ap, ◌∙◌, arith, inl, inr, ℤ, pos}
use Rattle.std.specs.Prelude.{if◌then◌else◌, is_some}
use Rattle.std.specs.List.{list_any}
use Rattle.std.specs.Option.{option_map_or, option_map}
use Rattle.std.proofs.lemmas.Bool.{cases_eq}
use Rattle.job_language.specs.Brought.{job_of}
use Rattle.job_language.specs.Program.{IsValidProgram}
use Rattle.job_language.specs.Serial.{is_serial}
use Rattle.job_language.specs.declared.errors.JobFault.{JobFault}
use Rattle.job_language.specs.declared.answers.Status.{Status}
use Rattle.job_language.specs.declared.answers.Status.TheVariants.{Running, Cancelled, Complete, Fault}
use Rattle.job_language.specs.declared.jobs.Job.{Job}
use Rattle.job_language.specs.declared.requests.Request.{Request}
use Rattle.job_language.specs.declared.steps.Step.{Step}
use Rattle.job_language.specs.declared.steps.Step.TheVariants as steps
use Rattle.job_language.specs.declared.tenants.Tenant.{Tenant}
use Rattle.job_language.specs.declared.tenants.TheConstants.{MAX_SLOTS}
use Rattle.tenant_model.specs.declared.rows.Row.{Row}
use Rattle.tenant_model.specs.Serial.{Given, given_of, root_task, serial_value}
use Rattle.serial_law.specs.SerialValues.{number_made, KeepsSerialValues}
use Rattle.tenant_model.specs.Sound.{ShareJobs, IsSound}
use Rattle.tenant_model.proofs.Tended.{no_row_made}
use Rattle.tenant_model.specs.State.{State, row, job, empty}
use Rattle.tenant_model.specs.Walks.{is_open, value_in}
use Rattle.tenant_model.specs.Asks.{ask, has_outcome, outcome, status}
use Rattle.tenant_model.specs.Solo.{step, after}
use Rattle.tenant_model.specs.WellFormed.{IsWellFormed}
use Rattle.tenant_model.proofs.Within.{either_way}
use Rattle.tenant_model.proofs.KeptAdvances.{step_kept, empty_kept}
use Rattle.tenant_model.proofs.Running.{NamesGroups, names_groups}
use Rattle.serial_law.proofs.SerialNow.{fold_to-rest, Values, Counts, cost_of, cost_for, AreGiven}
use Rattle.serial_law.proofs.SerialFollows.{OneJob, one_of, Origin, Good}
use Rattle.tenant_model.proofs.Together.{row-cons}
use Rattle.serial_law.proofs.SerialAdvances.{advance_good, arrive_good}
use Rattle.serial_law.proofs.SerialAsks.{origin_of, ask_good, ask_bears}

-- any step
pub step_good : (o : Origin) → is_serial o.program ≡ true → NamesGroups o.program → (s : State) (x : Step) → IsWellFormed s → Good o s 0 → Good o (step s x).1 0
step_good o serial names s (steps.Ask r) well is = ask_good o s is r
step_good o serial names s (steps.Arrive slot) well is = arrive_good o serial names s slot well is
step_good o serial names s (steps.Advance slot) well is = advance_good o serial names s slot well is

-- any steps
pub after_good : (o : Origin) → is_serial o.program ≡ true → NamesGroups o.program → (s : State) (xs : List Step) → IsWellFormed s → Good o s 0 → Good o (after s xs) 0
after_good o serial names s [] well is = is
after_good o serial names s (x ∷ xs) well is = after_good o serial names (step s x).1 xs (step_kept s x well) (step_good o serial names s x well is)

-- what is kept of no job
abbrev nobody : Origin
nobody = record { number = 0; root = 0; program = []; args = []; fuel = 0 }

nobody_good : (s : State) → IsWellFormed s → OneJob s.rows → Good nobody s 0
nobody_good s well one = record {
  linked = well.linked;
  one = one;
  follows = record { to = omega arith; program = refl; root = refl; follows = λ some clear. absurd (omega (arith, some)) };
}

nobody_names : NamesGroups []
nobody_names f i at = absurd (grind (arith, ap is_some at))

-- In every step, what a row makes belongs to its job.
pub step_one : (s : State) (x : Step) → IsWellFormed s → OneJob s.rows → OneJob (step s x).1.rows
step_one s x well one = (step_good nobody refl nobody_names s x well (nobody_good s well one)).one

abbrev value_of : Status → ℤ
value_of (Complete v) = v
value_of how = pos 0

abbrev is_complete : Status → Bool
is_complete (Complete v) = true
is_complete how = false

complete_outcome : (fault : Option JobFault) (cancelled : Bool) (x v : ℤ) → option_map_or (λ f. Fault f) fault (if cancelled then Cancelled else Complete x) ≡ Complete v →
    ((cancelled || is_some fault) ≡ false) × (x ≡ v)
complete_outcome (Some f) cancelled x v is = absurd (grind (arith, ap is_complete is))
complete_outcome None true x v is = absurd (grind (arith, ap is_complete is))
complete_outcome None false x v is = (refl, ap value_of is)

none_open : (p : Row → Bool) (rows : List Row) (k : ℕ) → list_any p rows ≡ false → 1 ≤ k → k ≤ length rows → p (row rows k) ≡ false
none_open p [] k none from to = absurd (omega (arith, from, to))
none_open p (x ∷ xs) zero none from to = absurd (omega (arith, from))
none_open p (x ∷ xs) (suc k) none from to = elim (cases_eq k 0) [
  | inl first ↦ rw first (grind (arith, none))
  | inr later ↦ rw (row-cons x xs k (omega (arith, later))) (none_open p xs k (grind (arith, none)) (omega (arith, later)) (omega (arith, to)))
]

-- A job that is known and complete has its serial value.
pub complete_is : (o : Origin) (s : State) (v : ℤ) → 1 ≤ o.number → Good o s 0 → status s.rows o.number (job s.jobs o.number) ≡ Complete v → serial_value o.program o.args o.fuel ≡ Some v
complete_is o s v some is complete = elim (either_way (has_outcome s.rows o.number)) [
  | inr runs ↦
      let no : Running ≡ Complete v = rw runs at complete in
      absurd (grind (arith, ap is_complete no))
  | inl ended ↦
      let w = job s.jobs o.number in
      let answer : outcome s.rows w ≡ Complete v = rw ended at complete in
      let its = complete_outcome w.fault w.cancelled (value_in (row s.rows w.root).phase) v answer in
      let followed = is.follows.follows some its.0 in
      let none : list_any (λ (r : Row). (r.job == o.number) && is_open r.phase) s.rows ≡ false = grind (arith, ended) in
      let closed : (k : ℕ) → 1 ≤ k → k ≤ length s.rows → (row s.rows k).job ≡ o.number → is_open (row s.rows k).phase ≡ false = λ k from to own.
      let here = none_open (λ (r : Row). (r.job == o.number) && is_open r.phase) s.rows k none from to in
      let mine : ((row s.rows k).job == o.number) ≡ true = grind (arith, own) in
      grind (arith, here, mine) in
      let values : Values = λ k. pos 0 in
      let costs : Counts = λ k. 0 in
      let given : AreGiven o.program o.number s.rows values costs = record { each = λ k from to own opened. absurd (grind (arith, closed k from to own, opened)) } in
      let all = followed.leads.leads values costs given in
      let cost : cost_for o.number s.rows costs ≡ 0 = fold_to-rest (λ k x. x + cost_of o.number costs k (row s.rows k)) 0 0 (length s.rows) (omega arith) (λ k x from to.
      let nothing : cost_of o.number costs k (row s.rows k) ≡ 0 = no_cost (is_open (row s.rows k).phase && ((row s.rows k).job == o.number)) in
      omega (arith, nothing)) in
      let more = o.fuel - followed.spent in
      let enough : followed.spent + cost_for o.number s.rows costs + more ≡ o.fuel = omega (arith, cost, followed.fuel) in
      let root_closed = closed o.root followed.from followed.to followed.own in
      let worth : (if is_open (row s.rows o.root).phase then pos 0 else value_in (row s.rows o.root).phase) ≡ v =
      rw root_closed (ap (λ n. value_in (row s.rows n).phase) (sym is.follows.root) ∙ its.1) in
      ap (λ n. option_map (λ (p : ℤ × ℕ). p.0) (given_of o.program n (root_task o.args))) (sym enough) ∙
      ap (λ (g : Given). option_map (λ (p : ℤ × ℕ). p.0) g) (all.gives more) ∙ ap Some worth
]
  where
    no_cost : (b : Bool) → let none : ℕ = 0 in (if b then none else none) ≡ none
    no_cost true = refl
    no_cost false = refl

-- a job that an ask brought after the first steps
gives_from : (s : State) (ys zs : List Step) (r : Request) (b : Job) (j : ℕ) (v : ℤ) → IsWellFormed s → OneJob s.rows → job_of r ≡ Some b → IsValidProgram b.program →
    number_made (ask (after s ys) r).0 ≡ Some j →
    is_serial b.program ≡ true → let t = after s (ys ++ steps.Ask r ∷ zs) in status t.rows j (job t.jobs j) ≡ Complete v → serial_value b.program b.args b.fuel ≡ Some v
gives_from s [] zs r b j v well one brings valid made serial complete =
    let born = ask_bears s well.linked one b j r brings made in
    let t = (step s (steps.Ask r)).1 in
    let is = after_good (origin_of s b) serial (names_groups b.program valid) t zs (step_kept s (steps.Ask r) well) born.1 in
    let answer : status (after t zs).rows (length s.jobs + 1) (job (after t zs).jobs (length s.jobs + 1)) ≡ Complete v = rw born.0 at complete in
    complete_is (origin_of s b) (after t zs) v (omega arith) is answer
gives_from s (y ∷ ys) zs r b j v well one brings valid made serial complete =
    gives_from (step s y).1 ys zs r b j v (step_kept s y well) (step_one s y well one) brings valid made serial complete

-- A serial job gives its serial value, for every sequence of steps.
pub keeps_serial_values : (s : State) (xs : List Step) → IsWellFormed s → ShareJobs s.rows → KeepsSerialValues s xs
keeps_serial_values s xs well is = record { values = λ ys zs ws r b j v parts brings valid made serial complete. gives_from s ys zs r b j v well (one_of s.rows is) brings valid made serial complete }

pub sound_serial_values : (s : State) (xs : List Step) → IsSound s → KeepsSerialValues s xs
sound_serial_values s xs is = keeps_serial_values s xs is.well_formed is.tended.shared

-- from the beginning
pub serial_from_empty : (c : Tenant) (xs : List Step) → c.slots ≤ MAX_SLOTS → KeepsSerialValues (empty c) xs
serial_from_empty c xs slots = keeps_serial_values (empty c) xs (empty_kept c slots) (λ n m made. absurd (no_row_made n m made))
