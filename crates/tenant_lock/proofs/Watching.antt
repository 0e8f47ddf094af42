-- What lies under the lock stays watched.
use Rattle.std.proofs.Common.{◌≡◌, ℕ, ◌≤◌, ◌+◌, Bool, true, false, List, ◌++◌, length, Option, None, refl, ap, sym, ◌∙◌, arith, length-append}
use Rattle.std.specs.Prelude.{nat_le, ◌||◌}
use Rattle.std.proofs.lemmas.Bool.Decides.{nat_tests}
use Rattle.job_language.specs.declared.steps.Entry.{Entry}
use Rattle.tenant_record.specs.Cell.{CellData}
use Rattle.tenant_lock.specs.Awaited.{AreWaitersTold, are_open}
use Rattle.tenant_lock.specs.Pauses.{has_to_stop}
use Rattle.tenant_lock.specs.declared.awaited.AwaitedJobs.{AwaitedJobs}

-- Those who sleep for jobs then have to.
pub told_open : (c : CellData) (is_over is_entry : Bool) (before : Option AwaitedJobs) (told : Bool) (after : Option AwaitedJobs) → AreWaitersTold c is_over is_entry before told after →
    are_open c is_over after ≡ true
told_open c is_over is_entry before true after are = rw (are.all refl) refl
told_open c is_over is_entry before false after are = rw (are.kept refl) (are.sleep refl)

not_yet : (steps before after : ℕ) (more : ℕ) → after ≡ before + more → nat_le steps after ≡ false → nat_le steps before ≡ false
not_yet steps before after more is late = grind (arith, nat_tests, is, late)

-- Who need not stop after an entry did not have to before.
pub goes_before : (stopped : Bool) (c d : CellData) (more : List Entry) → d.history ≡ c.history ++ more → d.config ≡ c.config → has_to_stop stopped d ≡ false → has_to_stop stopped c ≡ false
goes_before true c d more is given goes = goes
goes_before false c d more is given goes =
    not_yet c.config.steps (length c.history) (length d.history) (length more) (ap length is ∙ length-append c.history more) (rw (sym (ap (λ t. t.steps) given)) goes)
