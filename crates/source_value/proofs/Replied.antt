-- What a new tenant replies of a job whose program is compiled from a text.
use Rattle.std.proofs.Common.{◌≡◌, ℕ, ℤ, List, [], ◌∷◌, ◌++◌, replicate, Option, Some, None, true, false, refl, sym, subst, ◌∙◌, arith, FitsSigned}
use Rattle.std.specs.Prelude.{nat_le}
use Rattle.std.specs.Int.{w64}
use Rattle.job_language.specs.Serial.{is_serial}
use Rattle.job_language.specs.Tenant.{IsValidTenant}
use Rattle.job_language.specs.declared.answers.Reply.{Reply}
use Rattle.job_language.specs.declared.jobs.Job.{Job}
use Rattle.job_language.specs.declared.requests.Request.TheVariants.{Execute, Poll}
use Rattle.job_language.specs.declared.steps.Step.{Step}
use Rattle.job_language.specs.declared.steps.Step.TheVariants.{Ask, Advance}
use Rattle.job_language.specs.declared.tenants.Tenant.{Tenant}
use Rattle.tenant_model.specs.State.{empty}
use Rattle.tenant_model.specs.Asks.{ask, free_slot, submit_placed}
use Rattle.tenant_model.specs.Solo.{after}
use Rattle.serial_law.specs.SerialValues.{number_made}
use Rattle.source_serial.proofs.Arguments.{arguments_fit}
use Rattle.source_tokens.specs.Givens.{Givens}
use Rattle.arena_compile.specs.Jobs.{IsProgramOf}
use Rattle.source_value.specs.TextValues.{HasValue, AreNumbers, KeepsTextValues}
use Rattle.source_value.specs.Replies.{IsReplyOf, GoesToItsEnd, steps_of}

placed : (c : Tenant) (j : Job) (o : Option ℕ) → number_made (submit_placed (empty c) j o).0 ≡ Some 1
placed c j None = refl
placed c j (Some slot) = refl

-- The first job of a new tenant is number 1.
first_number : (c : Tenant) (j : Job) → IsValidTenant c → number_made (ask (empty c) (Execute j)).0 ≡ Some 1
first_number c j valid =
    let steps : nat_le c.steps 0 ≡ false = grind (arith, valid.some_step) in
    let rows : nat_le c.rows 0 ≡ false = grind (arith, valid.some_row) in
    rw (steps, rows) (placed c j (free_slot (empty c)))

pub replied : (c : Tenant) → IsValidTenant c → ((xs : List Step) → KeepsTextValues (empty c) xs) → (gs : Givens) (text : List ℕ) (j : Job) (x y : ℤ) → FitsSigned w64 x → FitsSigned w64 y
    → IsProgramOf gs text j.program → is_serial j.program ≡ true → j.args ≡ x ∷ y ∷ [] → (n : ℕ) (given : Reply) → GoesToItsEnd (after (empty c) (steps_of j 0)) n
    → given ≡ (ask (after (empty c) (steps_of j n)) (Poll 1)).0 → IsReplyOf c gs text (x ∷ y ∷ []) j.fuel given
replied c valid law gs text j x y fx fy program serial args n given all is = record {
  job = j;
  program = program;
  serial = serial;
  arguments = args;
  fuelled = refl;
  advances = n;
  all = all;
  replied = is;
  value = λ v complete.
      let moves = replicate n (Advance 0) in
      let numbers : AreNumbers j.args = subst AreNumbers (sym args) (arguments_fit x y fx fy) in
      let value : HasValue gs text j.args v =
      law (Ask (Execute j) ∷ moves ++ Ask (Poll 1) ∷ []) [] moves [] (Execute j) (Poll 1) j 1 v gs text refl refl program numbers serial (first_number c j valid) refl (sym is ∙ complete) in
      subst (λ (l : List ℤ). HasValue gs text l v) args value;
}
