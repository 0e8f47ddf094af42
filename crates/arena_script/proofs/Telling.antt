-- The answers to a tenant's steps, and the line that names the tenant.
use Rattle.std.proofs.Common.{◌≡◌, ℕ, Bool, true, false, List, Option, Some, None, if◌then◌else◌, refl, ap, arith}
use Rattle.std.specs.Str.{is_utf8}
use Rattle.serde_json.specs.Data.{Data}
use Rattle.serde_json.specs.Read.{read}
use Rattle.job_language.specs.declared.answers.Answer.{Answer}
use Rattle.job_language.specs.declared.tenants.Tenant.{Tenant}
use Rattle.job_json.specs.Json.{◌>>=◌}
use Rattle.request_reader.specs.LineAsks.{IsText}
use Rattle.tenant_model.specs.State.{State}
use Rattle.dump_lines.specs.Requests.{tenant_in}
use Rattle.arena_script.specs.ScriptAnswers.{told}
use Rattle.arena_script.specs.Taken.{answer_told, or_none}

-- The answer that an arena gave is reported, and the arena stands for what is left.
pub told_so : (s : State) (taken : Option (Answer × State)) (answer : Option Answer) {A : Type 0} (stands_for : A → State → Type 0) (arena : A) →
    (answer ≡ (or_none s taken).0) × stands_for arena (or_none s taken).1 → (answer_told answer ≡ (told s taken).0) × stands_for arena (told s taken).1
told_so s None answer stands_for arena it = (ap answer_told it.0, it.1)
told_so s (Some taken) answer stands_for arena it = (ap answer_told it.0, it.1)

named_text : (is_text : Bool) (read : Option Data) (named : Data → Option Tenant) (c : Tenant) → ((if is_text then read else None) >>= named) ≡ Some c → is_text ≡ true
named_text true read named c is = refl
named_text false read named c is = absurd (grind (arith, is))

-- A line that names a tenant is a text.
pub text_of_tenant : (line : List ℕ) (c : Tenant) → tenant_in line ≡ Some c → IsText line
text_of_tenant line c is = named_text (is_utf8 line) (read line) _ c is
