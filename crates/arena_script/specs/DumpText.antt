-- The answer to a dump.
use Rattle.std.specs.Prelude.{◌≡◌, ℕ, List, Result, Ok, Err}
use Rattle.solo_eval.specs.declared.checking.Verdict.{Verdict}
use Rattle.job_language.specs.declared.tenants.Tenant.{Tenant}
use Rattle.tenant_model.specs.State.{empty}
use Rattle.dump_lines.specs.declared.lines.Said.{Said}
use Rattle.arena_script.specs.DumpVerdict.{IsVerdictOn}
use Rattle.arena_script.specs.VerdictText.{verdict_text, bad_line_text}

-- the text of its verdict, or of the number of its first bad line
abbrev pub AnswersDump : Result (Tenant × List Said) ℕ → List ℕ → Type 0
AnswersDump (Ok dump) text = (verdict : Verdict) × IsVerdictOn (empty dump.0) 1 dump.1 verdict × (text ≡ verdict_text verdict)
AnswersDump (Err number) text = text ≡ bad_line_text number
