-- A dump as it is read, line by line.
use Rattle.std.specs.Prelude.{◌≡◌, ℕ, ◌+◌, List, [], ◌∷◌, ◌++◌, length, Bool, false, true, if◌then◌else◌, Option, Some, None, Result, Ok, Err}
use Rattle.std.specs.Option.{option_map_or}
use Rattle.solo_eval.specs.declared.checking.Verdict.{Verdict}
use Rattle.solo_eval.specs.declared.checking.Verdict.TheVariants.{Yes, No}
use Rattle.solo_eval.specs.Verdicts.{IsVerdict}
use Rattle.job_language.specs.declared.tenants.Tenant.{Tenant}
use Rattle.request_reader.specs.Lines.{Line, whole, too_long}
use Rattle.dump_lines.specs.declared.lines.Said.{Said}
use Rattle.dump_lines.specs.declared.lines.Said.TheVariants as said
use Rattle.dump_lines.specs.Lines.{said_by}
use Rattle.dump_lines.specs.Requests.{tenant_in}
use Rattle.arena_script.specs.DumpHeld.{DumpHeld}
use Rattle.arena_script.specs.declared.dumps.DumpRead.{DumpRead}
use Rattle.arena_script.specs.declared.dumps.DumpRead.TheVariants.{Whole, BadLine}

abbrev pub new_dump : Tenant → DumpHeld
new_dump tenant = record { config = tenant; entries = []; has_foreign = false }

abbrev pub with_said : DumpHeld → Said → DumpHeld
with_said dump (said.Entry entry) = if dump.has_foreign then dump else record dump { entries = dump.entries ++ entry ∷ [] }
with_said dump said.Foreign = record dump { has_foreign = true }

abbrev pub said_in : Line → Option Said
said_in (whole text) = said_by text
said_in too_long = None

-- the dump with what the other lines say, or the number of the first bad one
abbrev pub read_on : List Line → ℕ → DumpHeld → Result DumpHeld ℕ
read_on [] number dump = Ok dump
read_on (line ∷ lines) number dump = option_map_or (λ it. read_on lines (number + 1) (with_said dump it)) (said_in line) (Err number)

-- after the first line, if it names a tenant
abbrev pub after_first : Option DumpHeld → List Line → Result DumpHeld ℕ
after_first (Some dump) lines = read_on lines 2 dump
after_first None lines = Err 1

abbrev pub dump_read : List Line → Result DumpHeld ℕ
dump_read [] = Err 1
dump_read (too_long ∷ lines) = Err 1
dump_read (whole line ∷ lines) = option_map_or (λ tenant. read_on lines 2 (new_dump tenant)) (tenant_in line) (Err 1)

abbrev pub came_to : DumpRead → Result DumpHeld ℕ
came_to (Whole dump) = Ok dump
came_to (BadLine number) = Err number

-- A foreign entry that follows the others has the next number.
abbrev pub after_entries : ℕ → Bool → Verdict → Verdict
after_entries next true Yes = No next
after_entries next has_foreign verdict = verdict

abbrev pub IsVerdictHeld : DumpHeld → Verdict → Type 0
IsVerdictHeld dump verdict = (on_entries : Verdict) × IsVerdict dump.config dump.entries on_entries × (verdict ≡ after_entries (length dump.entries + 1) dump.has_foreign on_entries)
