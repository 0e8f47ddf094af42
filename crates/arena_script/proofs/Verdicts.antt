-- The answer to a dump.
use Rattle.std.proofs.Common.{◌≡◌, ℕ, ◌+◌, Bool, true, false, List, [], ◌∷◌, ◌++◌, length, Option, Some, None, Result, Ok, Err, inl, inr, refl, sym, ap, ◌∙◌, subst, append_assoc, append-nil, arith}
use Rattle.std.specs.Prelude.{fold, is_err, IsErr, IsOk}
use Rattle.std.specs.Io.KnownBytes.{Appends}
use Rattle.std.specs.Option.{option_map_or}
use Rattle.solo_eval.specs.declared.checking.Verdict.{Verdict}
use Rattle.solo_eval.specs.declared.checking.Verdict.TheVariants.{No}
use Rattle.solo_eval.specs.Verdicts.{IsVerdictFrom}
use Rattle.job_language.specs.declared.steps.Entry.{Entry}
use Rattle.job_language.specs.declared.tenants.Tenant.{Tenant}
use Rattle.job_json.specs.Json.{result_map}
use Rattle.request_reader.specs.Lines.{Line, whole, too_long}
use Rattle.tenant_model.specs.Solo.{step}
use Rattle.tenant_model.specs.State.{State, empty}
use Rattle.dump_lines.specs.declared.lines.Said.{Said}
use Rattle.dump_lines.specs.declared.lines.Said.TheVariants as said
use Rattle.dump_lines.specs.Lines.{said_by}
use Rattle.dump_lines.specs.Parts.{AppendsPart}
use Rattle.dump_lines.specs.Requests.{tenant_in}
use Rattle.arena_script.specs.DumpData.{all_said, dump_of}
use Rattle.arena_script.specs.DumpHeld.{DumpHeld}
use Rattle.arena_script.specs.DumpReads.{IsVerdictHeld, after_entries, dump_read, new_dump, read_on, with_said}
use Rattle.arena_script.specs.DumpText.{AnswersDump}
use Rattle.arena_script.specs.DumpVerdict.{IsVerdictOn}
use Rattle.arena_script.specs.VerdictText.{verdict_text, bad_line_text}

-- the entries before the first that is foreign
abbrev entries_of : List Said → List Entry
entries_of [] = []
entries_of (said.Entry e ∷ others) = e ∷ entries_of others
entries_of (said.Foreign ∷ others) = []

abbrev has_foreign : List Said → Bool
has_foreign [] = false
has_foreign (said.Entry e ∷ others) = has_foreign others
has_foreign (said.Foreign ∷ others) = true

-- the dump that holds all that was said
abbrev held : DumpHeld → List Said → DumpHeld
held dump all = fold with_said dump all

said_then : (it : Said) (others : Result (List Said) ℕ) (dump : DumpHeld) →
    result_map (held (with_said dump it)) others ≡ result_map (held dump) (result_map (λ (rest : List Said). it ∷ rest) others)
said_then it (Ok rest) dump = refl
said_then it (Err number) dump = refl

read_step : (it : Option Said) (lines : List Line) (number : ℕ) (dump : DumpHeld) →
    ((next : DumpHeld) → read_on lines (number + 1) next ≡ result_map (held next) (all_said lines (number + 1))) →
    option_map_or (λ it. read_on lines (number + 1) (with_said dump it)) it (Err number)
    ≡ result_map (held dump) (option_map_or (λ (it : Said). result_map (λ (rest : List Said). it ∷ rest) (all_said lines (number + 1))) it (Err number))
read_step None lines number dump next = refl
read_step (Some it) lines number dump next = next (with_said dump it) ∙ said_then it (all_said lines (number + 1)) dump

-- What is read is what the lines say.
read_as : (lines : List Line) (number : ℕ) (dump : DumpHeld) → read_on lines number dump ≡ result_map (held dump) (all_said lines number)
read_as [] number dump = refl
read_as (whole text ∷ lines) number dump = read_step (said_by text) lines number dump (read_as lines (number + 1))
read_as (too_long ∷ lines) number dump = refl

-- After a foreign entry nothing is held.
held_foreign : (config : Tenant) (entries : List Entry) (all : List Said) →
    held (record { config = config; entries = entries; has_foreign = true }) all ≡ record { config = config; entries = entries; has_foreign = true }
held_foreign config entries [] = refl
held_foreign config entries (said.Entry e ∷ others) = held_foreign config entries others
held_foreign config entries (said.Foreign ∷ others) = held_foreign config entries others

held_is : (config : Tenant) (entries : List Entry) (all : List Said) →
    held (record { config = config; entries = entries; has_foreign = false }) all ≡ record { config = config; entries = entries ++ entries_of all; has_foreign = has_foreign all }
held_is config entries [] = ap (λ (es : List Entry). record { config = config; entries = es; has_foreign = false }) (sym (append-nil entries))
held_is config entries (said.Entry e ∷ others) =
    held_is config (entries ++ e ∷ []) others ∙ ap (λ (es : List Entry). record { config = config; entries = es; has_foreign = has_foreign others }) (append_assoc entries (e ∷ []) (entries_of others))
held_is config entries (said.Foreign ∷ others) =
    held_foreign config entries others ∙ ap (λ (es : List Entry). record { config = config; entries = es; has_foreign = true }) (sym (append-nil entries))

wrong_at : (has : Bool) (next k : ℕ) → No k ≡ after_entries next has (No k)
wrong_at true next k = refl
wrong_at false next k = refl

-- The verdict on the entries before the first foreign one gives that on all.
verdict_on : (s : State) (k : ℕ) (all : List Said) (on_entries : Verdict) → IsVerdictFrom s k (entries_of all) on_entries →
    IsVerdictOn s k all (after_entries (length (entries_of all) + k) (has_foreign all) on_entries)
verdict_on s k [] on_entries is = is
verdict_on s k (said.Foreign ∷ others) on_entries is = let here : 0 + k ≡ k = omega arith in rw is (ap (λ n. No n) here)
verdict_on s k (said.Entry e ∷ others) on_entries is = elim is [
  | inl right ↦
      let others_on = verdict_on (step s e.step).1 (k + 1) others on_entries right.1 in
      let number : length (entries_of others) + (k + 1) ≡ length (e ∷ entries_of others) + k = omega arith in
      inl (right.0, subst (λ (n : ℕ). IsVerdictOn (step s e.step).1 (k + 1) others (after_entries n (has_foreign others) on_entries)) number others_on)
  | inr wrong ↦ inr (wrong.0, rw wrong.1 (sym (wrong_at (has_foreign others) (length (e ∷ entries_of others) + k) k)))
]

-- A dump has one verdict.
one_verdict_on : (s : State) (k : ℕ) (all : List Said) (one other : Verdict) → IsVerdictOn s k all one → IsVerdictOn s k all other → one ≡ other
one_verdict_on s k [] one other first second = first ∙ sym second
one_verdict_on s k (said.Foreign ∷ others) one other first second = first ∙ sym second
one_verdict_on s k (said.Entry e ∷ others) one other first second = elim first [
  | inl right ↦ elim second [
    | inl also ↦ one_verdict_on (step s e.step).1 (k + 1) others one other right.1 also.1
    | inr wrong ↦ absurd (wrong.0 right.0)
  ]
  | inr wrong ↦ elim second [
    | inl right ↦ absurd (wrong.0 right.0)
    | inr also ↦ wrong.1 ∙ sym also.1
  ]
]

-- A dump has one answer.
one_answer : (dump : Result (Tenant × List Said) ℕ) (one other : List ℕ) → AnswersDump dump one → AnswersDump dump other → one ≡ other
one_answer (Ok dump) one other first second = first.2 ∙ ap verdict_text (one_verdict_on (empty dump.0) 1 dump.1 first.0 second.0 first.1 second.1) ∙ sym second.2
one_answer (Err number) one other first second = first ∙ sym second

-- What a dump gives, by what its lines after the first say.
abbrev with_tenant : Tenant → Result (List Said) ℕ → Result (Tenant × List Said) ℕ
with_tenant c all = result_map (λ said. (c, said)) all

told_all : (c : Tenant) (all : Result (List Said) ℕ) (dump : DumpHeld) (verdict : Verdict) → result_map (held (new_dump c)) all ≡ Ok dump → IsVerdictHeld dump verdict →
    IsOk (with_tenant c all) × AnswersDump (with_tenant c all) (verdict_text verdict)
told_all c (Err number) dump verdict came is = absurd (cc)
told_all c (Ok all) dump verdict came is =
    let holds : held (new_dump c) all ≡ dump = cc in
    let it : IsVerdictHeld (record { config = c; entries = entries_of all; has_foreign = has_foreign all }) verdict =
    subst (λ (d : DumpHeld). IsVerdictHeld d verdict) (sym holds ∙ held_is c [] all) is in
    let on_all = verdict_on (empty c) 1 all it.0 it.1 in
    (refl, (verdict, subst (λ (v : Verdict). IsVerdictOn (empty c) 1 all v) (sym it.2) on_all, refl))

bad_all : (c : Tenant) (all : Result (List Said) ℕ) (number : ℕ) → result_map (held (new_dump c)) all ≡ Err number → with_tenant c all ≡ Err number
bad_all c (Err first) number came = cc
bad_all c (Ok all) number came = absurd (cc)

told_first : (o : Option Tenant) (lines : List Line) (dump : DumpHeld) (verdict : Verdict) → option_map_or (λ c. read_on lines 2 (new_dump c)) o (Err 1) ≡ Ok dump → IsVerdictHeld dump verdict →
    let all : Result (Tenant × List Said) ℕ = option_map_or (λ (c : Tenant). with_tenant c (all_said lines 2)) o (Err 1) in IsOk all × AnswersDump all (verdict_text verdict)
told_first None lines dump verdict came is = absurd (cc)
told_first (Some c) lines dump verdict came is = told_all c (all_said lines 2) dump verdict (sym (read_as lines 2 (new_dump c)) ∙ came) is

bad_first : (o : Option Tenant) (lines : List Line) (number : ℕ) → option_map_or (λ c. read_on lines 2 (new_dump c)) o (Err 1) ≡ Err number →
    option_map_or (λ (c : Tenant). with_tenant c (all_said lines 2)) o (Err 1) ≡ Err number
bad_first None lines number came = cc
bad_first (Some c) lines number came = bad_all c (all_said lines 2) number (sym (read_as lines 2 (new_dump c)) ∙ came)

-- The verdict on a dump that was read answers it.
dump_answered : (lines : List Line) (dump : DumpHeld) (verdict : Verdict) → dump_read lines ≡ Ok dump → IsVerdictHeld dump verdict →
    IsOk (dump_of lines) × AnswersDump (dump_of lines) (verdict_text verdict)
dump_answered [] dump verdict came is = absurd (cc)
dump_answered (too_long ∷ lines) dump verdict came is = absurd (cc)
dump_answered (whole line ∷ lines) dump verdict came is = told_first (tenant_in line) lines dump verdict came is

-- The number of a bad line is that of the first.
bad_answered : (lines : List Line) (number : ℕ) → dump_read lines ≡ Err number → dump_of lines ≡ Err number
bad_answered [] number came = cc
bad_answered (too_long ∷ lines) number came = cc
bad_answered (whole line ∷ lines) number came = bad_first (tenant_in line) lines number came

-- A part of one answer is a part of each.
part_of_answer : (dump : Result (Tenant × List Said) ℕ) (text told : List ℕ) (before after : Option (List ℕ)) → AnswersDump dump told → text ≡ told → AppendsPart before after text → (other : List ℕ) →
    AnswersDump dump other → AppendsPart before after other
part_of_answer dump text told before after is same part other also = subst (λ (t : List ℕ). AppendsPart before after t) (same ∙ one_answer dump told other is also) part

-- All of the answer is written.
pub verdict_written : (lines : List Line) (dump : DumpHeld) (verdict : Verdict) (text : List ℕ) (before after : Option (List ℕ)) → dump_read lines ≡ Ok dump → IsVerdictHeld dump verdict →
    text ≡ verdict_text verdict → Appends before after text →
    IsOk (dump_of lines) × (told : List ℕ) × AnswersDump (dump_of lines) told × Appends before after told
verdict_written lines dump verdict text before after came is as_text written =
    let answered = dump_answered lines dump verdict came is in
    (answered.0, verdict_text verdict, answered.1, subst (λ (t : List ℕ). Appends before after t) as_text written)

pub bad_line_written : (lines : List Line) (number : ℕ) (text : List ℕ) (before after : Option (List ℕ)) → dump_read lines ≡ Err number → text ≡ bad_line_text number → Appends before after text →
    IsErr (dump_of lines) × (told : List ℕ) × AnswersDump (dump_of lines) told × Appends before after told
bad_line_written lines number text before after came as_text written =
    let is = bad_answered lines number came in (
      ap is_err is,
      bad_line_text number,
      subst (λ (d : Result (Tenant × List Said) ℕ). AnswersDump d (bad_line_text number)) (sym is) refl,
      subst (λ (t : List ℕ). Appends before after t) as_text written,
    )

-- A part of it is.
pub verdict_part : (lines : List Line) (dump : DumpHeld) (verdict : Verdict) (text : List ℕ) (before after : Option (List ℕ)) → dump_read lines ≡ Ok dump → IsVerdictHeld dump verdict →
    text ≡ verdict_text verdict → AppendsPart before after text →
    (other : List ℕ) → AnswersDump (dump_of lines) other → AppendsPart before after other
verdict_part lines dump verdict text before after came is as_text part =
    part_of_answer (dump_of lines) text (verdict_text verdict) before after (dump_answered lines dump verdict came is).1 as_text part

pub bad_line_part : (lines : List Line) (number : ℕ) (text : List ℕ) (before after : Option (List ℕ)) → dump_read lines ≡ Err number → text ≡ bad_line_text number → AppendsPart before after text →
    (other : List ℕ) → AnswersDump (dump_of lines) other → AppendsPart before after other
bad_line_part lines number text before after came as_text part =
    part_of_answer (dump_of lines) text (bad_line_text number) before after
    (subst (λ (d : Result (Tenant × List Said) ℕ). AnswersDump d (bad_line_text number)) (sym (bad_answered lines number came)) refl) as_text part
