-- The lines of a dump's text, and what they say.
use Rattle.std.proofs.Common.{◌≡◌, ◌≢◌, ℕ, List, [], ◌∷◌, ◌++◌, map, Option, Some, None, Result, Ok, Err, OnOk, refl, ap, ap₂, ◌∙◌, ne_eqb}
use Rattle.std.specs.List.{All}
use Rattle.std.specs.Prelude.{IsSome}
use Rattle.std.specs.Option.{option_map_or}
use Rattle.std.proofs.lemmas.List.Elements.{All-head, All-tail}
use Rattle.serde_json.specs.Data.{Data}
use Rattle.serde_json.specs.Written.{compact_text}
use Rattle.job_language.specs.declared.steps.Entry.{Entry}
use Rattle.job_language.specs.declared.tenants.Tenant.{Tenant}
use Rattle.request_reader.specs.Lines.{newline, HasNoNewline, with_first, split_lines}
use Rattle.dump_lines.specs.Dumps.{line_text, entries_text, dump_text, HasLine, line_texts, NamesItself, SaysItself, ReadsBack}
use Rattle.dump_lines.specs.Lines.{said_by}
use Rattle.dump_lines.specs.Written.{entry_data, first_data}
use Rattle.dump_lines.specs.declared.lines.Said.{Said}
use Rattle.dump_lines.specs.declared.lines.Said.TheVariants as said
use Rattle.dump_lines.proofs.Newlines.{value_line}

-- A line with its newline comes off.
line_off : (text rest : List ℕ) → HasNoNewline text → split_lines (line_text text ++ rest) ≡ text ∷ split_lines rest
line_off [] rest h = refl
line_off (b ∷ text) rest h =
    rw (ne_eqb b newline (All-head (λ b. b ≢ newline) b text h))
    (ap (with_first b) (line_off text rest (All-tail (λ b. b ≢ newline) b text h)))

-- the lines of entries
abbrev entry_lines : List Entry → List (List ℕ)
entry_lines es = map (λ e. option_map_or compact_text (entry_data e) []) es

entry_off : (d : Option Data) (rest : List ℕ) → IsSome d → split_lines (option_map_or (λ d. line_text (compact_text d)) d [] ++ rest) ≡ option_map_or compact_text d [] ∷ split_lines rest
entry_off None rest h = cc
entry_off (Some d) rest h = line_off (compact_text d) rest (value_line d)

entries_off : (es : List Entry) → All HasLine es → split_lines (entries_text es) ≡ entry_lines es
entries_off [] h = refl
entries_off (e ∷ es) h =
    entry_off (entry_data e) (entries_text es) (All-head HasLine e es h)
    ∙ ap (λ lines. option_map_or compact_text (entry_data e) [] ∷ lines) (entries_off es (All-tail HasLine e es h))

pub lines_of_dump : (c : Tenant) (es : List Entry) → All HasLine es → split_lines (dump_text c es) ≡ line_texts c es
lines_of_dump c es h =
    line_off (compact_text (first_data c)) (entries_text es) (value_line (first_data c))
    ∙ ap (λ lines. compact_text (first_data c) ∷ lines) (entries_off es h)

entry_said : (e : Entry) (d : Option Data) → entry_data e ≡ d → HasLine e → SaysItself e → said_by (option_map_or compact_text d []) ≡ Some (said.Entry e)
entry_said e None is line says = cc
entry_said e (Some d) is line says = rw is at says

entries_said : (es : List Entry) → All HasLine es → All SaysItself es → map said_by (entry_lines es) ≡ map (λ e. Some (said.Entry e)) es
entries_said [] h k = refl
entries_said (e ∷ es) h k =
    ap₂ (λ (x : Option Said) (xs : List (Option Said)). x ∷ xs) (entry_said e (entry_data e) refl (All-head HasLine e es h) (All-head SaysItself e es k))
    (entries_said es (All-tail HasLine e es h) (All-tail SaysItself e es k))

pub dump_reads_back : (c : Tenant) (es : List Entry) → NamesItself c → All HasLine es → All SaysItself es → ReadsBack (dump_text c es) c es
dump_reads_back c es names h k = record {
  first = compact_text (first_data c);
  rest = entry_lines es;
  lines = lines_of_dump c es h;
  tenant = names;
  entries = entries_said es h k;
}

-- the same where it is written
pub read_back : {A E : Type 0} (result : Result A E) (c : Tenant) (es : List Entry) → NamesItself c → OnOk result (All HasLine es) → OnOk result (All SaysItself es) →
    OnOk result (ReadsBack (dump_text c es) c es)
read_back (Ok it) c es names h k = dump_reads_back c es names h k
read_back (Err e) c es names h k = tt
