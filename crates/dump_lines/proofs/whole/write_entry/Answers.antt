use Rattle.std.proofs.Common.{◌≡◌, [], List, ℕ, Option, Some, None, Result, Ok, Err, OnOk, option_map, string_bytes, refl, sym, ◌∙◌, ap, subst}
use Rattle.std.specs.Prelude.{IfSome, String}
use Rattle.std.specs.declared.alloc.Global.{Global}
use Rattle.std.specs.Option.{option_map_or}
use Rattle.job_language.specs.declared.steps.Entry.{Entry}
use Rattle.serde_json.specs.Data.{Data}
use Rattle.serde_json.specs.Written.{compact_text}
use Rattle.dump_lines.specs.Dumps.{entry_text, line_text}
use Rattle.dump_lines.specs.Lines.{said_by}
use Rattle.dump_lines.specs.Parts.{AppendsPart}
use Rattle.dump_lines.specs.Written.{entry_data}
use Rattle.dump_lines.specs.declared.lines.Said.TheVariants as said
use Rattle.dump_lines.proofs.whole.write_entry.Goals as goal

in_two_turns : (d : Option Data) → option_map_or (λ (d : Data). line_text (compact_text d)) d [] ≡ option_map_or line_text (option_map compact_text d) []
in_two_turns None = refl
in_two_turns (Some d) = refl

pub returns-in-Some-clause-part : goal.returns-in-Some-clause-part
returns-in-Some-clause-part g c =
    let text : entry_text c.args.entry.now ≡ line_text c.as_str.result.now =
    in_two_turns (entry_data c.args.entry.now)
    ∙ ap (λ (o : Option (List ℕ)). option_map_or line_text o []) (sym c.in_ok-line.ensures.text)
    ∙ ap (λ (o : Option _). option_map_or line_text (option_map string_bytes o) []) c.in-Some.is
    ∙ ap line_text (sym c.as_str.ensures.value) in
    subst (λ (t : List ℕ). AppendsPart (g.W.Write.contents c.args.writer.now) (g.W.Write.contents c.write_line.new.writer) t) (sym text) c.write_line.ensures.part

on_ok : {A E : Type 0} (result : Result A E) (P : Type 0) → P → OnOk result P
on_ok (Ok it) P p = p
on_ok (Err e) P p = tt

says_itself : (e : Entry) (line : Option (String Global)) (d : Option Data) → option_map string_bytes line ≡ option_map compact_text d →
    IfSome line (λ l. said_by (string_bytes l) ≡ Some (said.Entry e)) → IfSome d (λ d. said_by (compact_text d) ≡ Some (said.Entry e))
says_itself e line None is reads = tt
says_itself e None (Some d) is reads = cc
says_itself e (Some l) (Some d) is reads = let same : string_bytes l ≡ compact_text d = cc in rw same at reads

pub returns-in-Some-clause-reads_back : goal.returns-in-Some-clause-reads_back
returns-in-Some-clause-reads_back g c = on_ok c.write_line.result _ (says_itself c.args.entry.now _ (entry_data c.args.entry.now) c.in_ok-line.ensures.text c.in_ok-line.ensures.reads_back)
