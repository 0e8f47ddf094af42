use Rattle.std.proofs.Common.{◌+◌, sym, subst, drop, List, ◌∷◌}
use Rattle.std.specs.Io.KnownBytes.{Appends}
use Rattle.std.proofs.KnownBytes.{Appends-trans}
use Rattle.std.proofs.lemmas.List.{drop_more}
use Rattle.job_language.specs.declared.steps.Entry.{Entry}
use Rattle.dump_lines.specs.Dumps.{HasLine, SaysItself, entries_text, entry_text}
use Rattle.dump_lines.specs.Parts.{AppendsPart}
use Rattle.dump_lines.proofs.Entries.{one_more}
use Rattle.dump_lines.proofs.Parts.{part_then, part_more}
use Rattle.dump_lines.proofs.whole.write_entries.Goals as goal

pub loop-entry-preserved : goal.loop-entry-preserved
loop-entry-preserved g c =
    let es = c.args.entries.now in
    let i = c.loop-entry.entry-index in
    let e = c.entry-item.result in
    let within = c.loop-entry-test.true in
    record {
      written = λ after more. c.loop-entry.invariant.written after
          (subst (λ (l : List Entry). Appends (g.W.Write.contents c.loop-entry.writer) after (entries_text l)) (sym (drop_more es i e within))
          (subst (λ (d : Entry). Appends (g.W.Write.contents c.loop-entry.writer) after (entries_text (d ∷ drop (i + 1) es))) c.entry-item.is
          (Appends-trans _ _ after (entry_text e) (entries_text (drop (i + 1) es)) c.in_ok-write_entry.ensures.written more)));
      part = λ after more. c.loop-entry.invariant.part after
          (subst (λ (l : List Entry). AppendsPart (g.W.Write.contents c.loop-entry.writer) after (entries_text l)) (sym (drop_more es i e within))
          (subst (λ (d : Entry). AppendsPart (g.W.Write.contents c.loop-entry.writer) after (entries_text (d ∷ drop (i + 1) es))) c.entry-item.is
          (part_then _ _ after (entry_text e) (entries_text (drop (i + 1) es)) c.in_ok-write_entry.ensures.written more)));
      lines = one_more HasLine es i e within c.entry-item.is c.in_ok-write_entry.ensures.line c.loop-entry.invariant.lines;
      said = one_more SaysItself es i e within c.entry-item.is c.in_ok-write_entry.ensures.reads_back c.loop-entry.invariant.said;
    }

pub returns-in_err-write_entry-clause-part : goal.returns-in_err-write_entry-clause-part
returns-in_err-write_entry-clause-part g c =
    let es = c.args.entries.now in
    let i = c.loop-entry.entry-index in
    let e = c.entry-item.result in
    let after = g.W.Write.contents c.write_entry.new.writer in
    c.loop-entry.invariant.part after
    (subst (λ (l : List Entry). AppendsPart (g.W.Write.contents c.loop-entry.writer) after (entries_text l)) (sym (drop_more es i e c.loop-entry-test.true))
    (subst (λ (d : Entry). AppendsPart (g.W.Write.contents c.loop-entry.writer) after (entries_text (d ∷ drop (i + 1) es))) c.entry-item.is
    (part_more _ after (entry_text e) (entries_text (drop (i + 1) es)) c.write_entry.ensures.part)))
