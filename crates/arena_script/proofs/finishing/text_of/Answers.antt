use Rattle.std.proofs.Common.{◌≡◌, ◌∙◌, List, None, Err, ap, subst}
use Rattle.std.specs.Prelude.{Any}
use Rattle.arena_script.proofs.Recorded.{recorded_lines}
use Rattle.arena_script.proofs.finishing.text_of.Goals as goal
use Rattle.dump_lines.specs.Written.{entry_data}
use Rattle.dump_lines.specs.declared.whole.DumpFault.{DumpFault}
use Rattle.job_language.specs.declared.steps.Entry.{Entry}

pub unreachable-requires : goal.unreachable-requires
unreachable-requires c =
    let replay = c.args.replay.now in
    let found = c.write_dump.ensures.entry (c.in-Err-NoEntry.is ∙ ap (λ (f : DumpFault). Err f) c.in-Err-NoEntry.field-0-is) in
    recorded_lines replay.config replay.history c.history.ensures.right (subst (λ (es : List Entry). Any (λ (e : Entry). entry_data e ≡ None) es) c.history.ensures.value found)
