use Rattle.std.proofs.Common.{◌∙◌}
use Rattle.arena_rows.proofs.Counters.{entry_held, own_told}
use Rattle.arena_rows.proofs.Grouped.{is_entry}
use Rattle.arena_rows.proofs.TopRows.{top_open}
use Rattle.arena_rows.proofs.parts.Parts.is_cancelled.Goals as goal

pub is_context_cancelled-requires : goal.is_context_cancelled-requires
is_context_cancelled-requires c =
    let h = c.requires in
    let a = c.args.self.now in
    let e = c.top_entry.result.now in
    entry_held a h.0 h.2 h.1 e (is_entry a h.0 h.2 h.1 e (top_open a h.0 h.2 c.args.slot h.1 h.3) (c.top_entry.ensures.entry h.0 h.1 h.2 h.3).0)

pub returns : goal.returns
returns c = λ s n is on_top.
    let a = c.args.self.now in
    let e = c.top_entry.result.now in
    let entry = is_entry a s is n e (top_open a s is c.args.slot n on_top) (c.top_entry.ensures.entry s n is on_top).0 in
    c.is_context_cancelled.ensures.value ∙ own_told a s is n e entry c.is_context_cancelled.ensures.forest
