use Rattle.std.proofs.Common.{◌≡◌, ◌<◌, Some, None, ◌∙◌, arith}
use Rattle.std.specs.Prelude.{slice_index_or}
use Rattle.std.proofs.lemmas.List.{get_or_default}
use Rattle.job_language.specs.declared.instructions.TheConstants.{GROUPS}
use Rattle.arena_rows.proofs.Counters.{entry_held, given_held, given_told, bare_told}
use Rattle.arena_rows.proofs.Grouped.{is_entry}
use Rattle.arena_rows.proofs.TopRows.{top_open}
use Rattle.arena_rows.proofs.parts.Parts.is_group_cancelled.Goals as goal

pub is_context_cancelled-requires : goal.is_context_cancelled-requires
is_context_cancelled-requires c =
    let h = c.requires in
    let a = c.args.self.now in
    let e = c.top_entry-entry.result.now in
    entry_held a h.0 h.2 h.1 e (is_entry a h.0 h.2 h.1 e (top_open a h.0 h.2 c.args.slot h.1 h.3) (c.top_entry-entry.ensures.entry h.0 h.1 h.2 h.3).0)

pub returns-in_default : goal.returns-in_default
returns-in_default c = λ s n is on_top.
    let a = c.args.self.now in
    let e = c.top_entry-entry.result.now in
    let it = c.top_entry-entry.ensures.entry s n is on_top in
    let value = c.index.ensures.value in
    let few : c.args.group < GROUPS = rw value at c.index.ensures.in_range in
    let none : slice_index_or e.group_contexts c.index.result None ≡ None =
    get_or_default e.group_contexts c.index.result None _ (omega (arith, c.index.ensures.in_range, it.1.all_contexts)) ∙ c.in_default.is in
    c.is_context_cancelled.ensures.value ∙
    bare_told a s is n e (is_entry a s is n e (top_open a s is c.args.slot n on_top) it.0) c.is_context_cancelled.ensures.forest c.args.group few (rw value at none)

pub is_context_cancelled-requires-2 : goal.is_context_cancelled-requires-2
is_context_cancelled-requires-2 c =
    let h = c.requires in
    let a = c.args.self.now in
    let e = c.top_entry-entry.result.now in
    let it = c.top_entry-entry.ensures.entry h.0 h.1 h.2 h.3 in
    let value = c.index.ensures.value in
    let few : c.args.group < GROUPS = rw value at c.index.ensures.in_range in
    let some : slice_index_or e.group_contexts c.index.result None ≡ Some c.in-Some.context =
    get_or_default e.group_contexts c.index.result None _ (omega (arith, c.index.ensures.in_range, it.1.all_contexts)) ∙ c.in-Some.is in
    given_held a h.0 h.2 h.1 e (is_entry a h.0 h.2 h.1 e (top_open a h.0 h.2 c.args.slot h.1 h.3) it.0) c.args.group c.in-Some.context few (rw value at some)

pub returns : goal.returns
returns c = λ s n is on_top.
    let a = c.args.self.now in
    let e = c.top_entry-entry.result.now in
    let it = c.top_entry-entry.ensures.entry s n is on_top in
    let value = c.index.ensures.value in
    let few : c.args.group < GROUPS = rw value at c.index.ensures.in_range in
    let some : slice_index_or e.group_contexts c.index.result None ≡ Some c.in-Some.context =
    get_or_default e.group_contexts c.index.result None _ (omega (arith, c.index.ensures.in_range, it.1.all_contexts)) ∙ c.in-Some.is in
    c.is_context_cancelled-2.ensures.value ∙
    given_told a s is n e (is_entry a s is n e (top_open a s is c.args.slot n on_top) it.0) c.is_context_cancelled-2.ensures.forest c.args.group c.in-Some.context few (rw value at some)
