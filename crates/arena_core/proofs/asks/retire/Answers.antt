use Rattle.std.proofs.Common.{◌≡◌, ◌∙◌, ◌+◌, map, sym, ap, true, false}
use Rattle.std.specs.List.{list_any}
use Rattle.job_language.specs.declared.answers.Reply.TheVariants.{Epoch}
use Rattle.tenant_model.specs.declared.rows.Row.{Row}
use Rattle.tenant_model.specs.Walks.{is_open}
use Rattle.thread_cells.specs.Cells.{no_cells}
use Rattle.tenant_model.specs.Changes.{entry}
use Rattle.tenant_model.specs.Asks.{retired_work}
use Rattle.arena_core.proofs.asks.retire.Goals as goal

pub returns-then-is_busy : goal.returns-then-is_busy
returns-then-is_busy c = λ s rests.
    let busy : list_any (λ (r : Row). is_open r.phase) s.rows ≡ true = sym (c.is_busy.ensures s rests.holds) ∙ c.if-is_busy.true in
    rw busy (c.refuse.ensures s rests)

pub retire-requires-clause-idle : goal.retire-requires-clause-idle
retire-requires-clause-idle c =
    let some = c.requires.some in
    (some.0, some.1.rests, sym (c.is_busy.ensures some.0 some.1.rests.holds) ∙ c.if-is_busy.false)

pub returns : goal.returns
returns c = λ s rests.
    let idle : list_any (λ (r : Row). is_open r.phase) s.rows ≡ false = sym (c.is_busy.ensures s rests.holds) ∙ c.if-is_busy.false in
    let after = c.retire.ensures s rests in
    let told = c.epoch.ensures (entry (record s { jobs = map retired_work s.jobs; cells = no_cells; epoch = s.epoch + 1 })) after.holds in
    rw idle (ap Epoch told, after)
