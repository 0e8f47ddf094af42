use Rattle.std.proofs.Common.{rules, Some, ◌≡◌, ◌∷◌}
use Rattle.job_language.specs.Configuration.{names_of}
use Rattle.request_reader.specs.LineConfigs.{config_in}
use Rattle.request_reader.specs.Lines.{whole}
use Rattle.world_model.specs.World.{start}
use Rattle.world_script.specs.Knowing.{Starts}
use Rattle.arena_script.specs.ScriptLines.{script_lines, all_lines}
use Rattle.arena_script.proofs.Answering.{on_ok-map}
use Rattle.arena_script.proofs.Running.{started, later_part}
use Rattle.request_reader.specs.declared.turns.TheConstants.{MAX_TURNS}
use Rattle.arena_script.proofs.Causes.{causes_after}
use Rattle.arena_script.proofs.runs.run.Goals as goal

pub returns-in-Some-clause-done : goal.returns-in-Some-clause-done
returns-in-Some-clause-done g c =
    let read : Starts g.A.TenantArena.stands_for (config_in c.line.result.now) (Some c.in-Some.world) = rw (← c.in-Some.is) c.in_ok-world.ensures in
    let first = started g.A.TenantArena.stands_for (config_in c.line.result.now) c.in-Some.world read in
    on_ok-map c.take_all.result _ _ (λ done known.
    let rest = g.R.Read.remaining c.next_input.new.reader in
    let lines : all_lines (g.R.Read.remaining c.args.reader.now) ≡ whole c.line.result.now ∷ script_lines c.next_input.new.lines rest = search rules in
    let taken = done (c.next_input.ensures.known known) in
    rw lines (first.0, taken.0, first.1, taken.1)) (c.take_all.ensures.done (names_of first.0.tenants) (start first.0) first.2)

pub returns-in-Some-clause-part : goal.returns-in-Some-clause-part
returns-in-Some-clause-part g c = λ known.
    let read : Starts g.A.TenantArena.stands_for (config_in c.line.result.now) (Some c.in-Some.world) = rw (← c.in-Some.is) c.in_ok-world.ensures in
    let first = started g.A.TenantArena.stands_for (config_in c.line.result.now) c.in-Some.world read in
    let rest = g.R.Read.remaining c.next_input.new.reader in
    let lines : all_lines (g.R.Read.remaining c.args.reader.now) ≡ whole c.line.result.now ∷ script_lines c.next_input.new.lines rest = search rules in
    let part = c.take_all.ensures.part (names_of first.0.tenants) (start first.0) first.2 (c.next_input.ensures.known known) in
    rw lines (later_part (config_in c.line.result.now) first.0 first.1 (script_lines c.next_input.new.lines rest) _ _ part)

pub returns-in-Some-clause-cause : goal.returns-in-Some-clause-cause
returns-in-Some-clause-cause g c =
    let first = rw c.in_ok-lines.ensures at c.next_input.ensures.calls in
    causes_after _ g.R.Source.called MAX_TURNS _ _ _ _ _ _ first c.take_all.ensures.cause
