use Rattle.std.proofs.Common.{rules, ◌≡◌, ◌∷◌}
use Rattle.request_reader.specs.Lines.{whole}
use Rattle.arena_script.specs.ScriptLines.{script_lines, all_lines}
use Rattle.arena_script.proofs.Answering.{on_ok-map}
use Rattle.request_reader.specs.declared.turns.TheConstants.{MAX_TURNS}
use Rattle.arena_script.proofs.Causes.{causes_after}
use Rattle.arena_script.proofs.scripts.own.Goals as goal

pub returns-clause-no_tenant : goal.returns-clause-no_tenant
returns-clause-no_tenant g c = λ ended known.
    let lines : all_lines (g.R.Read.remaining c.args.reader.now) ≡ whole c.next_input.new.lines.line ∷ script_lines c.next_input.new.lines (g.R.Read.remaining c.next_input.new.reader) =
    search rules in
    rw lines (c.take_from.ensures.no_tenant ended)

pub returns-clause-done : goal.returns-clause-done
returns-clause-done g c = on_ok-map c.take_from.result _ _ (λ done known.
    let lines : all_lines (g.R.Read.remaining c.args.reader.now) ≡ whole c.next_input.new.lines.line ∷ script_lines c.next_input.new.lines (g.R.Read.remaining c.next_input.new.reader) =
    search rules in
    rw lines (done (c.next_input.ensures.known known))) c.take_from.ensures.done

pub returns-clause-part : goal.returns-clause-part
returns-clause-part g c = λ known.
    let lines : all_lines (g.R.Read.remaining c.args.reader.now) ≡ whole c.next_input.new.lines.line ∷ script_lines c.next_input.new.lines (g.R.Read.remaining c.next_input.new.reader) =
    search rules in
    rw lines (c.take_from.ensures.part (c.next_input.ensures.known known))

pub returns-clause-cause : goal.returns-clause-cause
returns-clause-cause g c =
    let first = rw c.in_ok-lines.ensures at c.next_input.ensures.calls in
    causes_after _ g.R.Source.called MAX_TURNS _ _ _ _ _ _ first c.take_from.ensures.cause
