use Rattle.std.proofs.Common.{◌≡◌, ◌<◌, ◌≤◌, ◌+◌, length, map, take, take_all, sym, ◌∙◌, subst, arith, rules}
use Rattle.world_model.specs.Refusals.{IsAnswer, AreAnswers, next}
use Rattle.world_model.specs.World.{start}
use Rattle.world_model.specs.World.{World as Known}
use Rattle.world_model.specs.declared.outcomes.Outcome.{Outcome}
use Rattle.world_model.proofs.Telling.{tenants_are_isolated}
use Rattle.std.specs.Prelude.{List}
use Rattle.world_core.specs.RawOf.{raw_of}
use Rattle.world_core.specs.Represents.{Represents}
use Rattle.world_core.specs.declared.raws.Raw.{Raw}
use Rattle.world_core.proofs.Running.{HasRun, run_more, taken_long}
use Rattle.world_core.proofs.worlds.World.run.Goals as goal

pub push_reserved-requires : goal.push_reserved-requires
push_reserved-requires g c =
    let raws = c.args.raws.now in
    let within : c.loop-raw.raw-index < length raws = c.loop-raw-test.true in
    let long : length c.loop-raw.outcomes.items ≡ c.loop-raw.raw-index = c.loop-raw.invariant.run.long ∙ taken_long raws c.loop-raw.raw-index (omega (arith, within)) in
    let ok = c.loop-raw.outcomes.ok.0 in
    omega (arith, ok, long, within, c.loop-raw.invariant.room)

pub loop-raw-preserved : goal.loop-raw-preserved
loop-raw-preserved g c =
    let stands = g.A.TenantArena.stands_for in
    let raws = c.args.raws.now in
    let i = c.loop-raw.raw-index in
    let within : i < length raws = c.loop-raw-test.true in
    let run = c.loop-raw.invariant.run in
    let o = c.apply-outcome.result in
    let more = run_more stands c.args.self.now c.loop-raw.self c.apply-outcome.new.self c.loop-raw.outcomes.items o raws i c.raw-item.result within run
    (subst (λ (r : Raw). (w : Known) → Represents stands c.loop-raw.self w → IsAnswer w (raw_of r) o) c.raw-item.is c.apply-outcome.ensures.answer)
    (subst (λ (r : Raw). (w : Known) → Represents stands c.loop-raw.self w → Represents stands c.apply-outcome.new.self (next w (raw_of r) o)) c.raw-item.is c.apply-outcome.ensures.world) in
    record {
      room = omega (arith, c.loop-raw.invariant.room, c.push_reserved.ensures.capacity);
      run = subst (λ (os : List Outcome). HasRun stands c.args.self.now c.apply-outcome.new.self (map raw_of (take (i + 1) raws)) os) (sym c.push_reserved.ensures.items) more;
    }

pub returns-clause-isolated : goal.returns-clause-isolated
returns-clause-isolated g c = λ config valid begins.
    let raws = c.args.raws.now in
    let all : length raws ≤ c.loop-raw.raw-index = search rules in
    let os = c.loop-raw.outcomes.items in
    let run = c.loop-raw.invariant.run.answers (start config) begins in
    let whole : AreAnswers (start config) (map raw_of raws) os = subst (λ (rs : List Raw). AreAnswers (start config) (map raw_of rs) os) (take_all c.loop-raw.raw-index raws all) run in
    tenants_are_isolated config (map raw_of raws) os valid whole
