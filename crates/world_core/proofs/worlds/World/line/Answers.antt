use Rattle.std.proofs.Common.{◌≡◌, ◌<◌, length, Ok, false, sym, ◌∙◌, subst, arith, rules}
use Rattle.std.specs.Prelude.{slice_set}
use Rattle.world_model.specs.Raw as raw
use Rattle.world_model.specs.OwnSteps.{request_of}
use Rattle.world_model.specs.World.{is_blank}
use Rattle.world_model.specs.declared.outcomes.Outcome.{Outcome}
use Rattle.world_core.specs.WorldData.{WorldData}
use Rattle.world_core.specs.Steps.{Steps}
use Rattle.world_core.proofs.Stepping.{asked_steps, unasked_steps}
use Rattle.world_core.proofs.worlds.World.line.Goals.{in-Ok-ask, in-Err-ask}
use Rattle.world_core.proofs.worlds.World.line.Goals as goal

pub returns : goal.returns
returns g c =
    let stands = g.A.TenantArena.stands_for in
    let h : WorldData g.row.A.Denot = record { arenas = c.self.inside.arenas.items; market = c.self.inside.market } in
    let t = c.args.tenant in
    let text = c.args.text.now in
    let there : t < length h.arenas = (let len = c.self.inside.arenas.ok.0 in omega (arith, len, c.len.ensures, c.if-tenant-len.false)) in
    let filled : is_blank text ≡ false = search rules in
    let reads : request_of text ≡ Ok c.in-Ok.request = c.in-Ok.ensures in
    let next : WorldData g.row.A.Denot = record { arenas = slice_set h.arenas t c.ask.new.arena; market = c.ask.new.market } in
    let arena_is = c.index_mut-arena.ensures.value in
    let took : Steps stands h next (raw.line t text) c.match-ask.result = elim c.match-ask.branch [
      | in-Ok-ask w ↦
          let asked = asked_steps stands h t text c.in-Ok.request c.ask.new.arena c.ask.new.market w.in-Ok-ask.answer c.index_mut-arena.result.now there filled reads
          (λ s is. w.in-Ok-ask.ensures.taken s text (subst (λ a. stands a s) (sym arena_is) is)) in
          subst (λ (o : Outcome). Steps stands h next (raw.line t text) o) (sym w.result-is) asked
      | in-Err-ask w ↦
          let unasked = unasked_steps stands h t text c.in-Ok.request c.ask.new.arena c.ask.new.market c.index_mut-arena.result.now there filled reads
          (λ s is. w.in-Err-ask.ensures.refused s (subst (λ a. stands a s) (sym arena_is) is)) w.in-Err-ask.ensures.unchanged in
          subst (λ (o : Outcome). Steps stands h next (raw.line t text) o) (sym (w.result-is ∙ w.refused-in-Err-ask.ensures)) unasked
    ] in
    subst (λ (k : WorldData g.row.A.Denot). Steps stands k next (raw.line t text) c.match-ask.result) c.self.view_is took
