use Rattle.std.proofs.Common.{◌≡◌, ◌∙◌, sym, ap, Some, List, ℕ}
use Rattle.std.specs.Option.{option_map}
use Rattle.world_core.specs.RawOf.{raw_of as stepped}
use Rattle.world_script.specs.Knowing.{Knows}
use Rattle.world_script.specs.Named.{raw_of}
use Rattle.world_script.specs.Spelled.{data_of}
use Rattle.world_script.proofs.worlds.NamedWorld.take_step.Goals as goal

pub returns-in-Some-clause-taken : goal.returns-in-Some-clause-taken
returns-in-Some-clause-taken g c = λ names w knows.
    let known : Knows g.A.TenantArena.stands_for names w (record { names = c.self.inside.names.items; world = c.self.inside.world }) = rw (← c.self.view_is) at knows in
    let named : c.as_slice.result.now ≡ names = c.as_slice.ensures.value ∙ known.names_are in
    let step : raw_of names (data_of c.args.step.now) ≡ Some (stepped c.in-Some.raw) =
    ap (λ (ns : List (List ℕ)). raw_of ns (data_of c.args.step.now)) (sym named) ∙ sym c.in_ok-raw.ensures ∙ ap (option_map stepped) c.in-Some.is in
    rw step (c.apply.ensures names w knows)
