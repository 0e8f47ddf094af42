use Rattle.std.proofs.Common.{◌≡◌, ◌∙◌, sym, ap, Some}
use Rattle.std.specs.Option.{option_map}
use Rattle.serde_json.specs.View.{view}
use Rattle.world_script.specs.RawLines.{raw_line}
use Rattle.world_script.specs.Spelled.{data_of}
use Rattle.world_script.proofs.worlds.NamedWorld.take_value.Goals as goal

pub returns-in_ok-take_step-in-Some-clause-taken : goal.returns-in_ok-take_step-in-Some-clause-taken
returns-in_ok-take_step-in-Some-clause-taken g c = λ names w knows.
    let step : raw_line (view c.args.value.now) ≡ Some (data_of c.in-Some.step) = sym c.raw_line.ensures ∙ ap (option_map data_of) c.in-Some.is in
    rw step (c.in_ok-take_step-in-Some.ensures.taken names w knows)
