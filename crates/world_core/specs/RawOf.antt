-- The steps of a world, as the definitions have them.
use Rattle.world_core.specs.declared.raws.Raw.{Raw}
use Rattle.world_core.specs.declared.raws.Raw.TheVariants.{Line, Master, Push, Pop, Arrive, Advance}
use Rattle.world_model.specs.Raw as model

-- the step that a value of the code is, with the bytes of a line as a list
abbrev pub raw_of : Raw → model.Raw
raw_of (Line t text) = model.line t text.items
raw_of (Master t s) = model.master t s
raw_of (Push t s) = model.push t s
raw_of (Pop w) = model.pop w
raw_of (Arrive w) = model.arrive w
raw_of (Advance w) = model.advance w
