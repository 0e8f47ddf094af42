-- A step of a world as a line spells it, with its texts where they stand.
use Rattle.world_script.specs.declared.raw_lines.RawLine.{RawLine}
use Rattle.world_script.specs.declared.raw_lines.RawLine.TheVariants.{Line, Master, Push, Pop, Arrive, Advance}
use Rattle.world_script.specs.RawLines.{RawData, line, master, push, pop, arrive, advance}

abbrev pub data_of : RawLine → RawData
data_of (Line tenant text) = line tenant.now text.now
data_of (Master tenant slot) = master tenant.now slot
data_of (Push tenant slot) = push tenant.now slot
data_of (Pop worker) = pop worker
data_of (Arrive worker) = arrive worker
data_of (Advance worker) = advance worker
