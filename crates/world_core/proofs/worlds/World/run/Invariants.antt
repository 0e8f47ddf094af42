use Rattle.std.proofs.Common.{◌≤◌, length, map, take, vec_capacity}
use Rattle.world_core.specs.RawOf.{raw_of}
use Rattle.world_core.proofs.Running.{HasRun}
use Rattle.world_core.proofs.worlds.World.run.Given as goal

abbrev pub invariant-loop-raw : goal.invariant-loop-raw
invariant-loop-raw g l = record {
  room : length l.raws ≤ vec_capacity l.outcomes;
  run : HasRun g.A.TenantArena.stands_for l.fn.self l.self (map raw_of (take l.raw-index l.raws)) l.outcomes.items;
}
