use Rattle.std.proofs.Common.{◌≡◌, ◌<◌, ◌≤◌, ◌+◌, ◌^◌, length}
use Rattle.source_reader.specs.Places.{place_from}
use Rattle.source_reader.proofs.places.place_from.Given as goal

abbrev pub invariant-loop-first : goal.invariant-loop-first
invariant-loop-first l =
    (place_from l.place.line l.place.column l.left ≡ place_from l.line l.column l.fn.text)
    × (1 ≤ l.place.column)
    × (l.place.line + l.place.column + length l.left < 2 ^ 64)

abbrev pub decreases-loop-first : goal.decreases-loop-first
decreases-loop-first l = length l.left
