use Rattle.std.proofs.Common.{◌≡◌, ◌+◌}
use Rattle.std.specs.Option.{option_map_or}
use Rattle.region_tag.specs.Region.{is_within}
use Rattle.region_tag.proofs.regions.Regions.within.Given as goal

abbrev pub invariant-loop-at : goal.invariant-loop-at
invariant-loop-at l = is_within l.self l.at l.outer ≡ is_within l.self l.fn.tag l.outer

abbrev pub decreases-loop-at : goal.decreases-loop-at
decreases-loop-at l = option_map_or (λ r. r.number + 1) l.at 0
