use Rattle.std.proofs.Common.{◌≡◌, filter}
use Rattle.std.specs.List.{filter_map}
use Rattle.std.specs.Option.{option_or}
use Rattle.region_tag.specs.Region.{is_within}
use Rattle.ready_pool.specs.declared.pool.Waiting.{Waiting}
use Rattle.ready_pool.specs.Ready.{first_of, is_made_on, last_or}
use Rattle.ready_pool.specs.Parts.{row_at, rows_of}
use Rattle.ready_pool.proofs.Chosen.{chosen}
use Rattle.ready_pool.proofs.pool.Pool.pick_within.Given as goal

abbrev pub invariant-loop-position : goal.invariant-loop-position
invariant-loop-position l =
    let rest = filter (λ (w : Waiting). is_within l.regions w.region l.region) (filter_map (row_at l.self-inside.rows.slots) l.position-iterator) in
    last_or (option_or l.newest (option_or l.oldest (first_of rest))) (filter (λ w. is_made_on l.slot w.made_on) rest) ≡
    chosen l.slot (filter (λ (w : Waiting). is_within l.regions w.region l.region) (rows_of l.self-inside.rows.slots l.self-inside.all))
