use Rattle.std.proofs.Common.{◌≡◌, [], length, ◌∙◌, ap}
use Rattle.std.proofs.lemmas.List.{length-replicate}
use Rattle.ready_pool.specs.Parts.{PoolParts}
use Rattle.ready_pool.proofs.Holding.{held-none}
use Rattle.ready_pool.proofs.Put.{seen-held}
use Rattle.ready_pool.proofs.pool.Pool.new.Goals as goal

pub invariant_of-result : goal.invariant_of-result
invariant_of-result c =
    let nodes = c.in_ok-held.held in
    let positions = c.in_ok-positions.positions.items in
    let room : c.capacity-room.result ≡ nodes.capacity = c.capacity-room.ensures.value in
    let long : length positions ≡ c.args.rows = ap length (c.in_ok-positions.ensures.items_if_clones_equal (λ y same. same)) ∙ length-replicate c.args.rows 0 in
    let held : PoolParts = record {
      slots = c.args.slots;
      nodes = nodes;
      positions = positions;
      all = c.in_ok-all.all;
      by_slot = c.in_ok-by_slot.by_slot;
      by_region = c.in_ok-by_region.by_region;
      by_both = c.in_ok-by_both.by_both;
    } in
    seen-held c.args.rows held [] (held-none c.args.rows c.args.slots nodes positions held.all held.by_slot held.by_region held.by_both c.requires.rows c.requires.slots c.in_ok-held.ensures.empty
    c.in_ok-held.ensures.capacity long
    (record { count_is = c.in_ok-all.ensures.count; places_are = c.in_ok-all.ensures.places ∙ room; empty = c.in_ok-all.ensures.empty })
    (record { count_is = c.in_ok-by_slot.ensures.count; places_are = c.in_ok-by_slot.ensures.places ∙ room; empty = c.in_ok-by_slot.ensures.empty })
    (record { count_is = c.in_ok-by_region.ensures.count; places_are = c.in_ok-by_region.ensures.places ∙ room; empty = c.in_ok-by_region.ensures.empty })
    (record { count_is = c.in_ok-by_both.ensures.count; places_are = c.in_ok-by_both.ensures.places ∙ room; empty = c.in_ok-by_both.ensures.empty }))
