use Rattle.std.proofs.Common.{◌≡◌, ◌≢◌, ◌<◌, ◌*◌, ◌++◌, ℕ, Some, List, [], ◌∷◌, length, sym, ◌∙◌, ap, subst, arith, length-set}
use Rattle.std.specs.Prelude.{All, slice_set}
use Rattle.ready_pool.specs.declared.pool.Waiting.{Waiting}
use Rattle.ready_pool.specs.Ready.{Ready, IsRegionEntered, with_row}
use Rattle.ready_pool.specs.Parts.{PoolParts, HoldsRows, rows_of, place_of, number_of}
use Rattle.ready_pool.proofs.Holding.{AreJoined, held-put, rows_of-is}
use Rattle.ready_pool.proofs.Put.{free-all, free-slot, free-region, free-both, region-below, number-below, AreAlike-entered, seen-held}
use Rattle.ready_pool.proofs.pool.Pool.put.Goals as goal

pub number_of-both-requires-clause-place : goal.number_of-both-requires-clause-place
number_of-both-requires-clause-place c x e =
    let limit : length c.self.inside.positions.items ≡ c.args.self.now.limit = ap (λ (pool : Ready). pool.limit) c.self.view_is in
    let below : x < length c.args.regions.now = region-below c.args.regions.now c.args.region c.requires.region x (sym c.place_of-region_place.ensures ∙ e) in
    omega (arith, limit, below, c.requires.places, c.self.invariant.few)

pub join-requires-clause-free : goal.join-requires-clause-free
join-requires-clause-free c =
    let i = c.self.inside in
    let held : PoolParts = record { slots = i.slots; nodes = i.rows; positions = i.positions.items; all = i.all; by_slot = i.by_slot; by_region = i.by_region; by_both = i.by_both } in
    free-all held c.self.invariant c.insert_reserved-position.result c.insert_reserved-position.ensures.was_vacant

pub join-requires-2-clause-free : goal.join-requires-2-clause-free
join-requires-2-clause-free c =
    let i = c.self.inside in
    let held : PoolParts = record { slots = i.slots; nodes = i.rows; positions = i.positions.items; all = i.all; by_slot = i.by_slot; by_region = i.by_region; by_both = i.by_both } in
    free-slot held c.self.invariant c.insert_reserved-position.result c.insert_reserved-position.ensures.was_vacant

pub join-requires-3-clause-list : goal.join-requires-3-clause-list
join-requires-3-clause-list c x e =
    let limit : length c.self.inside.positions.items ≡ c.args.self.now.limit = ap (λ (pool : Ready). pool.limit) c.self.view_is in
    let below : x < length c.args.regions.now = region-below c.args.regions.now c.args.region c.requires.region x (sym c.place_of-region_place.ensures ∙ e) in
    omega (arith, limit, below, c.requires.places, c.self.invariant.regions_listed.count_is)

pub join-requires-3-clause-free : goal.join-requires-3-clause-free
join-requires-3-clause-free c =
    let i = c.self.inside in
    let held : PoolParts = record { slots = i.slots; nodes = i.rows; positions = i.positions.items; all = i.all; by_slot = i.by_slot; by_region = i.by_region; by_both = i.by_both } in
    free-region held c.self.invariant c.insert_reserved-position.result c.insert_reserved-position.ensures.was_vacant

pub join-requires-4-clause-list : goal.join-requires-4-clause-list
join-requires-4-clause-list c x e =
    let i = c.self.inside in
    let limit : length i.positions.items ≡ c.args.self.now.limit = ap (λ (pool : Ready). pool.limit) c.self.view_is in
    let slots : c.args.self.now.slots ≡ i.slots = ap (λ (pool : Ready). pool.slots) (sym c.self.view_is) in
    let places : length c.args.regions.now ≡ length i.positions.items = c.requires.places ∙ sym limit in
    let number : number_of i.slots c.args.made_on (place_of c.args.region) ≡ Some x = ap (number_of i.slots c.args.made_on) (sym c.place_of-region_place.ensures) ∙ sym c.number_of-both.ensures ∙ e in
    let below : x < length i.positions.items * i.slots =
    number-below i.slots (length i.positions.items) c.args.made_on (place_of c.args.region)
    (λ s f. subst (λ n. s < n) slots (c.requires.slot s f))
    (λ p f. subst (λ n. p < n) places (region-below c.args.regions.now c.args.region c.requires.region p f))
    x number in
    subst (λ n. x < n) (sym c.self.invariant.both_listed.count_is) below

pub join-requires-4-clause-free : goal.join-requires-4-clause-free
join-requires-4-clause-free c =
    let i = c.self.inside in
    let held : PoolParts = record { slots = i.slots; nodes = i.rows; positions = i.positions.items; all = i.all; by_slot = i.by_slot; by_region = i.by_region; by_both = i.by_both } in
    free-both held c.self.invariant c.insert_reserved-position.result c.insert_reserved-position.ensures.was_vacant

pub invariant_of-self : goal.invariant_of-self
invariant_of-self c =
    let i = c.self.inside in
    let held : PoolParts = record { slots = i.slots; nodes = i.rows; positions = i.positions.items; all = i.all; by_slot = i.by_slot; by_region = i.by_region; by_both = i.by_both } in
    let rows : List Waiting = rows_of i.rows.slots i.all in
    let w : Waiting = record { row = c.args.row; made_on = c.args.made_on; region = c.args.region } in
    let put = c.insert_reserved-position in
    let position : ℕ = put.result in
    let newest = subst (λ (pool : Ready). All (λ (v : Waiting). v.row.number < c.args.row.number) pool.rows) (sym c.self.view_is) c.requires.newest in
    let there = subst (λ (pool : Ready). c.args.row.place < pool.limit) (sym c.self.view_is) c.requires.place in
    let free = subst (λ (pool : Ready). All (λ (v : Waiting). v.row.place ≢ c.args.row.place) pool.rows) (sym c.self.view_is) c.requires.free in
    let entered = subst (λ (pool : Ready). All (λ (v : Waiting). IsRegionEntered c.args.regions.now v.region) pool.rows) (sym c.self.view_is) c.requires.regions in
    let a : AreJoined (Some 0) position i.all c.join.new.lists = record { joined = c.join.ensures.joined; count = c.join.ensures.count; places = c.join.ensures.places } in
    let s : AreJoined c.args.made_on position i.by_slot c.join-2.new.lists = record { joined = c.join-2.ensures.joined; count = c.join-2.ensures.count; places = c.join-2.ensures.places } in
    let r : AreJoined c.place_of-region_place.result position i.by_region c.join-3.new.lists =
    record { joined = c.join-3.ensures.joined; count = c.join-3.ensures.count; places = c.join-3.ensures.places } in
    let b : AreJoined c.number_of-both.result position i.by_both c.join-4.new.lists = record { joined = c.join-4.ensures.joined; count = c.join-4.ensures.count; places = c.join-4.ensures.places } in
    let number : c.number_of-both.result ≡ number_of i.slots c.args.made_on (place_of c.args.region) =
    c.number_of-both.ensures ∙ ap (number_of i.slots c.args.made_on) c.place_of-region_place.ensures in
    let after : PoolParts = record {
      slots = i.slots;
      nodes = put.new.self;
      positions = slice_set i.positions.items c.args.row.place position;
      all = c.join.new.lists;
      by_slot = c.join-2.new.lists;
      by_region = c.join-3.new.lists;
      by_both = c.join-4.new.lists;
    } in
    let kept : HoldsRows (length i.positions.items) after (rows ++ w ∷ []) =
    held-put (length i.positions.items) held rows c.self.invariant w newest there free (AreAlike-entered c.args.regions.now rows w entered c.requires.region) position put.new.self
    put.ensures.was_vacant put.ensures.updates put.ensures.len put.ensures.capacity c.join.new.lists c.join-2.new.lists c.join-3.new.lists c.join-4.new.lists a s
    (subst (λ o. AreJoined o position i.by_region c.join-3.new.lists) c.place_of-region_place.ensures r)
    (subst (λ o. AreJoined o position i.by_both c.join-4.new.lists) number b) in
    seen-held (length i.positions.items) after (rows ++ w ∷ []) kept

pub returns : goal.returns
returns c =
    let i = c.self.inside in
    let held : PoolParts = record { slots = i.slots; nodes = i.rows; positions = i.positions.items; all = i.all; by_slot = i.by_slot; by_region = i.by_region; by_both = i.by_both } in
    let rows : List Waiting = rows_of i.rows.slots i.all in
    let w : Waiting = record { row = c.args.row; made_on = c.args.made_on; region = c.args.region } in
    let put = c.insert_reserved-position in
    let position : ℕ = put.result in
    let newest = subst (λ (pool : Ready). All (λ (v : Waiting). v.row.number < c.args.row.number) pool.rows) (sym c.self.view_is) c.requires.newest in
    let there = subst (λ (pool : Ready). c.args.row.place < pool.limit) (sym c.self.view_is) c.requires.place in
    let free = subst (λ (pool : Ready). All (λ (v : Waiting). v.row.place ≢ c.args.row.place) pool.rows) (sym c.self.view_is) c.requires.free in
    let entered = subst (λ (pool : Ready). All (λ (v : Waiting). IsRegionEntered c.args.regions.now v.region) pool.rows) (sym c.self.view_is) c.requires.regions in
    let a : AreJoined (Some 0) position i.all c.join.new.lists = record { joined = c.join.ensures.joined; count = c.join.ensures.count; places = c.join.ensures.places } in
    let s : AreJoined c.args.made_on position i.by_slot c.join-2.new.lists = record { joined = c.join-2.ensures.joined; count = c.join-2.ensures.count; places = c.join-2.ensures.places } in
    let r : AreJoined c.place_of-region_place.result position i.by_region c.join-3.new.lists =
    record { joined = c.join-3.ensures.joined; count = c.join-3.ensures.count; places = c.join-3.ensures.places } in
    let b : AreJoined c.number_of-both.result position i.by_both c.join-4.new.lists = record { joined = c.join-4.ensures.joined; count = c.join-4.ensures.count; places = c.join-4.ensures.places } in
    let number : c.number_of-both.result ≡ number_of i.slots c.args.made_on (place_of c.args.region) =
    c.number_of-both.ensures ∙ ap (number_of i.slots c.args.made_on) c.place_of-region_place.ensures in
    let after : PoolParts = record {
      slots = i.slots;
      nodes = put.new.self;
      positions = slice_set i.positions.items c.args.row.place position;
      all = c.join.new.lists;
      by_slot = c.join-2.new.lists;
      by_region = c.join-3.new.lists;
      by_both = c.join-4.new.lists;
    } in
    let kept : HoldsRows (length i.positions.items) after (rows ++ w ∷ []) =
    held-put (length i.positions.items) held rows c.self.invariant w newest there free (AreAlike-entered c.args.regions.now rows w entered c.requires.region) position put.new.self
    put.ensures.was_vacant put.ensures.updates put.ensures.len put.ensures.capacity c.join.new.lists c.join-2.new.lists c.join-3.new.lists c.join-4.new.lists a s
    (subst (λ o. AreJoined o position i.by_region c.join-3.new.lists) c.place_of-region_place.ensures r)
    (subst (λ o. AreJoined o position i.by_both c.join-4.new.lists) number b) in
    let ready : ℕ → List Waiting → Ready = λ limit all. record { isolation = i.isolation; limit = limit; slots = i.slots; rows = all } in
    ap (λ n. ready n (rows_of after.nodes.slots after.all)) (length-set i.positions.items c.args.row.place position) ∙
    ap (ready (length i.positions.items)) (rows_of-is (length i.positions.items) after (rows ++ w ∷ []) kept) ∙ ap (λ (pool : Ready). with_row pool w) c.self.view_is
