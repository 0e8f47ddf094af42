use Rattle.std.proofs.Common.{◌≡◌, ◌<◌, ◌*◌, ℕ, Some, None, List, length, filter, not, sym, ◌∙◌, ap, subst, arith}
use Rattle.place_lists.specs.Lists.{Lists}
use Rattle.slab.specs.Slab.{Updates}
use Rattle.ready_pool.specs.declared.pool.Waiting.{Waiting}
use Rattle.ready_pool.specs.Ready.{Ready, is_of, is_waiting, without}
use Rattle.ready_pool.specs.Parts.{PoolParts, HoldsRows, rows_of, place_of, number_of, find, all_key, slot_key, region_key, both_key}
use Rattle.ready_pool.proofs.Holding.{AreLeft, held-left, rows_of-is}
use Rattle.ready_pool.proofs.Put.{seen-held}
use Rattle.ready_pool.proofs.Leave.{has-row, taken-is, taken-waits, none-waits, none-left, one-waits, leave-there, leave-alone, leave-below}
use Rattle.ready_pool.proofs.pool.Pool.remove.Goals as goal

pub returns-in_default-clause-there : goal.returns-in_default-clause-there
returns-in_default-clause-there c =
    let i = c.self.inside in
    let held : PoolParts = record { slots = i.slots; nodes = i.rows; positions = i.positions.items; all = i.all; by_slot = i.by_slot; by_region = i.by_region; by_both = i.by_both } in
    let rows : List Waiting = rows_of i.rows.slots i.all in
    let none : find i.rows.slots i.positions.items c.args.row ≡ None = ap (λ positions. find i.rows.slots positions c.args.row) (sym c.deref.ensures.value) ∙ sym c.find.ensures ∙ c.in_default.is in
    none-waits (length i.positions.items) held rows c.self.invariant c.args.row none ∙ ap (λ (pool : Ready). is_waiting pool c.args.row) c.self.view_is

pub returns-in_default-clause-rest : goal.returns-in_default-clause-rest
returns-in_default-clause-rest c =
    let i = c.self.inside in
    let held : PoolParts = record { slots = i.slots; nodes = i.rows; positions = i.positions.items; all = i.all; by_slot = i.by_slot; by_region = i.by_region; by_both = i.by_both } in
    let rows : List Waiting = rows_of i.rows.slots i.all in
    let none : find i.rows.slots i.positions.items c.args.row ≡ None = ap (λ positions. find i.rows.slots positions c.args.row) (sym c.deref.ensures.value) ∙ sym c.find.ensures ∙ c.in_default.is in
    let ready : List Waiting → Ready = λ all. record { isolation = i.isolation; limit = length i.positions.items; slots = i.slots; rows = all } in
    sym c.self.view_is ∙ ap ready (none-left (length i.positions.items) held rows c.self.invariant c.args.row none) ∙ ap (λ (pool : Ready). without pool c.args.row) c.self.view_is

pub number_of-both-requires-clause-slot : goal.number_of-both-requires-clause-slot
number_of-both-requires-clause-slot c x e =
    let i = c.self.inside in
    let held : PoolParts = record { slots = i.slots; nodes = i.rows; positions = i.positions.items; all = i.all; by_slot = i.by_slot; by_region = i.by_region; by_both = i.by_both } in
    let rows : List Waiting = rows_of i.rows.slots i.all in
    let at : find i.rows.slots i.positions.items c.args.row ≡ Some c.in-Some.position =
    ap (λ positions. find i.rows.slots positions c.args.row) (sym c.deref.ensures.value) ∙ sym c.find.ensures ∙ c.in-Some.is in
    leave-below (length i.positions.items) held rows c.self.invariant c.args.row c.in-Some.position at c.remove-waiting.result c.remove-waiting.ensures.value slot_key i.slots i.by_slot
    c.self.invariant.slots_listed x e

pub number_of-both-requires-clause-place : goal.number_of-both-requires-clause-place
number_of-both-requires-clause-place c x e =
    let i = c.self.inside in
    let held : PoolParts = record { slots = i.slots; nodes = i.rows; positions = i.positions.items; all = i.all; by_slot = i.by_slot; by_region = i.by_region; by_both = i.by_both } in
    let rows : List Waiting = rows_of i.rows.slots i.all in
    let at : find i.rows.slots i.positions.items c.args.row ≡ Some c.in-Some.position =
    ap (λ positions. find i.rows.slots positions c.args.row) (sym c.deref.ensures.value) ∙ sym c.find.ensures ∙ c.in-Some.is in
    let below : x < length i.positions.items =
    leave-below (length i.positions.items) held rows c.self.invariant c.args.row c.in-Some.position at c.remove-waiting.result c.remove-waiting.ensures.value region_key (length i.positions.items)
    i.by_region c.self.invariant.regions_listed x (sym c.place_of-region_place.ensures ∙ e) in
    omega (arith, below, c.self.invariant.few)

pub leave-requires-clause-there : goal.leave-requires-clause-there
leave-requires-clause-there c x e =
    let i = c.self.inside in
    let held : PoolParts = record { slots = i.slots; nodes = i.rows; positions = i.positions.items; all = i.all; by_slot = i.by_slot; by_region = i.by_region; by_both = i.by_both } in
    let rows : List Waiting = rows_of i.rows.slots i.all in
    let at : find i.rows.slots i.positions.items c.args.row ≡ Some c.in-Some.position =
    ap (λ positions. find i.rows.slots positions c.args.row) (sym c.deref.ensures.value) ∙ sym c.find.ensures ∙ c.in-Some.is in
    leave-there (length i.positions.items) held rows c.self.invariant c.args.row c.in-Some.position at c.remove-waiting.result c.remove-waiting.ensures.value all_key 1 i.all
    c.self.invariant.all_listed x e

pub leave-requires-2-clause-there : goal.leave-requires-2-clause-there
leave-requires-2-clause-there c x e =
    let i = c.self.inside in
    let held : PoolParts = record { slots = i.slots; nodes = i.rows; positions = i.positions.items; all = i.all; by_slot = i.by_slot; by_region = i.by_region; by_both = i.by_both } in
    let rows : List Waiting = rows_of i.rows.slots i.all in
    let at : find i.rows.slots i.positions.items c.args.row ≡ Some c.in-Some.position =
    ap (λ positions. find i.rows.slots positions c.args.row) (sym c.deref.ensures.value) ∙ sym c.find.ensures ∙ c.in-Some.is in
    leave-there (length i.positions.items) held rows c.self.invariant c.args.row c.in-Some.position at c.remove-waiting.result c.remove-waiting.ensures.value slot_key i.slots i.by_slot
    c.self.invariant.slots_listed x e

pub leave-requires-2-clause-alone : goal.leave-requires-2-clause-alone
leave-requires-2-clause-alone c l e =
    let i = c.self.inside in
    let held : PoolParts = record { slots = i.slots; nodes = i.rows; positions = i.positions.items; all = i.all; by_slot = i.by_slot; by_region = i.by_region; by_both = i.by_both } in
    let rows : List Waiting = rows_of i.rows.slots i.all in
    let at : find i.rows.slots i.positions.items c.args.row ≡ Some c.in-Some.position =
    ap (λ positions. find i.rows.slots positions c.args.row) (sym c.deref.ensures.value) ∙ sym c.find.ensures ∙ c.in-Some.is in
    leave-alone (length i.positions.items) held rows c.self.invariant c.args.row c.in-Some.position at c.remove-waiting.result c.remove-waiting.ensures.value slot_key i.slots i.by_slot
    c.self.invariant.slots_listed l e

pub leave-requires-3-clause-there : goal.leave-requires-3-clause-there
leave-requires-3-clause-there c x e =
    let i = c.self.inside in
    let held : PoolParts = record { slots = i.slots; nodes = i.rows; positions = i.positions.items; all = i.all; by_slot = i.by_slot; by_region = i.by_region; by_both = i.by_both } in
    let rows : List Waiting = rows_of i.rows.slots i.all in
    let at : find i.rows.slots i.positions.items c.args.row ≡ Some c.in-Some.position =
    ap (λ positions. find i.rows.slots positions c.args.row) (sym c.deref.ensures.value) ∙ sym c.find.ensures ∙ c.in-Some.is in
    leave-there (length i.positions.items) held rows c.self.invariant c.args.row c.in-Some.position at c.remove-waiting.result c.remove-waiting.ensures.value region_key (length i.positions.items)
    i.by_region c.self.invariant.regions_listed x (sym c.place_of-region_place.ensures ∙ e)

pub leave-requires-3-clause-alone : goal.leave-requires-3-clause-alone
leave-requires-3-clause-alone c l e =
    let i = c.self.inside in
    let held : PoolParts = record { slots = i.slots; nodes = i.rows; positions = i.positions.items; all = i.all; by_slot = i.by_slot; by_region = i.by_region; by_both = i.by_both } in
    let rows : List Waiting = rows_of i.rows.slots i.all in
    let at : find i.rows.slots i.positions.items c.args.row ≡ Some c.in-Some.position =
    ap (λ positions. find i.rows.slots positions c.args.row) (sym c.deref.ensures.value) ∙ sym c.find.ensures ∙ c.in-Some.is in
    c.place_of-region_place.ensures ∙
    leave-alone (length i.positions.items) held rows c.self.invariant c.args.row c.in-Some.position at c.remove-waiting.result c.remove-waiting.ensures.value region_key (length i.positions.items)
    i.by_region c.self.invariant.regions_listed l e

pub leave-requires-4-clause-there : goal.leave-requires-4-clause-there
leave-requires-4-clause-there c x e =
    let i = c.self.inside in
    let held : PoolParts = record { slots = i.slots; nodes = i.rows; positions = i.positions.items; all = i.all; by_slot = i.by_slot; by_region = i.by_region; by_both = i.by_both } in
    let rows : List Waiting = rows_of i.rows.slots i.all in
    let at : find i.rows.slots i.positions.items c.args.row ≡ Some c.in-Some.position =
    ap (λ positions. find i.rows.slots positions c.args.row) (sym c.deref.ensures.value) ∙ sym c.find.ensures ∙ c.in-Some.is in
    let number : c.number_of-both.result ≡ number_of i.slots c.remove-waiting.result.made_on (place_of c.remove-waiting.result.region) =
    c.number_of-both.ensures ∙ ap (number_of i.slots c.remove-waiting.result.made_on) c.place_of-region_place.ensures in
    leave-there (length i.positions.items) held rows c.self.invariant c.args.row c.in-Some.position at c.remove-waiting.result c.remove-waiting.ensures.value (both_key i.slots)
    (length i.positions.items * i.slots) i.by_both c.self.invariant.both_listed x (sym number ∙ e)

pub leave-requires-4-clause-alone : goal.leave-requires-4-clause-alone
leave-requires-4-clause-alone c l e =
    let i = c.self.inside in
    let held : PoolParts = record { slots = i.slots; nodes = i.rows; positions = i.positions.items; all = i.all; by_slot = i.by_slot; by_region = i.by_region; by_both = i.by_both } in
    let rows : List Waiting = rows_of i.rows.slots i.all in
    let at : find i.rows.slots i.positions.items c.args.row ≡ Some c.in-Some.position =
    ap (λ positions. find i.rows.slots positions c.args.row) (sym c.deref.ensures.value) ∙ sym c.find.ensures ∙ c.in-Some.is in
    let number : c.number_of-both.result ≡ number_of i.slots c.remove-waiting.result.made_on (place_of c.remove-waiting.result.region) =
    c.number_of-both.ensures ∙ ap (number_of i.slots c.remove-waiting.result.made_on) c.place_of-region_place.ensures in
    number ∙ leave-alone (length i.positions.items) held rows c.self.invariant c.args.row c.in-Some.position at c.remove-waiting.result c.remove-waiting.ensures.value (both_key i.slots)
    (length i.positions.items * i.slots) i.by_both c.self.invariant.both_listed l e

pub remove-waiting-requires : goal.remove-waiting-requires
remove-waiting-requires c =
    let i = c.self.inside in
    let held : PoolParts = record { slots = i.slots; nodes = i.rows; positions = i.positions.items; all = i.all; by_slot = i.by_slot; by_region = i.by_region; by_both = i.by_both } in
    let rows : List Waiting = rows_of i.rows.slots i.all in
    let at : find i.rows.slots i.positions.items c.args.row ≡ Some c.in-Some.position =
    ap (λ positions. find i.rows.slots positions c.args.row) (sym c.deref.ensures.value) ∙ sym c.find.ensures ∙ c.in-Some.is in
    has-row (length i.positions.items) held rows c.self.invariant c.args.row c.in-Some.position at

pub invariant_of-self : goal.invariant_of-self
invariant_of-self c =
    let i = c.self.inside in
    let held : PoolParts = record { slots = i.slots; nodes = i.rows; positions = i.positions.items; all = i.all; by_slot = i.by_slot; by_region = i.by_region; by_both = i.by_both } in
    let rows : List Waiting = rows_of i.rows.slots i.all in
    let at : find i.rows.slots i.positions.items c.args.row ≡ Some c.in-Some.position =
    ap (λ positions. find i.rows.slots positions c.args.row) (sym c.deref.ensures.value) ∙ sym c.find.ensures ∙ c.in-Some.is in
    let w = c.remove-waiting.result in
    let gone = c.remove-waiting.ensures in
    let is = taken-is (length i.positions.items) held rows c.self.invariant c.args.row c.in-Some.position at w gone.value in
    let here = taken-waits (length i.positions.items) held rows c.self.invariant c.args.row c.in-Some.position at w gone.value in
    let position : ℕ = c.self.invariant.seat w in
    let moved : (before after : Lists) → AreLeft c.in-Some.position before after → AreLeft position before after = λ before after. subst (λ p. AreLeft p before after) (sym here.1) in
    let a : AreLeft position i.all c.leave.new.lists = moved i.all c.leave.new.lists (record { left = c.leave.ensures.left; count = c.leave.ensures.count; places = c.leave.ensures.places }) in
    let s : AreLeft position i.by_slot c.leave-2.new.lists =
    moved i.by_slot c.leave-2.new.lists (record { left = c.leave-2.ensures.left; count = c.leave-2.ensures.count; places = c.leave-2.ensures.places }) in
    let r : AreLeft position i.by_region c.leave-3.new.lists =
    moved i.by_region c.leave-3.new.lists (record { left = c.leave-3.ensures.left; count = c.leave-3.ensures.count; places = c.leave-3.ensures.places }) in
    let b : AreLeft position i.by_both c.leave-4.new.lists =
    moved i.by_both c.leave-4.new.lists (record { left = c.leave-4.ensures.left; count = c.leave-4.ensures.count; places = c.leave-4.ensures.places }) in
    let nodes = c.remove-waiting.new.self in
    let after : PoolParts = record {
      slots = i.slots;
      nodes = nodes;
      positions = i.positions.items;
      all = c.leave.new.lists;
      by_slot = c.leave-2.new.lists;
      by_region = c.leave-3.new.lists;
      by_both =
          c.leave-4.new.lists;
    } in
    let stay : List Waiting = filter (λ (w : Waiting). not (is_of c.args.row w)) rows in
    let updates : Updates i.rows nodes position None = subst (λ p. Updates i.rows nodes p None) (sym here.1) gone.updates in
    let kept : HoldsRows (length i.positions.items) after stay =
    held-left (length i.positions.items) held rows c.self.invariant c.args.row w here.0 is nodes updates gone.len gone.capacity c.leave.new.lists c.leave-2.new.lists c.leave-3.new.lists
    c.leave-4.new.lists a s r b in
    seen-held (length i.positions.items) after stay kept

pub returns-clause-there : goal.returns-clause-there
returns-clause-there c =
    let i = c.self.inside in
    let held : PoolParts = record { slots = i.slots; nodes = i.rows; positions = i.positions.items; all = i.all; by_slot = i.by_slot; by_region = i.by_region; by_both = i.by_both } in
    let rows : List Waiting = rows_of i.rows.slots i.all in
    let at : find i.rows.slots i.positions.items c.args.row ≡ Some c.in-Some.position =
    ap (λ positions. find i.rows.slots positions c.args.row) (sym c.deref.ensures.value) ∙ sym c.find.ensures ∙ c.in-Some.is in
    one-waits (length i.positions.items) held rows c.self.invariant c.args.row c.in-Some.position at c.remove-waiting.result c.remove-waiting.ensures.value ∙
    ap (λ (pool : Ready). is_waiting pool c.args.row) c.self.view_is

pub returns-clause-rest : goal.returns-clause-rest
returns-clause-rest c =
    let i = c.self.inside in
    let held : PoolParts = record { slots = i.slots; nodes = i.rows; positions = i.positions.items; all = i.all; by_slot = i.by_slot; by_region = i.by_region; by_both = i.by_both } in
    let rows : List Waiting = rows_of i.rows.slots i.all in
    let at : find i.rows.slots i.positions.items c.args.row ≡ Some c.in-Some.position =
    ap (λ positions. find i.rows.slots positions c.args.row) (sym c.deref.ensures.value) ∙ sym c.find.ensures ∙ c.in-Some.is in
    let w = c.remove-waiting.result in
    let gone = c.remove-waiting.ensures in
    let is = taken-is (length i.positions.items) held rows c.self.invariant c.args.row c.in-Some.position at w gone.value in
    let here = taken-waits (length i.positions.items) held rows c.self.invariant c.args.row c.in-Some.position at w gone.value in
    let position : ℕ = c.self.invariant.seat w in
    let moved : (before after : Lists) → AreLeft c.in-Some.position before after → AreLeft position before after = λ before after. subst (λ p. AreLeft p before after) (sym here.1) in
    let a : AreLeft position i.all c.leave.new.lists = moved i.all c.leave.new.lists (record { left = c.leave.ensures.left; count = c.leave.ensures.count; places = c.leave.ensures.places }) in
    let s : AreLeft position i.by_slot c.leave-2.new.lists =
    moved i.by_slot c.leave-2.new.lists (record { left = c.leave-2.ensures.left; count = c.leave-2.ensures.count; places = c.leave-2.ensures.places }) in
    let r : AreLeft position i.by_region c.leave-3.new.lists =
    moved i.by_region c.leave-3.new.lists (record { left = c.leave-3.ensures.left; count = c.leave-3.ensures.count; places = c.leave-3.ensures.places }) in
    let b : AreLeft position i.by_both c.leave-4.new.lists =
    moved i.by_both c.leave-4.new.lists (record { left = c.leave-4.ensures.left; count = c.leave-4.ensures.count; places = c.leave-4.ensures.places }) in
    let nodes = c.remove-waiting.new.self in
    let after : PoolParts = record {
      slots = i.slots;
      nodes = nodes;
      positions = i.positions.items;
      all = c.leave.new.lists;
      by_slot = c.leave-2.new.lists;
      by_region = c.leave-3.new.lists;
      by_both =
          c.leave-4.new.lists;
    } in
    let stay : List Waiting = filter (λ (w : Waiting). not (is_of c.args.row w)) rows in
    let updates : Updates i.rows nodes position None = subst (λ p. Updates i.rows nodes p None) (sym here.1) gone.updates in
    let kept : HoldsRows (length i.positions.items) after stay =
    held-left (length i.positions.items) held rows c.self.invariant c.args.row w here.0 is nodes updates gone.len gone.capacity c.leave.new.lists c.leave-2.new.lists c.leave-3.new.lists
    c.leave-4.new.lists a s r b in
    let ready : List Waiting → Ready = λ all. record { isolation = i.isolation; limit = length i.positions.items; slots = i.slots; rows = all } in
    ap ready (rows_of-is (length i.positions.items) after stay kept) ∙ ap (λ (pool : Ready). without pool c.args.row) c.self.view_is
