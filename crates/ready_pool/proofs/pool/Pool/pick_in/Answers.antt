use Rattle.std.proofs.Common.{◌≡◌, ◌<◌, true, false, Some, None, length, unwrap_or, sym, ◌∙◌, ap, subst}
use Rattle.std.specs.Option.{option_copied, option_map}
use Rattle.region_tag.specs.Region.{same_region}
use Rattle.ready_pool.specs.declared.pool.Waiting.{Waiting}
use Rattle.ready_pool.specs.Ready.{Ready}
use Rattle.ready_pool.specs.Parts.{PoolParts, row_at, rows_of}
use Rattle.ready_pool.proofs.Chosen.{id_at, chosen, of_region, exact-is, exact-none, exact-other, exact-chosen, first-there, not-true, not-false}
use Rattle.ready_pool.proofs.pool.Pool.pick_in.Goals as goal

pub returns-in_err-first : goal.returns-in_err-first
returns-in_err-first c regions e =
    let i = c.self.inside in
    let held : PoolParts = record { slots = i.slots; nodes = i.rows; positions = i.positions.items; all = i.all; by_slot = i.by_slot; by_region = i.by_region; by_both = i.by_both } in
    let none = exact-none (length i.positions.items) held (rows_of i.rows.slots i.all) c.self.invariant c.args.slot c.args.region (c.in_err-first.ensures) in
    c.from_residual.ensures ∙ subst (λ (pool : Ready). None ≡ chosen c.args.slot (of_region c.args.region pool.rows)) c.self.view_is none ∙
    sym (exact-is c.args.self.now regions c.args.slot c.args.region e)

pub returns-in_err-oldest : goal.returns-in_err-oldest
returns-in_err-oldest c regions e =
    let i = c.self.inside in
    let held : PoolParts = record { slots = i.slots; nodes = i.rows; positions = i.positions.items; all = i.all; by_slot = i.by_slot; by_region = i.by_region; by_both = i.by_both } in
    let at : row_at i.rows.slots c.in_ok-first.first ≡ None = sym c.row_at.ensures ∙ ap option_copied c.in_err-oldest.was in
    absurd (first-there (length i.positions.items) held (rows_of i.rows.slots i.all) c.self.invariant c.args.slot c.args.region c.in_ok-first.first (c.in_ok-first.ensures) at)

pub returns-then-ne : goal.returns-then-ne
returns-then-ne c regions e =
    let i = c.self.inside in
    let held : PoolParts = record { slots = i.slots; nodes = i.rows; positions = i.positions.items; all = i.all; by_slot = i.by_slot; by_region = i.by_region; by_both = i.by_both } in
    let at : row_at i.rows.slots c.in_ok-first.first ≡ Some c.in_ok-oldest.oldest.now = sym c.row_at.ensures ∙ ap option_copied c.in_ok-oldest.was in
    let other : same_region c.in_ok-oldest.oldest.now.region (Some c.args.region) ≡ false = not-true (same_region c.in_ok-oldest.oldest.now.region (Some c.args.region)) (c.if-ne.ensures) in
    let none = exact-other (length i.positions.items) held (rows_of i.rows.slots i.all) c.self.invariant c.args.slot c.args.region c.in_ok-first.first (c.in_ok-first.ensures) c.in_ok-oldest.oldest.now
    at other in
    subst (λ (pool : Ready). None ≡ chosen c.args.slot (of_region c.args.region pool.rows)) c.self.view_is none ∙ sym (exact-is c.args.self.now regions c.args.slot c.args.region e)

pub returns-in_err-row_at : goal.returns-in_err-row_at
returns-in_err-row_at c regions e =
    let i = c.self.inside in
    let held : PoolParts = record { slots = i.slots; nodes = i.rows; positions = i.positions.items; all = i.all; by_slot = i.by_slot; by_region = i.by_region; by_both = i.by_both } in
    let at : row_at i.rows.slots c.in_ok-first.first ≡ Some c.in_ok-oldest.oldest.now = sym c.row_at.ensures ∙ ap option_copied c.in_ok-oldest.was in
    let own : same_region c.in_ok-oldest.oldest.now.region (Some c.args.region) ≡ true = not-false (same_region c.in_ok-oldest.oldest.now.region (Some c.args.region)) (c.if-ne.ensures) in
    let below : c.args.slot < i.slots = subst (λ (pool : Ready). c.args.slot < pool.slots) (sym c.self.view_is) c.requires in
    let value = exact-chosen (length i.positions.items) held (rows_of i.rows.slots i.all) c.self.invariant c.args.slot c.args.region c.in_ok-first.first (c.in_ok-first.ensures)
    c.in_ok-oldest.oldest.now at own below c.unwrap_or.result (c.unwrap_or.ensures ∙ ap (λ o. unwrap_or o c.in_ok-first.first) c.last-newest.ensures) in
    let there : row_at i.rows.slots c.unwrap_or.result ≡ None = sym c.row_at-2.ensures ∙ ap option_copied c.in_err-row_at.was in
    c.from_residual-in_err-row_at.ensures ∙ sym (ap (option_map (λ (w : Waiting). w.row)) there) ∙
    subst (λ (pool : Ready). id_at i.rows.slots c.unwrap_or.result ≡ chosen c.args.slot (of_region c.args.region pool.rows)) c.self.view_is value ∙
    sym (exact-is c.args.self.now regions c.args.slot c.args.region e)

pub returns : goal.returns
returns c regions e =
    let i = c.self.inside in
    let held : PoolParts = record { slots = i.slots; nodes = i.rows; positions = i.positions.items; all = i.all; by_slot = i.by_slot; by_region = i.by_region; by_both = i.by_both } in
    let at : row_at i.rows.slots c.in_ok-first.first ≡ Some c.in_ok-oldest.oldest.now = sym c.row_at.ensures ∙ ap option_copied c.in_ok-oldest.was in
    let own : same_region c.in_ok-oldest.oldest.now.region (Some c.args.region) ≡ true = not-false (same_region c.in_ok-oldest.oldest.now.region (Some c.args.region)) (c.if-ne.ensures) in
    let below : c.args.slot < i.slots = subst (λ (pool : Ready). c.args.slot < pool.slots) (sym c.self.view_is) c.requires in
    let value = exact-chosen (length i.positions.items) held (rows_of i.rows.slots i.all) c.self.invariant c.args.slot c.args.region c.in_ok-first.first (c.in_ok-first.ensures)
    c.in_ok-oldest.oldest.now at own below c.unwrap_or.result (c.unwrap_or.ensures ∙ ap (λ o. unwrap_or o c.in_ok-first.first) c.last-newest.ensures) in
    let there : row_at i.rows.slots c.unwrap_or.result ≡ Some c.in_ok-row_at.field-0.now = sym c.row_at-2.ensures ∙ ap option_copied c.in_ok-row_at.was in
    sym (ap (option_map (λ (w : Waiting). w.row)) there) ∙
    subst (λ (pool : Ready). id_at i.rows.slots c.unwrap_or.result ≡ chosen c.args.slot (of_region c.args.region pool.rows)) c.self.view_is value ∙
    sym (exact-is c.args.self.now regions c.args.slot c.args.region e)
