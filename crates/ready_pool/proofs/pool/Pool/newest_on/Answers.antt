use Rattle.std.proofs.Common.{◌≡◌, Some, None, length, filter, sym, ◌∙◌, ap, subst}
use Rattle.std.specs.Option.{option_copied, option_map}
use Rattle.ready_pool.specs.declared.pool.Waiting.{Waiting}
use Rattle.ready_pool.specs.Ready.{Ready, is_made_on, last_or}
use Rattle.ready_pool.specs.Parts.{PoolParts, row_at, rows_of}
use Rattle.ready_pool.proofs.Chosen.{newest-slot, newest-slot-none}
use Rattle.ready_pool.proofs.pool.Pool.newest_on.Goals as goal

pub returns-in_err-position : goal.returns-in_err-position
returns-in_err-position c =
    let i = c.self.inside in
    let held : PoolParts = record { slots = i.slots; nodes = i.rows; positions = i.positions.items; all = i.all; by_slot = i.by_slot; by_region = i.by_region; by_both = i.by_both } in
    let none = newest-slot-none (length i.positions.items) held (rows_of i.rows.slots i.all) c.self.invariant c.args.slot (c.in_err-position.ensures) in
    subst (λ (pool : Ready). c.from_residual.result ≡ last_or None (filter (λ (w : Waiting). is_made_on c.args.slot w.made_on) pool.rows)) c.self.view_is (c.from_residual.ensures ∙ none)

pub returns-in_err-row_at : goal.returns-in_err-row_at
returns-in_err-row_at c =
    let i = c.self.inside in
    let held : PoolParts = record { slots = i.slots; nodes = i.rows; positions = i.positions.items; all = i.all; by_slot = i.by_slot; by_region = i.by_region; by_both = i.by_both } in
    let value = newest-slot (length i.positions.items) held (rows_of i.rows.slots i.all) c.self.invariant c.args.slot c.in_ok-position.position (c.in_ok-position.ensures) in
    let at : row_at i.rows.slots c.in_ok-position.position ≡ None = sym c.row_at.ensures ∙ ap option_copied c.in_err-row_at.was in
    subst (λ (pool : Ready). c.from_residual-in_err-row_at.result ≡ last_or None (filter (λ (w : Waiting). is_made_on c.args.slot w.made_on) pool.rows)) c.self.view_is
    (c.from_residual-in_err-row_at.ensures ∙ sym (ap (option_map (λ (w : Waiting). w.row)) at) ∙ value)

pub returns : goal.returns
returns c =
    let i = c.self.inside in
    let held : PoolParts = record { slots = i.slots; nodes = i.rows; positions = i.positions.items; all = i.all; by_slot = i.by_slot; by_region = i.by_region; by_both = i.by_both } in
    let value = newest-slot (length i.positions.items) held (rows_of i.rows.slots i.all) c.self.invariant c.args.slot c.in_ok-position.position (c.in_ok-position.ensures) in
    let at : row_at i.rows.slots c.in_ok-position.position ≡ Some c.in_ok-row_at.field-0.now = sym c.row_at.ensures ∙ ap option_copied c.in_ok-row_at.was in
    subst (λ (pool : Ready). Some c.in_ok-row_at.field-0.now.row ≡ last_or None (filter (λ (w : Waiting). is_made_on c.args.slot w.made_on) pool.rows)) c.self.view_is
    (sym (ap (option_map (λ (w : Waiting). w.row)) at) ∙ value)
