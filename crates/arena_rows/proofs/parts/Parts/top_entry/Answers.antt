use Rattle.std.proofs.Common.{◌≡◌, ℕ, Some, refl, sym, ap, ◌∙◌}
use Rattle.std.specs.Option.{option_copied}
use Rattle.tenant_model.specs.State.{State}
use Rattle.tenant_model.specs.Walks.{top}
use Rattle.arena_rows.specs.Represents.{at_place, IsRow, Holds}
use Rattle.arena_rows.proofs.Started.{some_is}
use Rattle.arena_rows.proofs.TopRows.{top_within, top_told, top_not_none, top_stands, top_job}
use Rattle.arena_rows.proofs.parts.Parts.top_entry.Goals as goal

pub top-requires : goal.top-requires
top-requires c = top_within c.args.self.now c.args.slot c.requires

pub unreachable-requires : goal.unreachable-requires
unreachable-requires c = top_not_none c.args.self.now c.args.slot (option_copied c.top.result) c.requires c.top.ensures (ap option_copied c.in_default.is)

pub entry_at-requires-clause-within : goal.entry_at-requires-clause-within
entry_at-requires-clause-within c =
    let h = c.requires in
    let told = top_told c.args.self.now h.0 h.2 c.args.slot h.1 (option_copied c.top.result) c.in-Some.top.now h.3 c.top.ensures (ap option_copied c.in-Some.is) in
    rw told (top_stands c.args.self.now h.0 h.2 c.args.slot h.1 h.3).within

pub entry_at-requires-clause-there : goal.entry_at-requires-clause-there
entry_at-requires-clause-there c =
    let h = c.requires in
    let there = (top_stands c.args.self.now h.0 h.2 c.args.slot h.1 h.3).there in
    rw (top_told c.args.self.now h.0 h.2 c.args.slot h.1 (option_copied c.top.result) c.in-Some.top.now h.3 c.top.ensures (ap option_copied c.in-Some.is), there) refl

pub returns : goal.returns
returns c =
    let h = c.requires in
    let entry_is : (s : State) (n : ℕ) (is : Holds c.args.self.now s) → top s.rows c.args.slot ≡ Some n →
    (at_place c.args.self.now.table (is.places n) ≡ Some c.entry_at.result.now) × IsRow s.rows is.places n c.entry_at.result.now = λ s n is on_top.
    let stands = top_stands c.args.self.now s is c.args.slot n on_top in
    let told = top_told c.args.self.now s is c.args.slot n (option_copied c.top.result) c.in-Some.top.now on_top c.top.ensures (ap option_copied c.in-Some.is) in
    let entry : stands.entry ≡ c.entry_at.result.now = some_is stands.entry c.entry_at.result.now (sym stands.there ∙ rw told at c.entry_at.ensures) in
    (stands.there ∙ ap Some entry, rw entry at stands.is) in
    let its_job = (entry_is h.0 h.1 h.2 h.3).1.job in
    let current = top_job c.args.self.now h.0 h.2 c.args.slot h.1 h.3 in
    record { entry = entry_is; current = rw its_job current }
