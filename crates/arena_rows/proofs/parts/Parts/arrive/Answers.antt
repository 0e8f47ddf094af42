use Rattle.std.proofs.Common.{◌≡◌, nat_le, Option, Some, None, true, false, refl, sym, ap, ◌∙◌, arith}
use Rattle.std.specs.Option.{option_map}
use Rattle.job_language.specs.declared.tenants.Tenant.{Tenant}
use Rattle.ready_pool.specs.Ready.{Ready}
use Rattle.tenant_model.specs.Walks.{pick}
use Rattle.tenant_model.specs.Changes.{is_full, nest}
use Rattle.tenant_model.specs.Advance.{is_open_to_workers}
use Rattle.arena_rows.specs.Represents.{id_of}
use Rattle.arena_rows.proofs.Picking.{picked_is}
use Rattle.arena_rows.proofs.Taken.{pick_taken}
use Rattle.arena_rows.proofs.parts.Parts.arrive.Goals as goal

none_before : {A B : Type 0} (f : A → B) (o : Option A) → option_map f o ≡ None → o ≡ None
none_before f None none = refl
none_before f (Some x) none = absurd (grind (arith, none))

pub pick-requires-clause-slot : goal.pick-requires-clause-slot
pick-requires-clause-slot c = omega (arith, c.is_open_to_workers.ensures.within c.if-not-is_open_to_workers.false, c.requires.1.holds.nests.long)

pub pick-requires-clause-slots : goal.pick-requires-clause-slots
pick-requires-clause-slots c =
    let slots = ap (λ (p : Ready). p.slots) c.requires.1.holds.waiting in
    omega (arith, c.is_open_to_workers.ensures.within c.if-not-is_open_to_workers.false, slots)

pub returns-in_default : goal.returns-in_default
returns-in_default c = λ s rests.
    let opens : is_open_to_workers s c.args.slot ≡ true = sym (c.is_open_to_workers.ensures.value s rests) ∙ c.if-not-is_open_to_workers.false in
    let none : pick s c.args.slot ≡ None = none_before (id_of rests.holds.places) (pick s c.args.slot) (sym (picked_is c.args.self.now s rests c.args.slot) ∙ sym c.pick.ensures ∙ c.in_default.is) in
    rw (opens, none) (refl, rests)

pub returns-then-is_full : goal.returns-then-is_full
returns-then-is_full c = λ s rests.
    let a = c.args.self.now in
    let slot = c.args.slot in
    let opens : is_open_to_workers s slot ≡ true = sym (c.is_open_to_workers.ensures.value s rests) ∙ c.if-not-is_open_to_workers.false in
    let taken : pick s slot ≡ Some c.in-Some.row.number = pick_taken a s rests slot c.in-Some.row (sym c.pick.ensures ∙ c.in-Some.is) in
    let same : nat_le a.config.steps a.entries ≡ is_full s = ap (λ (t : Tenant). nat_le t.steps a.entries) rests.holds.config ∙ ap (nat_le s.config.steps) rests.holds.entries in
    let full : is_full s ≡ true = sym same ∙ sym c.is_full.ensures ∙ c.if-is_full.true in
    rw (opens, taken, full) (refl, rests)

pub nest-requires-clause-slot : goal.nest-requires-clause-slot
nest-requires-clause-slot c = c.is_open_to_workers.ensures.within c.if-not-is_open_to_workers.false

pub nest-requires-clause-height : goal.nest-requires-clause-height
nest-requires-clause-height c = omega (arith, c.is_open_to_workers.ensures.empty c.if-not-is_open_to_workers.false)

pub returns : goal.returns
returns c = λ s rests.
    let a = c.args.self.now in
    let slot = c.args.slot in
    let opens : is_open_to_workers s slot ≡ true = sym (c.is_open_to_workers.ensures.value s rests) ∙ c.if-not-is_open_to_workers.false in
    let taken : pick s slot ≡ Some c.in-Some.row.number = pick_taken a s rests slot c.in-Some.row (sym c.pick.ensures ∙ c.in-Some.is) in
    let same : nat_le a.config.steps a.entries ≡ is_full s = ap (λ (t : Tenant). nat_le t.steps a.entries) rests.holds.config ∙ ap (nat_le s.config.steps) rests.holds.entries in
    let room : is_full s ≡ false = sym same ∙ sym c.is_full.ensures ∙ c.if-is_full.false in
    let nested = c.nest.ensures s rests in
    let counted = c.enter.ensures (nest s slot c.in-Some.row.number) nested.1 in
    rw (opens, taken, room) (refl, counted)
