use Rattle.std.proofs.Common.{◌≡◌, ◌<◌, length, arith, refl, sym, ap, subst, ℕ, true, false, None, Option}
use Rattle.std.specs.Prelude.{is_some, unwrap_or}
use Rattle.job_language.specs.declared.answers.Reply.{Reply}
use Rattle.job_language.specs.declared.answers.Reply.TheVariants as reply
use Rattle.tenant_model.specs.Asks.{ask}
use Rattle.tenant_model.specs.Told.{placed_on}
use Rattle.arena_core.specs.Stands.{Takes}
use Rattle.session_law.proofs.Standing.{asks_at, unplaced}
use Rattle.session_law.proofs.doors.ArenaDoorsDoors.ask.Goals as goal

pub returns-in_default : goal.returns-in_default
returns-in_default c =
    let d = c.args.self.now in
    let within : d.tenant < length d.arenas.items = (let len = d.arenas.ok.0 in omega (arith, len, c.len.ensures, c.if-self-len.false)) in
    let r = c.ask_arena-reply.result in
    let none : placed_on r ≡ None = unplaced r c.in_default.not-Placed in
    record {
      answered = asks_at d _ c.index_mut.result.now c.ask_arena-reply.new.arena within c.index_mut.ensures.value refl refl c.args.request r false (sym (ap (λ (o : Option ℕ). is_some o) none))
          (sym (ap (λ (o : Option ℕ). unwrap_or o d.slot) none)) c.ask_arena-reply.ensures.takes;
      pending = c.ask_arena-reply.ensures.pending;
    }

pub returns-clause-answered : goal.returns-clause-answered
returns-clause-answered c =
    let d = c.args.self.now in
    let within : d.tenant < length d.arenas.items = (let len = d.arenas.ok.0 in omega (arith, len, c.len.ensures, c.if-self-len.false)) in
    let b = c.ask_arena-reply.new.arena in
    asks_at d _ c.index_mut.result.now b within c.index_mut.ensures.value refl refl c.args.request (reply.Placed c.in-Placed.field-0 c.in-Placed.slot) true refl refl
    (λ s stands. subst (λ (r : Reply). Takes b r (ask s c.args.request)) c.in-Placed.is (c.ask_arena-reply.ensures.takes s stands))
