use Rattle.std.proofs.Common.{◌≡◌, ◌<◌, ◌+◌, length, sym, ap, ◌∙◌, subst, rules, arith}
use Rattle.std.proofs.lemmas.List.{map-id}
use Rattle.std.proofs.lemmas.Iterator.Adapters.{YieldsList-from_vec}
use Rattle.std.proofs.lemmas.Iterator.Consumers.{YieldsList-turn, YieldsList-end}
use Rattle.job_language.specs.declared.tenants.Level.TheVariants.{High, Normal, Low}
use Rattle.call_queues.specs.Levels.{LevelReturnsSeen}
use Rattle.call_queues.specs.Queues.{PassSeen, QueuesSeen}
use Rattle.call_queues.proofs.Drains.{all_left, left_by, tail_number, first_number, back_length, back_all, tail_length, passes_first, some_passes}
use Rattle.call_queues.proofs.queues.CallQueues.drain.Goals as goal

pub absorb-requires-in-loop-pass-clause-next : goal.absorb-requires-in-loop-pass-clause-next
absorb-requires-in-loop-pass-clause-next g c =
    let t = YieldsList-turn (YieldsList-from_vec {s = c.into_iter-pass-iterator.result} c.remove.new.self.items (search rules) (search rules)) c.loop-pass.yielded c.loop-pass.pass-iterator
    c.loop-pass.yielded_by c.next.result c.next.new.self c.in-Some.pass c.in-Some.is c.next.ensures.steps in
    let n = tail_number c.args.passes.items c.remove.new.self.items (length c.loop-pass.yielded) c.in-Some.pass c.remove.ensures.items c.requires.numbers t.0 t.1 in
    let m : c.pass.inside.normal.number ≡ length c.loop-pass.yielded + 1 = c.pass.invariant.1 ∙ ap (λ (p : PassSeen). p.number) c.pass.view_is ∙ n in
    let l = back_length (λ p. p.logs.normal) _ _ _ _ (ap (λ (b : LevelReturnsSeen). b.back) c.returns-normal_back.ensures) (ap (λ (b : LevelReturnsSeen). b.back) c.loop-pass.invariant.normal) in
    (m ∙ sym l, subst (λ k. 0 < k) (sym m) (omega arith))

pub absorb-requires-in-loop-pass-2-clause-next : goal.absorb-requires-in-loop-pass-2-clause-next
absorb-requires-in-loop-pass-2-clause-next g c =
    let t = YieldsList-turn (YieldsList-from_vec {s = c.into_iter-pass-iterator.result} c.remove.new.self.items (search rules) (search rules)) c.loop-pass.yielded c.loop-pass.pass-iterator
    c.loop-pass.yielded_by c.next.result c.next.new.self c.in-Some.pass c.in-Some.is c.next.ensures.steps in
    let n = tail_number c.args.passes.items c.remove.new.self.items (length c.loop-pass.yielded) c.in-Some.pass c.remove.ensures.items c.requires.numbers t.0 t.1 in
    let m : c.pass.inside.low.number ≡ length c.loop-pass.yielded + 1 = c.pass.invariant.2 ∙ ap (λ (p : PassSeen). p.number) c.pass.view_is ∙ n in
    let l = back_length (λ p. p.logs.low) _ _ _ _ (ap (λ (b : LevelReturnsSeen). b.back) c.returns-low_back.ensures) (ap (λ (b : LevelReturnsSeen). b.back) c.loop-pass.invariant.low) in
    (m ∙ sym l, subst (λ k. 0 < k) (sym m) (omega arith))

pub drain-requires-clause-all : goal.drain-requires-clause-all
drain-requires-clause-all g c =
    let t = YieldsList-end (YieldsList-from_vec {s = c.into_iter-pass-iterator.result} c.remove.new.self.items (search rules) (search rules)) c.loop-pass.yielded c.loop-pass.pass-iterator
    c.loop-pass.yielded_by c.next.result c.next.new.self c.in-None.is c.next.ensures.steps in
    let some : 0 < length c.args.passes.items = some_passes _ _ _ c.self.invariant.0 (ap (λ (q : QueuesSeen). q.queues.passes) c.self.view_is) c.requires.count in
    let l = back_length (λ p. p.logs.high) _ _ _ _ (ap (λ (b : LevelReturnsSeen). b.back) c.returns-high_back.ensures) (ap (λ (b : LevelReturnsSeen). b.back) c.loop-pass.invariant.high) in
    let n = tail_length c.args.passes.items c.remove.new.self.items c.remove.ensures.items some in
    let z : c.first_high.inside.number ≡ 0 = ap (λ (p : PassSeen). p.number) c.first_high.view_is ∙ first_number c.args.passes.items c.remove.result some c.requires.numbers c.remove.ensures.value in
    let m : c.loop-pass.high_back.made ≡ c.first_high.inside.passes =
    ap (λ (b : LevelReturnsSeen). b.made) c.loop-pass.invariant.high ∙ ap (λ (b : LevelReturnsSeen). b.made) c.returns-high_back.ensures ∙ (c.first_high.invariant.3 z).0 in
    let q : c.first_high.inside.passes ≡ c.args.self.queues.passes =
    ap (λ (p : PassSeen). p.queues.passes) c.first_high.view_is ∙ passes_first c.args.passes.items c.remove.result c.args.self.queues some c.requires.queues c.remove.ensures.value in
    l ∙ ap (λ k. k + 1) t.1 ∙ n ∙ c.requires.count ∙ sym (m ∙ q)

pub drain-requires-2-clause-all : goal.drain-requires-2-clause-all
drain-requires-2-clause-all g c =
    let t = YieldsList-end (YieldsList-from_vec {s = c.into_iter-pass-iterator.result} c.remove.new.self.items (search rules) (search rules)) c.loop-pass.yielded c.loop-pass.pass-iterator
    c.loop-pass.yielded_by c.next.result c.next.new.self c.in-None.is c.next.ensures.steps in
    let some : 0 < length c.args.passes.items = some_passes _ _ _ c.self.invariant.0 (ap (λ (q : QueuesSeen). q.queues.passes) c.self.view_is) c.requires.count in
    let l = back_length (λ p. p.logs.normal) _ _ _ _ (ap (λ (b : LevelReturnsSeen). b.back) c.returns-normal_back.ensures) (ap (λ (b : LevelReturnsSeen). b.back) c.loop-pass.invariant.normal) in
    let n = tail_length c.args.passes.items c.remove.new.self.items c.remove.ensures.items some in
    let z : c.first_high.inside.number ≡ 0 = ap (λ (p : PassSeen). p.number) c.first_high.view_is ∙ first_number c.args.passes.items c.remove.result some c.requires.numbers c.remove.ensures.value in
    let m : c.loop-pass.normal_back.made ≡ c.first_high.inside.passes =
    ap (λ (b : LevelReturnsSeen). b.made) c.loop-pass.invariant.normal ∙ ap (λ (b : LevelReturnsSeen). b.made) c.returns-normal_back.ensures ∙ (c.first_high.invariant.3 z).1 in
    let q : c.first_high.inside.passes ≡ c.args.self.queues.passes =
    ap (λ (p : PassSeen). p.queues.passes) c.first_high.view_is ∙ passes_first c.args.passes.items c.remove.result c.args.self.queues some c.requires.queues c.remove.ensures.value in
    l ∙ ap (λ k. k + 1) t.1 ∙ n ∙ c.requires.count ∙ sym (m ∙ q)

pub drain-requires-3-clause-all : goal.drain-requires-3-clause-all
drain-requires-3-clause-all g c =
    let t = YieldsList-end (YieldsList-from_vec {s = c.into_iter-pass-iterator.result} c.remove.new.self.items (search rules) (search rules)) c.loop-pass.yielded c.loop-pass.pass-iterator
    c.loop-pass.yielded_by c.next.result c.next.new.self c.in-None.is c.next.ensures.steps in
    let some : 0 < length c.args.passes.items = some_passes _ _ _ c.self.invariant.0 (ap (λ (q : QueuesSeen). q.queues.passes) c.self.view_is) c.requires.count in
    let l = back_length (λ p. p.logs.low) _ _ _ _ (ap (λ (b : LevelReturnsSeen). b.back) c.returns-low_back.ensures) (ap (λ (b : LevelReturnsSeen). b.back) c.loop-pass.invariant.low) in
    let n = tail_length c.args.passes.items c.remove.new.self.items c.remove.ensures.items some in
    let z : c.first_high.inside.number ≡ 0 = ap (λ (p : PassSeen). p.number) c.first_high.view_is ∙ first_number c.args.passes.items c.remove.result some c.requires.numbers c.remove.ensures.value in
    let m : c.loop-pass.low_back.made ≡ c.first_high.inside.passes =
    ap (λ (b : LevelReturnsSeen). b.made) c.loop-pass.invariant.low ∙ ap (λ (b : LevelReturnsSeen). b.made) c.returns-low_back.ensures ∙ (c.first_high.invariant.3 z).2 in
    let q : c.first_high.inside.passes ≡ c.args.self.queues.passes =
    ap (λ (p : PassSeen). p.queues.passes) c.first_high.view_is ∙ passes_first c.args.passes.items c.remove.result c.args.self.queues some c.requires.queues c.remove.ensures.value in
    l ∙ ap (λ k. k + 1) t.1 ∙ n ∙ c.requires.count ∙ sym (m ∙ q)

pub returns : goal.returns
returns g c =
    let t = YieldsList-end (YieldsList-from_vec {s = c.into_iter-pass-iterator.result} c.remove.new.self.items (search rules) (search rules)) c.loop-pass.yielded c.loop-pass.pass-iterator
    c.loop-pass.yielded_by c.next.result c.next.new.self c.in-None.is c.next.ensures.steps in
    let y : c.loop-pass.yielded ≡ c.remove.new.self.items = sym (map-id c.loop-pass.yielded) ∙ t.0 in
    let some : 0 < length c.args.passes.items = some_passes _ _ _ c.self.invariant.0 (ap (λ (q : QueuesSeen). q.queues.passes) c.self.view_is) c.requires.count in
    let a = c.drain.ensures.drained in
    let b = c.drain-2.ensures.drained in
    let d = c.drain-3.ensures.drained in
    let i = c.loop-pass.invariant in (
      a.1,
      b.1,
      d.1,
      left_by High _ _ _ _ (back_all (λ p. p.logs.high) _ _ _ c.remove.result _ _ _ some c.remove.ensures.value c.remove.ensures.items y (ap (λ (p : PassSeen). p.logs.high) c.first_high.view_is)
          (ap (λ (b : LevelReturnsSeen). b.back) c.returns-high_back.ensures) (ap (λ (b : LevelReturnsSeen). b.back) i.high)) a.2,
      left_by Normal _ _ _ _ (back_all (λ p. p.logs.normal) _ _ _ c.remove.result _ _ _ some c.remove.ensures.value c.remove.ensures.items y (ap (λ (p : PassSeen). p.logs.normal) c.first_high.view_is)
          (ap (λ (b : LevelReturnsSeen). b.back) c.returns-normal_back.ensures) (ap (λ (b : LevelReturnsSeen). b.back) i.normal)) b.2,
      left_by Low _ _ _ _ (back_all (λ p. p.logs.low) _ _ _ c.remove.result _ _ _ some c.remove.ensures.value c.remove.ensures.items y (ap (λ (p : PassSeen). p.logs.low) c.first_high.view_is)
          (ap (λ (b : LevelReturnsSeen). b.back) c.returns-low_back.ensures) (ap (λ (b : LevelReturnsSeen). b.back) i.low)) d.2,
      all_left _ _ _ _ _ _ _ c.self.invariant.4 a.3 b.3 d.3,
    )
