use Rattle.std.proofs.Common.{◌≡◌, ◌||◌, arith}
use Rattle.task_group.specs.Groups.{group}
use Rattle.arena_rows.proofs.Counters.{used_told}
use Rattle.arena_rows.proofs.parts.Parts.has_used_group.Goals as goal
use Rattle.arena_rows.proofs.parts.Parts.has_used_group.Goals.{then-is_used, else-is_used, then-is_used-2, else-is_used-2}

pub returns-then-is_used-3 : goal.returns-then-is_used-3
returns-then-is_used-3 c = λ s n is on_top.
    let groups = c.top_entry.result.now.groups in
    let told = used_told c.args.self.now s is n c.top_entry.result.now (c.top_entry.ensures.entry s n is on_top).1 in
    let two : c.if-is_used.value ≡ ((group groups 0).is_used || (group groups 1).is_used) = elim c.if-is_used.branch [
      | then-is_used w ↦ grind (arith, w.value-is, w.if-is_used.true, c.is_used.ensures)
      | else-is_used w ↦ grind (arith, w.value-is, w.if-is_used.false, c.is_used.ensures, w.is_used-else-is_used.ensures)
    ] in
    let three : c.if-is_used-2.value ≡ (c.if-is_used.value || (group groups 2).is_used) = elim c.if-is_used-2.branch [
      | then-is_used-2 w ↦ grind (arith, w.value-is, w.if-is_used-2.true)
      | else-is_used-2 w ↦ grind (arith, w.value-is, w.if-is_used-2.false, w.is_used-else-is_used-2.ensures)
    ] in
    grind (arith, told, two, three, c.if-is_used-3.true)

pub returns-else-is_used-3 : goal.returns-else-is_used-3
returns-else-is_used-3 c = λ s n is on_top.
    let groups = c.top_entry.result.now.groups in
    let told = used_told c.args.self.now s is n c.top_entry.result.now (c.top_entry.ensures.entry s n is on_top).1 in
    let two : c.if-is_used.value ≡ ((group groups 0).is_used || (group groups 1).is_used) = elim c.if-is_used.branch [
      | then-is_used w ↦ grind (arith, w.value-is, w.if-is_used.true, c.is_used.ensures)
      | else-is_used w ↦ grind (arith, w.value-is, w.if-is_used.false, c.is_used.ensures, w.is_used-else-is_used.ensures)
    ] in
    let three : c.if-is_used-2.value ≡ (c.if-is_used.value || (group groups 2).is_used) = elim c.if-is_used-2.branch [
      | then-is_used-2 w ↦ grind (arith, w.value-is, w.if-is_used-2.true)
      | else-is_used-2 w ↦ grind (arith, w.value-is, w.if-is_used-2.false, w.is_used-else-is_used-2.ensures)
    ] in
    grind (arith, told, two, three, c.if-is_used-3.false, c.is_used-else-is_used-3.ensures)
