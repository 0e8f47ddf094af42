use Rattle.std.proofs.Common.{◌≡◌, ◌++◌, take}
use Rattle.tenant_lock.proofs.copies.copy_all.Given as goal

abbrev pub invariant-loop-entry : goal.invariant-loop-entry
invariant-loop-entry l = l.copies.items ≡ l.initial.copies.items ++ take l.entry-index l.entries
