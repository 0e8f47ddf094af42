use Rattle.std.proofs.Common.{ℕ, ◌+◌, inl, inr, None, sym, subst, arith}
use Rattle.std.proofs.lemmas.Bool.{cases_eq}
use Rattle.tenant_record.specs.Cell.{CellData}
use Rattle.tenant_record.specs.Closing.{IsSlotFault, AreWhole}
use Rattle.tenant_record.proofs.closing.first_slot_fault.Goals as goal

-- one slot more with which nothing is wrong
whole_more : (c : CellData) (n : ℕ) → AreWhole c n → IsSlotFault c n None → AreWhole c (n + 1)
whole_more c n whole next slot low = elim (cases_eq slot n) [
  | inl same ↦ subst (λ k. IsSlotFault c k None) (sym same) next
  | inr differs ↦ whole slot (omega (arith, low, differs))
]

pub loop-slot-preserved : goal.loop-slot-preserved
loop-slot-preserved c = whole_more c.args.cell.now c.loop-slot.slot c.loop-slot.invariant c.in_default.ensures
