use Rattle.std.proofs.Common.{◌≡◌, List, ◌∷◌, ◌++◌, length, ap, ◌∙◌, sym, subst}
use Rattle.job_language.specs.declared.steps.Entry.{Entry}
use Rattle.tenant_finish.proofs.Compared.{first_wrong}
use Rattle.tenant_finish.proofs.recovering.recover_tenant.Goals as goal
use Rattle.tenant_finish.specs.Recovered.{IsRightEntry}
use Rattle.tenant_finish.specs.Recovering.{IsFirstWrong}
use Rattle.tenant_record.specs.History.{IsHistory}
use Rattle.tenant_record.specs.Replayed.{Replayed, state_of}

pub returns-then-not-branch : goal.returns-then-not-branch
returns-then-not-branch c =
    let all = c.args.entries.items in
    let before = c.loop-entry.yielded in
    let e = c.in-Some.entry in
    let rest = c.next.new.self.rest.items in
    let parted : all ≡ before ++ e ∷ rest = c.loop-entry.invariant.parted ∙ ap (λ (x : List Entry). before ++ x) c.in-Some.ensures.steps.0 in
    let is : IsHistory c.args.config before = subst (λ (r : Replayed). IsHistory r.config r.history) c.loop-entry.invariant.taken c.history-right.ensures.right in
    let wrong : IsRightEntry (state_of (record { config = c.args.config; history = before })) e → ⊥ =
    subst (λ (r : Replayed). IsRightEntry (state_of r) e → ⊥) c.loop-entry.invariant.taken (c.in_ok-take_entry.ensures.wrong c.if-not-branch.true) in
    let so_far : c.history-right.result.now ≡ before = c.history-right.ensures.value ∙ ap (λ (r : Replayed). r.history) c.loop-entry.invariant.taken in
    subst (λ (h : List Entry). IsFirstWrong c.args.config all (length h)) (sym so_far) (first_wrong c.args.config all before e rest parted is wrong)
