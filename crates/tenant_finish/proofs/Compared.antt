-- An entry of a right history is answered as it says, in the state after those before it; so the first that is not ends what is right.
use Rattle.std.proofs.Common.{◌≡◌, ◌+◌, List, [], ◌∷◌, ◌++◌, length, take, sym, ap, ◌∙◌, true, arith, subst, length-append}
use Rattle.std.proofs.Math.Seq.{take-append_seam, take-append-add}
use Rattle.std.specs.List.{All}
use Rattle.std.proofs.lemmas.List.Elements.{All-head, All-tail}
use Rattle.job_language.specs.Recorded.{is_entry}
use Rattle.job_language.specs.declared.answers.Answer.{Answer}
use Rattle.job_language.specs.declared.steps.Entry.{Entry}
use Rattle.job_language.specs.declared.tenants.Tenant.{Tenant}
use Rattle.tenant_model.specs.Solo.{step, answers, after}
use Rattle.tenant_model.specs.State.{State, empty}
use Rattle.tenant_record.specs.History.{IsHistory, answers_of, steps_of, state_after}
use Rattle.tenant_finish.specs.Recovered.{IsRightEntry}
use Rattle.tenant_finish.specs.Recovering.{IsFirstWrong}

same_first : (a b : Answer) (xs ys : List Answer) → a ∷ xs ≡ b ∷ ys → a ≡ b
same_first a b xs ys same = cc

same_rest : (a b : Answer) (xs ys : List Answer) → a ∷ xs ≡ b ∷ ys → xs ≡ ys
same_rest a b xs ys same = cc

answer_at : (s : State) (ys : List Entry) (e : Entry) (zs : List Entry) → answers s (steps_of (ys ++ e ∷ zs)) ≡ answers_of (ys ++ e ∷ zs) → (step (after s (steps_of ys)) e.step).0 ≡ e.answer
answer_at s [] e zs same = same_first _ _ _ _ same
answer_at s (y ∷ ys) e zs same = answer_at (step s y.step).1 ys e zs (same_rest _ _ _ _ same)

entry_at : (ys : List Entry) (e : Entry) (zs : List Entry) → All (λ (d : Entry). is_entry d.answer ≡ true) (ys ++ e ∷ zs) → is_entry e.answer ≡ true
entry_at [] e zs all = All-head (λ (d : Entry). is_entry d.answer ≡ true) e zs all
entry_at (y ∷ ys) e zs all = entry_at ys e zs (All-tail (λ (d : Entry). is_entry d.answer ≡ true) y (ys ++ e ∷ zs) all)

right_at : (c : Tenant) (ys : List Entry) (e : Entry) → IsHistory c (ys ++ e ∷ []) → IsRightEntry (state_after c ys) e
right_at c ys e is = record { entry = entry_at ys e [] is.all_entries; answer = answer_at (empty c) ys e [] is.answers_are }

pub first_wrong : (c : Tenant) (all ys : List Entry) (e : Entry) (zs : List Entry) → all ≡ ys ++ e ∷ zs → IsHistory c ys → (IsRightEntry (state_after c ys) e → ⊥) → IsFirstWrong c all (length ys)
first_wrong c all ys e zs parted before wrong =
    let front : take (length ys) all ≡ ys = ap (take (length ys)) parted ∙ take-append_seam ys (e ∷ zs) in
    let more : take (length ys + 1) all ≡ ys ++ e ∷ [] = ap (take (length ys + 1)) parted ∙ take-append-add ys (e ∷ zs) 1 in
    let long : length all ≡ length ys + length (e ∷ zs) = ap length parted ∙ length-append ys (e ∷ zs) in
    record {
      there = omega (arith, long);
      before = subst (IsHistory c) (sym front) before;
      wrong = λ is. wrong (right_at c ys e (subst (IsHistory c) more is));
    }
