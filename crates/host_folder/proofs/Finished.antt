-- What is known of a part that is finished.
use Rattle.std.proofs.Common.{◌≡◌, ◌≢◌, ℕ, suc, ◌+◌, ◌<◌, ◌≤◌, true, false, true≢false, List, Some, length, take, refl, sym, ap, subst, ◌∙◌, arith}
use Rattle.std.proofs.lemmas.List.{length-take, take_all}
use Rattle.job_language.specs.Tenant.{IsValidTenant}
use Rattle.job_language.specs.declared.steps.Entry.{Entry}
use Rattle.job_language.specs.declared.tenants.Tenant.{Tenant}
use Rattle.part_lines.specs.Parts.{part_in}
use Rattle.tenant_finish.specs.Recovered.{IsFinishedTenant}
use Rattle.tenant_finish.specs.Recovering.{IsFirstWrong}
use Rattle.tenant_record.specs.Replayed.{Replayed}
use Rattle.host_folder.proofs.Prefixes.{first_are}
use Rattle.host_folder.specs.Finishing.{IsFinishedPart}
use Rattle.host_folder.specs.declared.finishing.Finished.{Finished}

module _ (bytes : List ℕ) (c : Tenant) (es : List Entry) (old : Replayed) (f : Finished) (said : part_in bytes ≡ Some (c, es)) (config : f.config ≡ c) (finished : IsFinishedTenant old f.replay) where
  said_there : part_in bytes ≡ Some (f.config, es)
  said_there = said ∙ ap (λ k. Some (k, es)) (sym config)

  pub all_done : old ≡ record { config = c; history = es } → f.is_torn_wrong ≡ false → IsFinishedPart bytes f
  all_done is whole =
      let same : record { config = c; history = es } ≡ record { config = f.config; history = take (length es) es } =
      ap (λ k. record { config = k; history = es }) (sym config) ∙ ap (λ h. record { config = f.config; history = h }) (sym (take_all (length es) es (omega arith))) in record {
        entries = es;
        said = said_there;
        done = length es;
        all = λ e. refl;
        wrong = λ e. absurd (true≢false (sym e ∙ whole));
        finished = subst (λ (r : Replayed). IsFinishedTenant r f.replay) (is ∙ same) finished;
      }

  pub some_done : (right : ℕ) → IsFirstWrong c es right → old ≡ record { config = c; history = take right es } → f.is_torn_wrong ≡ true → IsFinishedPart bytes f
  some_done right first is torn = record {
    entries = es;
    said = said_there;
    done = right;
    all = λ e. absurd (true≢false (sym torn ∙ e));
    wrong = λ e. subst (λ k. IsFirstWrong k es right) (sym config) first;
    finished = subst (λ (r : Replayed). IsFinishedTenant r f.replay) (is ∙ ap (λ k. record { config = k; history = take right es }) (sym config)) finished;
  }

-- Of entries that are all right, none is the first wrong one.
pub none_wrong : (c : Tenant) (es : List Entry) (right k : ℕ) → IsValidTenant c → IsFirstWrong c es right → IsFirstWrong c (take right es) k → ⊥
none_wrong c es right k valid first again = again.wrong (first_are c (take right es) valid first.before (k + 1) (omega (arith, again.there)))
