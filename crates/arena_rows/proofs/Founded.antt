-- What is held at first stands for a tenant that has done nothing yet.
use Rattle.std.proofs.Common.{◌≡◌, ℕ, zero, suc, ◌+◌, ◌*◌, List, [], length, Option, Some, None, true, false, refl, sym, ap, ◌∙◌, arith, get_or, replicate}
use Rattle.std.specs.Prelude.{count_by, sum_by, is_some}
use Rattle.std.specs.Option.{option_map}
use Rattle.std.proofs.lemmas.List.{length-replicate, get_or_default}
use Rattle.job_language.specs.Tenant.{IsValidTenant}
use Rattle.job_language.specs.declared.tenants.Tenant.{Tenant}
use Rattle.cancel_context.specs.Forest.{Binding, IsHeld, binding, held_count}
use Rattle.cancel_context.specs.declared.contexts.TheConstants.{BASE_CONTEXTS, CONTEXTS_PER_ROW}
use Rattle.nest_stack.specs.Nest.{stack}
use Rattle.nest_stack.specs.declared.stack.Nested.{Nested}
use Rattle.tenant_model.specs.State.{empty, row}
use Rattle.tenant_model.specs.Walks.{is_open}
use Rattle.tenant_model.proofs.AttendedSteps.{open_there}
use Rattle.tenant_model.proofs.Steady.{steady_empty}
use Rattle.arena_rows.specs.declared.rows.OpenRow.{OpenRow}
use Rattle.arena_rows.specs.Represents.{at_place, held_by, tagged_of, Nobody, Rests}
use Rattle.arena_rows.specs.Founding.{founded}
use Rattle.arena_rows.proofs.NewJob.{nothing_counted}
use Rattle.arena_rows.proofs.Picking.{unstarted_open}
use Rattle.arena_rows.proofs.Retired.{nothing_summed}
use Rattle.arena_rows.proofs.Started.{some_none}

same_there : {A : Type 0} (n i : ℕ) (x : A) → get_or (replicate n x) i x ≡ x
same_there zero i x = refl
same_there (suc n) zero x = refl
same_there (suc n) (suc i) x = same_there n i x

none_there : (n : ℕ) → is_open (row [] n).phase ≡ true → ⊥
none_there n opened = let there = open_there [] n opened in omega (arith, there)

module _ (c : Tenant) where
  no_entry : (p : ℕ) (e : OpenRow) → at_place (founded c).table p ≡ Some e → ⊥
  no_entry p e here = some_none e (sym here ∙ same_there c.rows p None)

  no_row : (slot : ℕ) → length (stack (founded c).nests slot) ≡ 0
  no_row slot = ap (λ (xs : List Nested). length xs) (same_there c.slots slot [])

  not_held : (d : ℕ) → IsHeld (founded c).contexts d → ⊥
  not_held d held =
      let none : is_some (binding (founded c).contexts d) ≡ false = ap is_some (same_there (BASE_CONTEXTS + CONTEXTS_PER_ROW * c.rows) d None) in
      grind (arith, none, held)

  none_held : held_count (founded c).contexts ≡ 0
  none_held = nothing_counted (λ (b : Option Binding). is_some b) (founded c).contexts
      (λ i d below. ap is_some (get_or_default (founded c).contexts i d None below ∙ same_there (BASE_CONTEXTS + CONTEXTS_PER_ROW * c.rows) i None))

  none_taken : count_by is_some (founded c).table ≡ 0
  none_taken = nothing_counted (λ (o : Option OpenRow). is_some o) (founded c).table (λ i d below. ap is_some (get_or_default (founded c).table i d None below ∙ same_there c.rows i None))

  none_owned : sum_by held_by (founded c).table ≡ 0
  none_owned = nothing_summed held_by (founded c).table None (λ i below. ap held_by (same_there c.rows i None))

  pub founded_rests : IsValidTenant c → Rests (founded c) (empty c)
  founded_rests valid = record {
    holds = record {
      config = refl;
      places = λ n. 0;
      assigned = record { of_row = λ n. 0; of_group = λ n g. None; of_job = λ j. 0; owner = λ d. Nobody };
      made = refl;
      made_jobs = refl;
      table = record { each = λ n opened. absurd (none_there n opened); only = λ p e here. absurd (no_entry p e here) };
      free = record {
        long = length-replicate c.rows None;
        count = sym none_taken;
      };
      nests = record {
        long = length-replicate c.slots [];
        each = λ n slot h live. absurd (none_there n (rw live refl));
        only = λ slot h from to. absurd (omega (arith, from, to, no_row slot));
      };
      tags = record {
        long = length-replicate c.rows None ∙ sym (length-replicate c.rows None);
        each = λ p. same_there c.rows p None ∙ sym (ap (option_map (tagged_of [] (λ n. 0))) (same_there c.rows p None));
      };
      waiting = refl;
      contexts = record {
        of_jobs = λ j kept to. absurd (let from = kept.from in omega (arith, from, to));
        of_rows = λ n opened. absurd (none_there n opened);
        of_groups = λ n g opened few. absurd (none_there n opened);
        bare = λ n g waits. refl;
        owned = λ d held. absurd (not_held d held);
        in_table = λ p e here. absurd (no_entry p e here);
        count = omega (arith, none_held, none_owned);
      };
      room = length-replicate (BASE_CONTEXTS + CONTEXTS_PER_ROW * c.rows) None;
      jobs = record {
        order = λ i k d low below. absurd (omega (arith, below));
        there = λ i d below. absurd (omega (arith, below));
        works = λ i d below. absurd (omega (arith, below));
        all = λ j kept to. absurd (let from = kept.from in omega (arith, from, to));
        many = refl;
        each = λ i d below. absurd (omega (arith, below));
        later = λ n opened. absurd (none_there n opened);
        few = omega arith;
      };
      cells = refl;
      entries = refl;
      epoch = refl;
      steady = steady_empty c valid.most_slots valid.reserved;
    };
    settled = λ n waits. absurd (none_there n (unstarted_open (row [] n).phase waits));
  }
