-- What is held stands for the state with one row more that was posted and is dropped.
use Rattle.std.proofs.Common.{ℕ, None, refl}
use Rattle.job_step.specs.declared.frames.Frame.{Frame}
use Rattle.tenant_model.specs.declared.rows.Kind.TheVariants.{Posted}
use Rattle.tenant_model.specs.declared.rows.Phase.TheVariants.{Dropped}
use Rattle.tenant_model.specs.declared.rows.Row.{Row}
use Rattle.tenant_model.specs.State.{State}
use Rattle.tenant_model.specs.Changes.{new_row, add_row}
use Rattle.tenant_model.specs.Sound.{IsSteady}
use Rattle.arena_rows.specs.Held.{Held}
use Rattle.arena_rows.specs.MarkedGroups.{more_made}
use Rattle.arena_rows.specs.Represents.{Holds, Rests}
use Rattle.arena_rows.proofs.ClosedRow.{IsTableAfter, was, still, closed_holds, closed_settled}
use Rattle.arena_rows.proofs.Pushing.{IsRow-pushed}

module _ (a : Held) (s : State) (rests : Rests a s) (j : ℕ) (f : Frame) (kept : IsSteady (add_row s (new_row Posted j None f Dropped))) where
  abbrev r : Row
  r = new_row Posted j None f Dropped

  abbrev is : Holds a s
  is = rests.holds

  after : IsTableAfter a s is r a.table
  after = record {
    long = refl;
    rows = record {
      each = λ x opened.
          let old = was s r refl x opened in
          let its = is.table.each x old.2 in
          record {
            within = its.within;
            entry = its.entry;
            there = its.there;
            is =
                IsRow-pushed s.rows r is.steady.formed.linked.makers kept.formed.linked.makers is.places x its.entry old.1 (λ h few. refl) its.is;
          };
      only = λ q x here. let its = is.table.only q x here in (still s r x.number its.0, its.1);
    };
    taken = refl;
    tags = λ q. refl;
    contexts = is.contexts.in_table;
    held = refl;
    joins = λ x h none. refl;
  }

  pub post_dropped : Rests (more_made a) (add_row s r)
  post_dropped = record { holds = closed_holds a s is r refl refl a.table after kept; settled = closed_settled a s is r refl refl a.table after kept rests.settled }
