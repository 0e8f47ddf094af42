-- What is read of a part that a crash left.
use Rattle.std.proofs.Common.{◌≡◌, ℕ, List, [], ◌++◌, Some, sym, ap, ◌∙◌, subst, append_assoc, arith, length-append}
use Rattle.std.proofs.lemmas.List.{take-append-le}
use Rattle.std.specs.List.{All}
use Rattle.std.proofs.lemmas.List.Elements.{All-nil, All-append}
use Rattle.job_language.specs.declared.steps.Entry.{Entry}
use Rattle.job_language.specs.declared.tenants.Tenant.{Tenant}
use Rattle.dump_lines.specs.Dumps.{HasLine, SaysItself, dump_text, entries_text, first_text}
use Rattle.part_lines.specs.Parts.{part_in, IsTornOf}
use Rattle.part_lines.proofs.Torn.{invents_nothing}
use Rattle.part_writer.specs.Moments.{CrashLeaves}
use Rattle.part_writer.specs.Writing.{IsWriting, Recovers}
use Rattle.part_writer.proofs.Lines.{texts_append}

module _ (c : Tenant) (there more : List Entry) (durable pending : List ℕ) (is : IsWriting c there more durable pending) where
  pub recovers : (file : List ℕ) → CrashLeaves durable pending file → Recovers c there more file
  recovers file left =
      let torn : IsTornOf (entries_text more) left.0 = subst (λ (t : List ℕ). IsTornOf t left.0) is.pending_is left.2 in
      let found = invents_nothing c there is.names is.there_lines is.there_says more left.0 is.more_lines is.more_says torn in
      (found.0, found.1, ap part_in (left.1 ∙ ap (λ (t : List ℕ). t ++ left.0) is.durable_is) ∙ found.2)

  pub recovers_more : (es : List Entry) (file : List ℕ) → Recovers c there more file → Recovers c there (more ++ es) file
  recovers_more es file found =
      let few = found.1 in
      (found.0, omega (arith, few, length-append more es), found.2 ∙ ap (λ (x : List Entry). Some (c, there ++ x)) (sym (take-append-le found.0 more es few)))

  pub writing_more : (es : List Entry) (added after : List ℕ) → All HasLine es → All SaysItself es → added ≡ entries_text es → after ≡ pending ++ added → IsWriting c there (more ++ es) durable after
  writing_more es added after lines says text next = record {
    names = is.names;
    there_lines = is.there_lines;
    there_says = is.there_says;
    more_lines = All-append HasLine more es is.more_lines lines;
    more_says = All-append SaysItself more es is.more_says says;
    durable_is = is.durable_is;
    pending_is = next ∙ ap (λ (x : List ℕ). pending ++ x) text ∙ ap (λ (x : List ℕ). x ++ entries_text es) is.pending_is ∙ sym (texts_append more es);
  }

  pub writing_synced : (after rest : List ℕ) → after ≡ durable ++ pending → rest ≡ [] → IsWriting c (there ++ more) [] after rest
  writing_synced after rest next none = record {
    names = is.names;
    there_lines = All-append HasLine there more is.there_lines is.more_lines;
    there_says = All-append SaysItself there more is.there_says is.more_says;
    more_lines = All-nil HasLine;
    more_says = All-nil SaysItself;
    durable_is = next ∙ ap (λ (x : List ℕ). x ++ pending) is.durable_is ∙ ap (λ (x : List ℕ). dump_text c there ++ x) is.pending_is ∙
        append_assoc (first_text c) (entries_text there) (entries_text more) ∙ ap (λ (x : List ℕ). first_text c ++ x) (sym (texts_append there more));
    pending_is = none;
  }
