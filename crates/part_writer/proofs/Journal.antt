-- What is read of a journal that a crash left.
use Rattle.std.proofs.Common.{◌≡◌, ℕ, List, [], ◌∷◌, ◌++◌, map, Some, Result, Ok, Err, OnOk, IfOk, refl, sym, ap, ◌∙◌, subst, append_assoc, arith, length-append, string_bytes}
use Rattle.std.specs.Prelude.{String}
use Rattle.std.specs.declared.alloc.Global.{Global}
use Rattle.std.proofs.lemmas.List.{take-append-le}
use Rattle.std.specs.List.{All}
use Rattle.std.proofs.lemmas.List.Elements.{All-nil, All-cons, All-append, All-head, All-tail}
use Rattle.serde_json.specs.Written.{compact_text}
use Rattle.job_language.specs.declared.steps.Entry.{Entry}
use Rattle.job_language.specs.declared.tenants.Tenant.{Tenant}
use Rattle.dump_lines.specs.Dumps.{HasLine, NamesItself, SaysItself, entries_text, entry_text, first_text, line_text}
use Rattle.dump_lines.specs.Requests.{tenant_in}
use Rattle.dump_lines.specs.Written.{first_data}
use Rattle.part_lines.specs.Parts.{IsTornOf}
use Rattle.part_lines.specs.Journals.{Mark, names, says, IsMark, journal_in, mark_text, marks_text}
use Rattle.part_lines.proofs.Journal.{marks_torn}
use Rattle.part_writer.specs.Journals.{IsJournal, RecoversMarks, slice}
use Rattle.part_writer.specs.Moments.{CrashLeaves}

pub marks_append : (ms ns : List Mark) → marks_text (ms ++ ns) ≡ marks_text ms ++ marks_text ns
marks_append [] ns = refl
marks_append (m ∷ ms) ns = ap (λ (t : List ℕ). mark_text m ++ t) (marks_append ms ns) ∙ sym (append_assoc (mark_text m) (marks_text ms) (marks_text ns))

said_text : (es : List Entry) → marks_text (map (λ (e : Entry). says e) es) ≡ entries_text es
said_text [] = refl
said_text (e ∷ es) = ap (λ (t : List ℕ). entry_text e ++ t) (said_text es)

said_marks : (es : List Entry) → All HasLine es → All SaysItself es → All IsMark (map (λ (e : Entry). says e) es)
said_marks [] lines says_so = All-nil IsMark
said_marks (e ∷ es) lines says_so =
    All-cons IsMark (says e) (map (λ (e : Entry). says e) es) (All-head HasLine e es lines, All-head SaysItself e es says_so)
    (said_marks es (All-tail HasLine e es lines) (All-tail SaysItself e es says_so))

pub slice_marks : {A E : Type 0} (result : Result A E) (c : Tenant) (es : List Entry) (first : List ℕ) → first ≡ compact_text (first_data c) → tenant_in first ≡ Some c → All HasLine es →
    All SaysItself es → OnOk result (All IsMark (slice c es))
slice_marks (Ok it) c es first is names_it lines says_so =
    let named : NamesItself c = rw is at names_it in
    All-cons IsMark (names c) (map (λ (e : Entry). says e) es) named (said_marks es lines says_so)
slice_marks (Err it) c es first is names_it lines says_so = tt

pub slice_text : {E : Type 0} (result : Result (String Global) E) (c : Tenant) (es : List Entry) (first rest : List ℕ) → first ≡ compact_text (first_data c) → rest ≡ entries_text es →
    IfOk result (λ text. string_bytes text ≡ line_text first ++ rest) → IfOk result (λ text. string_bytes text ≡ marks_text (slice c es))
slice_text (Ok text) c es first rest is are so =
    so ∙ ap (λ (t : List ℕ). line_text t ++ rest) is ∙ ap (λ (t : List ℕ). first_text c ++ t) are ∙ ap (λ (t : List ℕ). first_text c ++ t) (sym (said_text es))
slice_text (Err e) c es first rest is are so = tt

module _ (there more : List Mark) (durable pending : List ℕ) (is : IsJournal there more durable pending) where
  pub recovers_marks : (file : List ℕ) → CrashLeaves durable pending file → RecoversMarks there more file
  recovers_marks file left =
      let torn : IsTornOf (marks_text more) left.0 = subst (λ (t : List ℕ). IsTornOf t left.0) is.pending_is left.2 in
      let found = marks_torn there is.there_marks more left.0 is.more_marks torn in
      (found.0, found.1, ap journal_in (left.1 ∙ ap (λ (t : List ℕ). t ++ left.0) is.durable_is) ∙ found.2)

  pub recovers_more : (ms : List Mark) (file : List ℕ) → RecoversMarks there more file → RecoversMarks there (more ++ ms) file
  recovers_more ms file found =
      let few = found.1 in
      (found.0, omega (arith, few, length-append more ms), found.2 ∙ ap (λ (x : List Mark). there ++ x) (sym (take-append-le found.0 more ms few)))

  pub journal_more : (ms : List Mark) (added after : List ℕ) → All IsMark ms → added ≡ marks_text ms → after ≡ pending ++ added → IsJournal there (more ++ ms) durable after
  journal_more ms added after marks text next = record {
    there_marks = is.there_marks;
    more_marks = All-append IsMark more ms is.more_marks marks;
    durable_is = is.durable_is;
    pending_is = next ∙ ap (λ (x : List ℕ). pending ++ x) text ∙ ap (λ (x : List ℕ). x ++ marks_text ms) is.pending_is ∙ sym (marks_append more ms);
  }

  journal_synced : (after rest : List ℕ) → after ≡ durable ++ pending → rest ≡ [] → IsJournal (there ++ more) [] after rest
  journal_synced after rest next none = record {
    there_marks = All-append IsMark there more is.there_marks is.more_marks;
    more_marks = All-nil IsMark;
    durable_is = next ∙ ap (λ (x : List ℕ). x ++ pending) is.durable_is ∙ ap (λ (x : List ℕ). marks_text there ++ x) is.pending_is ∙ sym (marks_append there more);
    pending_is = none;
  }

  pub if_synced : {A E : Type 0} (result : Result A E) (after rest : List ℕ) → OnOk result (after ≡ durable ++ pending) → OnOk result (rest ≡ []) →
      OnOk result (IsJournal (there ++ more) [] after rest)
  if_synced (Ok it) after rest next none = journal_synced after rest next none
  if_synced (Err it) after rest next none = tt

  pub if_added : {A E : Type 0} (result : Result A E) (ms : List Mark) (added still after : List ℕ) → All IsMark ms → added ≡ marks_text ms → still ≡ durable → OnOk result (after ≡ pending ++ added) →
      OnOk result (IsJournal there (more ++ ms) still after)
  if_added (Ok it) ms added still after marks text same next = rw same (journal_more ms added after marks text next)
  if_added (Err it) ms added still after marks text same next = tt
