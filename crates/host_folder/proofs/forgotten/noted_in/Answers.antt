use Rattle.std.proofs.Common.{◌≡◌, ◌++◌, ◌∷◌, Some, None, codes, decimal, sym, ap, ◌∙◌, arith, rules}
use Rattle.std.proofs.lemmas.List.{append_cancel_left, append_cancel_right}
use Rattle.host_folder.proofs.Notes.{last_split_parts, note_cut, noted}
use Rattle.host_folder.proofs.forgotten.noted_in.Goals as goal

pub returns-in_err-note : goal.returns-in_err-note
returns-in_err-note c =
    let is : c.in_ok-text.text.now ≡ c.args.line.now = search rules in
    record {
      said = search rules;
      found = λ front n free utf small e. absurd (note_cut c.args.word.now c.in_ok-text.text.now front n free small (is ∙ e) None c.in_err-note.ensures.cases);
    }

pub returns-in_err-after : goal.returns-in_err-after
returns-in_err-after c =
    let is : c.in_ok-text.text.now ≡ c.args.line.now = search rules in
    record {
      said = search rules;
      found = λ front n free utf small e.
          let cut = note_cut c.args.word.now c.in_ok-text.text.now front n free small (is ∙ e) (Some (c.in_ok-note.field-0-0, c.in_ok-note.note)) c.in_ok-note.ensures.cases in
          absurd (c.in_err-after.ensures (decimal n ++ codes "}") cut.1);
    }

pub returns-in_err-number : goal.returns-in_err-number
returns-in_err-number c =
    let is : c.in_ok-text.text.now ≡ c.args.line.now = search rules in
    record {
      said = search rules;
      found = λ front n free utf small e.
          let cut = note_cut c.args.word.now c.in_ok-text.text.now front n free small (is ∙ e) (Some (c.in_ok-note.field-0-0, c.in_ok-note.note)) c.in_ok-note.ensures.cases in
          let rest = append_cancel_left c.args.word.now c.in_ok-after.field-0.now (decimal n ++ codes "}") (sym c.in_ok-after.ensures ∙ cut.1) in
          absurd (c.in_err-number.ensures.cases (decimal n) rest);
    }

pub returns : goal.returns
returns c =
    let is : c.in_ok-text.text.now ≡ c.args.line.now = search rules in
    let parts = last_split_parts 123 c.in_ok-text.text.now (c.in_ok-note.field-0-0, c.in_ok-note.note) c.in_ok-note.ensures.cases (omega arith) in
    let z = c.in_ok-number.ensures.cases in
    let end : c.in_ok-after.field-0.now ≡ c.in_ok-number.number.now ++ codes "}" = z.1.1 ∙ ap (λ l. l ++ codes "}") (sym z.2) in
    let whole : c.args.line.now ≡ c.in_ok-note.field-0-0.now ++ (123 ∷ (c.args.word.now ++ (c.in_ok-number.number.now ++ codes "}"))) =
    sym is ∙ parts ∙ ap (λ l. c.in_ok-note.field-0-0.now ++ (123 ∷ l)) (c.in_ok-after.ensures ∙ ap (λ l. c.args.word.now ++ l) end) in
    noted c.args.word.now c.args.line.now c.in_ok-note.field-0-0.now c.in_ok-number.number.now whole c.number_in.result c.number_in.ensures
    (λ front n free small e.
    let cut = note_cut c.args.word.now c.in_ok-text.text.now front n free small (is ∙ e) (Some (c.in_ok-note.field-0-0, c.in_ok-note.note)) c.in_ok-note.ensures.cases in
    let rest = append_cancel_left c.args.word.now c.in_ok-after.field-0.now (decimal n ++ codes "}") (sym c.in_ok-after.ensures ∙ cut.1) in
    append_cancel_right c.in_ok-number.number.now (decimal n) (codes "}") (sym end ∙ rest))
