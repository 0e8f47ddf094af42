-- The answers to the lines of a script, one after another.
use Rattle.std.proofs.Common.{◌≡◌, ℕ, List, [], ◌∷◌, ◌++◌, Option, Some, None, Ok, Err, OnOk, refl, sym, ap, ◌∙◌, append_assoc, subst}
use Rattle.std.specs.Prelude.{Result}
use Rattle.std.specs.Io.KnownBytes.{Appends}
use Rattle.reply_writer.specs.SerialText.{serial_text}
use Rattle.reply_writer.specs.declared.serials.SerialAnswer.{SerialAnswer}
use Rattle.request_reader.specs.Lines.{Line, newline}
use Rattle.dump_lines.proofs.Parts.{appends_nothing}
use Rattle.arena_script.specs.Answered.{AnswersAll}
use Rattle.arena_script.specs.ScriptLines.{input_lines}
use Rattle.arena_script.specs.SerialAnswers.{job_in, serial_answer, serial_answers}
use Rattle.arena_script.specs.declared.inputs.Input.{Input}
use Rattle.arena_script.specs.declared.inputs.Input.TheVariants as input

-- What follows for what is done.
pub on_ok-map : {T E : Type 0} (r : Result T E) (P Q : Type 0) → (P → Q) → OnOk r P → OnOk r Q
on_ok-map (Ok x) P Q f p = f p
on_ok-map (Err e) P Q f p = tt

pub appends_two : (before middle after : Option (List ℕ)) (line rest : List ℕ) → Appends before middle (line ++ newline ∷ []) → Appends middle after rest →
    Appends before after (line ++ newline ∷ rest)
appends_two None middle after line rest first next = tt
appends_two (Some x) None after line rest first next = absurd first
appends_two (Some x) (Some y) None line rest first next = absurd next
appends_two (Some x) (Some y) (Some z) line rest first next =
    next ∙ ap (λ t. t ++ rest) first ∙ append_assoc x (line ++ newline ∷ []) rest ∙ ap (λ t. x ++ t) (append_assoc line (newline ∷ []) rest)

-- What was read is one line, and then come those that are left.
pub next_is_line : (line : Line) (read left left' : List Line) → read ≡ line ∷ [] → left ≡ read ++ left' → left ≡ line ∷ left'
next_is_line line read left left' one here = here ∙ ap (λ ls. ls ++ left') one

-- At the end no lines are left, and all are answered.
pub text_end : (i : Input) (text : List ℕ) (left left' : List Line) (answers : List Line → List ℕ) (known : Option (List ℕ)) → answers [] ≡ [] → i ≡ input.End → left ≡ input_lines i text ++ left' →
    left' ≡ [] → Appends known known (answers left)
text_end i text left left' answers known nothing ended here none =
    let no_lines : left ≡ [] = here ∙ ap (λ e. input_lines e text ++ left') ended ∙ none in
    subst (λ (t : List ℕ). Appends known known t) (sym (ap answers no_lines ∙ nothing)) (appends_nothing known)

-- A line is answered, and then the others.
pub text_step : (before middle after : Option (List ℕ)) (all said rest line : List ℕ) → all ≡ said ++ newline ∷ rest → line ≡ said ++ newline ∷ [] → Appends before middle line →
    Appends middle after rest → Appends before after all
text_step before middle after all said rest line all_is line_is written others =
    subst (λ (t : List ℕ). Appends before after t) (sym all_is)
    (appends_two before middle after said rest (subst (λ (t : List ℕ). Appends before middle t) line_is written) others)

module _ {S : Type 0} (takes : S → Line → List ℕ → S → Type 0) where
  -- A line that is taken and answered, and then the others.
  answers_on : (line : Line) (lines : List Line) (old mid final : S) (said : List ℕ) (before middle after : Option (List ℕ)) → takes old line said mid → Appends before middle (said ++ newline ∷ []) →
      AnswersAll takes lines mid middle after final → AnswersAll takes (line ∷ lines) old before after final
  answers_on line lines old mid final said before middle after taken written others =
      (said ++ newline ∷ others.0, (said, mid, others.0, taken, refl, others.1), appends_two before middle after said others.0 written others.2)

  -- The next line is taken and its answer written, and then the lines that are left.
  pub answers_step : (next : Line) (read left left' : List Line) (old mid final : S) (said line : List ℕ) (before middle after : Option (List ℕ)) → read ≡ next ∷ [] → left ≡ read ++ left' →
      takes old next said mid → line ≡ said ++ newline ∷ [] → Appends before middle line → AnswersAll takes left' mid middle after final → AnswersAll takes left old before after final
  answers_step next read left left' old mid final said line before middle after one here taken told_as written others =
      let written_line : Appends before middle (said ++ newline ∷ []) = subst (λ (t : List ℕ). Appends before middle t) told_as written in
      subst (λ (ls : List Line). AnswersAll takes ls old before after final) (sym (next_is_line next read left left' one here))
      (answers_on next left' old mid final said before middle after taken written_line others)

  -- At the end no lines are left, and all are answered.
  pub answers_end : (i : Input) (text : List ℕ) (left left' : List Line) (s : S) (known : Option (List ℕ)) → i ≡ input.End → left ≡ input_lines i text ++ left' → left' ≡ [] →
      AnswersAll takes left s known known s
  answers_end i text left left' s known ended here none =
      let no_lines : left ≡ [] = here ∙ ap (λ e. input_lines e text ++ left') ended ∙ none in
      subst (λ (ls : List Line). AnswersAll takes ls s known known s) (sym no_lines) ([], (refl, refl), appends_nothing known)

-- The next line is answered with the serial value that it asks, and then the lines that are left.
pub serial_step : (next : Line) (read left left' : List Line) (answer : SerialAnswer) (line : List ℕ) (before middle after : Option (List ℕ)) → read ≡ next ∷ [] → left ≡ read ++ left' →
    answer ≡ serial_answer (job_in next) → line ≡ serial_text answer ++ newline ∷ [] → Appends before middle line → Appends middle after (serial_answers left') →
    Appends before after (serial_answers left)
serial_step next read left left' answer line before middle after one here answered told_as written others =
    let told_here : line ≡ serial_text (serial_answer (job_in next)) ++ newline ∷ [] = told_as ∙ ap (λ a. serial_text a ++ newline ∷ []) answered in
    let written_line : Appends before middle (serial_text (serial_answer (job_in next)) ++ newline ∷ []) = subst (λ (t : List ℕ). Appends before middle t) told_here written in
    subst (λ (ls : List Line). Appends before after (serial_answers ls)) (sym (next_is_line next read left left' one here))
    (appends_two before middle after (serial_text (serial_answer (job_in next))) (serial_answers left') written_line others)
