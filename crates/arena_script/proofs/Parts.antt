-- The first part of what answers the lines of a script.
use Rattle.std.proofs.Common.{◌≡◌, ℕ, ◌+◌, List, [], ◌∷◌, ◌++◌, length, take, Option, Some, None, refl, sym, ap, ◌∙◌, append_assoc, subst, arith}
use Rattle.std.proofs.Math.Seq.{take-append-add}
use Rattle.std.proofs.lemmas.List.{take-append-le}
use Rattle.std.specs.Io.KnownBytes.{Appends}
use Rattle.reply_writer.specs.SerialText.{serial_text}
use Rattle.reply_writer.specs.declared.serials.SerialAnswer.{SerialAnswer}
use Rattle.request_reader.specs.Lines.{Line, whole, too_long, newline}
use Rattle.dump_lines.specs.Parts.{AppendsFewer, AppendsPart}
use Rattle.dump_lines.proofs.Parts.{appends_nothing, part_none}
use Rattle.arena_script.specs.Answered.{Answered, AnswersPart, AnswersLater, StartsFrom}
use Rattle.arena_script.specs.SerialAnswers.{job_in, serial_answer, serial_answers}
use Rattle.arena_script.proofs.Answering.{appends_two, next_is_line}

-- Every line can be taken.
abbrev pub TakesAll : {S : Type 0} → (takes : S → Line → List ℕ → S → Type 0) → Type 0
TakesAll {S = S} takes = (line : Line) (s : S) → (said : List ℕ) × (mid : S) × takes s line said mid

-- A line is written, and a part of the rest.
part_on : (before middle after : Option (List ℕ)) (line rest : List ℕ) → Appends before middle (line ++ newline ∷ []) → AppendsPart middle after rest →
    AppendsPart before after (line ++ newline ∷ rest)
part_on before middle after line rest first next =
    let all = length (line ++ newline ∷ []) + next.count in
    let whole_line : take all (line ++ newline ∷ rest) ≡ line ++ newline ∷ take next.count rest =
    ap (take all) (sym (append_assoc line (newline ∷ []) rest)) ∙ take-append-add (line ++ newline ∷ []) rest next.count ∙ append_assoc line (newline ∷ []) (take next.count rest) in
    record { count = all; appended = subst (λ (t : List ℕ). Appends before after t) (sym whole_line) (appends_two before middle after line (take next.count rest) first next.appended) }

-- A line is cut short.
part_cut : (before after : Option (List ℕ)) (line rest : List ℕ) → AppendsFewer before after (line ++ newline ∷ []) → AppendsPart before after (line ++ newline ∷ rest)
part_cut before after line rest cut =
    let front : take cut.count (line ++ newline ∷ rest) ≡ take cut.count (line ++ newline ∷ []) =
    ap (take cut.count) (sym (append_assoc line (newline ∷ []) rest)) ∙ take-append-le cut.count (line ++ newline ∷ []) rest (omega (arith, cut.fewer)) in
    record { count = cut.count; appended = subst (λ (t : List ℕ). Appends before after t) (sym front) cut.appended }

-- A line is answered, and then a part of the others.
pub text_part_step : (before middle after : Option (List ℕ)) (all said rest line : List ℕ) → all ≡ said ++ newline ∷ rest → line ≡ said ++ newline ∷ [] → Appends before middle line →
    AppendsPart middle after rest → AppendsPart before after all
text_part_step before middle after all said rest line all_is line_is written others =
    subst (λ (t : List ℕ). AppendsPart before after t) (sym all_is)
    (part_on before middle after said rest (subst (λ (t : List ℕ). Appends before middle t) line_is written) others)

-- The answer to a line is cut short.
pub text_part_cut : (before after : Option (List ℕ)) (all said rest line : List ℕ) → all ≡ said ++ newline ∷ rest → line ≡ said ++ newline ∷ [] → AppendsFewer before after line →
    AppendsPart before after all
text_part_cut before after all said rest line all_is line_is cut =
    subst (λ (t : List ℕ). AppendsPart before after t) (sym all_is)
    (part_cut before after said rest (subst (λ (t : List ℕ). AppendsFewer before after t) line_is cut))

module _ {S : Type 0} (takes : S → Line → List ℕ → S → Type 0) (take_line : TakesAll takes) where
  -- Every list of lines can be answered.
  answer_lines : (lines : List Line) (s : S) → (text : List ℕ) × (new : S) × Answered takes lines s text new
  answer_lines [] s = ([], s, (refl, refl))
  answer_lines (line ∷ lines) s =
      let taken = take_line line s in
      let rest = answer_lines lines taken.1 in
      (taken.0 ++ newline ∷ rest.0, rest.1, (taken.0, taken.1, rest.0, taken.2, refl, rest.2))

  -- No more is written of the answers to these lines.
  pub answers_part_none : (lines : List Line) (s : S) (known : Option (List ℕ)) → AnswersPart takes lines s known known
  answers_part_none lines s known =
      let all = answer_lines lines s in
      record { text = all.0; new = all.1; answered = all.2; part = part_none known all.0 }

  module _ (next : Line) (read left left' : List Line) (old mid : S) (said line : List ℕ) (one : read ≡ next ∷ []) (here : left ≡ read ++ left') (taken : takes old next said mid)
      (told_as : line ≡ said ++ newline ∷ []) where
    lines_there : next ∷ left' ≡ left
    lines_there = sym (next_is_line next read left left' one here)

    -- The next line is taken and its answer written, and then a part of the answers to the lines that are left.
    pub answers_part_step : (before middle after : Option (List ℕ)) → Appends before middle line → AnswersPart takes left' mid middle after → AnswersPart takes left old before after
    answers_part_step before middle after written others =
        let written_line : Appends before middle (said ++ newline ∷ []) = subst (λ (t : List ℕ). Appends before middle t) told_as written in
        subst (λ (ls : List Line). AnswersPart takes ls old before after) lines_there
        (record {
          text = said ++ newline ∷ others.text;
          new = others.new;
          answered = (said, mid, others.text, taken, refl, others.answered);
          part =
              part_on before middle after said others.text written_line others.part;
        })

    -- The next line is taken and its answer cut short.
    pub answers_part_cut : (before after : Option (List ℕ)) → AppendsFewer before after line → AnswersPart takes left old before after
    answers_part_cut before after cut =
        let rest = answer_lines left' mid in
        let cut_line : AppendsFewer before after (said ++ newline ∷ []) = subst (λ (t : List ℕ). AppendsFewer before after t) told_as cut in
        subst (λ (ls : List Line). AnswersPart takes ls old before after) lines_there
        (record { text = said ++ newline ∷ rest.0; new = rest.1; answered = (said, mid, rest.0, taken, refl, rest.2); part = part_cut before after said rest.0 cut_line })

module _ {B S : Type 0} (first : List ℕ → Option B) (takes : B → S → Line → List ℕ → S → Type 0) (start : B → S) (take_line : (b : B) → TakesAll (takes b)) where
  later_none : (b : Option B) (lines : List Line) (known : Option (List ℕ)) → AnswersLater takes start b lines known known
  later_none None lines known = appends_nothing known
  later_none (Some b) lines known = answers_part_none (takes b) (take_line b) lines (start b) known

  -- Nothing is written of what answers a script.
  pub starts_from_none : (lines : List Line) (known : Option (List ℕ)) → StartsFrom first takes start lines known known
  starts_from_none [] known = appends_nothing known
  starts_from_none (too_long ∷ lines) known = appends_nothing known
  starts_from_none (whole line ∷ lines) known = later_none (first line) lines known

module _ (next : Line) (read left left' : List Line) (answer : SerialAnswer) (line : List ℕ) (one : read ≡ next ∷ []) (here : left ≡ read ++ left') (answered : answer ≡ serial_answer (job_in next))
    (told_as : line ≡ serial_text answer ++ newline ∷ []) where
  serial_there : line ≡ serial_text (serial_answer (job_in next)) ++ newline ∷ []
  serial_there = told_as ∙ ap (λ a. serial_text a ++ newline ∷ []) answered

  serial_lines : next ∷ left' ≡ left
  serial_lines = sym (next_is_line next read left left' one here)

  -- The next line is answered, and then a part of the lines that are left.
  pub serial_part_step : (before middle after : Option (List ℕ)) → Appends before middle line → AppendsPart middle after (serial_answers left') → AppendsPart before after (serial_answers left)
  serial_part_step before middle after written others =
      subst (λ (ls : List Line). AppendsPart before after (serial_answers ls)) serial_lines
      (part_on before middle after (serial_text (serial_answer (job_in next))) (serial_answers left') (subst (λ (t : List ℕ). Appends before middle t) serial_there written) others)

  -- The answer to the next line is cut short.
  pub serial_part_cut : (before after : Option (List ℕ)) → AppendsFewer before after line → AppendsPart before after (serial_answers left)
  serial_part_cut before after cut =
      subst (λ (ls : List Line). AppendsPart before after (serial_answers ls)) serial_lines
      (part_cut before after (serial_text (serial_answer (job_in next))) (serial_answers left') (subst (λ (t : List ℕ). AppendsFewer before after t) serial_there cut))
