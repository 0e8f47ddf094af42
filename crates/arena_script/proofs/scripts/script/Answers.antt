use Rattle.std.proofs.Common.{◌≡◌, ◌∙◌, Bool, true, false, refl, sym, ap, subst, Option, Some, None, Ok, Err, Result, arith}
use Rattle.std.specs.Prelude.{Contains, IfErr, OnOk}
use Rattle.arena_script.specs.Commands.{command_of, ends_of}
use Rattle.arena_script.specs.declared.commands.Command.{Command}
use Rattle.arena_script.specs.declared.commands.Command.TheVariants as command
use Rattle.arena_script.specs.declared.ends.ScriptEnd.{ScriptEnd}
use Rattle.arena_script.specs.declared.ends.ScriptEnd.TheVariants.{Words}
use Rattle.arena_script.proofs.Ending.{ends_fault, ends_words}
use Rattle.arena_script.proofs.scripts.script.Goals as goal
use Rattle.arena_script.proofs.scripts.script.Goals.{in-Some-Own, in-Some-Run, in-Some-Check, in-Some-Finish, in-Some-Serial, in-None}

ok_then : {T E : Type 0} (r s : Result T E) (x : T) (P : Type 0) → r ≡ s → r ≡ Ok x → OnOk s P → P
ok_then {T = T} {E = E} r s x P same ok it = subst (λ (q : Result T E). OnOk q P) (sym same ∙ ok) it

err_then : {T E : Type 0} (r s : Result T E) (e : E) (P : E → Type 0) → r ≡ s → r ≡ Err e → IfErr s P → P e
err_then {T = T} {E = E} r s e P same err it = subst (λ (q : Result T E). IfErr q P) (sym same ∙ err) it

abbrev is_same : Command → Command → Bool
is_same command.Own command.Own = true
is_same command.Run command.Run = true
is_same command.Check command.Check = true
is_same command.Finish command.Finish = true
is_same command.Serial command.Serial = true
is_same a b = false

-- another command than that
is_other : (asked found : Option Command) (here it wanted : Command) → found ≡ asked → found ≡ Some here → here ≡ it → is_same it wanted ≡ false → is_same wanted wanted ≡ true → asked ≡ Some wanted →
    ⊥
is_other asked found here it wanted same is here_is differs itself want =
    let one : it ≡ wanted = cc in
    let yes : is_same it wanted ≡ true = subst (λ (c : Command). is_same c wanted ≡ true) (sym one) itself in
    grind (arith, differs, yes)

is_none : (asked found : Option Command) (wanted : Command) → found ≡ asked → found ≡ None → asked ≡ Some wanted → ⊥
is_none asked found wanted same is want = cc

pub returns-in-Ok-clause-verdict : goal.returns-in-Ok-clause-verdict
returns-in-Ok-clause-verdict g c = elim c.match-of.branch [
  | in-Some-Own w ↦ λ is done known. absurd (is_other _ _ _ command.Own command.Check c.of.ensures w.in-Some-Own.is w.in-Some-Own.field-0-is refl refl is)
  | in-Some-Run w ↦ λ is done known. absurd (is_other _ _ _ command.Run command.Check c.of.ensures w.in-Some-Run.is w.in-Some-Run.field-0-is refl refl is)
  | in-Some-Check w ↦ λ is done known. rw w.writer-is (ok_then _ _ _ _ w.ended-is c.in-Ok.is w.check_dump-ended.ensures.verdict known)
  | in-Some-Finish w ↦ λ is done known. absurd (is_other _ _ _ command.Finish command.Check c.of.ensures w.in-Some-Finish.is w.in-Some-Finish.field-0-is refl refl is)
  | in-Some-Serial w ↦ λ is done known. absurd (is_other _ _ _ command.Serial command.Check c.of.ensures w.in-Some-Serial.is w.in-Some-Serial.field-0-is refl refl is)
  | in-None w ↦ λ is done known. absurd (is_none _ _ command.Check c.of.ensures w.in-None.is is)
]

pub returns-in-Ok-clause-own_part : goal.returns-in-Ok-clause-own_part
returns-in-Ok-clause-own_part g c = elim c.match-of.branch [
  | in-Some-Own w ↦ λ is known. rw w.writer-is (w.own-ended.ensures.part known)
  | in-Some-Run w ↦ λ is known. absurd (cc)
  | in-Some-Check w ↦ λ is known. absurd (cc)
  | in-Some-Finish w ↦ λ is known. absurd (cc)
  | in-Some-Serial w ↦ λ is known. absurd (cc)
  | in-None w ↦ λ is known. absurd (cc)
]

pub returns-in-Ok-clause-check_part : goal.returns-in-Ok-clause-check_part
returns-in-Ok-clause-check_part g c = elim c.match-of.branch [
  | in-Some-Own w ↦ λ is known. absurd (cc)
  | in-Some-Run w ↦ λ is known. absurd (cc)
  | in-Some-Check w ↦ λ is known. rw w.writer-is (w.check_dump-ended.ensures.part known)
  | in-Some-Finish w ↦ λ is known. absurd (cc)
  | in-Some-Serial w ↦ λ is known. absurd (cc)
  | in-None w ↦ λ is known. absurd (cc)
]

pub returns-in-Err-clause-ends : goal.returns-in-Err-clause-ends
returns-in-Err-clause-ends g c = elim c.match-of.branch [
  | in-Some-Own w ↦ ends_fault _ command.Own _ (cc) (err_then _ _ _ _ w.ended-is c.in-Err.is w.own-ended.ensures.ends)
  | in-Some-Run w ↦ ends_fault _ command.Run _ (cc) (err_then _ _ _ _ w.ended-is c.in-Err.is w.run-ended.ensures.ends)
  | in-Some-Check w ↦ ends_fault _ command.Check _ (cc) (err_then _ _ _ _ w.ended-is c.in-Err.is w.check_dump-ended.ensures.ends)
  | in-Some-Finish w ↦ ends_fault _ command.Finish _ (cc) (err_then _ _ _ _ w.ended-is c.in-Err.is w.finish_dump-ended.ensures.ends)
  | in-Some-Serial w ↦ ends_fault _ command.Serial _ (cc) (err_then _ _ _ _ w.ended-is c.in-Err.is w.serial_values-ended.ensures.ends)
  | in-None w ↦
      let as_words : Words ≡ c.in-Err.end = cc in
      subst (λ (e : ScriptEnd). Contains (ends_of (command_of c.args.words.now)) e) as_words (ends_words _ (cc))
]

pub returns-in-Err-clause-bad_line : goal.returns-in-Err-clause-bad_line
returns-in-Err-clause-bad_line g c = elim c.match-of.branch [
  | in-Some-Own w ↦ λ is bad known. absurd (cc)
  | in-Some-Run w ↦ λ is bad known. absurd (cc)
  | in-Some-Check w ↦ λ is bad known. rw w.writer-is (w.check_dump-ended.ensures.bad_line (sym w.ended-is ∙ c.in-Err.is ∙ ap (λ (e : ScriptEnd). Err e) bad) known)
  | in-Some-Finish w ↦ λ is bad known. absurd (cc)
  | in-Some-Serial w ↦ λ is bad known. absurd (cc)
  | in-None w ↦ λ is bad known. absurd (cc)
]

pub returns-in-Ok-clause-finished : goal.returns-in-Ok-clause-finished
returns-in-Ok-clause-finished g c = elim c.match-of.branch [
  | in-Some-Own w ↦ λ is done known. absurd (is_other _ _ _ command.Own command.Finish c.of.ensures w.in-Some-Own.is w.in-Some-Own.field-0-is refl refl is)
  | in-Some-Run w ↦ λ is done known. absurd (is_other _ _ _ command.Run command.Finish c.of.ensures w.in-Some-Run.is w.in-Some-Run.field-0-is refl refl is)
  | in-Some-Check w ↦ λ is done known. absurd (is_other _ _ _ command.Check command.Finish c.of.ensures w.in-Some-Check.is w.in-Some-Check.field-0-is refl refl is)
  | in-Some-Finish w ↦ λ is done known. rw w.writer-is (ok_then _ _ _ _ w.ended-is c.in-Ok.is w.finish_dump-ended.ensures.finished known)
  | in-Some-Serial w ↦ λ is done known. absurd (is_other _ _ _ command.Serial command.Finish c.of.ensures w.in-Some-Serial.is w.in-Some-Serial.field-0-is refl refl is)
  | in-None w ↦ λ is done known. absurd (is_none _ _ command.Finish c.of.ensures w.in-None.is is)
]

pub returns-in-Ok-clause-finish_part : goal.returns-in-Ok-clause-finish_part
returns-in-Ok-clause-finish_part g c = elim c.match-of.branch [
  | in-Some-Own w ↦ λ is known. absurd (is_other _ _ _ command.Own command.Finish c.of.ensures w.in-Some-Own.is w.in-Some-Own.field-0-is refl refl is)
  | in-Some-Run w ↦ λ is known. absurd (is_other _ _ _ command.Run command.Finish c.of.ensures w.in-Some-Run.is w.in-Some-Run.field-0-is refl refl is)
  | in-Some-Check w ↦ λ is known. absurd (is_other _ _ _ command.Check command.Finish c.of.ensures w.in-Some-Check.is w.in-Some-Check.field-0-is refl refl is)
  | in-Some-Finish w ↦ λ is known. rw w.writer-is (w.finish_dump-ended.ensures.part known)
  | in-Some-Serial w ↦ λ is known. absurd (is_other _ _ _ command.Serial command.Finish c.of.ensures w.in-Some-Serial.is w.in-Some-Serial.field-0-is refl refl is)
  | in-None w ↦ λ is known. absurd (is_none _ _ command.Finish c.of.ensures w.in-None.is is)
]

pub returns-in-Err-clause-finish_part : goal.returns-in-Err-clause-finish_part
returns-in-Err-clause-finish_part g c = elim c.match-of.branch [
  | in-Some-Own w ↦ λ is known. absurd (is_other _ _ _ command.Own command.Finish c.of.ensures w.in-Some-Own.is w.in-Some-Own.field-0-is refl refl is)
  | in-Some-Run w ↦ λ is known. absurd (is_other _ _ _ command.Run command.Finish c.of.ensures w.in-Some-Run.is w.in-Some-Run.field-0-is refl refl is)
  | in-Some-Check w ↦ λ is known. absurd (is_other _ _ _ command.Check command.Finish c.of.ensures w.in-Some-Check.is w.in-Some-Check.field-0-is refl refl is)
  | in-Some-Finish w ↦ λ is known. rw w.writer-is (w.finish_dump-ended.ensures.part known)
  | in-Some-Serial w ↦ λ is known. absurd (is_other _ _ _ command.Serial command.Finish c.of.ensures w.in-Some-Serial.is w.in-Some-Serial.field-0-is refl refl is)
  | in-None w ↦ λ is known. absurd (is_none _ _ command.Finish c.of.ensures w.in-None.is is)
]

pub returns-in-Err-clause-wrong : goal.returns-in-Err-clause-wrong
returns-in-Err-clause-wrong g c = elim c.match-of.branch [
  | in-Some-Own w ↦ λ is bad known. absurd (is_other _ _ _ command.Own command.Finish c.of.ensures w.in-Some-Own.is w.in-Some-Own.field-0-is refl refl is)
  | in-Some-Run w ↦ λ is bad known. absurd (is_other _ _ _ command.Run command.Finish c.of.ensures w.in-Some-Run.is w.in-Some-Run.field-0-is refl refl is)
  | in-Some-Check w ↦ λ is bad known. absurd (is_other _ _ _ command.Check command.Finish c.of.ensures w.in-Some-Check.is w.in-Some-Check.field-0-is refl refl is)
  | in-Some-Finish w ↦ λ is bad known. w.finish_dump-ended.ensures.wrong (sym w.ended-is ∙ c.in-Err.is ∙ ap (λ (e : ScriptEnd). Err e) bad) known
  | in-Some-Serial w ↦ λ is bad known. absurd (is_other _ _ _ command.Serial command.Finish c.of.ensures w.in-Some-Serial.is w.in-Some-Serial.field-0-is refl refl is)
  | in-None w ↦ λ is bad known. absurd (is_none _ _ command.Finish c.of.ensures w.in-None.is is)
]
