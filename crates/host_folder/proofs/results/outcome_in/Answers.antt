use Rattle.std.proofs.Common.{◌≡◌, None, subst, sym, ◌∙◌, rules}
use Rattle.std.specs.Str.{IsUtf8}
use Rattle.host_folder.proofs.Ascii.{outcome_text}
use Rattle.host_folder.proofs.Reading.{no_text}
use Rattle.host_folder.proofs.results.outcome_in.Goals as goal

pub returns-in_err-ok : goal.returns-in_err-ok
returns-in_err-ok c =
    let none : c.ok.result ≡ None = search rules in
    record {
      said = search rules;
      found = λ o range e. absurd (no_text c.args.line.now _ c.from_utf8.result c.from_utf8.ensures.cases (sym c.ok.ensures.value ∙ none) (subst IsUtf8 e (outcome_text o range)));
    }
