-- What the check of a dump prints.
use Rattle.std.specs.Prelude.{ℕ, List, ◌++◌, codes, decimal}
use Rattle.solo_eval.specs.declared.checking.Verdict.{Verdict}
use Rattle.solo_eval.specs.declared.checking.Verdict.TheVariants.{Yes, No}

abbrev pub verdict_text : Verdict → List ℕ
verdict_text Yes = codes "yes\n"
verdict_text (No k) = codes "no at step " ++ decimal k ++ codes "\n"

abbrev pub bad_line_text : ℕ → List ℕ
bad_line_text n = codes "bad line " ++ decimal n ++ codes "\n"
