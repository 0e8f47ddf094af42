use Rattle.std.proofs.Common.{◌∷◌, ◌++◌, ◌∙◌, List, ℕ, ap, codes, decimal}
use Rattle.job_language.specs.declared.instructions.Instr.{Instr}
use Rattle.job_json.specs.CanonicalText.{listed, number_then, program_then}
use Rattle.part_writer.proofs.jobs.add_job.Goals as goal

pub returns : goal.returns
returns c = λ rest.
    let job = c.args.job.now in
    let procs = program_then c.procs.result.now (125 ∷ rest) in
    let fuel = codes ",\"fuel\":" ++ (decimal c.instructions.result ++ (codes ",\"procs\":" ++ procs)) in
    let before = λ (t : List ℕ). c.args.text.now.items ++ (codes "{\"args\":[" ++ listed number_then job.args (codes ",\"fuel\":" ++ t)) in
    c.in_ok-add_bytes-3.ensures rest ∙ c.in_ok-add_procs.ensures (125 ∷ rest) ∙ c.in_ok-add_bytes-2.ensures procs ∙ c.in_ok-add_number.ensures (codes ",\"procs\":" ++ procs)
    ∙ c.in_ok-add_args.ensures fuel ∙ c.in_ok-add_bytes.ensures (91 ∷ listed number_then job.args fuel)
    ∙ ap (λ (n : ℕ). before (decimal n ++ (codes ",\"procs\":" ++ procs))) c.instructions.ensures.value
    ∙ ap (λ (ps : List (List Instr)). before (decimal job.fuel ++ (codes ",\"procs\":" ++ program_then ps (125 ∷ rest)))) c.procs.ensures.value
