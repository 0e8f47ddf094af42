use Rattle.std.proofs.Common.{◌≡◌, ◌++◌, List, ℕ, [], false, IfOk, codes, string_bytes, subst}
use Rattle.std.specs.Fmt.{decimal, format_spec, padded_integral}
use Rattle.host_folder.proofs.Paths.{journal_written}
use Rattle.host_folder.proofs.folders.Folder.journal.Goals as goal

pub returns : goal.returns
returns c =
    let front : List ℕ = c.as_str.result.now in
    let name : List ℕ = c.args.name.now in
    let written = λ (ds : List ℕ). front ++ (codes "/" ++ (name ++ (codes "." ++ (ds ++ (codes "." ++ (decimal c.args.base ++ codes ".jsonl")))))) in
    let h : IfOk c.format.result (λ s. string_bytes s ≡ written (padded_integral (format_spec 32 0 4 6 18446744073709551615) false [] (decimal c.args.term))) =
    rw c.laid_out.ensures at c.format.ensures.ok in
    subst (λ (bs : List ℕ). IfOk c.format.result (λ s. string_bytes s ≡ bs)) (journal_written (string_bytes c.args.self.now.journals) front name c.args.term c.args.base c.as_str.ensures.value) h
