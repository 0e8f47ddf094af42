use Rattle.std.proofs.Common.{rules, ◌≡◌, IfOk, string_bytes, sym, subst, ap, codes, decimal, ◌++◌, false, ◌==◌, if◌then◌else◌}
use Rattle.dump_files.specs.Paths.{part_path}
use Rattle.dump_files.proofs.parts.path_of.Goals as goal

pub returns-in-1 : goal.returns-in-1
returns-in-1 c = subst (λ n. IfOk c.format.result (λ part. string_bytes part ≡ part_path c.args.path.now n)) (sym c.in-1.is) c.format.ensures.ok

pub returns-in_default : goal.returns-in_default
returns-in_default c =
    let other : (c.args.number == 1) ≡ false = search rules in
    let e : part_path c.args.path.now c.args.number ≡ c.args.path.now ++ (codes ".part" ++ decimal c.args.number) =
    ap (λ b. if b then c.args.path.now ++ codes ".part" else c.args.path.now ++ (codes ".part" ++ decimal c.args.number)) other in
    subst (λ t. IfOk c.format-in_default.result (λ part. string_bytes part ≡ t)) (sym e) c.format-in_default.ensures.ok
