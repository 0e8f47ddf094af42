use Rattle.std.proofs.Common.{rules, ◌≡◌}
use Rattle.source_language.specs.declared.syntax.Stmt.TheVariants.{Assign}
use Rattle.kept_values.proofs.Parts.{kept_part}
use Rattle.kept_values.proofs.keep.keep_before.Goals as goal

pub returns : goal.returns
returns c =
    let first : c.in_ok-first.first.value ≡ Assign c.args.v c.args.value = search rules in
    let part : c.in_ok-new.field-0.value ≡ c.keep_in_stmt.new.s = search rules in
    kept_part c.args.v c.args.s.now c.in_ok-first.first.value c.in_ok-new.field-0.value c.keep_in_stmt.new.s
    (record { ptr = c.in_ok-first.first.ptr; alloc = c.in_ok-first.first.alloc; value = tt })
    (record { ptr = c.in_ok-new.field-0.ptr; alloc = c.in_ok-new.field-0.alloc; value = tt })
    c.args.value first part c.requires.has c.requires.free c.requires.untouched c.keep_in_stmt.ensures
