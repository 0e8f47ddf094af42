use Rattle.std.proofs.Common.{rules, ◌≡◌, ◌-◌, ◌+◌, [], ◌∷◌, ◌++◌, map, drop, Some, Ok, sym, ap, subst, ◌∙◌, arith}
use Rattle.std.proofs.lemmas.List.{map-append}
use Rattle.std.proofs.lemmas.Result.{err_from_is_err_and}
use Rattle.source_reader.specs.Names.{names_of}
use Rattle.source_reader.specs.Trees.{tree_of, value_tree_of, inline_tree_of}
use Rattle.source_reader.specs.Faults.{Fails}
use Rattle.source_reader.specs.Joining.{joined}
use Rattle.source_reader.specs.Values.{sign_at, value_at, Level}
use Rattle.source_reader.proofs.ValueSteps.{level_single, level_more, more_on, argument_on, operand_on, right_fails, both_fail}
use Rattle.source_reader.proofs.values.+values.Goals as goal

pub value_at-returns-then-level-ge-LEVELS : goal.value_at-returns-then-level-ge-LEVELS
value_at-returns-then-level-ge-LEVELS t c =
    rw (level_single c.args.fuel (names_of c.args.names.now) c.args.level c.args.tokens.now (omega arith) (omega arith)) c.single_at.ensures

pub value_at-returns : goal.value_at-returns
value_at-returns t c =
    rw (level_more c.args.fuel (names_of c.args.names.now) c.args.level c.args.tokens.now (value_tree_of c.in_ok-first.first) c.in_ok-first.rest.now (omega arith) (omega arith) c.in_ok-first.ensures)
    c.more_at.ensures

pub more_at-returns-in_ok-both-in-Some : goal.more_at-returns-in_ok-both-in-Some
more_at-returns-in_ok-both-in-Some t c =
    let h = c.in_ok-right-in-Some in
    let names = names_of c.args.names.now in
    let ts = c.args.tokens.now in
    let l = c.args.level in
    let left = value_tree_of c.args.left in
    let right = value_tree_of h.right in
    let both = value_tree_of c.in_ok-both-in-Some.both in
    let es : sign_at l ts ≡ Some c.in-Some.sign = sym c.sign_at.ensures ∙ c.in-Some.is in
    let er : value_at (c.args.fuel - 1) names (Level (l + 1)) (drop 1 ts) ≡ Ok (right, h.rest.now) =
    ap (λ x. value_at (c.args.fuel - 1) names (Level (l + 1)) x) (sym c.after_first.ensures) ∙ h.ensures in
    let eb : joined c.in-Some.sign left right ts ≡ Ok both = c.in_ok-both-in-Some.ensures in
    rw (more_on c.args.fuel names l left ts c.in-Some.sign right h.rest.now both (omega arith) es er eb) c.more_at.ensures

pub more_at-returns-in_err-right-in-Some : goal.more_at-returns-in_err-right-in-Some
more_at-returns-in_err-right-in-Some t c =
    let p = err_from_is_err_and c.from_residual.result c.from_residual.ensures.1 in
    let names = names_of c.args.names.now in
    let ts = c.args.tokens.now in
    let l = c.args.level in
    let e = c.in_err-right-in-Some.field-0.0 in
    let es : sign_at l ts ≡ Some c.in-Some.sign = sym c.sign_at.ensures ∙ c.in-Some.is in
    let er : Fails e (value_at (c.args.fuel - 1) names (Level (l + 1)) (drop 1 ts)) =
    subst (λ x. Fails e (value_at (c.args.fuel - 1) names (Level (l + 1)) x)) c.after_first.ensures c.in_err-right-in-Some.ensures in
    rw (p.1, p.2) (right_fails c.args.fuel names l (value_tree_of c.args.left) ts c.in-Some.sign e (omega arith) es er)

pub more_at-returns-in_err-both-in-Some : goal.more_at-returns-in_err-both-in-Some
more_at-returns-in_err-both-in-Some t c =
    let p = err_from_is_err_and c.from_residual-in_err-both-in-Some.result c.from_residual-in_err-both-in-Some.ensures.1 in
    let h = c.in_ok-right-in-Some in
    let names = names_of c.args.names.now in
    let ts = c.args.tokens.now in
    let l = c.args.level in
    let left = value_tree_of c.args.left in
    let right = value_tree_of h.right in
    let e = c.in_err-both-in-Some.field-0.0 in
    let es : sign_at l ts ≡ Some c.in-Some.sign = sym c.sign_at.ensures ∙ c.in-Some.is in
    let er : value_at (c.args.fuel - 1) names (Level (l + 1)) (drop 1 ts) ≡ Ok (right, h.rest.now) =
    ap (λ x. value_at (c.args.fuel - 1) names (Level (l + 1)) x) (sym c.after_first.ensures) ∙ h.ensures in
    let eb : Fails e (joined c.in-Some.sign left right ts) = c.in_err-both-in-Some.ensures in
    rw (p.1, p.2) (both_fail c.args.fuel names l left ts c.in-Some.sign right h.rest.now e (omega arith) es er eb)

pub argument_at-returns : goal.argument_at-returns
argument_at-returns t c =
    let h = c.in_ok-value in
    let a = c.in_ok-argument in
    let before = c.args.before.items in
    let pushed : map tree_of before ++ tree_of a.argument ∷ [] ≡ map tree_of (before ++ a.argument ∷ []) = sym (map-append tree_of before (a.argument ∷ [])) in
    rw (
      argument_on c.args.fuel (names_of c.args.names.now) (inline_tree_of c.args.inline.now) (map tree_of before) c.args.called.now c.args.tokens.now
          (value_tree_of h.value) h.rest.now (tree_of a.argument) (omega arith) h.ensures a.ensures,
      pushed,
    ) (search rules)

pub operand_at-returns : goal.operand_at-returns
operand_at-returns t c =
    let h = c.in_ok-value in
    let a = c.in_ok-argument in
    let before = c.args.before.items in
    let pushed : map tree_of before ++ tree_of a.argument ∷ [] ≡ map tree_of (before ++ a.argument ∷ []) = sym (map-append tree_of before (a.argument ∷ [])) in
    rw (
      operand_on c.args.fuel (names_of c.args.names.now) c.args.function (map tree_of before) c.args.called.now c.args.tokens.now
          (value_tree_of h.value) h.rest.now (tree_of a.argument) (omega arith) h.ensures a.ensures,
      pushed,
    ) (search rules)
