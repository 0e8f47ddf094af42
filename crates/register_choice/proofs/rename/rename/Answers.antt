use Rattle.std.proofs.Common.{rules, ◌≡◌, ◌+◌, ◌<◌, ◌≤◌, [], ◌∷◌, ◌++◌, length, map, take, get_or, vec_capacity, sym, ap, subst, ◌∙◌, arith, length-append, length-take-le}
use Rattle.std.proofs.lemmas.List.{length-map, map-append, take_more}
use Rattle.job_compiler.specs.Colours.{renamed}
use Rattle.job_compiler.specs.Virtual.{instr_of}
use Rattle.register_choice.specs.Choice.{colour_of, renamed_from}
use Rattle.register_choice.proofs.Coloured.{renamed_more}
use Rattle.register_choice.proofs.rename.rename.Goals as goal

pub loop-place-preserved : goal.loop-place-preserved
loop-place-preserved c =
    let xs = c.instrs-instr-items.result.now in
    let cs = c.args.colours.now in
    let k = c.loop-place.place in
    let item = c.instr-item.result in
    let one = c.in_ok-rename_one.field-0 in
    let kept = c.loop-place.invariant in
    let before = map instr_of (take k xs) in
    let low : k < length xs = omega (arith, c.loop-place-test.true) in
    let pushed : c.push.new.self.items ≡ c.loop-place.instrs.items ++ one ∷ [] = search rules in
    let more : take (k + 1) xs ≡ take k xs ++ item ∷ [] = take_more xs k item low ∙ ap (λ (d : _). take k xs ++ d ∷ []) (sym c.instr-item.is) in
    let long : length before ≡ k = length-map (take k xs) instr_of ∙ length-take-le k xs (omega (arith, low)) in
    let value : one ≡ renamed (colour_of cs k) (colour_of cs (k + 1)) (instr_of item) =
    c.in_ok-rename_one.ensures ∙ ap (λ r. renamed (λ u. get_or r u 0) (λ u. get_or c.colours_at-to.result.now u 0) (instr_of item)) c.colours_at-from.ensures
    ∙ ap (λ r. renamed (colour_of cs k) (λ u. get_or r u 0) (instr_of item)) c.colours_at-to.ensures in
    let at : 0 + length before ≡ k = omega (arith, long) in
    let last : renamed_from cs 0 (before ++ instr_of item ∷ []) ≡ renamed_from cs 0 before ++ renamed (colour_of cs k) (colour_of cs (k + 1)) (instr_of item) ∷ [] =
    subst (λ n. renamed_from cs 0 (before ++ instr_of item ∷ []) ≡ renamed_from cs 0 before ++ renamed (colour_of cs n) (colour_of cs (n + 1)) (instr_of item) ∷ []) at
    (renamed_more cs 0 before (instr_of item)) in
    let all : map instr_of (take (k + 1) xs) ≡ before ++ instr_of item ∷ [] = ap (map instr_of) more ∙ map-append instr_of (take k xs) (item ∷ []) in
    record {
      items = pushed ∙ ap (λ (l : _). l ++ one ∷ []) kept.items ∙ ap (λ x. renamed_from cs 0 before ++ x ∷ []) value ∙ sym (ap (renamed_from cs 0) all ∙ last);
      long = ap length pushed ∙ length-append c.loop-place.instrs.items (one ∷ []) ∙ ap (λ n. n + 1) kept.long;
      room = search rules;
    }
