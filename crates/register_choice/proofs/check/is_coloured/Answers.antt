use Rattle.std.proofs.Common.{rules, ◌≡◌, ℕ, ◌<◌, ◌≤◌, ◌⊎◌, List, [], Bool, true, false, length, get_or, Some, sym, ap, subst, ◌∙◌, arith, ⊎_elim}
use Rattle.std.specs.Prelude.{slice_get}
use Rattle.std.proofs.Math.ListN.{get_or-map}
use Rattle.std.proofs.lemmas.Bool.{cases_eq}
use Rattle.std.proofs.lemmas.List.{length-map}
use Rattle.std.proofs.lemmas.Option.{slice_get-get_or, slice_get_within}
use Rattle.job_compiler.specs.Virtual.{instr_of}
use Rattle.register_choice.specs.Choice.{IsColouredAt}
use Rattle.register_choice.proofs.check.is_coloured.Goals as goal

pub loop-place-preserved : goal.loop-place-preserved
loop-place-preserved c k i low here =
    let xs = c.instrs-instr-items.result.now in
    let vs = c.args.code.now in
    let p = c.loop-place.place in
    let item = c.instr-item.result in
    let fine : IsColouredAt c.args.colours.now c.args.live.now p (instr_of item) = search rules in
    let within : p < length vs = omega (arith, c.loop-place-test.true, ap length c.instrs-instr-items.ensures, length-map xs instr_of) in
    let value : get_or vs p (instr_of item) ≡ instr_of item =
    ap (λ l. get_or l p (instr_of item)) (sym c.instrs-instr-items.ensures) ∙ get_or-map instr_of xs p item ∙ ap instr_of (sym c.instr-item.is) in
    let there : slice_get vs p ≡ Some (instr_of item) = slice_get-get_or vs p (instr_of item) within ∙ ap Some value in
    ⊎_elim (λ is. let both : slice_get vs p ≡ Some i = ap (slice_get vs) (sym is) ∙ here in
    let same : instr_of item ≡ i = cc in
    subst (λ n. IsColouredAt c.args.colours.now c.args.live.now n i) (sym is) (subst (IsColouredAt c.args.colours.now c.args.live.now p) same fine))
    (λ other. c.loop-place.invariant k i (omega (arith, low, other)) here) (cases_eq k p)

pub returns : goal.returns
returns c =
    let first = c.row.ensures in
    let own = c.colours_at.ensures in
    let Begins : List ℕ → List Bool → Type 0 = λ cs row. (u : ℕ) → get_or row u false ≡ true → ((u < 2) × (get_or cs u 0 ≡ u)) ⊎ ((2 ≤ u) × (2 ≤ get_or cs u 0)) in
    let start = get_or c.args.colours.now 0 [] in (
      λ yes. record {
        begins = subst (Begins start) first (subst (λ cs. Begins cs c.row.result.now) own (c.begins.ensures.0 yes));
        places = λ k i here. c.loop-place.invariant k i
            (omega (arith, slice_get_within c.args.code.now k i here, c.loop-place-test.false, ap length c.instrs-instr-items.ensures, length-map c.instrs-instr-items.result.now instr_of)) here;
      },
      λ good. c.begins.ensures.1 (subst (λ cs. Begins cs c.row.result.now) (sym own) (subst (Begins start) (sym first) good.begins)),
    )
