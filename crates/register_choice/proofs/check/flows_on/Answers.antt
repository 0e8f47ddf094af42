use Rattle.std.proofs.Common.{ℕ, None, Option, sym, subst}
use Rattle.std.specs.List.{AllByRecursion}
use Rattle.job_compiler.specs.Colours.{Flows}
use Rattle.register_choice.specs.Choice.{colour_of, listed, live_of}
use Rattle.register_choice.proofs.Coloured.{stay_alike}
use Rattle.register_choice.proofs.check.flows_on.Goals as goal

pub returns-in-Some : goal.returns-in-Some
returns-in-Some c =
    let colours = c.args.colours.now in
    let live = c.args.live.now in
    let k = c.args.place in
    let next = c.in-Some.next in
    let ws = listed c.args.written.0 c.args.written.1 in
    let All : Option ℕ → Type 0 = λ o. AllByRecursion (Flows (colour_of colours) (live_of live) ws k) (listed o None) in
    let from = c.colours_at-from.ensures in
    let to = c.colours_at-to.ensures in
    let here = c.row.ensures in
    let row = c.row-in-Some.ensures in (
      λ yes. subst All (sym c.in-Some.is) (stay_alike _ _ _ _ _ _ _ _ ws from to here row (c.flows.ensures.0 yes), tt),
      λ all. c.flows.ensures.1 (stay_alike _ _ _ _ _ _ _ _ ws (sym from) (sym to) (sym here) (sym row) (subst All c.in-Some.is all).0),
    )
