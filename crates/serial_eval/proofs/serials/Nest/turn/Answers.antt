use Rattle.std.proofs.Common.{◌≡◌, [], w64, to_z, of_z, rules, arith}
use Rattle.std.proofs.lemmas.Grind.{common_steps}
use Rattle.serial_eval.proofs.Nests.{nest_goes, nest_makes, nest_gives, root_gives, nest_fails}
use Rattle.serial_eval.proofs.serials.Nest.turn.Goals as goal

pub returns-in-None-clause-turned : goal.returns-in-None-clause-turned
returns-in-None-clause-turned c left =
    let none : c.args.self.now.makers.items ≡ [] = grind (arith, common_steps) in
    let same : to_z w64 (of_z w64 c.in-Gives.value) ≡ c.in-Gives.value = search rules in
    rw (none, same) (root_gives c.args.program.now c.args.self.now.task c.in-Gives.value c.in-Gives.ensures left)

pub returns-in-Fails-clause-turned : goal.returns-in-Fails-clause-turned
returns-in-Fails-clause-turned c = nest_fails c.args.program.now c.args.self.now.makers.items c.args.self.now.task c.in-Fails.ensures

pub returns-in-Goes-clause-turned : goal.returns-in-Goes-clause-turned
returns-in-Goes-clause-turned c = nest_goes c.args.program.now c.args.self.now.makers.items c.args.self.now.task c.in-Goes.task c.in-Goes.ensures

pub returns-in_ok-push-in-Makes-clause-turned : goal.returns-in_ok-push-in-Makes-clause-turned
returns-in_ok-push-in-Makes-clause-turned c left =
    rw c.in_ok-push-in-Makes.ensures.items (nest_makes c.args.program.now c.args.self.now.makers.items c.args.self.now.task c.in-Makes.task c.in-Makes.maker c.in-Makes.ensures left)

pub returns-in-Some-clause-turned : goal.returns-in-Some-clause-turned
returns-in-Some-clause-turned c left =
    let same : to_z w64 (of_z w64 c.in-Gives.value) ≡ c.in-Gives.value = search rules in
    rw (c.in-Some.ensures.items, c.with_value-self.ensures, same)
    (nest_gives c.args.program.now c.pop.new.self.items c.in-Some.field-0 c.args.self.now.task c.in-Gives.value c.in-Gives.ensures left)
