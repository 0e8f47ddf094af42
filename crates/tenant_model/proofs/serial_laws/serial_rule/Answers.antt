use Rattle.tenant_model.proofs.SerialRule.{follows_its_turn, needs_instructions, takes_instructions}
use Rattle.tenant_model.proofs.serial_laws.serial_rule.Goals as goal

pub returns-clause-follows_its_turn : goal.returns-clause-follows_its_turn
returns-clause-follows_its_turn c = follows_its_turn

pub returns-clause-needs_instructions : goal.returns-clause-needs_instructions
returns-clause-needs_instructions c = needs_instructions

pub returns-clause-takes_instructions : goal.returns-clause-takes_instructions
returns-clause-takes_instructions c = takes_instructions
