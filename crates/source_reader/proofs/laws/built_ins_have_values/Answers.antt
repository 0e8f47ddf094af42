use Rattle.source_reader.proofs.BuiltInValues.{greatest_value, least_value}
use Rattle.source_reader.proofs.SizeValues.{size_value}
use Rattle.source_reader.proofs.laws.built_ins_have_values.Goals as goal

pub returns-clause-least : goal.returns-clause-least
returns-clause-least c = least_value

pub returns-clause-greatest : goal.returns-clause-greatest
returns-clause-greatest c = greatest_value

pub returns-clause-size : goal.returns-clause-size
returns-clause-size c = size_value
