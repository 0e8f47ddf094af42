use Rattle.std.proofs.Common.{◌≡◌, ◌-◌}
use Rattle.tenant_model.specs.Serial.{serial_value}
use Rattle.serial_eval.specs.InsideNest.{nest_value}
use Rattle.serial_eval.proofs.serials.serial.Given as goal

abbrev pub invariant-loop-executed : goal.invariant-loop-executed
invariant-loop-executed l = nest_value l.program (l.n - l._executed) l.nest ≡ serial_value l.program l.fn.args l.n
