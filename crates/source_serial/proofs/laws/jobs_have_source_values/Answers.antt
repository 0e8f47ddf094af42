use Rattle.source_serial.proofs.Back.{source_values}
use Rattle.source_serial.proofs.laws.jobs_have_source_values.Goals as goal

pub returns : goal.returns
returns c tenant xs slots ys zs ws r b j v fs parts brought valid made serial complete compiled fit =
    source_values fs b.program b.args compiled fit b.fuel v ((c.serial_values.ensures.keeps tenant xs slots).values ys zs ws r b j v parts brought valid made serial complete)
