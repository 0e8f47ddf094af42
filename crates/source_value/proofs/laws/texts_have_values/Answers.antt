use Rattle.std.proofs.Common.{◌∷◌, ◌++◌}
use Rattle.job_language.specs.declared.steps.Step.TheVariants.{Ask}
use Rattle.tenant_model.specs.State.{empty}
use Rattle.tenant_model.specs.Solo.{after}
use Rattle.source_value.proofs.Telling.{told}
use Rattle.source_value.proofs.laws.texts_have_values.Goals as goal

pub returns : goal.returns
returns c tenant xs slots ys zs ws r q b j v gs text parts brought program numbers serial made asked complete =
    let done = told (after (empty tenant) (ys ++ Ask r ∷ zs)) q j v asked complete in
    let value = c.jobs_have_source_values.ensures tenant xs slots ys zs (Ask q ∷ ws) r b j v program.functions parts brought program.compiled.valid made serial done program.compiled numbers in
    record { functions = program.functions; said = program.said; steps = value.0; gives = value.1 }
