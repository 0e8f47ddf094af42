use Rattle.std.proofs.Common.{◌≡◌, Some, sym, ap, ◌∙◌}
use Rattle.std.specs.Prelude.{slice_set}
use Rattle.tenant_record.specs.Places.{place, pass_in}
use Rattle.tenant_record.specs.declared.places.Place.TheVariants.{Home}
use Rattle.tenant_record.proofs.Calling.{refused}
use Rattle.tenant_record.proofs.places.admit.Goals as goal

pub returns-in-Nothing : goal.returns-in-Nothing
returns-in-Nothing c =
    let p = c.in_ok-pass.pass in
    let held : pass_in (place c.args.home.now c.args.slot) ≡ Some p = ap pass_in (sym c.replace.ensures.value) ∙ sym c.in_ok-pass.ensures in
    let its = refused c.args.home.now c.args.slot p c.args.came held c.in-Nothing.is in
    record { pass = sym its.0; home = c.replace-out.ensures.home ∙ (ap (λ l. slice_set l c.args.slot (Home p)) c.replace.ensures.home ∙ its.1) }
