use Rattle.std.proofs.lemmas.List.{set-set}
use Rattle.tenant_record.proofs.places.wake.Goals as goal

pub returns : goal.returns
returns c = rw (c.replace-out.ensures.home, c.replace-place.ensures.home, c.due.ensures, c.replace-place.ensures.value) (set-set _ _ _ _)
