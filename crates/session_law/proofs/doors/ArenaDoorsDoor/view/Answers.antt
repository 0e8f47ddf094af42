use Rattle.std.proofs.Common.{◌≡◌, ◌<◌, length, arith, refl, sym, ◌∙◌, ap, subst}
use Rattle.session_law.proofs.Standing.{sees_at}
use Rattle.session_law.proofs.doors.ArenaDoorsDoor.view.Goals as goal

pub returns : goal.returns
returns c =
    let d = c.args.self.now in
    let within : d.tenant < length d.arenas.items = (let len = d.arenas.ok.0 in omega (arith, len, c.len.ensures, c.if-self-len.false)) in
    sees_at d c.index.result.now within c.index.ensures c.view.result c.view.ensures
