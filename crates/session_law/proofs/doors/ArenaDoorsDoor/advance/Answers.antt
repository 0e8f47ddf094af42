use Rattle.std.proofs.Common.{◌≡◌, ◌<◌, length, arith, refl, sym, ◌∙◌, ap, subst}
use Rattle.session_law.proofs.Standing.{advances_at}
use Rattle.session_law.proofs.doors.ArenaDoorsDoor.advance.Goals as goal

pub returns : goal.returns
returns c =
    let d = c.args.self.now in
    let within : d.tenant < length d.arenas.items = (let len = d.arenas.ok.0 in omega (arith, len, c.len.ensures, c.if-self-len.false)) in
    advances_at d _ c.index_mut.result.now c.advance.new.self within c.index_mut.ensures.value refl refl c.advance.result refl c.advance.ensures.moved
