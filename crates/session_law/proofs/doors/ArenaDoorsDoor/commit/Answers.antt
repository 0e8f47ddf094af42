use Rattle.std.proofs.Common.{◌≡◌, ◌<◌, length, arith, refl, sym, ◌∙◌, ap, subst}
use Rattle.session_law.proofs.Standing.{commits_at}
use Rattle.session_law.proofs.doors.ArenaDoorsDoor.commit.Goals as goal

pub returns : goal.returns
returns c =
    let d = c.args.self.now in
    let within : d.tenant < length d.arenas.items = (let len = d.arenas.ok.0 in omega (arith, len, c.len.ensures, c.if-self-len.false)) in
    commits_at d _ c.index_mut.result.now c.commit.new.self within c.index_mut.ensures.value refl refl c.commit.result c.args.segment refl c.commit.ensures.moved
