use Rattle.std.proofs.Common.{take, drop, ◌-◌, ◌∙◌, ap, arith, length-take, length-drop}
use Rattle.request_reader.proofs.Parts.{front-more}
use Rattle.request_reader.proofs.windows.Window.fill.Goals as goal

pub returns-clause-ok : goal.returns-clause-ok
returns-clause-ok g c =
    let n = c.in_ok-count.count in
    let held = c.self.inside.end - c.self.inside.start in
    let bytes = c.read_from.new.bytes.items in (
      take n (drop held bytes),
      simp (length-take, length-drop) (omega (arith, c.in_ok-count.ensures.bound)),
      front-more bytes _ held n (c.read_from.ensures.before ∙ c.move_to_front.ensures.front ∙ ap (λ b. b.held) c.self.view_is),
      c.in_ok-count.ensures.ok,
    )
