use Rattle.std.proofs.Common.{◌≡◌, ℕ, ◌+◌, ◌-◌, List, ◌∷◌, length, take, drop, sym, ap, ◌∙◌, arith, length-drop}
use Rattle.std.proofs.lemmas.List.{take_all}
use Rattle.part_lines.specs.Parts.{whole_lines}
use Rattle.part_lines.proofs.FirstLine.{ends_line, has_hole, not_ended}
use Rattle.part_lines.proofs.reading.first_line.Goals as goal

pub returns-then-byte-eq0 : goal.returns-then-byte-eq0
returns-then-byte-eq0 c = has_hole c.args.bytes.now c.loop-at.at c.loop-at.invariant c.loop-at-test.true c.if-byte-eq0.true

pub returns-then-byte-eq10 : goal.returns-then-byte-eq10
returns-then-byte-eq10 c =
    let bytes = c.args.bytes.now in
    let at = c.loop-at.at in
    let within = c.loop-at-test.true in
    let rest = drop (at + 1) bytes in
    let long : length rest ≡ length bytes - (at + 1) = length-drop (at + 1) bytes in
    let all : take (length bytes - (at + 1)) rest ≡ rest = take_all (length bytes - (at + 1)) rest (omega (arith, long)) in
    (ends_line bytes at c.loop-at.invariant within c.if-byte-eq10.true ∙ ap (λ (x : List ℕ). take at bytes ∷ whole_lines x) (sym all), rw all (omega (arith, long, within)))

pub returns : goal.returns
returns c =
    let within = c.loop-at.auto.at-end in
    let last = c.loop-at-test.false in
    not_ended c.args.bytes.now c.loop-at.at c.loop-at.invariant (omega (arith, within)) (omega (arith, last))
