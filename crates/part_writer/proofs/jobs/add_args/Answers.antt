use Rattle.std.proofs.Common.{◌≡◌, codes, get_or, length, pos, rules, FitsSigned, w64}
use Rattle.part_writer.proofs.JobTexts.{signed_added, two_added}
use Rattle.part_writer.proofs.jobs.add_args.Goals as goal

pub returns : goal.returns
returns c =
    let long : length c.args.args.now ≡ 2 = search rules in
    let first : FitsSigned w64 (get_or c.args.args.now 0 (pos 0)) = search rules in
    let second : FitsSigned w64 (get_or c.args.args.now 1 (pos 0)) = search rules in
    two_added c.args.args.now c.args.text.now.items c.add_signed.new.text.items c.add_signed-2.new.text.items c.add_bytes.new.text.items long
    (signed_added (get_or c.args.args.now 0 (pos 0)) c.args.text.now.items c.add_signed.new.text.items (codes "[") first c.in_ok-add_signed.ensures)
    (signed_added (get_or c.args.args.now 1 (pos 0)) c.add_signed.new.text.items c.add_signed-2.new.text.items (codes ",") second c.in_ok-add_signed-2.ensures)
    c.in_ok-add_bytes.ensures
