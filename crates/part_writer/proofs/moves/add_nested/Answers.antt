use Rattle.std.proofs.Common.{codes, decimal}
use Rattle.part_writer.proofs.MoveTexts.{then_three}
use Rattle.part_writer.proofs.moves.add_nested.Goals as goal

pub returns : goal.returns
returns c = then_three _ _ c.args.text.now.items (codes "{\"moved\":\"nested\",\"row\":") (decimal c.args.row) (codes ",\"slot\":") (decimal c.args.slot) (codes ",\"step\":\"advance\"}\n")
    c.in_ok-add_number.ensures c.in_ok-add_advance.ensures
