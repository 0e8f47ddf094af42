use Rattle.std.proofs.Common.{refl, inl}
use Rattle.place_lists.proofs.filing.Filing.file_all.Goals as goal

pub loop-place-init : goal.loop-place-init
loop-place-init c = record { moves = λ p. inl refl; places = refl; lists = refl }
