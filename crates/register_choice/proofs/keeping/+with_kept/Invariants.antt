use Rattle.register_choice.proofs.keeping.+with_kept.Given as goal

abbrev pub decreases-with_kept : goal.decreases-with_kept
decreases-with_kept l = l.values
