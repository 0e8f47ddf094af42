use Rattle.register_choice.proofs.again.+with_one_again.Given as goal

abbrev pub decreases-with_one_again : goal.decreases-with_one_again
decreases-with_one_again l = l.left
