-- All digits but the last are those of a smaller number.
use Rattle.depths.proofs.+write_figures.Given as goal

abbrev pub decreases-write_figures : goal.decreases-write_figures
decreases-write_figures l = l.x
