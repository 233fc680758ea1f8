-- `certificate::halving::halved_figure` calls itself for each half: the measure is the depth.
use Rattle.certificate.proofs.halving.+halved_figure.Given as goal

abbrev pub decreases-halved_figure : goal.decreases-halved_figure
decreases-halved_figure l = l.depth
