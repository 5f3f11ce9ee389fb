-- fewer tokens are looked at
use Rattle.subjects.proofs.pattern_groups.places.Literals.+places_in.Given as goal

abbrev pub decreases-places_in : goal.decreases-places_in
decreases-places_in l = l.most
