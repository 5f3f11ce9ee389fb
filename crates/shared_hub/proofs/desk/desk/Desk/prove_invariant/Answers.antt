-- a hub has what every hub keeps
use Rattle.shared_hub.proofs.desk.desk.Desk.prove_invariant.Goals as goal

pub returns-clause-hub : goal.returns-clause-hub
returns-clause-hub g c = record {
  sound = c.prove_invariant.ensures.sound;
  reached = c.prove_invariant.ensures.reached;
  legal = c.prove_invariant.ensures.legal;
  room = c.prove_invariant.ensures.room;
}
