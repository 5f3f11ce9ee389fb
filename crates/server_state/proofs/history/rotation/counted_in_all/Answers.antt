use Rattle.server_state.proofs.history.Counting.{all_counted}
use Rattle.server_state.proofs.history.rotation.counted_in_all.Goals as goal

pub returns : goal.returns
returns c = all_counted
