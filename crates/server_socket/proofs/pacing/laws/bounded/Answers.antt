use Rattle.server_socket.proofs.pacing.Paced.{adds_up, fits_piece, is_measured, leaves_half, stays_fewer}
use Rattle.server_socket.proofs.pacing.laws.bounded.Goals as goal

pub returns-clause-half : goal.returns-clause-half
returns-clause-half c = leaves_half

pub returns-clause-piece : goal.returns-clause-piece
returns-clause-piece c = fits_piece

pub returns-clause-fewer : goal.returns-clause-fewer
returns-clause-fewer c = stays_fewer

pub returns-clause-untold : goal.returns-clause-untold
returns-clause-untold c = adds_up

pub returns-clause-takes : goal.returns-clause-takes
returns-clause-takes c = is_measured
