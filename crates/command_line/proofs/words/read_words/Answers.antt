use Rattle.std.proofs.Common.{map, Ok}
use Rattle.command_line.proofs.Lines.{right, wrong, play_is_right, check_is_right, sets_is_right, serve_is_right, unknown_is_wrong, none_is_wrong}
use Rattle.command_line.proofs.words.read_words.Goals as goal

pub returns-in_ok-invocation-in-Ok-clause-reading : goal.returns-in_ok-invocation-in-Ok-clause-reading
returns-in_ok-invocation-in-Ok-clause-reading g c = right _ (map g.S.AsStr.text c.args.words.now) c.in-Ok.matches _ c.in_ok-command.ensures c.in-Ok.ensures.kinds c.in-Ok.ensures.matches c.in_ok-invocation-in-Ok.ensures

pub returns-in_ok-invocation-in-Ok-clause-play : goal.returns-in_ok-invocation-in-Ok-clause-play
returns-in_ok-invocation-in-Ok-clause-play g c = λ name e. play_is_right _ name (Ok c.in_ok-invocation-in-Ok.invocation) e (right _ (map g.S.AsStr.text c.args.words.now) c.in-Ok.matches _ c.in_ok-command.ensures c.in-Ok.ensures.kinds c.in-Ok.ensures.matches c.in_ok-invocation-in-Ok.ensures)

pub returns-in_ok-invocation-in-Ok-clause-check : goal.returns-in_ok-invocation-in-Ok-clause-check
returns-in_ok-invocation-in-Ok-clause-check g c = λ name e. check_is_right _ name (Ok c.in_ok-invocation-in-Ok.invocation) e (right _ (map g.S.AsStr.text c.args.words.now) c.in-Ok.matches _ c.in_ok-command.ensures c.in-Ok.ensures.kinds c.in-Ok.ensures.matches c.in_ok-invocation-in-Ok.ensures)

pub returns-in_ok-invocation-in-Ok-clause-sets : goal.returns-in_ok-invocation-in-Ok-clause-sets
returns-in_ok-invocation-in-Ok-clause-sets g c = λ name e. sets_is_right _ name (Ok c.in_ok-invocation-in-Ok.invocation) e (right _ (map g.S.AsStr.text c.args.words.now) c.in-Ok.matches _ c.in_ok-command.ensures c.in-Ok.ensures.kinds c.in-Ok.ensures.matches c.in_ok-invocation-in-Ok.ensures)

pub returns-in_ok-invocation-in-Ok-clause-serve : goal.returns-in_ok-invocation-in-Ok-clause-serve
returns-in_ok-invocation-in-Ok-clause-serve g c = λ name e. serve_is_right _ name (Ok c.in_ok-invocation-in-Ok.invocation) e (right _ (map g.S.AsStr.text c.args.words.now) c.in-Ok.matches _ c.in_ok-command.ensures c.in-Ok.ensures.kinds c.in-Ok.ensures.matches c.in_ok-invocation-in-Ok.ensures)

pub returns-in_ok-invocation-in-Ok-clause-unknown : goal.returns-in_ok-invocation-in-Ok-clause-unknown
returns-in_ok-invocation-in-Ok-clause-unknown g c = λ name word e unknown. unknown_is_wrong _ name word (Ok c.in_ok-invocation-in-Ok.invocation) e unknown (right _ (map g.S.AsStr.text c.args.words.now) c.in-Ok.matches _ c.in_ok-command.ensures c.in-Ok.ensures.kinds c.in-Ok.ensures.matches c.in_ok-invocation-in-Ok.ensures)

pub returns-in_ok-invocation-in-Ok-clause-none : goal.returns-in_ok-invocation-in-Ok-clause-none
returns-in_ok-invocation-in-Ok-clause-none g c = λ name e. none_is_wrong _ name (Ok c.in_ok-invocation-in-Ok.invocation) e (right _ (map g.S.AsStr.text c.args.words.now) c.in-Ok.matches _ c.in_ok-command.ensures c.in-Ok.ensures.kinds c.in-Ok.ensures.matches c.in_ok-invocation-in-Ok.ensures)

pub returns-in-Err-clause-reading : goal.returns-in-Err-clause-reading
returns-in-Err-clause-reading g c = wrong _ _ c.in-Err.error _ c.in_ok-command.ensures c.in-Err.ensures.kinds c.read_refusal.ensures

pub returns-in-Err-clause-play : goal.returns-in-Err-clause-play
returns-in-Err-clause-play g c = λ name e. play_is_right _ name _ e (wrong _ _ c.in-Err.error _ c.in_ok-command.ensures c.in-Err.ensures.kinds c.read_refusal.ensures)

pub returns-in-Err-clause-check : goal.returns-in-Err-clause-check
returns-in-Err-clause-check g c = λ name e. check_is_right _ name _ e (wrong _ _ c.in-Err.error _ c.in_ok-command.ensures c.in-Err.ensures.kinds c.read_refusal.ensures)

pub returns-in-Err-clause-sets : goal.returns-in-Err-clause-sets
returns-in-Err-clause-sets g c = λ name e. sets_is_right _ name _ e (wrong _ _ c.in-Err.error _ c.in_ok-command.ensures c.in-Err.ensures.kinds c.read_refusal.ensures)

pub returns-in-Err-clause-serve : goal.returns-in-Err-clause-serve
returns-in-Err-clause-serve g c = λ name e. serve_is_right _ name _ e (wrong _ _ c.in-Err.error _ c.in_ok-command.ensures c.in-Err.ensures.kinds c.read_refusal.ensures)

pub returns-in-Err-clause-unknown : goal.returns-in-Err-clause-unknown
returns-in-Err-clause-unknown g c = λ name word e unknown. unknown_is_wrong _ name word _ e unknown (wrong _ _ c.in-Err.error _ c.in_ok-command.ensures c.in-Err.ensures.kinds c.read_refusal.ensures)

pub returns-in-Err-clause-none : goal.returns-in-Err-clause-none
returns-in-Err-clause-none g c = λ name e. none_is_wrong _ name _ e (wrong _ _ c.in-Err.error _ c.in_ok-command.ensures c.in-Err.ensures.kinds c.read_refusal.ensures)
