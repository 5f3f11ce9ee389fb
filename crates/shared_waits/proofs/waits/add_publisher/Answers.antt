-- a publisher that isn't there is put behind the others
use Rattle.std.proofs.Common.{◌∙◌, ◌++◌, ◌∷◌, [], List, ℕ, ap}
use Rattle.indexmap.proofs.CallerLemmas.{insert_entry-new}
use Rattle.shared_waits.proofs.waits.add_publisher.Goals as goal

pub returns : goal.returns
returns c =
    c.in-Ok.ensures.entries
    ∙ insert_entry-new _ c.leave.new.publishers c.args.publisher c.args.receiver c.leave.ensures.gone
    ∙ ap (λ (ws : List (ℕ × ℕ)). ws ++ (c.args.publisher, c.args.receiver) ∷ []) c.leave.ensures.left
