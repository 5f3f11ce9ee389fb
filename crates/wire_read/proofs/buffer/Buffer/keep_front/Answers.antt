use Rattle.std.proofs.Common.{◌≡◌, ℕ, List, [], ◌++◌, length, take, ap, ◌∙◌, arith, length-append, append-nil}
use Rattle.std.proofs.lemmas.List.{nil_from_length}
use Rattle.std.specs.Option.{unwrap_or}
use Rattle.wire_read.proofs.buffer.Buffer.keep_front.Goals as goal

kept_alone : (shared grown front whole : List ℕ) → shared ++ grown ≡ [] → front ≡ whole → front ++ grown ≡ whole
kept_alone shared grown front whole none is =
    let empty : grown ≡ [] = nil_from_length grown (omega (arith, ap length none, length-append shared grown)) in
    rw empty (append-nil front ∙ is)

pub returns-in-Ok-clause-kept : goal.returns-in-Ok-clause-kept
returns-in-Ok-clause-kept c =
    kept_alone (unwrap_or c.self.inside.shared []) c.self.inside.grown.items c.truncate.new.self (take c.args.len c.args.whole)
    (c.self.view_is ∙ c.requires) (c.truncate.ensures ∙ ap (take c.args.len) c.in-Ok.ensures)

pub returns-in-Err-clause-kept : goal.returns-in-Err-clause-kept
returns-in-Err-clause-kept c =
    kept_alone (unwrap_or c.self.inside.shared []) c.self.inside.grown.items c.truncate-in-Err.new.self (take c.args.len c.args.whole)
    (c.self.view_is ∙ c.requires) c.truncate-in-Err.ensures
