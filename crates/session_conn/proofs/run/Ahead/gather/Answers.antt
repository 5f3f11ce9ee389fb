-- one message more, up to a frame that has none
use Rattle.std.proofs.Common.{◌∷◌, ◌+◌, ◌∙◌, drop, sym, ap}
use Rattle.std.proofs.lemmas.List.{drop_more}
use Rattle.wire_read.specs.declared.frame.Frame.{Frame}
use Rattle.session_conn.proofs.Gathered.{none_gathered, gathered_more, gathered_all, same_added}
use Rattle.session_conn.proofs.run.Ahead.gather.Goals as goal

pub loop-frame-init : goal.loop-frame-init
loop-frame-init c = none_gathered c.args.stage c.args.frames.now c.args.self.now.room c.reserve-had.new.self.items (c.reserve-had.ensures.items ∙ c.requires.none)

pub returns-then-len-most : goal.returns-then-len-most
returns-then-len-most c = gathered_all c.args.stage c.args.frames.now c.loop-frame.frame-index c.loop-frame.self.room c.loop-frame.self.messages.items c.loop-frame.invariant

pub returns-then-not-add : goal.returns-then-not-add
returns-then-not-add c =
    same_added c.args.stage c.args.frames.now c.loop-frame.frame-index c.loop-frame.self.room c.loop-frame.self.messages.items c.add.new.self.room c.add.new.self.messages.items
    c.loop-frame.invariant (c.if-not-add.ensures.1) (c.if-not-add.ensures.0)

pub loop-frame-preserved : goal.loop-frame-preserved
loop-frame-preserved c =
    let f = c.frame-item.result in
    let i = c.loop-frame.frame-index in
    gathered_more c.args.stage c.args.frames.now i c.loop-frame.self.room c.loop-frame.self.messages.items f c.add.new.self.room c.add.new.self.messages.items c.requires.quiet
    (drop_more c.args.frames.now i f c.loop-frame-test.true ∙ ap (λ (x : Frame). x ∷ drop (i + 1) c.args.frames.now) (sym c.frame-item.is))
    c.loop-frame.invariant c.if-not-add.ensures

pub returns : goal.returns
returns c = gathered_all c.args.stage c.args.frames.now c.loop-frame.frame-index c.loop-frame.self.room c.loop-frame.self.messages.items c.loop-frame.invariant
