-- a run is the turns of its frames
use Rattle.std.proofs.Common.{◌≡◌, ◌+◌, ◌-◌, [], None, length, arith, refl, ap, vec_len, vec_capacity}
use Rattle.events.specs.declared.run.RunEnd.TheVariants as run
use Rattle.session_conn.specs.Turns.{port_of}
use Rattle.session_conn.specs.Serving.{spot}
use Rattle.session_conn.proofs.Gathered.{none_ahead}
use Rattle.session_conn.proofs.Posted.{leads}
use Rattle.session_conn.proofs.Finished.{went_published, nearer_published, none_behind, last_answered, last_stopped, room_last, went_last, nearer_last, ahead_last}
use Rattle.session_conn.proofs.run.take_run.Goals as goal

pub returns-in-Published-clause-went : goal.returns-in-Published-clause-went
returns-in-Published-clause-went g c =
    let run = (leads (port_of g.P.Port.steps g.P.Port.posts g.P.Port.holds) g.W.Words.draws c.args.context.moment c.args.context.conn c.args.context.stage c.args.ahead.now.room c.args.frames.now (spot c.args.port.now c.args.words.now c.args.context.stage None) [] c.args.frames.now c.args.ahead.now.messages.items c.args.port.now c.args.words.now run.Published c.publish-end.new.messages.items c.publish-end.new.self c.publish-end.new.words c.requires.open c.requires.ahead (λ r h. h) c.in-Published.ensures.posted) in
    let none = none_behind (port_of g.P.Port.steps g.P.Port.posts g.P.Port.holds) g.W.Words.draws c.args.context.moment c.args.context.conn c.args.context.stage c.args.ahead.now.room c.args.frames.now (spot c.args.port.now c.args.words.now c.args.context.stage None) (length c.args.ahead.now.messages.items) c.publish-end.new.messages.items c.publish-end.new.self c.publish-end.new.words run in
    let all : c.saturating_sub-gone.result + length c.publish-end.new.messages.items ≡ length c.args.ahead.now.messages.items = omega (arith, ap length none, c.len-had.ensures, c.len.ensures, c.saturating_sub-gone.ensures, c.args.ahead.now.messages.ok.0, c.publish-end.new.messages.ok.0) in
    went_published (port_of g.P.Port.steps g.P.Port.posts g.P.Port.holds) g.W.Words.draws c.args.context.moment c.args.context.conn c.args.context.stage c.args.ahead.now.room c.args.frames.now (spot c.args.port.now c.args.words.now c.args.context.stage None) (length c.args.ahead.now.messages.items) c.saturating_sub-gone.result c.publish-end.new.messages.items c.publish-end.new.self c.publish-end.new.words c.args.out.now.items c.drop_many.new.self run all c.drop_many.ensures

pub returns-in-Published-clause-nearer : goal.returns-in-Published-clause-nearer
returns-in-Published-clause-nearer g c =
    let run = (leads (port_of g.P.Port.steps g.P.Port.posts g.P.Port.holds) g.W.Words.draws c.args.context.moment c.args.context.conn c.args.context.stage c.args.ahead.now.room c.args.frames.now (spot c.args.port.now c.args.words.now c.args.context.stage None) [] c.args.frames.now c.args.ahead.now.messages.items c.args.port.now c.args.words.now run.Published c.publish-end.new.messages.items c.publish-end.new.self c.publish-end.new.words c.requires.open c.requires.ahead (λ r h. h) c.in-Published.ensures.posted) in
    let none = none_behind (port_of g.P.Port.steps g.P.Port.posts g.P.Port.holds) g.W.Words.draws c.args.context.moment c.args.context.conn c.args.context.stage c.args.ahead.now.room c.args.frames.now (spot c.args.port.now c.args.words.now c.args.context.stage None) (length c.args.ahead.now.messages.items) c.publish-end.new.messages.items c.publish-end.new.self c.publish-end.new.words run in
    let all : c.saturating_sub-gone.result + length c.publish-end.new.messages.items ≡ length c.args.ahead.now.messages.items = omega (arith, ap length none, c.len-had.ensures, c.len.ensures, c.saturating_sub-gone.ensures, c.args.ahead.now.messages.ok.0, c.publish-end.new.messages.ok.0) in
    nearer_published c.args.context.stage c.args.ahead.now.room c.args.frames.now c.args.ahead.now.messages.items c.saturating_sub-gone.result c.publish-end.new.messages.items c.drop_many.new.self c.requires.ahead c.requires.some all none c.drop_many.ensures

pub returns-in-Published-clause-ahead : goal.returns-in-Published-clause-ahead
returns-in-Published-clause-ahead g c still =
    let run = (leads (port_of g.P.Port.steps g.P.Port.posts g.P.Port.holds) g.W.Words.draws c.args.context.moment c.args.context.conn c.args.context.stage c.args.ahead.now.room c.args.frames.now (spot c.args.port.now c.args.words.now c.args.context.stage None) [] c.args.frames.now c.args.ahead.now.messages.items c.args.port.now c.args.words.now run.Published c.publish-end.new.messages.items c.publish-end.new.self c.publish-end.new.words c.requires.open c.requires.ahead (λ r h. h) c.in-Published.ensures.posted) in
    none_ahead c.args.context.stage c.args.ahead.now.room c.drop_many.new.self c.publish-end.new.messages.items (none_behind (port_of g.P.Port.steps g.P.Port.posts g.P.Port.holds) g.W.Words.draws c.args.context.moment c.args.context.conn c.args.context.stage c.args.ahead.now.room c.args.frames.now (spot c.args.port.now c.args.words.now c.args.context.stage None) (length c.args.ahead.now.messages.items) c.publish-end.new.messages.items c.publish-end.new.self c.publish-end.new.words run)

pub tell_first-requires : goal.tell_first-requires
tell_first-requires g c =
    let at : c.saturating_sub.result ≡ length c.args.ahead.now.messages.items - length c.publish-end.new.messages.items - 1 = omega (arith, c.saturating_sub.ensures, c.len-had.ensures, c.len.ensures, c.saturating_sub-gone.ensures, c.args.ahead.now.messages.ok.0, c.publish-end.new.messages.ok.0) in
    let last = last_answered (port_of g.P.Port.steps g.P.Port.posts g.P.Port.holds) g.W.Words.draws c.args.context.moment c.args.context.conn c.args.context.stage c.args.ahead.now.room c.args.frames.now (spot c.args.port.now c.args.words.now c.args.context.stage None) (length c.args.ahead.now.messages.items) c.in-Answered.answer c.publish-end.new.messages.items c.publish-end.new.self c.publish-end.new.words c.saturating_sub.result
    (leads (port_of g.P.Port.steps g.P.Port.posts g.P.Port.holds) g.W.Words.draws c.args.context.moment c.args.context.conn c.args.context.stage c.args.ahead.now.room c.args.frames.now (spot c.args.port.now c.args.words.now c.args.context.stage None) [] c.args.frames.now c.args.ahead.now.messages.items c.args.port.now c.args.words.now (run.Answered c.in-Answered.answer) c.publish-end.new.messages.items c.publish-end.new.self c.publish-end.new.words c.requires.open c.requires.ahead (λ r h. h) c.in-Answered.ensures.posted) at in
    room_last (port_of g.P.Port.steps g.P.Port.posts g.P.Port.holds) g.W.Words.draws c.args.context.moment c.args.context.conn c.args.context.stage c.args.ahead.now.room c.args.frames.now (spot c.args.port.now c.args.words.now c.args.context.stage None) c.saturating_sub.result (run.Answered c.in-Answered.answer) c.publish-end.new.messages.items c.publish-end.new.self c.publish-end.new.words (vec_len c.args.out.now) (vec_capacity c.args.out.now) last c.requires.room

pub returns-in-Answered-clause-went : goal.returns-in-Answered-clause-went
returns-in-Answered-clause-went g c =
    let at : c.saturating_sub.result ≡ length c.args.ahead.now.messages.items - length c.publish-end.new.messages.items - 1 = omega (arith, c.saturating_sub.ensures, c.len-had.ensures, c.len.ensures, c.saturating_sub-gone.ensures, c.args.ahead.now.messages.ok.0, c.publish-end.new.messages.ok.0) in
    let last = last_answered (port_of g.P.Port.steps g.P.Port.posts g.P.Port.holds) g.W.Words.draws c.args.context.moment c.args.context.conn c.args.context.stage c.args.ahead.now.room c.args.frames.now (spot c.args.port.now c.args.words.now c.args.context.stage None) (length c.args.ahead.now.messages.items) c.in-Answered.answer c.publish-end.new.messages.items c.publish-end.new.self c.publish-end.new.words c.saturating_sub.result
    (leads (port_of g.P.Port.steps g.P.Port.posts g.P.Port.holds) g.W.Words.draws c.args.context.moment c.args.context.conn c.args.context.stage c.args.ahead.now.room c.args.frames.now (spot c.args.port.now c.args.words.now c.args.context.stage None) [] c.args.frames.now c.args.ahead.now.messages.items c.args.port.now c.args.words.now (run.Answered c.in-Answered.answer) c.publish-end.new.messages.items c.publish-end.new.self c.publish-end.new.words c.requires.open c.requires.ahead (λ r h. h) c.in-Answered.ensures.posted) at in
    went_last (port_of g.P.Port.steps g.P.Port.posts g.P.Port.holds) g.W.Words.draws c.args.context.moment c.args.context.conn c.args.context.stage c.args.ahead.now.room c.args.frames.now (spot c.args.port.now c.args.words.now c.args.context.stage None) c.saturating_sub.result (run.Answered c.in-Answered.answer) c.publish-end.new.messages.items c.publish-end.new.self c.publish-end.new.words c.tell_first.result c.args.out.now.items c.tell_first.new.out.items c.tell_first.new.frames refl c.requires.open last c.tell_first.ensures

pub returns-in-Answered-clause-nearer : goal.returns-in-Answered-clause-nearer
returns-in-Answered-clause-nearer g c =
    let at : c.saturating_sub.result ≡ length c.args.ahead.now.messages.items - length c.publish-end.new.messages.items - 1 = omega (arith, c.saturating_sub.ensures, c.len-had.ensures, c.len.ensures, c.saturating_sub-gone.ensures, c.args.ahead.now.messages.ok.0, c.publish-end.new.messages.ok.0) in
    let last = last_answered (port_of g.P.Port.steps g.P.Port.posts g.P.Port.holds) g.W.Words.draws c.args.context.moment c.args.context.conn c.args.context.stage c.args.ahead.now.room c.args.frames.now (spot c.args.port.now c.args.words.now c.args.context.stage None) (length c.args.ahead.now.messages.items) c.in-Answered.answer c.publish-end.new.messages.items c.publish-end.new.self c.publish-end.new.words c.saturating_sub.result
    (leads (port_of g.P.Port.steps g.P.Port.posts g.P.Port.holds) g.W.Words.draws c.args.context.moment c.args.context.conn c.args.context.stage c.args.ahead.now.room c.args.frames.now (spot c.args.port.now c.args.words.now c.args.context.stage None) [] c.args.frames.now c.args.ahead.now.messages.items c.args.port.now c.args.words.now (run.Answered c.in-Answered.answer) c.publish-end.new.messages.items c.publish-end.new.self c.publish-end.new.words c.requires.open c.requires.ahead (λ r h. h) c.in-Answered.ensures.posted) at in
    nearer_last (port_of g.P.Port.steps g.P.Port.posts g.P.Port.holds) g.W.Words.draws c.args.context.moment c.args.context.conn c.args.context.stage c.args.ahead.now.room c.args.frames.now (spot c.args.port.now c.args.words.now c.args.context.stage None) c.saturating_sub.result (run.Answered c.in-Answered.answer) c.publish-end.new.messages.items c.publish-end.new.self c.publish-end.new.words c.tell_first.result c.args.out.now.items c.tell_first.new.out.items c.tell_first.new.frames last c.tell_first.ensures

pub returns-in-Answered-clause-ahead : goal.returns-in-Answered-clause-ahead
returns-in-Answered-clause-ahead g c =
    let at : c.saturating_sub.result ≡ length c.args.ahead.now.messages.items - length c.publish-end.new.messages.items - 1 = omega (arith, c.saturating_sub.ensures, c.len-had.ensures, c.len.ensures, c.saturating_sub-gone.ensures, c.args.ahead.now.messages.ok.0, c.publish-end.new.messages.ok.0) in
    let last = last_answered (port_of g.P.Port.steps g.P.Port.posts g.P.Port.holds) g.W.Words.draws c.args.context.moment c.args.context.conn c.args.context.stage c.args.ahead.now.room c.args.frames.now (spot c.args.port.now c.args.words.now c.args.context.stage None) (length c.args.ahead.now.messages.items) c.in-Answered.answer c.publish-end.new.messages.items c.publish-end.new.self c.publish-end.new.words c.saturating_sub.result
    (leads (port_of g.P.Port.steps g.P.Port.posts g.P.Port.holds) g.W.Words.draws c.args.context.moment c.args.context.conn c.args.context.stage c.args.ahead.now.room c.args.frames.now (spot c.args.port.now c.args.words.now c.args.context.stage None) [] c.args.frames.now c.args.ahead.now.messages.items c.args.port.now c.args.words.now (run.Answered c.in-Answered.answer) c.publish-end.new.messages.items c.publish-end.new.self c.publish-end.new.words c.requires.open c.requires.ahead (λ r h. h) c.in-Answered.ensures.posted) at in
    ahead_last (port_of g.P.Port.steps g.P.Port.posts g.P.Port.holds) g.W.Words.draws c.args.context.moment c.args.context.conn c.args.context.stage c.args.ahead.now.room c.args.frames.now (spot c.args.port.now c.args.words.now c.args.context.stage None) c.saturating_sub.result (run.Answered c.in-Answered.answer) c.publish-end.new.messages.items c.publish-end.new.self c.publish-end.new.words c.tell_first.result c.args.out.now.items c.tell_first.new.out.items c.tell_first.new.frames last c.tell_first.ensures

pub tell_first-requires-in-Stopped : goal.tell_first-requires-in-Stopped
tell_first-requires-in-Stopped g c =
    let at : c.saturating_sub-in-Stopped.result ≡ length c.args.ahead.now.messages.items - length c.publish-end.new.messages.items - 1 = omega (arith, c.saturating_sub-in-Stopped.ensures, c.len-had.ensures, c.len.ensures, c.saturating_sub-gone.ensures, c.args.ahead.now.messages.ok.0, c.publish-end.new.messages.ok.0) in
    let last = last_stopped (port_of g.P.Port.steps g.P.Port.posts g.P.Port.holds) g.W.Words.draws c.args.context.moment c.args.context.conn c.args.context.stage c.args.ahead.now.room c.args.frames.now (spot c.args.port.now c.args.words.now c.args.context.stage None) (length c.args.ahead.now.messages.items) c.in-Stopped.word c.in-Stopped.refusal c.publish-end.new.messages.items c.publish-end.new.self c.publish-end.new.words c.saturating_sub-in-Stopped.result
    (leads (port_of g.P.Port.steps g.P.Port.posts g.P.Port.holds) g.W.Words.draws c.args.context.moment c.args.context.conn c.args.context.stage c.args.ahead.now.room c.args.frames.now (spot c.args.port.now c.args.words.now c.args.context.stage None) [] c.args.frames.now c.args.ahead.now.messages.items c.args.port.now c.args.words.now (run.Stopped c.in-Stopped.word c.in-Stopped.refusal) c.publish-end.new.messages.items c.publish-end.new.self c.publish-end.new.words c.requires.open c.requires.ahead (λ r h. h) c.in-Stopped.ensures.posted) at in
    room_last (port_of g.P.Port.steps g.P.Port.posts g.P.Port.holds) g.W.Words.draws c.args.context.moment c.args.context.conn c.args.context.stage c.args.ahead.now.room c.args.frames.now (spot c.args.port.now c.args.words.now c.args.context.stage None) c.saturating_sub-in-Stopped.result (run.Stopped c.in-Stopped.word c.in-Stopped.refusal) c.publish-end.new.messages.items c.publish-end.new.self c.publish-end.new.words (vec_len c.args.out.now) (vec_capacity c.args.out.now) last c.requires.room

pub returns-in-Stopped-clause-went : goal.returns-in-Stopped-clause-went
returns-in-Stopped-clause-went g c =
    let at : c.saturating_sub-in-Stopped.result ≡ length c.args.ahead.now.messages.items - length c.publish-end.new.messages.items - 1 = omega (arith, c.saturating_sub-in-Stopped.ensures, c.len-had.ensures, c.len.ensures, c.saturating_sub-gone.ensures, c.args.ahead.now.messages.ok.0, c.publish-end.new.messages.ok.0) in
    let last = last_stopped (port_of g.P.Port.steps g.P.Port.posts g.P.Port.holds) g.W.Words.draws c.args.context.moment c.args.context.conn c.args.context.stage c.args.ahead.now.room c.args.frames.now (spot c.args.port.now c.args.words.now c.args.context.stage None) (length c.args.ahead.now.messages.items) c.in-Stopped.word c.in-Stopped.refusal c.publish-end.new.messages.items c.publish-end.new.self c.publish-end.new.words c.saturating_sub-in-Stopped.result
    (leads (port_of g.P.Port.steps g.P.Port.posts g.P.Port.holds) g.W.Words.draws c.args.context.moment c.args.context.conn c.args.context.stage c.args.ahead.now.room c.args.frames.now (spot c.args.port.now c.args.words.now c.args.context.stage None) [] c.args.frames.now c.args.ahead.now.messages.items c.args.port.now c.args.words.now (run.Stopped c.in-Stopped.word c.in-Stopped.refusal) c.publish-end.new.messages.items c.publish-end.new.self c.publish-end.new.words c.requires.open c.requires.ahead (λ r h. h) c.in-Stopped.ensures.posted) at in
    went_last (port_of g.P.Port.steps g.P.Port.posts g.P.Port.holds) g.W.Words.draws c.args.context.moment c.args.context.conn c.args.context.stage c.args.ahead.now.room c.args.frames.now (spot c.args.port.now c.args.words.now c.args.context.stage None) c.saturating_sub-in-Stopped.result (run.Stopped c.in-Stopped.word c.in-Stopped.refusal) c.publish-end.new.messages.items c.publish-end.new.self c.publish-end.new.words c.tell_first-in-Stopped.result c.args.out.now.items c.tell_first-in-Stopped.new.out.items c.tell_first-in-Stopped.new.frames refl c.requires.open last c.tell_first-in-Stopped.ensures

pub returns-in-Stopped-clause-nearer : goal.returns-in-Stopped-clause-nearer
returns-in-Stopped-clause-nearer g c =
    let at : c.saturating_sub-in-Stopped.result ≡ length c.args.ahead.now.messages.items - length c.publish-end.new.messages.items - 1 = omega (arith, c.saturating_sub-in-Stopped.ensures, c.len-had.ensures, c.len.ensures, c.saturating_sub-gone.ensures, c.args.ahead.now.messages.ok.0, c.publish-end.new.messages.ok.0) in
    let last = last_stopped (port_of g.P.Port.steps g.P.Port.posts g.P.Port.holds) g.W.Words.draws c.args.context.moment c.args.context.conn c.args.context.stage c.args.ahead.now.room c.args.frames.now (spot c.args.port.now c.args.words.now c.args.context.stage None) (length c.args.ahead.now.messages.items) c.in-Stopped.word c.in-Stopped.refusal c.publish-end.new.messages.items c.publish-end.new.self c.publish-end.new.words c.saturating_sub-in-Stopped.result
    (leads (port_of g.P.Port.steps g.P.Port.posts g.P.Port.holds) g.W.Words.draws c.args.context.moment c.args.context.conn c.args.context.stage c.args.ahead.now.room c.args.frames.now (spot c.args.port.now c.args.words.now c.args.context.stage None) [] c.args.frames.now c.args.ahead.now.messages.items c.args.port.now c.args.words.now (run.Stopped c.in-Stopped.word c.in-Stopped.refusal) c.publish-end.new.messages.items c.publish-end.new.self c.publish-end.new.words c.requires.open c.requires.ahead (λ r h. h) c.in-Stopped.ensures.posted) at in
    nearer_last (port_of g.P.Port.steps g.P.Port.posts g.P.Port.holds) g.W.Words.draws c.args.context.moment c.args.context.conn c.args.context.stage c.args.ahead.now.room c.args.frames.now (spot c.args.port.now c.args.words.now c.args.context.stage None) c.saturating_sub-in-Stopped.result (run.Stopped c.in-Stopped.word c.in-Stopped.refusal) c.publish-end.new.messages.items c.publish-end.new.self c.publish-end.new.words c.tell_first-in-Stopped.result c.args.out.now.items c.tell_first-in-Stopped.new.out.items c.tell_first-in-Stopped.new.frames last c.tell_first-in-Stopped.ensures

pub returns-in-Stopped-clause-ahead : goal.returns-in-Stopped-clause-ahead
returns-in-Stopped-clause-ahead g c =
    let at : c.saturating_sub-in-Stopped.result ≡ length c.args.ahead.now.messages.items - length c.publish-end.new.messages.items - 1 = omega (arith, c.saturating_sub-in-Stopped.ensures, c.len-had.ensures, c.len.ensures, c.saturating_sub-gone.ensures, c.args.ahead.now.messages.ok.0, c.publish-end.new.messages.ok.0) in
    let last = last_stopped (port_of g.P.Port.steps g.P.Port.posts g.P.Port.holds) g.W.Words.draws c.args.context.moment c.args.context.conn c.args.context.stage c.args.ahead.now.room c.args.frames.now (spot c.args.port.now c.args.words.now c.args.context.stage None) (length c.args.ahead.now.messages.items) c.in-Stopped.word c.in-Stopped.refusal c.publish-end.new.messages.items c.publish-end.new.self c.publish-end.new.words c.saturating_sub-in-Stopped.result
    (leads (port_of g.P.Port.steps g.P.Port.posts g.P.Port.holds) g.W.Words.draws c.args.context.moment c.args.context.conn c.args.context.stage c.args.ahead.now.room c.args.frames.now (spot c.args.port.now c.args.words.now c.args.context.stage None) [] c.args.frames.now c.args.ahead.now.messages.items c.args.port.now c.args.words.now (run.Stopped c.in-Stopped.word c.in-Stopped.refusal) c.publish-end.new.messages.items c.publish-end.new.self c.publish-end.new.words c.requires.open c.requires.ahead (λ r h. h) c.in-Stopped.ensures.posted) at in
    ahead_last (port_of g.P.Port.steps g.P.Port.posts g.P.Port.holds) g.W.Words.draws c.args.context.moment c.args.context.conn c.args.context.stage c.args.ahead.now.room c.args.frames.now (spot c.args.port.now c.args.words.now c.args.context.stage None) c.saturating_sub-in-Stopped.result (run.Stopped c.in-Stopped.word c.in-Stopped.refusal) c.publish-end.new.messages.items c.publish-end.new.self c.publish-end.new.words c.tell_first-in-Stopped.result c.args.out.now.items c.tell_first-in-Stopped.new.out.items c.tell_first-in-Stopped.new.frames last c.tell_first-in-Stopped.ensures
