-- what the seat has offered is what the port has posted
use Rattle.std.proofs.Common.{◌≡◌, ◌∙◌, List, None, Some, ap, length, min, refl, subst, sym, arith}
use Rattle.std.proofs.lemmas.Grind.{common_steps}
use Rattle.events.specs.declared.answer.Entry.{Entry}
use Rattle.server_port.specs.Ends.{IsEnded}
use Rattle.server_port.specs.Holds.{AreAnswersNoted, IsWhy, answer_points, most}
use Rattle.server_port.specs.Points.{ArePassed}
use Rattle.server_port.proofs.Handed.{all_handed, ended_handed, held_handed}
use Rattle.server_port.proofs.Holds.{held_noted, hold_noted, hold_passed, kept_are, kept_below}
use Rattle.worker_port.specs.declared.course.Why.TheVariants.{Share}
use Rattle.server_port.proofs.Passing.{passed_from}
use Rattle.server_port.proofs.Whys.{all_followed_why, held_why}
use Rattle.server_port.proofs.SeatRuns.{posted_by, held_first, run_ends}
use Rattle.server_port.proofs.port.ServerPort.publish_some.Goals as goal

pub returns-then-self-eq0-clause-posted : goal.returns-then-self-eq0-clause-posted
returns-then-self-eq0-clause-posted g c =
    let held = c.hold_back.ensures.held in
    held_first (λ p. p.seat) (λ s. s.count) g.L.Run.opening g.W.Words.draws c.args.posts.conn c.args.posts.now c.args.messages.now.items held.1 c.hold_back.new.messages.items
    c.args.self.now c.args.words.now held.0 c.hold_back.result c.hold_back.new.self c.hold_back.new.words held.2 held.3 held.4 c.hold_back.ensures.seat

pub returns-in-None-clause-posted : goal.returns-in-None-clause-posted
returns-in-None-clause-posted g c =
    let run = c.in-None.ensures.run in
    posted_by (λ p. p.seat) (λ s. record c.args.self.now { seat = s }) (λ s. s.count) g.L.Run.opening g.W.Words.draws c.args.posts.conn c.args.posts.now
    c.args.messages.now.items c.pass_read.new.self.seat c.args.self.now c.args.words.now run.0 None _ c.enter_run-end.new.messages.items c.enter_run-end.new.self.seat
    c.follow_all.new.self c.enter_run-end.new.words (λ x. refl) c.requires.some (ap (λ s. s.count) (sym c.pass_read.ensures.seat)) c.follow_all.ensures.count refl run.2

pub returns-in-Some-clause-posted : goal.returns-in-Some-clause-posted
returns-in-Some-clause-posted g c =
    let run = c.in-Some.ensures.run in
    let ended = subst (λ n. IsEnded g.L.Run.opening c.in-Some.last n c.follow_last-end.result c.follow_last-end.new.self.seat.count) c.follow_all.ensures.count c.follow_last-end.ensures.end in
    let end = run_ends (λ s. s.count) g.L.Run.opening g.W.Words.draws c.args.posts.conn c.args.posts.now c.args.messages.now.items c.pass_read.new.self.seat c.args.words.now run.0
    c.in-Some.last c.enter_run-end.new.messages.items c.enter_run-end.new.self.seat c.follow_last-end.new.self.seat c.enter_run-end.new.words c.follow_last-end.result run.2 ended
    in
    posted_by (λ p. p.seat) (λ s. record c.args.self.now { seat = s }) (λ s. s.count) g.L.Run.opening g.W.Words.draws c.args.posts.conn c.args.posts.now
    c.args.messages.now.items c.pass_read.new.self.seat c.args.self.now c.args.words.now run.0 (Some end.0) c.follow_last-end.result c.enter_run-end.new.messages.items c.follow_last-end.new.self.seat
    c.follow_last-end.new.self c.enter_run-end.new.words (λ x. refl) c.requires.some (ap (λ s. s.count) (sym c.pass_read.ensures.seat)) refl end.1 end.2

pub returns-then-self-eq0-clause-unasked : goal.returns-then-self-eq0-clause-unasked
returns-then-self-eq0-clause-unasked g c = λ spent.
    let held = c.hold_back.ensures.held in
    let kept = c.hold_back.ensures.kept in
    (held.1, held.3, kept.0, kept.1, kept.2)

pub returns-then-self-eq0-clause-noted : goal.returns-then-self-eq0-clause-noted
returns-then-self-eq0-clause-noted g c =
    let held = c.hold_back.ensures.held in
    held_noted g.L.Run.opening g.W.Words.draws c.args.posts.conn c.args.posts.now c.args.messages.now.items held.1 c.hold_back.new.messages.items c.args.self.now.seat.count c.args.words.now held.0
    c.hold_back.result c.hold_back.new.self.seat.count c.hold_back.new.words c.args.self.now.noted c.hold_back.new.self.noted held.2 held.3 held.4 (ap (λ s. s.count) c.hold_back.ensures.seat) c.hold_back.ensures.kept.2

pub returns-in-None-clause-noted : goal.returns-in-None-clause-noted
returns-in-None-clause-noted g c =
    let run = c.in-None.ensures.run in
    let kept = c.enter_run-end.new.self.context.hold.answers.items in
    let they : kept ≡ run.0 = kept_are _ _ run.0 run.1 c.begin.ensures.none in
    let after = c.follow_all.new.self in
    let before : c.enter_run-end.new.self.noted ≡ c.args.self.now.noted = c.in-None.ensures.kept.2 ∙ c.pass_read.ensures.noted in
    let noted = subst (λ (l : List Entry). AreAnswersNoted l c.args.self.now.noted after.noted) they (subst (λ n. AreAnswersNoted kept n after.noted) before c.follow_all.ensures.noted) in
    hold_noted (λ s. s.count) g.L.Run.opening g.W.Words.draws c.args.posts.conn c.args.posts.now c.args.messages.now.items c.pass_read.new.self.seat c.args.words.now run.0 None
    c.enter_run-end.new.messages.items c.enter_run-end.new.self.seat c.enter_run-end.new.words _ c.args.self.now.seat.count after.seat.count c.args.self.now.noted after.noted after.noted
    (ap (λ s. s.count) c.pass_read.ensures.seat) c.follow_all.ensures.count refl run.2 noted refl

pub returns-in-None-clause-points : goal.returns-in-None-clause-points
returns-in-None-clause-points g c = λ asked.
    let passes = g.G.Gate.passes in
    let run = c.in-None.ensures.run in
    let read = c.pass_read.new.self in
    let entered = c.enter_run-end.new.self in
    let after = c.follow_all.new.self in
    let they : entered.context.hold.answers.items ≡ run.0 = kept_are _ _ run.0 run.1 c.begin.ensures.none in
    let followed = passed_from passes (answer_points (length entered.context.hold.answers.items)) read.gate entered.gate after.gate read.is_spent entered.is_spent after.is_spent
    c.in-None.ensures.kept.0 c.in-None.ensures.kept.1 c.follow_all.ensures.points
    in
    let within : c.min-most.result ≡ min (length c.args.messages.now.items) most = grind (arith, common_steps, c.min-most.ensures, c.len.ensures) in
    hold_passed passes _ g.W.Words.draws c.args.posts.conn c.args.posts.now c.args.messages.now.items read.seat c.args.words.now run.0 None c.enter_run-end.new.messages.items entered.seat c.enter_run-end.new.words
    after.course.why _ c.min-most.result c.args.self.now.gate read.gate after.gate after.gate c.args.self.now.is_spent read.is_spent after.is_spent after.is_spent
    run.2 refl within (kept_below _ _ _ _ _ run.0 c.requires.some within c.begin.ensures.most c.begin.ensures.none c.in-None.ensures.below they) c.pass_read.ensures.points
    (subst (λ (l : List Entry). ArePassed passes (answer_points (length l)) read.gate read.is_spent after.gate after.is_spent) they followed) (refl, refl)

pub returns-in-Some-clause-noted : goal.returns-in-Some-clause-noted
returns-in-Some-clause-noted g c =
    let run = c.in-Some.ensures.run in
    let kept = c.enter_run-end.new.self.context.hold.answers.items in
    let they : kept ≡ run.0 = kept_are _ _ run.0 run.1 c.begin.ensures.none in
    let after = c.follow_all.new.self in
    let before : c.enter_run-end.new.self.noted ≡ c.args.self.now.noted = c.in-Some.ensures.kept.2 ∙ c.pass_read.ensures.noted in
    let noted = subst (λ (l : List Entry). AreAnswersNoted l c.args.self.now.noted after.noted) they (subst (λ n. AreAnswersNoted kept n after.noted) before c.follow_all.ensures.noted) in
    let ended = subst (λ n. IsEnded g.L.Run.opening c.in-Some.last n c.follow_last-end.result c.follow_last-end.new.self.seat.count) c.follow_all.ensures.count c.follow_last-end.ensures.end in
    let end = run_ends (λ s. s.count) g.L.Run.opening g.W.Words.draws c.args.posts.conn c.args.posts.now c.args.messages.now.items c.pass_read.new.self.seat c.args.words.now run.0
    c.in-Some.last c.enter_run-end.new.messages.items c.enter_run-end.new.self.seat c.follow_last-end.new.self.seat c.enter_run-end.new.words c.follow_last-end.result run.2 ended
    in
    hold_noted (λ s. s.count) g.L.Run.opening g.W.Words.draws c.args.posts.conn c.args.posts.now c.args.messages.now.items c.pass_read.new.self.seat c.args.words.now run.0 (Some end.0)
    c.enter_run-end.new.messages.items c.follow_last-end.new.self.seat c.enter_run-end.new.words c.follow_last-end.result c.args.self.now.seat.count c.follow_last-end.new.self.seat.count
    c.args.self.now.noted after.noted c.follow_last-end.new.self.noted (ap (λ s. s.count) c.pass_read.ensures.seat) refl end.1 end.2 noted c.follow_last-end.ensures.noted

pub returns-in-Some-clause-points : goal.returns-in-Some-clause-points
returns-in-Some-clause-points g c = λ asked.
    let passes = g.G.Gate.passes in
    let run = c.in-Some.ensures.run in
    let read = c.pass_read.new.self in
    let entered = c.enter_run-end.new.self in
    let after = c.follow_all.new.self in
    let last = c.follow_last-end.new.self in
    let they : entered.context.hold.answers.items ≡ run.0 = kept_are _ _ run.0 run.1 c.begin.ensures.none in
    let followed = passed_from passes (answer_points (length entered.context.hold.answers.items)) read.gate entered.gate after.gate read.is_spent entered.is_spent after.is_spent
    c.in-Some.ensures.kept.0 c.in-Some.ensures.kept.1 c.follow_all.ensures.points
    in
    let ended = subst (λ n. IsEnded g.L.Run.opening c.in-Some.last n c.follow_last-end.result c.follow_last-end.new.self.seat.count) c.follow_all.ensures.count c.follow_last-end.ensures.end in
    let end = run_ends (λ s. s.count) g.L.Run.opening g.W.Words.draws c.args.posts.conn c.args.posts.now c.args.messages.now.items c.pass_read.new.self.seat c.args.words.now run.0
    c.in-Some.last c.enter_run-end.new.messages.items c.enter_run-end.new.self.seat c.follow_last-end.new.self.seat c.enter_run-end.new.words c.follow_last-end.result run.2 ended
    in
    let within : c.min-most.result ≡ min (length c.args.messages.now.items) most = grind (arith, common_steps, c.min-most.ensures, c.len.ensures) in
    hold_passed passes _ g.W.Words.draws c.args.posts.conn c.args.posts.now c.args.messages.now.items read.seat c.args.words.now run.0 (Some end.0) c.enter_run-end.new.messages.items last.seat c.enter_run-end.new.words
    last.course.why c.follow_last-end.result c.min-most.result c.args.self.now.gate read.gate after.gate last.gate c.args.self.now.is_spent read.is_spent after.is_spent last.is_spent
    end.2 end.1 within (kept_below _ _ _ _ _ run.0 c.requires.some within c.begin.ensures.most c.begin.ensures.none c.in-Some.ensures.below they) c.pass_read.ensures.points
    (subst (λ (l : List Entry). ArePassed passes (answer_points (length l)) read.gate read.is_spent after.gate after.is_spent) they followed) c.follow_last-end.ensures.points

pub returns-then-self-eq0-clause-why : goal.returns-then-self-eq0-clause-why
returns-then-self-eq0-clause-why g c =
    let held = c.hold_back.ensures.held in
    held_why c.hold_back.result held.0 Share c.args.self.now.course.why c.hold_back.new.self.course.why held.2 (ap (λ course. course.why) c.hold_back.ensures.course)

pub returns-in-None-clause-why : goal.returns-in-None-clause-why
returns-in-None-clause-why g c =
    ap (λ course. course.why) c.follow_all.ensures.course ∙ all_followed_why c.enter_run-end.new.self.context.hold.answers.items c.enter_run-end.new.self.course
    ∙ ap (λ course. course.why) (c.in-None.ensures.course ∙ c.pass_read.ensures.course)

pub returns-in-Some-clause-why : goal.returns-in-Some-clause-why
returns-in-Some-clause-why g c =
    let before : c.follow_all.new.self.course.why ≡ c.args.self.now.course.why =
    ap (λ course. course.why) c.follow_all.ensures.course ∙ all_followed_why c.enter_run-end.new.self.context.hold.answers.items c.enter_run-end.new.self.course
    ∙ ap (λ course. course.why) (c.in-Some.ensures.course ∙ c.pass_read.ensures.course)
    in
    subst (λ why. IsWhy c.follow_last-end.result why c.follow_last-end.new.self.course.why) before c.follow_last-end.ensures.why

pub returns-then-self-eq0-clause-rotations : goal.returns-then-self-eq0-clause-rotations
returns-then-self-eq0-clause-rotations g c =
    let held = c.hold_back.ensures.held in
    held_handed c.args.messages.now.items c.hold_back.new.messages.items held.1 c.args.self.now.seat.rotations c.hold_back.new.self.seat.rotations held.3 (ap (λ s. s.rotations) c.hold_back.ensures.seat)

pub returns-in-None-clause-rotations : goal.returns-in-None-clause-rotations
returns-in-None-clause-rotations g c =
    let run = c.in-None.ensures.run in
    let entered = c.enter_run-end.new.self in
    all_handed _ g.W.Words.draws c.args.posts.conn c.args.posts.now c.args.messages.now.items c.pass_read.new.self.seat c.args.words.now run.0 entered.context.hold.answers.items
    c.enter_run-end.new.messages.items entered.seat c.enter_run-end.new.words c.args.self.now.seat.rotations entered.seat.rotations c.follow_all.new.self.seat.rotations
    run.2 (kept_are _ _ run.0 run.1 c.begin.ensures.none) (c.in-None.ensures.rotations ∙ ap (λ s. s.rotations) c.pass_read.ensures.seat) c.follow_all.ensures.rotations

pub returns-in-Some-clause-rotations : goal.returns-in-Some-clause-rotations
returns-in-Some-clause-rotations g c =
    let run = c.in-Some.ensures.run in
    let entered = c.enter_run-end.new.self in
    ended_handed _ g.W.Words.draws c.args.posts.conn c.args.posts.now c.args.messages.now.items c.pass_read.new.self.seat c.args.words.now run.0 entered.context.hold.answers.items c.in-Some.last
    c.enter_run-end.new.messages.items entered.seat c.enter_run-end.new.words c.args.self.now.seat.rotations entered.seat.rotations c.follow_all.new.self.seat.rotations
    c.follow_last-end.new.self.seat.rotations run.2 (kept_are _ _ run.0 run.1 c.begin.ensures.none) (c.in-Some.ensures.rotations ∙ ap (λ s. s.rotations) c.pass_read.ensures.seat)
    c.follow_all.ensures.rotations c.follow_last-end.ensures.rotations
