-- no frame is left behind a single one
use Rattle.std.proofs.Common.{◌∙◌, ℕ, None, List, refl, sym, subst, arith}
use Rattle.wire_read.specs.declared.frame.Frame.{Frame}
use Rattle.session_conn.specs.declared.serve.Served.{Served}
use Rattle.session_conn.specs.Turns.{port_of}
use Rattle.session_conn.specs.Serving.{spot, served, Serves}
use Rattle.session_conn.specs.Running.{Completes}
use Rattle.session_conn.proofs.Runs.{completes_start, closed_at, completes_end, went_on, empty_of}
use Rattle.session_conn.proofs.serve.serve_one.Goals as goal

pub returns-then-is_empty-clause-served : goal.returns-then-is_empty-clause-served
returns-then-is_empty-clause-served g c =
    let start = spot c.args.port.now c.args.words.now c.args.context.stage c.args.context.word in
    let done = subst (λ (x : List ℕ). Completes (port_of g.P.Port.steps g.P.Port.posts g.P.Port.holds) g.W.Words.draws c.args.context.moment c.args.context.conn c.args.frames.now start x c.args.frames.now start)
    (sym c.new-bytes.ensures.items) (completes_start (port_of g.P.Port.steps g.P.Port.posts g.P.Port.holds) g.W.Words.draws c.args.context.moment c.args.context.conn c.args.frames.now start) in
    subst (λ (s : Served). Serves (port_of g.P.Port.steps g.P.Port.posts g.P.Port.holds) g.W.Words.draws c.args.context.moment c.args.context.conn c.args.frames.now start (served s.bytes.items c.args.frames.now s.stall (spot c.args.port.now c.args.words.now s.stage s.word)))
    (sym c.new.ensures)
    (completes_end (port_of g.P.Port.steps g.P.Port.posts g.P.Port.holds) g.W.Words.draws c.args.context.moment c.args.context.conn c.args.frames.now start c.new-bytes.result.items start
    c.args.frames.now (c.if-is_empty.ensures.0 refl) done)

pub returns-then-is_closed-clause-served : goal.returns-then-is_closed-clause-served
returns-then-is_closed-clause-served g c =
    let start = spot c.args.port.now c.args.words.now c.args.context.stage c.args.context.word in
    let done = subst (λ (x : List ℕ). Completes (port_of g.P.Port.steps g.P.Port.posts g.P.Port.holds) g.W.Words.draws c.args.context.moment c.args.context.conn c.args.frames.now start x c.args.frames.now start)
    (sym c.new-bytes.ensures.items) (completes_start (port_of g.P.Port.steps g.P.Port.posts g.P.Port.holds) g.W.Words.draws c.args.context.moment c.args.context.conn c.args.frames.now start) in
    subst (λ (s : Served). Serves (port_of g.P.Port.steps g.P.Port.posts g.P.Port.holds) g.W.Words.draws c.args.context.moment c.args.context.conn c.args.frames.now start (served s.bytes.items c.clear.new.self s.stall (spot c.args.port.now c.args.words.now s.stage s.word)))
    (sym c.new-then-is_closed.ensures)
    (subst (λ (x : List Frame). Serves (port_of g.P.Port.steps g.P.Port.posts g.P.Port.holds) g.W.Words.draws c.args.context.moment c.args.context.conn c.args.frames.now start (served c.new-bytes.result.items x None start))
    (sym c.clear.ensures)
    (closed_at (port_of g.P.Port.steps g.P.Port.posts g.P.Port.holds) g.W.Words.draws c.args.context.moment c.args.context.conn c.args.frames.now start c.new-bytes.result.items c.args.frames.now start
    done (sym c.is_closed.ensures ∙ c.if-is_closed.true)))

pub returns-in-Goes-clause-served : goal.returns-in-Goes-clause-served
returns-in-Goes-clause-served g c =
    let start = spot c.args.port.now c.args.words.now c.args.context.stage c.args.context.word in
    let at = spot c.take_one.new.port c.take_one.new.words c.in-Goes.after None in
    let done = subst (λ (x : List ℕ). Completes (port_of g.P.Port.steps g.P.Port.posts g.P.Port.holds) g.W.Words.draws c.args.context.moment c.args.context.conn c.args.frames.now start x c.args.frames.now start)
    (sym c.new-bytes.ensures.items) (completes_start (port_of g.P.Port.steps g.P.Port.posts g.P.Port.holds) g.W.Words.draws c.args.context.moment c.args.context.conn c.args.frames.now start) in
    let next = went_on (port_of g.P.Port.steps g.P.Port.posts g.P.Port.holds) g.W.Words.draws c.args.context.moment c.args.context.conn c.args.frames.now start c.new-bytes.result.items c.args.frames.now start
    c.in-Goes.after c.take_one.new.out.items c.take_one.new.frames c.take_one.new.port c.take_one.new.words done c.in-Goes.ensures.went in
    subst (λ (s : Served). Serves (port_of g.P.Port.steps g.P.Port.posts g.P.Port.holds) g.W.Words.draws c.args.context.moment c.args.context.conn c.args.frames.now start (served s.bytes.items c.take_one.new.frames s.stall (spot c.take_one.new.port c.take_one.new.words s.stage s.word)))
    (sym c.new-in-Goes.ensures)
    (completes_end (port_of g.P.Port.steps g.P.Port.posts g.P.Port.holds) g.W.Words.draws c.args.context.moment c.args.context.conn c.args.frames.now start c.take_one.new.out.items at
    c.take_one.new.frames (empty_of c.take_one.new.frames (omega (arith, c.in-Goes.ensures.nearer, c.requires.few))) next)
