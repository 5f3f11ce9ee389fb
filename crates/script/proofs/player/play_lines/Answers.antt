-- each line's text is written before the next line is read
use Rattle.std.proofs.Common.{◌∙◌, ◌+◌, ◌==◌, length, arith, ap, refl, sym}
use Rattle.std.proofs.Math.Bool.{or-false}
use Rattle.std.proofs.lemmas.Result.{err_from_is_err_and}
use Rattle.std.proofs.lemmas.List.Splits.{length-slice_split}
use Rattle.std.proofs.lemmas.List.Sums.{count_by-le-length}
use Rattle.policy_doc.specs.declared.document.PolicyDoc.{PolicyDoc}
use Rattle.script.specs.Server.{opening}
use Rattle.script.specs.Play.{output_of}
use Rattle.script.proofs.Plays.{plays_open, plays_read, plays_more, plays_stop, plays_failed, plays_refused, plays_last, IsEffect-fresh, OnErr-always, Appends-same, AppendsFront-same}
use Rattle.script.proofs.player.play_lines.Goals as goal

pub playing-init : goal.playing-init
playing-init g c = record {
  plays = plays_open (g.W.Sink.contents c.args.sink.now) c.args.script.now c.of-lines.result c.in_ok-server.server c.new-clients.result.items c.of-lines.ensures (c.in_ok-server.ensures ∙ ap (λ (doc : PolicyDoc). opening doc) c.in_ok-policy.ensures) c.new-clients.ensures.items;
  count = omega (arith, ap length c.of-lines.ensures, length-slice_split (λ b. b == 10) c.args.script.now, count_by-le-length (λ b. b == 10) c.args.script.now);
  failed = refl;
}

-- want of memory is no failure of the sink
pub returns-in_err-line-clause-failed : goal.returns-in_err-line-clause-failed
returns-in_err-line-clause-failed g c =
    let p = err_from_is_err_and c.from_residual-in_err-line.result c.from_residual-in_err-line.ensures.1 in
    rw (p.1, p.2) (c.playing.invariant.failed ∙ sym (or-false _))

pub returns-in_err-stops-clause-failed : goal.returns-in_err-stops-clause-failed
returns-in_err-stops-clause-failed g c =
    let p = err_from_is_err_and c.from_residual-in_err-stops.result c.from_residual-in_err-stops.ensures.1 in
    rw (p.1, p.2) (c.playing.invariant.failed ∙ sym (or-false _))

pub returns-in_err-line-clause-prefix : goal.returns-in_err-line-clause-prefix
returns-in_err-line-clause-prefix g c = OnErr-always _ _ (plays_refused _ _ _ _ c.playing.invariant.plays)

pub returns-in_err-stops-clause-prefix : goal.returns-in_err-stops-clause-prefix
returns-in_err-stops-clause-prefix g c = OnErr-always _ _ (plays_refused _ _ _ _ c.playing.invariant.plays)

pub returns-in-Err-clause-prefix : goal.returns-in-Err-clause-prefix
returns-in-Err-clause-prefix g c =
    plays_failed _ _ _ _ _ _ _ _ _ _
    (plays_read _ _ (c.playing.number + 1) c.playing.progress c.playing.lines c.next_piece.new.self c.in-Some.text.now c.in_ok-line.line c.after-next.result c.playing.server c.playing.clients.items (output_of c.args.script.now) c.in-Some.ensures c.in_ok-line.ensures c.after-next.ensures c.playing.invariant.plays)
    (IsEffect-fresh _ _ _ _ _ _ c.new-out.ensures.items c.in_ok-stops.ensures) (AppendsFront-same _ _ _ _ c.as_slice.ensures.value c.in-Err.ensures.err)

pub returns-then-stops-clause-meaning : goal.returns-then-stops-clause-meaning
returns-then-stops-clause-meaning g c =
    plays_stop _ _ _ _ _ _ _ _ _ _
    (plays_read _ _ (c.playing.number + 1) c.playing.progress c.playing.lines c.next_piece.new.self c.in-Some.text.now c.in_ok-line.line c.after-next.result c.playing.server c.playing.clients.items (output_of c.args.script.now) c.in-Some.ensures c.in_ok-line.ensures c.after-next.ensures c.playing.invariant.plays)
    (IsEffect-fresh _ _ _ _ _ _ c.new-out.ensures.items c.in_ok-stops.ensures) c.if-stops.true (Appends-same _ _ _ _ c.as_slice.ensures.value c.in-Ok.ensures.ok)

pub playing-preserved : goal.playing-preserved
playing-preserved g c = record {
  plays = plays_more _ _ _ _ _ _ _ _ _ _
      (plays_read _ _ (c.playing.number + 1) c.playing.progress c.playing.lines c.next_piece.new.self c.in-Some.text.now c.in_ok-line.line c.after-next.result c.playing.server c.playing.clients.items (output_of c.args.script.now) c.in-Some.ensures c.in_ok-line.ensures c.after-next.ensures c.playing.invariant.plays)
      (IsEffect-fresh _ _ _ _ _ _ c.new-out.ensures.items c.in_ok-stops.ensures) c.if-stops.false (Appends-same _ _ _ _ c.as_slice.ensures.value c.in-Ok.ensures.ok);
  count = omega (arith, ap length c.in-Some.ensures, c.playing.invariant.count);
  failed = c.in-Ok.ensures.failed ∙ or-false _ ∙ c.playing.invariant.failed;
}

pub returns-clause-meaning : goal.returns-clause-meaning
returns-clause-meaning g c = plays_last _ _ (c.playing.number + 1) c.playing.progress c.playing.lines c.playing.server c.playing.clients.items _ c.in_default.ensures.0 c.playing.invariant.plays
