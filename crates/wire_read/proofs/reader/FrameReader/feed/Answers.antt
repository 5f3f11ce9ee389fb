use Rattle.std.proofs.Common.{◌≡◌, [], ◌++◌, sym, ap, ◌∙◌}
use Rattle.std.proofs.lemmas.List.{take-append-drop}
use Rattle.wire_read.specs.Framing.{Reader, framing, behind, frames_of, followed}
use Rattle.wire_read.proofs.AwaitedLemmas.{waits_framed, part_followed}
use Rattle.wire_read.proofs.reader.FrameReader.feed.Goals as goal

pub returns-in_ok-append-in-Quiet : goal.returns-in_ok-append-in-Quiet
returns-in_ok-append-in-Quiet c = (
  ap (λ (r : Reader). r.failed) (sym c.self.view_is) ∙ c.if-self.false,
  ap (λ gs. framing gs c.append.new.self c.self.inside.failed) c.new.ensures
      ∙ ap (λ k. framing [] k c.self.inside.failed) c.in_ok-append-in-Quiet.ensures.ok
      ∙ ap (λ t. framing [] (c.self.inside.kept ++ c.args.piece.now) t) c.if-self.false
      ∙ sym (waits_framed c.self.inside.awaited (c.self.inside.kept ++ c.args.piece.now) c.in-Quiet.ensures)
      ∙ ap (λ (r : Reader). frames_of (r.rest ++ c.args.piece.now)) c.self.view_is,
)

pub returns-in_ok-frames-in-Takes : goal.returns-in_ok-frames-in-Takes
returns-in_ok-frames-in-Takes c =
    let first = c.in_ok-first-in-Takes.first in
    let cut : c.split_at.result.0.now ++ c.split_at.result.1.now ≡ c.args.piece.now =
    rw (c.split_at.ensures.front, c.split_at.ensures.back) (take-append-drop c.in-Takes.len c.args.piece.now) in (
      ap (λ (r : Reader). r.failed) (sym c.self.view_is) ∙ c.if-self.false,
      ap (λ gs. framing gs c.in_ok-frames-in-Takes.field-0.kept c.in_ok-frames-in-Takes.field-0.failed) c.from_vec.ensures
          ∙ c.in_ok-frames-in-Takes.ensures.framing
          ∙ part_followed (framing first.frames.items first.kept first.failed) [] c.self.inside.kept c.split_at.result.0.now c.split_at.result.1.now c.args.piece.now c.self.inside.failed
          c.if-self.false cut
          (c.in_ok-first-in-Takes.ensures.framing
          ∙ ap (λ fs. behind fs (frames_of c.in_ok-whole-in-Takes.whole)) c.frames_for-frames.ensures
          ∙ ap (λ w. behind [] (frames_of w)) c.in_ok-whole-in-Takes.ensures.ok)
          ∙ ap (λ t. followed (framing [] c.self.inside.kept t) c.args.piece.now) c.if-self.false
          ∙ ap (λ (r : Reader). frames_of (r.rest ++ c.args.piece.now)) c.self.view_is,
    )
