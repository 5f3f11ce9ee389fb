-- what is found for the message's draw is so of each message with it, and what is cached of others stays
use Rattle.std.proofs.Common.{◌≡◌, ◌∙◌, List, Some, ap, sym}
use Rattle.subjects.specs.Subject.{Token, tokens_of}
use Rattle.subjects.proofs.Text.{again}
use Rattle.account_mappings.specs.Drawing.{mapped_by}
use Rattle.account_mappings.specs.declared.drawing.Mapped.TheVariants.{To}
use Rattle.world_sessions.specs.deliveries.Sessions.{session_of}
use Rattle.receivers.specs.declared.cache.drawn.DrawnCache.{DrawnCache}
use Rattle.receivers.proofs.cache.Draws.{same_draw}
use Rattle.receivers.proofs.cache.Told.{drawn_selected, kept_drawn}
use Rattle.world_views.proofs.addressing.finding.Receivers.fill_drawn.Goals as goal

pub returns-then-not-select : goal.returns-then-not-select
returns-then-not-select c = record {
  cached = record {
    each = c.requires.cached.each;
    drawn = drawn_selected c.args.self.now.cache.drawn c.select.new.self c.args.rows.now c.args.search.sessions.now c.args.search.subscriptions.now c.select.ensures.cached c.requires.cached.drawn;
  };
}

pub returns-in_default : goal.returns-in_default
returns-in_default c = record {
  cached = record {
    each = c.requires.cached.each;
    drawn = drawn_selected c.args.self.now.cache.drawn c.select.new.self c.args.rows.now c.args.search.sessions.now c.args.search.subscriptions.now c.select.ensures.cached c.requires.cached.drawn;
  };
}

pub returns-in-Some : goal.returns-in-Some
returns-in-Some c = record {
  cached =
      let rows = c.args.rows.now in
      let zs = c.args.search.sessions.now in
      let subs = c.args.search.subscriptions.now in
      let z = c.args.search.publisher.now in
      let m = c.args.message.now in
      let word = c.args.word in
      let old : DrawnCache = c.select.new.self in
      let known = drawn_selected c.args.self.now.cache.drawn old rows zs subs c.select.ensures.cached c.requires.cached.drawn in
      let selected = c.select.ensures.selected c.if-not-select.false in
      let there : session_of zs old.key.conn ≡ Some z = ap (session_of zs) selected.0 ∙ c.requires.publisher in
      let found = c.in-Some.ensures old.key.conn old.key.subject.items known there in
      let published : tokens_of old.key.subject.items ≡ m.subject =
      ap tokens_of (selected.1 ∙ c.bytes.ensures) ∙ again c.subject-published.result c.tokens.ensures.grammar ∙ c.subject-published.ensures in
      record {
        each = c.requires.cached.each;
        drawn = kept_drawn old c.keep.new.self rows zs subs z c.draw_of.result c.in-Some.drawn c.keep.ensures.key c.keep.ensures.kept there (record {
          mapped = λ other same.
              ap (λ (s : List Token). mapped_by z.user.mappings s other) published
              ∙ same_draw z.user.mappings m.subject other word (same ∙ c.draw_of.ensures.draw)
              ∙ c.requires.mapped
              ∙ ap To (sym found.1);
          sent = found.0;
        }) known;
      };
}
