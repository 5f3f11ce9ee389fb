-- what is cached of the message's draw tells its deliveries
use Rattle.std.proofs.Common.{◌∙◌, List, ap, subst}
use Rattle.events.specs.declared.answer.Addressed.{Addressed}
use Rattle.receivers.specs.cache.Drawn.{IsCached}
use Rattle.receivers.specs.views.CachedViews.{addressed_in, addressed_in_each}
use Rattle.receivers.proofs.cache.drawn.DrawnCache.address.Goals as goal

pub returns-in_ok-address-in-Some : goal.returns-in_ok-address-in-Some
returns-in_ok-address-in-Some c = record {
  tells = λ done.
      let m = c.args.message.now in
      let drawn = c.in-Some.drawn.now in
      record {
        of = c.is_of.ensures.same c.if-not-is_of.false;
        drawn = drawn;
        cached = subst (λ draw. IsCached c.args.self.now.by_draw.items draw drawn) c.draw_of.ensures.draw c.in-Some.ensures;
        deliveries = c.in_ok-address-in-Some.ensures ∙ ap (λ (before : List Addressed). addressed_in_each m c.args.word (addressed_in m c.args.word before drawn.own) drawn.others.items) c.clear.ensures;
      };
}
