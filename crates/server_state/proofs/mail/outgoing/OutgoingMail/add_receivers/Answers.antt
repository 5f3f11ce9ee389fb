-- one more is told, and those before stay told
use Rattle.std.proofs.Common.{rules, ◌<◌, ◌≤◌, All, length, take, sym, subst, arith}
use Rattle.std.proofs.lemmas.List.{take_all}
use Rattle.std.proofs.lemmas.List.Elements.{All-more}
use Rattle.server_state.specs.mail.Mails.{IsItemTold}
use Rattle.server_state.proofs.mail.Told.{same_more, then_more, items_more}
use Rattle.server_state.proofs.mail.outgoing.OutgoingMail.add_receivers.Goals as goal

pub loop-item-init : goal.loop-item-init
loop-item-init c = record {
  more = same_more c.args.self.now.by_worker.items;
  told = λ some k d within. absurd (omega (arith, within));
}

pub loop-item-preserved : goal.loop-item-preserved
loop-item-preserved c =
    let before = c.loop-item.self.by_worker.items in
    let after = c.add_item.new.self.by_worker.items in
    let so_far = c.loop-item.invariant in
    record {
      more = then_more c.args.self.now.by_worker.items before after so_far.more c.add_item.ensures.more;
      told = λ some.
          let still : 0 < length before = subst (λ n. 0 < n) (sym so_far.more.workers) some in
          All-more (IsItemTold after) c.args.items.now c.loop-item.item-index c.item-item.result c.loop-item-test.true
          (items_more before after c.add_item.ensures.more (take c.loop-item.item-index c.args.items.now) (so_far.told some))
          (subst (IsItemTold after) c.item-item.is (c.add_item.ensures.told still));
    }

pub returns-clause-more : goal.returns-clause-more
returns-clause-more c = c.loop-item.invariant.more

pub returns-clause-told : goal.returns-clause-told
returns-clause-told c some =
    let all : length c.args.items.now ≤ c.loop-item.item-index = search rules in
    subst (λ l. All (IsItemTold c.loop-item.self.by_worker.items) l) (take_all c.loop-item.item-index c.args.items.now all) (c.loop-item.invariant.told some)
