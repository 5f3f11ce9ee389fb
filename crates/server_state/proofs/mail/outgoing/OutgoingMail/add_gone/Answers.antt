-- one more is told, and those before stay told
use Rattle.std.proofs.Common.{rules, ◌≡◌, ◌<◌, ◌≤◌, true, All, length, take, sym, subst, arith}
use Rattle.std.proofs.lemmas.List.{take_all}
use Rattle.std.proofs.lemmas.List.Elements.{All-more}
use Rattle.server_state.specs.mail.Mails.{drains, is_told}
use Rattle.server_state.proofs.mail.Told.{same_more, then_more, gone_more}
use Rattle.server_state.proofs.mail.outgoing.OutgoingMail.add_gone.Goals as goal

pub loop-conn-init : goal.loop-conn-init
loop-conn-init c = record {
  more = same_more c.args.self.now.by_worker.items;
  told = λ some k d within. absurd (omega (arith, within));
}

pub loop-conn-preserved : goal.loop-conn-preserved
loop-conn-preserved c =
    let before = c.loop-conn.self.by_worker.items in
    let after = c.add_drain.new.self.by_worker.items in
    let so_far = c.loop-conn.invariant in
    record {
      more = then_more c.args.self.now.by_worker.items before after so_far.more c.add_drain.ensures.more;
      told = λ some.
          let still : 0 < length before = subst (λ n. 0 < n) (sym so_far.more.workers) some in
          All-more (λ conn. is_told drains after conn ≡ true) c.args.gone.now c.loop-conn.conn-index 0 c.loop-conn-test.true
          (gone_more before after c.add_drain.ensures.more (take c.loop-conn.conn-index c.args.gone.now) (so_far.told some))
          (c.add_drain.ensures.told still);
    }

pub returns-clause-more : goal.returns-clause-more
returns-clause-more c = c.loop-conn.invariant.more

pub returns-clause-told : goal.returns-clause-told
returns-clause-told c some =
    let all : length c.args.gone.now ≤ c.loop-conn.conn-index = search rules in
    subst (λ l. All (λ conn. is_told drains c.loop-conn.self.by_worker.items conn ≡ true) l) (take_all c.loop-conn.conn-index c.args.gone.now all) (c.loop-conn.invariant.told some)
