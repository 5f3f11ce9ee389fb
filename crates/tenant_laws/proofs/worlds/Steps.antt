-- Each command, of the tenants or of others.
use Rattle.std.proofs.Common.{◌≡◌, ◌∙◌, ◌≢◌, ◌+◌, ℕ, Bool, true, false, cond, length, Option, Some, None, Ok, Err, ap, sym, refl, subst, arith}
use Rattle.std.specs.Prelude.{IfSome, nat_le}
use Rattle.permissions.specs.Verdicts.{subscribe_verdict}
use Rattle.permissions.specs.declared.verdict.Verdict.{Verdict}
use Rattle.policy_ready.specs.Users.{user_with_password}
use Rattle.policy_ready.specs.declared.ready.User.{User}
use Rattle.events.specs.Messages.{Message}
use Rattle.events.specs.declared.event.Command.{Command}
use Rattle.events.specs.declared.event.Command.TheVariants.{Connect, Sub, Unsub, Pub, Take, Close, Reload}
use Rattle.events.specs.declared.answer.Outcome.{Outcome}
use Rattle.events.specs.declared.refusal.HubRefusal.TheVariants.{SessionLimit}
use Rattle.world_sessions.specs.deliveries.Sessions.{session_of}
use Rattle.world_sessions.specs.declared.deliveries.session.Session.{Session}
use Rattle.world_routing.specs.World.{World}
use Rattle.world_routing.specs.Granting.{verdict_on}
use Rattle.world_routing.specs.Publishing.{published}
use Rattle.world.specs.Transition.{closed, connected, in_new_session, moved, numbered, subscribed, taken, unsubscribed}
use Rattle.tenant_laws.specs.worlds.Tenants.{Tenants}
use Rattle.tenant_laws.specs.worlds.Answers.{part_of_command, seen_by}
use Rattle.tenant_laws.specs.worlds.Alike.{AreApart, IsPartOf, IsUpheld}
use Rattle.tenant_laws.specs.worlds.Laws.{AreMovedAlike, HasLeft, IsMarked, KeepsApart, OthersLeavePart, OwnCommandsAgree}
use Rattle.tenant_laws.proofs.worlds.Commands.{closed_others, closed_own, connected_others, connected_own, in_other_session, in_own_session, numbered_later, subscribed_others, subscribed_own, taken_others, taken_own, unsubscribed_others, unsubscribed_own}
use Rattle.tenant_laws.proofs.worlds.Publishing.{IsAnsweredAlike, published_others, published_own}
use Rattle.tenant_laws.proofs.worlds.Reloads.{reloaded_others, reloaded_own}
use Rattle.tenant_laws.proofs.worlds.Staying.{number_after}

module _ (t : Tenants) (w p : World) (part : IsPartOf t w p) (apart : AreApart t w) where
  publish_own : (z : Session) (m : Message) (word : ℕ) → t.connections z.conn ≡ true → t.accounts z.user.account ≡ true →
      AreMovedAlike t (numbered (w.number + 1) (Ok (published w z m word (verdict_on w.moment z m.subject)))) (numbered (p.number + 1) (Ok (published p z m word (verdict_on p.moment z m.subject))))
  publish_own z m word is of =
      let v : Verdict = verdict_on w.moment z m.subject in
      let both : IsAnsweredAlike t (published w z m word v) (published p z m word v) = published_own t w p part apart z m word is of v in
      subst (λ (now : ℕ). AreMovedAlike t (numbered (w.number + 1) (Ok (published w z m word v))) (numbered (p.number + 1) (Ok (published p z m word (verdict_on now z m.subject))))) (sym part.moment)
      (ap (seen_by t) both.0, numbers (published w z m word v).1 (published p z m word v).1 (number_after w z m word v) (number_after p z m word v) both.1)
    where
      numbers : (x q : World) → x.number ≡ w.number → q.number ≡ p.number → IsPartOf t x q → IsPartOf t (record x { number = w.number + 1 }) (record q { number = p.number + 1 })
      numbers x q e f is = numbered_later t x q (w.number + 1) (p.number + 1) (omega (arith, e)) (omega (arith, f)) is

  publish_others : (z : Session) (m : Message) (word : ℕ) → t.connections z.conn ≡ false → t.accounts z.user.account ≡ false →
      HasLeft t p (numbered (w.number + 1) (Ok (published w z m word (verdict_on w.moment z m.subject))))
  publish_others z m word out of =
      let v : Verdict = verdict_on w.moment z m.subject in
      let is : IsPartOf t (published w z m word v).1 p = published_others t w p part apart z m word out of v in
      numbered_later t (published w z m word v).1 p (w.number + 1) p.number (let e = number_after w z m word v in omega (arith, e)) (omega arith) is

  room : (conn : ℕ) (r : Outcome × World) → in_new_session w (session_of w.sessions conn) r ≢ Err SessionLimit → session_of w.sessions conn ≡ None → nat_le 4096 (length w.sessions) ≡ false
  room conn r limit none = by (nat_le 4096 (length w.sessions)) refl
    where
      by : (b : Bool) → nat_le 4096 (length w.sessions) ≡ b → b ≡ false
      by false e = refl
      by true e = absurd (limit (ap (λ o. in_new_session w o r) none ∙ ap (λ b. cond b (Err SessionLimit) (Ok r)) e))

  own : (c : Command) → IsMarked t w.policy true c → KeepsApart t w.policy c → moved w c ≢ Err SessionLimit → AreMovedAlike t (numbered (w.number + 1) (moved w c)) (numbered (p.number + 1) (moved p (part_of_command t c)))
  own (Connect conn name password echo) is apart' limit =
      connected_own t w p part apart conn name password echo is (theirs (user_with_password w.policy name password) apart') (room conn (connected w conn echo (user_with_password w.policy name password)) limit)
    where
      theirs : (o : Option User) → IfSome o (λ (u : User). t.connections conn ≡ t.accounts u.account) → IfSome o (λ (u : User). t.accounts u.account ≡ true)
      theirs None of = tt
      theirs (Some u) of = sym of ∙ is
  own (Sub conn q queue sid) is apart' limit =
      in_own_session t w p part apart conn (λ z. subscribed w conn z.user.account q queue sid (subscribe_verdict z.user.rules q queue)) (λ z. subscribed p conn z.user.account q queue sid (subscribe_verdict z.user.rules q queue)) is
      (λ z at of. subscribed_own t w p part apart conn z.user.account q queue sid (subscribe_verdict z.user.rules q queue) is)
  own (Unsub conn sid most) is apart' limit =
      in_own_session t w p part apart conn (λ z. unsubscribed w conn sid most) (λ z. unsubscribed p conn sid most) is (λ z at of. unsubscribed_own t w p part apart conn sid most)
  own (Pub conn m word) is apart' limit =
      in_own_session t w p part apart conn (λ z. published w z m word (verdict_on w.moment z m.subject)) (λ z. published p z m word (verdict_on p.moment z m.subject)) is (λ z at of. publish_own z m word at of)
  own (Take conn most) is apart' limit =
      in_own_session t w p part apart conn (taken w conn most) (taken p conn most) is (λ z at of. taken_own t w p part apart conn most z is)
  own (Close conn) is apart' limit = in_own_session t w p part apart conn (λ z. closed w conn) (λ z. closed p conn) is (λ z at of. closed_own t w p part apart conn)
  own (Reload doc) is apart' limit = reloaded_own t w p part apart doc apart'

  others : (c : Command) → IsUpheld w → IsMarked t w.policy false c → KeepsApart t w.policy c → HasLeft t p (numbered (w.number + 1) (moved w c))
  others (Connect conn name password echo) upheld out apart' = connected_others t w p part apart conn name password echo out
  others (Sub conn q queue sid) upheld out apart' =
      in_other_session t w p part apart conn (λ z. subscribed w conn z.user.account q queue sid (subscribe_verdict z.user.rules q queue)) out
      (λ z at of. subscribed_others t w p part apart conn z.user.account q queue sid (subscribe_verdict z.user.rules q queue) out)
  others (Unsub conn sid most) upheld out apart' = in_other_session t w p part apart conn (λ z. unsubscribed w conn sid most) out (λ z at of. unsubscribed_others t w p part apart conn sid most out)
  others (Pub conn m word) upheld out apart' =
      in_other_session t w p part apart conn (λ z. published w z m word (verdict_on w.moment z m.subject)) out (λ z at of. publish_others z m word at of)
  others (Take conn most) upheld out apart' = in_other_session t w p part apart conn (taken w conn most) out (λ z at of. taken_others t w p part apart conn most z out)
  others (Close conn) upheld out apart' = in_other_session t w p part apart conn (λ z. closed w conn) out (λ z at of. closed_others t w p part apart conn out)
  others (Reload doc) upheld out apart' = reloaded_others t w p part apart doc apart' (out refl) upheld

pub own_commands_agree : OwnCommandsAgree
own_commands_agree t w p c part apart is apart' limit = own t w p part apart c is apart' limit

pub others_leave_part : OthersLeavePart
others_leave_part t w p c part apart upheld out apart' = others t w p part apart c upheld out apart'
