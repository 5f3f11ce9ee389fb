-- a message comes to what is planned for where its account's mappings send it
use Rattle.std.proofs.Common.{◌∙◌, ◌==◌, Option, Some, Ok, ap, sym, subst}
use Rattle.std.proofs.lemmas.Bool.{eqb-true}
use Rattle.account_mappings.specs.Drawing.{mapped_by}
use Rattle.world_sessions.specs.deliveries.Sessions.{session_of}
use Rattle.world_sessions.specs.declared.deliveries.session.Session.{Session}
use Rattle.receivers.proofs.views.Tests.{find-passes}
use Rattle.world_routing.specs.Publishing.{IsElsewhere}
use Rattle.world_views.specs.Viewing.{Tables}
use Rattle.world_routing.specs.declared.planning.Elsewhere.{Elsewhere}
use Rattle.world_routing.specs.declared.planning.Elsewhere.TheVariants.{Under, Nowhere}
use Rattle.world_routing.proofs.Publishing.{plain_elsewhere, planned_elsewhere, planned_own}
use Rattle.world_routing.proofs.planning.plan_anew.Goals as goal

pub keep_drawn-requires-clause-publisher : goal.keep_drawn-requires-clause-publisher
keep_drawn-requires-clause-publisher c =
    let zs = c.args.sessions.now in
    let z = c.in-Some.publisher.now in
    ap (session_of zs) (eqb-true z.conn c.args.permitted.publish.conn (find-passes (λ (y : Session). y.conn == c.args.permitted.publish.conn) zs z (sym c.in-Some.ensures))) ∙ sym c.in-Some.ensures

pub plan_nowhere-requires : goal.plan_nowhere-requires
plan_nowhere-requires c =
    let mapped = mapped_by c.in-Some.publisher.now.user.mappings c.args.permitted.publish.message.now.subject c.args.permitted.publish.word in
    record {
      plain = plain_elsewhere mapped (Nowhere c.in-Nowhere.item)
          (subst (λ (e : Elsewhere). IsElsewhere mapped (Ok (Some e))) c.in-Nowhere.is
          (subst (λ (o : Option Elsewhere). IsElsewhere mapped (Ok o)) c.in-Some-elsewhere.is c.in_ok-elsewhere-in-Some.ensures));
    }

pub returns-in_ok-plan-in-None-elsewhere-clause-planned : goal.returns-in_ok-plan-in-None-elsewhere-clause-planned
returns-in_ok-plan-in-None-elsewhere-clause-planned c = λ w of.
    let conn = c.args.permitted.publish.conn in
    let m = c.args.permitted.publish.message.now in
    let z = c.in-Some.publisher.now in
    let mapped = mapped_by z.user.mappings m.subject c.args.permitted.publish.word in
    planned_own conn z w (c.in-Some.ensures ∙ ap (λ (x : Tables). session_of x.sessions conn) (sym of)) (Ok c.in_ok-plan-in-None-elsewhere.plan) c.args.permitted.by m c.args.permitted.publish.word
    (subst (λ (o : Option Elsewhere). IsElsewhere mapped (Ok o)) c.in-None-elsewhere.is c.in_ok-elsewhere-in-Some.ensures)
    (c.in_ok-plan-in-None-elsewhere.ensures.planned w of)

pub returns-in_ok-plan-in-Nowhere-clause-planned : goal.returns-in_ok-plan-in-Nowhere-clause-planned
returns-in_ok-plan-in-Nowhere-clause-planned c = λ w of.
    let conn = c.args.permitted.publish.conn in
    let m = c.args.permitted.publish.message.now in
    let z = c.in-Some.publisher.now in
    let mapped = mapped_by z.user.mappings m.subject c.args.permitted.publish.word in
    planned_elsewhere conn z w (c.in-Some.ensures ∙ ap (λ (x : Tables). session_of x.sessions conn) (sym of)) (Ok c.in_ok-plan-in-Nowhere.plan) c.args.permitted.by m c.args.permitted.publish.word
    (Nowhere c.in-Nowhere.item)
    (subst (λ (e : Elsewhere). IsElsewhere mapped (Ok (Some e))) c.in-Nowhere.is
    (subst (λ (o : Option Elsewhere). IsElsewhere mapped (Ok o)) c.in-Some-elsewhere.is c.in_ok-elsewhere-in-Some.ensures))
    (c.in_ok-plan-in-Nowhere.ensures.planned w (ap (λ (x : Tables). x.sessions) of))

pub returns-in_ok-plan-in-Under-clause-planned : goal.returns-in_ok-plan-in-Under-clause-planned
returns-in_ok-plan-in-Under-clause-planned c = λ w of.
    let conn = c.args.permitted.publish.conn in
    let m = c.args.permitted.publish.message.now in
    let z = c.in-Some.publisher.now in
    let mapped = mapped_by z.user.mappings m.subject c.args.permitted.publish.word in
    planned_elsewhere conn z w (c.in-Some.ensures ∙ ap (λ (x : Tables). session_of x.sessions conn) (sym of)) (Ok c.in_ok-plan-in-Under.plan) c.args.permitted.by m c.args.permitted.publish.word
    (Under c.in-Under.subject)
    (subst (λ (e : Elsewhere). IsElsewhere mapped (Ok (Some e))) c.in-Under.is
    (subst (λ (o : Option Elsewhere). IsElsewhere mapped (Ok o)) c.in-Some-elsewhere.is c.in_ok-elsewhere-in-Some.ensures))
    (c.in_ok-plan-in-Under.ensures.planned w of)
