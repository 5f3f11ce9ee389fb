-- the own view first, under the message's new subject, and then the others
use Rattle.std.proofs.Common.{◌≡◌, ◌∙◌, ◌++◌, List, [], true, false, ap, refl, sym}
use Rattle.subjects.specs.Subject.{Token}
use Rattle.events.specs.declared.answer.Addressed.{Addressed}
use Rattle.policy_ready.specs.imports.Views.{is_route, rows_of}
use Rattle.receivers.specs.views.CachedViews.{others_in, under_subject}
use Rattle.world_views.specs.addressing.Standing.{addressed_behind_in}
use Rattle.world_views.specs.Changing.{opened_each}
use Rattle.world_views.specs.Viewing.{Tables, Publication, Addressing, addressing, addressed_after, publication, reports_after, tables_at}
use Rattle.world_views.proofs.InAll.{across, asker, importers, on_route, own, own_alone}
use Rattle.world_views.proofs.Under.{same_addressed, same_reports}
use Rattle.world_views.proofs.across.address_under.Goals as goal

pub returns-then-is_own_alone-clause-addressed : goal.returns-then-is_own_alone-clause-addressed
returns-then-is_own_alone-clause-addressed c =
    let t : Tables = tables_at c.args.publishing.ready.now c.args.publishing.now c.args.sessions.now c.args.subscriptions.now c.args.routes.now.exporters in
    let p : Publication = publication c.args.publishing.sending.publisher.now c.args.publishing.sending.message.now c.args.publishing.sending.word in
    let q : Publication = publication p.publisher (under_subject c.args.subject.now p.message) p.word in
    let is : c.address_in.new.receivers.deliveries.items ≡ own t q =
    c.in_ok-address_in.ensures.all ∙ ap (λ (before : List Addressed). before ++ addressed_behind_in t.sessions t.subscriptions before q.publisher q.message q.word q.publisher.user.account) c.take_back.ensures.all in
    own_alone t q _ c.args.routes.now.exporters c.rows.ensures refl (c.is_own_alone.ensures c.if-is_own_alone.true) c.address_in.new.receivers.deliveries.items is

pub returns-then-is_route-clause-addressed : goal.returns-then-is_route-clause-addressed
returns-then-is_route-clause-addressed c =
    let t : Tables = tables_at c.args.publishing.ready.now c.args.publishing.now c.args.sessions.now c.args.subscriptions.now c.args.routes.now.exporters in
    let p : Publication = publication c.args.publishing.sending.publisher.now c.args.publishing.sending.message.now c.args.publishing.sending.word in
    let q : Publication = publication p.publisher (under_subject c.args.subject.now p.message) p.word in
    let is : c.address_in.new.receivers.deliveries.items ≡ own t q =
    c.in_ok-address_in.ensures.all ∙ ap (λ (before : List Addressed). before ++ addressed_behind_in t.sessions t.subscriptions before q.publisher q.message q.word q.publisher.user.account) c.take_back.ensures.all in
    let is_on : is_route c.args.subject.now ≡ true = sym (c.is_route.ensures ∙ ap is_route c.lend-seen.ensures) ∙ c.if-is_route.true in
    let by_own : List Addressed → Addressing = λ ds. addressed_after t p (addressing ds []) (asker t q is_on) in
    on_route t q is_on _ _
    (c.in_ok-told.ensures.all
    ∙ ap (λ (a : Addressing). a.deliveries) (ap by_own is ∙ same_addressed t p.publisher p.message p.word c.args.subject.now (addressing (own t q) []) (asker t q is_on)))
    c.in_ok-told.ensures.reports c.in_ok-told.ensures.spent c.in_ok-told.ensures.noted

pub returns-clause-addressed : goal.returns-clause-addressed
returns-clause-addressed c =
    let t : Tables = tables_at c.args.publishing.ready.now c.args.publishing.now c.args.sessions.now c.args.subscriptions.now c.args.routes.now.exporters in
    let p : Publication = publication c.args.publishing.sending.publisher.now c.args.publishing.sending.message.now c.args.publishing.sending.word in
    let q : Publication = publication p.publisher (under_subject c.args.subject.now p.message) p.word in
    let is : c.address_in.new.receivers.deliveries.items ≡ own t q =
    c.in_ok-address_in.ensures.all ∙ ap (λ (before : List Addressed). before ++ addressed_behind_in t.sessions t.subscriptions before q.publisher q.message q.word q.publisher.user.account) c.take_back.ensures.all in
    let elsewhere : is_route c.args.subject.now ≡ false = sym (c.is_route.ensures ∙ ap is_route c.lend-seen.ensures) ∙ c.if-is_route.false in
    let by_subject : List Token → Addressing = λ x. addressed_after t p (addressing c.address_in.new.receivers.deliveries.items []) (others_in (rows_of t.policy) p.publisher.user.account x) in
    let by_own : List Addressed → Addressing = λ ds. addressed_after t p (addressing ds []) (importers t q elsewhere) in
    let found = ap by_subject c.lend-seen.ensures ∙ ap by_own is ∙ same_addressed t p.publisher p.message p.word c.args.subject.now (addressing (own t q) []) (importers t q elsewhere) in
    across t q elsewhere _ _
    (c.in_ok-told-2.ensures.all ∙ ap (λ (a : Addressing). a.deliveries) found)
    (c.in_ok-told-2.ensures.reports
    ∙ ap (λ (x : List Token). reports_after t p (addressing c.address_in.new.receivers.deliveries.items []) (others_in (rows_of t.policy) p.publisher.user.account x)) c.lend-seen.ensures
    ∙ ap (λ (ds : List Addressed). reports_after t p (addressing ds []) (importers t q elsewhere)) is
    ∙ same_reports t p.publisher p.message p.word c.args.subject.now (addressing (own t q) []) (importers t q elsewhere))
    (c.in_ok-told-2.ensures.opened ∙ ap (λ (a : Addressing). opened_each a.openings t.routes) found)
    c.in_ok-told-2.ensures.noted
