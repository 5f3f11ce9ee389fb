-- the own view first, and then the others, some of which are known
use Rattle.std.proofs.Common.{◌≡◌, ◌∙◌, List, [], None, true, false, ap, refl, sym, subst}
use Rattle.subjects.specs.Subject.{Token}
use Rattle.events.specs.declared.answer.Addressed.{Addressed}
use Rattle.policy_ready.specs.imports.Views.{is_route, rows_of}
use Rattle.policy_ready.specs.declared.imports.rows.ImportRow.{ImportRow}
use Rattle.world_rows.specs.declared.subscription.Subscription.{Subscription}
use Rattle.receivers.specs.cache.Cached.{cached_others}
use Rattle.receivers.specs.views.CachedViews.{KnowsOthers, others_in}
use Rattle.world_views.proofs.addressing.Left.{own_first}
use Rattle.world_views.specs.Changing.{opened_each}
use Rattle.world_views.specs.Viewing.{Tables, Publication, Addressing, addressing, addressed_after, publication, reports_after, tables_at}
use Rattle.world_views.proofs.Addressed.{others_told, others_unreported}
use Rattle.world_views.proofs.InAll.{across, asker, importers, on_route, own, own_alone}
use Rattle.world_views.proofs.across.address_all.Goals as goal

pub returns-then-is_own_alone-clause-addressed : goal.returns-then-is_own_alone-clause-addressed
returns-then-is_own_alone-clause-addressed c =
    let t : Tables = tables_at c.args.publishing.ready.now c.args.publishing.now c.args.sessions.now c.args.subscriptions.now c.args.routes.now.exporters in
    let p : Publication = publication c.args.publishing.sending.publisher.now c.args.publishing.sending.message.now c.args.publishing.sending.word in
    let is : c.address.new.self.deliveries.items ≡ own t p = c.in_ok-address.ensures.all ∙ own_first t.sessions t.subscriptions p.publisher p.message p.word c.prove_invariant.ensures.going in
    own_alone t p _ c.args.routes.now.exporters c.rows-2.ensures refl (c.is_own_alone.ensures c.if-is_own_alone.true) c.address.new.self.deliveries.items is

pub returns-then-branch-clause-addressed : goal.returns-then-branch-clause-addressed
returns-then-branch-clause-addressed c =
    let t : Tables = tables_at c.args.publishing.ready.now c.args.publishing.now c.args.sessions.now c.args.subscriptions.now c.args.routes.now.exporters in
    let p : Publication = publication c.args.publishing.sending.publisher.now c.args.publishing.sending.message.now c.args.publishing.sending.word in
    let is : c.address.new.self.deliveries.items ≡ own t p = c.in_ok-address.ensures.all ∙ own_first t.sessions t.subscriptions p.publisher p.message p.word c.prove_invariant.ensures.going in
    let elsewhere : is_route p.message.subject ≡ false = sym (c.is_route.ensures ∙ ap is_route c.subject-subject.ensures) ∙ c.if-is_route.false in
    let knows = subst (λ (rows : List ImportRow). KnowsOthers (cached_others c.address.new.self.cache) rows t.sessions t.subscriptions p.publisher p.message.subject) c.rows.ensures c.in_ok-address.ensures.others in
    let tells = c.in_ok-address_others.ensures.tells c.if-branch.true in
    let before : Addressing = addressing c.address.new.self.deliveries.items [] in
    let told = others_told (rows_of t.policy) t p before (cached_others c.address.new.self.cache) c.address_others.new.self.deliveries.items knows tells in
    let none = others_unreported (rows_of t.policy) t p before (cached_others c.address.new.self.cache) c.address_others.new.self.deliveries.items knows tells in
    let by_before : List Addressed → Addressing = λ ds. addressed_after t p (addressing ds []) (importers t p elsewhere) in
    across t p elsewhere c.address_others.new.self.deliveries.items None
    (ap (λ (a : Addressing). a.deliveries) (told ∙ ap by_before is))
    (sym none ∙ ap (λ (ds : List Addressed). reports_after t p (addressing ds []) (importers t p elsewhere)) is)
    (ap (λ (a : Addressing). opened_each a.openings t.routes) (told ∙ ap by_before is))
    tt

pub returns-clause-addressed : goal.returns-clause-addressed
returns-clause-addressed c =
    let t : Tables = tables_at c.args.publishing.ready.now c.args.publishing.now c.args.sessions.now c.args.subscriptions.now c.args.routes.now.exporters in
    let p : Publication = publication c.args.publishing.sending.publisher.now c.args.publishing.sending.message.now c.args.publishing.sending.word in
    let is : c.address.new.self.deliveries.items ≡ own t p = c.in_ok-address.ensures.all ∙ own_first t.sessions t.subscriptions p.publisher p.message p.word c.prove_invariant.ensures.going in
    let elsewhere : is_route p.message.subject ≡ false = sym (c.is_route.ensures ∙ ap is_route c.subject-subject.ensures) ∙ c.if-is_route.false in
    let same : c.address_others.new.self.deliveries.items ≡ own t p = c.in_ok-address_others.ensures.same c.if-branch.false ∙ is in
    let by_subs : List Subscription → Addressing = λ ss.
    addressed_after (record t { subscriptions = ss }) p (addressing c.address_others.new.self.deliveries.items []) (others_in (rows_of t.policy) p.publisher.user.account c.subject-subject.result) in
    let by_subject : List Token → Addressing = λ x. addressed_after t p (addressing c.address_others.new.self.deliveries.items []) (others_in (rows_of t.policy) p.publisher.user.account x) in
    let by_before : List Addressed → Addressing = λ ds. addressed_after t p (addressing ds []) (importers t p elsewhere) in
    let found = ap by_subs c.address.ensures.same ∙ ap by_subject c.subject-subject.ensures ∙ ap by_before same in
    across t p elsewhere _ _
    (c.in_ok-told-2.ensures.all ∙ ap (λ (a : Addressing). a.deliveries) found)
    (c.in_ok-told-2.ensures.reports
    ∙ ap (λ (ss : List Subscription). reports_after (record t { subscriptions = ss }) p (addressing c.address_others.new.self.deliveries.items []) (others_in (rows_of t.policy) p.publisher.user.account c.subject-subject.result)) c.address.ensures.same
    ∙ ap (λ (x : List Token). reports_after t p (addressing c.address_others.new.self.deliveries.items []) (others_in (rows_of t.policy) p.publisher.user.account x)) c.subject-subject.ensures
    ∙ ap (λ (ds : List Addressed). reports_after t p (addressing ds []) (importers t p elsewhere)) same)
    (c.in_ok-told-2.ensures.opened ∙ ap (λ (a : Addressing). opened_each a.openings t.routes) found)
    c.in_ok-told-2.ensures.noted

pub returns-then-is_route-clause-addressed : goal.returns-then-is_route-clause-addressed
returns-then-is_route-clause-addressed c =
    let t : Tables = tables_at c.args.publishing.ready.now c.args.publishing.now c.args.sessions.now c.args.subscriptions.now c.args.routes.now.exporters in
    let p : Publication = publication c.args.publishing.sending.publisher.now c.args.publishing.sending.message.now c.args.publishing.sending.word in
    let is : c.address.new.self.deliveries.items ≡ own t p = c.in_ok-address.ensures.all ∙ own_first t.sessions t.subscriptions p.publisher p.message p.word c.prove_invariant.ensures.going in
    let is_on : is_route p.message.subject ≡ true = sym (c.is_route.ensures ∙ ap is_route c.subject-subject.ensures) ∙ c.if-is_route.true in
    let by_subs : List Subscription → Addressing = λ ss. addressed_after (record t { subscriptions = ss }) p (addressing c.address.new.self.deliveries.items []) (asker t p is_on) in
    let by_own : List Addressed → Addressing = λ ds. addressed_after t p (addressing ds []) (asker t p is_on) in
    on_route t p is_on _ _
    (c.in_ok-told.ensures.all ∙ ap (λ (a : Addressing). a.deliveries) (ap by_subs c.address.ensures.same ∙ ap by_own is))
    c.in_ok-told.ensures.reports c.in_ok-told.ensures.spent c.in_ok-told.ensures.noted
