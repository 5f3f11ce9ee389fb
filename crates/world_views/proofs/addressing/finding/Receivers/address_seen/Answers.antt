-- those that are found are those that may be sent it and still stand, and of each queue group one is left
use Rattle.std.proofs.Common.{◌≡◌, ◌∙◌, ◌&&◌, ◌++◌, Bool, ℕ, List, map, filter, ap}
use Rattle.subjects.specs.Subject.{Token}
use Rattle.events.specs.Messages.{Message}
use Rattle.events.specs.Sendings.{named}
use Rattle.events.specs.declared.answer.Addressed.{Addressed}
use Rattle.world_sessions.specs.declared.deliveries.session.Session.{Session}
use Rattle.world_subscriptions.specs.Addressing.{addressed_to}
use Rattle.world_subscriptions.specs.Subscriptions.{has_subject, having}
use Rattle.world_rows.specs.declared.subscription.Subscription.{Subscription}
use Rattle.world_subscriptions.specs.groups.Served.{served}
use Rattle.permissions.specs.declared.deny_marks.marks.Marks.{Marks}
use Rattle.receivers.specs.views.Open.{is_open}
use Rattle.receivers.specs.views.Marked.{AreMarked, is_marked_open}
use Rattle.world_views.specs.addressing.Standing.{is_nil, stands_behind, standing_among}
use Rattle.receivers.proofs.views.Marked.{open_marked}
use Rattle.receivers.proofs.views.Tests.{both}
use Rattle.world_views.proofs.addressing.finding.Receivers.address_seen.Goals as goal

module _ (table : List (ℕ × Marks)) (zs : List Session) (subs : List Subscription) (marked : AreMarked zs subs table) (z : Session) (account : List ℕ) (s : List Token) (before : List Addressed) where
  abbrev keeps : List Token → List Addressed → Subscription → Bool
  keeps t all sub = is_marked_open table zs z t sub && stands_behind zs all sub

  -- those that are found, by whatever names
  standing : (found : List Subscription) (t : List Token) (all : List Addressed) (a : List ℕ) → found ≡ filter (keeps t all) (having a t subs) → t ≡ s → all ≡ before → a ≡ account →
      found ≡ standing_among zs subs before z account s
  standing found t all a is same behind own =
      is
      ∙ ap (λ (x : List Token). filter (keeps x all) (having a x subs)) same
      ∙ ap (λ (ds : List Addressed). filter (keeps s ds) (having a s subs)) behind
      ∙ ap (λ (x : List ℕ). filter (keeps s before) (having x s subs)) own
      ∙ open_marked table zs z account s (λ b sub. b && stands_behind zs before sub) subs marked
      ∙ both (λ sub. is_open zs z s sub && stands_behind zs before sub) (has_subject account s) subs

pub returns-clause-all : goal.returns-clause-all
returns-clause-all c =
    let m = c.args.sending.message.now in
    let before = c.args.self.now.deliveries.items in
    let s = c.args.seen.subject.now in
    let seen : Message = named (record { subject = s; reply = c.args.seen.reply }) m in
    let all : List Subscription → List Addressed = λ found. before ++ map (addressed_to seen) found in
    c.in_ok-address_under.ensures
    ∙ ap (λ xs. all (map (λ x. x.now) xs)) c.as_slice-4.ensures.value
    ∙ ap all (c.in_ok-keep_chosen.ensures c.in_ok-found.ensures.rising ∙ ap (served c.args.sending.word)
    (standing c.args.marks.now c.args.sessions.now c.args.subscriptions.now c.requires.marked c.args.sending.publisher.now c.args.seen.account.now s before _ _ _ _ c.in_ok-found.ensures.found c.lend-subject.ensures c.as_slice.ensures.value c.as_slice-2.ensures))

pub returns-clause-nobody : goal.returns-clause-nobody
returns-clause-nobody c =
    c.is_nil-nobody.ensures
    ∙ ap (λ xs. is_nil (map (λ x. x.now) xs)) c.as_slice-3.ensures.value
    ∙ ap is_nil (standing c.args.marks.now c.args.sessions.now c.args.subscriptions.now c.requires.marked c.args.sending.publisher.now c.args.seen.account.now c.args.seen.subject.now c.args.self.now.deliveries.items _ _ _ _ c.in_ok-found.ensures.found c.lend-subject.ensures c.as_slice.ensures.value c.as_slice-2.ensures)
