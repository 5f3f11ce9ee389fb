-- Of those that have the subject, who may be sent a message is the same by marks as by lists.
use Rattle.std.proofs.Common.{◌≡◌, ◌∙◌, ◌&&◌, ℕ, Bool, true, false, cond, List, [], ◌∷◌, Option, Some, None, filter, ap, refl}
use Rattle.std.proofs.lemmas.List.Elements.{All-head, All-tail}
use Rattle.std.specs.Cmp.Lexicographic.{pointwise}
use Rattle.std.specs.Prelude.{nat_eq}
use Rattle.subjects.specs.Subject.{Token, in_set}
use Rattle.world_sessions.specs.deliveries.Sessions.{session_of}
use Rattle.world_sessions.specs.declared.deliveries.session.Session.{Session}
use Rattle.world_subscriptions.specs.Subscriptions.{has_subject, having}
use Rattle.world_rows.specs.declared.subscription.Subscription.{Subscription}
use Rattle.permissions.specs.deny_marks.Table.{marks_at}
use Rattle.permissions.specs.declared.deny_marks.marks.Marks.{Marks}
use Rattle.permissions.proofs.deny_marks.Judged.{marks_judge}
use Rattle.receivers.specs.views.Open.{lets_through, may_hear, is_open}
use Rattle.receivers.specs.views.Marked.{AreMarked, IsMarkedBy, is_marked_open, lets_marked}

module _ (table : List (ℕ × Marks)) (zs : List Session) (publisher : Session) (account : List ℕ) (s : List Token) where
  lets_same : (sub : Subscription) (o : Option Session) → IsMarkedBy table sub o → in_set sub.subject s ≡ true → lets_marked table s sub o ≡ lets_through s sub.queue o
  lets_same sub None is within = refl
  lets_same sub (Some z) is within = marks_judge z.user.rules s sub.queue (marks_at table sub.id) (sub.subject, within, is)

  open_same : (sub : Subscription) → IsMarkedBy table sub (session_of zs sub.conn) → in_set sub.subject s ≡ true → is_marked_open table zs publisher s sub ≡ is_open zs publisher s sub
  open_same sub is within = ap (λ b. may_hear publisher sub.conn && b) (lets_same sub (session_of zs sub.conn) is within)

  and_right : (b c : Bool) → (b && c) ≡ true → c ≡ true
  and_right true c e = e
  and_right false c e = absurd (cc)

  -- and so where another test is asked beside
  pub open_marked : (test : Bool → Subscription → Bool) (subs : List Subscription) → AreMarked zs subs table →
      filter (λ (sub : Subscription). test (is_marked_open table zs publisher s sub) sub) (having account s subs) ≡ filter (λ (sub : Subscription). test (is_open zs publisher s sub) sub) (having account s subs)
  open_marked test [] are = refl
  open_marked test (sub ∷ subs) are = here (has_subject account s sub) refl (open_marked test subs (All-tail (λ (x : Subscription). IsMarkedBy table x (session_of zs x.conn)) sub subs are))
    where
      by_marks : List Subscription → List Subscription
      by_marks all = filter (λ (x : Subscription). test (is_marked_open table zs publisher s x) x) all

      by_lists : List Subscription → List Subscription
      by_lists all = filter (λ (x : Subscription). test (is_open zs publisher s x) x) all

      here : (b : Bool) → has_subject account s sub ≡ b → by_marks (having account s subs) ≡ by_lists (having account s subs) →
          by_marks (cond b (sub ∷ having account s subs) (having account s subs)) ≡ by_lists (cond b (sub ∷ having account s subs) (having account s subs))
      here false has later = later
      here true has later =
          let within : in_set sub.subject s ≡ true = and_right (pointwise nat_eq sub.account account) (in_set sub.subject s) has in
          ap (λ b. cond (test b sub) (sub ∷ by_marks (having account s subs)) (by_marks (having account s subs)))
          (open_same sub (All-head (λ (x : Subscription). IsMarkedBy table x (session_of zs x.conn)) sub subs are) within)
          ∙ ap (λ (more : List Subscription). cond (test (is_open zs publisher s sub) sub) (sub ∷ more) more) later
