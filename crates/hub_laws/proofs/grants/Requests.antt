-- In every legal run from an opening whoever may respond, and whoever has responded by a grant, has an open request.
use Rattle.std.proofs.Common.{◌≡◌, ◌∙◌, ◌==◌, ◌&&◌, ◌||◌, ℕ, ◌+◌, ◌-◌, ◌^◌, ◌<◌, Bool, true, false, not, cond, List, [], ◌∷◌, ◌++◌, Option, Some, None, Result, Ok, Err, ap, sym, refl, subst, arith, max}
use Rattle.std.specs.Prelude.{position, All, IfSome, IsSomeAnd, ◌≤◌, min}
use Rattle.std.specs.List.{list_any}
use Rattle.std.specs.Cmp.Lexicographic.{pointwise_decides, bytes_decides}
use Rattle.std.proofs.lemmas.Bool.{eqb-true, ltb-true, leb-true}
use Rattle.std.proofs.lemmas.List.Elements.{All-nil, All-head, All-tail}
use Rattle.subjects.specs.Subject.{Token, in_set}
use Rattle.subjects.specs.Equal.{same_subject}
use Rattle.policy_doc.specs.declared.permission_doc.document.Terms.{Terms}
use Rattle.permissions.specs.Lists.{Lists, Entry as ListEntry}
use Rattle.permissions.specs.Verdicts.{unless_denied, by_entry, by_allow_list, by_entry_with, publish_verdict, is_allowed}
use Rattle.permissions.specs.declared.verdict.By.{By}
use Rattle.permissions.specs.declared.verdict.By.TheVariants.{All as AllowsAll, Index, Grant as ByGrant}
use Rattle.permissions.specs.declared.verdict.Verdict.{Verdict}
use Rattle.permissions.specs.declared.verdict.Verdict.TheVariants.{Allowed, DeniedBy, NoAllow, NoQueueAllow}
use Rattle.reply_grants.specs.Grants.{Grant}
use Rattle.reply_grants.specs.Replies.{grants_of}
use Rattle.events.specs.Messages.{Message}
use Rattle.events.specs.declared.event.Command.{Command}
use Rattle.events.specs.declared.event.Command.TheVariants.{Connect, Sub, Unsub, Pub, Take, Close, Reload}
use Rattle.events.specs.declared.answer.Outcome.{Outcome}
use Rattle.events.specs.declared.refusal.HubRefusal.{HubRefusal}
use Rattle.world_sessions.specs.deliveries.Sessions.{session_of}
use Rattle.world_sessions.specs.deliveries.Replying.{terms_of, is_granted}
use Rattle.world_sessions.specs.declared.deliveries.session.Session.{Session}
use Rattle.world.specs.World.{World, opening_world, advanced}
use Rattle.world.specs.Granting.{or_granted, verdict_on}
use Rattle.account_mappings.specs.Drawing.{mapped_by}
use Rattle.account_mappings.specs.declared.drawing.Mapped.{Mapped}
use Rattle.account_mappings.specs.declared.drawing.Mapped.TheVariants.{Same, To, Unmapped, TooLong}
use Rattle.world.specs.Transition.{mapped_to, published, in_session, moved, numbered}
use Rattle.hub.specs.Kept.{is_open}
use Rattle.hub.specs.Replies.{is_by_grant, terms_in, grants_at, is_young, is_live_for, has_grant}
use Rattle.hub.specs.Sound.{user_at}
use Rattle.hub.proofs.Finds.{find-passes, find-All}
use Rattle.hub.proofs.Grants.{granted_is}
use Rattle.hub_laws.specs.grants.Noted.{Step, step_of, steps_of, responds_by, responses_on, terms_at, IsLastRequest, IsNoted, IsOpenRequest, MayRespondHasRequest, ResponseHasRequest}
use Rattle.hub_laws.proofs.grants.Tables.{both-front, both-back}
use Rattle.hub_laws.proofs.grants.History.{HasNoted, Told, clock_is, step-keeps, run-told, told-opening, are_noted}

-- ---- who may respond

within : (now : ℕ) (limit : Option ℕ) (noted moment : ℕ) → noted ≡ moment → is_young limit (now - noted) ≡ true → IfSome limit (λ (most : ℕ). now - moment ≤ most)
within now None noted moment is h = tt
within now (Some limit) noted moment is h = let le = leb-true (now - noted) limit h in omega (arith, is, le)

below : (max : Option ℕ) (count answers : ℕ) → count ≡ answers → is_open max count ≡ true → IfSome max (λ (most : ℕ). answers < most)
below None count answers is h = tt
below (Some most) count answers is h = let less = ltb-true count most h in omega (arith, is, less)

open-request : (steps : List Step) (now conn : ℕ) (s : List Token) (terms : Terms) (gs : List Grant) → All (IsNoted steps conn) gs → list_any (is_live_for now s terms) gs ≡ true → IsOpenRequest steps now conn s terms
open-request steps now conn s terms [] noted some = absurd (cc)
open-request steps now conn s terms (g ∷ gs) noted some = here (is_live_for now s terms g) refl (open-request steps now conn s terms gs (All-tail (IsNoted steps conn) g gs noted))
  where
    first : IsNoted steps conn g
    first = All-head (IsNoted steps conn) g gs noted

    this : is_live_for now s terms g ≡ true → IsOpenRequest steps now conn s terms
    this is =
        let alive = both-back (same_subject s g.subject) _ is in
        let same : g.subject ≡ s = sym ((pointwise_decides bytes_decides s g.subject).0 (both-front (same_subject s g.subject) _ is)) in
        record {
          before = first.before;
          made = first.made;
          since = first.since;
          request = subst (λ r. IsLastRequest steps conn r first.before first.made first.since) same first.request;
          responses = below terms.max g.count _ (first.count ∙ ap (λ r. min (2 ^ 64 - 1) (responses_on conn r first.since)) same) (both-front (is_open terms.max g.count) _ alive);
          age = within now terms.expires g.noted _ first.noted (both-back (is_open terms.max g.count) _ alive);
        }

    here : (b : Bool) → is_live_for now s terms g ≡ b → (list_any (is_live_for now s terms) gs ≡ true → IsOpenRequest steps now conn s terms) → IsOpenRequest steps now conn s terms
    here true is later = this is
    here false is later = later (ap (λ b. b || list_any (is_live_for now s terms) gs) (sym is) ∙ some)

-- where there is a live grant
by_terms : (steps : List Step) (now conn : ℕ) (s : List Token) (terms : Option Terms) (gs : List Grant) → All (IsNoted steps conn) gs → has_grant now s terms gs ≡ true → IsSomeAnd terms (IsOpenRequest steps now conn s)
by_terms steps now conn s None gs noted some = absurd (cc)
by_terms steps now conn s (Some terms) gs noted some = open-request steps now conn s terms gs noted some

-- the grants of a connection
noted_at-conn : (steps : List Step) (zs : List Session) (conn : ℕ) → All (HasNoted steps) zs → All (IsNoted steps conn) (grants_at (session_of zs conn))
noted_at-conn steps zs conn all = here (session_of zs conn) refl
  where
    here : (o : Option Session) → session_of zs conn ≡ o → All (IsNoted steps conn) (grants_at o)
    here None e = All-nil (IsNoted steps conn)
    here (Some z) e =
        subst (λ n. All (IsNoted steps n) (grants_of z.replies)) (eqb-true z.conn conn (find-passes (λ (y : Session). y.conn == conn) zs z e))
        (find-All (HasNoted steps) (λ (y : Session). y.conn == conn) zs z all e)

pub may_respond-request : MayRespondHasRequest
may_respond-request policy capacity es w run now conn s may =
    let steps : List Step = steps_of (opening_world policy capacity) es in
    by_terms steps now conn s (terms_in (user_at w conn)) (grants_at (session_of w.sessions conn)) (noted_at-conn steps w.sessions conn (are_noted policy capacity es w run)) may

-- ---- who has responded

-- the lists never say that a grant allows
not_by_lists : (lists : Lists) (s : List Token) → publish_verdict lists s ≡ Allowed ByGrant → ⊥
not_by_lists lists s = here (position (λ (e : ListEntry). in_set e.subject s) lists.publish.deny)
  where
    by_place : (o : Option ℕ) → by_entry o ≡ Allowed ByGrant → ⊥
    by_place None h = absurd (cc)
    by_place (Some i) h = absurd (cc)

    by_allow : (o : Option (List ListEntry)) → by_allow_list (by_entry_with s) o ≡ Allowed ByGrant → ⊥
    by_allow None h = absurd (cc)
    by_allow (Some entries) h = by_place (position (λ (e : ListEntry). in_set e.subject s) entries) h

    here : (o : Option ℕ) → unless_denied o (by_allow_list (by_entry_with s) lists.publish.allow) ≡ Allowed ByGrant → ⊥
    here None h = by_allow lists.publish.allow h
    here (Some i) h = absurd (cc)

-- so where a grant has allowed, there is a live one
granted-by : (granted : Bool) (v : Verdict) → (v ≡ Allowed ByGrant → ⊥) → or_granted granted v ≡ Allowed ByGrant → granted ≡ true
granted-by true v not_so h = refl
granted-by false v not_so h = absurd (not_so (here (not (is_allowed v)) h))
  where
    here : (b : Bool) → cond (b && false) (Allowed ByGrant) v ≡ Allowed ByGrant → v ≡ Allowed ByGrant
    here true e = e
    here false e = e

-- a response that is told is by a grant, of the connection, on the subject
abbrev IsTold : ℕ → ℕ → List Token → List Token → By → Type 0
IsTold conn c s subject by = is_by_grant by && (conn == c) && same_subject subject s ≡ true

told-grant : (conn c : ℕ) (s subject : List Token) (by : By) → IsTold conn c s subject by → (by ≡ ByGrant) × (conn ≡ c) × (subject ≡ s)
told-grant conn c s subject AllowsAll h = absurd (cc)
told-grant conn c s subject (Index i) h = absurd (cc)
told-grant conn c s subject ByGrant h = (
  refl,
  eqb-true conn c (both-front (conn == c) (same_subject subject s) h),
  (pointwise_decides bytes_decides subject s).0 (both-back (conn == c) (same_subject subject s) h),
)

module _ (steps : List Step) (w : World) (now : ℕ) (t : Told steps w.moment w.sessions) where
  -- what the outcome tells as a response had an open request
  abbrev HasRequest : Command → Outcome → Type 0
  HasRequest c o = (conn : ℕ) (s : List Token) → responds_by conn s c o ≡ true → IsSomeAnd (terms_at (session_of w.sessions conn)) (IsOpenRequest steps (max w.moment now) conn s)

  abbrev HasRequestIn : Command → Result (Outcome × World) HubRefusal → Type 0
  HasRequestIn c (Err refusal) = Unit {0}
  HasRequestIn c (Ok r) = HasRequest c r.0

  none-told : (c : Command) → ((conn : ℕ) (s : List Token) (o : Outcome) → responds_by conn s c o ≡ false) → HasRequestIn c (numbered (w.number + 1) (moved (advanced w now) c))
  none-told c none = here (numbered (w.number + 1) (moved (advanced w now) c))
    where
      unlike : false ≡ true → ⊥
      unlike e = absurd (cc)

      here : (r : Result (Outcome × World) HubRefusal) → HasRequestIn c r
      here (Err refusal) = tt
      here (Ok r) = λ conn s h. absurd (unlike (sym (none conn s r.0) ∙ h))

  answered-request : (conn : ℕ) (m : Message) (word : ℕ) → HasRequestIn (Pub conn m word) (numbered (w.number + 1) (moved (advanced w now) (Pub conn m word)))
  answered-request conn m word = by_session (session_of w.sessions conn) refl
    where
      M : ℕ
      M = max w.moment now

      sent : (z : Session) (by : By) → session_of w.sessions conn ≡ Some z → verdict_on M z m.subject ≡ Allowed by → (n : ℕ) (s : List Token) → IsTold n conn s m.subject by →
          IsSomeAnd (terms_at (session_of w.sessions n)) (IsOpenRequest steps M n s)
      sent z by e verdict n s h =
          let is = told-grant n conn s m.subject by h in
          let granted : is_granted M m.subject z ≡ true = granted-by (is_granted M m.subject z) (publish_verdict z.user.rules m.subject) (not_by_lists z.user.rules m.subject) (verdict ∙ ap (λ b. Allowed b) is.0) in
          let live : has_grant M m.subject (terms_at (Some z)) (grants_at (Some z)) ≡ true = sym (granted_is m.subject M (terms_of z) (grants_of z.replies)) ∙ granted in
          let whole : has_grant M m.subject (terms_at (session_of w.sessions conn)) (grants_at (session_of w.sessions conn)) ≡ true = ap (λ o. has_grant M m.subject (terms_at o) (grants_at o)) e ∙ live in
          subst (λ k. IsSomeAnd (terms_at (session_of w.sessions k)) (IsOpenRequest steps M k s)) (sym is.1)
          (subst (λ r. IsSomeAnd (terms_at (session_of w.sessions conn)) (IsOpenRequest steps M conn r)) is.2
          (by_terms steps M conn m.subject (terms_at (session_of w.sessions conn)) (grants_at (session_of w.sessions conn)) (noted_at-conn steps w.sessions conn t.noted) whole))

      by_mapping : (z : Session) (by : By) (mapped : Mapped) → session_of w.sessions conn ≡ Some z → verdict_on M z m.subject ≡ Allowed by → HasRequestIn (Pub conn m word) (numbered (w.number + 1) (Ok (mapped_to (advanced w now) z by m word mapped)))
      by_mapping z by Same e verdict = sent z by e verdict
      by_mapping z by (To s) e verdict = sent z by e verdict
      by_mapping z by Unmapped e verdict = sent z by e verdict
      by_mapping z by (TooLong index) e verdict = sent z by e verdict

      by_verdict : (z : Session) (v : Verdict) → session_of w.sessions conn ≡ Some z → verdict_on M z m.subject ≡ v → HasRequestIn (Pub conn m word) (numbered (w.number + 1) (Ok (published (advanced w now) z m word v)))
      by_verdict z (Allowed by) e verdict = by_mapping z by (mapped_by z.user.mappings m.subject word) e verdict
      by_verdict z (DeniedBy i) e verdict = λ n s h. absurd (cc)
      by_verdict z NoAllow e verdict = λ n s h. absurd (cc)
      by_verdict z (NoQueueAllow i) e verdict = λ n s h. absurd (cc)

      by_session : (o : Option Session) → session_of w.sessions conn ≡ o → HasRequestIn (Pub conn m word) (numbered (w.number + 1) (in_session o (λ z. published (advanced w now) z m word (verdict_on M z m.subject))))
      by_session None e = tt
      by_session (Some z) e = by_verdict z (verdict_on M z m.subject) e refl

  step-request : (c : Command) → HasRequestIn c (numbered (w.number + 1) (moved (advanced w now) c))
  step-request (Connect conn name password echo) = none-told (Connect conn name password echo) (λ n s o. refl)
  step-request (Sub conn p queue sid) = none-told (Sub conn p queue sid) (λ n s o. refl)
  step-request (Unsub conn sid most) = none-told (Unsub conn sid most) (λ n s o. refl)
  step-request (Pub conn m word) = answered-request conn m word
  step-request (Take conn most) = none-told (Take conn most) (λ n s o. refl)
  step-request (Close conn) = none-told (Close conn) (λ n s o. refl)
  step-request (Reload doc) = none-told (Reload doc) (λ n s o. refl)

pub response-request : ResponseHasRequest
response-request policy capacity es w run a next is conn s h =
    let steps : List Step = steps_of (opening_world policy capacity) es in
    let t : Told steps w.moment w.sessions = run-told [] es (opening_world policy capacity) w (told-opening policy capacity) run in
    let has : HasRequestIn steps w a.event.now t a.event.what (Ok (a.outcome, next)) = subst (HasRequestIn steps w a.event.now t a.event.what) is.outcome (step-request steps w a.event.now t a.event.what) in
    let later : Told (steps ++ step_of w a next ∷ []) next.moment next.sessions = (step-keeps steps w t a next is).0 a.number a.epoch in
    subst (λ now. IsSomeAnd (terms_at (session_of w.sessions conn)) (IsOpenRequest steps now conn s))
    (clock_is steps w a.event.now t (step_of w a next) refl ∙ sym later.clock) (has conn s h)
