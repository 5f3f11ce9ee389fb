-- A message stays within the closed sets of its account (docs/GUARANTEE.md, "Laws of routing").
use Rattle.std.specs.Prelude.{◌≡◌, ℕ, Bool, true, List, All, Contains, IsSomeAnd}
use Rattle.subjects.specs.Subject.{Token}
use Rattle.policy_doc.specs.declared.exports.document.Row.{Row}
use Rattle.policy_doc.specs.Accounts.{Name}
use Rattle.policy_doc.specs.Document.{IsValidPolicy}
use Rattle.policy_doc.specs.declared.document.PolicyDoc.{PolicyDoc}
use Rattle.policy_sets.specs.Sets.{IsClosed}
use Rattle.policy_ready.specs.declared.ready.User.{User}
use Rattle.policy_ready.specs.declared.imports.view.ViewItem.TheVariants.{At}
use Rattle.policy_ready.specs.declared.imports.view.Way.{Way}
use Rattle.service_exporter.specs.Routes.{Numbered}
use Rattle.world.specs.World.{World}
use Rattle.hub.specs.Routes.{EachRoute}
use Rattle.hub.specs.Sound.{IsSound, user_at}
use Rattle.hub_laws.specs.routing.Seen.{Routes, views_by}
use Rattle.hub_laws.specs.routing.Reach.{OfEachPublish, Reaches}

-- no response route of an exporter has one end in a set of accounts and one outside
abbrev pub IsWithin : (Name → Bool) → Name → Numbered → Type 0
IsWithin K exporter r = K r.1.row.importer ≡ K exporter

-- No response route of a hub leads out of a set that is closed in the policy in force.
abbrev pub RoutesWithin : Type 0
RoutesWithin = (w : World) → IsSound w → (K : Name → Bool) → IsClosed w.policy K → EachRoute (IsWithin K) w.routes

-- A message has views only in accounts that are in a closed set where its publisher's account is, and outside where that is
-- outside, as long as no response route leads out of it.
abbrev pub SeenWithin : Type 0
SeenWithin = (doc : PolicyDoc) → IsValidPolicy doc → (K : Name → Bool) → IsClosed doc K → (routes : Routes) → EachRoute (IsWithin K) routes → (account : Name) (s : List Token) (into : Name) (local : List Token) (way : Way) →
    Contains (views_by doc routes account s) (At into local way) → K into ≡ K account

-- the connection's user is, in the policy in force, of an account of the set
abbrev pub IsOfSet : World → (Name → Bool) → ℕ → Type 0
IsOfSet w K conn = IsSomeAnd (user_at w conn) (λ (u : User). K u.account ≡ true)

-- A message of an account reaches only accounts of its closed set: whatever set is closed in the policy in force and has the
-- account, each session that is sent the message is of an account of the set, and each row that is reported is an import of one.
abbrev pub ReachesItsSet : Type 0
ReachesItsSet = OfEachPublish (λ w after conn u m items. (K : Name → Bool) → IsClosed w.policy K → K u.account ≡ true →
    Reaches (λ to sid. IsOfSet w K to) (λ (row : Row). K row.importer ≡ true) (λ (row : Row). K row.importer ≡ true) (λ to d. IsOfSet w K to) items w.sessions after.sessions)
