-- Whose a command is, and what it makes of the tenants' part of a world.
use Rattle.std.specs.Prelude.{◌≡◌, ◌≢◌, ◌+◌, Bool, true, false, Result, Ok, Err, All, IfSome}
use Rattle.policy_doc.specs.declared.document.PolicyDoc.{PolicyDoc}
use Rattle.policy_sets.specs.Sets.{IsClosed}
use Rattle.policy_ready.specs.Users.{user_with_password}
use Rattle.policy_ready.specs.declared.ready.User.{User}
use Rattle.events.specs.declared.event.Command.{Command}
use Rattle.events.specs.declared.event.Command.TheVariants.{Connect, Sub, Unsub, Pub, Take, Close, Reload}
use Rattle.events.specs.declared.answer.Outcome.{Outcome}
use Rattle.events.specs.declared.refusal.HubRefusal.{HubRefusal}
use Rattle.events.specs.declared.refusal.HubRefusal.TheVariants.{SessionLimit}
use Rattle.world_routing.specs.World.{World}
use Rattle.world.specs.Transition.{moved, numbered}
use Rattle.tenant_laws.specs.parts.Part.{part_of}
use Rattle.tenant_laws.specs.worlds.Tenants.{Tenants}
use Rattle.tenant_laws.specs.worlds.Answers.{part_of_command, seen_by}
use Rattle.tenant_laws.specs.worlds.Alike.{AreApart, IsOwnSession, IsPartOf, IsUpheld}

-- A command under a policy is the tenants' own, or it is another's: one of a connection is theirs exactly where the connection is; a
-- reload may be another's only if their part of the policy stays.
abbrev pub IsMarked : Tenants → PolicyDoc → Bool → Command → Type 0
IsMarked t doc own (Connect conn name password echo) = t.connections conn ≡ own
IsMarked t doc own (Sub conn p queue sid) = t.connections conn ≡ own
IsMarked t doc own (Unsub conn sid most) = t.connections conn ≡ own
IsMarked t doc own (Pub conn m word) = t.connections conn ≡ own
IsMarked t doc own (Take conn most) = t.connections conn ≡ own
IsMarked t doc own (Close conn) = t.connections conn ≡ own
IsMarked t doc own (Reload new) = own ≡ false → part_of t.accounts new ≡ part_of t.accounts doc

-- Nobody logs in across the border: users of the tenants' accounts on their connections, and others on others. A new policy has no
-- import row across it.
abbrev pub KeepsApart : Tenants → PolicyDoc → Command → Type 0
KeepsApart t doc (Connect conn name password echo) = IfSome (user_with_password doc name password) (λ (u : User). t.connections conn ≡ t.accounts u.account)
KeepsApart t doc (Reload new) = IsClosed new t.accounts
KeepsApart t doc _ = Unit {0}

-- what two steps come to is the same to the tenants, and the second world is still their part of the first
abbrev pub AreMovedAlike : Tenants → Result (Outcome × World) HubRefusal → Result (Outcome × World) HubRefusal → Type 0
AreMovedAlike t (Ok r) (Ok s) = (seen_by t s.0 ≡ seen_by t r.0) × IsPartOf t r.1 s.1
AreMovedAlike t (Err a) (Err b) = b ≡ a
AreMovedAlike t (Ok r) (Err b) = ⊥
AreMovedAlike t (Err a) (Ok s) = ⊥

-- a step leaves the tenants' part as it was
abbrev pub HasLeft : Tenants → World → Result (Outcome × World) HubRefusal → Type 0
HasLeft t p (Ok r) = IsPartOf t r.1 p
HasLeft t p (Err e) = Unit {0}

-- A command of the tenants, which isn't refused for want of room for sessions, comes to the same in a world and in their part of it.
abbrev pub OwnCommandsAgree : Type 0
OwnCommandsAgree = (t : Tenants) (w p : World) (c : Command) → IsPartOf t w p → AreApart t w → IsMarked t w.policy true c → KeepsApart t w.policy c → moved w c ≢ Err SessionLimit →
    AreMovedAlike t (numbered (w.number + 1) (moved w c)) (numbered (p.number + 1) (moved p (part_of_command t c)))

-- A command of others leaves their part as it was.
abbrev pub OthersLeavePart : Type 0
OthersLeavePart = (t : Tenants) (w p : World) (c : Command) → IsPartOf t w p → AreApart t w → IsUpheld w → IsMarked t w.policy false c → KeepsApart t w.policy c →
    HasLeft t p (numbered (w.number + 1) (moved w c))

-- And the sessions stay apart.
abbrev pub HasOwnSessions : Tenants → Result (Outcome × World) HubRefusal → Type 0
HasOwnSessions t (Ok r) = All (IsOwnSession t) r.1.sessions
HasOwnSessions t (Err e) = Unit {0}

abbrev pub SessionsStayApart : Type 0
SessionsStayApart = (t : Tenants) (w : World) (c : Command) → All (IsOwnSession t) w.sessions → KeepsApart t w.policy c → HasOwnSessions t (moved w c)
