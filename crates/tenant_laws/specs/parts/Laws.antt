-- What a set of accounts meets goes by its own part of the policy and of the response routes alone.
use Rattle.std.specs.Prelude.{◌≡◌, ℕ, Bool, true, List, Option, filter, if◌then◌else◌, IfSome, All}
use Rattle.subjects.specs.Subject.{Token}
use Rattle.policy_doc.specs.declared.exports.document.Row.{Row}
use Rattle.policy_doc.specs.Accounts.{Name}
use Rattle.policy_doc.specs.declared.document.PolicyDoc.{PolicyDoc}
use Rattle.policy_sets.specs.Sets.{IsClosed}
use Rattle.policy_ready.specs.Users.{user_again, user_with_password, users_of}
use Rattle.policy_ready.specs.declared.ready.User.{User}
use Rattle.policy_ready.specs.imports.Across.{views}
use Rattle.policy_ready.specs.declared.imports.view.ViewItem.{ViewItem}
use Rattle.policy_ready.specs.declared.imports.view.ViewItem.TheVariants.{At, TooLong}
use Rattle.policy_ready.specs.declared.imports.view.Way.{Way}
use Rattle.policy_ready.specs.declared.imports.view.Way.TheVariants.{Own, Stream, Service, Response}
use Rattle.service_exporter.specs.Routes.{Exporter}
use Rattle.service_exporter.specs.declared.route.NewRow.{NewRow}
use Rattle.service_exporter.specs.declared.route.Route.{Route}
use Rattle.service_routes.specs.Routes.{exporter_of, kept, opened, pruned, spent}
use Rattle.service_routes.specs.service_rows.Rows.{renewed, terms_of}
use Rattle.tenant_laws.specs.parts.Part.{accounts_of, exporters_of, part_of}

-- ---- routes

-- what an exporter of the set has, it has among the set's exporters
abbrev pub HasInPart : Type 0
HasInPart = (K : Name → Bool) (name : Name) (all : List (Name × Exporter)) → K name ≡ true → exporter_of name (exporters_of K all) ≡ exporter_of name all

-- a route is opened among them if its exporter is one, and else nothing changes
abbrev pub OpensInPart : Type 0
OpensInPart = (K : Name → Bool) (name : Name) (r : Route) (all : List (Name × Exporter)) →
    exporters_of K (opened name r all) ≡ (if K name then opened name r (exporters_of K all) else exporters_of K all)

-- so is one ended by a response
abbrev pub SpendsInPart : Type 0
SpendsInPart = (K : Name → Bool) (name : Name) (s : List Token) (all : List (Name × Exporter)) →
    exporters_of K (spent name s all) ≡ (if K name then spent name s (exporters_of K all) else exporters_of K all)

-- those that live at a moment, and those whose rows another policy has again, are so of the set's exporters
abbrev pub PrunesInPart : Type 0
PrunesInPart = (K : Name → Bool) (now : ℕ) (all : List (Name × Exporter)) → exporters_of K (pruned now all) ≡ pruned now (exporters_of K all)

abbrev pub KeepsInPart : Type 0
KeepsInPart = (K : Name → Bool) (row_again : Row → Option NewRow) (all : List (Name × Exporter)) → exporters_of K (kept row_again all) ≡ kept row_again (exporters_of K all)

-- ---- a policy

-- the part is what applies to the set's accounts, and nothing else: it is the same of two policies in which that is the
-- same
abbrev pub IsWhatApplies : Type 0
IsWhatApplies = (K : Name → Bool) (one other : PolicyDoc) → accounts_of K one ≡ accounts_of K other →
    part_of K one ≡ part_of K other

-- where the set is closed, a message of one of its accounts has the views that the part gives, whatever responses there are
abbrev pub ViewsInPart : Type 0
ViewsInPart = (K : Name → Bool) (doc : PolicyDoc) → IsClosed doc K → (account : Name) (s : List Token) (responses : List ViewItem) → K account ≡ true →
    views (part_of K doc) account s responses ≡ views doc account s responses

-- a view is of the set, or not: its account and the importer of the row by which the message comes there are in it, or neither is
abbrev pub IsWayWithin : (Name → Bool) → Bool → Way → Type 0
IsWayWithin K within Own = Unit {0}
IsWayWithin K within (Stream row) = K row.importer ≡ within
IsWayWithin K within (Service row) = K row.importer ≡ within
IsWayWithin K within (Response row) = K row.importer ≡ within

abbrev pub IsViewWithin : (Name → Bool) → Bool → ViewItem → Type 0
IsViewWithin K within (At account s way) = (K account ≡ within) × IsWayWithin K within way
IsViewWithin K within (TooLong row) = K row.importer ≡ within

-- where the set is closed, the views of a message are of the set or not as its account is, if the responses are
abbrev pub ViewsStay : Type 0
ViewsStay = (K : Name → Bool) (doc : PolicyDoc) → IsClosed doc K → (account : Name) (s : List Token) (responses : List ViewItem) →
    All (IsViewWithin K (K account)) responses → All (IsViewWithin K (K account)) (views doc account s responses)

-- the terms of a row of one of its accounts, and the row that another policy has in its place
abbrev pub TermsInPart : Type 0
TermsInPart = (K : Name → Bool) (doc : PolicyDoc) → IsClosed doc K → (row : Row) → K row.importer ≡ true → terms_of (part_of K doc) row ≡ terms_of doc row

abbrev pub AgainInPart : Type 0
AgainInPart = (K : Name → Bool) (old new : PolicyDoc) → IsClosed new K → (row : Row) → K row.importer ≡ true → renewed (part_of K old) (part_of K new) row ≡ renewed old new row

-- the users of the part are those of the whole whose accounts are in the set, with the permissions and the mappings that hold for
-- them
abbrev pub UsersArePart : Type 0
UsersArePart = (K : Name → Bool) (doc : PolicyDoc) → users_of (part_of K doc) ≡ filter (λ (u : User). K u.account) (users_of doc)

-- a user of one of its accounts is found there again
abbrev pub UsersInPart : Type 0
UsersInPart = (K : Name → Bool) (doc : PolicyDoc) (u : User) → K u.account ≡ true → user_again (part_of K doc) u ≡ user_again doc u

-- and by name and password, unless a user of another account has them
abbrev pub LoginsInPart : Type 0
LoginsInPart = (K : Name → Bool) (doc : PolicyDoc) (name : Option (List ℕ)) (password : List ℕ) →
    IfSome (user_with_password doc name password) (λ (u : User). K u.account ≡ true) → user_with_password (part_of K doc) name password ≡ user_with_password doc name password
