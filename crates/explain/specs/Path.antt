-- Where a published message is sent on and seen (docs/POLICY.md, "Explaining a verdict").
use Rattle.std.specs.Prelude.{◌-◌, ◌++◌, ◌∷◌, ◌||◌, ◌==◌, ℕ, Bool, List, [], Option, Some, None, find, if◌then◌else◌, map}
use Rattle.std.specs.List.{sum_by}
use Rattle.std.specs.Option.{option_map}
use Rattle.std.specs.Str.{bytes_eq}
use Rattle.subjects.specs.Subject.{Token, text_of}
use Rattle.account_mappings.specs.Drawing.{Share, SourceMap, is_dropped, reached, source_of}
use Rattle.account_mappings.specs.declared.drawing.Mapped.{Mapped}
use Rattle.account_mappings.specs.declared.drawing.Mapped.TheVariants as mapped
use Rattle.policy_doc.specs.Accounts.{Name}
use Rattle.policy_doc.specs.declared.document.NamedAccount.{NamedAccount}
use Rattle.policy_doc.specs.declared.document.PolicyDoc.{PolicyDoc}
use Rattle.policy_ready.specs.imports.Across.{views_in}
use Rattle.policy_ready.specs.imports.Views.{rows_of}
use Rattle.policy_ready.specs.declared.imports.rows.ImportRow.{ImportRow}
use Rattle.policy_ready.specs.declared.imports.view.ViewItem.{ViewItem}
use Rattle.policy_ready.specs.declared.imports.view.ViewItem.TheVariants as item
use Rattle.policy_ready.specs.declared.imports.view.Way.{Way}
use Rattle.policy_ready.specs.declared.imports.view.Way.TheVariants as way
use Rattle.explain.specs.declared.path.PathShare.{PathShare}
use Rattle.explain.specs.declared.path.SentAs.TheVariants as sent
use Rattle.explain.specs.declared.view.View.{View}
use Rattle.explain.specs.declared.view.View.TheVariants.{At, TooLong}
use Rattle.explain.specs.declared.view.ViewKind.{ViewKind}
use Rattle.explain.specs.declared.view.ViewKind.TheVariants.{Own, Stream, Service}

-- ---- where a message is seen

-- how a view comes about; a row is named by its index
abbrev pub kind_of : Way → ViewKind
kind_of way.Own = Own
kind_of (way.Stream row) = Stream row.index
kind_of (way.Service row) = Service row.index
kind_of (way.Response row) = Service row.index

-- a view as it is told
abbrev pub view_of : ViewItem → View
view_of (item.At account s way) = At account (text_of s) (kind_of way)
view_of (item.TooLong row) = TooLong row.importer row.index

-- where an account's message is seen that is sent on under a subject, responses apart
abbrev pub seen : List ImportRow → Name → List Token → List View
seen rows account s = map view_of (views_in rows account s [])

-- ---- the shares of the messages on a subject

-- those that are sent on under a subject
abbrev pub share_to : List ImportRow → Name → ℕ → List Token → PathShare
share_to rows account weight s = record { weight = weight; sent = sent.To (text_of s); views = seen rows account s }

-- those whose subject would be too long: they are seen nowhere
abbrev pub unsent : ℕ → PathShare
unsent weight = record { weight = weight; sent = sent.TooLong; views = [] }

-- the subject under which a message is sent on, if it is
abbrev pub onward : List Token → Mapped → Option (List Token)
onward published mapped.Same = Some published
onward published (mapped.To s) = Some s
onward published mapped.Unmapped = None
onward published (mapped.TooLong index) = None

-- those that a destination takes
abbrev pub share_under : List ImportRow → Name → ℕ → Option (List Token) → PathShare
share_under rows account weight None = unsent weight
share_under rows account weight (Some s) = share_to rows account weight s

abbrev pub share_of : List ImportRow → Name → List Token → Share → PathShare
share_of rows account s destination = share_under rows account destination.weight (onward s (reached 0 (Some destination) s))

abbrev pub taken : List ImportRow → Name → List Token → SourceMap → List PathShare
taken rows account s m = map (share_of rows account s) m.shares

-- what shares leave of a hundred
abbrev pub weight_of : PathShare → ℕ
weight_of share = share.weight

abbrev pub left_by : List PathShare → ℕ
left_by shares = 100 - sum_by weight_of shares

-- those that no destination takes, if there are any and they aren't dropped
abbrev pub rest_by : List ImportRow → Name → List Token → Bool → ℕ → List PathShare
rest_by rows account s dropped left = if left == 0 || dropped then [] else share_to rows account left s ∷ []

-- without a source that has the subject, all are sent on as they were published
abbrev pub shares_by : List ImportRow → Name → List Token → Option SourceMap → List PathShare
shares_by rows account s None = record { weight = 100; sent = sent.Same; views = seen rows account s } ∷ []
shares_by rows account s (Some m) = taken rows account s m ++ rest_by rows account s (is_dropped m) (left_by (taken rows account s m))

-- ---- in an account

-- the account of a name
abbrev pub account_named : List NamedAccount → Name → Option NamedAccount
account_named accounts name = find (λ (a : NamedAccount). bytes_eq a.name name) accounts

-- the shares of the messages that are published on a subject in the account of a name
abbrev pub path_of : PolicyDoc → Name → List Token → Option (List PathShare)
path_of doc name s = option_map (λ (a : NamedAccount). shares_by (rows_of doc) a.name s (source_of a.account.mappings s)) (account_named doc.accounts name)
