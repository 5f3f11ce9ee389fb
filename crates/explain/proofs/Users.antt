-- The user of a name, account by account.
use Rattle.std.proofs.Common.{◌≡◌, ◌∙◌, ◌<◌, ◌+◌, ℕ, List, Option, Some, None, length, drop, get_or, ap, sym}
use Rattle.std.specs.List.{find}
use Rattle.std.specs.Option.{option_or}
use Rattle.std.proofs.lemmas.List.{drop_more}
use Rattle.std.proofs.lemmas.List.Folds.{find-append}
use Rattle.policy_doc.specs.Accounts.{Name}
use Rattle.policy_doc.specs.Document.{users_of}
use Rattle.policy_doc.specs.declared.document.NamedAccount.{NamedAccount}
use Rattle.policy_doc.specs.declared.document.UserDoc.{UserDoc}
use Rattle.explain.specs.Reason.{has_user_name}

step : (name : Name) (accounts : List NamedAccount) (i : ℕ) (d : NamedAccount) → i < length accounts →
    find (has_user_name name) (users_of (drop i accounts)) ≡ option_or (find (has_user_name name) (get_or accounts i d).account.users) (find (has_user_name name) (users_of (drop (i + 1) accounts)))
step name accounts i d h =
    ap (λ all. find (has_user_name name) (users_of all)) (drop_more accounts i d h) ∙ find-append (has_user_name name) (get_or accounts i d).account.users (users_of (drop (i + 1) accounts))

-- the account at hand has the user, or those behind it have
pub found : (name : Name) (accounts : List NamedAccount) (i : ℕ) (a : NamedAccount) (u : UserDoc) (whole : Option UserDoc) → i < length accounts → get_or accounts i a ≡ a →
    Some u ≡ find (has_user_name name) a.account.users → find (has_user_name name) (users_of (drop i accounts)) ≡ whole → Some u ≡ whole
found name accounts i a u whole h at here all =
    let first : find (has_user_name name) (get_or accounts i a).account.users ≡ Some u = ap (λ (b : NamedAccount). find (has_user_name name) b.account.users) at ∙ sym here in
    sym (sym all ∙ step name accounts i a h ∙ ap (λ o. option_or o (find (has_user_name name) (users_of (drop (i + 1) accounts)))) first)

pub missed : (name : Name) (accounts : List NamedAccount) (i : ℕ) (a : NamedAccount) (whole : Option UserDoc) → i < length accounts → get_or accounts i a ≡ a →
    None ≡ find (has_user_name name) a.account.users → find (has_user_name name) (users_of (drop i accounts)) ≡ whole → find (has_user_name name) (users_of (drop (i + 1) accounts)) ≡ whole
missed name accounts i a whole h at here all =
    let first : find (has_user_name name) (get_or accounts i a).account.users ≡ None = ap (λ (b : NamedAccount). find (has_user_name name) b.account.users) at ∙ sym here in
    sym (step name accounts i a h ∙ ap (λ o. option_or o (find (has_user_name name) (users_of (drop (i + 1) accounts)))) first) ∙ all
