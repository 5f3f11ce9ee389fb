-- each account is its own first one, and the rows of the account at the place join their ends
use Rattle.std.proofs.Common.{◌≡◌, ◌∙◌, ◌+◌, ◌++◌, ℕ, ap, sym, subst, arith, List, drop, length, map, take}
use Rattle.std.specs.Prelude.{All, IsTrue}
use Rattle.std.specs.List.{list_any, range_with_len, slice_index_or}
use Rattle.std.proofs.lemmas.List.{take_at}
use Rattle.std.proofs.lemmas.List.Elements.{All-weaker}
use Rattle.policy_doc.specs.Accounts.{Name, has_name}
use Rattle.policy_doc.specs.Imports.{IsValidImport}
use Rattle.policy_doc.specs.declared.document.ImportDoc.{ImportDoc}
use Rattle.policy_doc.specs.declared.document.NamedAccount.{NamedAccount}
use Rattle.policy_sets.specs.Sets.{ends_at, ends_in, ends_of, joined_by, names_of}
use Rattle.policy_sets.specs.Firsts.{AreFirsts, name_at}
use Rattle.policy_sets.proofs.Places.{account_more, as_many_names, name_read, places_are}
use Rattle.policy_sets.proofs.Smallest.{exporter_there}
use Rattle.policy_sets.proofs.joining.firsts_of.Goals as goal

pub loop-place-init : goal.loop-place-init
loop-place-init c =
    places_are (names_of c.args.accounts.now) c.in_ok-firsts.firsts.items (c.in_ok-firsts.ensures ∙ ap (range_with_len 0) (sym (as_many_names c.args.accounts.now)))

pub join_rows-requires-clause-there : goal.join_rows-requires-clause-there
join_rows-requires-clause-there c =
    let accounts = c.args.accounts.now in
    let a = c.index-accounts-place.result in
    let P : ImportDoc → Type 0 = λ i. IsTrue (list_any (has_name i.account) accounts) in
    let valid : All (IsValidImport accounts a.name) a.account.imports =
    subst (λ (b : NamedAccount). All (IsValidImport accounts b.name) b.account.imports) (sym c.index-accounts-place.is) (c.requires.rows c.loop-place.place a c.loop-place-test.true) in
    subst (λ (l : List ImportDoc). All P l) (sym c.as_slice.ensures) (All-weaker (IsValidImport accounts a.name) P (λ i holds. exporter_there accounts a.name i holds) a.account.imports valid)

pub loop-place-preserved : goal.loop-place-preserved
loop-place-preserved c =
    let accounts = c.args.accounts.now in
    let names : List Name = names_of accounts in
    let place = c.loop-place.place in
    let a = c.index-accounts-place.result in
    let F : Name → Name = joined_by (λ n. n) (ends_of (take place accounts)) in
    let before : AreFirsts names F c.as_mut_slice.result.now = subst (λ (l : List ℕ). AreFirsts names F l) (sym c.as_mut_slice.ensures.value) c.loop-place.invariant in
    let after = c.join_rows.ensures F before in
    let rows : map (ends_at (name_at names place)) c.as_slice.result.now ≡ ends_in (slice_index_or accounts place a) =
    ap (λ (l : List ImportDoc). map (ends_at (name_at names place)) l) c.as_slice.ensures
    ∙ ap (λ (n : Name). map (ends_at n) a.account.imports) (name_read accounts place a c.loop-place-test.true)
    ∙ ap (λ (b : NamedAccount). map (ends_at (slice_index_or accounts place a).name) b.account.imports) c.index-accounts-place.is in
    let more = account_more (λ n. n) accounts place a c.loop-place-test.true in
    let many : length c.join_rows.new.firsts ≡ c.loop-place.firsts.len = omega (arith, after.as_many, before.as_many) in
    let list : take c.loop-place.firsts.len (c.join_rows.new.firsts ++ drop (length c.join_rows.new.firsts) c.loop-place.firsts.items) ≡ c.join_rows.new.firsts =
    take_at c.join_rows.new.firsts (drop (length c.join_rows.new.firsts) c.loop-place.firsts.items) c.loop-place.firsts.len many in
    subst (λ (l : List ℕ). AreFirsts names (joined_by (λ n. n) (ends_of (take (place + 1) accounts))) l) (sym list)
    (subst (λ (f : Name → Name). AreFirsts names f c.join_rows.new.firsts) (ap (joined_by F) rows ∙ sym more) after)
