-- the row at the index joins its ends
use Rattle.std.proofs.Common.{◌∙◌, ap, sym, subst, refl, ◌≡◌, length, arith, List, ℕ, take, map, slice_index_or}
use Rattle.std.proofs.Math.Seq.{take-length}
use Rattle.policy_doc.specs.Accounts.{Name}
use Rattle.policy_doc.specs.declared.document.ImportDoc.{ImportDoc}
use Rattle.policy_sets.specs.Sets.{Ends, ends_at, joined, joined_by, names_of}
use Rattle.policy_sets.specs.Firsts.{AreFirsts, name_at}
use Rattle.policy_sets.proofs.Places.{as_many_names, row_joined, row_more}
use Rattle.policy_sets.proofs.joining.join_rows.Goals as goal

pub loop-import-preserved : goal.loop-import-preserved
loop-import-preserved c first are =
    let accounts = c.args.accounts.now in
    let names : List Name = names_of accounts in
    let many : length names ≡ length accounts = as_many_names accounts in
    let importer : Name = name_at names c.args.place in
    let item = c.import-item.result in
    let row : Ends = ends_at importer (slice_index_or c.args.imports.now c.loop-import.import-index item) in
    let exporter_is = c.place_of.ensures.named ∙ ap (λ (i : ImportDoc). i.account) c.import-item.is in
    let here = row_joined names (joined_by first (map (ends_at importer) (take c.loop-import.import-index c.args.imports.now))) c.loop-import.firsts c.args.place c.place_of.result row
    c.requires.order (omega (arith, many)) (omega (arith, many)) refl exporter_is (c.loop-import.invariant first are) in
    let moved = subst (λ (l : List ℕ). AreFirsts names (joined (joined_by first (map (ends_at importer) (take c.loop-import.import-index c.args.imports.now))) row) l) (sym c.join.ensures) here in
    subst (λ (f : Name → Name). AreFirsts names f c.join.new.firsts) (sym (row_more first importer c.args.imports.now c.loop-import.import-index item c.loop-import-test.true)) moved

pub returns : goal.returns
returns c first are =
    let names : List Name = names_of c.args.accounts.now in
    let imports = c.args.imports.now in
    let e : c.loop-import.import-index ≡ length imports = omega arith in
    subst (λ (l : List ImportDoc). AreFirsts names (joined_by first (map (ends_at (name_at names c.args.place)) l)) c.loop-import.firsts)
    (ap (λ (k : ℕ). take k imports) e ∙ take-length imports) (c.loop-import.invariant first are)
