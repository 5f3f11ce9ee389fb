use Rattle.std.proofs.Common.{◌≡◌, ◌+◌, ◌∙◌, ◌++◌, ◌∷◌, [], List, drop, ap, sym, subst}
use Rattle.std.specs.Prelude.{All}
use Rattle.std.proofs.lemmas.List.Elements.{All-push}
use Rattle.policy_ready.specs.imports.Views.{rows_from}
use Rattle.policy_ready.specs.imports.Rows.{IsRow}
use Rattle.policy_doc.specs.declared.document.ImportDoc.{ImportDoc}
use Rattle.policy_ready.specs.declared.imports.rows.ImportRow.{ImportRow}
use Rattle.policy_ready.proofs.imports.Appended.{one_row}
use Rattle.policy_ready.proofs.imports.making.add_rows.Goals as goal

pub loop-index-preserved : goal.loop-index-preserved
loop-index-preserved c =
    let name = c.args.named.now.name in
    let imports : List ImportDoc = c.as_slice-import-items.result.now in
    let all : imports ≡ c.args.named.now.account.imports = c.as_slice-import-items.ensures in
    let rows : List ImportRow = c.loop-index.rows.items in
    let i = c.loop-index.index in (
      ap (λ (l : List ImportDoc). c.push.new.self.items ++ rows_from name (i + 1) (drop (i + 1) l)) (sym all) ∙ ap (λ l. l ++ rows_from name (i + 1) (drop (i + 1) imports)) (c.in_ok-push.ensures.items ∙ ap (λ (r : ImportRow). rows ++ r ∷ []) c.in_ok-row_at.ensures.row)
          ∙ sym (one_row name rows imports i c.import-item.result c.loop-index-test.true c.import-item.is)
          ∙ ap (λ (l : List ImportDoc). rows ++ rows_from name i (drop i l)) all ∙ c.loop-index.invariant.0,
      subst (λ (l : List ImportRow). All IsRow l) (sym c.in_ok-push.ensures.items) (All-push IsRow rows c.in_ok-row_at.field-0 c.loop-index.invariant.1 c.in_ok-row_at.ensures.holds),
    )
