-- The rows of an account's imports, one by one.
use Rattle.std.proofs.Common.{◌≡◌, ◌∙◌, ◌+◌, ◌<◌, ℕ, List, [], ◌∷◌, ◌++◌, append_assoc, length, take, drop, get_or, ap, sym}
use Rattle.std.specs.List.{flat_map}
use Rattle.std.proofs.lemmas.Grind.{flat_map-append}
use Rattle.std.proofs.lemmas.List.{append-nil, drop_more, take_more}
use Rattle.policy_doc.specs.declared.document.ImportDoc.{ImportDoc}
use Rattle.policy_doc.specs.declared.document.NamedAccount.{NamedAccount}
use Rattle.policy_ready.specs.imports.Views.{row_at, rows_from, rows_in}
use Rattle.policy_ready.specs.declared.imports.rows.ImportRow.{ImportRow}

-- one row more: those so far, and those of the imports that are left, are the same
pub one_row : (importer : List ℕ) (rows : List ImportRow) (imports : List ImportDoc) (i : ℕ) (d : ImportDoc) → i < length imports → d ≡ get_or imports i d →
    rows ++ rows_from importer i (drop i imports) ≡ (rows ++ row_at importer i d ∷ []) ++ rows_from importer (i + 1) (drop (i + 1) imports)
one_row importer rows imports i d below is =
    ap (λ l. rows ++ rows_from importer i l) (drop_more imports i d below ∙ ap (λ y. y ∷ drop (i + 1) imports) (sym is))
    ∙ sym (append_assoc rows (row_at importer i d ∷ []) (rows_from importer (i + 1) (drop (i + 1) imports)))

-- the rows of one account more
pub one_account : (accounts : List NamedAccount) (i : ℕ) (a : NamedAccount) → i < length accounts → a ≡ get_or accounts i a →
    flat_map rows_in (take (i + 1) accounts) ≡ flat_map rows_in (take i accounts) ++ rows_in a
one_account accounts i a below is =
    ap (flat_map rows_in) (take_more accounts i a below ∙ ap (λ y. take i accounts ++ y ∷ []) (sym is))
    ∙ flat_map-append rows_in (take i accounts) (a ∷ [])
    ∙ ap (λ l. flat_map rows_in (take i accounts) ++ l) (append-nil (rows_in a))
