-- The lines that tell why something is allowed or denied (docs/POLICY.md, "Explaining a verdict").
use Rattle.std.specs.Prelude.{◌++◌, ◌==◌, ℕ, List, [], codes, decimal, if◌then◌else◌, Option, Some, None}
use Rattle.std.specs.List.{flat_map}
use Rattle.permissions.specs.declared.verdict.By.TheVariants.{All, Index, Grant}
use Rattle.permissions.specs.declared.verdict.Verdict.{Verdict}
use Rattle.permissions.specs.declared.verdict.Verdict.TheVariants.{Allowed, DeniedBy, NoAllow, NoQueueAllow}
use Rattle.explain.specs.Path.{left_by}
use Rattle.explain.specs.declared.explanation.Explanation.{Explanation}
use Rattle.explain.specs.declared.explanation.Uncovered.{Uncovered}
use Rattle.explain.specs.declared.path.PathShare.{PathShare}
use Rattle.explain.specs.declared.path.SentAs.{SentAs}
use Rattle.explain.specs.declared.path.SentAs.TheVariants as sent
use Rattle.explain.specs.declared.view.View.{View}
use Rattle.explain.specs.declared.view.View.TheVariants.{At, TooLong}
use Rattle.explain.specs.declared.view.ViewKind.{ViewKind}
use Rattle.explain.specs.declared.view.ViewKind.TheVariants.{Own, Stream, Service}

-- what a verdict says; an entry is named by its index
abbrev pub verdict_words : Verdict → List ℕ
verdict_words (Allowed All) = codes "allowed all"
verdict_words (Allowed (Index i)) = codes "allowed " ++ decimal i
verdict_words (Allowed Grant) = codes "allowed by a reply grant"
verdict_words (DeniedBy i) = codes "denied " ++ decimal i
verdict_words NoAllow = codes "no allow"
verdict_words (NoQueueAllow i) = codes "no queue allow " ++ decimal i

abbrev pub entry_words : Option (List ℕ) → List ℕ
entry_words None = []
entry_words (Some text) = codes " " ++ text

-- the line of an allow entry with a subject that it hasn't
abbrev pub uncovered_line : Uncovered → List ℕ
uncovered_line u = codes "outside " ++ decimal u.index ++ codes " " ++ u.entry ++ codes " " ++ u.subject ++ codes "\n"

-- the verdict with the entry that it names, then the allow entries that don't suffice
abbrev pub explanation_text : Explanation → List ℕ
explanation_text e = verdict_words e.verdict ++ entry_words e.entry ++ codes "\n" ++ flat_map uncovered_line e.outside

-- ---- a path

-- how a view came about; a row is an index of the importer's imports
abbrev pub kind_words : ViewKind → List ℕ
kind_words Own = codes "own"
kind_words (Stream row) = codes "stream " ++ decimal row
kind_words (Service row) = codes "service " ++ decimal row

abbrev pub view_line : View → List ℕ
view_line (At account subject kind) = codes "view " ++ account ++ codes " " ++ subject ++ codes " " ++ kind_words kind ++ codes "\n"
view_line (TooLong importer row) = codes "too long " ++ importer ++ codes " " ++ decimal row ++ codes "\n"

-- how many messages go under which subject; nothing is said of all that go on as they were published
abbrev pub sent_line : ℕ → SentAs → List ℕ
sent_line weight sent.Same = []
sent_line weight (sent.To subject) = codes "mapped " ++ decimal weight ++ codes " " ++ subject ++ codes "\n"
sent_line weight sent.TooLong = codes "mapped too long " ++ decimal weight ++ codes "\n"

abbrev pub share_lines : PathShare → List ℕ
share_lines share = sent_line share.weight share.sent ++ flat_map view_line share.views

-- what the shares leave of a hundred is dropped
abbrev pub dropped_line : ℕ → List ℕ
dropped_line left = if left == 0 then [] else codes "unmapped " ++ decimal left ++ codes "\n"

abbrev pub path_text : List PathShare → List ℕ
path_text shares = flat_map share_lines shares ++ dropped_line (left_by shares)
