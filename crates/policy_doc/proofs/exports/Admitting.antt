-- The test of an export is what it says of subjects.
use Rattle.std.proofs.Common.{◌≡◌, ◌&&◌, ℕ, Bool, true, false, List, refl, sym, ap, ◌∙◌}
use Rattle.std.specs.Bool.{Decides}
use Rattle.subjects.specs.Subject.{Token, IsPattern, covers}
use Rattle.subjects.proofs.Inclusion.{covers-Covers}
use Rattle.policy_doc.specs.exports.Exports.{same_kind, is_open_to, admits, Admits}
use Rattle.policy_doc.specs.declared.exports.document.Kind.{Kind}
use Rattle.policy_doc.specs.declared.exports.document.Kind.TheVariants.{Stream, Service}
use Rattle.policy_doc.specs.declared.exports.document.ExportDoc.{ExportDoc}

kinds : (k l : Kind) → same_kind k l ≡ true → k ≡ l
kinds Stream Stream e = refl
kinds Stream Service e = cc
kinds Service Stream e = cc
kinds Service Service e = refl

same : (k : Kind) → same_kind k k ≡ true
same Stream = refl
same Service = refl

all_three : (a b c : Bool) → (a && b && c) ≡ true → (a ≡ true) × (b ≡ true) × (c ≡ true)
all_three true true true e = (refl, refl, refl)
all_three true true false e = cc
all_three true false c e = cc
all_three false b c e = cc

joined : (a b c : Bool) → a ≡ true → b ≡ true → c ≡ true → (a && b && c) ≡ true
joined a b c e f g = rw (e, f, g) refl

pub admits-Admits : (importer : List ℕ) (kind : Kind) (subject : List Token) (e : ExportDoc) → IsPattern subject → Decides (admits importer kind subject e) (Admits importer kind subject e)
admits-Admits importer kind subject e pattern = (
  λ all. let three = all_three (same_kind e.kind kind) (is_open_to importer e) (covers e.subject subject) all in record {
    is_kind = kinds e.kind kind three.0;
    is_open = three.1;
    has_all = (covers-Covers e.subject subject pattern).0 three.2;
  },
  λ a. joined (same_kind e.kind kind) (is_open_to importer e) (covers e.subject subject)
      (ap (λ k. same_kind e.kind k) (sym a.is_kind) ∙ same e.kind) a.is_open ((covers-Covers e.subject subject pattern).1 a.has_all),
)
