-- How a look through the receipts goes on.
use Rattle.std.proofs.Common.{◌≢◌, ◌∙◌, ◌++◌, ◌+◌, ◌<◌, ℕ, List, length, take, drop, get_or, ap, sym, refl, subst, arith}
use Rattle.std.proofs.lemmas.List.{take_more, drop_more, take-append-drop}
use Rattle.std.proofs.lemmas.List.Elements.{All-nil, All-push}
use Rattle.std.proofs.lemmas.List.Quantifiers.{all_pairs_push}
use Rattle.events.specs.declared.answer.Entry.{Entry}
use Rattle.shared_waits.specs.receipts.Receipts.{Receipt}
use Rattle.shared_hub.specs.Audits.{Stands, HasNone, AreGenuine, IsMismatch}

-- the receipts before any
pub genuine-none : (history : List Entry) (rs : List Receipt) → AreGenuine history (take 0 rs)
genuine-none history rs = record { stand = All-nil (Stands history); once = λ i j d lt within. absurd (omega arith) }

-- one more
pub genuine-more : (history : List Entry) (rs : List Receipt) (i : ℕ) (r : Receipt) → i < length rs → AreGenuine history (take i rs) → Stands history (get_or rs i r) → HasNone (take i rs) (get_or rs i r).entry.number →
    AreGenuine history (take (i + 1) rs)
genuine-more history rs i r within good stands apart =
    let x = get_or rs i r in
    subst (AreGenuine history) (sym (take_more rs i r within)) record {
      stand = All-push (Stands history) (take i rs) x good.stand stands;
      once = all_pairs_push (λ (q s : Receipt). q.entry.number ≢ s.entry.number) (take i rs) x good.once apart;
    }

-- the first that is out of place
pub mismatch-at : (history : List Entry) (rs : List Receipt) (i : ℕ) (r : Receipt) → i < length rs → AreGenuine history (take i rs) → ¬ (Stands history (get_or rs i r) × HasNone (take i rs) (get_or rs i r).entry.number) →
    IsMismatch history rs (get_or rs i r).entry.number
mismatch-at history rs i r within good wrong = record {
  before = take i rs;
  receipt = get_or rs i r;
  after = drop (i + 1) rs;
  list = sym (take-append-drop i rs) ∙ ap (λ (l : List Receipt). take i rs ++ l) (drop_more rs i r within);
  is = refl;
  genuine = good;
  wrong = wrong;
}
