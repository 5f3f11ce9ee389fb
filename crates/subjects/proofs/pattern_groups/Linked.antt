-- The places of hashes, put in from the last to the first, and the walk along a row.
use Rattle.std.proofs.Common.{◌≡◌, ◌∙◌, ◌<◌, ◌≤◌, ℕ, List, length, replicate, ap, arith}
use Rattle.std.proofs.lemmas.List.{get_or-replicate, length-replicate}
use Rattle.subjects.specs.pattern_groups.Links.{at, AreLinksFrom}

-- where no place is put in yet, each row ends behind the list
pub none_linked : (hashes first next : List ℕ) (from : ℕ) → length hashes ≤ from → from ≤ length hashes → 0 < length first → length next ≡ length hashes →
    ((row : ℕ) → row < length first → at first row ≡ length hashes) → AreLinksFrom hashes first next from
none_linked hashes first next from last most some each ends = record {
  some_row = some;
  one_each = each;
  firsts = λ row below. record {
    behind = omega (arith, ends row below, most);
    within = λ less. absurd (omega (arith, ends row below, less));
    none_before = λ j after less inside e. absurd (omega (arith, last, after, inside));
  };
  nexts = λ i after inside. absurd (omega (arith, last, after, inside));
}

pub ends_of : (first : List ℕ) (rows end : ℕ) → first ≡ replicate rows end → (row : ℕ) → row < rows → at first row ≡ end
ends_of first rows end is row below = rw is (get_or-replicate rows row end 0 below)

pub length_of : (first : List ℕ) (rows end : ℕ) → first ≡ replicate rows end → length first ≡ rows
length_of first rows end is = ap length is ∙ length-replicate rows end
